use Rattle.std.proofs.Common.{List, ℕ, ◌++◌, ◌≡◌, ◌∙◌, ap, append_assoc, length}
use Rattle.nbd_wire.specs.Replies.{option_reply_bytes}
use Rattle.nbd_serve.proofs.options.put.Goals as goal

pub returns : goal.returns
returns c =
    let old = c.args.answer.now.items in
    let mid = c.extend_from_slice.new.self.items in
    let content = c.args.data.now in
    let head = option_reply_bytes c.args.option c.args.reply (length content) in
    let first : mid ≡ old ++ head = c.in_ok-extend_from_slice.ensures.items ∙ ap (λ (x : List ℕ). old ++ x) c.encode_option_reply.ensures in
    c.in_ok-extend_from_slice-2.ensures.items ∙ (ap (λ (x : List ℕ). x ++ content) first ∙ append_assoc old head content)
