use Rattle.std.proofs.Common.{List, ℕ, ◌++◌, ◌≡◌, ◌∙◌, OnOk, ap, subst}
use Rattle.std.specs.Io.KnownBytes.{Appends}
use Rattle.nbd_wire.specs.Requests.{simple_reply_bytes}
use Rattle.nbd_serve.proofs.transmission.reply.Goals as goal

pub returns-clause-sent : goal.returns-clause-sent
returns-clause-sent g c =
    let answer = c.args.answer.now in
    let head : c.encode_simple_reply-bytes.result ≡ simple_reply_bytes answer.error c.args.head.now.cookie = c.encode_simple_reply-bytes.ensures in
    let bytes : c.as_slice.result.now ≡ answer.bytes.items = c.as_slice.ensures.value in
    let whole : c.encode_simple_reply-bytes.result ++ c.as_slice.result.now ≡ simple_reply_bytes answer.error c.args.head.now.cookie ++ answer.bytes.items =
    ap (λ (x : List ℕ). x ++ c.as_slice.result.now) head ∙ ap (λ (x : List ℕ). simple_reply_bytes answer.error c.args.head.now.cookie ++ x) bytes in
    subst (λ (x : List ℕ). OnOk c.send.result (Appends (g.W.Write.contents c.args.output.now) (g.W.Write.contents c.send.new.output) x)) whole c.send.ensures.sent
