use Rattle.std.proofs.Common.{◌≡◌, ◌-◌, length, take, drop, ap, ◌∙◌}
use Rattle.words.specs.Seal.{seal_word}
use Rattle.words.proofs.SealLemmas.{digest_behind, seal_parts}
use Rattle.words.proofs.sealing.check_seal.Goals as goal

pub returns-then-not-is_seal_word-clause-only : goal.returns-then-not-is_seal_word-clause-only
returns-then-not-is_seal_word-clause-only c = λ front e.
    let parts = seal_parts c.args.area.now front e in
    let same : c.split_at-2.result.0.now ≡ seal_word = c.split_at-2.ensures.front ∙ ap (take 8) c.split_at.ensures.back ∙ parts.word_is in
    let test = c.is_seal_word.ensures.1 same in
    absurd cc

pub returns-then-not-is_digest_behind-clause-only : goal.returns-then-not-is_digest_behind-clause-only
returns-then-not-is_digest_behind-clause-only c = λ front e.
    let parts = seal_parts c.args.area.now front e in
    let same : c.split_at-2.result.1.now ≡ digest_behind (take (length c.args.area.now - 32) c.args.area.now) =
    c.split_at-2.ensures.back ∙ ap (drop 8) c.split_at.ensures.back ∙ parts.digest_is ∙ ap digest_behind (cc parts.digested_is) in
    let test = c.is_digest_behind.ensures.1 same in
    absurd cc

pub returns-clause-only : goal.returns-clause-only
returns-clause-only c = λ front e.
    let parts = seal_parts c.args.area.now front e in
    c.split_at.ensures.front ∙ parts.front_is
