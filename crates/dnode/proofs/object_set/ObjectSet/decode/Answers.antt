use Rattle.std.proofs.Common.{◌≡◌, length, drop, sym, ◌∙◌, arith}
use Rattle.std.proofs.lemmas.Result.{IfOk-weaker}
use Rattle.dnode.specs.ObjectSet.{SpellsObjectSet, IsSetRead, set_words}
use Rattle.dnode.proofs.Nodes.{no_bytes, own_zeros, their_zeros, parts_of, IsSetReadFrom, set_made, AreWords-set}
use Rattle.dnode.proofs.object_set.ObjectSet.decode.Goals as goal

pub returns-then-not-is_zero-clause-only : goal.returns-then-not-is_zero-clause-only
returns-then-not-is_zero-clause-only c = λ s spells.
    let cut = parts_of c.args.bytes.now s c.told-bytes spells.1 in
    let rest = c.split_at.result.1.now in
    let len : length rest ≡ 496 = omega (arith, c.split_at.ensures.back_len, c.told-bytes) in
    let test = c.is_zero.ensures.zeros.1 (own_zeros 496 rest len (c.split_at.ensures.back ∙ cut.zeros_are)) in
    absurd cc

pub returns-in_err-dnodes-clause-only : goal.returns-in_err-dnodes-clause-only
returns-in_err-dnodes-clause-only c = λ s spells.
    let cut = parts_of c.args.bytes.now s c.told-bytes spells.1 in
    let read = c.in_err-dnodes.ensures.only s.dnodes (spells.0.0, c.bytes_at.ensures ∙ cut.node_is) in
    absurd cc

pub returns-clause-found : goal.returns-clause-found
returns-clause-found c =
    let bytes = c.args.bytes.now in
    let rest = c.split_at.result.1.now in
    let len : length rest ≡ 496 = omega (arith, c.split_at.ensures.back_len, c.told-bytes) in
    let zeros : drop 528 bytes ≡ no_bytes 496 = sym c.split_at.ensures.back ∙ their_zeros 496 rest len (c.is_zero.ensures.zeros.0 c.if-not-is_zero.false) in
    let node = c.bytes_at.result in
    let words = c.words_at.result in
    let dnodes = c.in_ok-dnodes.dnodes in
    let from : IsSetReadFrom bytes node words = record { node_at = c.bytes_at.ensures; words_at = c.words_at.ensures.found; zeros = zeros } in
    IfOk-weaker c.from_fields.result (IsSetRead dnodes words) (SpellsObjectSet bytes) (λ s is. set_made bytes node words dnodes s from c.in_ok-dnodes.ensures.found is) c.from_fields.ensures.found

pub returns-clause-only : goal.returns-clause-only
returns-clause-only c = λ s spells.
    let cut = parts_of c.args.bytes.now s c.told-bytes spells.1 in
    let read = c.in_ok-dnodes.ensures.only s.dnodes (spells.0.0, c.bytes_at.ensures ∙ cut.node_is) in
    let dnodes : c.in_ok-dnodes.dnodes ≡ s.dnodes = cc in
    c.from_fields.ensures.only s (record { set = spells.0.1; dnodes_are = dnodes; words_are = c.words_at.ensures.only (set_words s) (AreWords-set s spells.0.0 spells.0.1) cut.words_are })
