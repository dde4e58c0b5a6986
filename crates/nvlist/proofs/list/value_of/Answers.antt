use Rattle.std.proofs.Common.{◌≡◌, ◌+◌, Bool, true, false, cond, Some, drop, sym, ap, ◌∙◌}
use Rattle.std.specs.Prelude.{string_bytes}
use Rattle.std.specs.Str.{bytes_eq}
use Rattle.nvlist.specs.View.{value_view, pairs_view}
use Rattle.nvlist.specs.Find.{find}
use Rattle.nvlist.proofs.Finding.{find_from}
use Rattle.nvlist.proofs.list.value_of.Goals as goal

pub returns-then-eq : goal.returns-then-eq
returns-then-eq c =
    let p = c.pair-item.result in
    let i = c.loop-pair.pair-index in
    let here = find_from c.args.pairs.now i p c.args.name.now c.loop-pair-test.true c.pair-item.is in
    let same : bytes_eq (string_bytes p.name) c.args.name.now ≡ true = rw c.as_str.ensures.value at (sym c.if-eq.ensures) in
    sym (sym c.loop-pair.invariant ∙ here ∙ ap (λ (b : Bool). cond b (Some (value_view p.value)) (find c.args.name.now (pairs_view (drop (i + 1) c.args.pairs.now)))) same)

pub loop-pair-preserved : goal.loop-pair-preserved
loop-pair-preserved c =
    let p = c.pair-item.result in
    let i = c.loop-pair.pair-index in
    let here = find_from c.args.pairs.now i p c.args.name.now c.loop-pair-test.true c.pair-item.is in
    let other : bytes_eq (string_bytes p.name) c.args.name.now ≡ false = rw c.as_str.ensures.value at (sym c.if-eq.ensures) in
    sym (sym c.loop-pair.invariant ∙ here ∙ ap (λ (b : Bool). cond b (Some (value_view p.value)) (find c.args.name.now (pairs_view (drop (i + 1) c.args.pairs.now)))) other)
