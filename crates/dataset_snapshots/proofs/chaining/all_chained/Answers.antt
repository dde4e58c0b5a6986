use Rattle.std.proofs.Common.{◌≡◌, ℕ, get_or, ⊎_elim, subst, sym, arith, ◌∙◌}
use Rattle.std.proofs.lemmas.Bool.{cases_lt}
use Rattle.std.proofs.lemmas.List.{get_or_default}
use Rattle.dataset_snapshots.specs.declared.chaining.RowRecord.{RowRecord}
use Rattle.dataset_snapshots.specs.Chaining.{IsChained}
use Rattle.dataset_snapshots.proofs.chaining.all_chained.Goals as goal

pub returns-then-not-is_chained : goal.returns-then-not-is_chained
returns-then-not-is_chained c = (
  λ yes. absurd (cc),
  λ chained. sym c.if-not-is_chained.true ∙ (c.is_chained.ensures c.args.records.now c.requires.indexed c.requires.counted).1 (chained.each c.loop-one.one-index _ c.loop-one-test.true),
)

pub loop-one-preserved : goal.loop-one-preserved
loop-one-preserved c = λ k d below.
    let records = c.args.records.now in
    let here = (c.is_chained.ensures records c.requires.indexed c.requires.counted).0 c.if-not-is_chained.false in
    ⊎_elim (λ before. c.loop-one.invariant k d before)
    (λ last.
    let e : c.loop-one.one-index ≡ k = omega (arith, below, last) in
    subst (λ (n : ℕ). IsChained records (get_or records n d)) e (subst (λ (r : RowRecord). IsChained records r) (get_or_default records c.loop-one.one-index _ d c.loop-one-test.true) here))
    (cases_lt k c.loop-one.one-index)
