use Rattle.std.proofs.Common.{ℕ, ◌+◌, Option, sym, subst, arith}
use Rattle.pool_slots.specs.Shown.{At, has_config}
use Rattle.pool_slots.specs.declared.labeled.Shown.{Shown}
use Rattle.pool_slots.proofs.Choices.{SourceOf, source_next, source_left, source_is, no_source, not_shown, whatever}
use Rattle.pool_slots.proofs.label_choice.source_of.Goals.{in-Some+then-is_better, in-Some+else-is_better, in_default}
use Rattle.pool_slots.proofs.label_choice.source_of.Goals as goal

pub loop-number-preserved : goal.loop-number-preserved
loop-number-preserved c =
    let n = c.loop-number.number in
    let shown = c.args.shown.now in
    let digest = c.args.digest.now in
    let P : Option (ℕ × ℕ) → Type 0 = SourceOf (n + 1) shown digest in
    elim c.match-shown-number.branch [
      | in-Some+then-is_better w ↦
          subst P (sym w.best-is) ((source_next n shown digest c.loop-number.best w.in-Some.it w.is_better.result c.loop-number.invariant w.in-Some.is w.is_better.ensures).0 w.if-is_better.true)
      | in-Some+else-is_better w ↦
          subst P (sym w.best-is) ((source_next n shown digest c.loop-number.best w.in-Some.it w.is_better.result c.loop-number.invariant w.in-Some.is w.is_better.ensures).1 w.if-is_better.false)
      | in_default w ↦
          subst P (sym w.best-is) (source_left n shown digest c.loop-number.best c.loop-number.invariant (λ s here better. not_shown shown n w.in_default.is s here))
    ]

pub returns-in_err-number-clause-none : goal.returns-in_err-number-clause-none
returns-in_err-number-clause-none c =
    let shown = c.args.shown.now in
    let digest = c.args.digest.now in
    whatever c.from_residual.result ((k : ℕ) (s : Shown) → At shown k s → ¬ has_config digest s)
    (no_source c.loop-number.number shown digest (omega (arith, c.loop-number-test.false)) (subst (SourceOf c.loop-number.number shown digest) c.in_err-number.was c.loop-number.invariant))

pub returns-clause-some : goal.returns-clause-some
returns-clause-some c =
    let shown = c.args.shown.now in
    let digest = c.args.digest.now in
    source_is c.loop-number.number shown digest c.in_ok-number.number c.in_ok-number.field-0-1 (omega (arith, c.loop-number-test.false))
    (subst (SourceOf c.loop-number.number shown digest) c.in_ok-number.was c.loop-number.invariant)
