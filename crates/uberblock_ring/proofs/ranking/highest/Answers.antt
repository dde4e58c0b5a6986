use Rattle.std.proofs.Common.{ℕ, subst, arith}
use Rattle.uberblock_ring.specs.declared.uberblock.Uberblock.{Uberblock}
use Rattle.uberblock_ring.specs.Ranking.{Has}
use Rattle.uberblock_ring.proofs.Ranks.{HighestOf, highest_of_all, none_of_all, whatever}
use Rattle.uberblock_ring.proofs.ranking.highest.Goals as goal

pub returns-in_err-i-clause-none : goal.returns-in_err-i-clause-none
returns-in_err-i-clause-none c =
    let slots = c.args.slots.now in
    whatever c.from_residual.result ((i : ℕ) (u : Uberblock) → ¬ Has slots i u)
    (none_of_all c.loop-i.i slots (omega (arith, c.loop-i-test.false)) (subst (HighestOf c.loop-i.i slots) c.in_err-i.was c.loop-i.invariant))

pub returns-clause-some : goal.returns-clause-some
returns-clause-some c =
    let slots = c.args.slots.now in
    highest_of_all c.loop-i.i slots c.in_ok-i.i c.in_ok-i.field-0-1 (omega (arith, c.loop-i-test.false)) (subst (HighestOf c.loop-i.i slots) c.in_ok-i.was c.loop-i.invariant)
