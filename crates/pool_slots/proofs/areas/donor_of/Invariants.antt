use Rattle.std.proofs.Common.{◌≡◌, ◌<◌, ℕ, get_or, Some, None}
use Rattle.pool_slots.specs.declared.labeled.Labeled.{Labeled}
use Rattle.pool_slots.proofs.areas.donor_of.Given as goal

abbrev pub invariant-loop-which : goal.invariant-loop-which
invariant-loop-which l = (k : ℕ) (it : Labeled) → k < l.which → get_or l.labels k None ≡ Some it → ¬ (it.config_digest ≡ l.digest)
