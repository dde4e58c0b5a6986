-- Changes that take effect.
use Rattle.std.specs.Prelude.{◌≡◌, ℕ, suc, ◌≤◌, List, [], ◌∷◌, fold, None}
use Rattle.pool_model.specs.declared.item.Action.{Action}
use Rattle.pool_model.specs.Pools.{Entry, PlainPool, changed, upto, written}
use Rattle.pool_model.specs.Refusals.{change_refusal}
use Rattle.pool_model.specs.View.{View}

-- each of these changes is refused by nothing, once those before it were made
abbrev pub TakeEffect : ℕ → PlainPool → List Action → Type 0
TakeEffect group pool [] = Unit {0}
TakeEffect group pool (action ∷ actions) =
    (change_refusal action.change pool ≡ None) × TakeEffect group (changed group pool action.change) actions

-- so it is with those of a group, behind its writes
abbrev pub GroupTakesEffect : ℕ → PlainPool → Entry → Type 0
GroupTakesEffect group pool entry = TakeEffect group (fold written pool entry.writes) entry.actions

-- and with those of each group that isn't committed
abbrev pub PendingTakeEffect : View → Type 0
PendingTakeEffect v = (n : ℕ) → v.committed ≤ n
    → GroupTakesEffect (suc n) (upto v.committed (v.pools v.committed) v.ledger n) (v.ledger (suc n))
