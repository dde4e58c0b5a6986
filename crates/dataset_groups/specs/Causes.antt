-- Why a group's datasets are not made, where it is no block and no place for one.
use Rattle.std.specs.Prelude.{ℕ, ◌⊎◌, ◌+◌, ◌*◌, ◌<◌, List, Any, length}
use Rattle.pool_model.specs.declared.item.Action.{Action}
use Rattle.pool_model.specs.declared.item.Change.{Change}
use Rattle.pool_model.specs.declared.item.Change.TheVariants.{Clone, Create, Destroy, Snapshot}

-- the change makes a clone
abbrev pub IsCloning : Change → Type 0
IsCloning (Create name size block_size) = ⊥
IsCloning (Snapshot volume part) = ⊥
IsCloning (Clone snapshot name) = Unit {0}
IsCloning (Destroy name) = ⊥

-- From the first number on and below the end there are fewer than two for each of these actions, and so many more; or one of them makes
-- a clone, of a snapshot that has as many as can be counted.
abbrev pub LacksNumbers : ℕ → ℕ → List Action → ℕ → Type 0
LacksNumbers first end actions more =
    (end < first + 2 * length actions + more) ⊎ Any (λ action. IsCloning action.change) actions
