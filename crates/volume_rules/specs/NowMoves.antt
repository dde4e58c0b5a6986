-- How the machine's steps move NOW, and the groups that made its volumes.
use Rattle.std.specs.Prelude.{◌≡◌, ℕ, ◌≤◌, List, Bool, true, false, Some}
use Rattle.pool_model.specs.Names.{is_name_for}
use Rattle.pool_model.specs.declared.step.Step.{Step}
use Rattle.pool_model.specs.declared.step.Step.TheVariants.{Write as WriteStep, Act}
use Rattle.pool_model.specs.declared.step.Reply.{Reply}
use Rattle.pool_model.specs.declared.step.Reply.TheVariants.{Receipt}
use Rattle.pool_model.specs.declared.volume.PlainVolume.{PlainVolume}
use Rattle.pool_model.specs.Pools.{PlainPool, Ledger, volume_at, changed}
use Rattle.pool_model.specs.View.{View, open_group, now_of}
use Rattle.volume_rules.specs.GoodChanges.{MakesGoodVolumes}
use Rattle.volume_rules.specs.Shapes.{HaveSameShapes}

-- an action that is accepted takes effect in NOW; a write that is accepted leaves every shape; else NOW stays
abbrev pub MovesNow : View → Step → Reply → View → Type 0
MovesNow v (Act a) (Receipt group) w = (group ≡ open_group v) × (now_of w ≡ changed group (now_of v) a.change)
MovesNow v (WriteStep x) (Receipt group) w = HaveSameShapes (now_of w) (now_of v)
MovesNow v step reply w = now_of w ≡ now_of v

-- an action was accepted
abbrev pub is_action_taken : Step → Reply → Bool
is_action_taken (Act a) (Receipt group) = true
is_action_taken step reply = false

-- each volume of the pool was made by this group or an earlier one
abbrev pub IsOlder : ℕ → PlainPool → Type 0
IsOlder group pool = (name : List ℕ) (volume : PlainVolume) → volume_at name pool ≡ Some volume → volume.group ≤ group

-- each volume of the pool has a name that one of its kind may have
abbrev pub HasGoodNames : PlainPool → Type 0
HasGoodNames pool = (name : List ℕ) (volume : PlainVolume) → volume_at name pool ≡ Some volume
    → is_name_for volume.kind name ≡ true

-- a pool as groups up to this one make it
pub record IsMadeBy (group : ℕ) (pool : PlainPool) : Type 0 where
  pub older : IsOlder group pool
  pub named : HasGoodNames pool

-- each change that a group has accepted is a good one
abbrev pub AreGood : Ledger → Type 0
AreGood ledger = (group : ℕ) → MakesGoodVolumes (ledger group)

-- the volumes that are committed were made by committed groups
abbrev pub GroupsAreBelow : View → Type 0
GroupsAreBelow v = IsMadeBy v.committed (v.pools v.committed)
