-- The names that have the bytes of a name, group by group.
use Rattle.std.specs.Prelude.{ℕ, zero, suc, List, [], ◌∷◌, Option, Some, None, nat_le, if◌then◌else◌}
use Rattle.pool_model.specs.declared.item.Action.{Action}
use Rattle.pool_model.specs.declared.item.Change.{Change}
use Rattle.pool_model.specs.declared.item.Change.TheVariants.{Clone, Create, Destroy, Snapshot}
use Rattle.pool_model.specs.Names.{same, snapshot_name}
use Rattle.pool_model.specs.Pools.{Ledger, PlainPool, upto, volume_at}
use Rattle.pool_model.specs.declared.volume.PlainVolume.{PlainVolume}
use Rattle.pool_model.specs.View.{View, open_group}

-- where the bytes stand before a change that stand at a name behind it: nowhere where it makes a volume of zeros there
abbrev pub source_by : Change → List ℕ → Option (List ℕ)
source_by (Create called size block_size) name = if same called name then None else Some name
source_by (Snapshot volume part) name = if same (snapshot_name volume part) name then Some volume else Some name
source_by (Clone snapshot called) name = if same called name then Some snapshot else Some name
source_by (Destroy gone) name = Some name

-- the same of a name that may be none: bytes that stand nowhere stay so
abbrev pub source_in : Change → Option (List ℕ) → Option (List ℕ)
source_in change None = None
source_in change (Some name) = source_by change name

-- and before these actions
abbrev pub source_before : List Action → Option (List ℕ) → Option (List ℕ)
source_before [] name = name
source_before (action ∷ actions) name = source_in action.change (source_before actions name)

-- and before the groups behind a base one, up to this one
abbrev pub source_from : ℕ → Ledger → ℕ → Option (List ℕ) → Option (List ℕ)
source_from base ledger zero name = name
source_from base ledger (suc n) name =
    if nat_le (suc n) base then name else source_from base ledger n (source_before (ledger (suc n)).actions name)

-- where in the committed pool the bytes stand that a name of NOW has but for pending writes
abbrev pub base_name : View → List ℕ → Option (List ℕ)
base_name v name = source_from v.committed v.ledger (open_group v) (Some name)

-- what a pool has there
abbrev pub found_at : Option (List ℕ) → PlainPool → Option PlainVolume
found_at None pool = None
found_at (Some name) pool = volume_at name pool

-- and for a name behind all groups up to this one
abbrev pub source_upto : View → ℕ → Option (List ℕ) → Option (List ℕ)
source_upto v n name = source_from v.committed v.ledger n name

-- where the bytes stood behind an earlier group that stand there behind a later one
abbrev pub source_between : View → ℕ → ℕ → Option (List ℕ) → Option (List ℕ)
source_between v earlier later name = source_from earlier v.ledger later name

-- the pool behind all groups up to this one
abbrev pub pool_upto : View → ℕ → PlainPool
pool_upto v n = upto v.committed (v.pools v.committed) v.ledger n
