-- Disks that are taken out of use.
use Rattle.std.specs.Prelude.{ℕ, ◌≡◌, ◌⊎◌, ◌<◌, [], length, Some}
use Rattle.block_store.specs.Places.{shapes_of}
use Rattle.block_store.specs.Store.{Store, IsOutToo}
use Rattle.disk_set.specs.declared.behind.Behind.{Behind}
use Rattle.pool_commit.specs.declared.kept.Planned.{Planned}
use Rattle.pool_commit.specs.Progress.{LeftOut, DropsPlan}
use Rattle.pool_commit.specs.State.{State}

-- something before the slots is left of the plan
abbrev pub IsEarly : Store → Planned → Type 0
IsEarly store plan = (0 < length store.due) ⊎ (0 < length plan.behind.flushes.items)

-- a plan of which something before the slots is left is dropped; of another one the calls on the disk are left out
abbrev pub LeavesPlan : ℕ → State → Planned → State → Type 0
LeavesPlan disk old plan new =
    (IsEarly old.store plan × DropsPlan old.store new.store × (new.kept ≡ old.kept) × (new.planned ≡ old.planned) × (new.stamp ≡ old.stamp))
    ⊎ ((old.store.due ≡ []) × (plan.behind.flushes.items ≡ []) × (behind : Behind) × LeftOut disk plan.behind behind
    × (new ≡ record old { planned = Some (record plan { behind = behind }) }))

-- The disk is out too, and no call was made. What is left of a plan is what it had, but for the calls on the disk.
pub record TakesOut (disk : ℕ) (old new : State) : Type 0 where
  pub disks : new.store.disks ≡ old.store.disks
  pub out : IsOutToo old.store.out disk new.store.out
  pub stale : new.store.spans.stale ≡ old.store.spans.stale
  pub shapes : shapes_of new.store.spaces ≡ shapes_of old.store.spaces
  pub kept : new.kept ≡ old.kept
  pub stamp : new.stamp ≡ old.stamp
  pub plan : (later : Planned) → new.planned ≡ Some later → (plan : Planned) × (old.planned ≡ Some plan) × (later.uberblock ≡ plan.uberblock)
      × (later.after ≡ plan.after) × LeftOut disk plan.behind later.behind
