-- What the committed half of a pool's core shows.
use Rattle.std.specs.Prelude.{ℕ, suc, ◌≡◌, ◌==◌, Bool, false, List, [], Option, Some, None, is_some, if◌then◌else◌}
use Rattle.model_disk.specs.Joint.{Disks}
use Rattle.block_store.specs.Store.{Store, is_out, outs}
use Rattle.pool_model.specs.Pools.{no_volumes}
use Rattle.volume_rules.specs.Index.{Knows}
use Rattle.pool_commit.specs.declared.kept.Kept.{Kept}
use Rattle.pool_commit.specs.declared.kept.KeptGroup.{KeptGroup}
use Rattle.pool_commit.specs.declared.kept.Planned.{Planned}
use Rattle.pool_commit.specs.declared.stamp.Stamp.{Stamp}

-- What a `Commit` holds: the store of blocks, the groups that are kept, the next group's plan,
-- if there is one, and what all uberblocks of this claim have in common.
pub record State : Type 0 where
  pub store : Store
  pub kept : Kept
  pub planned : Option Planned
  pub stamp : Stamp

-- its disks, with the record of all calls on them
abbrev pub disks_of_state : State → Disks
disks_of_state s = s.store.disks

-- the numbers of the disks that are out
abbrev pub outs_of_state : State → List ℕ
outs_of_state s = outs s.store

-- no disk is out
abbrev pub NoneIsOut : State → Type 0
NoneIsOut s = (disk : ℕ) → is_out s.store.out disk ≡ false

-- whether the group that is synced has a plan
abbrev pub has_plan : State → Bool
has_plan s = is_some s.planned

-- no group has a plan
abbrev pub HasNoPlan : State → Type 0
HasNoPlan s = s.planned ≡ None

-- a group, of the last three up to the committed one
abbrev pub group_at : Kept → ℕ → Option KeptGroup
group_at kept group =
    if group == kept.committed then Some kept.last
    else (if suc group == kept.committed then kept.before else (if suc (suc group) == kept.committed then kept.earliest else None))

-- group 3 is committed, with no volumes, no root, no rows and no spans, and none before it
pub record IsFirst (kept : Kept) : Type 0 where
  pub committed : kept.committed ≡ 3
  pub root : kept.last.root ≡ None
  pub directory : kept.last.directory.value ≡ []
  pub table : kept.last.spans_under.value ≡ []
  pub names : Knows kept.last.names.value no_volumes
  pub before : kept.before ≡ None
  pub earliest : kept.earliest ≡ None
