-- What a `Commit` shows, whatever its disks are.
use Rattle.std.specs.Prelude.{ℕ, List}
use Rattle.model_disk.specs.declared.disk.Disk as disk
use Rattle.model_disk.specs.Joint.{Disks}
use Rattle.pool_commit.specs.declared.commit.Commit.{Commit}
use Rattle.pool_commit.specs.State.{State, disks_of_state, outs_of_state}

module _ {D : Type 0} {g : disk.Ghosts D} where
  -- what this `Commit` holds
  abbrev pub state_of : Commit D g → State
  state_of commit = record { store = commit.store; kept = commit.kept; planned = commit.planned; stamp = commit.stamp }

  -- its disks, with the record of all calls on them
  abbrev pub disks_in : Commit D g → Disks
  disks_in commit = disks_of_state (state_of commit)

  -- the numbers of the disks that are out
  abbrev pub outs_in : Commit D g → List ℕ
  outs_in commit = outs_of_state (state_of commit)
