-- What a `Core` shows, whatever its disks are.
use Rattle.model_disk.specs.declared.disk.Disk as disk
use Rattle.pool_commit.specs.StateOf.{state_of as commit_state}
use Rattle.pool_core.specs.declared.pool.Core.{Core}
use Rattle.model_disk.specs.Joint.{Disks}
use Rattle.pool_core.specs.State.{CoreState, disks_of}

module _ {D : Type 0} {g : disk.Ghosts D} where
  -- what this `Core` holds
  abbrev pub state_of : Core D g → CoreState
  state_of core = record { intake = core.intake; commit = commit_state core.commit }

  -- its disks, with the record of all calls on them
  abbrev pub disks_in : Core D g → Disks
  disks_in core = disks_of (state_of core)
