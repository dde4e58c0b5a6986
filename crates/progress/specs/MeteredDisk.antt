-- What a `MeteredDisk` shows: its disk.
use Rattle.std.specs.Prelude.{ℕ, List}
use Rattle.model_disk.specs.Call.{Call}
use Rattle.model_disk.specs.declared.disk.Disk as disk
use Rattle.progress.specs.declared.disk.MeteredDisk.{MeteredDisk}

module _ {D E : Type 0} where
  -- the disk whose reads are counted
  abbrev pub disk_of : MeteredDisk D E → D
  disk_of it = it.inner

  -- its member `start`: what that disk held at first
  abbrev pub start_of : disk.Ghosts D → MeteredDisk D E → List ℕ
  start_of g it = g.start it.inner

  -- its member `calls`: the calls on that disk
  abbrev pub calls_of : disk.Ghosts D → MeteredDisk D E → List Call
  calls_of g it = g.calls it.inner
