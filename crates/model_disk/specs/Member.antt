-- What a `Member` shows.
use Rattle.std.specs.Prelude.{ℕ, List, Option, Some, None}
use Rattle.model_disk.specs.AbsentDisk as absent
use Rattle.model_disk.specs.Call.{Call}
use Rattle.model_disk.specs.declared.disk.Disk as disk
use Rattle.model_disk.specs.declared.member.Member.{Member}
use Rattle.model_disk.specs.declared.member.Member.TheVariants.{Present, Absent}

module _ {D : Type 0} where
  -- the disk, where it is there
  abbrev pub disk_of : Member D → Option D
  disk_of (Present disk) = Some disk
  disk_of (Absent it) = None

  -- its member `start`
  abbrev pub start_of : disk.Ghosts D → Member D → List ℕ
  start_of g (Present disk) = g.start disk
  start_of g (Absent it) = absent.start_of it

  -- its member `calls`
  abbrev pub calls_of : disk.Ghosts D → Member D → List Call
  calls_of g (Present disk) = g.calls disk
  calls_of g (Absent it) = absent.calls_of it
