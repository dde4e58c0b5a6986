-- What an `AbsentDisk` shows.
use Rattle.std.specs.Prelude.{ℕ, List, replicate}
use Rattle.model_disk.specs.Call.{Call}
use Rattle.model_disk.specs.Joint.{calls_in}
use Rattle.model_disk.specs.declared.absent.AbsentDisk.{AbsentDisk}

-- its member `start`
abbrev pub start_of : AbsentDisk → List ℕ
start_of it = replicate it.size 0

-- its member `calls`
abbrev pub calls_of : AbsentDisk → List Call
calls_of it = calls_in it.log.calls
