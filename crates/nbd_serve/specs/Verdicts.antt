-- Which requests the pool is asked for, and which errors its refusals become.
use Rattle.std.specs.Prelude.{◌&&◌, ◌+◌, ◌%◌, ◌^◌, Bool, not, Option, Some, None, nat_eq, nat_le, if◌then◌else◌}
use Rattle.nbd_wire.specs.Requests.{command_of}
use Rattle.nbd_wire.specs.declared.errors.ErrorCode.{ErrorCode}
use Rattle.nbd_wire.specs.declared.errors.ErrorCode.TheVariants.{Invalid, Io, NoMemory, NoSpace, NotPermitted}
use Rattle.nbd_wire.specs.declared.requests.Command.{Command}
use Rattle.nbd_wire.specs.declared.requests.Command.TheVariants.{Disconnect, Flush, Read, Write}
use Rattle.nbd_wire.specs.declared.requests.RequestHead.{RequestHead}
use Rattle.pool_model.specs.declared.refusal.Refusal.{Refusal}
use Rattle.pool_model.specs.declared.refusal.Refusal.TheVariants as cause
use Rattle.nbd_serve.specs.declared.export.Export.{Export}

-- NBD_CMD_FLAG_FUA
abbrev pub is_forced : RequestHead → Bool
is_forced head = nat_eq head.flags 1

-- the range is made of blocks of 512 bytes, of one at least
abbrev pub is_in_blocks : RequestHead → Bool
is_in_blocks head = nat_eq (head.offset % 512) 0 && nat_eq (head.len % 512) 0 && not (nat_eq head.len 0)

-- the range ends where the export ends, or before
abbrev pub is_within : Export → RequestHead → Bool
is_within export head = nat_le (head.offset + head.len) export.size

-- a read of 32 MiB at most
abbrev pub judged_read : Export → RequestHead → Option ErrorCode
judged_read export head = if is_in_blocks head && nat_le head.len (2 ^ 25) && is_within export head then None else Some Invalid

-- a write: not permitted to a read-only export, invalid unless of whole blocks, no space past the end
abbrev pub judged_write : Export → RequestHead → Option ErrorCode
judged_write export head = if export.read_only then Some NotPermitted else if not (is_in_blocks head) then Some Invalid else if is_within export head then None else Some NoSpace

-- a flush: invalid unless its offset and its length are 0
abbrev pub judged_flush : RequestHead → Option ErrorCode
judged_flush head = if nat_eq head.offset 0 && nat_eq head.len 0 then None else Some Invalid

-- a request by its command: an unknown one is invalid, and so is a DISC, which is never answered
abbrev pub judged_as : Export → RequestHead → Option Command → Option ErrorCode
judged_as export head (Some Read) = judged_read export head
judged_as export head (Some Write) = judged_write export head
judged_as export head (Some Flush) = judged_flush head
judged_as export head (Some Disconnect) = Some Invalid
judged_as export head None = Some Invalid

-- the error that a request has before the pool is asked
abbrev pub judged : Export → RequestHead → Option ErrorCode
judged export head = if nat_le head.flags 1 then judged_as export head (command_of head.kind) else Some Invalid

-- what the pool's refusal of a read or a flush becomes
abbrev pub error_of : Refusal → ErrorCode
error_of cause.NoMemory = NoMemory
error_of cause.NoSpace = NoSpace
error_of cause.Misaligned = Invalid
error_of cause.OutOfRange = Invalid
error_of other = Io

-- and that of a write
abbrev pub error_of_write : Refusal → ErrorCode
error_of_write cause.OutOfRange = NoSpace
error_of_write other = error_of other
