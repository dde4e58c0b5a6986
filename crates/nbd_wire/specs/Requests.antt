-- NBD protocol, "Transmission phase": requests and their replies.
use Rattle.std.specs.Prelude.{◌≡◌, ℕ, ◌<◌, ◌^◌, List, ◌++◌, Option, Some, None, nat_eq, if◌then◌else◌}
use Rattle.std.specs.Int.{w16, w32, w64, to_be_bytes}
use Rattle.nbd_wire.specs.declared.errors.ErrorCode.{ErrorCode}
use Rattle.nbd_wire.specs.declared.errors.ErrorCode.TheVariants as error
use Rattle.nbd_wire.specs.declared.requests.Command.{Command}
use Rattle.nbd_wire.specs.declared.requests.Command.TheVariants.{Disconnect, Flush, Read, Write}
use Rattle.nbd_wire.specs.declared.requests.RequestHead.{RequestHead}

-- magic number, command flags, command, cookie, offset and length
abbrev pub request_bytes : RequestHead → List ℕ
request_bytes head =
    to_be_bytes w32 0x2560_9513 ++ (to_be_bytes w16 head.flags ++ (to_be_bytes w16 head.kind
    ++ (to_be_bytes w64 head.cookie ++ (to_be_bytes w64 head.offset ++ to_be_bytes w32 head.len))))

-- these bytes are the head of this request, each number of it in its width
pub record SpellsRequest (bytes : List ℕ) (head : RequestHead) : Type 0 where
  pub flags : head.flags < 2 ^ 16
  pub kind : head.kind < 2 ^ 16
  pub cookie : head.cookie < 2 ^ 64
  pub offset : head.offset < 2 ^ 64
  pub len : head.len < 2 ^ 32
  pub bytes_are : bytes ≡ request_bytes head

-- the commands by their numbers
abbrev pub command_of : ℕ → Option Command
command_of kind =
    if nat_eq kind 0 then Some Read else if nat_eq kind 1 then Some Write else if nat_eq kind 2 then Some Disconnect
    else if nat_eq kind 3 then Some Flush else None

-- NBD protocol, "Error values"
abbrev pub number_of_error : ErrorCode → ℕ
number_of_error error.NotPermitted = 1
number_of_error error.Io = 5
number_of_error error.NoMemory = 12
number_of_error error.Invalid = 22
number_of_error error.NoSpace = 28
number_of_error error.NotSupported = 95
number_of_error error.Shutdown = 108

-- the number of an error, or 0 where there is none
abbrev pub error_number : Option ErrorCode → ℕ
error_number None = 0
error_number (Some code) = number_of_error code

-- magic number, error or 0, and cookie
abbrev pub simple_reply_bytes : Option ErrorCode → ℕ → List ℕ
simple_reply_bytes failed cookie = to_be_bytes w32 0x6744_6698 ++ (to_be_bytes w32 (error_number failed) ++ to_be_bytes w64 cookie)
