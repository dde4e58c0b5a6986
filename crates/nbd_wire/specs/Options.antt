-- NBD protocol, "Option types": what a client asks for in the handshake.
use Rattle.std.specs.Prelude.{◌≡◌, ℕ, ◌*◌, ◌<◌, ◌^◌, List, ◌++◌, length, Option, Some, None, nat_eq, if◌then◌else◌}
use Rattle.std.specs.Int.{w16, w32, w64, to_be_bytes}
use Rattle.nbd_wire.specs.declared.options.OptionHead.{OptionHead}
use Rattle.nbd_wire.specs.declared.options.OptionKind.{OptionKind}
use Rattle.nbd_wire.specs.declared.options.OptionKind.TheVariants.{Abort, ExportName, Go, Info, List as ListExports}

-- "IHAVEOPT", the option's number and the length of its data
abbrev pub option_head_bytes : OptionHead → List ℕ
option_head_bytes head = to_be_bytes w64 0x4948_4156_454f_5054 ++ (to_be_bytes w32 head.option ++ to_be_bytes w32 head.len)

-- these bytes are the head of this option, each number of it in 32 bits
pub record SpellsOptionHead (bytes : List ℕ) (head : OptionHead) : Type 0 where
  pub option : head.option < 2 ^ 32
  pub len : head.len < 2 ^ 32
  pub bytes_are : bytes ≡ option_head_bytes head

-- the options by their numbers
abbrev pub option_kind_of : ℕ → Option OptionKind
option_kind_of option =
    if nat_eq option 1 then Some ExportName else if nat_eq option 2 then Some Abort else if nat_eq option 3 then Some ListExports
    else if nat_eq option 6 then Some Info else if nat_eq option 7 then Some Go else None

-- a name behind its length, and a count behind which stand as many numbers of 16 bits
abbrev pub info_request_bytes : List ℕ → ℕ → List ℕ → List ℕ
info_request_bytes name count kinds = to_be_bytes w32 (length name) ++ (name ++ (to_be_bytes w16 count ++ kinds))

-- the data of INFO or GO ask for the export of that name
pub record SpellsInfoRequest (bytes name : List ℕ) : Type 0 where
  pub count : ℕ
  pub kinds : List ℕ
  pub name_len : length name < 2 ^ 32
  pub count_fits : count < 2 ^ 16
  pub as_many : length kinds ≡ 2 * count
  pub bytes_are : bytes ≡ info_request_bytes name count kinds
