-- NBD protocol, "Option reply types": what a server answers in the handshake.
use Rattle.std.specs.Prelude.{ℕ, Bool, List, ◌++◌, if◌then◌else◌}
use Rattle.std.specs.Int.{w16, w32, w64, to_be_bytes}
use Rattle.nbd_wire.specs.declared.replies.OptionReply.{OptionReply}
use Rattle.nbd_wire.specs.declared.replies.OptionReply.TheVariants.{Ack, Info, Invalid, Policy, Server, TooBig, Unknown, Unsupported}

-- an error has the highest of 32 bits
abbrev pub number_of_reply : OptionReply → ℕ
number_of_reply Ack = 1
number_of_reply Server = 2
number_of_reply Info = 3
number_of_reply Unsupported = 0x8000_0001
number_of_reply Policy = 0x8000_0002
number_of_reply Invalid = 0x8000_0003
number_of_reply Unknown = 0x8000_0006
number_of_reply TooBig = 0x8000_0009

-- magic number, option, type, and length of the data
abbrev pub option_reply_bytes : ℕ → OptionReply → ℕ → List ℕ
option_reply_bytes option reply len = to_be_bytes w64 0x0003_e889_0455_65a9 ++ (to_be_bytes w32 option ++ (to_be_bytes w32 (number_of_reply reply) ++ to_be_bytes w32 len))

-- HAS_FLAGS 1, SEND_FLUSH 4 and SEND_FUA 8, with READ_ONLY 2 or without
abbrev pub transmission_flags : Bool → ℕ
transmission_flags read_only = if read_only then 15 else 13

-- the size of an export in bytes, and its transmission flags
abbrev pub export_bytes : ℕ → Bool → List ℕ
export_bytes size read_only = to_be_bytes w64 size ++ to_be_bytes w16 (transmission_flags read_only)

-- NBD_INFO_EXPORT
abbrev pub export_info_bytes : ℕ → Bool → List ℕ
export_info_bytes size read_only = to_be_bytes w16 0 ++ export_bytes size read_only

-- NBD_INFO_BLOCK_SIZE: at least 512 bytes, best 4,096, at most 32 MiB
abbrev pub block_size_info_bytes : List ℕ
block_size_info_bytes = to_be_bytes w16 3 ++ (to_be_bytes w32 512 ++ (to_be_bytes w32 4096 ++ to_be_bytes w32 33_554_432))
