-- NBD protocol, "Newstyle negotiation": what comes before the options.
use Rattle.std.specs.Prelude.{ℕ, List, ◌++◌, if◌then◌else◌}
use Rattle.std.specs.Int.{w16, w32, w64, to_be_bytes}
use Rattle.nbd_wire.specs.declared.handshake.ClientFlags.{ClientFlags}

-- "NBDMAGIC", "IHAVEOPT", and the flags FIXED_NEWSTYLE and NO_ZEROES
abbrev pub greeting_bytes : List ℕ
greeting_bytes = to_be_bytes w64 0x4e42_444d_4147_4943 ++ (to_be_bytes w64 0x4948_4156_454f_5054 ++ to_be_bytes w16 3)

-- FIXED_NEWSTYLE, with NO_ZEROES or without
abbrev pub client_flags_bytes : ClientFlags → List ℕ
client_flags_bytes flags = to_be_bytes w32 (if flags.no_zeroes then 3 else 1)
