-- Which command the words ask for, or why they ask for none.
use Rattle.std.specs.Prelude.{◌≡◌, ℕ, List, [], ◌∷◌, Option, Some, None, Result, Ok, Err, codes, if◌then◌else◌}
use Rattle.std.specs.Str.{bytes_eq}
use Rattle.clap.specs.Words.{App, Kinds, Row, Text, fault_of, subcommand_of, subcommand_rows_of}
use Rattle.clap.specs.declared.parser.matches.ArgMatches.{ArgMatches}
use Rattle.pool_command.specs.declared.refusal.Refusal.{Refusal}
use Rattle.pool_command.specs.declared.command.Command.{Command}
use Rattle.pool_command.specs.declared.command.Command.TheVariants.{Zpool, Zfs}
use Rattle.pool_command.specs.declared.command.NewPool.{NewPool}
use Rattle.pool_command.specs.declared.command.NewVdev.{NewVdev}
use Rattle.pool_command.specs.declared.command.ZpoolCommand.{ZpoolCommand}
use Rattle.pool_command.specs.declared.command.ZpoolCommand.TheVariants as zpool
use Rattle.pool_command.specs.declared.command.ZfsCommand.{ZfsCommand}
use Rattle.pool_command.specs.declared.command.ZfsCommand.TheVariants as zfs
use Rattle.pool_command.specs.Causes.{Cause, Fails, by_words, missing, no_program}
use Rattle.pool_command.specs.Words.{zpool_app, zfs_app}
use Rattle.pool_command.specs.Values.{flag_in, files_in, given_number, last_files, number_in, or_missing, parities_in, parts_of, place_of, range_of, text_in}

infixl 10 ◌>>=◌
-- what is read next, by what was read before; or the first cause why nothing is
abbrev pub ◌>>=◌ : {A B : Type 0} → Result A Cause → (A → Result B Cause) → Result B Cause
(Ok x) >>= f = f x
(Err cause) >>= f = Err cause

-- ---- the commands, by what a parse found for each option and place

-- what `zpool create` asks for
unfoldable pub new_pool : List Row → Result NewPool Cause
new_pool rows = do
  seed ← number_in (codes "seed") rows
  bytes ← number_in (codes "bytes") rows
  meta ← number_in (codes "meta") rows
  shift ← number_in (codes "ms") rows
  name ← text_in (codes "name") rows
  parities ← parities_in rows
  files ← files_in rows
  Ok (record { seed = seed; bytes = bytes; meta = meta; shift = shift; name = name; parities = parities; files = files })

-- what `zpool add` asks for, its last files as the new ones
unfoldable pub new_vdev : List Row → Result NewVdev Cause
new_vdev rows = do
  seed ← number_in (codes "seed") rows
  bytes ← number_in (codes "bytes") rows
  parities ← parities_in rows
  new ← number_in (codes "new") rows
  files ← files_in rows
  parts ← last_files new files
  Ok (record { seed = seed; bytes = bytes; parities = parities; files = parts.0; new_files = parts.1 })

-- a name and files, of which a command is made
unfoldable pub named_files : List Row → Result (Text × List Text) Cause
named_files rows = do
  name ← text_in (codes "name") rows
  files ← files_in rows
  Ok (name, files)

-- what `zfs create` asks for: a volume of this size, in blocks of this size, both in bytes
unfoldable pub new_volume : List Row → Result ZfsCommand Cause
new_volume rows = do
  size ← number_in (codes "size") rows
  block_size ← number_in (codes "block") rows
  named ← named_files rows
  Ok (zfs.Create size block_size named.0 named.1)

-- what `zfs snapshot` asks for: the volume's name, and the part behind the first '@'
unfoldable pub new_snapshot : List Row → Result ZfsCommand Cause
new_snapshot rows = do
  text ← text_in (codes "snapshot") rows
  parts ← parts_of text
  files ← files_in rows
  Ok (zfs.Snapshot parts.0 parts.1 files)

-- the name of the snapshot stays whole, and has an '@'
unfoldable pub new_clone : List Row → Result ZfsCommand Cause
new_clone rows = do
  text ← text_in (codes "snapshot") rows
  parts ← parts_of text
  named ← named_files rows
  Ok (zfs.Clone text named.0 named.1)

-- what `zfs destroy` asks for
unfoldable pub destroyed : List Row → Result ZfsCommand Cause
destroyed rows = do
  named ← named_files rows
  Ok (zfs.Destroy named.0 named.1)

-- what `zfs serve` asks for
unfoldable pub served : List Row → Result ZfsCommand Cause
served rows = do
  named ← named_files rows
  Ok (zfs.Serve named.0 named.1)

-- a write that begins at this byte; or with none all of the input, from the volume's first byte on
abbrev pub write_at : Option ℕ → Text → List Text → ZfsCommand
write_at (Some offset) name files = zfs.Write offset name files
write_at None name files = zfs.WriteAll name files

-- what `zfs write` asks for: one of `--at N` and `--all` has to be there
unfoldable pub written : List Row → Result ZfsCommand Cause
written rows = do
  place ← place_of (given_number (codes "at") rows) (flag_in (codes "all") rows)
  named ← named_files rows
  Ok (write_at place named.0 named.1)

-- a read of this range in bytes; or with none the whole volume or snapshot
abbrev pub read_at : Option (ℕ × ℕ) → Text → List Text → ZfsCommand
read_at (Some range) name files = zfs.Read range.0 range.1 name files
read_at None name files = zfs.ReadAll name files

-- what `zfs read` asks for: a range by `--at N` and `--len N`, or all with neither
unfoldable pub read_out : List Row → Result ZfsCommand Cause
read_out rows = do
  range ← range_of (given_number (codes "at") rows) (given_number (codes "len") rows)
  named ← named_files rows
  Ok (read_at range named.0 named.1)

-- what is made of what was read, or why nothing was
abbrev pub made : {A B : Type 0} → (A → B) → Result A Cause → Result B Cause
made f (Ok a) = Ok (f a)
made f (Err cause) = Err cause

-- what the command of `zpool` of this name asks for, by what a parse found for it
unfoldable pub zpool_command : Text → List Row → Result ZpoolCommand Cause
zpool_command name rows =
    if bytes_eq name (codes "create") then made zpool.Create (new_pool rows)
    else (if bytes_eq name (codes "add") then made zpool.Add (new_vdev rows)
    else (if bytes_eq name (codes "status") then made zpool.Status (files_in rows)
    else (if bytes_eq name (codes "scrub") then made zpool.Scrub (files_in rows)
    else (if bytes_eq name (codes "export") then made zpool.Export (files_in rows)
    else Err missing))))

-- what the command of `zfs` of this name asks for, by what a parse found for it
unfoldable pub zfs_command : Text → List Row → Result ZfsCommand Cause
zfs_command name rows =
    if bytes_eq name (codes "create") then new_volume rows
    else (if bytes_eq name (codes "snapshot") then new_snapshot rows
    else (if bytes_eq name (codes "clone") then new_clone rows
    else (if bytes_eq name (codes "destroy") then destroyed rows
    else (if bytes_eq name (codes "list") then made zfs.List (files_in rows)
    else (if bytes_eq name (codes "write") then written rows
    else (if bytes_eq name (codes "read") then read_out rows
    else (if bytes_eq name (codes "serve") then served rows
    else Err missing)))))))

-- ---- the words

-- what was found for the command that the words name, where the program takes the words
abbrev pub unless_faulty : {A : Type 0} → Kinds → Option A → Result A Cause
unless_faulty [] found = or_missing found
unless_faulty (kind ∷ kinds) found = Err (by_words (kind ∷ kinds))

-- the command that the words name, with what they say for its options and places; or why they are refused
abbrev pub found_in : App → List Text → Result (Text × List Row) Cause
found_in app words = unless_faulty (fault_of app words) (subcommand_of app words)

-- what the words of a line of `zpool` ask for
unfoldable pub zpool_of : List Text → Result ZpoolCommand Cause
zpool_of words = do
  found ← found_in zpool_app words
  zpool_command found.0 found.1

-- what the words of a line of `zfs` ask for
unfoldable pub zfs_of : List Text → Result ZfsCommand Cause
zfs_of words = do
  found ← found_in zfs_app words
  zfs_command found.0 found.1

-- The command that the words ask for, of which the first is the program's name.
unfoldable pub command_of : List Text → Result Command Cause
command_of [] = Err no_program
command_of (program ∷ words) =
    if bytes_eq program (codes "zpool") then made Zpool (zpool_of (program ∷ words))
    else (if bytes_eq program (codes "zfs") then made Zfs (zfs_of (program ∷ words))
    else Err no_program)

-- what a parse found is what is found in the words
abbrev pub Finds : Result ArgMatches Refusal → Result (Text × List Row) Cause → Type 0
Finds (Ok matches) found = found ≡ or_missing (subcommand_rows_of matches)
Finds (Err refusal) found = Fails refusal found
