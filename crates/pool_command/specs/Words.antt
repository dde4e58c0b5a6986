-- The words that the programs take, as a table: each command's options and what stands behind them, by their places.
use Rattle.std.specs.Prelude.{◌≡◌, Bool, true, false, List, [], ◌∷◌, Some, codes}
use Rattle.clap.specs.Lexer.{usize_max}
use Rattle.clap.specs.Words.{App, Rule, Shape, Text, app_of, new_rule}
use Rattle.clap.specs.Simple.{new_shape}
use Rattle.clap.specs.declared.builder.command.Command.{Command}
use Rattle.clap.specs.declared.builder.command.Command.TheViews.{out-Command as fields_of}
use Rattle.clap.specs.declared.builder.action.ArgAction.TheVariants.{SetTrue}
use Rattle.clap.specs.declared.builder.value_parser.ValueParser.TheVariants.{Unsigned}

-- `--name N`, a number that may be left out
abbrev pub given_rule : Text → Rule
given_rule name = record (new_rule name) { long = Some name; value_names = 1; parser = Some (Unsigned 0 18446744073709551615) }

-- `--name N`, a number that has to be there
abbrev pub number_rule : Text → Rule
number_rule name = record (given_rule name) { required = true }

-- `--name N`, or else this number
abbrev pub default_rule : Text → Text → Rule
default_rule name default = record (given_rule name) { defaults = default ∷ [] }

-- `--name`
abbrev pub flag_rule : Text → Rule
flag_rule name = record (new_rule name) { long = Some name; action = Some SetTrue }

-- `--name TEXT`, which has to be there
abbrev pub text_rule : Text → Rule
text_rule name = record (new_rule name) { long = Some name; value_names = 1; required = true }

-- a word by its place
abbrev pub word_rule : Text → Rule
word_rule id = record (new_rule id) { value_names = 1; required = true }

-- one word or more, which stand last
abbrev pub many_rule : Text → Rule
many_rule id = record (new_rule id) { value_names = 1; required = true; range = Some (record { start_inclusive = 1; end_inclusive = usize_max }) }

-- `FILE...`
abbrev pub files_rule : Rule
files_rule = many_rule (codes "files")

-- a command of a program
abbrev pub leaf_app : Text → List Rule → App
leaf_app name rules = record { top = record (new_shape name) { rules = rules }; subs = [] }

-- no command is in the list: true where there is none
abbrev pub has_no_subs : List Shape → Bool
has_no_subs [] = true
has_no_subs (s ∷ subs) = false

-- a program, of which one command has to be named
abbrev pub program_app : Text → List Shape → App
program_app name subs = record { top = record (new_shape name) { is_leaf = has_no_subs subs; has_version = true; subcommand_required = true }; subs = subs }

-- a command that takes files and nothing else
abbrev pub files_alone : Text → App
files_alone name = leaf_app name (files_rule ∷ [])

-- a command that takes a name, and files behind it
abbrev pub name_alone : Text → App
name_alone name = leaf_app name (word_rule (codes "name") ∷ files_rule ∷ [])

-- ---- zpool

-- `zpool create --seed N --bytes N [--meta N] [--ms N] NAME TYPE FILE...`; left out they are 2 and 12
abbrev pub create_pool : App
create_pool = leaf_app (codes "create") (number_rule (codes "seed") ∷ number_rule (codes "bytes") ∷ default_rule (codes "meta") (codes "2") ∷ default_rule (codes "ms") (codes "12")
    ∷ word_rule (codes "name") ∷ word_rule (codes "type") ∷ files_rule ∷ [])

-- `zpool add --seed N --bytes N --type TYPE --new N FILE...`, of which the last N files are new
abbrev pub add_vdev : App
add_vdev = leaf_app (codes "add") (number_rule (codes "seed") ∷ number_rule (codes "bytes") ∷ text_rule (codes "type") ∷ number_rule (codes "new") ∷ files_rule ∷ [])

-- `zpool` with its commands: create, add, status, scrub and export
abbrev pub zpool_app : App
zpool_app = program_app (codes "zpool") (create_pool.top ∷ add_vdev.top ∷ (files_alone (codes "status")).top ∷ (files_alone (codes "scrub")).top ∷ (files_alone (codes "export")).top ∷ [])

-- ---- zfs

-- `zfs create --size N --block N NAME FILE...`
abbrev pub create_volume : App
create_volume = leaf_app (codes "create") (number_rule (codes "size") ∷ number_rule (codes "block") ∷ word_rule (codes "name") ∷ files_rule ∷ [])

-- `zfs snapshot VOLUME@SNAPSHOT FILE...`
abbrev pub snapshot_volume : App
snapshot_volume = leaf_app (codes "snapshot") (word_rule (codes "snapshot") ∷ files_rule ∷ [])

-- `zfs clone VOLUME@SNAPSHOT NAME FILE...`
abbrev pub clone_snapshot : App
clone_snapshot = leaf_app (codes "clone") (word_rule (codes "snapshot") ∷ word_rule (codes "name") ∷ files_rule ∷ [])

-- `zfs write [--at N] [--all] NAME FILE...`; that just one of the two stands there is asked later
abbrev pub write_volume : App
write_volume = leaf_app (codes "write") (given_rule (codes "at") ∷ flag_rule (codes "all") ∷ word_rule (codes "name") ∷ files_rule ∷ [])

-- `zfs read [--at N] [--len N] NAME FILE...`; that both stand there or neither is asked later
abbrev pub read_volume : App
read_volume = leaf_app (codes "read") (given_rule (codes "at") ∷ given_rule (codes "len") ∷ word_rule (codes "name") ∷ files_rule ∷ [])

-- `zfs` with its commands: create, snapshot, clone, destroy, list, write, read and serve
abbrev pub zfs_app : App
zfs_app = program_app (codes "zfs") (create_volume.top ∷ snapshot_volume.top ∷ clone_snapshot.top ∷ (name_alone (codes "destroy")).top
    ∷ (files_alone (codes "list")).top ∷ write_volume.top ∷ read_volume.top ∷ (name_alone (codes "serve")).top ∷ [])

-- a parse by this command reads its words by that table
pub record IsOfApp (table : App) (command : Command) : Type 0 where
  pub app : app_of command ≡ table
  pub globals : (fields_of command).has_globals ≡ false
