-- Lines with any names and paths that begin with a letter.
use Rattle.std.proofs.Common.{◌≡◌, ℕ, List, [], ◌∷◌, Ok, codes, refl}
use Rattle.clap.proofs.OnLiterals.{clap_on_literals}
use Rattle.pool_command.specs.Reading.{command_of, zfs_of, zfs_command, destroyed, named_files}
use Rattle.pool_command.specs.declared.command.Command.TheVariants.{Zfs}
use Rattle.pool_command.specs.declared.command.ZfsCommand.TheVariants as zfs

pub destroy_line : (name file : List ℕ) → command_of (codes "zfs" ∷ codes "destroy" ∷ (118 ∷ name) ∷ (97 ∷ file) ∷ []) ≡ Ok (Zfs (zfs.Destroy (118 ∷ name) ((97 ∷ file) ∷ [])))
unfolding clap_on_literals command_of zfs_of zfs_command destroyed named_files
destroy_line name file = refl
