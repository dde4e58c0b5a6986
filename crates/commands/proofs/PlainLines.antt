-- Lines that print at their end.
use Rattle.std.proofs.Common.{◌≢◌, ℕ, List, refl}
use Rattle.pool_command.specs.declared.command.Command.TheVariants.{Zfs}
use Rattle.pool_command.specs.declared.command.ZfsCommand.{ZfsCommand}
use Rattle.pool_command.specs.declared.command.ZfsCommand.TheVariants as zfs
use Rattle.commands.specs.Performs.{IsPlain}

pub plain_by : (command : ZfsCommand) → ((name : List ℕ) (files : List (List ℕ)) → command ≢ zfs.ReadAll name files) → ((name : List ℕ) (files : List (List ℕ)) → command ≢ zfs.Serve name files) → IsPlain (Zfs command)
plain_by (zfs.ReadAll name files) not_read not_served = absurd (not_read name files refl)
plain_by (zfs.Serve name files) not_read not_served = absurd (not_served name files refl)
plain_by command not_read not_served = tt
