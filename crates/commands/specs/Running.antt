-- How a line is run.
use Rattle.std.specs.Prelude.{◌≡◌, ◌⊎◌, ℕ, List, Option}
use Rattle.std.specs.Io.KnownBytes.{Appends}
use Rattle.pool_command.specs.declared.command.Command.{Command}
use Rattle.pool_command.specs.declared.command.Command.TheVariants.{Zfs}
use Rattle.pool_command.specs.declared.command.ZfsCommand.TheVariants as zfs
use Rattle.pool_steps.specs.declared.steps.PoolSteps.{Ghosts as StepGhosts}
use Rattle.commands.specs.Performs.{Does, IsPlain, Stops}
use Rattle.commands.specs.declared.pools.Pools.{Ghosts}
use Rattle.commands.specs.declared.running.Line.{Line}
use Rattle.commands.specs.declared.running.Line.TheVariants as line
use Rattle.commands.specs.declared.stop.Stop.{Stop}
use Rattle.commands.specs.declared.stop.Stop.TheVariants as stop

-- the command, by how it prints
abbrev pub IsLineOf : Command → Line → Type 0
IsLineOf command (line.Plain plain) = (plain ≡ command) × IsPlain command
IsLineOf command (line.ReadAll name files) = command ≡ Zfs (zfs.ReadAll name files)
IsLineOf command (line.Serve name files) = command ≡ Zfs (zfs.Serve name files)

module _ {S P F R : Type 0} (pools : Ghosts S P F R) (steps : StepGhosts P) (command : Command) (timestamp : ℕ) (input : Option (List ℕ)) (old new : S) (before after : Option (List ℕ)) where
  -- it was done, and printed then
  pub record IsPerformed : Type 0 where
    pub printed : List ℕ
    pub does : Does pools steps command timestamp input old printed new
    pub appends : Appends before after printed

  -- it was not, and nothing is printed; or standard output failed
  abbrev pub IsUnperformed : Stop R → Type 0
  IsUnperformed s = (Stops pools steps command timestamp input old s new × (after ≡ before)) ⊎ ((s ≡ stop.Output) × ((printed : List ℕ) × Does pools steps command timestamp input old printed new))
