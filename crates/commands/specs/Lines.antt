-- How a command line ends.
use Rattle.std.specs.Prelude.{◌≡◌, ◌⊎◌, ℕ, true, false, List, Option, Result, Ok}
use Rattle.std.specs.Io.KnownBytes.{Appends}
use Rattle.pool_command.specs.Causes.{Fails, is_answer}
use Rattle.pool_command.specs.Reading.{command_of}
use Rattle.pool_command.specs.declared.command.Command.{Command}
use Rattle.pool_command.specs.declared.refusal.Refusal.{Refusal}
use Rattle.pool_steps.specs.declared.steps.PoolSteps.{Ghosts as StepGhosts}
use Rattle.commands.specs.Ends.{status_by, status_of}
use Rattle.commands.specs.Performs.{Does, IsPlain, Stops, Streams}
use Rattle.commands.specs.declared.pools.Pools.{Ghosts}
use Rattle.commands.specs.declared.status.ExitStatus.{ExitStatus}
use Rattle.commands.specs.declared.status.ExitStatus.TheVariants.{Done, Fault}
use Rattle.commands.specs.declared.stop.Stop.{Stop}

module _ {S P F R : Type 0} (pools : Ghosts S P F R) (steps : StepGhosts P) (words : List (List ℕ)) (timestamp : ℕ) (input : Option (List ℕ)) (old new : S) where
  -- what the words ask for was done, and this is to be printed
  pub record IsDone (printed : List ℕ) : Type 0 where
    pub command : Command
    pub asked : command_of words ≡ Ok command
    pub does : Does pools steps command timestamp input old printed new

  -- all was done, and is printed
  pub record IsWhole (before after : Option (List ℕ)) (status : ExitStatus) : Type 0 where
    pub printed : List ℕ
    pub done : IsDone printed
    pub appends : Appends before after printed
    pub status_is : status ≡ Done

  -- all was done, but standard output failed
  pub record IsUnprinted (status : ExitStatus) : Type 0 where
    pub printed : List ℕ
    pub done : IsDone printed
    pub status_is : status ≡ Fault

  -- it was not all done, and nothing is printed
  pub record IsStopped (before after : Option (List ℕ)) (status : ExitStatus) : Type 0 where
    pub command : Command
    pub asked : command_of words ≡ Ok command
    pub plain : IsPlain command
    pub stop : Stop R
    pub stops : Stops pools steps command timestamp input old stop new
    pub status_is : status ≡ status_of stop
    pub silent : after ≡ before

  -- it was done, or not, while it printed
  pub record IsStreamed (before after : Option (List ℕ)) (status : ExitStatus) : Type 0 where
    pub command : Command
    pub asked : command_of words ≡ Ok command
    pub ended : Result (Unit {0}) (Stop R)
    pub streams : Streams pools steps command input old before after ended new
    pub status_is : status ≡ status_by ended

  -- the words are no command, for that cause, or there was no memory to read them: nothing is opened or printed
  pub record IsNoCommand (before after : Option (List ℕ)) (status : ExitStatus) : Type 0 where
    pub refusal : Refusal
    pub none : Fails refusal (command_of words)
    pub fault : is_answer refusal ≡ false
    pub same : new ≡ old
    pub silent : after ≡ before
    pub status_is : status ≡ Fault

  -- the words ask for help or the version, which is printed, or standard output failed: nothing is opened
  pub record IsAnswered (status : ExitStatus) : Type 0 where
    pub refusal : Refusal
    pub none : Fails refusal (command_of words)
    pub answer : is_answer refusal ≡ true
    pub same : new ≡ old
    pub status_is : (status ≡ Done) ⊎ (status ≡ Fault)

  -- How a line ends: all was done, and is printed, or the output failed; or it was not all done; or it
  -- printed as it went on; or its words are no command; or they ask for help or the version.
  abbrev pub EndsCommand : Option (List ℕ) → Option (List ℕ) → ExitStatus → Type 0
  EndsCommand before after status =
      IsWhole before after status ⊎ IsUnprinted status ⊎ IsStopped before after status ⊎ IsStreamed before after status ⊎ IsNoCommand before after status ⊎ IsAnswered status
