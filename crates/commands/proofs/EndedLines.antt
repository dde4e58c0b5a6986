-- How a line ends that was run.
use Rattle.std.proofs.Common.{◌≡◌, inl, inr, ℕ, List, Option, Result, Ok, Err, IfErr, OnOk, ap, ◌∙◌}
use Rattle.pool_command.specs.Reading.{command_of}
use Rattle.pool_command.specs.declared.command.Command.{Command}
use Rattle.pool_command.specs.declared.command.Command.TheVariants.{Zfs}
use Rattle.pool_command.specs.declared.command.ZfsCommand.TheVariants as zfs
use Rattle.pool_steps.specs.declared.steps.PoolSteps.{Ghosts as StepGhosts}
use Rattle.commands.specs.Ends.{status_by, status_of}
use Rattle.commands.specs.Lines.{EndsCommand}
use Rattle.commands.specs.Performs.{IsPlain, Streams}
use Rattle.commands.specs.Running.{IsPerformed, IsUnperformed}
use Rattle.commands.specs.Serves.{IsServed, IsServeStopped}
use Rattle.commands.specs.declared.pools.Pools.{Ghosts}
use Rattle.commands.specs.declared.status.ExitStatus.{ExitStatus}
use Rattle.commands.specs.declared.stop.Stop.{Stop}

module _ {S P F R : Type 0} (pools : Ghosts S P F R) (steps : StepGhosts P) (words : List (List ℕ)) (timestamp : ℕ) (input : Option (List ℕ)) (old new : S) (before after : Option (List ℕ)) (status : ExitStatus) (command : Command)
    (asked : command_of words ≡ Ok command) where
  stopped_ends : (s : Stop R) → IsPlain command → IsUnperformed pools steps command timestamp input old new before after s → status ≡ status_of s → EndsCommand pools steps words timestamp input old new before after status
  stopped_ends s plain (inl stops) is = inr (inr (inl (record { command = command; asked = asked; plain = plain; stop = s; stops = stops.0; status_is = is; silent = stops.1 })))
  stopped_ends s plain (inr unprinted) is = inr (inl (record { printed = unprinted.1.0; done = record { command = command; asked = asked; does = unprinted.1.1 }; status_is = is ∙ ap status_of unprinted.0 }))

  pub plain_ends : (ended : Result (Unit {0}) (Stop R)) → IsPlain command → OnOk ended (IsPerformed pools steps command timestamp input old new before after) → IfErr ended (IsUnperformed pools steps command timestamp input old new before after)
      → status ≡ status_by ended → EndsCommand pools steps words timestamp input old new before after status
  plain_ends (Ok done) plain ok err is = inl (record { printed = ok.printed; done = record { command = command; asked = asked; does = ok.does }; appends = ok.appends; status_is = is })
  plain_ends (Err s) plain ok err is = stopped_ends s plain err is

  pub streamed_ends : (ended : Result (Unit {0}) (Stop R)) → Streams pools steps command input old before after ended new → status ≡ status_by ended → EndsCommand pools steps words timestamp input old new before after status
  streamed_ends ended streams is = inr (inr (inr (inl (record { command = command; asked = asked; ended = ended; streams = streams; status_is = is }))))

-- how a served volume ended
pub serve_streams : {S P F R : Type 0} (pools : Ghosts S P F R) (steps : StepGhosts P) (old new : S) (files : List (List ℕ)) (name : List ℕ) (input left before after : Option (List ℕ)) (ended : Result (Unit {0}) (Stop R))
    → OnOk ended (IsServed pools steps old files name input left before after new) → IfErr ended (IsServeStopped pools steps old files name input left before after new) → Streams pools steps (Zfs (zfs.Serve name files)) input old before after ended new
serve_streams pools steps old new files name input left before after (Ok done) ok err = (left, ok)
serve_streams pools steps old new files name input left before after (Err s) ok err = (left, err)
