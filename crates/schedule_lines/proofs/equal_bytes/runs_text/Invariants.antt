use Rattle.std.proofs.Common.{◌≡◌, ◌∷◌, ◌++◌, take, string_bytes}
use Rattle.std.specs.List.{flat_map}
use Rattle.schedule_lines.specs.Runs.{run_text}
use Rattle.schedule_lines.proofs.equal_bytes.runs_text.Given as goal

-- the runs so far are written, each behind a space
abbrev pub invariant-loop-run : goal.invariant-loop-run
invariant-loop-run l = string_bytes l.text ≡ string_bytes l.initial.text ++ flat_map (λ run. 32 ∷ run_text run) (take l.run-index l.others)
