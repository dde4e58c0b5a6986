use Rattle.std.proofs.Common.{◌≡◌, ◌∷◌, ◌++◌, take}
use Rattle.std.specs.Fmt.{decimal}
use Rattle.std.specs.List.{flat_map}
use Rattle.schedule_lines.proofs.writing.push_numbers.Given as goal

-- the numbers so far are written, each behind a space
abbrev pub invariant-loop-number : goal.invariant-loop-number
invariant-loop-number l = l.line.items ≡ l.initial.line.items ++ flat_map (λ n. 32 ∷ decimal n) (take l.number-index l.numbers)
