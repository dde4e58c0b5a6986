use Rattle.std.proofs.Common.{ℕ, ◌≤◌, ◌<◌, [], ◌∷◌, ◌++◌}
use Rattle.raidz_io.specs.Places.{sizes_of}
use Rattle.raidz_io.specs.Choices.{HasNone}
use Rattle.raidz_io.proofs.choice.try_one_more.Given as goal

abbrev pub invariant-loop-column : goal.invariant-loop-column
invariant-loop-column l = (k : ℕ) → l.from ≤ k → k < l.column → HasNone l.digest l.parity (sizes_of l.«data») l.bytes (l.wrong ++ k ∷ [])
