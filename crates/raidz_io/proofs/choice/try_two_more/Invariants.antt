use Rattle.std.proofs.Common.{ℕ, ◌<◌, ◌+◌, [], ◌∷◌, ◌++◌, length}
use Rattle.raidz_io.specs.Places.{sizes_of}
use Rattle.raidz_io.specs.Choices.{HasNone}
use Rattle.raidz_io.proofs.choice.try_two_more.Given as goal

abbrev pub invariant-loop-column : goal.invariant-loop-column
invariant-loop-column l =
    (i k : ℕ) → i < l.column → i < k → k < length l.«data» + l.parity
    → HasNone l.digest l.parity (sizes_of l.«data») l.bytes ((l.wrong ++ i ∷ []) ++ k ∷ [])
