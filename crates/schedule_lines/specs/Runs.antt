-- Runs of equal bytes, and their text.
use Rattle.std.specs.Prelude.{◌≡◌, ◌≢◌, ℕ, ◌<◌, ◌≤◌, List, [], ◌∷◌, ◌++◌, length, drop, replicate, codes}
use Rattle.std.specs.List.{AllByRecursion, flat_map, join_by}
use Rattle.std.specs.Fmt.{decimal}
use Rattle.schedule_lines.specs.declared.equal_bytes.Run.{Run}
use Rattle.schedule_lines.specs.Hexadecimal.{byte_text}

-- the bytes of a run
abbrev pub bytes_of : Run → List ℕ
bytes_of run = replicate run.count run.byte

-- no run and the next have the same byte
abbrev pub NeighboursDiffer : List Run → Type 0
NeighboursDiffer [] = Unit {0}
NeighboursDiffer (run ∷ []) = Unit {0}
NeighboursDiffer (run ∷ next ∷ runs) = (run.byte ≢ next.byte) × NeighboursDiffer (next ∷ runs)

-- these are the longest runs of the bytes
pub record AreRuns (bytes : List ℕ) (runs : List Run) : Type 0 where
  pub expanded : flat_map bytes_of runs ≡ bytes
  pub counts : AllByRecursion (λ run. 0 < run.count) runs
  pub longest : NeighboursDiffer runs

-- other bytes than this, if any
abbrev pub BeginsOtherwise : ℕ → List ℕ → Type 0
BeginsOtherwise byte [] = Unit {0}
BeginsOtherwise byte (b ∷ bytes) = b ≢ byte

-- the longest run in front
pub record BeginsWithRun (run : Run) (bytes : List ℕ) : Type 0 where
  pub count : 0 < run.count
  pub within : run.count ≤ length bytes
  pub expanded : bytes ≡ bytes_of run ++ drop run.count bytes
  pub longest : BeginsOtherwise run.byte (drop run.count bytes)

-- the byte in two digits, 'x', and the count
abbrev pub run_text : Run → List ℕ
run_text run = byte_text run.byte ++ (120 ∷ decimal run.count)

-- the texts of the runs, parted by one space
abbrev pub runs_text : List Run → List ℕ
runs_text [] = codes "empty"
runs_text (run ∷ runs) = join_by run_text (32 ∷ []) (run ∷ runs)
