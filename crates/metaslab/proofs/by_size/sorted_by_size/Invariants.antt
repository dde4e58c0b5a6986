use Rattle.std.proofs.Common.{ℕ, ◌<◌, ◌≡◌, get_or}
use Rattle.space_map.specs.declared.entry.Run.{Run}
use Rattle.metaslab.specs.Fits.{HasRun}
use Rattle.metaslab.proofs.by_size.sorted_by_size.Given as goal

-- the runs so far are in the set by size, and no others
abbrev pub invariant-loop-run : goal.invariant-loop-run
invariant-loop-run l = record {
  each : (start len : ℕ) → HasRun l.sizes start len → (i : ℕ) × (i < l.run-index) × ((d : Run) → get_or l.runs i d ≡ record { start = start; len = len });
  all : (i start len : ℕ) → i < l.run-index → ((d : Run) → get_or l.runs i d ≡ record { start = start; len = len }) → HasRun l.sizes start len;
}
