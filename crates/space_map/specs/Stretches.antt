-- Free runs from a sector on, and how far what the sector is goes on.
use Rattle.std.specs.Prelude.{◌≡◌, ℕ, ◌+◌, ◌<◌, ◌≤◌, Bool, true, false, not, List, [], ◌∷◌}
use Rattle.space_map.specs.declared.entry.Entry.{Entry}
use Rattle.space_map.specs.declared.entry.Kind.TheVariants.{Allocated, Freed}
use Rattle.space_map.specs.declared.entry.Run.{Run}
use Rattle.space_map.specs.declared.updating.Stretch.{Stretch}
use Rattle.space_map.specs.Appended.{ArePieces}
use Rattle.space_map.specs.Sectors.{contains, AreBetween}

-- no run ends before a sector
abbrev pub EndFrom : ℕ → List Run → Type 0
EndFrom at [] = Unit {0}
EndFrom at (r ∷ rs) = at ≤ r.start + r.len

-- those of the runs that end behind a sector: from it on they have the same sectors
pub record AreAhead (sectors : ℕ) (runs : List Run) (at : ℕ) (rest : List Run) : Type 0 where
  pub apart : AreBetween 0 (sectors + 1) rest
  pub end : EndFrom (at + 1) rest
  pub same : (s : ℕ) → at ≤ s → contains rest s ≡ contains runs s

-- all sectors from one up to another are in the runs, or none is, and the next is otherwise
pub record IsStretch (sectors : ℕ) (rest : List Run) (at : ℕ) (stretch : Stretch) : Type 0 where
  pub some : at < stretch.end
  pub within : stretch.end ≤ sectors
  pub each : (s : ℕ) → at ≤ s → s < stretch.end → contains rest s ≡ stretch.free
  pub turns : stretch.end < sectors → contains rest stretch.end ≡ not stretch.free
  pub end : EndFrom stretch.end rest

-- the entries make of a run that was free, or wasn't, one that is free, or isn't
abbrev pub AreChanges : Bool → Bool → Run → List Entry → Type 0
AreChanges true true run es = es ≡ []
AreChanges true false run es = ArePieces Allocated run.start run.len es
AreChanges false true run es = ArePieces Freed run.start run.len es
AreChanges false false run es = es ≡ []
