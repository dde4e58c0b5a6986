-- What leads from one free set of a metaslab to another, as entries.
use Rattle.std.specs.Prelude.{◌≡◌, ℕ, ◌+◌, ◌^◌, ◌≤◌, Bool, List, [], ◌∷◌, ◌++◌}
use Rattle.std.specs.List.{AllByRecursion}
use Rattle.space_map.specs.declared.entry.Entry.{Entry}
use Rattle.space_map.specs.Entry.{FitsEntry, Spells, spelling}
use Rattle.space_map.specs.Map.{all_free, free_set, IsMap}

-- the next entry is of the same kind, and begins where this one ends
abbrev pub GoesOn : Entry → List Entry → Type 0
GoesOn e [] = ⊥
GoesOn e (d ∷ es) = (d.kind ≡ e.kind) × (d.run.start ≡ e.run.start + e.run.len)

-- the entries ascend from a sector on, and one that the next goes on has as many sectors as an entry can
abbrev pub AreLongest : ℕ → List Entry → Type 0
AreLongest from [] = Unit {0}
AreLongest from (e ∷ es) = (from ≤ e.run.start) × (GoesOn e es → e.run.len ≡ 2 ^ 15) × AreLongest (e.run.start + e.run.len) es

-- the entries lead from one set of a metaslab's sectors to another: each sector that differs is named once, and no other is
pub record IsUpdate (sectors : ℕ) (old new : ℕ → Bool) (es : List Entry) : Type 0 where
  pub fit : AllByRecursion FitsEntry es
  pub is_map : IsMap sectors old es
  pub leads : (s : ℕ) → free_set old es s ≡ new s
  pub longest : AreLongest 0 es

-- a map's bytes are those before them with such entries behind
abbrev pub AppendsUpdate : ℕ → (ℕ → Bool) → (ℕ → Bool) → List ℕ → List ℕ → Type 0
AppendsUpdate sectors old new before bytes = (es : List Entry) × IsUpdate sectors old new es × (bytes ≡ before ++ spelling es)

-- the bytes spell these entries, which are a map of a metaslab and leave a set of its sectors
pub record IsMapOf (sectors : ℕ) (bytes : List ℕ) (es : List Entry) (set : ℕ → Bool) : Type 0 where
  pub spelled : Spells bytes es
  pub is_map : IsMap sectors (all_free sectors) es
  pub leaves : (s : ℕ) → free_set (all_free sectors) es s ≡ set s
