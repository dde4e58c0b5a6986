-- The area of a label's list.
use Rattle.std.specs.Prelude.{◌≡◌, ◌≢◌, ◌≤◌, ℕ, ◌-◌, List, ◌++◌, length, replicate, take, drop, Result, Ok, Err}
use Rattle.nvlist.specs.Grammar.{Fits, spelling}
use Rattle.nvlist.specs.Plain.{PlainList}
use Rattle.words.specs.Seal.{sealed, seal_word}
use Rattle.vdev_label.specs.Pairs.{label_pairs, InRange}
use Rattle.vdev_label.specs.Plain.{PlainLabel, label_view}
use Rattle.vdev_label.specs.declared.label.Label.{Label}
use Rattle.vdev_label.specs.declared.refusal.Breach.{Breach}
use Rattle.vdev_label.specs.declared.refusal.Breach.TheVariants as breach
use Rattle.vdev_label.specs.declared.refusal.Refusal.{Refusal}
use Rattle.vdev_label.specs.declared.refusal.Refusal.TheVariants.{NoMemory, DiskFault, BadLabel}

-- a list and zeros, as long as the area without its tail
abbrev pub front_of : PlainList → List ℕ
front_of l = spelling l ++ replicate (114648 - length (spelling l)) 0

-- the list has a spelling, which the area has room for
pub record HasRoom (l : PlainList) : Type 0 where
  pub fits : Fits l
  pub room : length (spelling l) ≤ 114648

-- the area of a label
abbrev pub area_of : PlainLabel → List ℕ
area_of l = sealed (front_of (label_pairs l))

-- the area, and no other, has the label
pub record Spells (area : List ℕ) (l : PlainLabel) : Type 0 where
  pub in_range : InRange l
  pub room : HasRoom (label_pairs l)
  pub bytes : area ≡ area_of l

-- what is wrong with an area, where nothing before it is
abbrev pub IsBreach : List ℕ → Breach → Type 0
IsBreach area breach.Tail = take 8 (drop 114648 area) ≢ seal_word
IsBreach area breach.Digest = ¬ (take 8 (drop 114648 area) ≢ seal_word) × ((front : List ℕ) → area ≢ sealed front)
IsBreach area breach.List = (front : List ℕ) × (area ≡ sealed front) × ((l : PlainList) → HasRoom l → front ≢ front_of l)
IsBreach area breach.Pairs = (l : PlainList) × HasRoom l × (area ≡ sealed (front_of l)) × ((v : PlainLabel) → InRange v → l ≢ label_pairs v)

-- why an area is not read
abbrev pub IsCause : List ℕ → Refusal → Type 0
IsCause area NoMemory = Unit {0}
IsCause area DiskFault = ⊥
IsCause area (BadLabel it) = IsBreach area it

-- this label was found, unless memory ran out
abbrev pub Finds : Result Label Refusal → PlainLabel → Type 0
Finds (Ok l) v = label_view l ≡ v
Finds (Err refusal) v = refusal ≡ NoMemory
