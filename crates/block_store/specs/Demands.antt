-- Blocks that are to be placed.
use Rattle.std.specs.Prelude.{ℕ, ◌≡◌, List, [], ◌∷◌, ◌++◌, length}
use Rattle.block_pointer.specs.declared.dva.Dva.{Dva}
use Rattle.block_store.specs.Spaces.{VdevSpace}
use Rattle.block_store.specs.Places.{AreChosen, RanOut}

-- a block by its size in sectors and how many copies it has
pub record Demand : Type 0 where
  pub sectors : ℕ
  pub copies : ℕ

-- for each of these blocks places were chosen and taken, one block after the other, and for nothing else
abbrev pub HavePlaces : List VdevSpace → List Demand → List VdevSpace → Type 0
HavePlaces before [] after = after ≡ before
HavePlaces before (demand ∷ demands) after =
    (places : List Dva) × (mid : List VdevSpace) × (length places ≡ demand.copies)
    × AreChosen before [] demand.sectors demand.copies places mid × HavePlaces mid demands after

-- so it is of the first of them, and then no free place was left for a copy of the next
pub record LackPlaces (before : List VdevSpace) (demands : List Demand) (after : List VdevSpace) : Type 0 where
  pub placed : List Demand
  pub next : Demand
  pub left : List Demand
  pub are : demands ≡ placed ++ next ∷ left
  pub mid : List VdevSpace
  pub have : HavePlaces before placed mid
  pub ran_out : RanOut mid next.sectors next.copies after
