-- Which child names which place.
use Rattle.std.specs.Prelude.{◌≡◌, ℕ, List, length, slice_get, Option, Some, option_and_then, ◌↔◌}
use Rattle.pool_members.specs.declared.arranging.Child.{Child}

-- the place that the child with this number names, if it names one
abbrev pub place_of : List Child → ℕ → Option ℕ
place_of children index = option_and_then (λ child. child.disk) (slice_get children index)

-- Of each of so many places, the number of the child that names it, or none where no child does.
pub record AreNamers (count : ℕ) (children : List Child) (namers : List (Option ℕ)) : Type 0 where
  pub so_many : length namers ≡ count
  pub names : (place index : ℕ) → (slice_get namers place ≡ Some (Some index)) ↔ (place_of children index ≡ Some place)
