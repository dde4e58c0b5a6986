-- Pointers that may be read.
use Rattle.std.proofs.Common.{ℕ, ◌≡◌, ◌<◌, ◌≤◌, ◌==◌, ◌&&◌, ◌↔◌, Bool, true, false, IsTrue, List, [], ◌∷◌, length, Contains, get_or, refl, sym, subst, arith}
use Rattle.std.specs.Bool.{MatchBool}
use Rattle.std.specs.List.{AllWithin, HoldsAt}
use Rattle.std.proofs.lemmas.Bool.{eqb-true}
use Rattle.std.proofs.lemmas.List.{get_or_default}
use Rattle.block_pointer.specs.declared.block.Block.{Block}
use Rattle.block_pointer.specs.declared.dva.Dva.{Dva}
use Rattle.block_pointer.specs.declared.property.Property.{Property}
use Rattle.block_pointer.specs.Copies.{dvas}
use Rattle.block_store.specs.declared.block.Asked.{Asked}
use Rattle.block_store.specs.Spaces.{VdevSpace}
use Rattle.block_store.specs.Places.{ArePlacesIn}
use Rattle.block_store.specs.Reading.{IsReadable}

-- each element has P, by the answer of a search for one that has not
pub all_contained : {X : Type 0} (P : X → Type 0) (r : Bool) (xs : List X)
    → MatchBool r (AllWithin P xs 0 (length xs)) ((k : ℕ) × (k < length xs) × HoldsAt (λ x. ¬ P x) xs k)
    → IsTrue r ↔ ((x : X) → Contains xs x → P x)
all_contained P true xs all = (λ is x held. subst P held.2 (all held.0 x (omega arith) held.1), λ every. refl)
all_contained P false [] found = absurd (omega (arith, found.1))
all_contained P false (y ∷ ys) found = (
  λ is. absurd (cc),
  λ every. absurd (found.2 y (every (get_or (y ∷ ys) found.0 y) (found.0, found.1, get_or_default (y ∷ ys) found.0 (get_or (y ∷ ys) found.0 y) y found.1))),
)

both : (a b : Bool) → (a && b) ≡ true → (a ≡ true) × (b ≡ true)
both true b is = (refl, is)
both false b is = absurd (cc)

pub property_is : (a b : Property) → ((a.level == b.level) && ((a.object_type == b.object_type) && (a.sectors == b.sectors))) ≡ true → a ≡ b
property_is a b is =
    let parts = both (a.level == b.level) ((a.object_type == b.object_type) && (a.sectors == b.sectors)) is in
    let rest = both (a.object_type == b.object_type) (a.sectors == b.sectors) parts.1 in
    let level : a.level ≡ b.level = eqb-true a.level b.level parts.0 in
    let object_type : a.object_type ≡ b.object_type = eqb-true a.object_type b.object_type rest.0 in
    let sectors : a.sectors ≡ b.sectors = eqb-true a.sectors b.sectors rest.1 in
    λ i. record { level = level i; object_type = object_type i; sectors = sectors i }

pub readable : (spaces : List VdevSpace) (asked : Asked) (block : Block) (places : List Dva) → places ≡ dvas block.copies → block.property ≡ asked.property
    → block.birth ≤ asked.birth → 0 < block.property.sectors
    → ArePlacesIn spaces block.property.sectors places → IsReadable spaces asked block
readable spaces asked block places are property birth some in_places = record {
  some = some;
  asks = record { property = property; birth = birth };
  places = subst (λ (places : List Dva). ArePlacesIn spaces block.property.sectors places) are in_places;
}

pub in_places : (spaces : List VdevSpace) (asked : Asked) (block : Block) (places : List Dva) → places ≡ dvas block.copies → IsReadable spaces asked block
    → ArePlacesIn spaces block.property.sectors places
in_places spaces asked block places are is =
    subst (λ (places : List Dva). ArePlacesIn spaces block.property.sectors places) (sym are) is.places
