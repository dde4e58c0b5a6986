-- Blocks that are placed one after the other.
use Rattle.std.proofs.Common.{ℕ, ◌≡◌, List, [], ◌∷◌, ◌++◌, length, refl, sym, ap, subst, ◌∙◌, append_assoc}
use Rattle.block_pointer.specs.declared.dva.Dva.{Dva}
use Rattle.block_store.specs.Spaces.{VdevSpace}
use Rattle.block_store.specs.Demands.{Demand, HavePlaces, LackPlaces}
use Rattle.block_store.specs.Places.{AreChosen, RanOut}

-- places for some, and then for others
pub have_both : (before mid after : List VdevSpace) (demands later : List Demand) → HavePlaces before demands mid → HavePlaces mid later after
    → HavePlaces before (demands ++ later) after
have_both before mid after [] later have more = subst (λ spaces. HavePlaces spaces later after) have more
have_both before mid after (demand ∷ demands) later have more =
    (have.0, have.1, have.2, have.3, have_both have.1 mid after demands later have.4 more)

-- places for some, and then none for one of the others
pub lack_later : (before mid after : List VdevSpace) (demands later : List Demand) → HavePlaces before demands mid → LackPlaces mid later after
    → LackPlaces before (demands ++ later) after
lack_later before mid after demands later have lack = record {
  placed = demands ++ lack.placed;
  next = lack.next;
  left = lack.left;
  are = ap (λ more. demands ++ more) lack.are ∙ sym (append_assoc demands lack.placed (lack.next ∷ lack.left));
  mid = lack.mid;
  have = have_both before mid lack.mid demands lack.placed have lack.have;
  ran_out = lack.ran_out;
}

-- none for one of the first
pub lack_sooner : (before after : List VdevSpace) (demands later : List Demand) → LackPlaces before demands after
    → LackPlaces before (demands ++ later) after
lack_sooner before after demands later lack = record {
  placed = lack.placed;
  next = lack.next;
  left = lack.left ++ later;
  are = ap (λ more. more ++ later) lack.are ∙ append_assoc lack.placed (lack.next ∷ lack.left) later;
  mid = lack.mid;
  have = lack.have;
  ran_out = lack.ran_out;
}

-- places for one block
pub have_one : (before after : List VdevSpace) (sectors copies : ℕ) (places : List Dva) → length places ≡ copies → AreChosen before [] sectors copies places after
    → HavePlaces before ((record { sectors = sectors; copies = copies }) ∷ []) after
have_one before after sectors copies places count chosen = (places, after, count, chosen, refl)

-- none for one block
pub lack_one : (before after : List VdevSpace) (sectors copies : ℕ) → RanOut before sectors copies after
    → LackPlaces before ((record { sectors = sectors; copies = copies }) ∷ []) after
lack_one before after sectors copies ran_out = record {
  placed = [];
  next = record { sectors = sectors; copies = copies };
  left = [];
  are = refl;
  mid = before;
  have = refl;
  ran_out = ran_out;
}
