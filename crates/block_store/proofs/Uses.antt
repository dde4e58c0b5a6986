-- Sectors that stay in use, as others are taken or given back.
use Rattle.std.proofs.Common.{Bool, true, false, if◌then◌else◌, ℕ, zero, suc, ◌≡◌, ◌⊎◌, inl, inr, ◌+◌, ◌*◌, ◌/◌, ◌%◌, ◌<◌, ◌≤◌, Some, List, [], ◌∷◌, ◌++◌, refl, sym, ap, subst, ◌∙◌, arith}
use Rattle.std.specs.Prelude.{slice_set, Contains}
use Rattle.std.specs.List.{slice_get}
use Rattle.std.proofs.lemmas.Bool.{cases_eq}
use Rattle.std.proofs.lemmas.Nat.{div-add-mod'}
use Rattle.std.proofs.lemmas.List.Elements.{Contains-append_right}
use Rattle.block_pointer.specs.declared.dva.Dva.{Dva}
use Rattle.raidz_io.proofs.Written.{same_some}
use Rattle.space_map.specs.Sectors.{names}
use Rattle.space_map.proofs.RunLemmas.{named}
use Rattle.metaslab.specs.Space.{Space, state}
use Rattle.metaslab.specs.State.{State, Free, InUse, Released}
use Rattle.metaslab.specs.Spaces.{ChangesIn}
use Rattle.block_store.specs.declared.shape.VdevShape.{VdevShape}
use Rattle.block_store.specs.Spaces.{VdevSpace}
use Rattle.block_store.specs.Shapes.{metaslab_sectors, metaslab_of, IsPlace}
use Rattle.block_store.specs.Places.{planned, run_at, EachSector, ArePlacesApart, IsTakenToo, AreChosen}
use Rattle.block_store.specs.Releases.{CopyAt, IsReleased, AreReleased, PlacesSpare}
use Rattle.block_store.specs.Steps.{Placed, HavePlaced}
use Rattle.block_store.specs.Uses.{LiesOn, Passes, IsInUse}
use Rattle.block_store.proofs.Taking.{slice_get-set_other, slice_get-set_found}

if_yes : {X : Type 0} (test : Bool) (x y : X) → test ≡ true → (if test then x else y) ≡ x
if_yes true x y is = refl
if_yes false x y is = absurd (cc)

if_no : {X : Type 0} (test : Bool) (x y : X) → test ≡ false → (if test then x else y) ≡ y
if_no true x y is = absurd (cc)
if_no false x y is = refl

either : (test : Bool) → (test ≡ true) ⊎ (test ≡ false)
either true = inl refl
either false = inr refl

-- the planned sectors of a place change
pub record ChangesAt (spaces : List VdevSpace) (place : Dva) (from to : State) (after : List VdevSpace) : Type 0 where
  pub space : VdevSpace
  pub found : slice_get spaces place.vdev ≡ Some space
  pub later : List Space
  pub changes : ChangesIn (planned space) later (metaslab_of space.shape place) (run_at space.shape place) from to
  pub rest : after ≡ slice_set spaces place.vdev (record space { planned = later })

abbrev pub take_changes : (spaces after : List VdevSpace) (place : Dva) → IsTakenToo spaces place after → ChangesAt spaces place Free InUse after
take_changes spaces after place too = record { space = too.space; found = too.found; later = too.later; changes = too.taken; rest = too.rest }

abbrev pub release_changes : (spaces after : List VdevSpace) (copy : CopyAt) (group : ℕ) → IsReleased spaces copy group after
    → ChangesAt spaces copy.place InUse (Released group) after
release_changes spaces after copy group is = record { space = is.space; found = is.found; later = is.later; changes = is.released; rest = is.rest }

-- the places are apart within their vdev
abbrev pub AreOffsetsApart : Dva → Dva → Type 0
AreOffsetsApart place other = (place.offset + place.allocated ≤ other.offset) ⊎ (other.offset + other.allocated ≤ place.offset)

-- a sector isn't in two places of a metaslab that are apart
not_in_both : (shape : VdevShape) (place other : Dva) (s : ℕ) → metaslab_of shape other ≡ metaslab_of shape place → AreOffsetsApart place other
    → names (run_at shape place) s ≡ true → ¬ (names (run_at shape other) s ≡ true)
not_in_both shape place other s same apart in_place in_other =
    let size : ℕ = metaslab_sectors shape in
    let split : other.offset / size * size + other.offset % size ≡ other.offset = div-add-mod' other.offset size in
    let split' : place.offset / size * size + place.offset % size ≡ place.offset = div-add-mod' place.offset size in
    let rows : other.offset / size * size ≡ place.offset / size * size = ap (λ n. n * size) same in
    let one = named (run_at shape place) s in_place in
    let two = named (run_at shape other) s in_other in
    elim apart [
      | inl before ↦ absurd (omega (arith, before, split, split', rows, one.0, one.1, two.0, two.1))
      | inr after ↦ absurd (omega (arith, after, split, split', rows, one.0, one.1, two.0, two.1))
    ]

each_after : (is : State → Type 0) (shape : VdevShape) (old new : List Space) (place other : Dva) (from to : State)
    → ChangesIn old new (metaslab_of shape place) (run_at shape place) from to → is to ⊎ AreOffsetsApart place other
    → EachSector is old shape other → EachSector is new shape other
each_after is shape old new place other from to change why held = elim (cases_eq (metaslab_of shape other) (metaslab_of shape place)) [
  | inr elsewhere ↦ record {
    metaslab = held.metaslab;
    found = ap (λ xs. slice_get xs (metaslab_of shape other)) change.rest
        ∙ slice_get-set_other old (metaslab_of shape place) (metaslab_of shape other) change.later (λ same. elsewhere (sym same)) ∙ held.found;
    each = held.each;
  }
  | inl here ↦
      let same : held.metaslab ≡ change.space = same_some held.metaslab change.space (sym held.found ∙ ap (λ n. slice_get old n) here ∙ change.found) in
      record {
        metaslab = change.later;
        found = ap (λ xs. slice_get xs (metaslab_of shape other)) change.rest
            ∙ ap (λ n. slice_get (slice_set old (metaslab_of shape place) change.later) n) here
            ∙ slice_get-set_found old (metaslab_of shape place) change.space change.later change.found;
        each = λ s in_other. elim (either (names (run_at shape place) s)) [
          | inr unnamed ↦
              subst is (sym (change.changes.states s ∙ if_no (names (run_at shape place) s) to (state change.space s) unnamed))
              (subst (λ (m : Space). is (state m s)) same (held.each s in_other))
          | inl in_place ↦ elim why [
            | inl holds ↦ subst is (sym (change.changes.states s ∙ if_yes (names (run_at shape place) s) to (state change.space s) in_place)) holds
            | inr apart ↦ absurd (not_in_both shape place other s here apart in_place in_other)
          ]
        ];
      }
]

within_vdev : (is : State → Type 0) (to : State) (place other : Dva) → other.vdev ≡ place.vdev → is to ⊎ ArePlacesApart place other → is to ⊎ AreOffsetsApart place other
within_vdev is to place other here (inl holds) = inl holds
within_vdev is to place other here (inr (inl differ)) = absurd (differ (sym here))
within_vdev is to place other here (inr (inr apart)) = inr apart

-- what holds of a place's sectors holds still, if it holds of those that changed, or none of them did
pub lies_after : (is : State → Type 0) (spaces after : List VdevSpace) (place : Dva) (from to : State) → ChangesAt spaces place from to after
    → (sectors : ℕ) (other : Dva) → is to ⊎ ArePlacesApart place other → LiesOn is spaces planned sectors other → LiesOn is after planned sectors other
lies_after is spaces after place from to at sectors other why lies =
    let new : VdevSpace = record at.space { planned = at.later } in
    elim (cases_eq other.vdev place.vdev) [
      | inr elsewhere ↦ record {
        some = lies.some;
        space = lies.space;
        found = ap (λ xs. slice_get xs other.vdev) at.rest ∙ slice_get-set_other spaces place.vdev other.vdev new (λ same. elsewhere (sym same)) ∙ lies.found;
        is_place = lies.is_place;
        each = lies.each;
      }
      | inl here ↦
          let same : lies.space ≡ at.space = same_some lies.space at.space (sym lies.found ∙ ap (λ n. slice_get spaces n) here ∙ at.found) in
          let P : VdevSpace → Type 0 = λ s. EachSector is (planned s) s.shape other in
          let Q : VdevSpace → Type 0 = λ s. IsPlace s.shape sectors other in
          record {
            some = lies.some;
            space = new;
            found = ap (λ xs. slice_get xs other.vdev) at.rest ∙ ap (λ n. slice_get (slice_set spaces place.vdev new) n) here
                ∙ slice_get-set_found spaces place.vdev at.space new at.found;
            is_place = subst Q same lies.is_place;
            each = each_after is at.space.shape (planned at.space) at.later place other from to at.changes (within_vdev is to place other here why) (subst P same lies.each);
          }
    ]

-- the sectors that changed are used so
pub lies_changed : (spaces after : List VdevSpace) (place : Dva) (from to : State) → (at : ChangesAt spaces place from to after) → (sectors : ℕ) → 0 < sectors
    → IsPlace at.space.shape sectors place → LiesOn (λ s. s ≡ to) after planned sectors place
lies_changed spaces after place from to at sectors some is_place =
    let new : VdevSpace = record at.space { planned = at.later } in
    record {
      some = some;
      space = new;
      found = ap (λ xs. slice_get xs place.vdev) at.rest ∙ slice_get-set_found spaces place.vdev at.space new at.found;
      is_place = is_place;
      each = record {
        metaslab = at.changes.later;
        found = ap (λ xs. slice_get xs (metaslab_of at.space.shape place)) at.changes.rest
            ∙ slice_get-set_found (planned at.space) (metaslab_of at.space.shape place) at.changes.space at.changes.later at.changes.found;
        each = λ s in_place. at.changes.changes.states s ∙ if_yes (names (run_at at.space.shape place) s) to (state at.changes.space s) in_place;
      };
    }

-- ---- places that are taken

pub lies_chosen : (is : State → Type 0) (spaces : List VdevSpace) (taken : List Dva) (n copies : ℕ) (places : List Dva) (after : List VdevSpace)
    → AreChosen spaces taken n copies places after → is InUse → (sectors : ℕ) (other : Dva) → LiesOn is spaces planned sectors other → LiesOn is after planned sectors other
lies_chosen is spaces taken n copies [] after same holds sectors other lies = subst (λ xs. LiesOn is xs planned sectors other) (sym same) lies
lies_chosen is spaces taken n copies (place ∷ places) after (chosen, mid, too, rest) holds sectors other lies =
    lies_chosen is mid (taken ++ place ∷ []) n copies places after rest holds sectors other
    (lies_after is spaces mid place Free InUse (take_changes spaces mid place too) sectors other (inl holds) lies)

pub lies_placed : (is : State → Type 0) (spaces : List VdevSpace) (placed : List Placed) (after : List VdevSpace) → HavePlaced spaces placed after → is InUse
    → (sectors : ℕ) (other : Dva) → LiesOn is spaces planned sectors other → LiesOn is after planned sectors other
lies_placed is spaces [] after same holds sectors other lies = subst (λ xs. LiesOn is xs planned sectors other) (sym same) lies
lies_placed is spaces (block ∷ placed) after (mid, chosen, rest) holds sectors other lies =
    lies_placed is mid placed after rest holds sectors other (lies_chosen is spaces [] block.sectors block.copies block.places mid chosen holds sectors other lies)

pub places_spare : PlacesSpare
places_spare test spaces after placed block holds placed_are lies i place at =
    lies_placed (Passes test) spaces placed after placed_are holds block.property.sectors place (lies i place at)

-- each place that was taken is in use
pub chosen_in_use : (spaces : List VdevSpace) (taken : List Dva) (sectors copies : ℕ) (places : List Dva) (after : List VdevSpace) → 0 < sectors
    → AreChosen spaces taken sectors copies places after → (i : ℕ) (place : Dva) → slice_get places i ≡ Some place → LiesOn IsInUse after planned sectors place
chosen_in_use spaces taken sectors copies [] after some same i place at = absurd (cc)
chosen_in_use spaces taken sectors copies (first ∷ places) after some (chosen, mid, too, rest) zero place at =
    let is : first ≡ place = same_some first place at in
    let same : chosen.space ≡ too.space = same_some chosen.space too.space (sym chosen.found ∙ too.found) in
    let P : VdevSpace → Type 0 = λ s. IsPlace s.shape sectors first in
    let here : LiesOn IsInUse mid planned sectors first =
    lies_changed spaces mid first Free InUse (take_changes spaces mid first too) sectors some (subst P same chosen.free.is_place) in
    subst (λ p. LiesOn IsInUse after planned sectors p) is
    (lies_chosen IsInUse mid (taken ++ first ∷ []) sectors copies places after rest refl sectors first here)
chosen_in_use spaces taken sectors copies (first ∷ places) after some (chosen, mid, too, rest) (suc i) place at =
    chosen_in_use mid (taken ++ first ∷ []) sectors copies places after some rest i place at

-- ---- copies that are given back

-- each of the copies that are given back is released in a way of which that holds, or is apart from the place
abbrev pub Spare : (State → Type 0) → List CopyAt → ℕ → Dva → Type 0
Spare is copies group other = (copy : CopyAt) → Contains copies copy → is (Released group) ⊎ ArePlacesApart copy.place other

pub lies_released : (is : State → Type 0) (spaces : List VdevSpace) (copies : List CopyAt) (group : ℕ) (after : List VdevSpace)
    → AreReleased spaces copies group after → (sectors : ℕ) (other : Dva) → Spare is copies group other
    → LiesOn is spaces planned sectors other → LiesOn is after planned sectors other
lies_released is spaces [] group after same sectors other spare lies = subst (λ xs. LiesOn is xs planned sectors other) (sym same) lies
lies_released is spaces (copy ∷ copies) group after (mid, one, rest) sectors other spare lies =
    lies_released is mid copies group after rest sectors other (λ next held. spare next (Contains-append_right (copy ∷ []) copies next held))
    (lies_after is spaces mid copy.place InUse (Released group) (release_changes spaces mid copy group one) sectors other
    (spare copy (0, omega arith, refl)) lies)
