-- The choice of places.
use Rattle.std.proofs.Common.{ℕ, zero, suc, ◌≡◌, inl, inr, ◌+◌, ◌<◌, ◌≤◌, Some, None, Option, IfSome, IfNone, List, [], ◌∷◌, ◌++◌, length, get_or, refl, sym, ap, subst, ◌∙◌, arith}
use Rattle.std.specs.Prelude.{IsSomeAnd}
use Rattle.std.specs.List.{slice_get}
use Rattle.std.proofs.lemmas.Bool.{cases_lt}
use Rattle.std.proofs.lemmas.List.{append-nil, append_assoc}
use Rattle.block_pointer.specs.declared.dva.Dva.{Dva}
use Rattle.raidz_map.specs.Layout.{asize}
use Rattle.raidz_io.proofs.Written.{same_some}
use Rattle.block_store.specs.declared.choice.Wanted.{Wanted}
use Rattle.block_store.specs.declared.choice.Spread.TheVariants.{Vdevs, Metaslabs, Anywhere}
use Rattle.block_store.specs.Spaces.{VdevSpace}
use Rattle.space_map.proofs.RunLemmas.{is_named}
use Rattle.metaslab.specs.Calls.{HasFreeRun}
use Rattle.block_store.specs.Places.{planned, run_at, HasRoomIn, HasRoomFor, IsInVdev, IsInMetaslab, MayTake, IsFound, NoneIsFound, GoesTo, IsTakenIn, IsChosen, IsTakenToo, AreChosen, NoPlaceIsLeft}
use Rattle.block_store.specs.Shapes.{metaslabs, metaslab_of, sector_of, IsInRegion}

-- an item of a list
pub at_item : {X : Type 0} (xs : List X) (i : ℕ) (x : X) → i < length xs → x ≡ get_or xs i x → slice_get xs i ≡ Some x
at_item [] i x within is = absurd (omega arith)
at_item (y ∷ ys) zero x within is = ap Some (sym is)
at_item (y ∷ ys) (suc i) x within is = at_item ys i x (omega arith) is

-- no metaslab of the vdevs from this one on and before that one has room and may be taken
abbrev pub NoneBetween : List VdevSpace → List Dva → Wanted → ℕ → ℕ → Type 0
NoneBetween spaces taken wanted first n =
    (v metaslab : ℕ) → first ≤ v → v < n → (there : HasRoomFor spaces wanted.sectors wanted.copies v metaslab)
    → ¬ MayTake there.room.space.shape taken v metaslab wanted.spread

pub none_of_one_more : (spaces : List VdevSpace) (taken : List Dva) (wanted : Wanted) (first n : ℕ) (space : VdevSpace)
    → NoneBetween spaces taken wanted first n → slice_get spaces n ≡ Some space
    → ((metaslab : ℕ) → metaslab < metaslabs space.shape → HasRoomIn space metaslab wanted.sectors → IsInRegion space.shape wanted.copies metaslab
    → ¬ MayTake space.shape taken n metaslab wanted.spread)
    → NoneBetween spaces taken wanted first (n + 1)
none_of_one_more spaces taken wanted first n space before found here v metaslab from below there may =
    let room = there.room in
    elim (cases_lt v n) [
      | inl less ↦ before v metaslab from less there may
      | inr not_less ↦
          let same_v : v ≡ n = omega (arith, below, not_less) in
          let same : room.space ≡ space = same_some room.space space (sym room.found ∙ ap (λ k. slice_get spaces k) same_v ∙ found) in
          let P : VdevSpace → Type 0 = λ s. metaslab < metaslabs s.shape in
          let Q : VdevSpace → Type 0 = λ s. HasRoomIn s metaslab wanted.sectors in
          let T : VdevSpace → Type 0 = λ s. IsInRegion s.shape wanted.copies metaslab in
          let R : VdevSpace → Type 0 = λ s. MayTake s.shape taken v metaslab wanted.spread in
          let M : ℕ → Type 0 = λ k. MayTake space.shape taken k metaslab wanted.spread in
          here metaslab (subst P same room.is_there) (subst Q same room.room) (subst T same there.region) (subst M same_v (subst R same may))
    ]

-- on no vdev, where on none from one on and on none before it
pub none_at_all : (spaces : List VdevSpace) (taken : List Dva) (wanted : Wanted) (start : ℕ) → NoneBetween spaces taken wanted start (length spaces)
    → NoneBetween spaces taken wanted 0 start → NoneIsFound spaces taken wanted.sectors wanted.copies wanted.spread
none_at_all spaces taken wanted start behind front v metaslab there may =
    elim (cases_lt v start) [
      | inl less ↦ front v metaslab (omega arith) less there may
      | inr not_less ↦ behind v metaslab (omega (arith, not_less)) (within spaces v there.room.space there.room.found) there may
    ]
  where
    within : (xs : List VdevSpace) (k : ℕ) (x : VdevSpace) → slice_get xs k ≡ Some x → k < length xs
    within [] k x is = absurd (cc)
    within (y ∷ ys) zero x is = omega arith
    within (y ∷ ys) (suc k) x is = omega (arith, within ys k x is)

-- what a pass finds is chosen where no pass before it found anything
pub chosen_elsewhere : (spaces : List VdevSpace) (taken : List Dva) (sectors copies v metaslab : ℕ) → IsFound spaces taken sectors copies Vdevs v metaslab
    → GoesTo spaces taken sectors copies v metaslab
chosen_elsewhere spaces taken sectors copies v metaslab found = record {
  there = found.there;
  other_vdev = λ w other there free. found.may;
  other_metaslab = λ w other there free (place, held, at, slab). found.may (place, held, at);
}

pub chosen_apart : (spaces : List VdevSpace) (taken : List Dva) (sectors copies v metaslab : ℕ) → IsFound spaces taken sectors copies Metaslabs v metaslab
    → NoneIsFound spaces taken sectors copies Vdevs → GoesTo spaces taken sectors copies v metaslab
chosen_apart spaces taken sectors copies v metaslab found none = record {
  there = found.there;
  other_vdev = λ w other there free. absurd (none w other there free);
  other_metaslab = λ w other there free. found.may;
}

pub chosen_anywhere : (spaces : List VdevSpace) (taken : List Dva) (sectors copies v metaslab : ℕ) → IsFound spaces taken sectors copies Anywhere v metaslab
    → NoneIsFound spaces taken sectors copies Vdevs → NoneIsFound spaces taken sectors copies Metaslabs → GoesTo spaces taken sectors copies v metaslab
chosen_anywhere spaces taken sectors copies v metaslab found none none' = record {
  there = found.there;
  other_vdev = λ w other there free. absurd (none w other there free);
  other_metaslab = λ w other there free. absurd (none' w other there free);
}

-- the place that is taken there is chosen
pub is_chosen : (spaces : List VdevSpace) (taken : List Dva) (sectors copies v metaslab : ℕ) (place : Dva) (after : List VdevSpace)
    → GoesTo spaces taken sectors copies v metaslab → IsTakenIn spaces sectors v metaslab place after → IsChosen spaces taken sectors copies place
is_chosen spaces taken sectors copies v metaslab place after goes took =
    let space : VdevSpace = took.taken.space in
    let same : goes.there.room.space ≡ space = same_some goes.there.room.space space
    (sym goes.there.room.found ∙ ap (λ n. slice_get spaces n) (sym took.vdev_is) ∙ took.taken.found) in
    record {
      space = space;
      found = took.taken.found;
      free = record {
        is_place = took.is_place;
        region = subst (λ n. IsInRegion space.shape copies n) (sym took.metaslab_is)
            (subst (λ (s : VdevSpace). IsInRegion s.shape copies metaslab) same goes.there.region);
        free = record { metaslab = took.taken.taken.space; found = took.taken.taken.found; each = took.taken.taken.was.each };
      };
      other_vdev = λ w other there free is. goes.other_vdev w other there free (subst (λ n. IsInVdev taken n) took.vdev_is is);
      other_metaslab = λ w other there free is. goes.other_metaslab w other there free
          (subst (λ (s : VdevSpace). IsInMetaslab s.shape taken v metaslab) (sym same)
          (subst (λ n. IsInMetaslab space.shape taken v n) took.metaslab_is
          (subst (λ n. IsInMetaslab space.shape taken n (metaslab_of space.shape place)) took.vdev_is is)));
    }

-- a place more
pub AreChosen-push : (spaces : List VdevSpace) (taken : List Dva) (sectors copies : ℕ) (places : List Dva) (mid : List VdevSpace) (place : Dva) (after : List VdevSpace)
    → AreChosen spaces taken sectors copies places mid → IsChosen mid (taken ++ places) sectors copies place → IsTakenToo mid place after
    → AreChosen spaces taken sectors copies (places ++ place ∷ []) after
AreChosen-push spaces taken sectors copies [] mid place after is chosen too =
    let none : taken ++ [] ≡ taken = append-nil taken in
    let P : List VdevSpace → Type 0 = λ s. IsChosen s taken sectors copies place in
    let Q : List VdevSpace → Type 0 = λ s. IsTakenToo s place after in
    let C : List Dva → Type 0 = λ t. IsChosen mid t sectors copies place in
    (subst P is (subst C none chosen), after, subst Q is too, refl)
AreChosen-push spaces taken sectors copies (first ∷ places) mid place after (chosen', next, too', rest) chosen too =
    let C : List Dva → Type 0 = λ t. IsChosen mid t sectors copies place in
    let moved : taken ++ (first ∷ places) ≡ (taken ++ first ∷ []) ++ places = sym (append_assoc taken (first ∷ []) places) in
    (chosen', next, too', AreChosen-push next (taken ++ first ∷ []) sectors copies places mid place after rest (subst C moved chosen) too)

pub IfNone-map : {X : Type 0} (found : Option X) (P Q : Type 0) → (P → Q) → IfNone found P → IfNone found Q
IfNone-map (Some x) P Q f is = tt
IfNone-map None P Q f is = f is

some_and : {X : Type 0} (o : Option X) (x : X) (P : X → Type 0) → o ≡ Some x → P x → IsSomeAnd o P
some_and o x P is holds = subst (λ p. IsSomeAnd p P) (sym is) holds

-- where no metaslab of the region has room beside what is planned, no free place is left
pub no_place_left : (spaces : List VdevSpace) (sectors copies : ℕ) → ((v metaslab : ℕ) → ¬ HasRoomFor spaces sectors copies v metaslab) → NoPlaceIsLeft spaces sectors copies
no_place_left spaces sectors copies none place space found free = none place.vdev (metaslab_of space.shape place) (record {
  room = record {
    space = space;
    found = found;
    is_there = free.is_place.metaslab;
    room = some_and (slice_get (planned space) (metaslab_of space.shape place)) free.free.metaslab
        (λ metaslab. HasFreeRun metaslab (asize space.shape.vdev.geometry sectors)) free.free.found
        (sector_of space.shape place, λ s from before. free.free.each s (is_named (run_at space.shape place) s from (omega (arith, before, free.is_place.allocated))));
  };
  region = free.region;
})

pub IfSome-map : {X : Type 0} (found : Option X) (P Q : X → Type 0) → ((x : X) → P x → Q x) → IfSome found P → IfSome found Q
IfSome-map (Some x) P Q f is = f x is
IfSome-map None P Q f is = tt
