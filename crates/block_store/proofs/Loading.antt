-- Space maps that are taken in.
use Rattle.std.proofs.Common.{Bool, true, false, if◌then◌else◌, ltb, ℕ, zero, suc, ◌≡◌, inl, inr, ◌<◌, ◌≤◌, Some, List, [], ◌∷◌, length, All, refl, sym, ap, subst, ◌∙◌, arith, get_or}
use Rattle.std.specs.Prelude.{slice_set}
use Rattle.std.specs.Bool.{OnTrue, OnFalse}
use Rattle.std.specs.List.{slice_get}
use Rattle.std.proofs.lemmas.Bool.{cases_lt, cases_eq}
use Rattle.std.proofs.lemmas.Bool.Decides.{nat_tests}
use Rattle.std.proofs.lemmas.List.{length-set}
use Rattle.std.proofs.lemmas.List.Elements.{All-set}
use Rattle.std.proofs.lemmas.Option.{slice_get_read, slice_get_within}
use Rattle.block_pointer.specs.declared.dva.Dva.{Dva}
use Rattle.raidz_io.proofs.Written.{same_some}
use Rattle.space_map.specs.FreeRuns.{FreeRuns}
use Rattle.space_map.specs.Sectors.{contains, names}
use Rattle.space_map.proofs.RunLemmas.{named}
use Rattle.metaslab.specs.Space.{Space, state, sectors_of}
use Rattle.metaslab.specs.State.{State, Free, InUse}
use Rattle.metaslab.specs.Unused.{is_unused}
use Rattle.metaslab.specs.Maps.{AreWhollyFreeOf, HoldsAt, LoadsAt}
use Rattle.metaslab.specs.Spaces.{Spaces, GroupSpaces}
use Rattle.block_store.specs.declared.shape.VdevShape.{VdevShape}
use Rattle.block_store.specs.Accounts.{SectorAt, IsUsed}
use Rattle.block_store.specs.Maps.{group_of, HasMetaslab, HoldsIn, LoadsIn, IsElsewhere}
use Rattle.block_store.specs.Places.{Marks, shapes_of, run_at, EachSector}
use Rattle.block_store.specs.Places.{filled as filled_marks, planned as planned_marks}
use Rattle.block_store.specs.Shapes.{metaslab_of, metaslab_sectors, IsPlace, metaslabs}
use Rattle.block_store.specs.Spaces.{VdevSpace, AreMetaslabsOf}
use Rattle.block_store.specs.Uses.{LiesOn}
use Rattle.block_store.proofs.Slots.{sized_at}
use Rattle.block_store.proofs.Taking.{Grows, MoreTaken, map-set_same, slice_get-set_other, slice_get-set_found}

-- ---- a vdev's metaslabs

-- a set that fits a metaslab has as many sectors
pub size_is : (shape : VdevShape) (group : GroupSpaces) (metaslab sectors : ℕ) → AreMetaslabsOf shape group.kept → HoldsAt (AreWhollyFreeOf sectors) group metaslab → sectors ≡ metaslab_sectors shape
size_is shape group metaslab sectors kept is = sym is.holds.0.size ∙ sized_at group.kept (metaslab_sectors shape) metaslab is.spaces.kept kept.1 is.found_kept

set_metaslabs : (shape : VdevShape) (old new : List Space) (metaslab : ℕ) (later : Space) → new ≡ slice_set old metaslab later → sectors_of later ≡ metaslab_sectors shape → AreMetaslabsOf shape old → AreMetaslabsOf shape new
set_metaslabs shape old new metaslab later rest size is = (
  ap length rest ∙ length-set old metaslab later ∙ is.0,
  let P : List Space → Type 0 = λ xs. All (λ s. sectors_of s ≡ metaslab_sectors shape) xs in
      subst P (sym rest) (All-set (λ s. sectors_of s ≡ metaslab_sectors shape) old metaslab later size is.1),
)

pub loaded_space : (shape : VdevShape) (old new : GroupSpaces) (metaslab : ℕ) (free : FreeRuns) → free.sectors ≡ metaslab_sectors shape → LoadsAt old metaslab free new → AreMetaslabsOf shape old.kept → AreMetaslabsOf shape old.planned
    → AreMetaslabsOf shape new.kept × AreMetaslabsOf shape new.planned
loaded_space shape old new metaslab free size loads kept planned =
    let kept_size : sectors_of loads.later.kept ≡ metaslab_sectors shape = loads.loaded.kept.sectors ∙ size in (
      set_metaslabs shape old.kept new.kept metaslab loads.later.kept (ap (λ (g : GroupSpaces). g.kept) loads.rest) kept_size kept,
      set_metaslabs shape old.planned new.planned metaslab loads.later.planned (ap (λ (g : GroupSpaces). g.planned) loads.rest) (ap sectors_of loads.loaded.planned ∙ kept_size) planned,
    )

-- so it is whatever the answer
pub still_space : (shape : VdevShape) (old new : GroupSpaces) (metaslab : ℕ) (free : FreeRuns) (result : Bool) → (result ≡ true → HoldsAt (AreWhollyFreeOf free.sectors) old metaslab) → OnTrue result (LoadsAt old metaslab free new) → OnFalse result (new ≡ old)
    → AreMetaslabsOf shape old.kept → AreMetaslabsOf shape old.planned → AreMetaslabsOf shape new.kept × AreMetaslabsOf shape new.planned
still_space shape old new metaslab free true was loads left kept planned = loaded_space shape old new metaslab free (size_is shape old metaslab free.sectors kept (was refl)) loads kept planned
still_space shape old new metaslab free false was loads left kept planned = subst (λ (g : GroupSpaces). AreMetaslabsOf shape g.kept × AreMetaslabsOf shape g.planned) (sym left) (kept, planned)

pub size_on_true : (shape : VdevShape) (group : GroupSpaces) (metaslab sectors : ℕ) (result : Bool) → AreMetaslabsOf shape group.kept → (result ≡ true → HoldsAt (AreWhollyFreeOf sectors) group metaslab)
    → OnTrue result (sectors ≡ metaslab_sectors shape)
size_on_true shape group metaslab sectors true kept was = size_is shape group metaslab sectors kept (was refl)
size_on_true shape group metaslab sectors false kept was = tt

-- ---- one of a store's

pub there_at : (spaces : List VdevSpace) (v metaslab : ℕ) (space : VdevSpace) → v < length spaces → space ≡ get_or spaces v space
    → (metaslab < metaslabs space.shape → HasMetaslab spaces v metaslab) × (HasMetaslab spaces v metaslab → metaslab < metaslabs space.shape)
there_at spaces v metaslab space below is =
    let found : slice_get spaces v ≡ Some space = slice_get_read spaces (length spaces) v space refl below is in (
      λ less. record { space = space; found = found; is_there = less },
      λ there. let same : there.space ≡ space = same_some there.space space (sym there.found ∙ found) in subst (λ (s : VdevSpace). metaslab < metaslabs s.shape) same there.is_there,
    )

pub none_there : (spaces : List VdevSpace) (v metaslab : ℕ) → length spaces ≤ v → ¬ HasMetaslab spaces v metaslab
none_there spaces v metaslab past there = absurd (let within = slice_get_within spaces v there.space there.found in omega arith)

pub into_spaces : (are : Spaces → Type 0) (spaces : List VdevSpace) (v metaslab : ℕ) (space : VdevSpace) → slice_get spaces v ≡ Some space → HoldsAt are (group_of space) metaslab → HoldsIn are spaces v metaslab
into_spaces are spaces v metaslab space found holds = record { space = space; found = found; holds = holds }

pub out_of_spaces : (are : Spaces → Type 0) (spaces : List VdevSpace) (v metaslab : ℕ) (space : VdevSpace) → slice_get spaces v ≡ Some space → HoldsIn are spaces v metaslab → HoldsAt are (group_of space) metaslab
out_of_spaces are spaces v metaslab space found is = subst (λ (s : VdevSpace). HoldsAt are (group_of s) metaslab) (same_some is.space space (sym is.found ∙ found)) is.holds

pub loads_in : (spaces : List VdevSpace) (v metaslab : ℕ) (free : FreeRuns) (space later : VdevSpace) (result : Bool) → slice_get spaces v ≡ Some space → (result ≡ true → HoldsAt (AreWhollyFreeOf free.sectors) (group_of space) metaslab)
    → OnTrue result (free.sectors ≡ metaslab_sectors space.shape) → OnTrue result (LoadsAt (group_of space) metaslab free (group_of later)) → later.shape ≡ space.shape
    → OnTrue result (LoadsIn spaces v metaslab free (slice_set spaces v later))
loads_in spaces v metaslab free space later true found was size loads shape = record { space = space; later = later; found = found; size = size; was_free = was refl; loads = loads; shape = shape; rest = refl }
loads_in spaces v metaslab free space later false found was size loads shape = tt

pub loads_shapes : (spaces : List VdevSpace) (v metaslab : ℕ) (free : FreeRuns) (after : List VdevSpace) → LoadsIn spaces v metaslab free after → shapes_of after ≡ shapes_of spaces
loads_shapes spaces v metaslab free after is = ap shapes_of is.rest ∙ map-set_same (λ s. s.shape) spaces v is.space is.later is.found is.shape

pub set_same_item : {X : Type 0} (xs : List X) (i : ℕ) (x : X) → slice_get xs i ≡ Some x → slice_set xs i x ≡ xs
set_same_item [] i x found = refl
set_same_item (z ∷ xs) zero x found = ap (λ h. h ∷ xs) (sym (same_some z x found))
set_same_item (z ∷ xs) (suc i) x found = ap (λ ys. z ∷ ys) (set_same_item xs i x found)

pub on_false_weaker : {P Q : Type 0} (b : Bool) → (P → Q) → OnFalse b P → OnFalse b Q
on_false_weaker true f h = h
on_false_weaker false f h = f h

-- ---- by the marks

-- by these marks a metaslab was wholly free, and its sectors are free or in use since; all others are as they were
pub record Loads (marks : Marks) (spaces : List VdevSpace) (v metaslab : ℕ) (after : List VdevSpace) : Type 0 where
  pub space : VdevSpace
  pub later : VdevSpace
  pub found : slice_get spaces v ≡ Some space
  pub shape : later.shape ≡ space.shape
  pub rest : after ≡ slice_set spaces v later
  pub before : Space
  pub now : Space
  pub was : slice_get (marks space) metaslab ≡ Some before
  pub set : marks later ≡ slice_set (marks space) metaslab now
  pub all_free : (s : ℕ) → s < metaslab_sectors space.shape → state before s ≡ Free
  pub past : (s : ℕ) → metaslab_sectors space.shape ≤ s → state now s ≡ InUse

pub none_past : (free : FreeRuns) (space : Space) (sectors s : ℕ) → sectors_of space ≡ sectors → sectors ≤ s → (contains free.runs s ≡ is_unused space s) → state space s ≡ (if contains free.runs s then Free else InUse) → state space s ≡ InUse
none_past free space sectors s size past unused is =
    let t : ltb s (sectors_of space) ≡ false = grind (arith, nat_tests) in
    let none : is_unused space s ≡ false = rw t refl in
    is ∙ rw (unused, none) refl

unfoldable pub loads_filled : (spaces : List VdevSpace) (v metaslab : ℕ) (free : FreeRuns) (after : List VdevSpace) → LoadsIn spaces v metaslab free after → Loads filled_marks spaces v metaslab after
loads_filled spaces v metaslab free after is =
    let loads = is.loads in
    let was = is.was_free in
    let same : was.spaces.kept ≡ loads.spaces.kept = same_some was.spaces.kept loads.spaces.kept (sym was.found_kept ∙ loads.found_kept) in
    record {
      space = is.space;
      later = is.later;
      found = is.found;
      shape = is.shape;
      rest = is.rest;
      before = loads.spaces.kept;
      now = loads.later.kept;
      was = loads.found_kept;
      set = ap (λ (g : GroupSpaces). g.kept) loads.rest;
      all_free = λ s below. subst (λ (x : Space). state x s ≡ Free) same (was.holds.0.free s (omega (arith, is.size)));
      past = λ s past. none_past free loads.later.kept (metaslab_sectors is.space.shape) s (loads.loaded.kept.sectors ∙ is.size) past (loads.loaded.unused.1 s) (loads.loaded.kept.states s);
    }

unfoldable pub loads_planned : (spaces : List VdevSpace) (v metaslab : ℕ) (free : FreeRuns) (after : List VdevSpace) → LoadsIn spaces v metaslab free after → Loads planned_marks spaces v metaslab after
loads_planned spaces v metaslab free after is =
    let loads = is.loads in
    let was = is.was_free in
    let same : was.spaces.planned ≡ loads.spaces.planned = same_some was.spaces.planned loads.spaces.planned (sym was.found_planned ∙ loads.found_planned) in
    record {
      space = is.space;
      later = is.later;
      found = is.found;
      shape = is.shape;
      rest = is.rest;
      before = loads.spaces.planned;
      now = loads.later.planned;
      was = loads.found_planned;
      set = ap (λ (g : GroupSpaces). g.planned) loads.rest;
      all_free = λ s below. subst (λ (x : Space). state x s ≡ Free) same (was.holds.1.free s (omega (arith, is.size)));
      past = λ s past. ap (λ (x : Space). state x s) loads.loaded.planned
          ∙ none_past free loads.later.kept (metaslab_sectors is.space.shape) s (loads.loaded.kept.sectors ∙ is.size) past (loads.loaded.unused.1 s) (loads.loaded.kept.states s);
    }

-- the vdev with the metaslab stands in its place
pub at_vdev : (marks : Marks) (spaces : List VdevSpace) (v metaslab : ℕ) (after : List VdevSpace) → (l : Loads marks spaces v metaslab after) → slice_get after v ≡ Some l.later
at_vdev marks spaces v metaslab after l = ap (λ xs. slice_get xs v) l.rest ∙ slice_get-set_found spaces v l.space l.later l.found

pub other_vdev : (marks : Marks) (spaces : List VdevSpace) (v metaslab : ℕ) (after : List VdevSpace) → (l : Loads marks spaces v metaslab after) → (w : ℕ) → ¬ (w ≡ v) → slice_get after w ≡ slice_get spaces w
other_vdev marks spaces v metaslab after l w other = ap (λ xs. slice_get xs w) l.rest ∙ slice_get-set_other spaces v w l.later (λ same. other (sym same))

pub at_metaslab : (marks : Marks) (spaces : List VdevSpace) (v metaslab : ℕ) (after : List VdevSpace) → (l : Loads marks spaces v metaslab after) → slice_get (marks l.later) metaslab ≡ Some l.now
at_metaslab marks spaces v metaslab after l = ap (λ xs. slice_get xs metaslab) l.set ∙ slice_get-set_found (marks l.space) metaslab l.before l.now l.was

pub other_metaslab : (marks : Marks) (spaces : List VdevSpace) (v metaslab : ℕ) (after : List VdevSpace) → (l : Loads marks spaces v metaslab after) → (m : ℕ) → ¬ (m ≡ metaslab)
    → slice_get (marks l.later) m ≡ slice_get (marks l.space) m
other_metaslab marks spaces v metaslab after l m other = ap (λ xs. slice_get xs m) l.set ∙ slice_get-set_other (marks l.space) metaslab m l.now (λ same. other (sym same))

in_use_is_not_free : ¬ (InUse ≡ Free)
in_use_is_not_free is = absurd (cc)

-- no sector becomes free that was not
loads_take : (marks : Marks) (spaces : List VdevSpace) (v metaslab : ℕ) (after : List VdevSpace) → (l : Loads marks spaces v metaslab after) → MoreTaken (marks l.space) (marks l.later)
loads_take marks spaces v metaslab after l m found_one found = elim (cases_eq m metaslab) [
  | inr other ↦ (found_one, other_metaslab marks spaces v metaslab after l m other ∙ found, λ s is. is)
  | inl this ↦
      let same : found_one ≡ l.before = same_some found_one l.before (sym found ∙ ap (λ n. slice_get (marks l.space) n) this ∙ l.was) in (
        l.now,
        ap (λ n. slice_get (marks l.later) n) this ∙ at_metaslab marks spaces v metaslab after l,
        λ s is free. elim (cases_lt s (metaslab_sectors l.space.shape)) [
          | inl inside ↦ is (ap (λ (x : Space). state x s) same ∙ l.all_free s inside)
          | inr out ↦ in_use_is_not_free (sym (l.past s out) ∙ free)
        ],
      )
]

pub loads_grow : (marks : Marks) (spaces : List VdevSpace) (v metaslab : ℕ) (after : List VdevSpace) → shapes_of after ≡ shapes_of spaces → Loads marks spaces v metaslab after → Grows spaces after marks marks
loads_grow marks spaces v metaslab after shapes l = record {
  shapes = shapes;
  more = λ w space new found found'. elim (cases_eq w v) [
    | inr other ↦
        let same : new ≡ space = same_some new space (sym found' ∙ other_vdev marks spaces v metaslab after l w other ∙ found) in
        subst (λ (x : VdevSpace). MoreTaken (marks space) (marks x)) (sym same) (λ m one at. (one, at, λ s is. is))
    | inl here ↦
        let is_old : space ≡ l.space = same_some space l.space (sym found ∙ ap (λ n. slice_get spaces n) here ∙ l.found) in
        let is_new : new ≡ l.later = same_some new l.later (sym found' ∙ ap (λ n. slice_get after n) here ∙ at_vdev marks spaces v metaslab after l) in
        subst (λ (x : VdevSpace). MoreTaken (marks space) (marks x)) (sym is_new) (subst (λ (x : VdevSpace). MoreTaken (marks x) (marks l.later)) (sym is_old) (loads_take marks spaces v metaslab after l))
  ];
}

-- ---- elsewhere all is as it was

pub elsewhere_stays : (is : State → Type 0) (marks : Marks) (spaces : List VdevSpace) (v metaslab : ℕ) (after : List VdevSpace) → Loads marks spaces v metaslab after → (at : SectorAt) → IsElsewhere v metaslab at
    → IsUsed is spaces marks at → IsUsed is after marks at
elsewhere_stays is marks spaces v metaslab after l at out used = elim (cases_eq at.vdev v) [
  | inr other ↦ record { space = used.space; found = other_vdev marks spaces v metaslab after l at.vdev other ∙ used.found; metaslab = used.metaslab; there = used.there; within = used.within; used = used.used }
  | inl here ↦
      let same : used.space ≡ l.space = same_some used.space l.space (sym used.found ∙ ap (λ n. slice_get spaces n) here ∙ l.found) in
      record {
        space = l.later;
        found = ap (λ n. slice_get after n) here ∙ at_vdev marks spaces v metaslab after l;
        metaslab = used.metaslab;
        there = other_metaslab marks spaces v metaslab after l at.metaslab (λ this. out (here, this)) ∙ ap (λ (x : VdevSpace). slice_get (marks x) at.metaslab) (sym same) ∙ used.there;
        within = used.within;
        used = used.used;
      }
]

pub elsewhere_was : (is : State → Type 0) (marks : Marks) (spaces : List VdevSpace) (v metaslab : ℕ) (after : List VdevSpace) → Loads marks spaces v metaslab after → (at : SectorAt) → IsElsewhere v metaslab at
    → IsUsed is after marks at → IsUsed is spaces marks at
elsewhere_was is marks spaces v metaslab after l at out used = elim (cases_eq at.vdev v) [
  | inr other ↦ record { space = used.space; found = sym (other_vdev marks spaces v metaslab after l at.vdev other) ∙ used.found; metaslab = used.metaslab; there = used.there; within = used.within; used = used.used }
  | inl here ↦
      let same : used.space ≡ l.later = same_some used.space l.later (sym used.found ∙ ap (λ n. slice_get after n) here ∙ at_vdev marks spaces v metaslab after l) in
      record {
        space = l.space;
        found = ap (λ n. slice_get spaces n) here ∙ l.found;
        metaslab = used.metaslab;
        there = sym (other_metaslab marks spaces v metaslab after l at.metaslab (λ this. out (here, this))) ∙ ap (λ (x : VdevSpace). slice_get (marks x) at.metaslab) (sym same) ∙ used.there;
        within = used.within;
        used = used.used;
      }
]

-- ---- a place with a sector that wasn't free is elsewhere

in_metaslab : (shape : VdevShape) (sectors s : ℕ) (place : Dva) → IsPlace shape sectors place → names (run_at shape place) s ≡ true → s < metaslab_sectors shape
in_metaslab shape sectors s place is named_it = let n = named (run_at shape place) s named_it in omega (arith, n.1, is.one)

no_sector : (other : State → Type 0) (by : Marks) (spaces : List VdevSpace) (v metaslab : ℕ) (after : List VdevSpace) → (l : Loads by spaces v metaslab after) → ¬ other Free → (sectors : ℕ) (place : Dva)
    → (lies : LiesOn other spaces by sectors place) → place.vdev ≡ v → metaslab_of l.space.shape place ≡ metaslab → (s : ℕ) → names (run_at l.space.shape place) s ≡ true → ⊥
no_sector other by spaces v metaslab after l taken sectors place lies here this s named_it =
    let same : lies.space ≡ l.space = same_some lies.space l.space (sym lies.found ∙ ap (λ n. slice_get spaces n) here ∙ l.found) in
    let P : VdevSpace → Type 0 = λ x. EachSector other (by x) x.shape place in
    let Q : VdevSpace → Type 0 = λ x. IsPlace x.shape sectors place in
    let each : P l.space = subst P same lies.each in
    let place_is : Q l.space = subst Q same lies.is_place in
    let one : each.metaslab ≡ l.before = same_some each.metaslab l.before (sym each.found ∙ ap (λ n. slice_get (by l.space) n) this ∙ l.was) in
    let free : state each.metaslab s ≡ Free = ap (λ (x : Space). state x s) one ∙ l.all_free s (in_metaslab l.space.shape sectors s place place_is named_it) in
    taken (subst other free (each.each s named_it))

each_after : (is : State → Type 0) (marks : Marks) (spaces : List VdevSpace) (v metaslab : ℕ) (after : List VdevSpace) → (l : Loads marks spaces v metaslab after) → (place : Dva)
    → ((metaslab_of l.space.shape place ≡ metaslab) → (s : ℕ) → names (run_at l.space.shape place) s ≡ true → ⊥) → EachSector is (marks l.space) l.space.shape place → EachSector is (marks l.later) l.space.shape place
each_after is marks spaces v metaslab after l place none each = elim (cases_eq (metaslab_of l.space.shape place) metaslab) [
  | inr other ↦ record { metaslab = each.metaslab; found = other_metaslab marks spaces v metaslab after l (metaslab_of l.space.shape place) other ∙ each.found; each = each.each }
  | inl this ↦ record {
    metaslab = l.now;
    found = ap (λ n. slice_get (marks l.later) n) this ∙ at_metaslab marks spaces v metaslab after l;
    each = λ s named_it. absurd (none this s named_it);
  }
]

-- what holds of a place's sectors holds still, where by some marks none of them was free
pub loads_lie : (is other : State → Type 0) (marks by : Marks) (spaces : List VdevSpace) (v metaslab : ℕ) (after : List VdevSpace) → Loads marks spaces v metaslab after → Loads by spaces v metaslab after → ¬ other Free
    → (sectors : ℕ) (place : Dva) → LiesOn other spaces by sectors place → LiesOn is spaces marks sectors place → LiesOn is after marks sectors place
loads_lie is other marks by spaces v metaslab after l k taken sectors place by_lies lies = elim (cases_eq place.vdev v) [
  | inr away ↦ record { some = lies.some; space = lies.space; found = other_vdev marks spaces v metaslab after l place.vdev away ∙ lies.found; is_place = lies.is_place; each = lies.each }
  | inl here ↦
      let same : lies.space ≡ l.space = same_some lies.space l.space (sym lies.found ∙ ap (λ n. slice_get spaces n) here ∙ l.found) in
      let alike : k.space ≡ l.space = same_some k.space l.space (sym k.found ∙ l.found) in
      let P : VdevSpace → Type 0 = λ x. EachSector is (marks x) x.shape place in
      let Q : VdevShape → Type 0 = λ x. IsPlace x sectors place in
      let R : VdevShape → Type 0 = λ x. EachSector is (marks l.later) x place in
      let N : VdevSpace → Type 0 = λ x. (metaslab_of x.shape place ≡ metaslab) → (s : ℕ) → names (run_at x.shape place) s ≡ true → ⊥ in
      let none : N l.space = subst N alike (λ this s named_it. no_sector other by spaces v metaslab after k taken sectors place by_lies here this s named_it) in
      record {
        some = lies.some;
        space = l.later;
        found = ap (λ n. slice_get after n) here ∙ at_vdev marks spaces v metaslab after l;
        is_place = subst Q (ap (λ (x : VdevSpace). x.shape) same ∙ sym l.shape) lies.is_place;
        each = subst R (sym l.shape) (each_after is marks spaces v metaslab after l place none (subst P same lies.each));
      }
]
