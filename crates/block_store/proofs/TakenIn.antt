-- Copies that are taken in, by the marks of what is stored and of what is planned alike.
use Rattle.std.proofs.Common.{Bool, true, false, if◌then◌else◌, ℕ, zero, suc, ◌≡◌, ◌⊎◌, inl, inr, ◌<◌, Some, List, [], ◌∷◌, refl, sym, ap, subst, ◌∙◌, arith}
use Rattle.std.specs.Prelude.{slice_set, map, Contains}
use Rattle.std.specs.List.{slice_get}
use Rattle.std.proofs.lemmas.Bool.{cases_eq}
use Rattle.std.proofs.lemmas.List.Elements.{Contains-append_cases}
use Rattle.block_pointer.specs.declared.dva.Dva.{Dva}
use Rattle.raidz_io.proofs.Written.{same_some}
use Rattle.space_map.specs.declared.entry.Run.{Run}
use Rattle.space_map.specs.Sectors.{names}
use Rattle.space_map.proofs.RunLemmas.{named}
use Rattle.metaslab.specs.Space.{Space, state, sectors_of}
use Rattle.metaslab.specs.State.{State, Free, InUse}
use Rattle.metaslab.specs.Spaces.{ChangesIn}
use Rattle.block_store.specs.declared.shape.VdevShape.{VdevShape}
use Rattle.block_store.specs.Accounts.{SectorAt, IsUsed}
use Rattle.block_store.specs.Opened.{TakesIn, TakeIn}
use Rattle.block_store.specs.Places.{Marks, shapes_of, run_at, HaveMarks, EachSector, IsFree, IsTaken, IsChosen, IsTakenToo, ArePlacesApart, IsPlaceFor}
use Rattle.block_store.specs.Places.{filled as filled_marks, planned as planned_marks}
use Rattle.block_store.specs.Releases.{CopyAt}
use Rattle.block_store.specs.Shapes.{metaslab_of, IsPlace}
use Rattle.block_store.specs.Spaces.{VdevSpace}
use Rattle.block_store.specs.Uses.{LiesOn, IsInUse}
use Rattle.block_store.proofs.Accounting.{OnPlace, on_place_too, changed_uses}
use Rattle.block_store.proofs.Taking.{Grows, Step, step, grows_on, same_grows, place_for_too, taken_too, taken_some, shapes_stay, found_too, slice_get-set_other, slice_get-set_found}
use Rattle.block_store.proofs.Uses.{ChangesAt, take_changes, lies_after, lies_changed}

if_yes : {X : Type 0} (test : Bool) (x y : X) → test ≡ true → (if test then x else y) ≡ x
if_yes true x y is = refl
if_yes false x y is = absurd (cc)

if_no : {X : Type 0} (test : Bool) (x y : X) → test ≡ false → (if test then x else y) ≡ y
if_no true x y is = absurd (cc)
if_no false x y is = refl

either : (test : Bool) → (test ≡ true) ⊎ (test ≡ false)
either true = inl refl
either false = inr refl

-- ---- vdevs as some marks have them

-- a vdev that has these marks as those of its plan, and nothing else
abbrev pub view_of : Marks → VdevSpace → VdevSpace
view_of marks space = record { shape = space.shape; kept = []; planned = marks space; pins = [] }

abbrev pub viewed : Marks → List VdevSpace → List VdevSpace
viewed marks spaces = map (view_of marks) spaces

pub viewed_shapes : (marks : Marks) (spaces : List VdevSpace) → shapes_of (viewed marks spaces) ≡ shapes_of spaces
viewed_shapes marks [] = refl
viewed_shapes marks (space ∷ spaces) = ap (λ shapes. space.shape ∷ shapes) (viewed_shapes marks spaces)

pub view_found : (marks : Marks) (spaces : List VdevSpace) (v : ℕ) (space : VdevSpace) → slice_get spaces v ≡ Some space → slice_get (viewed marks spaces) v ≡ Some (view_of marks space)
view_found marks [] v space found = absurd (cc)
view_found marks (s ∷ spaces) zero space found = ap (λ (x : VdevSpace). Some (view_of marks x)) (same_some s space found)
view_found marks (s ∷ spaces) (suc v) space found = view_found marks spaces v space found

pub into_view : (marks : Marks) (spaces : List VdevSpace) → HaveMarks spaces marks (viewed marks spaces) planned_marks
into_view marks spaces v space new found found' =
    ap planned_marks (same_some new (view_of marks space) (sym found' ∙ view_found marks spaces v space found))

pub out_of_view : (marks : Marks) (spaces : List VdevSpace) → HaveMarks (viewed marks spaces) planned_marks spaces marks
out_of_view marks spaces v space new found found' =
    ap planned_marks (same_some (view_of marks new) space (sym (view_found marks spaces v new found') ∙ found))

-- what lies somewhere does so where the marks are the same
pub lies_by : (is : State → Type 0) (spaces after : List VdevSpace) (marks later : Marks) → shapes_of after ≡ shapes_of spaces → HaveMarks spaces marks after later
    → (sectors : ℕ) (place : Dva) → LiesOn is spaces marks sectors place → LiesOn is after later sectors place
lies_by is spaces after marks later shapes have sectors place lies =
    let there = found_too spaces after place.vdev lies.space shapes lies.found in
    let same : later there.0 ≡ marks lies.space = have place.vdev lies.space there.0 lies.found there.1 in
    let P : VdevShape → Type 0 = λ shape. IsPlace shape sectors place in
    let Q : VdevShape → Type 0 = λ shape. EachSector is (later there.0) shape place in
    record {
      some = lies.some;
      space = there.0;
      found = there.1;
      is_place = subst P (sym there.2) lies.is_place;
      each = subst Q (sym there.2) (subst (λ them. EachSector is them lies.space.shape place) (sym same) lies.each);
    }

map_set : {X Y : Type 0} (f : X → Y) (xs : List X) (i : ℕ) (x : X) → map f (slice_set xs i x) ≡ slice_set (map f xs) i (f x)
map_set f [] i x = refl
map_set f (z ∷ xs) zero x = refl
map_set f (z ∷ xs) (suc i) x = ap (λ ys. f z ∷ ys) (map_set f xs i x)

nothing : (place : Dva) → ¬ Contains [] place
nothing place (k, within, is) = absurd (omega arith)

-- these marks change as a copy is taken in
abbrev pub Picks : Marks → Type 0
Picks marks = (spaces after : List VdevSpace) (copy : CopyAt) → (is : TakesIn spaces copy after)
    → ChangesIn (marks is.space) (marks is.later) (metaslab_of is.space.shape copy.place) (run_at is.space.shape copy.place) Free InUse

pub picks_filled : Picks filled_marks
picks_filled spaces after copy is = is.filled_too

pub picks_planned : Picks planned_marks
picks_planned spaces after copy is = is.planned_too

-- the copies were free and are taken, one after the other
abbrev pub TakeAll : List VdevSpace → List CopyAt → List VdevSpace → Type 0
TakeAll spaces [] after = after ≡ spaces
TakeAll spaces (copy ∷ copies) after =
    (0 < copy.sectors) × IsChosen spaces [] copy.sectors copy.copies copy.place × (mid : List VdevSpace) × IsTakenToo spaces copy.place mid × TakeAll mid copies after

free_there : (old new : List Space) (shape : VdevShape) (place : Dva) → ChangesIn old new (metaslab_of shape place) (run_at shape place) Free InUse → EachSector IsFree old shape place
free_there old new shape place change = record { metaslab = change.space; found = change.found; each = change.was.each }

one_chosen : (marks : Marks) → Picks marks → (spaces after : List VdevSpace) (copy : CopyAt) → TakesIn spaces copy after
    → IsChosen (viewed marks spaces) [] copy.sectors copy.copies copy.place
one_chosen marks picks spaces after copy is = record {
  space = view_of marks is.space;
  found = view_found marks spaces copy.place.vdev is.space is.found;
  free = record {
    is_place = is.is_place;
    region = is.region;
    free = free_there (marks is.space) (marks is.later) is.space.shape copy.place (picks spaces after copy is);
  };
  other_vdev = λ v metaslab room none (place, among, same). nothing place among;
  other_metaslab = λ v metaslab room none (place, among, same, slab). nothing place among;
}

one_taken : (marks : Marks) → Picks marks → (spaces after : List VdevSpace) (copy : CopyAt) → TakesIn spaces copy after
    → IsTakenToo (viewed marks spaces) copy.place (viewed marks after)
one_taken marks picks spaces after copy is = record {
  space = view_of marks is.space;
  found = view_found marks spaces copy.place.vdev is.space is.found;
  later = marks is.later;
  taken = picks spaces after copy is;
  rest = ap (viewed marks) is.rest ∙ map_set (view_of marks) spaces copy.place.vdev is.later
      ∙ ap (λ (shape : VdevShape). slice_set (viewed marks spaces) copy.place.vdev (record { shape = shape; kept = []; planned = marks is.later; pins = [] })) is.shape;
}

pub viewed_all : (marks : Marks) → Picks marks → (spaces : List VdevSpace) (copies : List CopyAt) (after : List VdevSpace) → TakeIn spaces copies after
    → TakeAll (viewed marks spaces) copies (viewed marks after)
viewed_all marks picks spaces [] after same = ap (viewed marks) same
viewed_all marks picks spaces (copy ∷ copies) after (mid, one, rest) =
    (one.some, one_chosen marks picks spaces mid copy one, viewed marks mid, one_taken marks picks spaces mid copy one, viewed_all marks picks mid copies after rest)

-- ---- copies that are taken

-- the first of them, or a later one
pub first_or_later : {X : Type 0} (first : X) (copies : List X) (copy : X) → Contains (first ∷ copies) copy → (first ≡ copy) ⊎ Contains copies copy
first_or_later first copies copy held = elim (Contains-append_cases (first ∷ []) copies copy held) [
  | inl (zero, within, is) ↦ inl is
  | inl (suc k, within, is) ↦ absurd (omega (arith, within))
  | inr later ↦ inr later
]

pub all_grow : (spaces : List VdevSpace) (copies : List CopyAt) (after : List VdevSpace) → TakeAll spaces copies after → Grows spaces after planned_marks planned_marks
all_grow spaces [] after same = subst (λ xs. Grows spaces xs planned_marks planned_marks) (sym same) (same_grows spaces planned_marks)
all_grow spaces (copy ∷ copies) after (some, chosen, mid, too, rest) =
    grows_on spaces mid after planned_marks planned_marks planned_marks (step spaces [] copy.sectors copy.copies copy.place mid chosen too).grows (all_grow mid copies after rest)

pub all_taken : (spaces : List VdevSpace) (copies : List CopyAt) (after : List VdevSpace) → TakeAll spaces copies after → (copy : CopyAt) → Contains copies copy
    → IsTaken after planned_marks copy.sectors copy.place
all_taken spaces [] after same copy held = absurd (omega (arith, held.1))
all_taken spaces (first ∷ copies) after (some, chosen, mid, too, rest) copy held = elim (first_or_later first copies copy held) [
  | inl is ↦
      let one : Step spaces first.sectors first.place mid = step spaces [] first.sectors first.copies first.place mid chosen too in
      subst (λ (c : CopyAt). IsTaken after planned_marks c.sectors c.place) is
      (taken_too mid after planned_marks planned_marks first.sectors first.place (all_grow mid copies after rest) one.taken)
  | inr later ↦ all_taken mid copies after rest copy later
]

-- each is in its region
pub all_for : (spaces : List VdevSpace) (copies : List CopyAt) (after : List VdevSpace) → TakeAll spaces copies after → (copy : CopyAt) → Contains copies copy
    → IsPlaceFor after copy.sectors copy.copies copy.place
all_for spaces [] after same copy held = absurd (omega (arith, held.1))
all_for spaces (first ∷ copies) after (some, chosen, mid, too, rest) copy held = elim (first_or_later first copies copy held) [
  | inl is ↦
      let here : IsPlaceFor spaces first.sectors first.copies first.place = record {
        is_in = record { space = chosen.space; found = chosen.found; is_place = chosen.free.is_place };
        region = chosen.free.region;
      } in
      subst (λ (c : CopyAt). IsPlaceFor after c.sectors c.copies c.place) is
      (place_for_too spaces after first.sectors first.copies first.place
      ((all_grow mid copies after rest).shapes ∙ shapes_stay spaces mid first.place too) here)
  | inr later ↦ all_for mid copies after rest copy later
]

-- what is taken is apart from what was
pub all_apart : (spaces : List VdevSpace) (copies : List CopyAt) (after : List VdevSpace) → TakeAll spaces copies after → (copy : CopyAt) → Contains copies copy
    → (sectors : ℕ) (other : Dva) → 0 < other.allocated → IsTaken spaces planned_marks sectors other → ArePlacesApart copy.place other
all_apart spaces [] after same copy held sectors other some' taken = absurd (omega (arith, held.1))
all_apart spaces (first ∷ copies) after (some, chosen, mid, too, rest) copy held sectors other some' taken =
    let one : Step spaces first.sectors first.place mid = step spaces [] first.sectors first.copies first.place mid chosen too in
    elim (first_or_later first copies copy held) [
      | inl is ↦ subst (λ (c : CopyAt). ArePlacesApart c.place other) is
          (one.apart (taken_some mid planned_marks first.sectors first.place some one.taken) sectors other some' taken)
      | inr later ↦ all_apart mid copies after rest copy later sectors other some' (taken_too spaces mid planned_marks planned_marks sectors other one.grows taken)
    ]

pub all_some : (spaces : List VdevSpace) (copies : List CopyAt) (after : List VdevSpace) → TakeAll spaces copies after → (copy : CopyAt) → Contains copies copy → 0 < copy.sectors
all_some spaces [] after same copy held = absurd (omega (arith, held.1))
all_some spaces (first ∷ copies) after (some, chosen, mid, too, rest) copy held = elim (first_or_later first copies copy held) [
  | inl is ↦ subst (λ (c : CopyAt). 0 < c.sectors) is some
  | inr later ↦ all_some mid copies after rest copy later
]

later_one : (first : CopyAt) (copies : List CopyAt) (copy : CopyAt) → Contains copies copy → Contains (first ∷ copies) copy
later_one first copies copy (k, within, is) = (suc k, omega (arith, within), is)

-- what holds of a place's sectors, and of those in use, holds still
pub all_lie : (is : State → Type 0) (spaces : List VdevSpace) (copies : List CopyAt) (after : List VdevSpace) → TakeAll spaces copies after → is InUse
    → (sectors : ℕ) (place : Dva) → LiesOn is spaces planned_marks sectors place → LiesOn is after planned_marks sectors place
all_lie is spaces [] after same holds sectors place lies = subst (λ xs. LiesOn is xs planned_marks sectors place) (sym same) lies
all_lie is spaces (copy ∷ copies) after (some, chosen, mid, too, rest) holds sectors place lies =
    all_lie is mid copies after rest holds sectors place
    (lies_after is spaces mid copy.place Free InUse (take_changes spaces mid copy.place too) sectors place (inl holds) lies)

-- so does what holds of the sectors of a place that is apart from all of them
pub all_spare : (is : State → Type 0) (spaces : List VdevSpace) (copies : List CopyAt) (after : List VdevSpace) → TakeAll spaces copies after
    → (sectors : ℕ) (place : Dva) → ((copy : CopyAt) → Contains copies copy → ArePlacesApart copy.place place)
    → LiesOn is spaces planned_marks sectors place → LiesOn is after planned_marks sectors place
all_spare is spaces [] after same sectors place apart lies = subst (λ xs. LiesOn is xs planned_marks sectors place) (sym same) lies
all_spare is spaces (copy ∷ copies) after (some, chosen, mid, too, rest) sectors place apart lies =
    all_spare is mid copies after rest sectors place (λ later held. apart later (later_one copy copies later held))
    (lies_after is spaces mid copy.place Free InUse (take_changes spaces mid copy.place too) sectors place (inr (apart copy (0, omega arith, refl))) lies)

pub all_in_use : (spaces : List VdevSpace) (copies : List CopyAt) (after : List VdevSpace) → TakeAll spaces copies after → (copy : CopyAt) → Contains copies copy
    → LiesOn IsInUse after planned_marks copy.sectors copy.place
all_in_use spaces [] after same copy held = absurd (omega (arith, held.1))
all_in_use spaces (first ∷ copies) after (some, chosen, mid, too, rest) copy held = elim (first_or_later first copies copy held) [
  | inl is ↦
      let same : chosen.space ≡ too.space = same_some chosen.space too.space (sym chosen.found ∙ too.found) in
      let P : VdevSpace → Type 0 = λ s. IsPlace s.shape first.sectors first.place in
      let here : LiesOn IsInUse mid planned_marks first.sectors first.place =
      lies_changed spaces mid first.place Free InUse (take_changes spaces mid first.place too) first.sectors some (subst P same chosen.free.is_place) in
      subst (λ (c : CopyAt). LiesOn IsInUse after planned_marks c.sectors c.place) is
      (all_lie IsInUse mid copies after rest refl first.sectors first.place here)
  | inr later ↦ all_in_use mid copies after rest copy later
]

-- ---- by sectors

-- a sector that changed was used so before, and is used so now
changed_was : (spaces after : List VdevSpace) (place : Dva) (from to : State) → ChangesAt spaces place from to after → (at : SectorAt) → OnPlace spaces place at
    → IsUsed (λ s. s ≡ from) spaces planned_marks at × IsUsed (λ s. s ≡ to) after planned_marks at
changed_was spaces after place from to change at on =
    let new : VdevSpace = record change.space { planned = change.later } in
    let same : on.space ≡ change.space = same_some on.space change.space (sym on.found ∙ ap (λ n. slice_get spaces n) (sym on.vdev_is) ∙ change.found) in
    let metaslab : ℕ = metaslab_of change.space.shape place in
    let run : Run = run_at change.space.shape place in
    let slab : metaslab ≡ at.metaslab = ap (λ (x : VdevSpace). metaslab_of x.shape place) (sym same) ∙ on.metaslab_is in
    let names_it : names run at.sector ≡ true = ap (λ (x : VdevSpace). names (run_at x.shape place) at.sector) (sym same) ∙ on.names_it in
    let inside = named run at.sector names_it in
    let within : at.sector < sectors_of change.changes.space = let fits = change.changes.was.within in omega (arith, inside.0, inside.1, fits) in (
      record {
        space = change.space;
        found = ap (λ n. slice_get spaces n) (sym on.vdev_is) ∙ change.found;
        metaslab = change.changes.space;
        there = ap (λ n. slice_get (planned_marks change.space) n) (sym slab) ∙ change.changes.found;
        within = within;
        used = change.changes.was.each at.sector names_it;
      },
      record {
        space = new;
        found = ap (λ xs. slice_get xs at.vdev) change.rest ∙ ap (λ n. slice_get (slice_set spaces place.vdev new) n) (sym on.vdev_is)
            ∙ slice_get-set_found spaces place.vdev change.space new change.found;
        metaslab = change.changes.later;
        there = ap (λ n. slice_get change.later n) (sym slab) ∙ ap (λ xs. slice_get xs metaslab) change.changes.rest
            ∙ slice_get-set_found (planned_marks change.space) metaslab change.changes.space change.changes.later change.changes.found;
        within = omega (arith, within, change.changes.changes.sectors);
        used = change.changes.changes.states at.sector ∙ if_yes (names run at.sector) to (state change.changes.space at.sector) names_it;
      },
    )

-- what is used so is so still, where this holds of what sectors became
stays_in : (is : State → Type 0) (old new : List Space) (metaslab : ℕ) (run : Run) (from to : State) → ChangesIn old new metaslab run from to → is to
    → (m s : ℕ) (before : Space) → slice_get old m ≡ Some before → s < sectors_of before → is (state before s)
    → (later : Space) × (slice_get new m ≡ Some later) × (s < sectors_of later) × is (state later s)
stays_in is old new metaslab run from to change holds m s before found within used = elim (cases_eq m metaslab) [
  | inr other ↦ (before, ap (λ xs. slice_get xs m) change.rest ∙ slice_get-set_other old metaslab m change.later (λ same. other (sym same)) ∙ found, within, used)
  | inl this ↦
      let same : before ≡ change.space = same_some before change.space (sym found ∙ ap (λ n. slice_get old n) this ∙ change.found) in (
        change.later,
        ap (λ xs. slice_get xs m) change.rest ∙ ap (λ n. slice_get (slice_set old metaslab change.later) n) this ∙ slice_get-set_found old metaslab change.space change.later change.found,
        omega (arith, within, ap sectors_of same, change.changes.sectors),
        elim (either (names run s)) [
          | inl names_it ↦ subst is (sym (change.changes.states s ∙ if_yes (names run s) to (state change.space s) names_it)) holds
          | inr unnamed ↦ subst is (sym (change.changes.states s ∙ if_no (names run s) to (state change.space s) unnamed)) (subst (λ (x : Space). is (state x s)) same used)
        ],
      )
]

stays_used : (is : State → Type 0) (spaces after : List VdevSpace) (place : Dva) (from to : State) → ChangesAt spaces place from to after → is to
    → (at : SectorAt) → IsUsed is spaces planned_marks at → IsUsed is after planned_marks at
stays_used is spaces after place from to change holds at used =
    let new : VdevSpace = record change.space { planned = change.later } in
    elim (cases_eq at.vdev place.vdev) [
      | inr other ↦ record {
        space = used.space;
        found = ap (λ xs. slice_get xs at.vdev) change.rest ∙ slice_get-set_other spaces place.vdev at.vdev new (λ same. other (sym same)) ∙ used.found;
        metaslab = used.metaslab;
        there = used.there;
        within = used.within;
        used = used.used;
      }
      | inl here ↦
          let same : used.space ≡ change.space = same_some used.space change.space (sym used.found ∙ ap (λ n. slice_get spaces n) here ∙ change.found) in
          let there : slice_get (planned_marks change.space) at.metaslab ≡ Some used.metaslab =
          ap (λ (x : VdevSpace). slice_get (planned_marks x) at.metaslab) (sym same) ∙ used.there in
          let later = stays_in is (planned_marks change.space) change.later (metaslab_of change.space.shape place) (run_at change.space.shape place) from to
          change.changes holds at.metaslab at.sector used.metaslab there used.within used.used in
          record {
            space = new;
            found = ap (λ xs. slice_get xs at.vdev) change.rest ∙ ap (λ n. slice_get (slice_set spaces place.vdev new) n) here
                ∙ slice_get-set_found spaces place.vdev change.space new change.found;
            metaslab = later.0;
            there = later.1;
            within = later.2;
            used = later.3;
          }
    ]

-- one of the copies has the sector
pub record OnCopy (spaces : List VdevSpace) (copies : List CopyAt) (at : SectorAt) : Type 0 where
  pub copy : CopyAt
  pub held : Contains copies copy
  pub on : OnPlace spaces copy.place at

in_use_is_not_free : ¬ (InUse ≡ Free)
in_use_is_not_free is = absurd (cc)

pub all_stay : (spaces : List VdevSpace) (copies : List CopyAt) (after : List VdevSpace) → TakeAll spaces copies after
    → (at : SectorAt) → IsUsed IsInUse spaces planned_marks at → IsUsed IsInUse after planned_marks at
all_stay spaces [] after same at used = subst (λ xs. IsUsed IsInUse xs planned_marks at) (sym same) used
all_stay spaces (copy ∷ copies) after (some, chosen, mid, too, rest) at used =
    all_stay mid copies after rest at (stays_used IsInUse spaces mid copy.place Free InUse (take_changes spaces mid copy.place too) refl at used)

-- before the copies are taken their sectors are free, and afterwards in use
pub all_were_free : (spaces : List VdevSpace) (copies : List CopyAt) (after : List VdevSpace) → TakeAll spaces copies after
    → (at : SectorAt) → OnCopy spaces copies at → IsUsed IsFree spaces planned_marks at × IsUsed IsInUse after planned_marks at
all_were_free spaces [] after same at of = absurd (omega (arith, of.held.1))
all_were_free spaces (first ∷ copies) after (some, chosen, mid, too, rest) at of =
    let change : ChangesAt spaces first.place Free InUse mid = take_changes spaces mid first.place too in
    elim (first_or_later first copies of.copy of.held) [
      | inl is ↦
          let both = changed_was spaces mid first.place Free InUse change at (subst (λ (c : CopyAt). OnPlace spaces c.place at) (sym is) of.on) in
          (both.0, all_stay mid copies after rest at both.1)
      | inr later ↦
          let on : OnPlace mid of.copy.place at = on_place_too spaces mid of.copy.place at (shapes_stay spaces mid first.place too) of.on in
          let both = all_were_free mid copies after rest at (record { copy = of.copy; held = later; on = on }) in (
            elim (changed_uses IsFree spaces mid first.place Free InUse change at both.0) [
              | inl was ↦ was
              | inr (holds, here) ↦ absurd (in_use_is_not_free holds)
            ],
            both.1,
          )
    ]

-- what holds of a sector then held of it before, or holds of those in use
pub all_rest : (is : State → Type 0) (spaces : List VdevSpace) (copies : List CopyAt) (after : List VdevSpace) → TakeAll spaces copies after
    → (at : SectorAt) → IsUsed is after planned_marks at → IsUsed is spaces planned_marks at ⊎ is InUse
all_rest is spaces [] after same at used = inl (subst (λ xs. IsUsed is xs planned_marks at) same used)
all_rest is spaces (first ∷ copies) after (some, chosen, mid, too, rest) at used = elim (all_rest is mid copies after rest at used) [
  | inr holds ↦ inr holds
  | inl before ↦ elim (changed_uses is spaces mid first.place Free InUse (take_changes spaces mid first.place too) at before) [
    | inl was ↦ inl was
    | inr (holds, on) ↦ inr holds
  ]
]

-- and no other is in use that was not
pub all_only : (spaces : List VdevSpace) (copies : List CopyAt) (after : List VdevSpace) → TakeAll spaces copies after
    → (at : SectorAt) → IsUsed IsInUse after planned_marks at → IsUsed IsInUse spaces planned_marks at ⊎ OnCopy spaces copies at
all_only spaces [] after same at used = inl (subst (λ xs. IsUsed IsInUse xs planned_marks at) same used)
all_only spaces (first ∷ copies) after (some, chosen, mid, too, rest) at used = elim (all_only mid copies after rest at used) [
  | inr of ↦ inr (record {
    copy = of.copy;
    held = later first copies of.copy of.held;
    on = on_place_too mid spaces of.copy.place at (sym (shapes_stay spaces mid first.place too)) of.on;
  })
  | inl before ↦ elim (changed_uses IsInUse spaces mid first.place Free InUse (take_changes spaces mid first.place too) at before) [
    | inl was ↦ inl was
    | inr (holds, on) ↦ inr (record { copy = first; held = (0, omega arith, refl); on = on })
  ]
]
  where
    later : (first : CopyAt) (copies : List CopyAt) (copy : CopyAt) → Contains copies copy → Contains (first ∷ copies) copy
    later first copies copy (k, within, is) = (suc k, omega (arith, within), is)
