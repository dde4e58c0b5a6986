-- Which block each sector in use is in, as places are taken, given back and settled.
use Rattle.std.proofs.Common.{Bool, true, false, if◌then◌else◌, ℕ, zero, suc, ◌≡◌, ◌⊎◌, inl, inr, ◌<◌, Some, List, [], ◌∷◌, ◌++◌, length, refl, sym, ap, subst, ◌∙◌, arith}
use Rattle.std.specs.Prelude.{slice_set, Contains}
use Rattle.std.specs.List.{slice_get}
use Rattle.std.proofs.lemmas.Bool.{cases_eq}
use Rattle.std.proofs.lemmas.Option.{slice_get_within}
use Rattle.std.proofs.lemmas.List.Elements.{Contains-append_cases}
use Rattle.block_pointer.specs.declared.block.Block.{Block}
use Rattle.block_pointer.specs.declared.dva.Dva.{Dva}
use Rattle.block_pointer.specs.Copies.{dvas}
use Rattle.raidz_io.proofs.Written.{same_some, slice_get_some}
use Rattle.space_map.specs.declared.entry.Run.{Run}
use Rattle.space_map.specs.Sectors.{names}
use Rattle.metaslab.specs.Space.{Space, state, sectors_of}
use Rattle.metaslab.specs.State.{State, Free, InUse, Released, settled, is_due}
use Rattle.metaslab.specs.Spaces.{ChangesIn}
use Rattle.block_store.specs.declared.shape.VdevShape.{VdevShape}
use Rattle.block_store.specs.Accounts.{SectorAt, IsUsed, HasSector, AreAccounted}
use Rattle.block_store.specs.Blocks.{Contents}
use Rattle.block_store.specs.Places.{Marks, shapes_of, run_at, HaveMarks, AreChosen}
use Rattle.block_store.specs.Places.{filled as filled_marks, planned as planned_marks}
use Rattle.block_store.specs.Releases.{CopyAt, IsReleased, AreReleased, AreSettledIn}
use Rattle.block_store.specs.Shapes.{metaslab_of}
use Rattle.block_store.specs.Spaces.{VdevSpace}
use Rattle.block_store.specs.Steps.{Placed, HavePlaced}
use Rattle.block_store.specs.Uses.{IsInUse}
use Rattle.block_store.proofs.Taking.{slice_get-set_other, slice_get-set_found, found_too, shapes_stay, map-set_same}
use Rattle.block_store.proofs.Uses.{ChangesAt, take_changes, release_changes}

if_yes : {X : Type 0} (test : Bool) (x y : X) → test ≡ true → (if test then x else y) ≡ x
if_yes true x y is = refl
if_yes false x y is = absurd (cc)

if_no : {X : Type 0} (test : Bool) (x y : X) → test ≡ false → (if test then x else y) ≡ y
if_no true x y is = absurd (cc)
if_no false x y is = refl

either : (test : Bool) → (test ≡ true) ⊎ (test ≡ false)
either true = inl refl
either false = inr refl

-- the sector is in the place
pub record OnPlace (spaces : List VdevSpace) (place : Dva) (at : SectorAt) : Type 0 where
  pub vdev_is : place.vdev ≡ at.vdev
  pub space : VdevSpace
  pub found : slice_get spaces at.vdev ≡ Some space
  pub metaslab_is : metaslab_of space.shape place ≡ at.metaslab
  pub names_it : names (run_at space.shape place) at.sector ≡ true

pub on_place_too : (spaces after : List VdevSpace) (place : Dva) (at : SectorAt) → shapes_of after ≡ shapes_of spaces → OnPlace spaces place at → OnPlace after place at
on_place_too spaces after place at shapes on =
    let there = found_too spaces after at.vdev on.space shapes on.found in
    let P : VdevShape → Type 0 = λ shape. metaslab_of shape place ≡ at.metaslab in
    let Q : VdevShape → Type 0 = λ shape. names (run_at shape place) at.sector ≡ true in
    record { vdev_is = on.vdev_is; space = there.0; found = there.1; metaslab_is = subst P (sym there.2) on.metaslab_is; names_it = subst Q (sym there.2) on.names_it }

pub has_sector : (spaces : List VdevSpace) (block : Block) (i : ℕ) (place : Dva) (at : SectorAt)
    → slice_get (dvas block.copies) i ≡ Some place → OnPlace spaces place at → HasSector spaces block at
has_sector spaces block i place at is on = record {
  i = i;
  place = place;
  is_copy = is;
  vdev_is = on.vdev_is;
  space = on.space;
  found = on.found;
  metaslab_is = on.metaslab_is;
  names_it = on.names_it;
}

pub has_on_place : (spaces : List VdevSpace) (block : Block) (at : SectorAt) → (has : HasSector spaces block at) → OnPlace spaces has.place at
has_on_place spaces block at has =
    record { vdev_is = has.vdev_is; space = has.space; found = has.found; metaslab_is = has.metaslab_is; names_it = has.names_it }

pub has_too : (spaces after : List VdevSpace) (block : Block) (at : SectorAt) → shapes_of after ≡ shapes_of spaces → HasSector spaces block at → HasSector after block at
has_too spaces after block at shapes has =
    has_sector after block has.i has.place at has.is_copy (on_place_too spaces after has.place at shapes (has_on_place spaces block at has))

-- ---- marks that are the same

pub used_before : (is : State → Type 0) (spaces after : List VdevSpace) (marks later : Marks) (at : SectorAt) → shapes_of after ≡ shapes_of spaces
    → HaveMarks spaces marks after later → IsUsed is after later at → IsUsed is spaces marks at
used_before is spaces after marks later at shapes have used =
    let was = found_too after spaces at.vdev used.space (sym shapes) used.found in
    let same : later used.space ≡ marks was.0 = have at.vdev was.0 used.space was.1 used.found in
    record {
      space = was.0;
      found = was.1;
      metaslab = used.metaslab;
      there = ap (λ (them : List Space). slice_get them at.metaslab) (sym same) ∙ used.there;
      within = used.within;
      used = used.used;
    }

pub used_after : (is : State → Type 0) (spaces after : List VdevSpace) (marks later : Marks) (at : SectorAt) → shapes_of after ≡ shapes_of spaces
    → HaveMarks spaces marks after later → IsUsed is spaces marks at → IsUsed is after later at
used_after is spaces after marks later at shapes have used =
    let new = found_too spaces after at.vdev used.space shapes used.found in
    let same : later new.0 ≡ marks used.space = have at.vdev used.space new.0 used.found new.1 in
    record {
      space = new.0;
      found = new.1;
      metaslab = used.metaslab;
      there = ap (λ (them : List Space). slice_get them at.metaslab) same ∙ used.there;
      within = used.within;
      used = used.used;
    }

-- where the plan has what is there without it, all is accounted for
pub none_new : (spaces : List VdevSpace) (stored planned : Contents) → HaveMarks spaces filled_marks spaces planned_marks → AreAccounted spaces stored planned
none_new spaces stored planned same at used = inl (used_before IsInUse spaces spaces filled_marks planned_marks at refl same used)

-- ---- sectors that change

changed_in : (is : State → Type 0) (old new : List Space) (metaslab : ℕ) (run : Run) (from to : State) → ChangesIn old new metaslab run from to
    → (m s : ℕ) (later : Space) → slice_get new m ≡ Some later → s < sectors_of later → is (state later s)
    → ((before : Space) × (slice_get old m ≡ Some before) × (s < sectors_of before) × is (state before s)) ⊎ (is to × (metaslab ≡ m) × (names run s ≡ true))
changed_in is old new metaslab run from to change m s later found within used = elim (cases_eq m metaslab) [
  | inr other ↦ inl (later, sym (slice_get-set_other old metaslab m change.later (λ same. other (sym same))) ∙ ap (λ xs. slice_get xs m) (sym change.rest) ∙ found, within, used)
  | inl this ↦
      let is_later : later ≡ change.later = same_some later change.later (sym found ∙ ap (λ xs. slice_get xs m) change.rest
      ∙ ap (λ n. slice_get (slice_set old metaslab change.later) n) this ∙ slice_get-set_found old metaslab change.space change.later change.found) in
      let used' : is (state change.later s) = subst (λ (x : Space). is (state x s)) is_later used in
      elim (either (names run s)) [
        | inl named ↦ inr (subst is (change.changes.states s ∙ if_yes (names run s) to (state change.space s) named) used', sym this, named)
        | inr unnamed ↦ inl (
          change.space,
          ap (λ n. slice_get old n) this ∙ change.found,
          omega (arith, within, ap sectors_of is_later, change.changes.sectors),
          subst is (change.changes.states s ∙ if_no (names run s) to (state change.space s) unnamed) used',
        )
      ]
]

-- what a sector is used for it was used for before, or it is one of those that changed
pub changed_uses : (is : State → Type 0) (spaces after : List VdevSpace) (place : Dva) (from to : State) → ChangesAt spaces place from to after
    → (at : SectorAt) → IsUsed is after planned_marks at → IsUsed is spaces planned_marks at ⊎ (is to × OnPlace spaces place at)
changed_uses is spaces after place from to change at used =
    let new : VdevSpace = record change.space { planned = change.later } in
    elim (cases_eq at.vdev place.vdev) [
      | inr other ↦ inl (record {
        space = used.space;
        found = sym (slice_get-set_other spaces place.vdev at.vdev new (λ same. other (sym same))) ∙ ap (λ xs. slice_get xs at.vdev) (sym change.rest) ∙ used.found;
        metaslab = used.metaslab;
        there = used.there;
        within = used.within;
        used = used.used;
      })
      | inl here ↦
          let is_new : used.space ≡ new = same_some used.space new (sym used.found ∙ ap (λ xs. slice_get xs at.vdev) change.rest
          ∙ ap (λ n. slice_get (slice_set spaces place.vdev new) n) here ∙ slice_get-set_found spaces place.vdev change.space new change.found) in
          let there : slice_get change.later at.metaslab ≡ Some used.metaslab =
          ap (λ (x : VdevSpace). slice_get (planned_marks x) at.metaslab) (sym is_new) ∙ used.there in
          let found : slice_get spaces at.vdev ≡ Some change.space = ap (λ n. slice_get spaces n) here ∙ change.found in
          elim (changed_in is (planned_marks change.space) change.later (metaslab_of change.space.shape place) (run_at change.space.shape place) from to
          change.changes at.metaslab at.sector used.metaslab there used.within used.used) [
            | inl (before, was, within, held) ↦ inl (record { space = change.space; found = found; metaslab = before; there = was; within = within; used = held })
            | inr (holds, same, named) ↦ inr (holds, record { vdev_is = sym here; space = change.space; found = found; metaslab_is = same; names_it = named })
          ]
    ]

-- and one that changed is used for what it became
pub changed_there : (is : State → Type 0) (spaces after : List VdevSpace) (place : Dva) (from to : State) → ChangesAt spaces place from to after
    → (at : SectorAt) → OnPlace spaces place at → IsUsed is after planned_marks at → is to
changed_there is spaces after place from to change at on used =
    let new : VdevSpace = record change.space { planned = change.later } in
    let same : on.space ≡ change.space = same_some on.space change.space (sym on.found ∙ ap (λ n. slice_get spaces n) (sym on.vdev_is) ∙ change.found) in
    let is_new : used.space ≡ new = same_some used.space new (sym used.found ∙ ap (λ xs. slice_get xs at.vdev) change.rest
    ∙ ap (λ n. slice_get (slice_set spaces place.vdev new) n) (sym on.vdev_is) ∙ slice_get-set_found spaces place.vdev change.space new change.found) in
    let metaslab : ℕ = metaslab_of change.space.shape place in
    let metaslab_is : metaslab ≡ at.metaslab = ap (λ (x : VdevSpace). metaslab_of x.shape place) (sym same) ∙ on.metaslab_is in
    let named : names (run_at change.space.shape place) at.sector ≡ true = ap (λ (x : VdevSpace). names (run_at x.shape place) at.sector) (sym same) ∙ on.names_it in
    let is_later : used.metaslab ≡ change.changes.later = same_some used.metaslab change.changes.later (sym used.there
    ∙ ap (λ (x : VdevSpace). slice_get (planned_marks x) at.metaslab) is_new ∙ ap (λ n. slice_get change.later n) (sym metaslab_is)
    ∙ ap (λ xs. slice_get xs metaslab) change.changes.rest
    ∙ slice_get-set_found (planned_marks change.space) metaslab change.changes.space change.changes.later change.changes.found) in
    subst is (ap (λ (x : Space). state x at.sector) is_later ∙ change.changes.changes.states at.sector
    ∙ if_yes (names (run_at change.space.shape place) at.sector) to (state change.changes.space at.sector) named) used.used

-- ---- places that are taken

-- the sector is in one of the places
pub record OnOne (spaces : List VdevSpace) (places : List Dva) (at : SectorAt) : Type 0 where
  pub i : ℕ
  pub place : Dva
  pub is : slice_get places i ≡ Some place
  pub on : OnPlace spaces place at

pub chosen_uses : (is : State → Type 0) (spaces : List VdevSpace) (taken : List Dva) (n copies : ℕ) (places : List Dva) (after : List VdevSpace) → AreChosen spaces taken n copies places after
    → (at : SectorAt) → IsUsed is after planned_marks at → IsUsed is spaces planned_marks at ⊎ (is InUse × OnOne spaces places at)
chosen_uses is spaces taken n copies [] after same at used = inl (subst (λ xs. IsUsed is xs planned_marks at) same used)
chosen_uses is spaces taken n copies (place ∷ places) after (chosen, mid, too, rest) at used =
    elim (chosen_uses is mid (taken ++ place ∷ []) n copies places after rest at used) [
      | inr (holds, one) ↦
          inr (holds, record { i = suc one.i; place = one.place; is = one.is; on = on_place_too mid spaces one.place at (sym (shapes_stay spaces mid place too)) one.on })
      | inl before ↦ elim (changed_uses is spaces mid place Free InUse (take_changes spaces mid place too) at before) [
        | inl was ↦ inl was
        | inr (holds, on) ↦ inr (holds, record { i = 0; place = place; is = refl; on = on })
      ]
    ]

-- for one block after the other
pub placed_uses : (is : State → Type 0) (spaces : List VdevSpace) (placed : List Placed) (after : List VdevSpace) → HavePlaced spaces placed after
    → (at : SectorAt) → IsUsed is after planned_marks at → IsUsed is spaces planned_marks at ⊎ is InUse
placed_uses is spaces [] after same at used = inl (subst (λ xs. IsUsed is xs planned_marks at) same used)
placed_uses is spaces (block ∷ placed) after (mid, chosen, rest) at used = elim (placed_uses is mid placed after rest at used) [
  | inr holds ↦ inr holds
  | inl before ↦ elim (chosen_uses is spaces [] block.sectors block.copies block.places mid chosen at before) [
    | inl was ↦ inl was
    | inr (holds, one) ↦ inr holds
  ]
]

-- ---- copies that are given back

not_released : (group : ℕ) → ¬ (Released group ≡ InUse)
not_released group is = absurd (cc)

pub released_uses : (is : State → Type 0) (spaces : List VdevSpace) (copies : List CopyAt) (group : ℕ) (after : List VdevSpace) → AreReleased spaces copies group after
    → (at : SectorAt) → IsUsed is after planned_marks at → IsUsed is spaces planned_marks at ⊎ is (Released group)
released_uses is spaces [] group after same at used = inl (subst (λ xs. IsUsed is xs planned_marks at) same used)
released_uses is spaces (copy ∷ copies) group after (mid, one, rest) at used =
    elim (released_uses is mid copies group after rest at used) [
      | inr holds ↦ inr holds
      | inl before ↦ elim (changed_uses is spaces mid copy.place InUse (Released group) (release_changes spaces mid copy group one) at before) [
        | inl was ↦ inl was
        | inr (holds, on) ↦ inr holds
      ]
    ]

-- what is in use was in use before
pub in_use_before : (spaces : List VdevSpace) (copies : List CopyAt) (group : ℕ) (after : List VdevSpace) → AreReleased spaces copies group after
    → (at : SectorAt) → IsUsed IsInUse after planned_marks at → IsUsed IsInUse spaces planned_marks at
in_use_before spaces copies group after released at used = elim (released_uses IsInUse spaces copies group after released at used) [
  | inl was ↦ was
  | inr holds ↦ absurd (not_released group holds)
]

one_shapes : (spaces after : List VdevSpace) (copy : CopyAt) (group : ℕ) → IsReleased spaces copy group after → shapes_of after ≡ shapes_of spaces
one_shapes spaces after copy group is =
    ap shapes_of is.rest ∙ map-set_same (λ s. s.shape) spaces copy.place.vdev is.space (record is.space { planned = is.later }) is.found refl

-- and is in none of these copies
pub not_in_released : (spaces : List VdevSpace) (copies : List CopyAt) (group : ℕ) (after : List VdevSpace) → AreReleased spaces copies group after
    → (copy : CopyAt) → Contains copies copy → (at : SectorAt) → OnPlace spaces copy.place at → ¬ IsUsed IsInUse after planned_marks at
not_in_released spaces [] group after same copy held at on used = absurd (omega (arith, held.1))
not_in_released spaces (first ∷ copies) group after (mid, one, rest) copy held at on used =
    elim (Contains-append_cases (first ∷ []) copies copy held) [
      | inl (zero, within, is) ↦
          let here : OnPlace spaces first.place at = subst (λ (c : CopyAt). OnPlace spaces c.place at) (sym is) on in
          let before : IsUsed IsInUse mid planned_marks at = in_use_before mid copies group after rest at used in
          absurd (not_released group (changed_there IsInUse spaces mid first.place InUse (Released group) (release_changes spaces mid first group one) at here before))
      | inl (suc k, within, is) ↦ absurd (omega (arith, within))
      | inr later ↦ not_in_released mid copies group after rest copy later at (on_place_too spaces mid copy.place at (one_shapes spaces mid first group one) on) used
    ]

-- ---- what is due becomes free

settled_in_use : (pins : List ℕ) (group : ℕ) (was : State) → settled pins group was ≡ InUse → was ≡ InUse
settled_in_use pins group Free is = absurd (cc)
settled_in_use pins group InUse is = refl
settled_in_use pins group (Released by) is = elim (either (is_due pins group by)) [
  | inl due ↦ absurd (let e : Free ≡ InUse = sym (if_yes (is_due pins group by) Free (Released by) due) ∙ is in cc)
  | inr not_due ↦ absurd (let e : Released by ≡ InUse = sym (if_no (is_due pins group by) Free (Released by) not_due) ∙ is in cc)
]

-- what is still released was released
settled_released : (pins : List ℕ) (group by : ℕ) (was : State) → settled pins group was ≡ Released by → was ≡ Released by
settled_released pins group by Free is = absurd (cc)
settled_released pins group by InUse is = absurd (cc)
settled_released pins group by (Released other) is = elim (either (is_due pins group other)) [
  | inl due ↦ absurd (let e : Free ≡ Released by = sym (if_yes (is_due pins group other) Free (Released other) due) ∙ is in cc)
  | inr not_due ↦ sym (if_no (is_due pins group other) Free (Released other) not_due) ∙ is
]

-- what is used so was used so before, where settling makes nothing else so
settles_uses : (is : State → Type 0) (group : ℕ) (spaces after : List VdevSpace) → ((pins : List ℕ) (was : State) → is (settled pins group was) → is was)
    → shapes_of after ≡ shapes_of spaces → AreSettledIn group spaces after
    → (at : SectorAt) → IsUsed is after filled_marks at → IsUsed is spaces filled_marks at
settles_uses is group spaces after only shapes are at used =
    let was = found_too after spaces at.vdev used.space (sym shapes) used.found in
    let settles = (are at.vdev was.0 used.space was.1 used.found).1 in
    let inside : at.metaslab < length (filled_marks was.0) = omega (arith, slice_get_within (filled_marks used.space) at.metaslab used.metaslab used.there, settles.count) in
    let before = slice_get_some (filled_marks was.0) at.metaslab inside in
    let one = settles.each at.metaslab before.0 used.metaslab before.1 used.there in
    record {
      space = was.0;
      found = was.1;
      metaslab = before.0;
      there = before.1;
      within = omega (arith, used.within, one.sectors);
      used = only was.0.pins (state before.0 at.sector) (subst is (one.states at.sector) used.used);
    }

pub settled_uses : (group : ℕ) (spaces after : List VdevSpace) → shapes_of after ≡ shapes_of spaces → AreSettledIn group spaces after
    → (at : SectorAt) → IsUsed IsInUse after filled_marks at → IsUsed IsInUse spaces filled_marks at
settled_uses group spaces after shapes are = settles_uses IsInUse group spaces after (λ pins was. settled_in_use pins group was) shapes are

pub settled_waits : (group by : ℕ) (spaces after : List VdevSpace) → shapes_of after ≡ shapes_of spaces → AreSettledIn group spaces after
    → (at : SectorAt) → IsUsed (λ s. s ≡ Released by) after filled_marks at → IsUsed (λ s. s ≡ Released by) spaces filled_marks at
settled_waits group by spaces after shapes are = settles_uses (λ s. s ≡ Released by) group spaces after (λ pins was. settled_released pins group by was) shapes are
