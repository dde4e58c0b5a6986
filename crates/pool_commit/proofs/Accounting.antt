-- Which block each sector in use is in, as groups are planned and committed.
use Rattle.std.proofs.Common.{Bool, true, false, if◌then◌else◌, ℕ, zero, suc, ◌≡◌, ◌≢◌, ◌⊎◌, inl, inr, ◌+◌, ◌<◌, ◌≤◌, ◌&&◌, Some, None, List, [], ◌∷◌, length, Contains, refl, sym, ap, subst, ◌∙◌, arith}
use Rattle.std.specs.Prelude.{nat_le}
use Rattle.std.specs.List.{slice_get, list_all, count_by}
use Rattle.std.proofs.lemmas.Bool.{cases_lt}
use Rattle.std.proofs.lemmas.Bool.Decides.{nat_tests}
use Rattle.std.proofs.lemmas.List.Elements.{Contains-append_left, Contains-append_right}
use Rattle.std.proofs.lemmas.Option.{slice_get_within, get_or_from_slice_get}
use Rattle.block_pointer.specs.declared.block.Block.{Block}
use Rattle.block_pointer.specs.declared.dva.Dva.{Dva}
use Rattle.block_pointer.specs.Copies.{dvas}
use Rattle.raidz_io.proofs.Written.{same_some, slice_get_some}
use Rattle.metaslab.specs.Space.{Space, state}
use Rattle.metaslab.specs.State.{State, Free, InUse, Released, settled, is_due}
use Rattle.metaslab.specs.Spaces.{IsWhollyFree, AreWhollyFree}
use Rattle.block_store.specs.Accounts.{SectorAt, IsUsed, AreAccounted}
use Rattle.block_store.specs.Blocks.{Contents}
use Rattle.block_store.specs.Places.{IsNotFree, Marks, shapes_of, HaveMarks, IsEmpty, AreEmpty}
use Rattle.block_store.specs.Places.{filled as filled_marks, planned as planned_marks}
use Rattle.block_store.specs.Releases.{CopyAt, copy_of_at, copies_of_at, copies_of, copies_of_all, AreReleased, AreSettledInSome}
use Rattle.block_store.specs.Spaces.{VdevSpace}
use Rattle.block_store.specs.Steps.{Placed, HavePlaced}
use Rattle.block_store.specs.Uses.{IsInUse}
use Rattle.block_store.proofs.Accounting.{has_too, has_on_place, used_before, in_use_before, released_uses, not_in_released, placed_uses}
use Rattle.block_store.proofs.Taking.{found_too}
use Rattle.dataset_snapshots.specs.Groups.{IsReachExchanged}
use Rattle.dnode_tree.proofs.SameBlocks.{same_as, counted, found}
use Rattle.pool_commit.specs.Space.{AreInBlocks, IsFor, WereReleasedBy}

-- ---- marks that are the same

pub in_blocks_by : (spaces after : List VdevSpace) (marks later : Marks) (blocks : List Block) → shapes_of after ≡ shapes_of spaces
    → HaveMarks spaces marks after later → AreInBlocks spaces marks blocks → AreInBlocks after later blocks
in_blocks_by spaces after marks later blocks shapes are within at used =
    let (block, held, has) = within at (used_before IsInUse spaces after marks later at shapes are used) in
    (block, held, has_too spaces after block at shapes has)

pub released_by_marks : (spaces after : List VdevSpace) (marks later : Marks) (last : ℕ) → shapes_of after ≡ shapes_of spaces
    → HaveMarks spaces marks after later → WereReleasedBy spaces marks last → WereReleasedBy after later last
released_by_marks spaces after marks later last shapes are by group at used =
    by group at (used_before (λ state. state ≡ Released group) spaces after marks later at shapes are used)

-- ---- nothing is in use in a new store

free_is_not : (is : State → Type 0) → ¬ is Free → (spaces : List VdevSpace) → AreEmpty spaces → (at : SectorAt) → ¬ IsUsed is spaces filled_marks at
free_is_not is none spaces empty at used =
    let one : IsEmpty used.space = empty_at spaces at.vdev used.space empty used.found in
    let free : IsWhollyFree used.metaslab _ = free_at (filled_marks used.space) at.metaslab used.metaslab _ one.none_filled used.there in
    none (subst is (free.free at.sector (omega (arith, used.within, free.size))) used.used)
  where
    empty_at : (spaces : List VdevSpace) (v : ℕ) (space : VdevSpace) → AreEmpty spaces → slice_get spaces v ≡ Some space → IsEmpty space
    empty_at spaces v space all there = subst IsEmpty (get_or_from_slice_get spaces v space space there) (all v space (slice_get_within spaces v space there))

    free_at : (metaslabs : List Space) (m : ℕ) (metaslab : Space) (sectors : ℕ) → AreWhollyFree metaslabs sectors
        → slice_get metaslabs m ≡ Some metaslab → IsWhollyFree metaslab sectors
    free_at metaslabs m metaslab sectors all there =
        subst (λ x. IsWhollyFree x sectors) (get_or_from_slice_get metaslabs m metaslab metaslab there) (all m metaslab (slice_get_within metaslabs m metaslab there))

free_not_used : ¬ IsInUse Free
free_not_used is = absurd (cc)

free_not_released : (group : ℕ) → ¬ (Free ≡ Released group)
free_not_released group is = absurd (cc)

pub none_in_use : (spaces : List VdevSpace) (blocks : List Block) → AreEmpty spaces → AreInBlocks spaces filled_marks blocks
none_in_use spaces blocks empty at used = absurd (free_is_not IsInUse free_not_used spaces empty at used)

pub none_released : (spaces : List VdevSpace) (last : ℕ) → AreEmpty spaces → WereReleasedBy spaces filled_marks last
none_released spaces last empty group at used = absurd (free_is_not (λ state. state ≡ Released group) (free_not_released group) spaces empty at used)

-- ---- what is due becomes free

if_yes : {X : Type 0} (test : Bool) (x y : X) → test ≡ true → (if test then x else y) ≡ x
if_yes true x y is = refl
if_yes false x y is = absurd (cc)

if_no : {X : Type 0} (test : Bool) (x y : X) → test ≡ false → (if test then x else y) ≡ y
if_no true x y is = absurd (cc)
if_no false x y is = refl

either : (test : Bool) → (test ≡ true) ⊎ (test ≡ false)
either true = inl refl
either false = inr refl

settled_in_use : (pins : List ℕ) (group : ℕ) (was : State) → settled pins group was ≡ InUse → was ≡ InUse
settled_in_use pins group Free is = absurd (cc)
settled_in_use pins group InUse is = refl
settled_in_use pins group (Released by) is = elim (either (is_due pins group by)) [
  | inl due ↦ absurd (let e : Free ≡ InUse = sym (if_yes (is_due pins group by) Free (Released by) due) ∙ is in cc)
  | inr not_due ↦ absurd (let e : Released by ≡ InUse = sym (if_no (is_due pins group by) Free (Released by) not_due) ∙ is in cc)
]

settled_released : (pins : List ℕ) (group by : ℕ) (was : State) → settled pins group was ≡ Released by → was ≡ Released by
settled_released pins group by Free is = absurd (cc)
settled_released pins group by InUse is = absurd (cc)
settled_released pins group by (Released other) is = elim (either (is_due pins group other)) [
  | inl due ↦ absurd (let e : Free ≡ Released by = sym (if_yes (is_due pins group other) Free (Released other) due) ∙ is in cc)
  | inr not_due ↦ sym (if_no (is_due pins group other) Free (Released other) not_due) ∙ is
]

-- what is used so in some metaslabs that settled, and in others that didn't, was used so before
settles_uses : (is : State → Type 0) (group : ℕ) (spaces after : List VdevSpace) → ((pins : List ℕ) (was : State) → is (settled pins group was) → is was)
    → shapes_of after ≡ shapes_of spaces → AreSettledInSome group spaces after
    → (at : SectorAt) → IsUsed is after filled_marks at → IsUsed is spaces filled_marks at
settles_uses is group spaces after only shapes are at used =
    let was = found_too after spaces at.vdev used.space (sym shapes) used.found in
    let settles = (are at.vdev was.0 used.space was.1 used.found).1 in
    let inside : at.metaslab < length (filled_marks was.0) = omega (arith, slice_get_within (filled_marks used.space) at.metaslab used.metaslab used.there, settles.count) in
    let before = slice_get_some (filled_marks was.0) at.metaslab inside in
    elim (settles.each at.metaslab before.0 used.metaslab before.1 used.there) [
      | inl same ↦ record {
        space = was.0;
        found = was.1;
        metaslab = used.metaslab;
        there = before.1 ∙ ap Some (sym same);
        within = used.within;
        used = used.used;
      }
      | inr one ↦ record {
        space = was.0;
        found = was.1;
        metaslab = before.0;
        there = before.1;
        within = omega (arith, used.within, one.sectors);
        used = only was.0.pins (state before.0 at.sector) (subst is (one.states at.sector) used.used);
      }
    ]

-- what isn't free, in some metaslabs that settled and in others that didn't, wasn't free before
pub settled_not_free : (group : ℕ) (spaces after : List VdevSpace) → shapes_of after ≡ shapes_of spaces → AreSettledInSome group spaces after
    → (at : SectorAt) → IsFor IsNotFree after filled_marks at → IsFor IsNotFree spaces filled_marks at
settled_not_free group spaces after shapes are at used =
    let was = found_too after spaces at.vdev used.space (sym shapes) used.found in
    let settles = (are at.vdev was.0 used.space was.1 used.found).1 in
    let inside : at.metaslab < length (filled_marks was.0) = omega (arith, slice_get_within (filled_marks used.space) at.metaslab used.metaslab used.there, settles.count) in
    let before = slice_get_some (filled_marks was.0) at.metaslab inside in
    elim (settles.each at.metaslab before.0 used.metaslab before.1 used.there) [
      | inl same ↦ record { space = was.0; found = was.1; metaslab = used.metaslab; there = before.1 ∙ ap Some (sym same); used = used.used }
      | inr one ↦ record {
        space = was.0;
        found = was.1;
        metaslab = before.0;
        there = before.1;
        used = λ free. used.used (one.states at.sector ∙ ap (settled was.0.pins group) free);
      }
    ]

-- marks that are the same are used for the same
pub for_before : (is : State → Type 0) (spaces after : List VdevSpace) (marks later : Marks) (at : SectorAt) → shapes_of after ≡ shapes_of spaces
    → HaveMarks spaces marks after later → IsFor is after later at → IsFor is spaces marks at
for_before is spaces after marks later at shapes have used =
    let was = found_too after spaces at.vdev used.space (sym shapes) used.found in
    let same : later used.space ≡ marks was.0 = have at.vdev was.0 used.space was.1 used.found in
    record {
      space = was.0;
      found = was.1;
      metaslab = used.metaslab;
      there = ap (λ (them : List Space). slice_get them at.metaslab) (sym same) ∙ used.there;
      used = used.used;
    }

pub settled_in_blocks : (group : ℕ) (spaces after : List VdevSpace) (blocks : List Block) → shapes_of after ≡ shapes_of spaces → AreSettledInSome group spaces after
    → AreInBlocks spaces filled_marks blocks → AreInBlocks after filled_marks blocks
settled_in_blocks group spaces after blocks shapes are within at used =
    let (block, held, has) = within at (settles_uses IsInUse group spaces after (λ pins was. settled_in_use pins group was) shapes are at used) in
    (block, held, has_too spaces after block at shapes has)

pub settled_released_by : (group : ℕ) (spaces after : List VdevSpace) (last : ℕ) → shapes_of after ≡ shapes_of spaces → AreSettledInSome group spaces after
    → WereReleasedBy spaces filled_marks last → WereReleasedBy after filled_marks last
settled_released_by group spaces after last shapes are by g at used =
    by g at (settles_uses (λ state. state ≡ Released g) group spaces after (λ pins was. settled_released pins group g was) shapes are at used)

-- ---- a group that is planned

-- a copy of a block of a list is one of the copies of all
copy_of : (block : Block) (i : ℕ) (place : Dva) → slice_get (dvas block.copies) i ≡ Some place
    → Contains (copies_of block) (copy_of_at block place)
copy_of block i place at = among (dvas block.copies) i place at
  where
    among : (places : List Dva) (i : ℕ) (place : Dva) → slice_get places i ≡ Some place → Contains (copies_of_at block places) (copy_of_at block place)
    among [] i place at = absurd (cc)
    among (first ∷ places) zero place at =
        let same : first ≡ place = same_some first place at in
        let here : Contains (copies_of_at block (first ∷ places)) (copy_of_at block first) = (0, omega arith, refl) in
        subst (λ p. Contains (copies_of_at block (first ∷ places)) (copy_of_at block p)) same here
    among (first ∷ places) (suc i) place at =
        Contains-append_right (copy_of_at block first ∷ []) (copies_of_at block places) (copy_of_at block place) (among places i place at)

copy_of_all : (blocks : List Block) (block : Block) (copy : CopyAt) → Contains blocks block → Contains (copies_of block) copy → Contains (copies_of_all blocks) copy
copy_of_all [] block copy (k, within, is) held = absurd (omega arith)
copy_of_all (first ∷ blocks) block copy (zero, within, is) held =
    Contains-append_left (copies_of first) (copies_of_all blocks) copy (subst (λ b. Contains (copies_of b) copy) (sym is) held)
copy_of_all (first ∷ blocks) block copy (suc k, within, is) held =
    Contains-append_right (copies_of first) (copies_of_all blocks) copy (copy_of_all blocks block copy (k, omega arith, is) held)

-- what is planned and was not given back is in what the new root leads to
pub planned_in_blocks : (birth : ℕ) (made after : List VdevSpace) (stored later : Contents) (before reach gone : List Block) (group : ℕ)
    → IsReachExchanged birth stored later before reach gone → AreAccounted made stored later → AreInBlocks made filled_marks before
    → AreReleased made (copies_of_all gone) group after → shapes_of after ≡ shapes_of made → AreInBlocks after planned_marks reach
planned_in_blocks birth made after stored later before reach gone group one accounted filled released shapes at used =
    elim (accounted at (in_use_before made (copies_of_all gone) group after released at used)) [
      | inr new ↦ elim (one.only new.block new.bytes new.is_planned) [
        | inl added ↦
            let some : 0 < count_by (same_as new.block) one.added = counted new.block one.added added in
            (new.block, found new.block reach (omega (arith, some, one.after_are (same_as new.block))), has_too made after new.block at shapes new.has)
        | inr known ↦ absurd (let clash : Some new.bytes ≡ None = sym known ∙ new.is_new in cc)
      ]
      | inl there ↦
          let (block, held, has) = filled at there in
          let all : 0 < count_by (same_as block) before = counted block before held in
          elim (cases_lt 0 (count_by (same_as block) one.stayed)) [
            | inl stayed ↦ (block, found block reach (omega (arith, stayed, one.after_are (same_as block))), has_too made after block at shapes has)
            | inr none ↦
                let left : Contains gone block = found block gone (omega (arith, all, none, one.before_are (same_as block))) in
                let copy : CopyAt = copy_of_at block has.place in
                absurd (not_in_released made (copies_of_all gone) group after released copy
                (copy_of_all gone block copy left (copy_of block has.i has.place has.is_copy)) at (has_on_place made block at has) used)
          ]
    ]

-- and what was released was so by the group, or an earlier one
pub planned_released_by : (begun made after : List VdevSpace) (placed : List Placed) (copies : List CopyAt) (last group : ℕ) → last ≤ group
    → WereReleasedBy begun planned_marks last → HavePlaced begun placed made → AreReleased made copies group after → WereReleasedBy after planned_marks group
planned_released_by begun made after placed copies last group less by placed_are released g at used =
    elim (released_uses (λ state. state ≡ Released g) made copies group after released at used) [
      | inr same ↦ omega (arith, group_is group g same)
      | inl was ↦ elim (placed_uses (λ state. state ≡ Released g) begun placed made placed_are at was) [
        | inl before ↦ omega (arith, by g at before, less)
        | inr wrong ↦ absurd (cc)
      ]
    ]
  where
    group_of : State → ℕ
    group_of (Released n) = n
    group_of other = 0

    group_is : (a b : ℕ) → Released a ≡ Released b → a ≡ b
    group_is a b same = ap group_of same

-- ---- the law

any_fails : (test : ℕ → Bool) (xs : List ℕ) → list_all test xs ≡ false → (x : ℕ) × Contains xs x × (test x ≡ false)
any_fails test [] is = absurd (cc)
any_fails test (x ∷ xs) is = elim (either (test x)) [
  | inr fails ↦ (x, (0, omega arith, refl), fails)
  | inl passes ↦
      let rest : list_all test xs ≡ false = ap (λ b. b && list_all test xs) (sym passes) ∙ is in
      let (y, held, fails) = any_fails test xs rest in
      (y, Contains-append_right (x ∷ []) xs y held, fails)
]

not_both : (a b : Bool) → (a && b) ≡ false → (a ≡ false) ⊎ (b ≡ false)
not_both false b is = inl refl
not_both true b is = inr is

-- what waits still was released lately, or behind a pin
pub waits : (pins : List ℕ) (committed by : ℕ) → settled pins (suc committed) (Released by) ≢ Free → (committed ≤ suc by) ⊎ ((pin : ℕ) × Contains pins pin × (pin < by))
waits pins committed by not_free = elim (either (is_due pins (suc committed) by)) [
  | inl due ↦ absurd (not_free (if_yes (is_due pins (suc committed) by) Free (Released by) due))
  | inr not_due ↦ elim (not_both (nat_le (by + 3) (suc committed)) (list_all (λ pin. nat_le by pin) pins) not_due) [
    | inl early ↦ inl (let few : ¬ (by + 3 ≤ suc committed) = grind (arith, nat_tests, early) in omega (arith, few))
    | inr pinned ↦
        let (pin, held, fails) = any_fails (λ pin. nat_le by pin) pins pinned in
        inr (pin, held, let few : ¬ (by ≤ pin) = grind (arith, nat_tests, fails) in omega (arith, few))
  ]
]
