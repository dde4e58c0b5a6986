-- Maps, while the meta regions are planned and given back.
use Rattle.block_store.specs.Steps.{HavePlaced, Placed}
use Rattle.std.proofs.lemmas.List.{append_assoc}
use Rattle.std.proofs.Common.{◌≡◌, ℕ, ◌<◌, ◌≤◌, List, [], ◌∷◌, ◌++◌, Some, Option, All, inl, inr, get_or, refl, sym, ap, subst, ◌∙◌, arith}
use Rattle.std.specs.Prelude.{slice_set}
use Rattle.std.specs.List.{slice_get}
use Rattle.std.proofs.lemmas.Bool.{cases_eq}
use Rattle.std.proofs.lemmas.List.Elements.{All-contains, All-head, All-tail}
use Rattle.block_pointer.specs.declared.block.Block.{Block}
use Rattle.block_pointer.specs.declared.dva.Dva.{Dva}
use Rattle.block_store.specs.Places.{planned, run_at, shapes_of, AreChosen, IsChosen, IsTakenToo}
use Rattle.block_store.specs.Releases.{CopyAt, AreReleased, IsReleased, copies_of, copies_of_all}
use Rattle.block_store.specs.Shapes.{IsPlace, first_meta, metaslab_of, metaslab_sectors}
use Rattle.block_store.specs.Spaces.{VdevSpace}
use Rattle.block_store.specs.declared.shape.VdevShape.{VdevShape}
use Rattle.block_store.proofs.GivenBack.{released_shapes}
use Rattle.block_store.proofs.Taking.{found_too, map-set_same, slice_get-set_found, slice_get-set_other}
use Rattle.meta_objset.specs.declared.space_maps.MetaslabMap.{MetaslabMap}
use Rattle.metaslab.specs.State.{InUse, Released}
use Rattle.metaslab.specs.Space.{Space}
use Rattle.metaslab.specs.Spaces.{ChangesIn}
use Rattle.objset.specs.declared.changes.ObjectChange.{ObjectChange}
use Rattle.objset.specs.Changes.{changed}
use Rattle.objset.specs.Objects.{Object}
use Rattle.raidz_io.proofs.Written.{same_some}
use Rattle.pool_maps.specs.Beside.{AreSameBefore, IsBeforeMeta, IsInMeta, LieBeforeMeta, LieInMeta}
use Rattle.pool_maps.specs.Maps.{AreMaps, AreMapsOf, HasMapPlace, HasShortMapOf}
use Rattle.pool_maps.specs.Plans.{MapAnew}
use Rattle.pool_maps.specs.Reached.{AreThere}
use Rattle.pool_maps.proofs.Planned.{all_from}
use Rattle.pool_maps.proofs.Whole.{place_by, sectors_back}

-- ---- the same metaslabs

same_here : (spaces : List VdevSpace) → AreSameBefore spaces spaces
same_here spaces = record {
  shapes = refl;
  same = λ vdev metaslab space new found later below. ap (λ (s : VdevSpace). slice_get (planned s) metaslab) (same_some new space (sym later ∙ found));
}

same_on : (spaces mid after : List VdevSpace) → AreSameBefore spaces mid → AreSameBefore mid after → AreSameBefore spaces after
same_on spaces mid after first rest = record {
  shapes = rest.shapes ∙ first.shapes;
  same = λ vdev metaslab space new found later below.
      let between = found_too spaces mid vdev space first.shapes found in
      rest.same vdev metaslab between.0 new between.1 later (subst (λ (s : VdevShape). metaslab < first_meta s) (sym between.2) below)
      ∙ first.same vdev metaslab space between.0 found between.1 below;
}

same_back : (spaces after : List VdevSpace) → AreSameBefore spaces after → AreSameBefore after spaces
same_back spaces after are = record {
  shapes = sym are.shapes;
  same = λ vdev metaslab new space later found below.
      let between = found_too after spaces vdev new (sym are.shapes) later in
      let space_is : between.0 ≡ space = same_some between.0 space (sym between.1 ∙ found) in
      let shape_is : space.shape ≡ new.shape = sym (ap (λ (s : VdevSpace). s.shape) space_is) ∙ between.2 in
      sym (are.same vdev metaslab space new found later (subst (λ (s : VdevShape). metaslab < first_meta s) (sym shape_is) below));
}

-- maps are those of both
pub maps_of_same : (objects : ℕ → Option Object) (spaces after : List VdevSpace) → AreSameBefore spaces after → AreMapsOf objects spaces planned → AreMapsOf objects after planned
maps_of_same objects spaces after same are = record {
  maps = are.maps;
  are = maps_there;
  short = all_from (λ (m : MetaslabMap). HasShortMapOf after m.metaslab (objects m.object)) are.maps
      (λ row held sectors has. All-contains (λ (m : MetaslabMap). HasShortMapOf spaces m.metaslab (objects m.object)) are.maps row are.short held sectors
      (sectors_back spaces after row.metaslab sectors same.shapes (All-contains (λ (m : MetaslabMap). HasMapPlace spaces m.metaslab) are.maps row are.are.rows.places held) has));
}
  where
    maps_there : AreMaps objects after planned are.maps
    maps_there = record {
      table = are.are.table;
      rows = record {
        places = all_from (λ (m : MetaslabMap). HasMapPlace after m.metaslab) are.maps
            (λ row held. place_by spaces after row.metaslab same.shapes (All-contains (λ (m : MetaslabMap). HasMapPlace spaces m.metaslab) are.maps row are.are.rows.places held));
        behind = are.are.rows.behind;
        apart = are.are.rows.apart;
      };
      each = λ place free there frees unused.
          let before : HasMapPlace spaces place = place_by after spaces place (sym same.shapes) there in
          let space_is = found_too spaces after place.vdev before.space same.shapes before.found in
          let new_is : space_is.0 ≡ unused.space = same_some space_is.0 unused.space (sym space_is.1 ∙ unused.found) in
          let shape_is : unused.space.shape ≡ before.space.shape = sym (ap (λ (s : VdevSpace). s.shape) new_is) ∙ space_is.2 in
          are.are.each place free before frees (record {
            space = before.space;
            found = before.found;
            there = unused.there;
            is_there = sym (same.same place.vdev place.index before.space unused.space before.found unused.found before.before) ∙ unused.is_there;
            sectors = unused.sectors ∙ ap metaslab_sectors shape_is;
            unused = unused.unused;
          });
    }

-- and sets of what is unused
there_of_same : (spaces after : List VdevSpace) → AreSameBefore spaces after → AreThere spaces planned → AreThere after planned
there_of_same spaces after same there = λ place is.
    let before : HasMapPlace spaces place = place_by after spaces place (sym same.shapes) is in
    let has = there place before in
    let space_is : before.space ≡ has.unused.space = same_some before.space has.unused.space (sym before.found ∙ has.unused.found) in
    let later = found_too spaces after place.vdev has.unused.space same.shapes has.unused.found in
    record {
      free = has.free;
      are = has.are;
      unused = record {
        space = later.0;
        found = later.1;
        there = has.unused.there;
        is_there = same.same place.vdev place.index has.unused.space later.0 has.unused.found later.1
            (subst (λ (s : VdevSpace). place.index < first_meta s.shape) space_is before.before) ∙ has.unused.is_there;
        sectors = has.unused.sectors ∙ ap metaslab_sectors (sym later.2);
        unused = has.unused.unused;
      };
    }

-- ---- copies that are given back

one_shapes : (spaces after : List VdevSpace) (copy : CopyAt) (group : ℕ) → IsReleased spaces copy group after → shapes_of after ≡ shapes_of spaces
one_shapes spaces after copy group is =
    ap shapes_of is.rest ∙ map-set_same (λ s. s.shape) spaces copy.place.vdev is.space (record is.space { planned = is.later }) is.found refl

-- a metaslab of a meta region changed
one_changed : (spaces after : List VdevSpace) (v m : ℕ) (space : VdevSpace) (later : List Space) (x : Space) → slice_get spaces v ≡ Some space → later ≡ slice_set (planned space) m x
    → after ≡ slice_set spaces v (record space { planned = later }) → first_meta space.shape ≤ m → AreSameBefore spaces after
one_changed spaces after v m space later x found_v later_is after_is past = record {
  shapes = ap shapes_of after_is ∙ map-set_same (λ s. s.shape) spaces v space (record space { planned = later }) found_v refl;
  same = λ vdev metaslab old new found found_new below. elim (cases_eq v vdev) [
    | inr apart ↦
        let unchanged : slice_get after vdev ≡ slice_get spaces vdev = ap (λ xs. slice_get xs vdev) after_is ∙ slice_get-set_other spaces v vdev (record space { planned = later }) apart in
        ap (λ (s : VdevSpace). slice_get (planned s) metaslab) (same_some new old (sym found_new ∙ unchanged ∙ found))
    | inl here ↦
        let found_here : slice_get spaces vdev ≡ Some space = subst (λ w. slice_get spaces w ≡ Some space) here found_v in
        let space_is : space ≡ old = same_some space old (sym found_here ∙ found) in
        let later_here : slice_get after vdev ≡ Some (record space { planned = later }) =
        ap (λ xs. slice_get xs vdev) after_is ∙ ap (λ w. slice_get (slice_set spaces w (record space { planned = later })) vdev) here
        ∙ slice_get-set_found spaces vdev space (record space { planned = later }) found_here in
        let new_is : new ≡ record space { planned = later } = same_some new (record space { planned = later }) (sym found_new ∙ later_here) in
        let low : metaslab < first_meta space.shape = subst (λ (s : VdevSpace). metaslab < first_meta s.shape) (sym space_is) below in
        ap (λ (s : VdevSpace). slice_get (planned s) metaslab) new_is
        ∙ ap (λ xs. slice_get xs metaslab) later_is
        ∙ slice_get-set_other (planned space) m metaslab x (λ at. (omega (arith, past, low, at)))
        ∙ ap (λ (s : VdevSpace). slice_get (planned s) metaslab) space_is
  ];
}

-- a copy in one was given back
one_in_meta : (spaces after : List VdevSpace) (copy : CopyAt) (group : ℕ) → IsInMeta spaces copy → IsReleased spaces copy group after → AreSameBefore spaces after
one_in_meta spaces after copy group in_meta is =
    one_changed spaces after copy.place.vdev (metaslab_of is.space.shape copy.place) is.space is.later is.released.later is.found is.released.rest is.rest (in_meta is.space is.found)

-- or was taken
one_taken : (spaces after : List VdevSpace) (taken : List Dva) (sectors : ℕ) (place : Dva) → IsChosen spaces taken sectors 3 place → IsTakenToo spaces place after → AreSameBefore spaces after
one_taken spaces after taken sectors place chosen is =
    let space_is : chosen.space ≡ is.space = same_some chosen.space is.space (sym chosen.found ∙ is.found) in
    let past : first_meta is.space.shape ≤ metaslab_of is.space.shape place =
    subst (λ (s : VdevSpace). first_meta s.shape ≤ metaslab_of s.shape place) space_is (chosen.free.region.meta refl) in
    one_changed spaces after place.vdev (metaslab_of is.space.shape place) is.space is.later is.taken.later is.found is.taken.rest is.rest past

all_taken : (spaces after : List VdevSpace) (taken : List Dva) (sectors : ℕ) (places : List Dva) → AreChosen spaces taken sectors 3 places after → AreSameBefore spaces after
all_taken spaces after taken sectors [] is = subst (AreSameBefore spaces) (sym is) (same_here spaces)
all_taken spaces after taken sectors (place ∷ places) (chosen, mid, one, rest) =
    same_on spaces mid after (one_taken spaces mid taken sectors place chosen one) (all_taken mid after (taken ++ place ∷ []) sectors places rest)

pub placed_in_meta : (spaces after : List VdevSpace) (placed : List Placed) → All (λ (block : Placed). block.copies ≡ 3) placed → HavePlaced spaces placed after → AreSameBefore spaces after
placed_in_meta spaces after [] all is = subst (AreSameBefore spaces) (sym is) (same_here spaces)
placed_in_meta spaces after (block ∷ blocks) all (mid, one, rest) =
    let three = All-head (λ (b : Placed). b.copies ≡ 3) block blocks all in
    same_on spaces mid after (all_taken spaces mid [] block.sectors block.places (subst (λ n. AreChosen spaces [] block.sectors n block.places mid) three one))
    (placed_in_meta mid after blocks (All-tail (λ (b : Placed). b.copies ≡ 3) block blocks all) rest)

still_in_meta : (spaces after : List VdevSpace) (copy : CopyAt) → shapes_of after ≡ shapes_of spaces → IsInMeta spaces copy → IsInMeta after copy
still_in_meta spaces after copy shapes in_meta = λ new later.
    let before = found_too after spaces copy.place.vdev new (sym shapes) later in
    subst (λ (s : VdevShape). first_meta s ≤ metaslab_of s copy.place) before.2 (in_meta before.0 before.1)

still_before : (spaces after : List VdevSpace) (copy : CopyAt) → shapes_of after ≡ shapes_of spaces → IsBeforeMeta spaces copy → IsBeforeMeta after copy
still_before spaces after copy shapes is = λ new later.
    let before = found_too after spaces copy.place.vdev new (sym shapes) later in
    subst (λ (s : VdevShape). metaslab_of s copy.place < first_meta s) before.2 (is before.0 before.1)

all_still : {P Q : CopyAt → Type 0} → (copies : List CopyAt) → ((copy : CopyAt) → P copy → Q copy) → All P copies → All Q copies
all_still {P} {Q} copies into all = λ k d low. into (get_or copies k d) (all k d low)

pub released_in_meta : (spaces after : List VdevSpace) (copies : List CopyAt) (group : ℕ) → All (IsInMeta spaces) copies → AreReleased spaces copies group after → AreSameBefore spaces after
released_in_meta spaces after [] group all are = subst (AreSameBefore spaces) (sym are) (same_here spaces)
released_in_meta spaces after (copy ∷ copies) group all (mid, one, rest) =
    let first = one_in_meta spaces mid copy group (All-head (IsInMeta spaces) copy copies all) one in
    same_on spaces mid after first
    (released_in_meta mid after copies group (all_still copies (λ other is. still_in_meta spaces mid other first.shapes is) (All-tail (IsInMeta spaces) copy copies all)) rest)

-- the same is given back where the metaslabs are the same
one_moved : (spaces now after : List VdevSpace) (copy : CopyAt) (group : ℕ) → AreSameBefore spaces now → IsBeforeMeta spaces copy → IsReleased now copy group after
    → (then_spaces : List VdevSpace) × IsReleased spaces copy group then_spaces × AreSameBefore then_spaces after
one_moved spaces now after copy group same before is =
    let old = found_too now spaces copy.place.vdev is.space (sym same.shapes) is.found in
    let metaslab = metaslab_of is.space.shape copy.place in
    let slab_is : metaslab_of old.0.shape copy.place ≡ metaslab = ap (λ s. metaslab_of s copy.place) old.2 in
    let below : metaslab < first_meta old.0.shape = subst (λ m. m < first_meta old.0.shape) slab_is (before old.0 old.1) in
    let there : slice_get (planned old.0) metaslab ≡ Some is.released.space = sym (same.same copy.place.vdev metaslab old.0 is.space old.1 is.found below) ∙ is.released.found in
    let later_old : List Space = slice_set (planned old.0) metaslab is.released.later in
    let released : ChangesIn (planned old.0) later_old metaslab (run_at is.space.shape copy.place) InUse (Released group) =
    record { space = is.released.space; later = is.released.later; found = there; was = is.released.was; changes = is.released.changes; rest = refl } in
    let new_old : VdevSpace = record old.0 { planned = later_old } in
    let moved : IsReleased spaces copy group (slice_set spaces copy.place.vdev new_old) = record {
      space = old.0;
      found = old.1;
      is_place = subst (λ (s : VdevShape). IsPlace s copy.sectors copy.place) (sym old.2) is.is_place;
      later = later_old;
      released = subst (λ (s : VdevShape). ChangesIn (planned old.0) later_old (metaslab_of s copy.place) (run_at s copy.place) InUse (Released group)) (sym old.2) released;
      rest = refl;
    } in (
      slice_set spaces copy.place.vdev new_old,
      moved,
      record {
        shapes = one_shapes now after copy group is ∙ same.shapes ∙ sym (one_shapes spaces (slice_set spaces copy.place.vdev new_old) copy group moved);
        same = λ vdev m space new found later less. elim (cases_eq copy.place.vdev vdev) [
          | inr apart ↦
              same.same vdev m space new (sym (slice_get-set_other spaces copy.place.vdev vdev new_old apart) ∙ found)
              (sym (slice_get-set_other now copy.place.vdev vdev (record is.space { planned = is.later }) apart) ∙ sym (ap (λ xs. slice_get xs vdev) is.rest) ∙ later) less
          | inl here ↦
              let old_at : slice_get spaces vdev ≡ Some old.0 = subst (λ v. slice_get spaces v ≡ Some old.0) here old.1 in
              let now_at : slice_get now vdev ≡ Some is.space = subst (λ v. slice_get now v ≡ Some is.space) here is.found in
              let space_is : space ≡ new_old = same_some space new_old (sym found ∙ ap (λ v. slice_get (slice_set spaces v new_old) vdev) here ∙ slice_get-set_found spaces vdev old.0 new_old old_at) in
              let new_is : new ≡ record is.space { planned = is.later } = same_some new (record is.space { planned = is.later })
              (sym later ∙ ap (λ xs. slice_get xs vdev) is.rest ∙ ap (λ v. slice_get (slice_set now v (record is.space { planned = is.later })) vdev) here
              ∙ slice_get-set_found now vdev is.space (record is.space { planned = is.later }) now_at) in
              ap (λ (s : VdevSpace). slice_get (planned s) m) new_is ∙ ap (λ xs. slice_get xs m) is.released.rest
              ∙ elim (cases_eq metaslab m) [
                | inl at ↦ subst (λ k. slice_get (slice_set (planned is.space) metaslab is.released.later) k ≡ slice_get later_old k) at
                    (slice_get-set_found (planned is.space) metaslab is.released.space is.released.later is.released.found
                    ∙ sym (slice_get-set_found (planned old.0) metaslab is.released.space is.released.later there))
                | inr other ↦ slice_get-set_other (planned is.space) metaslab m is.released.later other
                    ∙ same.same vdev m old.0 is.space old_at now_at (subst (λ (s : VdevSpace). m < first_meta s.shape) space_is less)
                    ∙ sym (slice_get-set_other (planned old.0) metaslab m is.released.later other)
              ]
              ∙ ap (λ (s : VdevSpace). slice_get (planned s) m) (sym space_is)
        ];
      },
    )

moved : (spaces now after : List VdevSpace) (copies : List CopyAt) (group : ℕ) → AreSameBefore spaces now → All (IsBeforeMeta spaces) copies → AreReleased now copies group after
    → (then_spaces : List VdevSpace) × AreReleased spaces copies group then_spaces × AreSameBefore then_spaces after
moved spaces now after [] group same all are = (spaces, refl, subst (AreSameBefore spaces) (sym are) same)
moved spaces now after (copy ∷ copies) group same all (mid, one, rest) =
    let first = one_moved spaces now mid copy group same (All-head (IsBeforeMeta spaces) copy copies all) one in
    let shapes = one_shapes spaces first.0 copy group first.1 in
    let others = moved first.0 mid after copies group first.2 (all_still copies (λ other is. still_before spaces first.0 other shapes is) (All-tail (IsBeforeMeta spaces) copy copies all)) rest in
    (others.0, (first.0, first.1, others.1), others.2)

parts : (spaces after : List VdevSpace) (copies others : List CopyAt) (group : ℕ) → AreReleased spaces (copies ++ others) group after
    → (mid : List VdevSpace) × AreReleased spaces copies group mid × AreReleased mid others group after
parts spaces after [] others group are = (spaces, refl, are)
parts spaces after (copy ∷ copies) others group (next, is, rest) = let these = parts next after copies others group rest in (these.0, (next, is, these.1), these.2)

-- the blocks between are given back as if the others were not
pub anew_beside : (objects : ℕ → Option Object) (spaces now after : List VdevSpace) (front gone back : List CopyAt) (blocks : List Block) (group : ℕ) (changes : List ObjectChange)
    → gone ≡ copies_of_all blocks → MapAnew objects spaces blocks changes → AreSameBefore spaces now → All (IsInMeta spaces) front → All (IsBeforeMeta spaces) gone
    → All (IsInMeta spaces) back → AreReleased now (front ++ (gone ++ back)) group after → AreMapsOf (changed changes objects) after planned × AreThere after planned
anew_beside objects spaces now after front gone back blocks group changes gone_is anew same first mid_all last are =
    let one = parts now after front (gone ++ back) group are in
    let two = parts one.0 after gone back group one.2 in
    let shapes_one = released_shapes now front group one.0 one.1 in
    let shapes_two = released_shapes one.0 gone group two.0 two.1 in
    let before = same_on spaces now one.0 same (released_in_meta now one.0 front group (all_still front (λ copy is. still_in_meta spaces now copy same.shapes is) first) one.1) in
    let these = moved spaces one.0 two.0 gone group before mid_all two.1 in
    let behind = released_in_meta two.0 after back group (all_still back (λ copy is. still_in_meta spaces two.0 copy (shapes_two ∙ before.shapes) is) last) two.2 in
    let whole = same_on these.0 two.0 after these.2 behind in
    let made = anew these.0 group (subst (λ copies. AreReleased spaces copies group these.0) gone_is these.1) in
    (maps_of_same (changed changes objects) these.0 after whole made.0, there_of_same these.0 after whole made.1)

copies_split : (blocks others : List Block) → copies_of_all (blocks ++ others) ≡ copies_of_all blocks ++ copies_of_all others
copies_split [] others = refl
copies_split (block ∷ blocks) others = ap (λ rest. copies_of block ++ rest) (copies_split blocks others) ∙ sym (append_assoc (copies_of block) (copies_of_all blocks) (copies_of_all others))

pub whole_plan : (objects : ℕ → Option Object) (spaces now after : List VdevSpace) (front gone back : List Block) (group : ℕ) (changes : List ObjectChange)
    → MapAnew objects spaces gone changes → AreSameBefore spaces now → LieInMeta spaces front → LieBeforeMeta spaces gone → LieInMeta spaces back
    → AreReleased now (copies_of_all (front ++ (gone ++ back))) group after → AreMapsOf (changed changes objects) after planned × AreThere after planned
whole_plan objects spaces now after front gone back group changes anew same first mid_all last are =
    anew_beside objects spaces now after (copies_of_all front) (copies_of_all gone) (copies_of_all back) gone group changes refl anew same first mid_all last
    (subst (λ copies. AreReleased now copies group after) (copies_split front (gone ++ back) ∙ ap (λ rest. copies_of_all front ++ rest) (copies_split gone back)) are)
