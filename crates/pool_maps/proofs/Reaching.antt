-- Maps of what blocks take, and maps of what is in use.
use Rattle.std.proofs.Common.{◌≡◌, ◌≢◌, ℕ, zero, suc, ◌<◌, ◌≤◌, true, false, not, List, [], ◌∷◌, Some, Option, All, Contains, length, inl, inr, refl, sym, ap, subst, ◌∙◌, arith}
use Rattle.std.specs.List.{slice_get}
use Rattle.std.proofs.lemmas.Option.{get_or_from_slice_get, slice_get_within}
use Rattle.std.proofs.lemmas.List.Elements.{All-contains, Contains-append_cases, Contains-append_right}
use Rattle.block_pointer.specs.declared.block.Block.{Block}
use Rattle.block_pointer.specs.declared.dva.Dva.{Dva}
use Rattle.block_pointer.specs.Copies.{dvas}
use Rattle.block_store.specs.Maps.{LeavesUnused}
use Rattle.block_store.specs.Places.{ArePlacesIn, Marks, run_at, shapes_of}
use Rattle.block_store.specs.Releases.{CopyAt, copies_of, copies_of_all, copies_of_at, copy_of_at}
use Rattle.block_store.specs.Shapes.{first_meta, metaslab_of, metaslab_sectors}
use Rattle.block_store.specs.Spaces.{VdevSpace}
use Rattle.block_store.proofs.Accounting.{has_too}
use Rattle.meta_objset.specs.declared.space_maps.MetaslabMap.{MetaslabMap}
use Rattle.meta_objset.specs.declared.space_maps.MetaslabPlace.{MetaslabPlace}
use Rattle.metaslab.specs.Space.{Space, state, sectors_of}
use Rattle.metaslab.specs.State.{State, Free, InUse, Released, is_in_use}
use Rattle.metaslab.proofs.Holding.{cases}
use Rattle.objset.specs.Objects.{Object}
use Rattle.raidz_io.proofs.Written.{same_some}
use Rattle.space_map.specs.FreeRuns.{FreeRuns}
use Rattle.space_map.specs.Sectors.{contains, names}
use Rattle.pool_maps.specs.Beside.{IsBeforeMeta, IsInMeta, LieBeforeMeta, LieInMeta}
use Rattle.pool_maps.specs.Maps.{AreMapsOf, HasMapPlace, HasShortMapOf}
use Rattle.pool_maps.specs.Reached.{AreMapsFor, AreThere, HasUnusedSet, IsTakenBy, LeavesRest, UseJust, sector_at}
use Rattle.pool_maps.proofs.Planned.{all_from}
use Rattle.pool_maps.proofs.Sets.{mapped_same, same_unused}
use Rattle.pool_maps.proofs.Whole.{place_by, sectors_back}

-- ---- what is in use

pub in_use_of : (was : State) → not (is_in_use was) ≡ false → was ≡ InUse
in_use_of Free is = absurd (cc)
in_use_of InUse is = refl
in_use_of (Released group) is = absurd (cc)

-- a sector that a block takes is in use
pub taken_in_use : (spaces : List VdevSpace) (marks : Marks) (blocks : List Block) (place : MetaslabPlace) (space : VdevSpace) (there : Space) (s : ℕ) → UseJust spaces marks blocks
    → slice_get spaces place.vdev ≡ Some space → slice_get (marks space) place.index ≡ Some there → IsTakenBy spaces blocks (sector_at place s) → state there s ≡ InUse
taken_in_use spaces marks blocks place space there s just found is_there (block, held, has) =
    let lies = just.in_use block held has.i has.place has.is_copy in
    let lies_is : lies.space ≡ space = same_some lies.space space (sym lies.found ∙ ap (slice_get spaces) has.vdev_is ∙ found) in
    let has_is : has.space ≡ space = same_some has.space space (sym has.found ∙ found) in
    let same : lies.space ≡ has.space = lies_is ∙ sym has_is in
    let slab_is : metaslab_of lies.space.shape has.place ≡ place.index = ap (λ (x : VdevSpace). metaslab_of x.shape has.place) same ∙ has.metaslab_is in
    let there_is : lies.each.metaslab ≡ there = same_some lies.each.metaslab there
    (sym lies.each.found ∙ ap (λ (x : VdevSpace). slice_get (marks x) (metaslab_of lies.space.shape has.place)) lies_is
    ∙ ap (slice_get (marks space)) slab_is ∙ is_there) in
    let named : names (run_at lies.space.shape has.place) s ≡ true = ap (λ (x : VdevSpace). names (run_at x.shape has.place) s) same ∙ has.names_it in
    ap (λ (x : Space). state x s) (sym there_is) ∙ lies.each.each s named

-- and where the set has what is unused, the set hasn't got it
pub set_of_rest : (spaces : List VdevSpace) (marks : Marks) (blocks : List Block) (place : MetaslabPlace) (free : FreeRuns) → UseJust spaces marks blocks
    → LeavesUnused spaces marks place.vdev place.index free → LeavesRest spaces blocks place free
set_of_rest spaces marks blocks place free just is = record {
  sectors = rw is.found is.sectors;
  taken = λ s below by.
      is.unused.each s (subst (λ n. s < n) is.unused.sectors below)
      ∙ ap (λ (x : State). not (is_in_use x)) (taken_in_use spaces marks blocks place is.space is.there s just is.found is.is_there by);
  rest = λ s below not_in.
      let within : s < sectors_of is.there = subst (λ n. s < n) is.unused.sectors below in
      just.accounted (sector_at place s) (record {
        space = is.space;
        found = is.found;
        metaslab = is.there;
        there = is.is_there;
        within = within;
        used = in_use_of (state is.there s) (sym (is.unused.each s within) ∙ not_in);
      });
}

-- what blocks leave is unused, where there is a set of that
pub unused_of_rest : (spaces : List VdevSpace) (marks : Marks) (blocks : List Block) (place : MetaslabPlace) (free : FreeRuns) → UseJust spaces marks blocks
    → HasUnusedSet spaces marks place → LeavesRest spaces blocks place free → LeavesUnused spaces marks place.vdev place.index free
unused_of_rest spaces marks blocks place free just has rest =
    let is = has.unused in
    let size : free.sectors ≡ metaslab_sectors is.space.shape = rw is.found at rest.sectors in
    let own : free.sectors ≡ sectors_of is.there = size ∙ sym is.sectors ∙ is.unused.sectors in
    record {
      space = is.space;
      found = is.found;
      there = is.there;
      is_there = is.is_there;
      sectors = size;
      unused = record {
        sectors = own;
        each = λ s within.
            let below : s < free.sectors = subst (λ n. s < n) (sym own) within in
            elim (cases (contains free.runs s)) [
              | inr out ↦
                  let used : state is.there s ≡ InUse = taken_in_use spaces marks blocks place is.space is.there s just is.found is.is_there (rest.rest s below out) in
                  out ∙ sym (ap (λ (x : State). not (is_in_use x)) used)
              | inl in_set ↦ elim (cases (not (is_in_use (state is.there s)))) [
                | inl unused ↦ in_set ∙ sym unused
                | inr used ↦
                    rest.taken s below (just.accounted (sector_at place s) (record {
                      space = is.space;
                      found = is.found;
                      metaslab = is.there;
                      there = is.is_there;
                      within = within;
                      used = in_use_of (state is.there s) used;
                    })) ∙ sym used
              ]
            ];
      };
    }

pub of_their_marks : (objects : ℕ → Option Object) (spaces : List VdevSpace) (marks : Marks) (blocks : List Block) → AreMapsFor objects spaces blocks
    → UseJust spaces marks blocks → AreMapsOf objects spaces marks
of_their_marks objects spaces marks blocks are just = record {
  maps = are.maps;
  are = record {
    table = are.table;
    rows = are.rows;
    each = λ place free there frees unused.
        let has = are.each place there in
        let known : HasUnusedSet spaces marks place = record { free = free; are = frees; unused = unused } in
        let rest = unused_of_rest spaces marks blocks place has.0 just known has.2 in
        mapped_same objects are.maps place has.0 free (same_unused spaces marks place.vdev place.index has.0 free has.1 frees rest unused) has.3;
  };
  short = are.short;
}

pub for_their_blocks : (objects : ℕ → Option Object) (spaces : List VdevSpace) (marks : Marks) (blocks : List Block) → AreMapsOf objects spaces marks → AreThere spaces marks
    → UseJust spaces marks blocks → AreMapsFor objects spaces blocks
for_their_blocks objects spaces marks blocks are there just = record {
  maps = are.maps;
  table = are.are.table;
  rows = are.are.rows;
  each = λ place is_place.
      let has = there place is_place in
      (has.free, has.are, set_of_rest spaces marks blocks place has.free just has.unused, are.are.each place has.free is_place has.are has.unused);
  short = are.short;
}

-- ---- other vdevs of the same shapes

rest_back : (spaces after : List VdevSpace) (blocks : List Block) (place : MetaslabPlace) (free : FreeRuns) → shapes_of after ≡ shapes_of spaces → HasMapPlace spaces place
    → LeavesRest after blocks place free → LeavesRest spaces blocks place free
rest_back spaces after blocks place free shapes there rest = record {
  sectors = sectors_back spaces after place free.sectors shapes there rest.sectors;
  taken = λ s below (block, held, has). rest.taken s below (block, held, has_too spaces after block (sector_at place s) shapes has);
  rest = λ s below out. let (block, held, has) = rest.rest s below out in (block, held, has_too after spaces block (sector_at place s) (sym shapes) has);
}

pub maps_for_stay : (objects : ℕ → Option Object) (spaces after : List VdevSpace) (blocks : List Block) → shapes_of after ≡ shapes_of spaces → AreMapsFor objects spaces blocks
    → AreMapsFor objects after blocks
maps_for_stay objects spaces after blocks shapes are =
    let is_place : (row : MetaslabMap) → Contains are.maps row → HasMapPlace spaces row.metaslab =
    λ row held. All-contains (λ (m : MetaslabMap). HasMapPlace spaces m.metaslab) are.maps row are.rows.places held in
    record {
      maps = are.maps;
      table = are.table;
      rows = record {
        places = all_from (λ (m : MetaslabMap). HasMapPlace after m.metaslab) are.maps (λ row held. place_by spaces after row.metaslab shapes (is_place row held));
        behind = are.rows.behind;
        apart = are.rows.apart;
      };
      each = λ place there.
          let has = are.each place (place_by after spaces place (sym shapes) there) in
          (has.0, has.1, rest_back after spaces blocks place has.0 (sym shapes) there has.2, has.3);
      short = all_from (λ (m : MetaslabMap). HasShortMapOf after m.metaslab (objects m.object)) are.maps
          (λ row held sectors has. All-contains (λ (m : MetaslabMap). HasShortMapOf spaces m.metaslab (objects m.object)) are.maps row are.short held sectors
          (sectors_back spaces after row.metaslab sectors shapes (is_place row held) has));
    }

-- ---- blocks by their copies

-- the copy is one of one of these blocks
pub record IsCopyOf (blocks : List Block) (copy : CopyAt) : Type 0 where
  pub block : Block
  pub among : Contains blocks block
  pub i : ℕ
  pub at : slice_get (dvas block.copies) i ≡ Some copy.place
  pub sectors : copy.sectors ≡ block.property.sectors

pub copy_at : (block : Block) (places : List Dva) (copy : CopyAt) → Contains (copies_of_at block places) copy
    → (i : ℕ) × (slice_get places i ≡ Some copy.place) × (copy.sectors ≡ block.property.sectors)
copy_at block [] copy held = absurd (omega (arith, held.1))
copy_at block (place ∷ places) copy held = elim (Contains-append_cases (copy_of_at block place ∷ []) (copies_of_at block places) copy held) [
  | inl (zero, within, is) ↦ (0, ap (λ (c : CopyAt). Some c.place) is, sym (ap (λ (c : CopyAt). c.sectors) is))
  | inl (suc n, within, is) ↦ absurd (omega (arith, within))
  | inr later ↦ let (i, at, sectors) = copy_at block places copy later in (suc i, at, sectors)
]

pub copy_among : (blocks : List Block) (copy : CopyAt) → Contains (copies_of_all blocks) copy → IsCopyOf blocks copy
copy_among [] copy held = absurd (omega (arith, held.1))
copy_among (block ∷ blocks) copy held = elim (Contains-append_cases (copies_of block) (copies_of_all blocks) copy held) [
  | inl here ↦
      let (i, at, sectors) = copy_at block (dvas block.copies) copy here in
      record { block = block; among = (0, omega arith, refl); i = i; at = at; sectors = sectors }
  | inr later ↦
      let of = copy_among blocks copy later in
      record { block = of.block; among = Contains-append_right (block ∷ []) blocks of.block of.among; i = of.i; at = of.at; sectors = of.sectors }
]

pub found_among : (places : List Dva) (i : ℕ) (place : Dva) → slice_get places i ≡ Some place → Contains places place
found_among places i place at = (i, slice_get_within places i place at, get_or_from_slice_get places i place place at)

-- each copy lies in the region for so many copies
module _ (spaces : List VdevSpace) (blocks : List Block)
    (placed : (block : Block) → Contains blocks block → ArePlacesIn spaces block.property.sectors (dvas block.copies)) where
  pub lie_in_meta : All (λ (block : Block). length (dvas block.copies) ≡ 3) blocks → LieInMeta spaces blocks
  lie_in_meta three = all_from (IsInMeta spaces) (copies_of_all blocks) (λ copy held space found.
      let of = copy_among blocks copy held in
      let is = placed of.block of.among copy.place (found_among (dvas of.block.copies) of.i copy.place of.at) in
      let space_is : is.is_in.space ≡ space = same_some is.is_in.space space (sym is.is_in.found ∙ found) in
      subst (λ (s : VdevSpace). first_meta s.shape ≤ metaslab_of s.shape copy.place) space_is
      (is.region.meta (All-contains (λ (b : Block). length (dvas b.copies) ≡ 3) blocks of.block three of.among)))

  pub lie_before_meta : All (λ (block : Block). length (dvas block.copies) ≢ 3) blocks → LieBeforeMeta spaces blocks
  lie_before_meta other = all_from (IsBeforeMeta spaces) (copies_of_all blocks) (λ copy held space found.
      let of = copy_among blocks copy held in
      let is = placed of.block of.among copy.place (found_among (dvas of.block.copies) of.i copy.place of.at) in
      let space_is : is.is_in.space ≡ space = same_some is.is_in.space space (sym is.is_in.found ∙ found) in
      subst (λ (s : VdevSpace). metaslab_of s.shape copy.place < first_meta s.shape) space_is
      (is.region.others (All-contains (λ (b : Block). length (dvas b.copies) ≢ 3) blocks of.block other of.among)))
