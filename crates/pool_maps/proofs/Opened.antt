-- A store in which a pool's maps were loaded, and the blocks of its meta regions taken in.
use Rattle.std.proofs.Common.{◌≡◌, ◌≢◌, ◌⊎◌, ℕ, zero, suc, ◌<◌, true, false, ltb, not, List, [], ◌∷◌, ◌++◌, Some, None, Option, All, Contains, length, inl, inr, refl, sym, ap, subst, ◌∙◌, true≢false, arith}
use Rattle.std.specs.List.{AllZip, slice_get}
use Rattle.std.proofs.lemmas.Bool.{cases_eq}
use Rattle.std.proofs.lemmas.Bool.Decides.{nat_tests}
use Rattle.std.proofs.lemmas.List.Concat.{flat_map-cons}
use Rattle.std.proofs.lemmas.List.Elements.{All-cons, All-contains, All-nil, Contains-append_cases, Contains-append_left, Contains-append_right}
use Rattle.block_pointer.specs.declared.block.Block.{Block}
use Rattle.block_pointer.specs.declared.dva.Dva.{Dva}
use Rattle.block_pointer.specs.Copies.{dvas}
use Rattle.block_store.specs.Accounts.{HasSector, IsUsed, SectorAt}
use Rattle.block_store.specs.Maps.{HasSectors, LeavesUnused}
use Rattle.block_store.specs.Opened.{Fills}
use Rattle.block_store.specs.Places.{ArePlacesIn, AreEmpty, IsEmpty, IsPlaceIn, Marks, filled, planned, run_at, shapes_of}
use Rattle.block_store.specs.Releases.{CopyAt, copies_of, copies_of_all, copies_of_at, copy_of_at}
use Rattle.block_store.specs.Shapes.{IsPlace, metaslab_of, metaslab_sectors, metaslabs, sector_of}
use Rattle.block_store.specs.declared.shape.VdevShape.{VdevShape}
use Rattle.block_store.specs.Spaces.{VdevSpace}
use Rattle.block_store.specs.Uses.{IsInUse}
use Rattle.block_store.proofs.Accounting.{has_too}
use Rattle.block_store.proofs.Sizes.{asize_some}
use Rattle.block_store.proofs.Taking.{found_too}
use Rattle.meta_objset.proofs.Edits.{still_in, the_middle}
use Rattle.meta_objset.specs.declared.space_maps.MetaslabMap.{MetaslabMap}
use Rattle.meta_objset.specs.declared.space_maps.MetaslabPlace.{MetaslabPlace}
use Rattle.metaslab.specs.Space.{Space, state, sectors_of}
use Rattle.metaslab.specs.State.{State, Free, InUse, is_in_use}
use Rattle.metaslab.specs.Spaces.{IsWhollyFree}
use Rattle.objset.specs.Objects.{Object}
use Rattle.raidz_io.proofs.Written.{same_some}
use Rattle.space_map.specs.FreeRuns.{FreeRuns}
use Rattle.space_map.specs.Sectors.{contains, names}
use Rattle.space_map.proofs.RunLemmas.{is_named, named}
use Rattle.space_map_objects.specs.Maps.{HasMap}
use Rattle.pool_maps.specs.declared.reading.FreeMetaslab.{FreeMetaslab}
use Rattle.pool_maps.specs.Beside.{IsBeforeMeta, LieBeforeMeta}
use Rattle.pool_maps.specs.Loads.{AreFreeBefore, AreLoadedAs, AreReadMaps, IsReadOf, IsSameAt, IsUnusedIn}
use Rattle.pool_maps.specs.Maps.{HasMapPlace, IsInRow}
use Rattle.pool_maps.specs.Reached.{AreMapsFor, IsTakenBy, UseJust, UseNothing, sector_at}
use Rattle.pool_maps.proofs.Once.{map_once, rows_once}
use Rattle.pool_maps.proofs.Planned.{metaslab_there}
use Rattle.pool_maps.proofs.ReadRows.{size_of}
use Rattle.pool_maps.proofs.Reaching.{found_among, in_use_of}
use Rattle.pool_maps.proofs.Staying.{at_place}
use Rattle.pool_maps.proofs.Underway.{this_place}

-- ---- stores without blocks

item_at : {X : Type 0} (xs : List X) (i : ℕ) → i < length xs → (x : X) × (slice_get xs i ≡ Some x)
item_at [] i low = absurd (omega (arith, low))
item_at (x ∷ xs) zero low = (x, refl)
item_at (x ∷ xs) (suc i) low = item_at xs i (omega (arith, low))

pub empty_is_free : (spaces : List VdevSpace) → AreEmpty spaces → AreFreeBefore spaces
empty_is_free spaces empty place there sectors has =
    let space = there.space in
    let is : IsEmpty space = at_place IsEmpty spaces place.vdev space empty there.found in
    let slab = metaslab_there spaces place there in
    let same : slab.space ≡ space = same_some slab.space space (sym slab.found ∙ there.found) in
    let below : place.index < metaslabs space.shape = subst (λ (x : VdevSpace). place.index < metaslabs x.shape) same slab.is_there in
    let at = item_at (filled space) place.index (subst (λ n. place.index < n) (sym is.count) below) in
    let whole : IsWhollyFree at.0 (metaslab_sectors space.shape) =
    at_place (λ (x : Space). IsWhollyFree x (metaslab_sectors space.shape)) (filled space) place.index at.0 is.none_filled at.1 in
    let mine : IsWhollyFree at.0 sectors = subst (IsWhollyFree at.0) (sym (size_of spaces place.vdev sectors space there.found has)) whole in
    record {
      space = space;
      found = there.found;
      holds = record {
        spaces = record { kept = at.0; planned = at.0 };
        found_kept = at.1;
        found_planned = ap (λ (them : List Space). slice_get them place.index) is.none_planned ∙ at.1;
        holds = (mine, mine);
      };
    }

free_is_not_in_use : ¬ (Free ≡ InUse)
free_is_not_in_use is = absurd (cc)

pub empty_uses_nothing : (spaces : List VdevSpace) (marks : Marks) → ((space : VdevSpace) → IsEmpty space → marks space ≡ filled space) → AreEmpty spaces → UseNothing spaces marks
empty_uses_nothing spaces marks alike empty at used =
    let is : IsEmpty used.space = at_place IsEmpty spaces at.vdev used.space empty used.found in
    let there : slice_get (filled used.space) at.metaslab ≡ Some used.metaslab = ap (λ (them : List Space). slice_get them at.metaslab) (sym (alike used.space is)) ∙ used.there in
    let whole : IsWhollyFree used.metaslab (metaslab_sectors used.space.shape) =
    at_place (λ (x : Space). IsWhollyFree x (metaslab_sectors used.space.shape)) (filled used.space) at.metaslab used.metaslab is.none_filled there in
    free_is_not_in_use (sym (whole.free at.sector (subst (λ n. at.sector < n) whole.size used.within)) ∙ used.used)

-- ---- lists side by side

pub partner : (R : MetaslabMap → FreeMetaslab → Type 0) (rows : List MetaslabMap) (read : List FreeMetaslab) (row : MetaslabMap) → AllZip R rows read → Contains rows row
    → (r : FreeMetaslab) × Contains read r × R row r
partner R [] read row zip held = absurd (let low = held.1 in omega (arith, low))
partner R (first ∷ rows) [] row zip held = absurd zip
partner R (first ∷ rows) (r ∷ read) row zip held = elim (Contains-append_cases (first ∷ []) rows row held) [
  | inl (zero, within, is) ↦ (r, the_middle [] read r, subst (λ (m : MetaslabMap). R m r) is zip.0)
  | inl (suc n, within, is) ↦ absurd (omega (arith, within))
  | inr later ↦ let rest = partner R rows read row zip.1 later in (rest.0, still_in [] read r rest.0 rest.1, rest.2)
]

pub row_of : (R : MetaslabMap → FreeMetaslab → Type 0) (rows : List MetaslabMap) (read : List FreeMetaslab) (r : FreeMetaslab) → AllZip R rows read → Contains read r
    → (row : MetaslabMap) × Contains rows row × R row r
row_of R rows [] r zip held = absurd (let low = held.1 in omega (arith, low))
row_of R [] (first ∷ read) r zip held = absurd zip
row_of R (row ∷ rows) (first ∷ read) r zip held = elim (Contains-append_cases (first ∷ []) read r held) [
  | inl (zero, within, is) ↦ (row, the_middle [] rows row, subst (λ (f : FreeMetaslab). R row f) is zip.0)
  | inl (suc n, within, is) ↦ absurd (omega (arith, within))
  | inr later ↦ let rest = row_of R rows read r zip.1 later in (rest.0, still_in [] rows row rest.0 rest.1, rest.2)
]

find_read : (maps : List FreeMetaslab) (place : MetaslabPlace) → ((r : FreeMetaslab) × Contains maps r × (r.metaslab ≡ place)) ⊎ All (λ (r : FreeMetaslab). r.metaslab ≢ place) maps
find_read [] place = inr (All-nil (λ (r : FreeMetaslab). r.metaslab ≢ place))
find_read (first ∷ maps) place = elim (find_read maps place) [
  | inl (r, held, is) ↦ inl (r, still_in [] maps first r held, is)
  | inr lacks ↦ elim (cases_eq first.metaslab.vdev place.vdev) [
    | inr apart ↦ inr (All-cons (λ (r : FreeMetaslab). r.metaslab ≢ place) first maps (λ same. apart (ap (λ (p : MetaslabPlace). p.vdev) same)) lacks)
    | inl vdev ↦ elim (cases_eq first.metaslab.index place.index) [
      | inr apart ↦ inr (All-cons (λ (r : FreeMetaslab). r.metaslab ≢ place) first maps (λ same. apart (ap (λ (p : MetaslabPlace). p.index) same)) lacks)
      | inl index ↦ inl (first, the_middle [] maps first, this_place first.metaslab place.vdev place.index vdev index)
    ]
  ]
]

-- ---- copies of blocks

copy_held : (block : Block) (places : List Dva) (i : ℕ) (place : Dva) → slice_get places i ≡ Some place → Contains (copies_of_at block places) (copy_of_at block place)
copy_held block [] i place at = let clash : None ≡ Some place = at in absurd (cc)
copy_held block (first ∷ places) zero place at =
    subst (λ (p : Dva). Contains (copies_of_at block (first ∷ places)) (copy_of_at block p)) (same_some first place at)
    (the_middle [] (copies_of_at block places) (copy_of_at block first))
copy_held block (first ∷ places) (suc i) place at =
    still_in [] (copies_of_at block places) (copy_of_at block first) (copy_of_at block place) (copy_held block places i place at)

copies_held : (blocks : List Block) (block : Block) (i : ℕ) (place : Dva) → Contains blocks block → slice_get (dvas block.copies) i ≡ Some place
    → Contains (copies_of_all blocks) (copy_of_at block place)
copies_held [] block i place held at = absurd (let low = held.1 in omega (arith, low))
copies_held (first ∷ blocks) block i place held at =
    subst (λ (copies : List CopyAt). Contains copies (copy_of_at block place)) (sym (flat_map-cons copies_of first blocks))
    (elim (Contains-append_cases (first ∷ []) blocks block held) [
      | inl (zero, within, is) ↦
          Contains-append_left (copies_of first) (copies_of_all blocks) (copy_of_at block place)
          (subst (λ (b : Block). Contains (copies_of b) (copy_of_at block place)) (sym is) (copy_held block (dvas block.copies) i place at))
      | inl (suc n, within, is) ↦ absurd (omega (arith, within))
      | inr later ↦ Contains-append_right (copies_of first) (copies_of_all blocks) (copy_of_at block place) (copies_held blocks block i place later at)
    ])

-- ---- by these marks

module _ (objects : ℕ → Option Object) (spaces loaded now : List VdevSpace) (meta others : List Block) (maps : List FreeMetaslab) (marks : Marks) (none : UseNothing spaces marks)
    (theirs : AreMapsFor objects spaces (meta ++ others)) (read : AreReadMaps objects spaces maps) (shapes : shapes_of loaded ≡ shapes_of spaces)
    (unused : (r : FreeMetaslab) → Contains maps r → LeavesUnused loaded marks r.metaslab.vdev r.metaslab.index r.free)
    (same : (place : MetaslabPlace) → All (λ (r : FreeMetaslab). r.metaslab ≢ place) maps → IsSameAt marks spaces place loaded)
    (shapes_now : shapes_of now ≡ shapes_of loaded) (fills : Fills loaded marks meta now) where
  rows_are : theirs.maps ≡ read.maps
  rows_are = rows_once (objects 4) theirs.maps read.maps theirs.table read.table

  -- the set that was loaded has the sectors that the row's map leaves free
  pub loaded_for : (place : MetaslabPlace) (there : HasMapPlace spaces place) (free : FreeRuns) → HasSectors spaces place.vdev free.sectors → IsInRow objects theirs.maps place free
      → (set : FreeRuns) × LeavesUnused loaded marks place.vdev place.index set × (free.sectors ≡ set.sectors) × ((s : ℕ) → contains free.runs s ≡ contains set.runs s)
  loaded_for place there free size in_row =
      let row = in_row.row in
      let found = partner (IsReadOf objects spaces) read.maps maps row read.each (subst (λ (them : List MetaslabMap). Contains them row) rows_are in_row.there) in
      let r = found.0 in
      let is : IsReadOf objects spaces row r = found.2 in
      let r_size : HasSectors spaces place.vdev r.free.sectors = subst (λ (p : MetaslabPlace). HasSectors spaces p.vdev r.free.sectors) in_row.metaslab is.sectors in
      let sectors : free.sectors ≡ r.free.sectors =
      size_of spaces place.vdev free.sectors there.space there.found size ∙ sym (size_of spaces place.vdev r.free.sectors there.space there.found r_size) in (
        r.free,
        subst (λ (p : MetaslabPlace). LeavesUnused loaded marks p.vdev p.index r.free) (is.metaslab ∙ in_row.metaslab) (unused r found.1),
        sectors,
        map_once (objects row.object) free.sectors free r.free in_row.map (subst (λ n. HasMap (objects row.object) n r.free) (sym sectors) is.map),
      )

  -- what a block takes before the meta regions is in use
  pub taken_is_loaded : (place : MetaslabPlace) (there : HasMapPlace spaces place) (s : ℕ) → s < metaslab_sectors there.space.shape → IsTakenBy spaces (meta ++ others) (sector_at place s)
      → IsUsed IsInUse loaded marks (sector_at place s)
  taken_is_loaded place there s low taken =
      let is = theirs.each place there in
      let size = size_of spaces place.vdev is.0.sectors there.space there.found is.2.sectors in
      let below : s < is.0.sectors = subst (λ n. s < n) (sym size) low in
      let out : contains is.0.runs s ≡ false = is.2.taken s below taken in
      elim is.3 [
        | inl in_row ↦
            let set = loaded_for place there is.0 is.2.sectors in_row in
            let within : s < sectors_of set.1.there = subst (λ n. s < n) (set.2 ∙ set.1.unused.sectors) below in
            record {
              space = set.1.space;
              found = set.1.found;
              metaslab = set.1.there;
              there = set.1.is_there;
              within = within;
              used = in_use_of (state set.1.there s) (sym (set.1.unused.each s within) ∙ sym (set.3 s) ∙ out);
            }
        | inr (lacks, all) ↦
            let inside : ltb s is.0.sectors ≡ true = grind (arith, nat_tests) in
            absurd (true≢false (sym inside ∙ sym (all s) ∙ out))
      ]

  -- and nothing else is
  pub loaded_is_taken : (at : SectorAt) → IsUsed IsInUse loaded marks at → IsTakenBy spaces (meta ++ others) at
  loaded_is_taken at used =
      let place : MetaslabPlace = record { vdev = at.vdev; index = at.metaslab } in
      elim (find_read maps place) [
        | inr lacks ↦
            let before = found_too loaded spaces at.vdev used.space (sym shapes) used.found in
            let there : slice_get (marks before.0) at.metaslab ≡ Some used.metaslab = sym (same place lacks before.0 used.space before.1 used.found) ∙ used.there in
            absurd (none at (record { space = before.0; found = before.1; metaslab = used.metaslab; there = there; within = used.within; used = used.used }))
        | inl (r, held, of) ↦
            let from = row_of (IsReadOf objects spaces) read.maps maps r read.each held in
            let row_at : from.0.metaslab ≡ place = sym from.2.metaslab ∙ of in
            let is_there : HasMapPlace spaces place =
            subst (HasMapPlace spaces) row_at (All-contains (λ (m : MetaslabMap). HasMapPlace spaces m.metaslab) read.maps from.0 read.rows.places from.1) in
            let is = theirs.each place is_there in
            elim is.3 [
              | inl in_row ↦
                  let set = loaded_for place is_there is.0 is.2.sectors in_row in
                  let un = set.1 in
                  let space_is : un.space ≡ used.space = same_some un.space used.space (sym un.found ∙ used.found) in
                  let slab_is : un.there ≡ used.metaslab =
                  same_some un.there used.metaslab (sym un.is_there ∙ ap (λ (x : VdevSpace). slice_get (marks x) at.metaslab) space_is ∙ used.there) in
                  let within : at.sector < sectors_of un.there = subst (λ (x : Space). at.sector < sectors_of x) (sym slab_is) used.within in
                  let in_use : state un.there at.sector ≡ InUse = ap (λ (x : Space). state x at.sector) slab_is ∙ used.used in
                  let out : contains is.0.runs at.sector ≡ false = set.3 at.sector ∙ un.unused.each at.sector within ∙ ap (λ (x : State). not (is_in_use x)) in_use in
                  is.2.rest at.sector (subst (λ n. at.sector < n) (sym (set.2 ∙ un.unused.sectors)) within) out
              | inr (lacks, all) ↦
                  absurd (All-contains (λ (m : MetaslabMap). m.metaslab ≢ place) theirs.maps from.0 lacks (subst (λ (them : List MetaslabMap). Contains them from.0) (sym rows_are) from.1) row_at)
            ]
      ]

  pub accounted : (at : SectorAt) → IsUsed IsInUse now marks at → IsTakenBy now (meta ++ others) at
  accounted at used = elim (fills.only at used) [
    | inl before ↦
        let taken = loaded_is_taken at before in
        (taken.0, taken.1, has_too spaces now taken.0 at (shapes_now ∙ shapes) taken.2)
    | inr (block, held, has) ↦ (block, Contains-append_left meta others block held, has_too loaded now block at shapes_now has)
  ]

  -- each sector of a copy is in use
  pub sector_in_use : LieBeforeMeta spaces others → (block : Block) (held : Contains (meta ++ others) block) (i : ℕ) (place : Dva) → slice_get (dvas block.copies) i ≡ Some place
      → (there : IsPlaceIn spaces block.property.sectors place) (s : ℕ) → names (run_at there.space.shape place) s ≡ true
      → IsUsed IsInUse now marks (record { vdev = place.vdev; metaslab = metaslab_of there.space.shape place; sector = s })
  sector_in_use before block held i place at there s named_it =
      let sector : SectorAt = record { vdev = place.vdev; metaslab = metaslab_of there.space.shape place; sector = s } in
      let has : HasSector spaces block sector =
      record { i = i; place = place; is_copy = at; vdev_is = refl; space = there.space; found = there.found; metaslab_is = refl; names_it = named_it } in
      elim (Contains-append_cases meta others block held) [
        | inl in_meta ↦ fills.are_in_use sector (block, in_meta, has_too spaces loaded block sector shapes has)
        | inr in_others ↦
            let low_slab = All-contains (IsBeforeMeta spaces) (copies_of_all others) (copy_of_at block place) before (copies_held others block i place in_others at) there.space there.found in
            let slab : MetaslabPlace = record { vdev = place.vdev; index = metaslab_of there.space.shape place } in
            let slab_there : HasMapPlace spaces slab = record { space = there.space; found = there.found; before = low_slab } in
            let low : s < metaslab_sectors there.space.shape = (let n = named (run_at there.space.shape place) s named_it in omega (arith, n.1, there.is_place.one)) in
            fills.stay sector (taken_is_loaded slab slab_there s low (block, held, has))
      ]

  pub use_just : LieBeforeMeta spaces others
      → ((block : Block) → Contains (meta ++ others) block → (0 < block.property.sectors) × ArePlacesIn spaces block.property.sectors (dvas block.copies))
      → UseJust now marks (meta ++ others)
  use_just before placed = record {
    in_use = λ block held i place at.
        let is = placed block held in
        let there = (is.1 place (found_among (dvas block.copies) i place at)).is_in in
        let shape = there.space.shape in
        let new = found_too spaces now place.vdev there.space (shapes_now ∙ shapes) there.found in
        let start : names (run_at shape place) (sector_of shape place) ≡ true =
        is_named (run_at shape place) (sector_of shape place) (omega arith) (omega (arith, there.is_place.allocated, asize_some shape.vdev.geometry block.property.sectors is.0)) in
        let first = sector_in_use before block held i place at there (sector_of shape place) start in
        let space_is : first.space ≡ new.0 = same_some first.space new.0 (sym first.found ∙ new.1) in
        record {
          some = is.0;
          space = new.0;
          found = new.1;
          is_place = subst (λ (x : VdevShape). IsPlace x block.property.sectors place) (sym new.2) there.is_place;
          each = record {
            metaslab = first.metaslab;
            found = ap (λ (x : VdevShape). slice_get (marks new.0) (metaslab_of x place)) new.2
                ∙ ap (λ (x : VdevSpace). slice_get (marks x) (metaslab_of shape place)) (sym space_is) ∙ first.there;
            each = λ s named_it.
                let this = sector_in_use before block held i place at there s (subst (λ (x : VdevShape). names (run_at x place) s ≡ true) new.2 named_it) in
                let spaces_are : this.space ≡ first.space = same_some this.space first.space (sym this.found ∙ first.found) in
                let slab_is : this.metaslab ≡ first.metaslab =
                same_some this.metaslab first.metaslab (sym this.there ∙ ap (λ (x : VdevSpace). slice_get (marks x) (metaslab_of shape place)) spaces_are ∙ first.there) in
                ap (λ (x : Space). state x s) (sym slab_is) ∙ this.used;
          };
        };
    accounted = accounted;
  }

pub loaded_for_blocks : (objects : ℕ → Option Object) (spaces loaded now : List VdevSpace) (meta others : List Block) (maps : List FreeMetaslab) → AreEmpty spaces
    → AreMapsFor objects spaces (meta ++ others) → AreReadMaps objects spaces maps → AreLoadedAs spaces maps loaded → LieBeforeMeta spaces others
    → ((block : Block) → Contains (meta ++ others) block → (0 < block.property.sectors) × ArePlacesIn spaces block.property.sectors (dvas block.copies))
    → shapes_of now ≡ shapes_of loaded → Fills loaded filled meta now → Fills loaded planned meta now → UseJust now filled (meta ++ others) × UseJust now planned (meta ++ others)
loaded_for_blocks objects spaces loaded now meta others maps empty theirs read is before placed shapes_now fills fills_planned = (
  use_just objects spaces loaded now meta others maps filled (empty_uses_nothing spaces filled (λ space one. refl) empty) theirs read is.shapes
      (λ r held. (All-contains (IsUnusedIn loaded) maps r is.each held).kept) is.filled_too shapes_now fills before placed,
  use_just objects spaces loaded now meta others maps planned (empty_uses_nothing spaces planned (λ space one. one.none_planned) empty) theirs read is.shapes
      (λ r held. (All-contains (IsUnusedIn loaded) maps r is.each held).with_plan) is.planned_too shapes_now fills_planned before placed,
)
