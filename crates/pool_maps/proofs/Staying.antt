-- Maps that stay those of a pool.
use Rattle.space_map_objects.specs.Maps.{HasMap}
use Rattle.pool_maps.specs.Loads.{HasMapFor, HaveMaps}
use Rattle.std.proofs.lemmas.Option.{get_or_from_slice_get, slice_get_within}
use Rattle.std.proofs.Common.{◌≡◌, ◌≢◌, ◌⊎◌, ℕ, ◌<◌, true, false, ltb, not, List, [], ◌∷◌, Some, None, Option, All, Contains, length, inl, inr, refl, sym, ap, subst, ◌∙◌, arith, zero, suc}
use Rattle.std.specs.List.{slice_get}
use Rattle.std.proofs.lemmas.Bool.{cases_lt}
use Rattle.std.proofs.lemmas.Bool.Decides.{nat_tests}
use Rattle.std.proofs.lemmas.List.Elements.{All-contains, All-nil}
use Rattle.block_store.specs.Maps.{LeavesUnused}
use Rattle.block_store.specs.Places.{AreEmpty, HaveMarks, IsEmpty, Marks, filled, planned, shapes_of}
use Rattle.block_store.specs.Releases.{AreSettledInSome}
use Rattle.block_store.specs.Shapes.{metaslab_sectors}
use Rattle.block_store.specs.Spaces.{VdevSpace}
use Rattle.block_store.proofs.Taking.{found_too}
use Rattle.meta_objset.specs.Reading.{HasSpaceMaps}
use Rattle.meta_objset.specs.declared.space_maps.MetaslabMap.{MetaslabMap}
use Rattle.meta_objset.specs.declared.space_maps.MetaslabPlace.{MetaslabPlace}
use Rattle.metaslab.specs.Calls.{AreUnused, SettlesUnder}
use Rattle.metaslab.specs.Space.{Space, state, sectors_of}
use Rattle.metaslab.specs.State.{State, Free, InUse, Released, is_due, is_in_use, settled}
use Rattle.metaslab.specs.Unused.{IsUnusedOf}
use Rattle.metaslab.proofs.Holding.{cases}
use Rattle.metaslab.proofs.Unused.{set_of_unused}
use Rattle.metaslab.specs.Spaces.{AreWhollyFree, IsWhollyFree}
use Rattle.objset.specs.Objects.{Object}
use Rattle.raidz_io.proofs.Written.{same_some}
use Rattle.space_map.specs.FreeRuns.{FreeRuns, AreFree}
use Rattle.space_map.specs.Map.{all_free}
use Rattle.space_map.specs.Sectors.{contains}
use Rattle.pool_maps.specs.Maps.{AreMaps, AreMapsOf, AreRowsOf, AreShortMaps, HasMapPlace, HasShortMap, HasShortMapOf}
use Rattle.pool_maps.proofs.Planned.{all_from}
use Rattle.pool_maps.proofs.Whole.{own_sectors, place_by}

-- where other marks leave no more and no less unused, the maps are theirs too
pub maps_by : (objects : ℕ → Option Object) (spaces after : List VdevSpace) (marks later : Marks) (maps : List MetaslabMap) → shapes_of after ≡ shapes_of spaces
    → ((place : MetaslabPlace) (free : FreeRuns) → LeavesUnused after later place.vdev place.index free → LeavesUnused spaces marks place.vdev place.index free)
    → AreMaps objects spaces marks maps → AreMaps objects after later maps
maps_by objects spaces after marks later maps shapes back are = record {
  table = are.table;
  rows = record {
    places = all_from (λ (m : MetaslabMap). HasMapPlace after m.metaslab) maps
        (λ row held. place_by spaces after row.metaslab shapes (All-contains (λ (m : MetaslabMap). HasMapPlace spaces m.metaslab) maps row are.rows.places held));
    behind = are.rows.behind;
    apart = are.rows.apart;
  };
  each = λ place free there frees unused. are.each place free (place_by after spaces place (sym shapes) there) frees (back place free unused);
}

pub by_marks : (objects : ℕ → Option Object) (spaces after : List VdevSpace) (marks later : Marks) (maps : List MetaslabMap) → shapes_of after ≡ shapes_of spaces
    → HaveMarks spaces marks after later → AreMaps objects spaces marks maps → AreMaps objects after later maps
by_marks objects spaces after marks later maps shapes have are =
    maps_by objects spaces after marks later maps shapes
    (λ place free unused.
    let before = found_too after spaces place.vdev unused.space (sym shapes) unused.found in
    let same : later unused.space ≡ marks before.0 = have place.vdev before.0 unused.space before.1 unused.found in
    record {
      space = before.0;
      found = before.1;
      there = unused.there;
      is_there = ap (λ them. slice_get them place.index) (sym same) ∙ unused.is_there;
      sectors = unused.sectors ∙ ap metaslab_sectors (sym before.2);
      unused = unused.unused;
    })
    are

-- ---- what is due

in_use_still : (pins : List ℕ) (group : ℕ) (was : State) → is_in_use (settled pins group was) ≡ is_in_use was
in_use_still pins group Free = refl
in_use_still pins group InUse = refl
in_use_still pins group (Released releasing) = elim (cases (is_due pins group releasing)) [
  | inl due ↦ rw due refl
  | inr waits ↦ rw waits refl
]

settled_unused : (pins : List ℕ) (group : ℕ) (space later : Space) (free : FreeRuns) → (later ≡ space) ⊎ SettlesUnder pins space later group → AreUnused later free → AreUnused space free
settled_unused pins group space later free (inl same) unused = subst (λ (x : Space). AreUnused x free) same unused
settled_unused pins group space later free (inr settles) unused = record {
  sectors = unused.sectors ∙ settles.sectors;
  each = λ s below. unused.each s (subst (λ n. s < n) (sym settles.sectors) below)
      ∙ ap (λ (x : State). not (is_in_use x)) (settles.states s) ∙ ap not (in_use_still pins group (state space s));
}

found_in : {X : Type 0} (xs ys : List X) (i : ℕ) (y : X) → length ys ≡ length xs → slice_get ys i ≡ Some y → (x : X) × (slice_get xs i ≡ Some x)
found_in [] [] i y same found = let clash : None ≡ Some y = found in absurd (cc)
found_in [] (z ∷ ys) i y same found = absurd (omega (arith, same))
found_in (x ∷ xs) [] i y same found = absurd (omega (arith, same))
found_in (x ∷ xs) (z ∷ ys) zero y same found = (x, refl)
found_in (x ∷ xs) (z ∷ ys) (suc i) y same found = found_in xs ys i y (omega (arith, same)) found

pub by_settling : (objects : ℕ → Option Object) (spaces after : List VdevSpace) (group : ℕ) (maps : List MetaslabMap) → shapes_of after ≡ shapes_of spaces
    → AreSettledInSome group spaces after → AreMaps objects spaces filled maps → AreMaps objects after filled maps
by_settling objects spaces after group maps shapes settled are =
    maps_by objects spaces after filled filled maps shapes
    (λ place free unused.
    let before = found_too after spaces place.vdev unused.space (sym shapes) unused.found in
    let became = (settled place.vdev before.0 unused.space before.1 unused.found).1 in
    let there = found_in (filled before.0) (filled unused.space) place.index unused.there became.count unused.is_there in
    record {
      space = before.0;
      found = before.1;
      there = there.0;
      is_there = there.1;
      sectors = unused.sectors ∙ ap metaslab_sectors (sym before.2);
      unused = settled_unused before.0.pins group there.0 unused.there free (became.each place.index there.0 unused.there there.1 unused.is_there) unused.unused;
    })
    are

-- ---- no blocks

pub at_place : {X : Type 0} (P : X → Type 0) (xs : List X) (i : ℕ) (x : X) → All P xs → slice_get xs i ≡ Some x → P x
at_place P xs i x all found = subst P (get_or_from_slice_get xs i x x found) (all i x (slice_get_within xs i x found))

wholly_unused : (space : Space) (free : FreeRuns) → IsWhollyFree space (sectors_of space) → AreFree free → AreUnused space free → (s : ℕ) → contains free.runs s ≡ all_free free.sectors s
wholly_unused space free whole are unused s =
    let set : IsUnusedOf free space = set_of_unused space free are unused in
    elim (cases_lt s free.sectors) [
      | inl inside ↦
          let state_is : state space s ≡ Free = whole.free s (subst (λ n. s < n) set.0 inside) in
          let t : ltb s (sectors_of space) ≡ true = (let size = set.0 in grind (arith, nat_tests)) in
          let u : ltb s free.sectors ≡ true = grind (arith, nat_tests) in
          set.1 s ∙ rw (t, state_is) refl ∙ sym u
      | inr past ↦
          let t : ltb s (sectors_of space) ≡ false = (let size = set.0 in grind (arith, nat_tests)) in
          let u : ltb s free.sectors ≡ false = grind (arith, nat_tests) in
          set.1 s ∙ rw t refl ∙ sym u
    ]

none_mapped : (objects : ℕ → Option Object) (spaces : List VdevSpace) (marks : Marks) → HasSpaceMaps (objects 4) []
    → ((v : ℕ) (space : VdevSpace) → slice_get spaces v ≡ Some space → AreWhollyFree (marks space) (metaslab_sectors space.shape)) → AreMapsOf objects spaces marks
none_mapped objects spaces marks table free = record {
  maps = [];
  are = record {
    table = table;
    rows = record {
      places = All-nil (λ (m : MetaslabMap). HasMapPlace spaces m.metaslab);
      behind = All-nil (λ (m : MetaslabMap). 4 < m.object);
      apart = λ map other held. absurd (let low = held.1 in omega (arith, low));
    };
    each = λ place set there are unused. inr (
      All-nil (λ (m : MetaslabMap). m.metaslab ≢ place),
      (let whole = at_place (λ (x : Space). IsWhollyFree x (metaslab_sectors unused.space.shape)) (marks unused.space) place.index unused.there (free place.vdev unused.space unused.found) unused.is_there in
          wholly_unused unused.there set (subst (IsWhollyFree unused.there) (sym whole.size) whole) are unused.unused),
    );
  };
  short = All-nil (λ (m : MetaslabMap). HasShortMapOf spaces m.metaslab (objects m.object));
}

pub none_yet : (objects : ℕ → Option Object) (spaces : List VdevSpace) → AreEmpty spaces → HasSpaceMaps (objects 4) [] → AreMapsOf objects spaces filled × AreMapsOf objects spaces planned
none_yet objects spaces empty table =
    let at : (v : ℕ) (space : VdevSpace) → slice_get spaces v ≡ Some space → IsEmpty space = λ v space found. at_place IsEmpty spaces v space empty found in (
      none_mapped objects spaces filled table (λ v space found. (at v space found).none_filled),
      none_mapped objects spaces planned table
          (λ v space found. subst (λ them. AreWhollyFree them (metaslab_sectors space.shape)) (sym (at v space found).none_planned) (at v space found).none_filled),
    )

short_here : (objects : ℕ → Option Object) (spaces : List VdevSpace) (maps : List MetaslabMap) (row : MetaslabMap) → AreRowsOf spaces maps → AreShortMaps objects spaces maps → Contains maps row
    → (sectors : ℕ) × HasShortMap (objects row.object) sectors
short_here objects spaces maps row rows short held =
    let there = All-contains (λ (m : MetaslabMap). HasMapPlace spaces m.metaslab) maps row rows.places held in (
      metaslab_sectors there.space.shape,
      All-contains (λ (m : MetaslabMap). HasShortMapOf spaces m.metaslab (objects m.object)) maps row short held (metaslab_sectors there.space.shape) (own_sectors spaces row.metaslab there),
    )

pub no_map_there : (objects : ℕ → Option Object) (spaces : List VdevSpace) (maps : List MetaslabMap) (number : ℕ) (there : Object) → AreRowsOf spaces maps → AreShortMaps objects spaces maps
    → objects number ≡ Some there → there.object_type ≢ 8 → All (λ (m : MetaslabMap). m.object ≢ number) maps
no_map_there objects spaces maps number there rows short is other =
    all_from (λ (m : MetaslabMap). m.object ≢ number) maps (λ row held same.
    let has = (short_here objects spaces maps row rows short held).1 in
    other (ap (λ (o : Object). o.object_type) (same_some there has.table.there (sym is ∙ ap objects (sym same) ∙ has.table.is)) ∙ has.table.of_kind.0))

pub short_maps_there : (objects : ℕ → Option Object) (spaces : List VdevSpace) (maps : List MetaslabMap) → AreShortMaps objects spaces maps → HaveMaps objects spaces maps
short_maps_there objects spaces maps short =
    all_from (λ (m : MetaslabMap). HasMapFor (objects m.object) spaces m.metaslab) maps (λ row held sectors has.
    let is = All-contains (λ (m : MetaslabMap). HasShortMapOf spaces m.metaslab (objects m.object)) maps row short held sectors has in
    (is.free, subst (λ n. HasMap (objects row.object) n is.free) is.size (is.bytes, is.table, is.leaves)))
