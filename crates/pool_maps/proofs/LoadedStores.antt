-- A store in which maps are loaded.
use Rattle.std.proofs.Common.{◌≡◌, ◌≢◌, ◌<◌, List, [], ◌∷◌, ◌++◌, Some, length, All, inl, inr, refl, sym, ap, subst, ◌∙◌, arith, get_or}
use Rattle.std.specs.List.{slice_get}
use Rattle.std.proofs.Math.ListN.{get_or-append}
use Rattle.std.proofs.lemmas.List.{length-append}
use Rattle.std.proofs.lemmas.List.Elements.{All-contains, Contains-push_cases}
use Rattle.block_store.specs.Maps.{HasSectors, LoadsIn, StayElsewhere}
use Rattle.block_store.specs.Places.{Marks, filled, planned, shapes_of}
use Rattle.block_store.specs.Plans.{KeepsPlans}
use Rattle.block_store.specs.Shapes.{first_meta}
use Rattle.block_store.specs.Spaces.{VdevSpace}
use Rattle.block_store.specs.Store.{Store, Keeps, KeepsStored}
use Rattle.block_store.proofs.Loading.{loads_filled, loads_planned}
use Rattle.meta_objset.proofs.Edits.{the_middle}
use Rattle.meta_objset.proofs.Ordered.{in_front}
use Rattle.meta_objset.specs.declared.space_maps.MetaslabPlace.{MetaslabPlace}
use Rattle.objset.proofs.Numbers.{all_front, all_last}
use Rattle.pool_maps.specs.declared.reading.FreeMetaslab.{FreeMetaslab}
use Rattle.pool_maps.specs.Loads.{AreApart, AreFreeBefore, AreLoadedAs, AreSetsOf, IsFreeAt, IsSameAt, IsUnusedIn, MayBeLoaded, MetaStays, NothingIsReleased, OnlyLoads}
use Rattle.pool_maps.specs.Maps.{HasMapPlace}
use Rattle.pool_maps.proofs.LoadedRows.{free_still, same_elsewhere, same_then, unused_here, unused_still}
use Rattle.pool_maps.proofs.Planned.{all_from}
use Rattle.pool_maps.proofs.Releasing.{load_releases}
use Rattle.pool_maps.proofs.Whole.{place_by, sectors_back}

meta_stays : (marks : Marks) (spaces after : List VdevSpace) (place : MetaslabPlace) → HasMapPlace spaces place → StayElsewhere marks spaces place.vdev place.index after
    → MetaStays marks spaces after
meta_stays marks spaces after place there stay = λ state at other. stay state at (λ same.
    other (record {
      space = there.space;
      found = ap (λ v. slice_get spaces v) same.0 ∙ there.found;
      before = subst (λ m. m < first_meta there.space.shape) (sym same.1) there.before;
    }))

pub loads_none : (store : Store) → OnlyLoads store store
loads_none store = record {
  rest = refl;
  shapes = refl;
  keeps = λ stored held. held;
  stores = λ stored held. held;
  plans = λ stored planned held. held;
  filled_stays = λ state at other used. used;
  planned_stays = λ state at other used. used;
}

stays_on : (marks : Marks) (spaces mid after : List VdevSpace) → shapes_of mid ≡ shapes_of spaces → MetaStays marks spaces mid → MetaStays marks mid after → MetaStays marks spaces after
stays_on marks spaces mid after shapes first rest = λ state at other used.
    rest state at (λ there. other (place_by mid spaces (record { vdev = at.vdev; index = at.metaslab }) (sym shapes) there)) (first state at other used)

pub loads_on : (old mid new : Store) → OnlyLoads old mid → OnlyLoads mid new → OnlyLoads old new
loads_on old mid new first rest = record {
  rest = rest.rest ∙ ap (λ (s : Store). record s { spaces = new.spaces }) first.rest;
  shapes = rest.shapes ∙ first.shapes;
  keeps = λ stored held. rest.keeps stored (first.keeps stored held);
  stores = λ stored held. rest.stores stored (first.stores stored held);
  plans = λ stored planned held. rest.plans stored planned (first.plans stored planned held);
  filled_stays = stays_on filled old.spaces mid.spaces new.spaces first.shapes first.filled_stays rest.filled_stays;
  planned_stays = stays_on planned old.spaces mid.spaces new.spaces first.shapes first.planned_stays rest.planned_stays;
}

-- the spaces changed, of one metaslab before a meta region
pub one_loads : (old new : Store) (place : MetaslabPlace) → HasMapPlace old.spaces place → new ≡ record old { spaces = new.spaces } → shapes_of new.spaces ≡ shapes_of old.spaces
    → Keeps old new → KeepsStored old new → KeepsPlans old new → StayElsewhere filled old.spaces place.vdev place.index new.spaces
    → StayElsewhere planned old.spaces place.vdev place.index new.spaces → OnlyLoads old new
one_loads old new place there rest shapes keeps stores plans filled_stay planned_stay = record {
  rest = rest;
  shapes = shapes;
  keeps = keeps;
  stores = stores;
  plans = plans;
  filled_stays = meta_stays filled old.spaces new.spaces place there filled_stay;
  planned_stays = meta_stays planned old.spaces new.spaces place there planned_stay;
}

-- ---- one set after the other

-- the first of them are apart too
pub front_apart : (done left : List FreeMetaslab) → AreApart (done ++ left) → AreApart done
front_apart done left apart i j d less low =
    let whole : j < length (done ++ left) = omega (arith, low, length-append done left) in
    let low_i : i < length done = omega (arith, less, low) in
    let is = apart i j d less whole in
    subst (λ (read : FreeMetaslab). read.metaslab ≢ (get_or done j d).metaslab) (get_or-append done left d i low_i)
    (subst (λ (later : FreeMetaslab). (get_or (done ++ left) i d).metaslab ≢ later.metaslab) (get_or-append done left d j low) is)

pub record LoadedUpTo (old now : Store) (done : List FreeMetaslab) : Type 0 where
  pub loads : OnlyLoads old now
  pub released : NothingIsReleased filled old.spaces now.spaces
  pub each : AreApart done → All (IsUnusedIn now.spaces) done
  pub filled_too : (place : MetaslabPlace) → All (λ read. read.metaslab ≢ place) done → IsSameAt filled old.spaces place now.spaces
  pub planned_too : (place : MetaslabPlace) → All (λ read. read.metaslab ≢ place) done → IsSameAt planned old.spaces place now.spaces

same_still : (marks : Marks) (spaces : List VdevSpace) (place : MetaslabPlace) → IsSameAt marks spaces place spaces
same_still marks spaces place space new found found_after =
    ap (λ (x : VdevSpace). slice_get (marks x) place.index) (let both : Some new ≡ Some space = sym found_after ∙ found in cc)

pub none_yet : (store : Store) → LoadedUpTo store store []
none_yet store = record {
  loads = loads_none store;
  released = λ by at used. used;
  each = λ apart. all_from (IsUnusedIn store.spaces) [] (λ read held. absurd (let low = held.1 in omega (arith, low)));
  filled_too = λ place none. same_still filled store.spaces place;
  planned_too = λ place none. same_still planned store.spaces place;
}

pub one_more : (old now new : Store) (done : List FreeMetaslab) (read : FreeMetaslab) → LoadedUpTo old now done → OnlyLoads now new
    → LoadsIn now.spaces read.metaslab.vdev read.metaslab.index read.free new.spaces → LoadedUpTo old new (done ++ read ∷ [])
one_more old now new done read before loads is =
    let there = read.metaslab in
    let by_filled = loads_filled now.spaces there.vdev there.index read.free new.spaces is in
    let by_planned = loads_planned now.spaces there.vdev there.index read.free new.spaces is in
    record {
      loads = loads_on old now new before.loads loads;
      released = λ by at used. before.released by at (load_releases now.spaces there.vdev there.index read.free new.spaces is by at used);
      each = λ apart. all_from (IsUnusedIn new.spaces) (done ++ read ∷ []) (λ other held. elim (Contains-push_cases done read other held) [
        | inl sooner ↦
            let was : IsUnusedIn now.spaces other = All-contains (IsUnusedIn now.spaces) done other (before.each (front_apart done (read ∷ []) apart)) sooner in
            let differ : other.metaslab ≢ there =
            All-contains (λ (r : FreeMetaslab). r.metaslab ≢ there) done other (in_front (λ (r later : FreeMetaslab). r.metaslab ≢ later.metaslab) done [] read apart) sooner in
            record {
              kept = unused_still filled now.spaces new.spaces other.metaslab other.free loads.shapes
                  (same_elsewhere filled now.spaces new.spaces there by_filled other.metaslab differ) was.kept;
              with_plan = unused_still planned now.spaces new.spaces other.metaslab other.free loads.shapes
                  (same_elsewhere planned now.spaces new.spaces there by_planned other.metaslab differ) was.with_plan;
            }
        | inr here ↦ subst (IsUnusedIn new.spaces) here (unused_here now.spaces new.spaces read is)
      ]);
      filled_too = λ place none.
          same_then filled old.spaces now.spaces new.spaces place before.loads.shapes (before.filled_too place (all_front (λ (r : FreeMetaslab). r.metaslab ≢ place) done read none))
          (same_elsewhere filled now.spaces new.spaces there by_filled place (λ same. all_last (λ (r : FreeMetaslab). r.metaslab ≢ place) done read none (sym same)));
      planned_too = λ place none.
          same_then planned old.spaces now.spaces new.spaces place before.loads.shapes (before.planned_too place (all_front (λ (r : FreeMetaslab). r.metaslab ≢ place) done read none))
          (same_elsewhere planned now.spaces new.spaces there by_planned place (λ same. all_last (λ (r : FreeMetaslab). r.metaslab ≢ place) done read none (sym same)));
    }

pub loaded_as : (old now : Store) (maps : List FreeMetaslab) → LoadedUpTo old now maps → AreApart maps → AreLoadedAs old.spaces maps now.spaces
loaded_as old now maps is apart = record { shapes = is.loads.shapes; each = is.each apart; filled_too = is.filled_too; planned_too = is.planned_too }

-- the next one of a pool's sets may be loaded
pub next_may : (old now : Store) (done left : List FreeMetaslab) (read : FreeMetaslab) → LoadedUpTo old now done → AreSetsOf old.spaces (done ++ read ∷ left)
    → AreFreeBefore old.spaces → MayBeLoaded now.spaces read
next_may old now done left read before sets free =
    let held = the_middle done left read in
    let there : HasMapPlace old.spaces read.metaslab = All-contains (λ (r : FreeMetaslab). HasMapPlace old.spaces r.metaslab) (done ++ read ∷ left) read sets.places held in
    let apart = in_front (λ (r later : FreeMetaslab). r.metaslab ≢ later.metaslab) done left read sets.apart in
    let now_free : IsFreeAt now.spaces read.metaslab = free_still old.spaces now.spaces read.metaslab there before.loads.shapes
    (before.filled_too read.metaslab apart) (before.planned_too read.metaslab apart) (free read.metaslab there) in
    let size = All-contains (λ (r : FreeMetaslab). HasSectors old.spaces r.metaslab.vdev r.free.sectors) (done ++ read ∷ left) read sets.sizes held in
    let there_now = place_by old.spaces now.spaces read.metaslab before.loads.shapes there in (
      there_now,
      now_free read.free.sectors (sectors_back now.spaces old.spaces read.metaslab read.free.sectors (sym before.loads.shapes) there_now size),
    )
