-- All maps of a plan.
use Rattle.block_store.specs.Maps.{HasSectors}
use Rattle.std.proofs.Common.{◌≡◌, ◌≢◌, ℕ, ◌<◌, ◌≤◌, false, List, Some, None, Option, All, Contains, inl, inr, refl, sym, ap, subst, ◌∙◌, arith}
use Rattle.std.proofs.lemmas.Bool.{cases_lt}
use Rattle.std.proofs.lemmas.List.Elements.{All-contains}
use Rattle.block_pointer.specs.declared.block.Block.{Block}
use Rattle.block_store.specs.Places.{shapes_of, filled}
use Rattle.block_store.specs.Releases.{copies_of_all}
use Rattle.block_store.specs.Spaces.{VdevSpace}
use Rattle.block_store.specs.declared.shape.VdevShape.{VdevShape}
use Rattle.block_store.specs.Shapes.{first_meta, metaslab_sectors}
use Rattle.block_store.proofs.GivenBack.{released_shapes}
use Rattle.block_store.proofs.Taking.{found_too}
use Rattle.meta_objset.specs.Reading.{HasSpaceMaps}
use Rattle.meta_objset.specs.SpaceMaps.{AreSpaceMaps, maps_kind}
use Rattle.meta_objset.specs.declared.space_maps.MetaslabMap.{MetaslabMap}
use Rattle.meta_objset.specs.declared.space_maps.MetaslabPlace.{MetaslabPlace}
use Rattle.object_table.specs.Tables.{IsOfKind}
use Rattle.objset.specs.declared.changes.Change.{Change}
use Rattle.objset.specs.declared.changes.ObjectChange.{ObjectChange}
use Rattle.objset.specs.Changes.{MayChange, after_change, changed}
use Rattle.objset.specs.Objects.{Object}
use Rattle.objset.proofs.Numbers.{changed_left}
use Rattle.pool_maps.specs.declared.steps.MapPlan.{MapPlan}
use Rattle.pool_maps.specs.Maps.{AreMapsOf, AreShortMaps, AreRowsOf, HasMapPlace, HasShortMap, HasShortMapOf, IsMapped}
use Rattle.pool_maps.specs.Plans.{Advances, AreAhead, AreAll, AreBelow, AreOfOthers, AreUnmade, GoesOn, IsMapNumber, IsPutIn, IsSound, LeaveMaps, MapAnew, MayBeMade, after_plan, numbers_end}
use Rattle.pool_maps.proofs.Planned.{all_from, mapped_by}
use Rattle.pool_maps.proofs.Among.{all_put, becomes, only, others_stay}

pub place_by : (spaces after : List VdevSpace) (place : MetaslabPlace) → shapes_of after ≡ shapes_of spaces → HasMapPlace spaces place → HasMapPlace after place
place_by spaces after place same is =
    let there = found_too spaces after place.vdev is.space same is.found in
    record { space = there.0; found = there.1; before = subst (λ (shape : VdevShape). place.index < first_meta shape) (sym there.2) is.before }

-- of the metaslab there are as many sectors
pub sectors_back : (spaces after : List VdevSpace) (place : MetaslabPlace) (sectors : ℕ) → shapes_of after ≡ shapes_of spaces → HasMapPlace spaces place
    → HasSectors after place.vdev sectors → HasSectors spaces place.vdev sectors
sectors_back spaces after place sectors same there has =
    let new = found_too spaces after place.vdev there.space same there.found in
    let size : sectors ≡ metaslab_sectors new.0.shape = rw new.1 at has in
    rw there.found (size ∙ ap metaslab_sectors new.2)

pub own_sectors : (spaces : List VdevSpace) (place : MetaslabPlace) → (there : HasMapPlace spaces place) → HasSectors spaces place.vdev (metaslab_sectors there.space.shape)
own_sectors spaces place there = rw there.found refl

no_map : (spaces : List VdevSpace) (place : MetaslabPlace) → HasMapPlace spaces place → ¬ HasShortMapOf spaces place None
no_map spaces place there short =
    let is = short (metaslab_sectors there.space.shape) (own_sectors spaces place there) in
    (let clash : None ≡ Some is.table.there = is.table.is in cc)

-- ---- all of them were planned

module _ (objects : ℕ → Option Object) (spaces : List VdevSpace) (gone : List Block) (first last : MapPlan) (last_sound : IsSound spaces last)
    (advances : Advances objects spaces gone AreAll first last) (ahead : AreAhead objects spaces AreAll first) (kinds : AreShortMaps (after_plan first objects) spaces first.maps) where
  pub anew_by : (all : List ObjectChange) → HasSpaceMaps (changed all objects 4) last.maps
      → ((number : ℕ) → number ≢ 4 → changed all objects number ≡ after_plan last objects number) → MapAnew objects spaces gone all
  anew_by all table same = λ after group released.
      let shapes = released_shapes spaces (copies_of_all gone) group after released in
      let not_table : (row : MetaslabMap) → Contains last.maps row → row.object ≢ 4 =
      λ row held is. (let behind = All-contains (λ (m : MetaslabMap). 4 < m.object) last.maps row last_sound.rows.behind held in omega (arith, behind, is)) in (
        record {
          maps = last.maps;
          are = record {
            table = table;
            rows = record {
              places = all_from (λ (m : MetaslabMap). HasMapPlace after m.metaslab) last.maps
                  (λ row held. place_by spaces after row.metaslab shapes (All-contains (λ (m : MetaslabMap). HasMapPlace spaces m.metaslab) last.maps row last_sound.rows.places held));
              behind = last_sound.rows.behind;
              apart = last_sound.rows.apart;
            };
            each = λ place free there frees unused.
                let before : HasMapPlace spaces place = place_by after spaces place (sym shapes) there in
                mapped_by (after_plan last objects) (changed all objects) last.maps place free (λ row held of_place. same row.object (not_table row held))
                (advances.anew place tt before (ahead place tt before).0 free after group released frees unused);
          };
          short = all_from (λ (m : MetaslabMap). HasShortMapOf after m.metaslab (changed all objects m.object)) last.maps
              (λ row held sectors has. subst (λ object. HasShortMap object sectors) (sym (same row.object (not_table row held)))
              (All-contains (λ (m : MetaslabMap). HasShortMapOf spaces m.metaslab (after_plan last objects m.object)) last.maps row
              (advances.short (λ place of_all there. (ahead place of_all there).0) kinds) held sectors
              (sectors_back spaces after row.metaslab sectors shapes
              (All-contains (λ (m : MetaslabMap). HasMapPlace spaces m.metaslab) last.maps row last_sound.rows.places held) has)));
        },
        λ place there.
            let before : HasMapPlace spaces place = place_by after spaces place (sym shapes) there in
            let behind = advances.there place tt before in
            record { free = behind.free; are = behind.are; unused = behind.is after group released },
      )

-- ---- of maps that there were

module _ (objects : ℕ → Option Object) (spaces : List VdevSpace) (are : AreMapsOf objects spaces filled) (changes : List ObjectChange) (next : ℕ)
    (of : AreOfOthers objects changes are.maps next) (first : MapPlan) (maps_are : first.maps ≡ are.maps) (changes_are : first.changes.items ≡ changes) (next_is : first.next ≡ next) where
  lacks_row : (row : MetaslabMap) → Contains are.maps row → All (λ (c : ObjectChange). c.number ≢ row.object) changes
  lacks_row row held = all_from (λ (c : ObjectChange). c.number ≢ row.object) changes
      (λ change among same. All-contains (λ (c : ObjectChange). ¬ IsMapNumber are.maps next c.number) changes change of.apart among (inl (row, held, sym same)))

  row_stays : (row : MetaslabMap) → Contains are.maps row → after_plan first objects row.object ≡ objects row.object
  row_stays row held = ap (λ them. changed them objects row.object) changes_are ∙ changed_left changes objects row.object (lacks_row row held)

  in_maps : (row : MetaslabMap) → Contains first.maps row → Contains are.maps row
  in_maps row held = subst (λ maps. Contains maps row) maps_are held

  pub unmade : AreUnmade first objects
  unmade number later = of.unmade number (subst (λ n. n ≤ number) next_is later)

  pub sound : IsSound spaces first
  sound = record {
    order = subst AreSpaceMaps (sym maps_are) are.are.table.0;
    rows = subst (AreRowsOf spaces) (sym maps_are) are.are.rows;
    below = all_from (λ (m : MetaslabMap). m.object < first.next) first.maps (λ row held. elim (cases_lt row.object first.next) [
      | inl less ↦ less
      | inr later ↦ absurd (no_map spaces row.metaslab
          (All-contains (λ (m : MetaslabMap). HasMapPlace spaces m.metaslab) are.maps row are.are.rows.places (in_maps row held))
          (subst (HasShortMapOf spaces row.metaslab) (unmade row.object later)
          (All-contains (λ (m : MetaslabMap). HasShortMapOf spaces m.metaslab (objects m.object)) are.maps row are.short (in_maps row held))))
    ]);
    behind = subst (λ n. 4 < n) (sym next_is) of.behind;
    within = subst (λ n. n ≤ numbers_end) (sym next_is) of.within;
  }

  pub below : AreBelow first
  below = subst (λ them. All (λ (c : ObjectChange). c.number < first.next) them) (sym changes_are)
      (subst (λ n. All (λ (c : ObjectChange). c.number < n) changes) (sym next_is)
      (all_from (λ (c : ObjectChange). c.number < next) changes (λ change among. elim (cases_lt change.number next) [
        | inl less ↦ less
        | inr later ↦ absurd (All-contains (λ (c : ObjectChange). ¬ IsMapNumber are.maps next c.number) changes change of.apart among (inr later))
      ])))

  pub ahead : AreAhead objects spaces AreAll first
  ahead place _ there = (
    λ free frees was. mapped_by objects (after_plan first objects) first.maps place free (λ row held of_place. row_stays row (in_maps row held))
        (subst (λ maps. IsMapped objects maps place free) (sym maps_are) (are.are.each place free there frees was)),
    λ row held of_place. subst (λ them. All (λ (c : ObjectChange). c.number ≢ row.object) them) (sym changes_are) (lacks_row row (in_maps row held)),
  )

  first_may : MayBeMade objects first.changes.items
  first_may = subst (MayBeMade objects) (sym changes_are) of.may

  first_kinds : AreShortMaps (after_plan first objects) spaces first.maps
  first_kinds = all_from (λ (m : MetaslabMap). HasShortMapOf spaces m.metaslab (after_plan first objects m.object)) first.maps
      (λ row held. subst (HasShortMapOf spaces row.metaslab) (sym (row_stays row (in_maps row held)))
      (All-contains (λ (m : MetaslabMap). HasShortMapOf spaces m.metaslab (objects m.object)) are.maps row are.short (in_maps row held)))

  not_of_map : ¬ IsMapNumber first.maps first.next 4
  not_of_map (inl (row, held, is)) = let behind = All-contains (λ (m : MetaslabMap). 4 < m.object) are.maps row are.are.rows.behind (in_maps row held) in omega (arith, behind, is)
  not_of_map (inr later) = let behind = sound.behind in omega (arith, behind, later)

  module _ (gone : List Block) (last : MapPlan) (goes : GoesOn first last) (last_sound : IsSound spaces last) (advances : Advances objects spaces gone AreAll first last) where
    pub table_apart : All (λ (c : ObjectChange). c.number ≢ 4) last.changes.items
    table_apart = all_from (λ (c : ObjectChange). c.number ≢ 4) last.changes.items (λ change among. elim (goes.only change among) [
      | inl before ↦ All-contains (λ (c : ObjectChange). c.number ≢ 4) changes change of.tables (subst (λ them. Contains them change) changes_are before)
      | inr of_map ↦ λ same. not_of_map (subst (λ n. IsMapNumber first.maps first.next n) same of_map)
    ])

    last_may : MayBeMade objects last.changes.items
    last_may = advances.may (λ place all there. (ahead place all there).0) first_may

    -- a change that came leaves a map
    last_leave : LeaveMaps objects changes last.changes.items
    last_leave one held = elim (advances.leave (λ place all there. (ahead place all there).0) one held) [
      | inl before ↦ inl (subst (λ (them : List ObjectChange). Contains them one) changes_are before)
      | inr map ↦ inr (inr map)
    ]

    -- no metaslab got its first map: the table is as it was
    pub anew_idle : last.grown ≡ false
        → MayBeMade objects last.changes.items × MapAnew objects spaces gone last.changes.items × LeaveMaps objects changes last.changes.items
    anew_idle idle = (
      last_may,
      anew_by objects spaces gone first last last_sound advances ahead first_kinds last.changes.items
          (subst (λ maps. HasSpaceMaps (after_plan last objects 4) maps) (sym ((goes.idle idle).0 ∙ maps_are))
          (subst (λ object. HasSpaceMaps object are.maps) (sym (changed_left last.changes.items objects 4 table_apart)) are.are.table))
          (λ number other. refl),
      last_leave,
    )

    -- one did, and the table has a row more
    pub anew_grown : (all : List ObjectChange) (change : Change) → IsPutIn last.changes.items (record { number = 4; change = change }) all
        → ((object : Object) → IsOfKind maps_kind object → MayChange change (Some object) × HasSpaceMaps (after_change change (Some object)) last.maps)
        → MayBeMade objects all × MapAnew objects spaces gone all × LeaveMaps objects changes all
    anew_grown all change put table =
        let there = are.are.table.1.there in
        let is : objects 4 ≡ Some there = are.are.table.1.is in
        let made = table there are.are.table.1.of_kind in (
          all_put last.changes.items all (record { number = 4; change = change }) put (λ (c : ObjectChange). MayChange c.change (objects c.number)) last_may
              (subst (MayChange change) (sym is) made.0),
          anew_by objects spaces gone first last last_sound advances ahead first_kinds all
              (subst (λ object. HasSpaceMaps object last.maps) (sym (becomes last.changes.items all (record { number = 4; change = change }) put objects ∙ ap (after_change change) is)) made.1)
              (λ number other. others_stay last.changes.items all (record { number = 4; change = change }) put objects number (λ same. other (sym same))),
          λ one held. elim (only last.changes.items all (record { number = 4; change = change }) put one held) [
            | inl sooner ↦ last_leave one sooner
            | inr of_table ↦ inr (inl (sym (ap (λ (c : ObjectChange). c.number) of_table)))
          ],
        )
