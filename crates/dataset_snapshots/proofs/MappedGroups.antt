-- A group's changes, with those of its space maps.
use Rattle.std.specs.Prelude.{max}
use Rattle.std.proofs.Common.{◌≡◌, ◌≢◌, ◌⊎◌, ◌∷◌, [], ℕ, ◌<◌, ◌≤◌, List, Option, Some, None, Contains, inl, inr, sym, ap, subst, ◌∙◌, arith}
use Rattle.std.proofs.lemmas.Bool.{cases_eq, cases_lt}
use Rattle.std.proofs.lemmas.List.Elements.{All-contains}
use Rattle.block_pointer.specs.declared.block.Block.{Block}
use Rattle.block_store.specs.Blocks.{Contents}
use Rattle.block_store.specs.Places.{filled}
use Rattle.block_store.specs.Shapes.{metaslab_sectors}
use Rattle.block_store.specs.Spaces.{VdevSpace}
use Rattle.dataset_groups.specs.Groups.{first_number}
use Rattle.dnode.specs.declared.object_set.ObjectSet.{ObjectSet}
use Rattle.meta_objset.specs.declared.space_maps.MetaslabMap.{MetaslabMap}
use Rattle.meta_objset.specs.declared.stale_spans.StaleSpan.{StaleSpan}
use Rattle.meta_objset.specs.Reading.{HasDirectory}
use Rattle.objset.specs.Changes.{MayChange, after_change, changed}
use Rattle.objset.specs.Objects.{Object}
use Rattle.objset.specs.declared.changes.ObjectChange.{ObjectChange}
use Rattle.objset.proofs.Numbers.{changed_left}
use Rattle.pool_maps.specs.Maps.{AreMapsOf, HasMapPlace, HasShortMap, HasShortMapOf}
use Rattle.pool_maps.specs.Plans.{AreOfOthers, IsMapNumber, LeaveMaps, LeavesMap, MayBeMade, OthersStay}
use Rattle.pool_maps.proofs.Planned.{all_from}
use Rattle.pool_maps.proofs.Whole.{own_sectors}
use Rattle.pool_model.specs.Pools.{PlainPool}
use Rattle.raidz_io.proofs.Written.{same_some}
use Rattle.dataset_snapshots.specs.Creating.{LeavesSpans}
use Rattle.dataset_snapshots.specs.Groups.{AreOfDatasets, IsNextOf, IsOfDatasets, SpellsAfter}
use Rattle.dataset_snapshots.specs.Pools.{SpellsPool}
use Rattle.dataset_snapshots.proofs.ChangedRows.{changed_or_not, first_or_later, is_first, is_later, none_behind, nothing_in}
use Rattle.dataset_snapshots.proofs.OtherObjects.{IsNeither, StaysForChains, chains_over, neither_of_none, neither_of_type, same_type}

-- ---- numbers of maps

-- one of the rows has this object, or none has
row_or_not : (maps : List MetaslabMap) (number : ℕ)
    → ((row : MetaslabMap) × Contains maps row × (row.object ≡ number)) ⊎ ((row : MetaslabMap) → Contains maps row → row.object ≢ number)
row_or_not [] number = inr (λ row held. absurd (nothing_in row held))
row_or_not (first ∷ maps) number = elim (cases_eq first.object number) [
  | inl is ↦ inl (first, is_first first maps, is)
  | inr not ↦ elim (row_or_not maps number) [
    | inl one ↦ inl (one.0, is_later first one.0 maps one.1, one.2)
    | inr none ↦ inr (λ row held is. elim (first_or_later first row maps held) [
      | inl same ↦ not (ap (λ (m : MetaslabMap). m.object) same ∙ is)
      | inr later ↦ none row later is
    ])
  ]
]

-- a number is of a map or one that may be made, or is not
pub of_map_or_not : (maps : List MetaslabMap) (next number : ℕ) → IsMapNumber maps next number ⊎ (¬ IsMapNumber maps next number)
of_map_or_not maps next number = elim (row_or_not maps number) [
  | inl row ↦ inl (inl row)
  | inr none ↦ elim (cases_lt number next) [
    | inl low ↦ inr (λ of_map. by_number none low of_map)
    | inr high ↦ inl (inr high)
  ]
]
  where
    by_number : ((row : MetaslabMap) → Contains maps row → row.object ≢ number) → number < next → IsMapNumber maps next number → ⊥
    by_number none low (inl row) = none row.0 row.1 row.2
    by_number none low (inr high) = omega (arith, low, high)

-- ---- a group's own changes

-- behind a root's objects there are none
pub unmade_from : (stored : Contents) (birth : ℕ) (root : Block) (pool : PlainPool) (is : SpellsPool stored birth root pool) (set : ObjectSet) (next made : ℕ)
    → set ≡ is.set → next ≡ max made (first_number set) → (number : ℕ) → next ≤ number → is.objects number ≡ None
unmade_from stored birth root pool is set next made same next_is number high =
    none_behind stored root.birth is.set is.objects is.own is.blocks number is.are (let sizes : set.objects ≡ is.set.objects = ap (λ (s : ObjectSet). s.objects) same in omega (arith, high, next_is, sizes))

module _ (objects : ℕ → Option Object) (spaces : List VdevSpace) (maps : AreMapsOf objects spaces filled) (changes : List ObjectChange) (next : ℕ) (next_of : IsNextOf changes next)
    (unmade : (number : ℕ) → next ≤ number → objects number ≡ None) (own : AreOfDatasets objects changes) where
  -- a row's object has a map
  map_there : (row : MetaslabMap) → Contains maps.maps row → (there : Object) × (objects row.object ≡ Some there) × (there.object_type ≡ 8)
  map_there row held =
      let place = All-contains (λ (m : MetaslabMap). HasMapPlace spaces m.metaslab) maps.maps row maps.are.rows.places held in
      let short : HasShortMap (objects row.object) (metaslab_sectors place.space.shape) =
      All-contains (λ (m : MetaslabMap). HasShortMapOf spaces m.metaslab (objects m.object)) maps.maps row maps.short held (metaslab_sectors place.space.shape) (own_sectors spaces row.metaslab place) in
      (short.table.there, short.table.is, short.table.of_kind.0)

  own_is : (change : ObjectChange) → Contains changes change → IsOfDatasets change.number (objects change.number)
  own_is change held = All-contains (λ (c : ObjectChange). IsOfDatasets c.number (objects c.number)) changes change own held

  low_is : (change : ObjectChange) → Contains changes change → change.number < next
  low_is change held = All-contains (λ (c : ObjectChange). c.number < next) changes change next_of.below held

  -- no map is of a number of a dataset's
  no_row : (number : ℕ) → IsOfDatasets number (objects number) → (row : MetaslabMap) → Contains maps.maps row → row.object ≢ number
  no_row number one row held is_row =
      let map = map_there row held in
      let at : objects number ≡ Some map.0 = ap objects (sym is_row) ∙ map.1 in
      let behind = All-contains (λ (m : MetaslabMap). 4 < m.object) maps.maps row maps.are.rows.behind held in
      elim one [
        | inl first ↦ omega (arith, behind, is_row, first)
        | inr (inl third) ↦ omega (arith, behind, is_row, third)
        | inr (inr (high, inl none)) ↦ let clash : None ≡ Some map.0 = sym none ∙ at in absurd cc
        | inr (inr (high, inr (inl one_record))) ↦
            let same : one_record.0 ≡ map.0 = same_some one_record.0 map.0 (sym one_record.1 ∙ at) in
            let clash : 201 ≡ 8 = sym one_record.2.object_type ∙ (ap (λ (o : Object). o.object_type) same ∙ map.2) in omega (arith, clash)
        | inr (inr (high, inr (inr one_list))) ↦
            let same : one_list.0 ≡ map.0 = same_some one_list.0 map.0 (sym one_list.1 ∙ at) in
            let clash : 202 ≡ 8 = sym one_list.2.0 ∙ (ap (λ (o : Object). o.object_type) same ∙ map.2) in omega (arith, clash)
      ]

  not_of_maps : (number : ℕ) → IsOfDatasets number (objects number) → number < next → ¬ IsMapNumber maps.maps next number
  not_of_maps number one below (inr high) = omega (arith, below, high)
  not_of_maps number one below (inl (row, held, is_row)) = no_row number one row held is_row

  not_four : (number : ℕ) → IsOfDatasets number (objects number) → number ≢ 4
  not_four number (inl first) four = omega (arith, first, four)
  not_four number (inr (inl third)) four = omega (arith, third, four)
  not_four number (inr (inr (high, kind))) four = omega (arith, high, four)

  -- they are none of maps
  pub others_are : MayBeMade objects changes → AreOfOthers objects changes maps.maps next
  others_are may = record {
    tables = all_from (λ (c : ObjectChange). c.number ≢ 4) changes (λ change held. not_four change.number (own_is change held));
    apart = all_from (λ (c : ObjectChange). ¬ IsMapNumber maps.maps next c.number) changes
        (λ change held. not_of_maps change.number (own_is change held) (low_is change held));
    may = may;
    unmade = unmade;
    behind = next_of.behind;
    within = next_of.within;
  }

  -- ---- with the changes of maps

  module _ (all : List ObjectChange) (stay : OthersStay maps.maps next changes all) (leave : LeaveMaps objects changes all) (may : MayBeMade objects all) where
    four_left : changed changes objects 4 ≡ objects 4
    four_left = changed_left changes objects 4 (all_from (λ (c : ObjectChange). c.number ≢ 4) changes (λ change held. not_four change.number (own_is change held)))

    -- no change is of a map, or of an object that is still to be made
    map_left : (number : ℕ) → IsMapNumber maps.maps next number → changed changes objects number ≡ objects number
    map_left number of_map = changed_left changes objects number (all_from (λ (c : ObjectChange). c.number ≢ number) changes
        (λ change held same. not_of_maps change.number (own_is change held) (low_is change held) (subst (IsMapNumber maps.maps next) (sym same) of_map)))

    -- what has a map, or is not made yet, is of no dataset
    map_before : (number : ℕ) → IsMapNumber maps.maps next number → IsNeither (objects number)
    map_before number (inr high) = neither_of_none (objects number) (unmade number high)
    map_before number (inl (row, held, is)) =
        let map = map_there row held in
        neither_of_type (objects number) 8 (omega arith) (omega arith)
        (λ there at. ap (λ (o : Object). o.object_type) (same_some there map.0 (sym at ∙ (ap objects (sym is) ∙ map.1))) ∙ map.2)

    map_after : (number : ℕ) → number ≢ 4 → IsMapNumber maps.maps next number → IsNeither (changed all objects number)
    map_after number not_table of_map = elim (changed_or_not all objects number) [
      | inl none ↦ subst IsNeither (sym none.1) (map_before number of_map)
      | inr (change, held, at, now) ↦ subst IsNeither (sym now) (elim (leave change held) [
        | inl before ↦ absurd (not_of_maps change.number (own_is change before) (low_is change before) (subst (IsMapNumber maps.maps next) (sym at) of_map))
        | inr (inl table) ↦ absurd (not_table (sym at ∙ table))
        | inr (inr map) ↦ left number change at map
      ])
    ]
      where
        left : (number : ℕ) (change : ObjectChange) → change.number ≡ number → LeavesMap objects change → IsNeither (after_change change.change (objects number))
        left number change at map = subst (λ n. IsNeither (after_change change.change (objects n))) at
            (neither_of_type (after_change change.change (objects change.number)) 8 (omega arith) (omega arith)
            (λ there is. ap (λ (o : Object). o.object_type) (same_some there map.1.there (sym is ∙ map.1.is)) ∙ map.1.of_kind.0))

    -- the maps' table has its type still
    table_of : (there : Object) → objects 4 ≡ Some there → there.object_type ≡ 205
    table_of there is = let table = maps.are.table.1 in ap (λ (o : Object). o.object_type) (same_some there table.there (sym is ∙ table.is)) ∙ table.of_kind.0

    table_before : IsNeither (objects 4)
    table_before = neither_of_type (objects 4) 205 (omega arith) (omega arith) table_of

    table_after : IsNeither (changed all objects 4)
    table_after = elim (changed_or_not all objects 4) [
      | inl none ↦ subst IsNeither (sym none.1) table_before
      | inr (change, held, at, now) ↦
          let there = maps.are.table.1.there in
          let is = maps.are.table.1.is in
          let may_it : MayChange change.change (Some there) = subst (MayChange change.change) (ap objects at ∙ is)
          (All-contains (λ (c : ObjectChange). MayChange c.change (objects c.number)) all change may held) in
          neither_of_type (changed all objects 4) 205 (omega arith) (omega arith)
          (λ new new_is. same_type change.change there new may_it (ap (after_change change.change) (sym is) ∙ (sym now ∙ new_is)) ∙ maps.are.table.1.of_kind.0)
    ]

    pub stays : (number : ℕ) → StaysForChains (changed changes objects number) (changed all objects number)
    stays number = elim (cases_eq number 4) [
      | inl four ↦ inr (subst (λ n. IsNeither (changed changes objects n) × IsNeither (changed all objects n)) (sym four) (subst IsNeither (sym four_left) table_before, table_after))
      | inr not_table ↦ elim (of_map_or_not maps.maps next number) [
        | inl of_map ↦ inr (subst IsNeither (sym (map_left number of_map)) (map_before number of_map), map_after number not_table of_map)
        | inr not_map ↦ inl (stay objects number not_table not_map)
      ]
    ]

    pub low_stays : (number : ℕ) → number ≤ 3 → changed all objects number ≡ changed changes objects number
    low_stays number low = stay objects number (λ four. omega (arith, low, four)) (λ of_map. by_number of_map)
      where
        by_number : IsMapNumber maps.maps next number → ⊥
        by_number (inl (row, held, is_row)) = let behind = All-contains (λ (m : MetaslabMap). 4 < m.object) maps.maps row maps.are.rows.behind held in omega (arith, behind, is_row, low)
        by_number (inr high) = let behind = next_of.behind in omega (arith, behind, high, low)

    -- so the pool is spelled with the maps' changes too
    abbrev pub spells_with_maps : (later : Contents) (group : ℕ) (spans : Option (List StaleSpan)) (after : PlainPool) → SpellsAfter later group objects changes spans after
        → SpellsAfter later group objects all spans after
    spells_with_maps later group spans after was = record {
      rows = was.rows;
      directory = subst (λ (o : Option Object). HasDirectory o was.rows) (sym (low_stays 1 (omega arith))) was.directory;
      may = may;
      tables = record {
        config = low_stays 2 (omega arith) ∙ was.tables.config;
        stale = subst (LeavesSpans spans (objects 3)) (sym (low_stays 3 (omega arith))) was.tables.stale;
      };
      datasets = was.datasets;
      readings = was.readings;
      chains = chains_over later group (changed changes objects) (changed all objects) was.datasets was.readings stays was.chains;
      names = was.names;
    }
