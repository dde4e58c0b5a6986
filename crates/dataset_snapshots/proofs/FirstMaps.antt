-- The space maps of a pool's first root.
use Rattle.std.proofs.Common.{◌≡◌, ◌≢◌, inl, inr, ℕ, ◌<◌, ◌≤◌, List, [], ◌∷◌, length, Option, None, All, refl, sym, ap, ◌∙◌, subst, arith}
use Rattle.std.specs.List.{slice_get}
use Rattle.std.proofs.lemmas.Bool.{cases_eq, cases_lt}
use Rattle.std.proofs.lemmas.List.Elements.{All-contains, All-nil, All-weaker}
use Rattle.block_pointer.specs.declared.block.Block.{Block}
use Rattle.block_pointer.specs.Copies.{dvas}
use Rattle.block_store.proofs.Planning.{marks_by_map}
use Rattle.block_store.proofs.Taking.{found_too}
use Rattle.block_store.specs.Blocks.{Contents, Extends}
use Rattle.block_store.specs.Places.{filled, planned}
use Rattle.block_store.specs.Spaces.{VdevSpace}
use Rattle.block_store.specs.Steps.{OnlyReadsAndPlans}
use Rattle.block_store.specs.Store.{Store}
use Rattle.dataset_groups.proofs.ChainStands.{leaves}
use Rattle.dataset_groups.specs.Chains.{Reading}
use Rattle.dataset_groups.specs.ChainStanding.{HasChains}
use Rattle.dataset_groups.specs.declared.datasets.GroupDatasets.{GroupDatasets}
use Rattle.dataset_groups.specs.Groups.{SpellsGroup}
use Rattle.dataset_groups.specs.Leaving.{AddsData, AddsMeta, IsReachExchanged}
use Rattle.dataset_groups.specs.Names.{reach_by}
use Rattle.dead_list.specs.Datasets.{Pool}
use Rattle.dnode.specs.declared.object_set.ObjectSetKind.TheVariants as sets
use Rattle.meta_objset.specs.declared.stale_spans.StaleSpan.{StaleSpan}
use Rattle.meta_objset.specs.Reading.{HasConfig, HasDirectory, HasStaleSpans}
use Rattle.objset.proofs.Numbers.{changed_left}
use Rattle.objset.specs.declared.changes.ObjectChange.{ObjectChange}
use Rattle.objset.specs.Changes.{after_change, changed}
use Rattle.objset.specs.Objects.{Object}
use Rattle.objset.specs.Within.{blocks_of_set}
use Rattle.pool_maps.proofs.Besides.{whole_plan}
use Rattle.pool_maps.specs.Beside.{AreSameBefore, IsBeforeMeta, IsInMeta}
use Rattle.pool_maps.specs.Maps.{AreMapsOf}
use Rattle.pool_maps.specs.Plans.{AreOfOthers, IsMapNumber, LeaveMaps, MayBeMade, OthersStay}
use Rattle.pool_maps.specs.Reached.{AreThere, UseNothing}
use Rattle.pool_model.specs.Pools.{PlainPool}
use Rattle.vdev_label.specs.Plain.{PlainVdev}
use Rattle.dataset_snapshots.specs.Creating.{HasFirstTables}
use Rattle.dataset_snapshots.specs.FirstGroup.{IsWithTables, empty_meta}
use Rattle.dataset_snapshots.specs.Groups.{IsNextOf, IsSetOf}
use Rattle.dataset_snapshots.specs.Mapped.{AreCopied, HasMapsBehind}
use Rattle.dataset_snapshots.specs.Pools.{SpellsPool}
use Rattle.dataset_snapshots.specs.Reach.{reach_of}
use Rattle.dataset_snapshots.proofs.ChangedRows.{changed_or_not, nothing_in}
use Rattle.dataset_groups.proofs.Copied.{reach_copied}
use Rattle.dataset_snapshots.proofs.FirstRoots.{first_given, first_may, lacks_maps, neither_of_table, nothing, table_has, tables_stay}
use Rattle.dataset_snapshots.proofs.GroupReach.{IsRootGiven}
use Rattle.dataset_snapshots.proofs.OtherObjects.{IsNeither, StaysForChains, chains_more, chains_over, neither_of_none}

-- nothing is in use where nothing was, while blocks are planned
pub unused_still : (old new : Store) → OnlyReadsAndPlans old new [] → UseNothing old.spaces filled → UseNothing new.spaces filled
unused_still old new steps none at used =
    let before = found_too new.spaces old.spaces at.vdev used.space (sym steps.shapes) used.found in
    let marks : filled used.space ≡ filled before.0 = marks_by_map filled old.spaces new.spaces steps.filled at.vdev before.0 used.space before.1 used.found in
    none at (record {
      space = before.0;
      found = before.1;
      metaslab = used.metaslab;
      there = ap (λ ms. slice_get ms at.metaslab) (sym marks) ∙ used.there;
      within = used.within;
      used = used.used;
    })

-- ---- the objects that are no maps

module _ (changes : List ObjectChange) (next : ℕ) (is_next : IsNextOf changes next) (lacks : All (λ (change : ObjectChange). change.number ≢ 4) changes) where
  no_map : (number : ℕ) → number < next → ¬ IsMapNumber [] next number
  no_map number below (inl row) = nothing_in row.0 row.1
  no_map number below (inr high) = omega (arith, below, high)

  of_others : MayBeMade nothing changes → AreOfOthers nothing changes [] next
  of_others may = record {
    tables = lacks;
    apart = All-weaker (λ (change : ObjectChange). change.number < next) (λ change. ¬ IsMapNumber [] next change.number) (λ change below. no_map change.number below) changes is_next.below;
    may = may;
    unmade = λ number high. refl;
    behind = is_next.behind;
    within = is_next.within;
  }

  -- nothing is there yet that is to have a map
  high_none : (number : ℕ) → next ≤ number → changed changes nothing number ≡ None
  high_none number high =
      changed_left changes nothing number (All-weaker (λ (change : ObjectChange). change.number < next) (λ change. change.number ≢ number) (λ change below same. omega (arith, below, same, high)) changes is_next.below)

  module _ (whole : List ObjectChange) (others : OthersStay [] next changes whole) (leave : LeaveMaps nothing changes whole) (spaces : List VdevSpace)
      (maps : AreMapsOf (changed whole nothing) spaces planned) where
    map_after : (number : ℕ) → number ≢ 4 → next ≤ number → IsNeither (changed whole nothing number)
    map_after number not_table high = elim (changed_or_not whole nothing number) [
      | inl none ↦ neither_of_none (changed whole nothing number) none.1
      | inr (change, held, at, now) ↦ subst IsNeither (sym now) (elim (leave change held) [
        | inl before ↦ let low = All-contains (λ (c : ObjectChange). c.number < next) changes change is_next.below before in absurd (omega (arith, low, at, high))
        | inr (inl table) ↦ absurd (not_table (sym at ∙ table))
        | inr (inr map) ↦ neither_of_table _ (after_change change.change None) map.0 (omega arith) (omega arith) map.1
      ])
    ]

    -- no map, and not their table, is a record or a dead list
    maps_stay : (number : ℕ) → StaysForChains (changed changes nothing number) (changed whole nothing number)
    maps_stay number = elim (cases_eq number 4) [
      | inl four ↦ inr (subst (λ n. IsNeither (changed changes nothing n) × IsNeither (changed whole nothing n)) (sym four) (
        neither_of_none (changed changes nothing 4) (changed_left changes nothing 4 lacks),
        neither_of_table _ (changed whole nothing 4) _ (omega arith) (omega arith) maps.are.table.1,
      ))
      | inr not_table ↦ elim (cases_lt number next) [
        | inl low ↦ inl (others nothing number not_table (no_map number low))
        | inr high ↦ inr (neither_of_none (changed changes nothing number) (high_none number high), map_after number not_table high)
      ]
    ]

-- ---- the pool

module _ (vdevs : List PlainVdev) (stale : List StaleSpan) (datasets : GroupDatasets) (changes : List ObjectChange) (all : IsWithTables vdevs stale datasets changes) (next : ℕ) (is_next : IsNextOf changes next) where
  pub first_of_others : (stored : Contents) (group : ℕ) (pool : Pool) (readings : ℕ → Reading) (plain : PlainPool) → SpellsGroup stored group nothing datasets pool readings plain
      → AreOfOthers nothing changes [] next
  first_of_others stored group pool readings plain spells =
      of_others changes next is_next (lacks_maps vdevs stale datasets changes all) (first_may vdevs stale datasets changes all stored group pool readings plain spells)

  module _ (whole : List ObjectChange) (others : OthersStay [] next changes whole) where
    low_same : (number : ℕ) → number ≤ 3 → changed whole nothing number ≡ changed changes nothing number
    low_same number low =
        others nothing number (λ is. omega (arith, is, low))
        (no_map changes next is_next (lacks_maps vdevs stale datasets changes all) number (let behind = is_next.behind in omega (arith, behind, low)))

    low_has : (Has : Option Object → Type 0) (number : ℕ) → number ≤ 3 → Has (changed changes nothing number) → Has (changed whole nothing number)
    low_has Has number low has = subst Has (sym (low_same number low)) has

    module _ (leave : LeaveMaps nothing changes whole) (spaces : List VdevSpace) (maps : AreMapsOf (changed whole nothing) spaces planned)
        (stored later : Contents) (group : ℕ) (root : Block) (pool : Pool) (readings : ℕ → Reading) (plain : PlainPool) (spells : SpellsGroup stored group nothing datasets pool readings plain)
        (more : Extends stored later) (set : IsSetOf later group root sets.Meta (changed whole nothing)) (born : root.birth ≡ group) where
      -- the datasets are those of all objects
      chains_whole : HasChains stored group (changed whole nothing) pool readings
      chains_whole =
          chains_over stored group (changed changes nothing) (changed whole nothing) pool readings
          (maps_stay changes next is_next (lacks_maps vdevs stale datasets changes all) whole others leave spaces maps)
          (chains_over stored group (changed all.1 nothing) (changed changes nothing) pool readings (tables_stay vdevs stale datasets changes all)
          (leaves stored group nothing datasets.changes pool readings all.1 spells.chains all.3))

      -- the set of these objects is that of the pool, with the first tables
      abbrev spells_first : SpellsPool later group root plain
      spells_first = record {
        set = set.set;
        is_set = set.is_set;
        kind = set.kind_is;
        objects = changed whole nothing;
        own = set.own;
        blocks = set.blocks;
        are = set.are;
        rows = datasets.directory;
        directory = low_has (λ o. HasDirectory o datasets.directory) 1 (omega arith)
            (table_has vdevs stale datasets changes all (λ o. HasDirectory o datasets.directory) 1 (omega arith) all.2.has_directory);
        stale = stale;
        spans = low_has (λ o. HasStaleSpans o stale) 3 (omega arith) (table_has vdevs stale datasets changes all (λ o. HasStaleSpans o stale) 3 (omega arith) all.2.has_spans);
        datasets = pool;
        readings = readings;
        chains = subst (λ n. HasChains later n (changed whole nothing) pool readings) (sym born)
            (chains_more stored later group (changed whole nothing) pool readings more chains_whole);
        names = spells.names;
      }

      first_tables : HasFirstTables spells_first.objects vdevs stale
      first_tables = record {
        config = low_has (λ o. HasConfig o vdevs) 2 (omega arith) (table_has vdevs stale datasets changes all (λ o. HasConfig o vdevs) 2 (omega arith) all.2.has_config);
        spans = spells_first.spans;
      }

-- ---- the maps

-- they are those of the plan with the meta object set's own blocks too
first_behind : (later : Contents) (group : ℕ) (root : Block) (pool : PlainPool) (is : SpellsPool later group root pool) (whole : List ObjectChange) (spaces now : List VdevSpace)
    → AreCopied is → is.objects ≡ changed whole nothing → AreMapsOf (changed whole nothing) spaces planned × AreThere spaces planned → AreSameBefore spaces now → HasMapsBehind now [] is
first_behind later group root pool is whole spaces now copied objects_are maps same = record {
  copied = copied;
  maps = λ after at released.
      subst (λ objects. AreMapsOf objects after planned × AreThere after planned) (sym objects_are)
      (whole_plan nothing spaces now after [] [] [] at whole
      (λ behind n unchanged. subst (λ these. AreMapsOf (changed whole nothing) these planned × AreThere these planned) (sym unchanged) maps) same
      (All-nil (IsInMeta spaces)) (All-nil (IsBeforeMeta spaces)) (All-nil (IsInMeta spaces)) released);
}

-- the first root, by what was planned for the volumes, the maps and the set
pub first_value : (stored mid later : Contents) (group : ℕ) (vdevs : List PlainVdev) (stale : List StaleSpan) (datasets : GroupDatasets) (changes : List ObjectChange) (all : IsWithTables vdevs stale datasets changes)
    (next : ℕ) → IsNextOf changes next → (whole : List ObjectChange) → OthersStay [] next changes whole → LeaveMaps nothing changes whole
    → (root : Block) (pool : Pool) (readings : ℕ → Reading) (plain : PlainPool) (spaces now : List VdevSpace) (gone : List Block)
    → SpellsGroup mid group nothing datasets pool readings plain → Extends stored mid → Extends mid later → IsReachExchanged group stored mid [] (reach_by pool datasets.directory) []
    → AddsData stored mid → IsRootGiven mid later group root sets.Meta (changed whole nothing) (blocks_of_set empty_meta [] (λ number. [])) gone → AddsMeta mid later → root.birth ≡ group
    → AreMapsOf (changed whole nothing) spaces planned × AreThere spaces planned → AreSameBefore spaces now
    → (is : SpellsPool later group root plain) × HasFirstTables is.objects vdevs stale × (is.stale ≡ stale) × IsReachExchanged group stored later [] (reach_of is) [] × (datasets.directory ≡ is.rows) × HasMapsBehind now [] is
first_value stored mid later group vdevs stale datasets changes all next is_next whole others leave root pool readings plain spaces now gone spells first last volumes added given meta_added born maps same =
    let set = given.0 in
    let is = spells_first vdevs stale datasets changes all next is_next whole others leave spaces maps.0 mid later group root pool readings plain spells last set born in
    let meta = reach_copied (λ (block : Block). length (dvas block.copies) ≡ 3) group mid later (blocks_of_set empty_meta [] (λ number. [])) (root ∷ blocks_of_set set.set set.own set.blocks) gone
    given.1 meta_added (All-nil (λ (block : Block). length (dvas block.copies) ≡ 3)) in
    let rest = reach_copied (λ (block : Block). length (dvas block.copies) ≢ 3) group stored mid [] (reach_by pool datasets.directory) [] volumes added
    (All-nil (λ (block : Block). length (dvas block.copies) ≢ 3)) in (
      is,
      first_tables vdevs stale datasets changes all next is_next whole others leave spaces maps.0 mid later group root pool readings plain spells last set born,
      refl,
      first_given stored mid later group root (reach_by pool datasets.directory) (blocks_of_set set.set set.own set.blocks) gone first last volumes given.1,
      refl,
      first_behind later group root plain is whole spaces now (record { meta = meta; others = rest }) refl maps same,
    )
