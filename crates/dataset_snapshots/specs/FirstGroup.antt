-- What the first root of a pool asks places for, and why it is not planned.
use Rattle.std.specs.Prelude.{ℕ, ◌≡◌, ◌⊎◌, ◌+◌, ◌*◌, List, [], ◌∷◌, ◌++◌, length, None}
use Rattle.block_pointer.specs.declared.pointer.BlockPtr.TheVariants.{Hole}
use Rattle.block_store.specs.declared.refusal.Refusal.{Refusal}
use Rattle.block_store.specs.declared.refusal.Refusal.TheVariants.{NoMemory, BadPointer}
use Rattle.block_store.specs.Demands.{Demand, HavePlaces}
use Rattle.block_store.specs.Spaces.{VdevSpace}
use Rattle.block_store.specs.Steps.{OnlyReadsAndPlans, OnlyReadsBlocks}
use Rattle.block_store.specs.Store.{Store}
use Rattle.dataset_groups.specs.Results.{AreChangesOf}
use Rattle.dataset_groups.specs.States.{AreUntouched, set_of}
use Rattle.dataset_groups.specs.DatasetChanges.{DatasetChanges}
use Rattle.dataset_groups.specs.declared.datasets.GroupDatasets.{GroupDatasets}
use Rattle.dataset_groups.specs.Demands.{AreAsked, AreMade, HasActionDemands, HasMoreRows, HavePlacesFor, IsActionRefused}
use Rattle.dataset_groups.specs.NewVolumes.{numbers_end}
use Rattle.dataset_groups.specs.Touched.{TouchesMade}
use Rattle.dnode.specs.declared.object_set.ObjectSet.{ObjectSet}
use Rattle.dnode.specs.declared.object_set.ObjectSetKind.TheVariants as sets
use Rattle.meta_objset.specs.declared.directory.DirectoryRow.{DirectoryRow}
use Rattle.meta_objset.specs.declared.stale_spans.StaleSpan.{StaleSpan}
use Rattle.meta_objset.specs.Reading.{HasConfig, HasDirectory, HasStaleSpans}
use Rattle.objset.specs.declared.changes.Change.{Change}
use Rattle.objset.specs.declared.changes.ObjectChange.{ObjectChange}
use Rattle.objset.specs.Changes.{after_change}
use Rattle.pool_maps.specs.Plans.{AreSparing, OthersStay}
use Rattle.pool_maps.specs.Refused.{AreFirstRefused}
use Rattle.pool_model.specs.declared.item.Action.{Action}
use Rattle.pool_model.specs.Pools.{Entry}
use Rattle.vdev_label.specs.Plain.{PlainVdev}
use Rattle.dataset_snapshots.specs.Demands.{AreMisnumbered, HasRootDemands, IsRootRefused}

-- a meta object set with no objects
abbrev pub empty_meta : ObjectSet
empty_meta = record {
  dnodes = record { object_type = 10; data_sectors = 32; highest = 0; pointer = Hole };
  kind = sets.Meta;
  objects = 1;
}

-- the changes of the objects 1 to 3 that make a directory of these rows, the configuration, and a table of these stale spans
pub record AreTableChanges (vdevs : List PlainVdev) (stale : List StaleSpan) (rows : List DirectoryRow)
    (changes : List ObjectChange) : Type 0 where
  pub directory : Change
  pub config : Change
  pub spans : Change
  pub are : changes
      ≡ record { number = 1; change = directory } ∷ record { number = 2; change = config }
      ∷ record { number = 3; change = spans } ∷ []
  pub has_directory : HasDirectory (after_change directory None) rows
  pub has_config : HasConfig (after_change config None) vdevs
  pub has_spans : HasStaleSpans (after_change spans None) stale

-- Records and dead lists are made by these actions, with the numbers behind the tables, where there were none.
pub record AreFirstDatasets (made : List Action) (datasets : DatasetChanges) : Type 0 where
  pub of_set : set_of datasets ≡ empty_meta
  pub before : DatasetChanges
  pub none : AreUntouched before
  pub rows : List DirectoryRow
  pub kept : HasMoreRows [] 5 rows
  pub touched : TouchesMade before datasets rows 5 made

-- the changes that make the objects of a pool of these volumes: the tables, of which the directory names each, and behind them those that the
-- records and dead lists come to
pub record AreFirstGroupChanges (vdevs : List PlainVdev) (stale : List StaleSpan) (made : List Action)
    (changes : List ObjectChange) : Type 0 where
  pub rows : List DirectoryRow
  pub count : length rows ≡ length made
  pub tables : List ObjectChange
  pub tables_are : AreTableChanges vdevs stale rows tables
  pub datasets : DatasetChanges
  pub datasets_are : AreFirstDatasets made datasets
  pub of_datasets : List ObjectChange
  pub of_datasets_are : AreChangesOf datasets of_datasets
  pub are : changes ≡ tables ++ of_datasets

-- the volumes of the actions were made where there were none: each has a row, and its two objects, with the numbers behind the tables
pub record AreFirstVolumes (old new : Store) (group : ℕ) (actions : List Action) (datasets : GroupDatasets) : Type 0 where
  pub made : List Action
  pub are : AreMade [] [] actions made
  pub count : length datasets.directory ≡ length made
  pub next : datasets.next ≡ 5 + 2 * length made
  pub datasets_are : AreFirstDatasets made datasets.changes
  pub places : HavePlacesFor old new (HasActionDemands old.spaces group) made

-- in front of the objects of the volumes the tables are made, of which the directory has the rows so far
abbrev pub IsWithTables : List PlainVdev → List StaleSpan → GroupDatasets → List ObjectChange → Type 0
IsWithTables vdevs stale datasets changes =
    (tables : List ObjectChange) × (of_datasets : List ObjectChange) × AreTableChanges vdevs stale datasets.directory tables
    × AreChangesOf datasets.changes of_datasets × (changes ≡ tables ++ of_datasets)

-- the changes that make the space maps came among these, of no metaslab but those of which other sectors are unused with the plan
-- than without it
pub record AreWithFirstMaps (spaces : List VdevSpace) (next : ℕ) (changes all : List ObjectChange) : Type 0 where
  pub others : OthersStay [] next changes all
  pub sparing : AreSparing spaces [] [] next changes all

-- places were taken for the volumes that are made and then for the meta object set, and for nothing else
pub record HasFirstPlaces (old new : Store) (group : ℕ) (vdevs : List PlainVdev) (stale : List StaleSpan)
    (items : Entry) : Type 0 where
  pub made : List Action
  pub made_are : AreMade [] [] items.actions made
  pub of_made : List Demand
  pub made_ask : AreAsked (HasActionDemands old.spaces group) made of_made
  pub changes : List ObjectChange
  pub changes_are : AreFirstGroupChanges vdevs stale made changes
  pub mid : List VdevSpace
  pub volumes : HavePlaces old.spaces of_made mid
  pub all : List ObjectChange
  pub with_maps : AreWithFirstMaps mid (5 + 2 * length made) changes all
  pub of_root : List Demand
  pub root_asks : HasRootDemands old.spaces empty_meta group all of_root
  pub places : HavePlaces old.spaces (of_made ++ of_root) new.spaces

-- the volumes were placed, and these are the changes of the meta object set but for the space maps'
pub record AreFirstPlaced (old mid : Store) (group : ℕ) (vdevs : List PlainVdev) (stale : List StaleSpan)
    (actions : List Action) (changes : List ObjectChange) (next : ℕ) : Type 0 where
  pub made : List Action
  pub made_are : AreMade [] [] actions made
  pub before : OnlyReadsAndPlans old mid []
  pub places : HavePlacesFor old mid (HasActionDemands old.spaces group) made
  pub changes_are : AreFirstGroupChanges vdevs stale made changes
  pub next_is : next ≡ 5 + 2 * length made

-- the volumes were placed, and what becomes of their records and dead lists can't be
pub record AreFirstDatasetsRefused (old new : Store) (group : ℕ) (actions : List Action) (refusal : Refusal) : Type 0 where
  pub bad : refusal ≡ BadPointer
  pub planned : OnlyReadsAndPlans old new []
  pub made : List Action
  pub made_are : AreMade [] [] actions made
  pub datasets : DatasetChanges
  pub datasets_are : AreFirstDatasets made datasets
  pub mis : AreMisnumbered datasets (5 + 2 * length made)

-- where nothing was made so far, an action was refused
abbrev pub AreFirstActionsRefused : Store → Store → ℕ → List Action → Refusal → Type 0
AreFirstActionsRefused old new group actions refusal =
    (before : DatasetChanges) × AreUntouched before × IsActionRefused old new before group [] 5 numbers_end actions refusal

-- and then the space maps were refused
pub record AreFirstMapsRefused (old new : Store) (group : ℕ) (vdevs : List PlainVdev) (stale : List StaleSpan)
    (actions : List Action) (refusal : Refusal) : Type 0 where
  pub mid : Store
  pub changes : List ObjectChange
  pub next : ℕ
  pub volumes : AreFirstPlaced old mid group vdevs stale actions changes next
  pub why : AreFirstRefused mid new changes next refusal

-- or they were planned, and then the meta object set was refused
pub record IsFirstSetRefused (old new : Store) (group : ℕ) (vdevs : List PlainVdev) (stale : List StaleSpan)
    (actions : List Action) (refusal : Refusal) : Type 0 where
  pub mid : Store
  pub changes : List ObjectChange
  pub next : ℕ
  pub volumes : AreFirstPlaced old mid group vdevs stale actions changes next
  pub planned : Store
  pub reads : OnlyReadsBlocks mid planned []
  pub all : List ObjectChange
  pub with_maps : AreWithFirstMaps mid.spaces next changes all
  pub why : IsRootRefused planned new empty_meta group group all refusal

-- why the first root was not planned: there was no memory, or one of its volumes was refused, or its space maps, or its object set
abbrev pub IsFirstRefused : Store → Store → ℕ → List PlainVdev → List StaleSpan → Entry → Refusal → Type 0
IsFirstRefused old new group vdevs stale items refusal =
    (refusal ≡ NoMemory)
    ⊎ (AreFirstActionsRefused old new group items.actions refusal
    ⊎ (AreFirstDatasetsRefused old new group items.actions refusal
    ⊎ (AreFirstMapsRefused old new group vdevs stale items.actions refusal
    ⊎ IsFirstSetRefused old new group vdevs stale items.actions refusal)))
