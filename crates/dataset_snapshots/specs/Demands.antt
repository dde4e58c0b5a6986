-- What a group's root asks places for, and why it is not planned.
use Rattle.meta_objset.specs.Found.{AreMapsFound}
use Rattle.meta_objset.specs.declared.space_maps.MetaslabMap.{MetaslabMap}
use Rattle.pool_maps.specs.Plans.{AreSparing, OthersStay}
use Rattle.pool_maps.specs.Refused.{IsPlanRefused as AreMapsUnplanned}
use Rattle.std.specs.Prelude.{ℕ, ◌≡◌, ◌⊎◌, ◌+◌, ◌*◌, ◌≤◌, ◌-◌, Bool, true, false, List, [], ◌∷◌, ◌++◌, length, max, Any, Option, Some, None}
use Rattle.block_pointer.specs.declared.block.Block.{Block}
use Rattle.block_store.specs.declared.refusal.Refusal.{Refusal}
use Rattle.block_store.specs.declared.refusal.Refusal.TheVariants.{NoMemory, NoSpace, BadPointer}
use Rattle.block_store.specs.Spaces.{VdevSpace}
use Rattle.block_store.specs.Demands.{Demand, HavePlaces, LackPlaces}
use Rattle.block_store.specs.Steps.{OnlyReadsAndPlans, OnlyReadsBlocks}
use Rattle.block_store.specs.Store.{Store}
use Rattle.dataset_groups.specs.Results.{AreChangesOf, AreMixed}
use Rattle.dataset_groups.specs.States.{AreOfOneSet}
use Rattle.dataset_groups.specs.DatasetChanges.{DatasetChanges}
use Rattle.dataset_groups.specs.declared.datasets.GroupDatasets.{GroupDatasets}
use Rattle.dataset_groups.specs.Demands.{AreAsked, AreHeadsRefused, AreMade, HasActionDemands, HasHeadDemands, HasMoreRows, HavePlacesFor, IsActionRefused}
use Rattle.dataset_groups.specs.Groups.{first_number}
use Rattle.dataset_groups.specs.Touched.{TouchesHeads, TouchesMade}
use Rattle.dnode.specs.declared.object_set.ObjectSet.{ObjectSet}
use Rattle.meta_objset.specs.declared.directory.DirectoryRow.{DirectoryRow}
use Rattle.meta_objset.specs.declared.stale_spans.StaleSpan.{StaleSpan}
use Rattle.meta_objset.specs.Reading.{HasDirectory, HasStaleSpans, directory_kind}
use Rattle.meta_objset.specs.StaleSpans.{spans_kind}
use Rattle.object_table.specs.Tables.{IsOfKind}
use Rattle.objset.specs.declared.changes.Change.{Change as ObjectsChange}
use Rattle.objset.specs.declared.changes.ObjectChange.{ObjectChange}
use Rattle.objset.specs.Changes.{MayChange, after_change}
use Rattle.objset.specs.Demands.{HasDemands, LacksRoom}
use Rattle.objset.specs.Objects.{Object}
use Rattle.objset.specs.Refused.{IsChangeRefused}
use Rattle.pool_model.specs.Pools.{Entry}
use Rattle.pool_model.specs.declared.item.Action.{Action}
use Rattle.dataset_snapshots.specs.declared.groups.Opened.{Opened}
use Rattle.dataset_snapshots.specs.Groups.{HasRoomFor, objects_of}
use Rattle.dataset_snapshots.specs.Opening.{IsGroupFound, IsGroupUnread}
use Rattle.dnode.specs.declared.object_set.ObjectSetKind.TheVariants as kinds
use Rattle.objset.specs.Changes.{copies_of}

-- ---- the tables

-- the change writes a directory of these rows anew
abbrev pub WritesRows : List DirectoryRow → ObjectsChange → Type 0
WritesRows rows change = (object : Object) → IsOfKind directory_kind object
    → MayChange change (Some object) × HasDirectory (after_change change (Some object)) rows

-- or one of so many names
abbrev pub WritesDirectory : ℕ → ObjectsChange → Type 0
WritesDirectory names change =
    (rows : List DirectoryRow) × (length rows ≡ names) × WritesRows rows change

-- names go, or these actions make some
abbrev pub are_renamed : Bool → List Action → Bool
are_renamed gone [] = gone
are_renamed gone (action ∷ made) = true

-- where names come or go the directory is written anew, with so many names
abbrev pub AreDirectoryChanges : Bool → ℕ → List ObjectChange → Type 0
AreDirectoryChanges false names changes = changes ≡ []
AreDirectoryChanges true names changes =
    (directory : ObjectsChange) × WritesDirectory names directory
    × (changes ≡ record { number = 1; change = directory } ∷ [])

-- the change writes a table of these stale spans anew
abbrev pub WritesSpans : List StaleSpan → ObjectsChange → Type 0
WritesSpans spans change = (object : Object) → IsOfKind spans_kind object
    → MayChange change (Some object) × HasStaleSpans (after_change change (Some object)) spans

-- where other stale spans come their table is written anew
abbrev pub AreSpanChanges : Option (List StaleSpan) → List ObjectChange → Type 0
AreSpanChanges None changes = changes ≡ []
AreSpanChanges (Some spans) changes =
    (table : ObjectsChange) × WritesSpans spans table
    × (changes ≡ record { number = 3; change = table } ∷ [])

-- ---- the meta object set

-- the block of the set: 2 sectors, three copies
abbrev pub demand_of_root : Demand
demand_of_root = record { sectors = 2; copies = 3 }

-- what changes of the set's objects ask, and then its block
pub record HasRootDemands (spaces : List VdevSpace) (set : ObjectSet) (group : ℕ)
    (changes : List ObjectChange) (demands : List Demand) : Type 0 where
  pub of_objects : List Demand
  pub are : HasDemands spaces set group (copies_of kinds.Meta) changes of_objects
  pub is : demands ≡ of_objects ++ demand_of_root ∷ []

-- for what they ask places were taken, and for nothing else
abbrev pub HasRootPlaces : Store → Store → ObjectSet → ℕ → List ObjectChange → Type 0
HasRootPlaces old new set group changes =
    (demands : List Demand) × HasRootDemands old.spaces set group changes demands
    × HavePlaces old.spaces demands new.spaces

-- no place for a block of the objects, or for the block of the set behind all of them
abbrev pub LacksRootPlaces : Store → Store → ObjectSet → ℕ → List ObjectChange → Type 0
LacksRootPlaces old new set group changes =
    LacksRoom old new set group (copies_of kinds.Meta) changes
    ⊎ ((demands : List Demand) × HasRootDemands old.spaces set group changes demands
    × LackPlaces old.spaces demands new.spaces)

-- why a meta object set with these changes was not planned; its blocks so far were to be born before
abbrev pub IsRootRefused :
    Store → Store → ObjectSet → ℕ → ℕ → List ObjectChange → Refusal → Type 0
IsRootRefused old new set before group changes refusal =
    (refusal ≡ NoMemory)
    ⊎ (((refusal ≡ NoSpace) × LacksRootPlaces old new set group changes)
    ⊎ IsChangeRefused old new [] set before group changes refusal)

-- ---- the group

-- the first number behind all objects, once these were made
abbrev pub next_after : Opened → List Action → ℕ
next_after opened made =
    max (opened.datasets.next + 2 * length made) (first_number opened.set)

-- Of the records and dead lists as the group was opened those are changed that the heads have which are written to, and then those that these
-- actions make and change, under rows that have come to those that there were.
pub record AreGroupDatasets (opened : Opened) (made : List Action) (datasets : DatasetChanges) : Type 0 where
  pub one_set : AreOfOneSet opened.datasets.changes datasets
  pub written : DatasetChanges
  pub heads : TouchesHeads opened.datasets.changes written (objects_of opened)
  pub rows : List DirectoryRow
  pub kept : HasMoreRows opened.datasets.directory opened.datasets.next rows
  pub touched : TouchesMade written datasets rows opened.datasets.next made

-- The changes that a group makes of the set: that of the directory, where names come or go; that of the stale spans, where others come; and
-- those that its records and dead lists come to.
pub record AreGroupChanges (opened : Opened) (made : List Action) (spans : Option (List StaleSpan))
    (changes : List ObjectChange) : Type 0 where
  pub of_directory : List ObjectChange
  pub directory_are : AreDirectoryChanges (are_renamed opened.renamed made)
      (length opened.datasets.directory + length made) of_directory
  pub of_spans : List ObjectChange
  pub spans_are : AreSpanChanges spans of_spans
  pub datasets : DatasetChanges
  pub datasets_are : AreGroupDatasets opened made datasets
  pub of_datasets : List ObjectChange
  pub of_datasets_are : AreChangesOf datasets of_datasets
  pub are : changes ≡ of_directory ++ of_spans ++ of_datasets

-- these are the changes that the records and dead lists come to, with that of the stale spans in front where others come, and that of the
-- directory where names came or went
abbrev pub HasDatasetChanges :
    GroupDatasets → Bool → Option (List StaleSpan) → List ObjectChange → Type 0
HasDatasetChanges datasets renamed spans changes =
    (of_spans : List ObjectChange) × AreSpanChanges spans of_spans
    × (of_datasets : List ObjectChange) × AreChangesOf datasets.changes of_datasets
    × (renamed ≡ false → changes ≡ of_spans ++ of_datasets)
    × (renamed ≡ true → (directory : ObjectsChange) × WritesRows datasets.directory directory
    × (changes ≡ record { number = 1; change = directory } ∷ of_spans ++ of_datasets))

-- one number has both a record and a dead list, or one that is changed is behind all objects that there are
abbrev pub AreMisnumbered : DatasetChanges → ℕ → Type 0
AreMisnumbered datasets next =
    AreMixed datasets ⊎ ((changes : List ObjectChange) × AreChangesOf datasets changes
    × Any (λ change. next ≤ change.number) changes)

-- the volumes of a group were placed, those that are written to and then those that are made, and
-- the meta object set is to have these changes; the next object has that number
pub record HasVolumePlaces (old new : Store) (group : ℕ) (spans : Option (List StaleSpan))
    (opened : Opened) (actions : List Action) (changes : List ObjectChange) (next : ℕ)
    : Type 0 where
  pub made : List Action
  pub made_are : AreMade opened.datasets.directory [] actions made
  pub next_is : next ≡ next_after opened made
  pub changes_are : AreGroupChanges opened made spans changes
  pub of_written : List Demand
  pub written_ask : AreAsked (HasHeadDemands old.spaces group) opened.written.items of_written
  pub of_made : List Demand
  pub made_ask : AreAsked (HasActionDemands old.spaces group) made of_made
  pub places : HavePlaces old.spaces (of_written ++ of_made) new.spaces

-- all volumes that are written to were placed, and then one of those that are made was refused
pub record AreActionsRefused (old new : Store) (group : ℕ) (opened : Opened) (actions : List Action)
    (refusal : Refusal) : Type 0 where
  pub mid : Store
  pub before : OnlyReadsAndPlans old mid []
  pub places : HavePlacesFor old mid (HasHeadDemands old.spaces group) opened.written.items
  pub written : DatasetChanges
  pub heads : TouchesHeads opened.datasets.changes written (objects_of opened)
  pub why : IsActionRefused mid new written group opened.datasets.directory opened.datasets.next
      opened.datasets.bounds.end actions refusal

-- all volumes were placed, and what becomes of their records and dead lists can't be
pub record AreDatasetsRefused (old new : Store) (group : ℕ) (opened : Opened) (actions : List Action)
    (refusal : Refusal) : Type 0 where
  pub bad : refusal ≡ BadPointer
  pub planned : OnlyReadsAndPlans old new []
  pub made : List Action
  pub made_are : AreMade opened.datasets.directory [] actions made
  pub datasets : DatasetChanges
  pub datasets_are : AreGroupDatasets opened made datasets
  pub mis : AreMisnumbered datasets (next_after opened made)

-- why the volumes of a group were not placed
abbrev pub AreVolumesRefused :
    Store → Store → ℕ → Opened → List Action → Refusal → Type 0
AreVolumesRefused old new group opened actions refusal =
    (refusal ≡ NoMemory)
    ⊎ (AreHeadsRefused old new opened.datasets.changes group opened.written.items refusal
    ⊎ (AreActionsRefused old new group opened actions refusal
    ⊎ AreDatasetsRefused old new group opened actions refusal))

-- ---- its space maps

-- The changes of space maps came among these: the maps that there are were found under the set, whose
-- blocks were born by then, and there is a change of none but those of metaslabs of which other
-- sectors are unused with the plan, once these blocks are given back.
pub record AreWithMaps (spaces : List VdevSpace) (set : ObjectSet) (birth : ℕ) (gone : List Block)
    (next : ℕ) (changes all : List ObjectChange) : Type 0 where
  pub maps : List MetaslabMap
  pub found : AreMapsFound spaces set birth maps
  pub others : OthersStay maps next changes all
  pub sparing : AreSparing spaces gone maps next changes all

-- the volumes of a group were placed, of which these blocks are given back, and then its space maps
-- were planned
pub record HasMappedPlaces (old new : Store) (born group : ℕ) (spans : Option (List StaleSpan))
    (opened : Opened) (actions : List Action) (gone : List Block) (all : List ObjectChange)
    : Type 0 where
  pub mid : Store
  pub steps : OnlyReadsAndPlans old mid []
  pub changes : List ObjectChange
  pub next : ℕ
  pub volumes : HasVolumePlaces old mid group spans opened actions changes next
  pub reads : OnlyReadsBlocks mid new []
  pub with_maps : AreWithMaps mid.spaces opened.set born gone next changes all

-- all volumes were placed, and then the space maps were refused
pub record AreGroupMapsRefused (old new : Store) (born group : ℕ)
    (spans : Option (List StaleSpan)) (opened : Opened) (actions : List Action) (refusal : Refusal)
    : Type 0 where
  pub mid : Store
  pub before : OnlyReadsAndPlans old mid []
  pub changes : List ObjectChange
  pub next : ℕ
  pub volumes : HasVolumePlaces old mid group spans opened actions changes next
  pub gone : List Block
  pub why : AreMapsUnplanned mid new opened.set born gone changes next refusal

-- why a group's volumes and space maps were not planned
abbrev pub AreMappedRefused : Store → Store → ℕ → ℕ → Option (List StaleSpan) → Opened
    → List Action → Refusal → Type 0
AreMappedRefused old new born group spans opened actions refusal =
    AreVolumesRefused old new group opened actions refusal
    ⊎ AreGroupMapsRefused old new born group spans opened actions refusal

-- what a group asks, whose root before was born then, and whose volumes give these blocks back: its
-- volumes, and then its changes of the meta object set, with those of the space maps as its volumes
-- leave the vdevs
pub record HasGroupDemands (spaces : List VdevSpace) (born group : ℕ)
    (spans : Option (List StaleSpan)) (opened : Opened) (actions : List Action) (gone : List Block)
    (demands : List Demand) : Type 0 where
  pub made : List Action
  pub made_are : AreMade opened.datasets.directory [] actions made
  pub of_written : List Demand
  pub written_ask : AreAsked (HasHeadDemands spaces group) opened.written.items of_written
  pub of_made : List Demand
  pub made_ask : AreAsked (HasActionDemands spaces group) made of_made
  pub changes : List ObjectChange
  pub changes_are : AreGroupChanges opened made spans changes
  pub mid : List VdevSpace
  pub places : HavePlaces spaces (of_written ++ of_made) mid
  pub all : List ObjectChange
  pub with_maps : AreWithMaps mid opened.set born gone (next_after opened made) changes all
  pub of_root : List Demand
  pub root_asks : HasRootDemands spaces opened.set group all of_root
  pub is : demands ≡ of_written ++ of_made ++ of_root

-- The root was read, and then places were taken for what the group asks, and for nothing else. Given
-- back are the root, then what its volumes give back, and then what the meta object set does.
pub record HasGroupPlaces (old new : Store) (root : Block) (rows : List DirectoryRow) (group : ℕ)
    (spans : Option (List StaleSpan)) (destroyed : List (List ℕ)) (items : Entry)
    (replaced : List Block) : Type 0 where
  pub opened : Opened
  pub found : IsGroupFound old.spaces (group - 1) root rows destroyed items.writes opened
  pub room : HasRoomFor opened.datasets (length items.actions)
  pub gone : List Block
  pub of_meta : List Block
  pub given_back : replaced ≡ root ∷ gone ++ of_meta
  pub demands : List Demand
  pub ask : HasGroupDemands old.spaces root.birth group spans opened items.actions gone demands
  pub places : HavePlaces old.spaces demands new.spaces

-- all volumes were placed and the space maps planned, and then the changes of the meta object set,
-- born by then, were refused
pub record AreChangesRefused (old new : Store) (born group : ℕ) (spans : Option (List StaleSpan))
    (opened : Opened) (actions : List Action) (refusal : Refusal) : Type 0 where
  pub mid : Store
  pub before : OnlyReadsAndPlans old mid []
  pub gone : List Block
  pub all : List ObjectChange
  pub volumes : HasMappedPlaces old mid born group spans opened actions gone all
  pub why : IsRootRefused mid new opened.set born group all refusal

-- the root was read, and then the group's volumes or space maps were refused, or its changes
pub record IsGroupUnplanned (old new : Store) (root : Block) (rows : List DirectoryRow) (group : ℕ)
    (spans : Option (List StaleSpan)) (destroyed : List (List ℕ)) (items : Entry)
    (refusal : Refusal) : Type 0 where
  pub opened : Opened
  pub found : IsGroupFound old.spaces (group - 1) root rows destroyed items.writes opened
  pub room : HasRoomFor opened.datasets (length items.actions)
  pub mid : Store
  pub before : OnlyReadsBlocks old mid []
  pub why : AreMappedRefused mid new root.birth group spans opened items.actions refusal
      ⊎ AreChangesRefused mid new root.birth group spans opened items.actions refusal

-- why the root after a group, with other stale spans or with those before, was not planned, by the
-- rows of the directory before: there was no memory, the group was not opened, or a part of it was
-- refused
abbrev pub IsGroupRefused : Store → Store → Block → List DirectoryRow → ℕ
    → Option (List StaleSpan) → List (List ℕ) → Entry → Refusal → Type 0
IsGroupRefused old new root rows group spans destroyed items refusal =
    (refusal ≡ NoMemory)
    ⊎ (IsGroupUnread old new root rows group destroyed items.writes refusal
    ⊎ IsGroupUnplanned old new root rows group spans destroyed items refusal)
