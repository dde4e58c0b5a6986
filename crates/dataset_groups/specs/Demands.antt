-- What the datasets of a group ask places for, and why they are not planned.
use Rattle.std.specs.Prelude.{ℕ, ◌≡◌, ◌≢◌, ◌⊎◌, ◌↔◌, ◌+◌, ◌*◌, ◌<◌, ◌≤◌, false, List, [], ◌∷◌, ◌++◌, length, Any, Contains}
use Rattle.block_pointer.specs.declared.block.Block.{Block}
use Rattle.block_store.specs.declared.refusal.Refusal.{Refusal}
use Rattle.block_store.specs.declared.refusal.Refusal.TheVariants.{NoMemory, NoSpace, BadConfig}
use Rattle.block_store.specs.Demands.{Demand, HavePlaces}
use Rattle.block_store.specs.Spaces.{VdevSpace}
use Rattle.block_store.specs.Steps.{OnlyReadsAndPlans}
use Rattle.block_store.specs.Store.{Store}
use Rattle.dataset_destroys.specs.ChainRefused.{HasMostClones, IsBlockMisfit, IsChainRefused}
use Rattle.dataset_destroys.specs.States.{AreOfOneSet}
use Rattle.dataset_destroys.specs.DatasetChanges.{DatasetChanges}
use Rattle.dnode.specs.declared.object_set.ObjectSet.{ObjectSet}
use Rattle.meta_objset.specs.declared.directory.DirectoryRow.{DirectoryRow}
use Rattle.meta_objset.specs.declared.record.DatasetKind.TheVariants as kinds
use Rattle.meta_objset.specs.Names.{IsNamed}
use Rattle.objset.specs.declared.changes.Change.{Change as ObjectsChange}
use Rattle.objset.specs.declared.changes.Change.TheVariants.{Put}
use Rattle.pool_model.specs.declared.item.Action.{Action}
use Rattle.pool_model.specs.declared.item.Change.{Change}
use Rattle.pool_model.specs.declared.item.Change.TheVariants.{Clone, Create, Destroy, Snapshot}
use Rattle.pool_model.specs.Names.{name_of}
use Rattle.volume.specs.Demands.{empty_set, HasPlacesFor, HasSetDemands, IsCreation, IsPlacingRefused, IsPlanRefused}
use Rattle.volume.specs.Reading.{IsVolumeFound}
use Rattle.dataset_groups.specs.declared.datasets.GroupDatasets.{GroupDatasets}
use Rattle.dataset_groups.specs.declared.writing.WrittenHead.{WrittenHead}
use Rattle.dataset_groups.specs.Touched.{TouchesMade}
use Rattle.volume_rules.specs.GoodChanges.{is_good_making}

-- each of these things asks some, and these are all of them, one after the other
abbrev pub AreAsked : {X : Type 0} → (X → List Demand → Type 0) → List X → List Demand → Type 0
AreAsked Asks [] demands = demands ≡ []
AreAsked Asks (x ∷ xs) demands =
    (first : List Demand) × (rest : List Demand) × Asks x first × AreAsked Asks xs rest
    × (demands ≡ first ++ rest)

-- places were taken for what these things ask, and for nothing else
abbrev pub HavePlacesFor :
    {X : Type 0} → Store → Store → (X → List Demand → Type 0) → List X → Type 0
HavePlacesFor old new Asks xs =
    (demands : List Demand) × AreAsked Asks xs demands
    × HavePlaces old.spaces demands new.spaces

-- ---- heads that are written to

-- the volume's set was found, and its change by the blocks asks these
pub record HasPutDemands (spaces : List VdevSpace) (group : ℕ) (head : WrittenHead)
    (demands : List Demand) : Type 0 where
  pub set : ObjectSet
  pub is_set : IsVolumeFound spaces head.volume group set
  pub are : HasSetDemands spaces set group (Put head.blocks) demands

-- a head none of whose blocks change asks nothing
abbrev pub HasHeadDemands : List VdevSpace → ℕ → WrittenHead → List Demand → Type 0
HasHeadDemands spaces group head demands =
    ((head.blocks.items ≡ []) × (demands ≡ []))
    ⊎ ((head.blocks.items ≢ []) × HasPutDemands spaces group head demands)

-- the head's blocks were placed, and then its record or its dead list was not changed
pub record IsHeadUnchanged (old new : Store) (changes : DatasetChanges) (head : WrittenHead) (refusal : Refusal) : Type 0 where
  pub placed : Store
  pub before : OnlyReadsAndPlans old placed []
  pub far : DatasetChanges
  pub one_set : AreOfOneSet changes far
  pub last : DatasetChanges
  pub why : ((left : List Block) × IsBlockMisfit left refusal)
      ⊎ IsChainRefused placed new far last head.number kinds.Volume refusal

-- the first of the heads were placed, and then the next was refused: its blocks, or its record or dead list
pub record IsHeadUnplaced (old new : Store) (changes : DatasetChanges) (group : ℕ) (heads : List WrittenHead)
    (refusal : Refusal) : Type 0 where
  pub first : List WrittenHead
  pub next : WrittenHead
  pub left : List WrittenHead
  pub are : heads ≡ first ++ next ∷ left
  pub mid : Store
  pub before : OnlyReadsAndPlans old mid []
  pub places : HavePlacesFor old mid (HasHeadDemands old.spaces group) first
  pub why : IsPlacingRefused mid new next.volume group next.blocks refusal
      ⊎ IsHeadUnchanged mid new changes next refusal

-- why heads are not written
abbrev pub AreHeadsRefused : Store → Store → DatasetChanges → ℕ → List WrittenHead → Refusal → Type 0
AreHeadsRefused old new changes group heads refusal =
    (refusal ≡ NoMemory) ⊎ IsHeadUnplaced old new changes group heads refusal

-- ---- actions

-- a row has the name
abbrev pub IsNameThere : List DirectoryRow → List ℕ → Type 0
IsNameThere rows name = (row : DirectoryRow) × Contains rows row × IsNamed row.name name

-- one of the actions makes that name
abbrev pub IsNameMade : List Action → List ℕ → Type 0
IsNameMade actions name = Any (λ action. name_of action.change ≡ name) actions

-- the name is there: a row has it, or one of these actions made it
abbrev pub IsThereAlready : List DirectoryRow → List Action → List ℕ → Type 0
IsThereAlready rows made name = IsNameThere rows name ⊎ IsNameMade made name

-- what the change needs to make something is there: the volume that a snapshot is of, or the snapshot that a clone is of; a destroy makes
-- nothing
abbrev pub HasVolume : List DirectoryRow → List Action → Change → Type 0
HasVolume rows made (Create name size block_size) = Unit {0}
HasVolume rows made (Snapshot volume part) = IsThereAlready rows made volume
HasVolume rows made (Clone snapshot name) = IsThereAlready rows made snapshot
HasVolume rows made (Destroy name) = ⊥

-- behind actions that made a volume, a snapshot or a clone each, the change makes one: its name isn't there, and what it needs is
abbrev pub IsMaking : List DirectoryRow → List Action → Change → Type 0
IsMaking rows made change = (¬ IsThereAlready rows made (name_of change)) × HasVolume rows made change

-- those of the actions that make a volume, a snapshot or a clone, behind those that did before
abbrev pub AreMade : List DirectoryRow → List Action → List Action → List Action → Type 0
AreMade rows before [] made = made ≡ []
AreMade rows before (action ∷ actions) made =
    ((¬ IsMaking rows before action.change) × AreMade rows before actions made)
    ⊎ (IsMaking rows before action.change × (more : List Action)
    × (made ≡ action ∷ more) × AreMade rows (before ++ action ∷ []) actions more)

-- the set of a volume that is made asks these: from no objects to the one of the data
abbrev pub HasNewDemands : List VdevSpace → ℕ → ℕ → List Demand → Type 0
HasNewDemands spaces group block_size demands =
    (creation : ObjectsChange) × IsCreation block_size creation
    × HasSetDemands spaces empty_set group creation demands

-- a change asks these; only a new volume asks for something
abbrev pub HasChangeDemands : List VdevSpace → ℕ → Change → List Demand → Type 0
HasChangeDemands spaces group (Create name size block_size) demands =
    HasNewDemands spaces group block_size demands
HasChangeDemands spaces group (Snapshot volume part) demands = demands ≡ []
HasChangeDemands spaces group (Clone snapshot name) demands = demands ≡ []
HasChangeDemands spaces group (Destroy name) demands = demands ≡ []

-- an action asks for these blocks, as its change does
abbrev pub HasActionDemands : List VdevSpace → ℕ → Action → List Demand → Type 0
HasActionDemands spaces group action demands = HasChangeDemands spaces group action.change demands

-- for a new volume of these blocks places were taken, and for nothing else
abbrev pub HasNewPlaces : Store → Store → ℕ → ℕ → Type 0
HasNewPlaces old new group block_size =
    (creation : ObjectsChange) × IsCreation block_size creation
    × HasPlacesFor old new empty_set group creation

-- for the change places were taken, and for nothing else
abbrev pub HasChangePlaces : Store → Store → ℕ → Change → Type 0
HasChangePlaces old new group (Create name size block_size) = HasNewPlaces old new group block_size
HasChangePlaces old new group (Snapshot volume part) = new.spaces ≡ old.spaces
HasChangePlaces old new group (Clone snapshot name) = new.spaces ≡ old.spaces
HasChangePlaces old new group (Destroy name) = new.spaces ≡ old.spaces

-- or it was not planned
abbrev pub IsNewRefused : Store → Store → ℕ → ℕ → Refusal → Type 0
IsNewRefused old new group block_size refusal =
    (creation : ObjectsChange) × IsCreation block_size creation
    × IsPlanRefused old new empty_set group group creation refusal

-- each row is there still, and each that came has an object from that number on
abbrev pub HasMoreRows : List DirectoryRow → ℕ → List DirectoryRow → Type 0
HasMoreRows old next new =
    ((row : DirectoryRow) → Contains old row → Contains new row)
    × ((row : DirectoryRow) → Contains new row → Contains old row ⊎ (next ≤ row.object))

-- one volume, snapshot or clone of that name was made: its name is there too, and it took the next two numbers
pub record IsOneMade (old new : GroupDatasets) (name : List ℕ) : Type 0 where
  pub names : (other : List ℕ) → IsNameThere new.directory other
      ↔ (IsNameThere old.directory other ⊎ (name ≡ other))
  pub next : new.next ≡ old.next + 2
  pub bounds : new.bounds ≡ old.bounds
  pub rows : length new.directory ≡ length old.directory + 1
  pub kept : HasMoreRows old.directory old.next new.directory

-- what the change makes was made, or nothing where it makes nothing
abbrev pub MakesOne : Store → Store → ℕ → GroupDatasets → GroupDatasets → Change → Type 0
MakesOne before after group old new change =
    ((¬ IsMaking old.directory [] change) × (new ≡ old) × (after.spaces ≡ before.spaces))
    ⊎ (IsMaking old.directory [] change × IsOneMade old new (name_of change)
    × HasChangePlaces before after group change)

-- The names that these actions made are there now too. Each of them took the next two numbers.
pub record MakesNamesOf (old new : GroupDatasets) (made : List Action) : Type 0 where
  pub names : (name : List ℕ) → IsNameThere new.directory name
      ↔ (IsNameThere old.directory name ⊎ IsNameMade made name)
  pub next : new.next ≡ old.next + 2 * length made
  pub bounds : new.bounds ≡ old.bounds
  pub rows : length new.directory ≡ length old.directory + length made
  pub kept : HasMoreRows old.directory old.next new.directory

-- what these actions make was made, and each took places for what it asks and for nothing else
pub record MakesAll (before after : Store) (group : ℕ) (old new : GroupDatasets) (actions : List Action)
    : Type 0 where
  pub made : List Action
  pub are : AreMade old.directory [] actions made
  pub names : MakesNamesOf old new made
  pub touched : TouchesMade old.changes new.changes new.directory old.next made
  pub places : HavePlacesFor before after (HasActionDemands before.spaces group) made
  pub idle : made ≡ [] → new ≡ old

-- ---- why they are not done

-- the object that a row has for the name, or a new one
abbrev pub IsObjectFor : List DirectoryRow → List ℕ → ℕ → ℕ → Type 0
IsObjectFor rows name next number =
    (next ≤ number) ⊎ ((row : DirectoryRow) × Contains rows row × IsNamed row.name name × (row.object ≡ number))

-- the records of the volume's object, and of the snapshot before it, were not changed for a snapshot of the volume
pub record IsUntaken (old new : Store) (changes : DatasetChanges) (rows : List DirectoryRow) (volume : List ℕ) (next : ℕ)
    (refusal : Refusal) : Type 0 where
  pub head : ℕ
  pub is : IsObjectFor rows volume next head
  pub far : DatasetChanges
  pub one_set : AreOfOneSet changes far
  pub last : DatasetChanges
  pub why : IsChainRefused old new far last head kinds.Volume refusal

-- the snapshot's record was not changed for a clone of it
pub record IsUncloned (old new : Store) (changes : DatasetChanges) (rows : List DirectoryRow) (snapshot : List ℕ) (next : ℕ)
    (refusal : Refusal) : Type 0 where
  pub origin : ℕ
  pub is : IsObjectFor rows snapshot next origin
  pub far : DatasetChanges
  pub one_set : AreOfOneSet changes far
  pub last : DatasetChanges
  pub why : HasMostClones last origin refusal
      ⊎ IsChainRefused old new far last origin kinds.Snapshot refusal

-- a volume was not planned, or a snapshot not taken, or a clone not made
abbrev pub IsUnmade : Store → Store → DatasetChanges → ℕ → List DirectoryRow → ℕ → Change → Refusal → Type 0
IsUnmade old new changes group rows next (Create name size block_size) refusal =
    IsNewRefused old new group block_size refusal
IsUnmade old new changes group rows next (Snapshot volume part) refusal =
    IsUntaken old new changes rows volume next refusal
IsUnmade old new changes group rows next (Clone snapshot name) refusal =
    IsUncloned old new changes rows snapshot next refusal
IsUnmade old new changes group rows next (Destroy name) refusal = ⊥

-- why the change is not done, behind those that made a volume, a snapshot or a clone each: it is a destroy, or its names or sizes are not good,
-- or where it makes something, no two numbers are left below the end, or what it makes was not made
abbrev pub IsMakingRefused :
    Store → Store → DatasetChanges → ℕ → List DirectoryRow → List Action → ℕ → ℕ → Change → Refusal → Type 0
IsMakingRefused old new changes group rows made next end change refusal =
    (refusal ≡ NoMemory)
    ⊎ (((refusal ≡ BadConfig) × (is_good_making change ≡ false))
    ⊎ (IsMaking rows made change
    × (((refusal ≡ NoSpace) × (end < next + 2 * length made + 2))
    ⊎ IsUnmade old new changes group rows next change refusal)))

-- the first actions were done, and then the next was refused
pub record IsActionRefused (old new : Store) (changes : DatasetChanges) (group : ℕ) (rows : List DirectoryRow) (next end : ℕ)
    (actions : List Action) (refusal : Refusal) : Type 0 where
  pub first : List Action
  pub action : Action
  pub left : List Action
  pub are : actions ≡ first ++ action ∷ left
  pub made : List Action
  pub made_are : AreMade rows [] first made
  pub mid : Store
  pub before : OnlyReadsAndPlans old mid []
  pub places : HavePlacesFor old mid (HasActionDemands old.spaces group) made
  pub why : IsMakingRefused mid new changes group rows made next end action.change refusal
