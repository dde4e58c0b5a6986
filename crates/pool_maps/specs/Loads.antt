-- Space maps that are read and loaded as a pool is opened.
use Rattle.std.specs.Prelude.{ℕ, ◌≡◌, ◌≢◌, ◌⊎◌, ◌++◌, ◌∷◌, Some, List, Option, slice_get, All, AllPairs, Contains}
use Rattle.std.specs.List.{AllZip}
use Rattle.block_store.specs.Accounts.{SectorAt, IsUsed}
use Rattle.block_store.specs.Maps.{HasSectors, HoldsIn, LeavesUnused}
use Rattle.block_store.specs.Places.{Marks, filled, planned, shapes_of}
use Rattle.block_store.specs.Plans.{KeepsPlans}
use Rattle.block_store.specs.Spaces.{VdevSpace}
use Rattle.block_store.specs.Steps.{OnlyReadsBlocks}
use Rattle.block_store.specs.Store.{Store, Keeps, KeepsStored}
use Rattle.block_store.specs.declared.refusal.Refusal.{Refusal as StoreRefusal}
use Rattle.block_store.specs.declared.refusal.Refusal.TheVariants.{BadPointer}
use Rattle.dnode.specs.declared.object_set.ObjectSet.{ObjectSet}
use Rattle.meta_objset.specs.Found.{AreMapRows, AreMapsFound, IsRowsRefused}
use Rattle.meta_objset.specs.Reading.{HasSpaceMaps}
use Rattle.meta_objset.specs.SpaceMaps.{maps_kind}
use Rattle.meta_objset.specs.declared.space_maps.MetaslabMap.{MetaslabMap}
use Rattle.meta_objset.specs.declared.space_maps.MetaslabPlace.{MetaslabPlace}
use Rattle.metaslab.specs.State.{State, Released}
use Rattle.metaslab.specs.Maps.{AreWhollyFreeOf}
use Rattle.objset.specs.Objects.{Object}
use Rattle.space_map_objects.specs.Maps.{HasMap, HasSomeMap, IsMapFound, IsMapRefused}
use Rattle.space_map_objects.specs.declared.refusal.Refusal.{Refusal}
use Rattle.space_map_objects.specs.declared.refusal.Refusal.TheVariants.{Unread}
use Rattle.pool_maps.specs.declared.reading.FreeMetaslab.{FreeMetaslab}
use Rattle.pool_maps.specs.Maps.{AreRowsOf, HasMapPlace}

-- all sectors of the metaslab are free, without the plan and with it
abbrev pub IsFreeAt : List VdevSpace → MetaslabPlace → Type 0
IsFreeAt spaces place = (sectors : ℕ) → HasSectors spaces place.vdev sectors → HoldsIn (AreWhollyFreeOf sectors) spaces place.vdev place.index

-- so it is of each metaslab before a meta region
abbrev pub AreFreeBefore : List VdevSpace → Type 0
AreFreeBefore spaces = (place : MetaslabPlace) → HasMapPlace spaces place → IsFreeAt spaces place

-- the object has a map of that metaslab
abbrev pub HasMapFor : Option Object → List VdevSpace → MetaslabPlace → Type 0
HasMapFor object spaces place = (sectors : ℕ) → HasSectors spaces place.vdev sectors → HasSomeMap object sectors

-- the objects that the rows name have maps of their metaslabs
abbrev pub HaveMaps : (ℕ → Option Object) → List VdevSpace → List MetaslabMap → Type 0
HaveMaps objects spaces rows = All (λ row. HasMapFor (objects row.object) spaces row.metaslab) rows

-- ---- what is read

-- the set is what the row's map leaves free of its metaslab
pub record IsReadOf (objects : ℕ → Option Object) (spaces : List VdevSpace) (row : MetaslabMap) (read : FreeMetaslab) : Type 0 where
  pub metaslab : read.metaslab ≡ row.metaslab
  pub object : read.object ≡ row.object
  pub sectors : HasSectors spaces row.metaslab.vdev read.free.sectors
  pub map : HasMap (objects row.object) read.free.sectors read.free

-- Object 4 has a table of space maps, and for each of its rows in order this is what its map leaves free.
pub record AreReadMaps (objects : ℕ → Option Object) (spaces : List VdevSpace) (read : List FreeMetaslab) : Type 0 where
  pub maps : List MetaslabMap
  pub table : HasSpaceMaps (objects 4) maps
  pub rows : AreRowsOf spaces maps
  pub each : AllZip (IsReadOf objects spaces) maps read

-- the same of what was found on the disks, whether or not the object set is whole
pub record IsFreeFound (spaces : List VdevSpace) (set : ObjectSet) (birth : ℕ) (row : MetaslabMap) (read : FreeMetaslab) : Type 0 where
  pub metaslab : read.metaslab ≡ row.metaslab
  pub object : read.object ≡ row.object
  pub sectors : HasSectors spaces row.metaslab.vdev read.free.sectors
  pub map : IsMapFound spaces set birth row.object read.free.sectors read.free

-- a table of space maps was found, and for each of its rows in order this is what the map that was found leaves free
pub record AreFreeFound (spaces : List VdevSpace) (set : ObjectSet) (birth : ℕ) (read : List FreeMetaslab) : Type 0 where
  pub maps : List MetaslabMap
  pub table : AreMapsFound spaces set birth maps
  pub rows : AreRowsOf spaces maps
  pub each : AllZip (IsFreeFound spaces set birth) maps read

-- behind some maps that were read, that of a row was refused
pub record IsRowUnread (old new : Store) (missing : List ℕ) (set : ObjectSet) (birth : ℕ) (rows : List MetaslabMap) (refusal : Refusal)
    : Type 0 where
  pub mid : Store
  pub before : OnlyReadsBlocks old mid missing
  pub row : MetaslabMap
  pub there : Contains rows row
  pub sectors : ℕ
  pub size : HasSectors old.spaces row.metaslab.vdev sectors
  pub why : IsMapRefused mid new missing set birth row.object sectors refusal

-- the table was read, and its rows are not those of a pool of these vdevs, or a map was refused
pub record AreRowsUnread (old new : Store) (missing : List ℕ) (set : ObjectSet) (birth : ℕ) (refusal : Refusal) : Type 0 where
  pub maps : List MetaslabMap
  pub found : AreMapsFound old.spaces set birth maps
  pub why : ((refusal ≡ Unread BadPointer) × ¬ AreRowsOf old.spaces maps)
      ⊎ IsRowUnread old new missing set birth maps refusal

-- the table was not read, or behind it something was refused
abbrev pub AreMapsUnread : Store → Store → List ℕ → ObjectSet → ℕ → Refusal → Type 0
AreMapsUnread old new missing set birth refusal =
    ((why : StoreRefusal) × (refusal ≡ Unread why) × IsRowsRefused old new missing set birth maps_kind 4 AreMapRows why)
    ⊎ AreRowsUnread old new missing set birth refusal

-- ---- what is loaded

-- each set is of another metaslab
abbrev pub AreApart : List FreeMetaslab → Type 0
AreApart maps = AllPairs (λ read later. read.metaslab ≢ later.metaslab) maps

-- the sets are of metaslabs before the meta regions, each of another one, and have as many sectors
pub record AreSetsOf (spaces : List VdevSpace) (maps : List FreeMetaslab) : Type 0 where
  pub places : All (λ read. HasMapPlace spaces read.metaslab) maps
  pub sizes : All (λ read. HasSectors spaces read.metaslab.vdev read.free.sectors) maps
  pub apart : AreApart maps

-- just the set's sectors of its metaslab are unused, without the plan and with it
pub record IsUnusedIn (spaces : List VdevSpace) (read : FreeMetaslab) : Type 0 where
  pub kept : LeavesUnused spaces filled read.metaslab.vdev read.metaslab.index read.free
  pub with_plan : LeavesUnused spaces planned read.metaslab.vdev read.metaslab.index read.free

-- by these marks the metaslab is as it was
abbrev pub IsSameAt : Marks → List VdevSpace → MetaslabPlace → List VdevSpace → Type 0
IsSameAt marks spaces place after = (space new : VdevSpace) → slice_get spaces place.vdev ≡ Some space → slice_get after place.vdev ≡ Some new
    → slice_get (marks new) place.index ≡ slice_get (marks space) place.index

-- The vdevs are the same. Just the sectors of the sets are unused of their metaslabs, and each other metaslab is as it was.
pub record AreLoadedAs (spaces : List VdevSpace) (maps : List FreeMetaslab) (after : List VdevSpace) : Type 0 where
  pub shapes : shapes_of after ≡ shapes_of spaces
  pub each : All (IsUnusedIn after) maps
  pub filled_too : (place : MetaslabPlace) → All (λ read. read.metaslab ≢ place) maps → IsSameAt filled spaces place after
  pub planned_too : (place : MetaslabPlace) → All (λ read. read.metaslab ≢ place) maps → IsSameAt planned spaces place after

-- what the sectors of a meta region are used for stays
abbrev pub MetaStays : Marks → List VdevSpace → List VdevSpace → Type 0
MetaStays marks spaces after = (state : State) (at : SectorAt) → ¬ HasMapPlace spaces (record { vdev = at.vdev; index = at.metaslab })
    → IsUsed (λ s. s ≡ state) spaces marks at → IsUsed (λ s. s ≡ state) after marks at

-- what is released was so before
abbrev pub NothingIsReleased : Marks → List VdevSpace → List VdevSpace → Type 0
NothingIsReleased marks spaces after = (by : ℕ) (at : SectorAt) → IsUsed (λ s. s ≡ Released by) after marks at → IsUsed (λ s. s ≡ Released by) spaces marks at

-- Nothing was done but that metaslabs before the meta regions were loaded.
pub record OnlyLoads (old new : Store) : Type 0 where
  pub rest : new ≡ record old { spaces = new.spaces }
  pub shapes : shapes_of new.spaces ≡ shapes_of old.spaces
  pub keeps : Keeps old new
  pub stores : KeepsStored old new
  pub plans : KeepsPlans old new
  pub filled_stays : MetaStays filled old.spaces new.spaces
  pub planned_stays : MetaStays planned old.spaces new.spaces

-- the metaslab is there before a meta region, with as many sectors as the set, and wholly free
abbrev pub MayBeLoaded : List VdevSpace → FreeMetaslab → Type 0
MayBeLoaded spaces read = HasMapPlace spaces read.metaslab
    × HoldsIn (AreWhollyFreeOf read.free.sectors) spaces read.metaslab.vdev read.metaslab.index

-- those before one were loaded, and that one may not be
pub record IsLoadStopped (spaces : List VdevSpace) (maps : List FreeMetaslab) (after : List VdevSpace) : Type 0 where
  pub done : List FreeMetaslab
  pub next : FreeMetaslab
  pub left : List FreeMetaslab
  pub are : maps ≡ done ++ next ∷ left
  pub loaded : AreApart done → AreLoadedAs spaces done after
  pub none : ¬ MayBeLoaded after next
