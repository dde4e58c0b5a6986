-- What the space maps of a pool leave free, and what it uses.
use Rattle.std.specs.Prelude.{ℕ, ◌≡◌, ◌⊎◌, ◌+◌, ◌*◌, ◌<◌, ◌≤◌, Some, List, length, Option, slice_get, All, Contains}
use Rattle.block_store.specs.Maps.{HasSectors, LeavesUnused}
use Rattle.block_store.specs.Places.{Marks}
use Rattle.block_store.specs.Shapes.{first_meta}
use Rattle.block_store.specs.Spaces.{VdevSpace}
use Rattle.meta_objset.specs.Reading.{HasSpaceMaps}
use Rattle.meta_objset.specs.SpaceMaps.{LacksMetaslab}
use Rattle.meta_objset.specs.declared.space_maps.MetaslabMap.{MetaslabMap}
use Rattle.meta_objset.specs.declared.space_maps.MetaslabPlace.{MetaslabPlace}
use Rattle.object_table.specs.Tables.{HasTable}
use Rattle.objset.specs.Objects.{Object}
use Rattle.space_map.specs.Allocated.{gaps_of}
use Rattle.space_map.specs.FreeRuns.{FreeRuns, AreFree}
use Rattle.space_map.specs.Map.{all_free}
use Rattle.space_map.specs.Sectors.{contains}
use Rattle.space_map_objects.specs.Maps.{HasMap, LeavesFree, map_kind}

-- a row names the metaslab's map, which leaves this set free
pub record IsInRow (objects : ℕ → Option Object) (maps : List MetaslabMap) (place : MetaslabPlace) (free : FreeRuns) : Type 0 where
  pub row : MetaslabMap
  pub there : Contains maps row
  pub metaslab : row.metaslab ≡ place
  pub map : HasMap (objects row.object) free.sectors free

-- or no row is the metaslab's, and the set has all sectors
abbrev pub IsMapped : (ℕ → Option Object) → List MetaslabMap → MetaslabPlace → FreeRuns → Type 0
IsMapped objects maps place free =
    IsInRow objects maps place free
    ⊎ (LacksMetaslab maps place × ((s : ℕ) → contains free.runs s ≡ all_free free.sectors s))

-- the metaslab is there, before its vdev's meta region
pub record HasMapPlace (spaces : List VdevSpace) (place : MetaslabPlace) : Type 0 where
  pub space : VdevSpace
  pub found : slice_get spaces place.vdev ≡ Some space
  pub before : place.index < first_meta space.shape

-- The rows are of metaslabs before the meta regions, and each names an object of its own, behind the tables.
pub record AreRowsOf (spaces : List VdevSpace) (maps : List MetaslabMap) : Type 0 where
  pub places : All (λ map. HasMapPlace spaces map.metaslab) maps
  pub behind : All (λ map. 4 < map.object) maps
  pub apart : (map other : MetaslabMap) → Contains maps map → Contains maps other → map.object ≡ other.object → map ≡ other

-- a map's bytes are at most two entries for each run of sectors in use, and 64
abbrev pub IsShort : List ℕ → FreeRuns → Type 0
IsShort bytes free = length bytes ≤ 8 * (2 * length (gaps_of free) + 64)

-- the object has such a map, of a metaslab of so many sectors
pub record HasShortMap (object : Option Object) (sectors : ℕ) : Type 0 where
  pub free : FreeRuns
  pub are : AreFree free
  pub size : free.sectors ≡ sectors
  pub bytes : List ℕ
  pub table : HasTable map_kind object bytes
  pub leaves : LeavesFree bytes free.sectors free
  pub few : IsShort bytes free

-- of that metaslab
abbrev pub HasShortMapOf : List VdevSpace → MetaslabPlace → Option Object → Type 0
HasShortMapOf spaces place object = (sectors : ℕ) → HasSectors spaces place.vdev sectors → HasShortMap object sectors

-- so have the objects that the rows name
abbrev pub AreShortMaps : (ℕ → Option Object) → List VdevSpace → List MetaslabMap → Type 0
AreShortMaps objects spaces maps = All (λ map. HasShortMapOf spaces map.metaslab (objects map.object)) maps

-- Object 4 has this table of space maps. Of each metaslab before a meta region they leave free what these marks leave unused.
pub record AreMaps (objects : ℕ → Option Object) (spaces : List VdevSpace) (marks : Marks) (maps : List MetaslabMap) : Type 0 where
  pub table : HasSpaceMaps (objects 4) maps
  pub rows : AreRowsOf spaces maps
  pub each : (place : MetaslabPlace) (free : FreeRuns) → HasMapPlace spaces place → AreFree free
      → LeavesUnused spaces marks place.vdev place.index free → IsMapped objects maps place free

-- object 4 has such a table, and none of the maps has grown long
pub record AreMapsOf (objects : ℕ → Option Object) (spaces : List VdevSpace) (marks : Marks) : Type 0 where
  pub maps : List MetaslabMap
  pub are : AreMaps objects spaces marks maps
  pub short : AreShortMaps objects spaces maps
