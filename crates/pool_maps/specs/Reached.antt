-- Space maps that call allocated just what blocks take.
use Rattle.std.specs.Prelude.{ℕ, ◌≡◌, ◌<◌, false, List, Option, Contains}
use Rattle.block_pointer.specs.declared.block.Block.{Block}
use Rattle.block_store.specs.Accounts.{SectorAt, HasSector, IsUsed}
use Rattle.block_store.specs.Maps.{HasSectors, LeavesUnused}
use Rattle.block_store.specs.Places.{Marks}
use Rattle.block_store.specs.Spaces.{VdevSpace}
use Rattle.block_store.specs.Uses.{CopiesLieOn, IsInUse}
use Rattle.meta_objset.specs.Reading.{HasSpaceMaps}
use Rattle.meta_objset.specs.declared.space_maps.MetaslabMap.{MetaslabMap}
use Rattle.meta_objset.specs.declared.space_maps.MetaslabPlace.{MetaslabPlace}
use Rattle.objset.specs.Objects.{Object}
use Rattle.space_map.specs.FreeRuns.{FreeRuns, AreFree}
use Rattle.space_map.specs.Sectors.{contains}
use Rattle.pool_maps.specs.Maps.{AreRowsOf, AreShortMaps, HasMapPlace, IsMapped}

-- one of these blocks has a copy that takes the sector
abbrev pub IsTakenBy : List VdevSpace → List Block → SectorAt → Type 0
IsTakenBy spaces blocks at = (block : Block) × Contains blocks block × HasSector spaces block at

-- a sector of the metaslab
abbrev pub sector_at : MetaslabPlace → ℕ → SectorAt
sector_at place s = record { vdev = place.vdev; metaslab = place.index; sector = s }

-- the set has just those sectors of the metaslab that none of these blocks takes
pub record LeavesRest (spaces : List VdevSpace) (blocks : List Block) (place : MetaslabPlace) (free : FreeRuns) : Type 0 where
  pub sectors : HasSectors spaces place.vdev free.sectors
  pub taken : (s : ℕ) → s < free.sectors → IsTakenBy spaces blocks (sector_at place s) → contains free.runs s ≡ false
  pub rest : (s : ℕ) → s < free.sectors → contains free.runs s ≡ false → IsTakenBy spaces blocks (sector_at place s)

-- Object 4 has a table of space maps, and none of them has grown long. Of each metaslab before a meta region they leave free what none of
-- these blocks takes.
pub record AreMapsFor (objects : ℕ → Option Object) (spaces : List VdevSpace) (blocks : List Block) : Type 0 where
  pub maps : List MetaslabMap
  pub table : HasSpaceMaps (objects 4) maps
  pub rows : AreRowsOf spaces maps
  pub each : (place : MetaslabPlace) → HasMapPlace spaces place
      → (free : FreeRuns) × AreFree free × LeavesRest spaces blocks place free × IsMapped objects maps place free
  pub short : AreShortMaps objects spaces maps

-- by these marks just the sectors of these blocks are in use
pub record UseJust (spaces : List VdevSpace) (marks : Marks) (blocks : List Block) : Type 0 where
  pub in_use : (block : Block) → Contains blocks block → CopiesLieOn IsInUse spaces marks block
  pub accounted : (at : SectorAt) → IsUsed IsInUse spaces marks at → IsTakenBy spaces blocks at

-- by these marks no sector is in use
abbrev pub UseNothing : List VdevSpace → Marks → Type 0
UseNothing spaces marks = (at : SectorAt) → ¬ IsUsed IsInUse spaces marks at

-- by these marks there is a set of what is unused of the metaslab
pub record HasUnusedSet (spaces : List VdevSpace) (marks : Marks) (place : MetaslabPlace) : Type 0 where
  pub free : FreeRuns
  pub are : AreFree free
  pub unused : LeavesUnused spaces marks place.vdev place.index free

-- so there is of each metaslab before a meta region
abbrev pub AreThere : List VdevSpace → Marks → Type 0
AreThere spaces marks = (place : MetaslabPlace) → HasMapPlace spaces place → HasUnusedSet spaces marks place
