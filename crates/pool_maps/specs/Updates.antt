-- What the space map of a metaslab is to say of a plan. Only the crate's own functions say this.
use Rattle.std.specs.Prelude.{ℕ, ◌≡◌, ◌^◌, ◌≤◌, List, [], Option}
use Rattle.block_pointer.specs.declared.block.Block.{Block}
use Rattle.block_store.specs.Maps.{LeavesUnused}
use Rattle.block_store.specs.Places.{filled, planned}
use Rattle.block_store.specs.Releases.{AreReleased, copies_of_all}
use Rattle.block_store.specs.Spaces.{VdevSpace}
use Rattle.meta_objset.specs.declared.space_maps.MetaslabPlace.{MetaslabPlace}
use Rattle.object_table.specs.Tables.{HasTable}
use Rattle.objset.specs.Objects.{Object}
use Rattle.space_map.specs.FreeRuns.{FreeRuns, AreFree}
use Rattle.space_map.specs.Sectors.{contains}
use Rattle.space_map.specs.Updates.{AppendsUpdate}
use Rattle.space_map_objects.specs.Maps.{LeavesFree, map_kind}
use Rattle.pool_maps.specs.Maps.{IsShort}
use Rattle.pool_maps.specs.declared.update.Update.{Update}

-- the update's entries lead from this set of a metaslab's sectors to the update's
pub record LeadsFrom (before : FreeRuns) (update : Update) : Type 0 where
  pub sectors : update.free.sectors ≡ before.sectors
  pub entries : AppendsUpdate before.sectors (contains before.runs) (contains update.free.runs) [] update.entries.items

-- the set is that of a metaslab, which has at most 2^20 sectors
abbrev pub IsSized : Update → Type 0
IsSized update = AreFree update.free × (update.free.sectors ≤ 2 ^ 20)

-- the object has a map that leaves free what the update is to, and hasn't grown long
pub record Says (object : Option Object) (update : Update) : Type 0 where
  pub bytes : List ℕ
  pub table : HasTable map_kind object bytes
  pub leaves : LeavesFree bytes update.free.sectors update.free
  pub few : IsShort bytes update.free

-- The update leads from what the stored blocks leave unused of the metaslab to what they do with the plan, once these blocks are given
-- back.
pub record IsUpdateOf (spaces : List VdevSpace) (gone : List Block) (place : MetaslabPlace) (update : Update) : Type 0 where
  pub before : FreeRuns
  pub are_before : AreFree before
  pub was : LeavesUnused spaces filled place.vdev place.index before
  pub leads : LeadsFrom before update
  pub are : AreFree update.free
  pub is : (after : List VdevSpace) (group : ℕ) → AreReleased spaces (copies_of_all gone) group after
      → LeavesUnused after planned place.vdev place.index update.free
