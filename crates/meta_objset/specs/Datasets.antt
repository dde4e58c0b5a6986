-- Records of datasets in objects.
use Rattle.std.specs.Prelude.{ℕ, ◌≡◌, List, [], ◌∷◌, length, Option, Some}
use Rattle.dnode_tree.specs.declared.writes.BlockWrite.{BlockWrite}
use Rattle.objset.specs.Objects.{Object, EndsAt}
use Rattle.meta_objset.specs.declared.record.DatasetRecord.{DatasetRecord}
use Rattle.meta_objset.specs.Record.{SpellsRecord}

-- an object for a record has type 201, blocks of one sector, and none behind the first
pub record IsRecordObject (object : Object) : Type 0 where
  pub object_type : object.object_type ≡ 201
  pub sectors : object.data_sectors ≡ 1
  pub highest : object.highest ≡ 0
  pub ends : EndsAt object

-- the object is there, and its block, of 512 bytes, spells the record
pub record HasRecord (object : Option Object) (r : DatasetRecord) : Type 0 where
  pub there : Object
  pub is : object ≡ Some there
  pub of_record : IsRecordObject there
  pub bytes : List ℕ
  pub block : there.array 0 ≡ Some bytes
  pub size : length bytes ≡ 512
  pub spelled : SpellsRecord bytes r

-- the first block alone is written, with bytes that spell the record
pub record IsRecordWrite (r : DatasetRecord) (writes : List BlockWrite) : Type 0 where
  pub write : BlockWrite
  pub only : writes ≡ write ∷ []
  pub first : write.id ≡ 0
  pub size : length write.bytes.items ≡ 512
  pub spelled : SpellsRecord write.bytes.items r
