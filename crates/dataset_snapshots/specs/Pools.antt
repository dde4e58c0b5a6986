-- What a root spells: the pool of a group.
use Rattle.std.specs.Prelude.{ℕ, ◌≡◌, ◌<◌, true, List, Option, length}
use Rattle.block_pointer.specs.declared.block.Block.{Block}
use Rattle.block_store.specs.Blocks.{Contents}
use Rattle.dataset_groups.specs.Chains.{Reading}
use Rattle.dataset_groups.specs.ChainStanding.{HasChains}
use Rattle.dataset_groups.specs.Names.{NamesPool}
pub use Rattle.dataset_groups.specs.Names.{NamesVolume}
use Rattle.dead_list.specs.Datasets.{Pool}
use Rattle.dnode.specs.declared.object_set.ObjectSet.{ObjectSet}
use Rattle.dnode.specs.declared.object_set.ObjectSetKind.TheVariants as sets
use Rattle.objset.specs.Sets.{IsSetBlock}
use Rattle.meta_objset.specs.declared.directory.DirectoryRow.{DirectoryRow}
use Rattle.meta_objset.specs.declared.record.DatasetKind.{DatasetKind}
use Rattle.meta_objset.specs.declared.record.DatasetKind.TheVariants as datasets
use Rattle.meta_objset.specs.declared.record.DatasetRecord.{DatasetRecord}
use Rattle.meta_objset.specs.declared.stale_spans.StaleSpan.{StaleSpan}
use Rattle.meta_objset.specs.Datasets.{HasRecord}
use Rattle.meta_objset.specs.Names.{IsNamed}
use Rattle.meta_objset.specs.Reading.{HasDirectory, HasStaleSpans}
use Rattle.objset.specs.Objects.{Object, AreObjects}
use Rattle.pool_model.specs.declared.volume.PlainVolume.{PlainVolume}
use Rattle.pool_model.specs.declared.volume.VolumeKind.{VolumeKind}
use Rattle.pool_model.specs.declared.volume.VolumeKind.TheVariants as volumes
use Rattle.pool_model.specs.Names.{is_name_for}
use Rattle.pool_model.specs.Pools.{PlainPool}
use Rattle.volume.specs.Volume.{IsVolume}

-- the record of a volume, or of a snapshot
abbrev pub IsRecordKind : VolumeKind → DatasetKind → Type 0
IsRecordKind volumes.Volume kind = kind ≡ datasets.Volume
IsRecordKind volumes.Snapshot kind = kind ≡ datasets.Snapshot

-- the record is that of a volume of this kind, size, block size and creation group
pub record IsRecordOf (r : DatasetRecord) (volume : PlainVolume) : Type 0 where
  pub kind : IsRecordKind volume.kind r.kind
  pub size : r.size ≡ length volume.bytes
  pub block_size : r.block_size ≡ volume.block_size
  pub created : r.created ≡ volume.group

-- A row of the directory names the volume; its object, behind those of the tables, has the volume's
-- record, which leads to its bytes.
pub record SpellsDataset (stored : Contents) (birth : ℕ) (objects : ℕ → Option Object)
    (row : DirectoryRow) (volume : PlainVolume) : Type 0 where
  pub name : IsNamed row.name volume.name
  pub good : is_name_for volume.kind volume.name ≡ true
  pub behind : 4 < row.object
  pub r : DatasetRecord
  pub has : HasRecord (objects row.object) r
  pub is : IsRecordOf r volume
  pub bytes : IsVolume stored birth r.object_set r.size r.block_size volume.bytes

-- The block, born by then, spells the meta object set of the pool: the records and dead lists of its objects are those of datasets that
-- fit one another, and its directory names them, as the pool's volumes, in the order of their names, no more and no fewer. Beside the
-- directory it has the spans of groups whose blocks a disk missed. What is behind the block was born by its own birth.
pub record SpellsPool (stored : Contents) (birth : ℕ) (root : Block) (pool : PlainPool) : Type 0 where
  pub set : ObjectSet
  pub is_set : IsSetBlock stored birth root set
  pub kind : set.kind ≡ sets.Meta
  pub objects : ℕ → Option Object
  pub own : List Block
  pub blocks : ℕ → List Block
  pub are : AreObjects stored root.birth set objects own blocks
  pub rows : List DirectoryRow
  pub directory : HasDirectory (objects 1) rows
  pub stale : List StaleSpan
  pub spans : HasStaleSpans (objects 3) stale
  pub datasets : Pool
  pub readings : ℕ → Reading
  pub chains : HasChains stored root.birth objects datasets readings
  pub names : NamesPool datasets readings rows pool
