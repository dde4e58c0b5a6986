-- Volumes that a group writes to, as they are read.
use Rattle.std.specs.Prelude.{ℕ, ◌≡◌, false, List, Contains, Option, Any}
use Rattle.block_store.specs.Blocks.{Contents}
use Rattle.dataset_groups.specs.Chains.{Reading}
use Rattle.dataset_groups.specs.ChainTouched.{TouchesOnly}
use Rattle.dataset_groups.specs.States.{AreOfOneSet}
use Rattle.dataset_groups.specs.declared.datasets.GroupDatasets.{GroupDatasets}
use Rattle.dataset_groups.specs.Groups.{SpellsGroup}
use Rattle.dataset_groups.specs.declared.writing.WrittenHead.{WrittenHead}
use Rattle.dead_list.specs.Datasets.{Pool}
use Rattle.meta_objset.specs.declared.directory.DirectoryRow.{DirectoryRow}
use Rattle.meta_objset.specs.declared.record.DatasetRecord.{DatasetRecord}
use Rattle.objset.specs.Objects.{Object}
use Rattle.pool_model.specs.declared.item.Write.{Write}
use Rattle.pool_model.specs.declared.volume.PlainVolume.{PlainVolume}
use Rattle.pool_model.specs.Names.{is_snapshot_name}
use Rattle.pool_model.specs.Pools.{PlainPool, is_snapshot}
use Rattle.volume_rules.specs.Overlay.{after_writes}
use Rattle.volume.specs.declared.volume.VolumeSet.{VolumeSet}
use Rattle.volume.specs.Volume.{HasShape, block_of}
use Rattle.volume.specs.Writing.{IsArrayWith}
use Rattle.dataset_snapshots.specs.Finding.{IsRowOf}
use Rattle.dataset_snapshots.specs.Pools.{SpellsDataset}

-- one of the writes is to a name, and no snapshot's, that the directory has with this object
abbrev pub IsWritten : List DirectoryRow → List Write → ℕ → Type 0
IsWritten rows writes object =
    Any (λ write. (is_snapshot_name write.volume ≡ false) × IsRowOf rows write.volume object) writes

-- so it is, and the name is none of these, which are destroyed
abbrev pub IsWrittenBut : List DirectoryRow → List (List ℕ) → List Write → ℕ → Type 0
IsWrittenBut rows destroyed writes object =
    Any (λ write. (is_snapshot_name write.volume ≡ false)
    × ((¬ Contains destroyed write.volume) × IsRowOf rows write.volume object)) writes

-- the row is one of these, and has this object
abbrev pub HasRow : List DirectoryRow → ℕ → DirectoryRow → Type 0
HasRow rows object row = Contains rows row × (row.object ≡ object)

-- the volume is that of the record
abbrev pub IsVolumeIn : VolumeSet → DatasetRecord → Type 0
IsVolumeIn volume r = HasShape volume r.size r.block_size × (block_of volume ≡ r.object_set)

-- it has the row's volume, and the blocks that make its bytes, where it is no snapshot, those after the writes
abbrev pub IsReadFor : Contents → ℕ → (ℕ → Option Object) → List Write → DirectoryRow → WrittenHead → Type 0
IsReadFor stored birth objects writes row head =
    (volume : PlainVolume) (is : SpellsDataset stored birth objects row volume)
    → IsVolumeIn head.volume is.r
    × (is_snapshot volume.kind ≡ false → IsArrayWith volume.bytes is.r.block_size head.blocks.items (after_writes volume writes).bytes)

-- so it is for one of the rows
abbrev pub IsReadFrom : Contents → ℕ → (ℕ → Option Object) → List Write → List DirectoryRow → WrittenHead → Type 0
IsReadFrom stored birth objects writes rows head =
    (row : DirectoryRow) × HasRow rows head.number row × IsReadFor stored birth objects writes row head

-- no record or dead list was changed
abbrev pub IsNone : ℕ → Type 0
IsNone number = ⊥

-- the directory and the numbers for new objects are the same, of the same set, and records were read at most
pub record KeepsDatasets (old new : GroupDatasets) : Type 0 where
  pub directory : new.directory ≡ old.directory
  pub next : new.next ≡ old.next
  pub bounds : new.bounds ≡ old.bounds
  pub one_set : AreOfOneSet old.changes new.changes
  pub touched : TouchesOnly old.changes new.changes IsNone IsNone

-- whatever pool the datasets spelled, they spell it still
abbrev pub KeepsGroup : (ℕ → Option Object) → GroupDatasets → GroupDatasets → Type 0
KeepsGroup objects old new =
    (known : Contents) (group : ℕ) (pool : Pool) (readings : ℕ → Reading) (plain : PlainPool)
    → SpellsGroup known group objects old pool readings plain → SpellsGroup known group objects new pool readings plain
