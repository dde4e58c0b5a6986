-- Datasets that are found.
use Rattle.std.proofs.Common.{◌≡◌, ℕ, List, Some, None, refl, sym, ap, subst, ◌∙◌}
use Rattle.block_pointer.specs.declared.block.Block.{Block}
use Rattle.block_store.specs.Blocks.{Contents}
use Rattle.block_store.specs.Steps.{OnlyReadsBlocks}
use Rattle.block_store.specs.Store.{Store}
use Rattle.dnode.specs.declared.object_set.ObjectSet.{ObjectSet}
use Rattle.meta_objset.specs.declared.directory.DirectoryRow.{DirectoryRow}
use Rattle.meta_objset.specs.declared.record.DatasetRecord.{DatasetRecord}
use Rattle.meta_objset.specs.Datasets.{HasRecord}
use Rattle.meta_objset.specs.Found.{IsDirectoryFound, IsRecordFound}
use Rattle.object_table.proofs.Tables.{spaces_stay}
use Rattle.objset.specs.Objects.{AreObjects}
use Rattle.pool_model.specs.declared.volume.PlainVolume.{PlainVolume}
use Rattle.pool_model.specs.Pools.{PlainPool, volume_at}
use Rattle.volume.specs.Volume.{IsVolume}
use Rattle.dataset_snapshots.specs.declared.finding.Dataset.{Dataset}
use Rattle.dataset_snapshots.specs.Finding.{AreRowsFound, HasDataset, IsFound, IsFoundIn, IsMetaFound, IsNumberIn, IsRowOf, IsVolumeOf}
use Rattle.dataset_snapshots.specs.Pools.{IsRecordOf, SpellsPool}
use Rattle.dataset_snapshots.proofs.Chained.{volumes_of}
use Rattle.dataset_snapshots.proofs.Rows.{no_row, row_leads}

-- the dataset of a record
pub has_dataset : (stored : Contents) (birth : ℕ) (volume : PlainVolume) (dataset : Dataset) (r : DatasetRecord) → dataset.record ≡ r → IsVolumeOf dataset → IsRecordOf r volume
    → IsVolume stored birth r.object_set r.size r.block_size volume.bytes → HasDataset stored birth (Some volume) (Some dataset)
has_dataset stored birth volume dataset r same of is bytes =
    let record_is : IsRecordOf dataset.record volume = subst (λ (other : DatasetRecord). IsRecordOf other volume) (sym same) is in
    let size : r.size ≡ dataset.volume.size = ap (λ (other : DatasetRecord). other.size) (sym same) ∙ sym of.0.0 in
    let block_size : r.block_size ≡ dataset.volume.block_size = ap (λ (other : DatasetRecord). other.block_size) (sym same) ∙ sym of.0.1 in
    let block : r.object_set ≡ dataset.volume.block = ap (λ (other : DatasetRecord). other.object_set) (sym same) ∙ sym of.1 in (
      record_is,
      subst (λ n. IsVolume stored birth dataset.volume.block dataset.volume.size n volume.bytes) block_size
          (subst (λ n. IsVolume stored birth dataset.volume.block n r.block_size volume.bytes) size
          (subst (λ (b : Block). IsVolume stored birth b r.size r.block_size volume.bytes) block bytes)),
    )

-- the set that was read is the root's
pub are_of_root : (stored : Contents) (birth : ℕ) (root : Block) (pool : PlainPool) (set : ObjectSet) (is : SpellsPool stored birth root pool) → set ≡ is.set
    → AreObjects stored root.birth set is.objects is.own is.blocks
are_of_root stored birth root pool set is same = subst (λ (s : ObjectSet). AreObjects stored root.birth s is.objects is.own is.blocks) (sym same) is.are

-- a name that the directory hasn't got
pub nothing_there : (stored : Contents) (birth : ℕ) (root : Block) (pool : PlainPool) (name : List ℕ) (is : SpellsPool stored birth root pool) → IsNumberIn is.rows name None
    → HasDataset stored root.birth (volume_at name pool) None
nothing_there stored birth root pool name is none =
    subst (λ found. HasDataset stored root.birth found None) (sym (no_row stored root.birth is.objects name is.rows pool.volumes (volumes_of is) none)) tt

-- and one that it has
pub dataset_there : (stored : Contents) (birth : ℕ) (root : Block) (pool : PlainPool) (name : List ℕ) (dataset : Dataset) (object : ℕ) (is : SpellsPool stored birth root pool)
    → IsRowOf is.rows name object → IsVolumeOf dataset → ((r : DatasetRecord) → HasRecord (is.objects object) r → dataset.record ≡ r)
    → HasDataset stored root.birth (volume_at name pool) (Some dataset)
dataset_there stored birth root pool name dataset object is row of one =
    let leads = row_leads stored root.birth is.objects name is.rows pool.volumes row.0 is.directory.0.order (volumes_of is) row.1 row.2 in
    let spells = leads.2 in
    let same : dataset.record ≡ spells.r = one spells.r (subst (λ n. HasRecord (is.objects n) spells.r) row.3 spells.has) in
    subst (λ found. HasDataset stored root.birth found (Some dataset)) (sym leads.1) (has_dataset stored root.birth leads.0 dataset spells.r same of spells.is spells.bytes)

-- there is a record for a name that the directory has
pub record_there : (stored : Contents) (birth : ℕ) (root : Block) (pool : PlainPool) (name : List ℕ) (object : ℕ) (is : SpellsPool stored birth root pool)
    → IsRowOf is.rows name object → (r : DatasetRecord) × HasRecord (is.objects object) r
record_there stored birth root pool name object is row =
    let leads = row_leads stored root.birth is.objects name is.rows pool.volumes row.0 is.directory.0.order (volumes_of is) row.1 row.2 in
    let spells = leads.2 in
    (spells.r, subst (λ n. HasRecord (is.objects n) spells.r) row.3 spells.has)

-- what was read of the directory, behind the root
pub rows_found : (old mid : Store) (missing : List ℕ) (birth : ℕ) (root : Block) (set : ObjectSet) (rows : List DirectoryRow) → IsMetaFound old.spaces birth root set
    → OnlyReadsBlocks old mid missing → IsDirectoryFound mid.spaces set root.birth rows → AreRowsFound old.spaces birth root set rows
rows_found old mid missing birth root set rows meta reads found = record {
  meta = meta;
  directory = subst (λ spaces. IsDirectoryFound spaces set root.birth rows) (spaces_stay old mid missing reads) found;
}

-- and of a dataset, behind both
pub dataset_found : (old later : Store) (missing : List ℕ) (birth : ℕ) (root : Block) (name : List ℕ) (set : ObjectSet) (rows : List DirectoryRow) (object : ℕ) (dataset : Dataset)
    → AreRowsFound old.spaces birth root set rows → IsRowOf rows name object → OnlyReadsBlocks old later missing → dataset.object ≡ object → IsVolumeOf dataset
    → IsRecordFound later.spaces set root.birth object dataset.record → IsFound old.spaces birth root name (Some dataset)
dataset_found old later missing birth root name set rows object dataset read row reads object_is of found = record {
  set = set;
  rows = rows;
  read = read;
  number = Some object;
  is_number = row;
  dataset = (dataset, refl, object_is, of, subst (λ spaces. IsRecordFound spaces set root.birth object dataset.record) (spaces_stay old later missing reads) found);
}

-- and by the rows of a directory that is kept, behind the root
pub dataset_found_in : (old mid : Store) (missing : List ℕ) (birth : ℕ) (root : Block) (name : List ℕ) (set : ObjectSet) (rows : List DirectoryRow) (object : ℕ) (dataset : Dataset)
    → IsRowOf rows name object → IsMetaFound old.spaces birth root set → OnlyReadsBlocks old mid missing → dataset.object ≡ object → IsVolumeOf dataset
    → IsRecordFound mid.spaces set root.birth object dataset.record → IsFoundIn old.spaces birth root rows name (Some dataset)
dataset_found_in old mid missing birth root name set rows object dataset row meta reads object_is of found =
    let here = subst (λ spaces. IsRecordFound spaces set root.birth object dataset.record) (spaces_stay old mid missing reads) found in (
      subst (λ n. IsRowOf rows name n) (sym object_is) row,
      of,
      set,
      meta,
      subst (λ n. IsRecordFound old.spaces set root.birth n dataset.record) (sym object_is) here,
    )
