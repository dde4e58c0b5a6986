-- Heads that a group writes to.
use Rattle.std.specs.Prelude.{ℕ, ◌≡◌, false, List, Contains, All, map}
use Rattle.std.specs.List.Sorted.{IsStrictlyIncreasing}
use Rattle.block_store.specs.Blocks.{Contents}
use Rattle.dataset_destroys.specs.Chains.{Reading}
use Rattle.dataset_destroys.specs.ChainRefused.{HasKnown}
use Rattle.dataset_destroys.specs.DatasetChanges.{DatasetChanges}
use Rattle.dead_list.specs.Datasets.{Pool}
use Rattle.dead_list.specs.Operations.{IsHead, IsWritable}
use Rattle.meta_objset.specs.declared.directory.DirectoryRow.{DirectoryRow}
use Rattle.meta_objset.specs.declared.record.DatasetRecord.{DatasetRecord}
use Rattle.pool_model.specs.declared.item.Write.{Write}
use Rattle.pool_model.specs.declared.volume.PlainVolume.{PlainVolume}
use Rattle.pool_model.specs.Pools.{is_snapshot}
use Rattle.volume_rules.specs.Overlay.{after_writes}
use Rattle.volume.specs.Volume.{Spells, block_of, block_size_of}
use Rattle.volume.specs.Walking.{blocks_of_volume}
use Rattle.volume.specs.Writing.{AreBlocksOf, IsArrayWith}
use Rattle.dataset_groups.specs.declared.writing.WrittenHead.{WrittenHead}
use Rattle.dataset_groups.specs.Names.{NamesVolume}

-- the objects of the heads
abbrev pub numbers_of : List WrittenHead → List ℕ
numbers_of heads = map (λ head. head.number) heads

-- the blocks are whole blocks of its volume
abbrev pub FitsHead : WrittenHead → Type 0
FitsHead head = AreBlocksOf head.volume head.blocks.items

-- its volume is that of the head's dataset
pub record IsHeadRead (stored : Contents) (bound : ℕ) (pool : Pool) (readings : ℕ → Reading) (head : WrittenHead)
    : Type 0 where
  pub is : Spells stored bound head.volume (readings head.number).array
  pub blocks : (pool.datasets head.number).blocks
      ≡ blocks_of_volume (block_of head.volume) is.set is.has.own is.has.blocks
  pub block_size : block_size_of head.volume ≡ (readings head.number).block_size

-- its blocks make the bytes of the volume that names it those after the writes
abbrev pub IsAfterWrites : Pool → (ℕ → Reading) → List DirectoryRow → List Write → WrittenHead → Type 0
IsAfterWrites pool readings rows writes head =
    (row : DirectoryRow) (volume : PlainVolume) → Contains rows row → row.object ≡ head.number
    → NamesVolume pool readings row volume
    → IsArrayWith volume.bytes volume.block_size head.blocks.items (after_writes volume writes).bytes

-- a write is to the volume that a row names, and that is no snapshot
abbrev pub IsVolumeWritten : List Write → PlainVolume → Type 0
IsVolumeWritten writes volume =
    (is_snapshot volume.kind ≡ false) × ((write : Write) × Contains writes write × (write.volume ≡ volume.name))

-- These are the heads that the writes are to, each once and in the order of their numbers, as they were before, with the blocks that make
-- their bytes those after the writes.
pub record AreWritten (stored : Contents) (bound : ℕ) (pool : Pool) (readings : ℕ → Reading) (rows : List DirectoryRow)
    (writes : List Write) (heads : List WrittenHead) : Type 0 where
  pub once : IsStrictlyIncreasing (numbers_of heads)
  pub named : All (λ head. (row : DirectoryRow) × Contains rows row × (row.object ≡ head.number)) heads
  pub read : All (IsHeadRead stored bound pool readings) heads
  pub are : All (λ head. IsHead pool.datasets head.number) heads
  pub writable : All (λ head. IsWritable pool head.number) heads
  pub after : All (IsAfterWrites pool readings rows writes) heads
  pub all : (row : DirectoryRow) (volume : PlainVolume) → Contains rows row → NamesVolume pool readings row volume
      → IsVolumeWritten writes volume → Contains (numbers_of heads) row.object

-- a dead list of one of these records, as it was read or changed
abbrev pub IsListOf : DatasetChanges → List ℕ → ℕ → Type 0
IsListOf changes numbers list =
    (number : ℕ) × Contains numbers number × ((r : DatasetRecord) × HasKnown changes number r × (r.dead_list ≡ list))
