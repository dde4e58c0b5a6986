-- What follows from these definitions for those who have volumes.
use Rattle.std.specs.Prelude.{ℕ, ◌≡◌, ◌%◌, ◌≤◌, ◌⊎◌, List, [], Some, Vec}
use Rattle.std.specs.declared.alloc.Global.{Global}
use Rattle.block_pointer.specs.declared.block.Block.{Block}
use Rattle.block_store.specs.declared.refusal.Refusal.{Refusal}
use Rattle.block_store.specs.declared.refusal.Refusal.TheVariants.{DiskFault}
use Rattle.block_store.specs.Blocks.{Contents, Extends}
use Rattle.block_store.specs.Losses.{IsBlockLost}
use Rattle.block_store.specs.Store.{Store}
use Rattle.dnode.specs.declared.object_set.ObjectSet.{ObjectSet}
use Rattle.dnode_tree.specs.declared.writes.BlockWrite.{BlockWrite}
use Rattle.objset.specs.declared.changes.Change.{Change}
use Rattle.objset.specs.Laws.{IsOfSet}
use Rattle.pool_model.specs.declared.item.Write.{Write}
use Rattle.volume.specs.declared.volume.VolumeSet.{VolumeSet}
use Rattle.volume.specs.declared.writing.GroupWrites.{GroupWrites}
use Rattle.volume.specs.Demands.{IsPlacingRefused, IsPlanRefused, IsWritingRefused}
use Rattle.volume.specs.Reading.{IsReadRefused, LiesIn}
use Rattle.volume.specs.Volume.{IsVolume}
use Rattle.volume.specs.Writing.{NeedsOldBytes}

-- a block of the volume: that of the object set, or one of the dnodes or of the data
abbrev pub IsOfVolume : Block → List Block → (ℕ → List Block) → Block → Type 0
IsOfVolume set_block own blocks block = (block ≡ set_block) ⊎ IsOfSet own blocks block

-- A volume reads as the array, by the same blocks, where its own blocks stay known, whatever becomes of others, and also where a later birth
-- is asked.
abbrev pub VolumesStandOnTheirBlocks : Type 0
VolumesStandOnTheirBlocks =
    (old new : Contents) (bound birth : ℕ) (set_block : Block) (size block_size : ℕ) (array : List ℕ) → bound ≤ birth
    → (is : IsVolume old bound set_block size block_size array)
    → ((block : Block) (bytes : List ℕ) → IsOfVolume set_block is.has.own is.has.blocks block → old block ≡ Some bytes → new block ≡ Some bytes)
    → (still : IsVolume new birth set_block size block_size array) × (still.has.own ≡ is.has.own) × (still.has.blocks ≡ is.has.blocks)

-- so it does where more is known
abbrev pub VolumesStay : Type 0
VolumesStay =
    (old new : Contents) (bound birth : ℕ) (set_block : Block) (size block_size : ℕ) (array : List ℕ) → bound ≤ birth → Extends old new
    → IsVolume old bound set_block size block_size array → IsVolume new birth set_block size block_size array

-- Of whole blocks a volume reads as one array, by the same set and the same blocks, whatever births are
-- asked.
abbrev pub VolumesReadAsOne : Type 0
VolumesReadAsOne =
    (stored : Contents) (birth later : ℕ) (set_block : Block) (size block_size : ℕ)
    (array other : List ℕ) → size % block_size ≡ 0
    → (one : IsVolume stored birth set_block size block_size array)
    → (two : IsVolume stored later set_block size block_size other)
    → (array ≡ other) × (one.set ≡ two.set) × (one.has.own ≡ two.has.own)
    × (one.has.blocks ≡ two.has.blocks)

-- A block is lost where a fault of disks refuses a read of a range, or of the blocks whose old bytes
-- writes need; a plan that changes a set's object 1; the placing of blocks; or the writes of a group.
pub record LossesOfVolumes : Type 0 where
  pub ranges : (old new : Store) (missing : List ℕ) (volume : VolumeSet) (birth offset end : ℕ)
      (refusal : Refusal)
      → IsReadRefused old new missing volume birth (LiesIn volume offset end) refusal
      → refusal ≡ DiskFault → IsBlockLost old new missing
  pub changed : (old new : Store) (missing : List ℕ) (volume : VolumeSet) (birth : ℕ)
      (name : List ℕ) (writes : List Write) (refusal : Refusal)
      → IsReadRefused old new missing volume birth (NeedsOldBytes volume name writes) refusal
      → refusal ≡ DiskFault → IsBlockLost old new missing
  pub plans : (old new : Store) (set : ObjectSet) (before birth : ℕ) (change : Change)
      (refusal : Refusal)
      → IsPlanRefused old new set before birth change refusal
      → refusal ≡ DiskFault → IsBlockLost old new []
  pub placings : (old new : Store) (volume : VolumeSet) (birth : ℕ)
      (blocks : Vec BlockWrite Global) (refusal : Refusal)
      → IsPlacingRefused old new volume birth blocks refusal
      → refusal ≡ DiskFault → IsBlockLost old new []
  pub writings : (old new : Store) (volume : VolumeSet) (birth_before birth : ℕ)
      (changes : GroupWrites) (refusal : Refusal)
      → IsWritingRefused old new volume birth_before birth changes refusal
      → refusal ≡ DiskFault → IsBlockLost old new []
