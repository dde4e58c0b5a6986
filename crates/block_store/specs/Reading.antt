-- Reads of blocks.
use Rattle.std.specs.Prelude.{ℕ, zero, suc, ◌≡◌, ◌⊎◌, ◌++◌, ◌+◌, ◌-◌, ◌*◌, ◌<◌, ◌≤◌, Some, Result, Ok, Err, IfOk, IfErr, List, Vec, length, slice_get, Contains}
use Rattle.std.specs.declared.alloc.Global.{Global}
use Rattle.sha2.specs.Sha256.{sha256}
use Rattle.model_disk.specs.Joint.{Disks, content}
use Rattle.block_pointer.specs.declared.block.Block.{Block}
use Rattle.block_pointer.specs.Copies.{dvas}
use Rattle.raidz_io.specs.declared.vdev.Extent.{Extent}
use Rattle.raidz_io.specs.declared.vdev.Vdev.{Vdev}
use Rattle.raidz_io.specs.Reads.{OnlyReads, AreUntouched, IsHonestSince, absent_since, MoreAreLost}
use Rattle.raidz_io.specs.Stands.{ExtentStands}
use Rattle.raidz_io.specs.Choices.{IsChoice, HasNoChoice}
use Rattle.block_store.specs.declared.block.Asked.{Asked}
use Rattle.block_store.specs.declared.refusal.Refusal.{Refusal}
use Rattle.block_store.specs.declared.refusal.Refusal.TheVariants.{NoMemory, DiskFault, BadDigest}
use Rattle.block_store.specs.Spaces.{VdevSpace}
use Rattle.block_store.specs.Places.{ArePlacesIn, IsCopy}
use Rattle.block_store.specs.Store.{Store, missed}

-- the pointer is one that its parent may have
pub record Asks (asked : Asked) (block : Block) : Type 0 where
  pub property : block.property ≡ asked.property
  pub birth : block.birth ≤ asked.birth

-- and its copies are in places that a block of its size and number of copies may have
pub record IsReadable (spaces : List VdevSpace) (asked : Asked) (block : Block) : Type 0 where
  pub some : 0 < block.property.sectors
  pub asks : Asks asked block
  pub places : ArePlacesIn spaces block.property.sectors (dvas block.copies)

-- these bytes were read for the pointer: it may be read, and they have its size and its digest
pub record IsReadAs (spaces : List VdevSpace) (asked : Asked) (block : Block) (bytes : List ℕ) : Type 0 where
  pub readable : IsReadable spaces asked block
  pub size : length bytes ≡ block.property.sectors * 512
  pub digest : sha256 bytes ≡ block.checksum

-- the absent disks of the vdev are no more than its parities
pub record FewAreAbsent (vdev : Vdev) (absent : List ℕ) : Type 0 where
  pub disks : List ℕ
  pub few : length disks ≤ vdev.geometry.parity
  pub all : (child : ℕ) → child < vdev.geometry.children → Contains absent (vdev.first + child) → Contains disks (vdev.first + child)

-- in each vdev
abbrev pub AreTolerable : List VdevSpace → List ℕ → Type 0
AreTolerable spaces absent = (v : ℕ) (space : VdevSpace) → slice_get spaces v ≡ Some space → FewAreAbsent space.shape.vdev absent

-- Copy i could not be read, and why: more of its columns are lost than it has parities, on disks that are absent or failed in this
-- read, or no choice of its columns has the digest.
pub record IsFailedCopy (spaces : List VdevSpace) (absent : List ℕ) (block : Block) (i : ℕ) (old new : Disks) (refusal : Refusal) : Type 0 where
  pub extent : Extent
  pub is_copy : IsCopy spaces block i extent
  pub reads : OnlyReads old new
  pub cause : ((refusal ≡ DiskFault) × MoreAreLost extent (absent_since old new absent))
      ⊎ ((refusal ≡ BadDigest) × HasNoChoice old new absent block.checksum extent)

-- the first n copies were read one after the other, and each failed
abbrev pub HaveFailed : List VdevSpace → List ℕ → Block → ℕ → Disks → Disks → Type 0
HaveFailed spaces absent block zero old new = new ≡ old
HaveFailed spaces absent block (suc n) old new =
    (mid : Disks) × HaveFailed spaces absent block n old mid × (refusal : Refusal) × IsFailedCopy spaces absent block n mid new refusal

-- Each copy before the last one failed, and this is why the last one could not be read, with these disks missing beside those that missed
-- the group in which the block was born.
pub record IsLastFault (old new : Store) (missing : List ℕ) (block : Block) (refusal : Refusal) : Type 0 where
  pub mid : Disks
  pub earlier : HaveFailed old.spaces (missing ++ missed old block.birth) block (length (dvas block.copies) - 1) old.disks mid
  pub last : IsFailedCopy old.spaces (missing ++ missed old block.birth) block (length (dvas block.copies) - 1) mid new.disks refusal

-- a copy was read, once each before it had failed, with the same disks missing
pub record IsFirstRead (old new : Store) (missing : List ℕ) (block : Block) : Type 0 where
  pub i : ℕ
  pub below : i < length (dvas block.copies)
  pub mid : Disks
  pub earlier : HaveFailed old.spaces (missing ++ missed old block.birth) block i old.disks mid
  pub reads : OnlyReads mid new.disks

-- another copy may still be read
abbrev pub IsFault : {T : Type 0} → Result T Refusal → Type 0
IsFault (Ok read) = ⊥
IsFault (Err refusal) = (refusal ≡ DiskFault) ⊎ (refusal ≡ BadDigest)

-- copy i was read, or why not
pub record IsCopyRead (spaces : List VdevSpace) (absent : List ℕ) (block : Block) (i : ℕ) (old new : Disks) (result : Result (Vec ℕ Global) Refusal) : Type 0 where
  pub extent : Extent
  pub is_copy : IsCopy spaces block i extent
  pub reads : OnlyReads old new
  pub untouched : AreUntouched absent old new
  pub digest : IfOk result (λ read. sha256 read.items ≡ block.checksum)
  pub size : IfOk result (λ read. length read.items ≡ block.property.sectors * 512)
  pub choice : IfOk result (λ read. IsChoice old new extent read.items)
  pub right : IfOk result (λ read. IsHonestSince old new → (bytes : List ℕ) → ExtentStands (content old) (absent_since old new absent) extent bytes
      → sha256 bytes ≡ block.checksum → read.items ≡ bytes)
  pub refused : IfErr result (λ refusal. (refusal ≡ NoMemory)
      ⊎ (((refusal ≡ DiskFault) × MoreAreLost extent (absent_since old new absent))
      ⊎ ((refusal ≡ BadDigest) × HasNoChoice old new absent block.checksum extent)))

-- one of the first n copies was read last, and all of them where even this one could not be read
pub record IsReadUpTo (spaces : List VdevSpace) (absent : List ℕ) (block : Block) (n : ℕ) (old new : Disks) (result : Result (Vec ℕ Global) Refusal) : Type 0 where
  pub i : ℕ
  pub below : i < n
  pub mid : Disks
  pub before : OnlyReads old mid
  pub untouched : AreUntouched absent old mid
  pub earlier : HaveFailed spaces absent block i old mid
  pub read : IsCopyRead spaces absent block i mid new result
  pub last : IsFault result → suc i ≡ n
