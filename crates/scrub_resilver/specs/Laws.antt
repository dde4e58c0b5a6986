-- What blocks have on their disks once they were looked at.
use Rattle.std.specs.Prelude.{ℕ, ◌≡◌, ◌⊎◌, ◌≤◌, Some, List, length, slice_get, Contains}
use Rattle.sha2.specs.Sha256.{sha256}
use Rattle.block_pointer.specs.declared.block.Block.{Block}
use Rattle.block_pointer.specs.declared.dva.Dva.{Dva}
use Rattle.block_pointer.specs.Copies.{dvas}
use Rattle.block_store.specs.Blocks.{AreDistinct, AreStored, Contents}
use Rattle.block_store.specs.Opened.{AreBlocksApart, LieOn}
use Rattle.block_store.specs.declared.shape.VdevShape.{VdevShape}
use Rattle.model_disk.specs.Joint.{Disks, content}
use Rattle.raidz_map.specs.Layout.{asize}
use Rattle.raidz_io.specs.declared.vdev.Extent.{Extent}
use Rattle.raidz_io.specs.Elsewhere.{IsOfExtent, ShareNoByte}
use Rattle.raidz_io.specs.Places.{Content}
use Rattle.raidz_io.specs.Reads.{AreUntouched, GivesTruly, IsHonestSince, OnlyReads}
use Rattle.raidz_io.specs.Stands.{ExtentStands, parity_of}
use Rattle.scrub_resilver.specs.Checking.{AreChecked}
use Rattle.scrub_resilver.specs.Copies.{IsChosenOf, IsCopyOn}
use Rattle.scrub_resilver.specs.Mending.{AreMendedFirst, GoesOn}
use Rattle.scrub_resilver.specs.declared.fault.Finding.{Finding}

-- each byte of the extent on a disk that isn't left is known
abbrev pub IsKnownBut : Disks → List ℕ → Extent → Type 0
IsKnownBut disks left extent = (disk i : ℕ) → ¬ Contains left disk → IsOfExtent extent disk i → (value : ℕ) × (content disks disk i ≡ Some value)

-- each copy of the block that stood of the bytes that were given, with whichever disks absent, stands of these, but on the disks that are left
abbrev pub StandsAgain : List VdevShape → Disks → List ℕ → Block → List ℕ → List ℕ → Type 0
StandsAgain shapes new left block given bytes =
    (i : ℕ) (extent : Extent) (before : Content) (absent : List ℕ) → IsCopyOn shapes block i extent → ExtentStands before absent extent given
    → IsKnownBut new left extent → ExtentStands (content new) left extent bytes

-- Where blocks were looked at over disks that answer truly, each copy of them stands, but for columns on disks of which something was found:
-- whatever stood of it before. Its bytes have the digest of those that stood, and all copies of a block have the same.
abbrev pub CheckedBlocksStand : Type 0
CheckedBlocksStand =
    (shapes : List VdevShape) (old new : Disks) (missing left : List ℕ) (blocks : List Block) (found : List Finding)
    → AreChecked shapes old new missing blocks found → OnlyReads old new → IsHonestSince old new
    → ((one : Finding) → Contains found one → Contains left one.disk)
    → (block : Block) (given : List ℕ) → Contains blocks block → sha256 given ≡ block.checksum
    → (bytes : List ℕ) × (sha256 bytes ≡ block.checksum) × StandsAgain shapes new left block given bytes

-- ---- by what digests tell

-- Of no block that is known do other bytes have the digest, of which each column of a copy stands but those on as many disks as it has parities.
abbrev pub HaveOneChoice : List VdevShape → Content → Contents → Type 0
HaveOneChoice shapes content stored =
    (block : Block) (bytes others wrong : List ℕ) (i : ℕ) (extent : Extent) → stored block ≡ Some bytes → IsCopyOn shapes block i extent
    → length wrong ≤ parity_of extent → ExtentStands content wrong extent others → sha256 others ≡ block.checksum → others ≡ bytes

-- Of these blocks no byte is unknown on the disks, but for those that are missing: none was left so by a write that failed.
abbrev pub AreKnown : List VdevShape → Disks → List ℕ → Contents → Type 0
AreKnown shapes disks missing stored =
    (block : Block) (bytes : List ℕ) (i : ℕ) (extent : Extent) → stored block ≡ Some bytes → IsCopyOn shapes block i extent → IsKnownBut disks missing extent

-- and their digests tell them
pub record AreTold (shapes : List VdevShape) (disks : Disks) (missing : List ℕ) (stored : Contents) : Type 0 where
  pub known : AreKnown shapes disks missing stored
  pub one : HaveOneChoice shapes (content disks) stored

-- ---- whatever disks gave

-- Of no block that is known could other bytes, of which reads since gave all columns of a copy but for those on as many disks as it has parities, have the digest.
abbrev pub ChosenAreOwn : List VdevShape → Disks → Disks → Contents → Type 0
ChosenAreOwn shapes old new stored =
    (block : Block) (bytes others : List ℕ) → stored block ≡ Some bytes → IsChosenOf shapes old new block others (dvas block.copies)
    → sha256 others ≡ block.checksum → others ≡ bytes

-- So it is in each part of a run in which disks were only read: of no block that is known could other bytes be chosen there that have its digest.
abbrev pub ChosenAreOwnThroughout : List VdevShape → Disks → Disks → Contents → Type 0
ChosenAreOwnThroughout shapes old new stored = (from to : Disks) → GoesOn old from → OnlyReads from to → GoesOn to new → ChosenAreOwn shapes from to stored

-- Over disks that answer truly no other bytes with its digest could be chosen of a block, where digests tell the blocks by what stands.
abbrev pub HonestChoicesAreOwn : Type 0
HonestChoicesAreOwn =
    (shapes : List VdevShape) (old new : Disks) (missing : List ℕ) (stored : Contents)
    → OnlyReads old new → AreUntouched missing old new → IsHonestSince old new → AreTold shapes new missing stored → ChosenAreOwn shapes old new stored

-- ---- what mending spares

-- two copies of these blocks are one, or share no byte
abbrev pub AreCopiesApart : List VdevShape → List Block → Type 0
AreCopiesApart shapes blocks = (block other : Block) (i k : ℕ) (extent behind : Extent) → Contains blocks block → Contains blocks other
    → IsCopyOn shapes block i extent → IsCopyOn shapes other k behind → ((block ≡ other) × (i ≡ k)) ⊎ ShareNoByte extent behind

-- so it is where blocks lie apart, in places of their size, on vdevs that take the disks in order
abbrev pub ApartBlocksShareNoByte : Type 0
ApartBlocksShareNoByte =
    (starts : List (List ℕ)) (shapes : List VdevShape) (blocks : List Block) → LieOn starts 0 shapes → AreBlocksApart blocks
    → ((block : Block) (place : Dva) (shape : VdevShape) → Contains blocks block → Contains (dvas block.copies) place
    → slice_get shapes place.vdev ≡ Some shape → place.allocated ≡ asize shape.vdev.geometry block.property.sectors)
    → AreCopiesApart shapes blocks

-- Where blocks were mended over disks that answer truly, and no byte of them is unknown behind it, each column of them that stood stands, if their digests tell them.
abbrev pub MendsSpareBlocks : Type 0
MendsSpareBlocks =
    (shapes : List VdevShape) (old new : Disks) (missing : List ℕ) (blocks : List Block) (stored : Contents)
    → AreMendedFirst shapes missing blocks old new → IsHonestSince old new → AreDistinct blocks → AreCopiesApart shapes blocks
    → AreStored stored blocks → AreTold shapes old missing stored → AreKnown shapes new missing stored
    → (block : Block) (bytes : List ℕ) (i : ℕ) (extent : Extent) (absent : List ℕ) → Contains blocks block → stored block ≡ Some bytes
    → IsCopyOn shapes block i extent → ((disk : ℕ) → Contains missing disk → Contains absent disk)
    → ExtentStands (content old) absent extent bytes → ExtentStands (content new) absent extent bytes

-- Where blocks were mended, whatever the disks gave, and no byte of them is unknown behind it, each column of them that stood stands, if in no part of it in which disks were only read other bytes with
-- its digest could be chosen of a block.
abbrev pub MendsSpareToldBlocks : Type 0
MendsSpareToldBlocks =
    (shapes : List VdevShape) (old new : Disks) (missing : List ℕ) (blocks : List Block) (stored : Contents)
    → AreMendedFirst shapes missing blocks old new → ChosenAreOwnThroughout shapes old new stored → AreCopiesApart shapes blocks
    → AreStored stored blocks → AreKnown shapes new missing stored
    → (block : Block) (bytes : List ℕ) (i : ℕ) (extent : Extent) (absent : List ℕ) → Contains blocks block → stored block ≡ Some bytes
    → IsCopyOn shapes block i extent → ((disk : ℕ) → Contains missing disk → Contains absent disk)
    → ExtentStands (content old) absent extent bytes → ExtentStands (content new) absent extent bytes

-- Where blocks were looked at, and of none other bytes with its digest could be chosen, each column of which nothing was found stands, if its disk gave what
-- stood there: beside those columns that stood anyway.
abbrev pub BlocksLookedAtStand : Type 0
BlocksLookedAtStand =
    (shapes : List VdevShape) (old new : Disks) (missing left : List ℕ) (blocks : List Block) (found : List Finding) (stored : Contents)
    → AreChecked shapes old new missing blocks found → OnlyReads old new
    → ((one : Finding) → Contains found one → Contains left one.disk) → ((disk : ℕ) → Contains missing disk → Contains left disk)
    → ChosenAreOwn shapes old new stored → AreKnown shapes new missing stored
    → (block : Block) (bytes : List ℕ) (i : ℕ) (extent : Extent) (absent rest : List ℕ) → Contains blocks block → stored block ≡ Some bytes
    → IsCopyOn shapes block i extent → ((disk : ℕ) → Contains absent disk → ¬ Contains rest disk → (¬ Contains left disk) × GivesTruly old new disk)
    → ExtentStands (content new) absent extent bytes → ExtentStands (content new) rest extent bytes
