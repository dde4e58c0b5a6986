-- Blocks of which every column was looked at.
use Rattle.std.specs.Prelude.{ℕ, ◌≡◌, ◌*◌, Bool, true, false, Option, Some, None, Vec, List, [], ◌∷◌, ◌++◌, length}
use Rattle.std.specs.Global.{Global}
use Rattle.sha2.specs.Sha256.{sha256}
use Rattle.block_pointer.specs.declared.block.Block.{Block}
use Rattle.block_pointer.specs.declared.dva.Dva.{Dva}
use Rattle.block_pointer.specs.Copies.{dvas}
use Rattle.block_store.specs.declared.shape.VdevShape.{VdevShape}
use Rattle.model_disk.specs.Joint.{Disks}
use Rattle.raidz_io.specs.declared.vdev.Extent.{Extent}
use Rattle.scrub_resilver.specs.Copies.{AreUnread, IsChosenOf, IsExtentOn}
use Rattle.scrub_resilver.specs.Looking.{IsCopyChecked}
use Rattle.scrub_resilver.specs.declared.checking.Right.{Right}
use Rattle.scrub_resilver.specs.declared.fault.Finding.{Finding}

-- what was read of a block of so many sectors, if anything was, has their length
abbrev pub IsReadOf : ℕ → Option (Vec ℕ Global) → Type 0
IsReadOf sectors (Some bytes) = length bytes.items ≡ sectors * 512
IsReadOf sectors None = Unit {0}

-- these are its bytes; or so many, where nothing was read
abbrev pub IsRight : ℕ → Option (Vec ℕ Global) → Right → Type 0
IsRight sectors (Some bytes) right = (right.is_known ≡ true) × (right.bytes.items ≡ bytes.items) × (right.sectors ≡ sectors) × (length right.bytes.items ≡ sectors * 512)
IsRight sectors None right = (right.is_known ≡ false) × (right.sectors ≡ sectors) × (length right.bytes.items ≡ sectors * 512)

-- the copy that lies there was looked at
abbrev pub IsPlaceChecked : List VdevShape → Disks → Disks → List ℕ → ℕ → Bool → List ℕ → Dva → List Finding → Type 0
IsPlaceChecked shapes old new missing sectors known block place found =
    (extent : Extent) × IsExtentOn shapes sectors place extent × IsCopyChecked old new missing place.vdev extent known block found

-- so was each of these copies, in order
abbrev pub ArePlacesChecked : List VdevShape → Disks → Disks → List ℕ → ℕ → Bool → List ℕ → List Dva → List Finding → Type 0
ArePlacesChecked shapes old new missing sectors known block [] found = found ≡ []
ArePlacesChecked shapes old new missing sectors known block (place ∷ places) found =
    (here : List Finding) × (rest : List Finding) × (found ≡ here ++ rest) × IsPlaceChecked shapes old new missing sectors known block place here
    × ArePlacesChecked shapes old new missing sectors known block places rest

-- All copies of the block were looked at, in order, beside bytes that have its digest, as one of them was read; or such bytes aren't known, as no copy could be read.
pub record IsBlockChecked (shapes : List VdevShape) (old new : Disks) (missing : List ℕ) (block : Block) (found : List Finding) : Type 0 where
  pub content : List ℕ
  pub known : Bool
  pub digest : known ≡ true → sha256 content ≡ block.checksum
  pub chosen : known ≡ true → IsChosenOf shapes old new block content (dvas block.copies)
  pub unread : known ≡ false → AreUnread shapes old new missing block (dvas block.copies)
  pub copies : ArePlacesChecked shapes old new missing block.property.sectors known content (dvas block.copies) found

-- so was each of these blocks, in order
abbrev pub AreChecked : List VdevShape → Disks → Disks → List ℕ → List Block → List Finding → Type 0
AreChecked shapes old new missing [] found = found ≡ []
AreChecked shapes old new missing (block ∷ blocks) found =
    (here : List Finding) × (rest : List Finding) × (found ≡ here ++ rest) × IsBlockChecked shapes old new missing block here
    × AreChecked shapes old new missing blocks rest
