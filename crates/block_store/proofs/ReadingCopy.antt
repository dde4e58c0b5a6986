-- What a read of one copy gives.
use Rattle.std.proofs.Common.{ℕ, ◌≡◌, ◌⊎◌, inl, inr, ◌*◌, ◌<◌, Ok, Err, List, Vec, Global, length, get_or, refl, sym, ap, ◌∙◌}
use Rattle.std.specs.Prelude.{Contains, slice_get}
use Rattle.std.proofs.lemmas.List.{get_or_default}
use Rattle.std.proofs.lemmas.Option.{slice_get-get_or}
use Rattle.sha2.specs.Sha256.{sha256}
use Rattle.model_disk.specs.Joint.{Disks, content}
use Rattle.block_pointer.specs.declared.block.Block.{Block}
use Rattle.block_pointer.specs.declared.dva.Dva.{Dva}
use Rattle.block_pointer.specs.Copies.{dvas}
use Rattle.raidz_io.specs.declared.vdev.Extent.{Extent}
use Rattle.raidz_io.specs.declared.refusal.Refusal.{Refusal as ReadRefusal}
use Rattle.raidz_io.specs.declared.refusal.Refusal.TheVariants.{NoMemory as ReadNoMemory, DiskFault as ReadDiskFault, BadDigest as ReadBadDigest}
use Rattle.raidz_io.specs.Choices.{IsChoice, HasNoChoice}
use Rattle.raidz_io.specs.Reads.{OnlyReads, AreUntouched, IsHonestSince, absent_since, MoreAreLost}
use Rattle.raidz_io.specs.Stands.{ExtentStands}
use Rattle.block_store.specs.declared.refusal.Refusal.{Refusal}
use Rattle.block_store.specs.declared.refusal.Refusal.TheVariants.{NoMemory, DiskFault, BadDigest}
use Rattle.block_store.specs.Spaces.{VdevSpace}
use Rattle.block_store.specs.Places.{IsCopy, IsExtentAt}
use Rattle.block_store.specs.Reading.{IsCopyRead}

pub place_is_there : (places : List Dva) (i : ℕ) (none : Dva) → i < length places → Contains places (get_or places i none)
place_is_there places i none below = (i, below, get_or_default places i (get_or places i none) none below)

pub is_copy : (spaces : List VdevSpace) (places : List Dva) (block : Block) (i : ℕ) (none : Dva) (extent : Extent) → places ≡ dvas block.copies → i < length places
    → IsExtentAt spaces block.property.sectors (get_or places i none) extent → IsCopy spaces block i extent
is_copy spaces places block i none extent are below at =
    record { place = get_or places i none; is_copy = ap (λ (p : List Dva). slice_get p i) (sym are) ∙ slice_get-get_or places i none below; extent_is = at }

-- the reads that were made, and the disks that were left alone
pub record Reads (absent : List ℕ) (old new : Disks) : Type 0 where
  pub reads : OnlyReads old new
  pub untouched : AreUntouched absent old new

pub ok_read : (spaces : List VdevSpace) (absent : List ℕ) (block : Block) (i : ℕ) (old new : Disks) (extent : Extent) (bytes : Vec ℕ Global)
    → IsCopy spaces block i extent → Reads absent old new → sha256 bytes.items ≡ block.checksum → IsChoice old new extent bytes.items
    → (IsHonestSince old new → (stood : List ℕ) → ExtentStands (content old) (absent_since old new absent) extent stood → sha256 stood ≡ block.checksum
    → bytes.items ≡ stood) → IsCopyRead spaces absent block i old new (Ok bytes)
ok_read spaces absent block i old new extent bytes copy reads digest choice right = record {
  extent = extent;
  is_copy = copy;
  reads = reads.reads;
  untouched = reads.untouched;
  digest = digest;
  size = choice.are_bytes.block_size ∙ ap (λ n. n * 512) copy.extent_is.sectors_are;
  choice = choice;
  right = right;
  refused = tt;
}

-- why a copy was not read
abbrev pub IsRefused : List ℕ → Block → Disks → Disks → Extent → Refusal → Type 0
IsRefused absent block old new extent refusal =
    (refusal ≡ NoMemory)
    ⊎ (((refusal ≡ DiskFault) × MoreAreLost extent (absent_since old new absent)) ⊎ ((refusal ≡ BadDigest) × HasNoChoice old new absent block.checksum extent))

abbrev pub IsReadRefused : List ℕ → Block → Disks → Disks → Extent → ReadRefusal → Type 0
IsReadRefused absent block old new extent refusal =
    (refusal ≡ ReadNoMemory)
    ⊎ (((refusal ≡ ReadDiskFault) × MoreAreLost extent (absent_since old new absent)) ⊎ ((refusal ≡ ReadBadDigest) × HasNoChoice old new absent block.checksum extent))

pub err_read : (spaces : List VdevSpace) (absent : List ℕ) (block : Block) (i : ℕ) (old new : Disks) (extent : Extent) (refusal : Refusal)
    → IsCopy spaces block i extent → Reads absent old new → IsRefused absent block old new extent refusal
    → IsCopyRead spaces absent block i old new (Err refusal)
err_read spaces absent block i old new extent refusal copy reads cause = record {
  extent = extent;
  is_copy = copy;
  reads = reads.reads;
  untouched = reads.untouched;
  digest = tt;
  size = tt;
  choice = tt;
  right = tt;
  refused = cause;
}

pub fault_refused : (absent : List ℕ) (block : Block) (old new : Disks) (extent : Extent) → IsReadRefused absent block old new extent ReadDiskFault
    → IsRefused absent block old new extent DiskFault
fault_refused absent block old new extent (inl is) = absurd (cc)
fault_refused absent block old new extent (inr (inl (is, more))) = inr (inl (refl, more))
fault_refused absent block old new extent (inr (inr (is, none))) = absurd (cc)

pub digest_refused : (absent : List ℕ) (block : Block) (old new : Disks) (extent : Extent) → IsReadRefused absent block old new extent ReadBadDigest
    → IsRefused absent block old new extent BadDigest
digest_refused absent block old new extent (inl is) = absurd (cc)
digest_refused absent block old new extent (inr (inl (is, more))) = absurd (cc)
digest_refused absent block old new extent (inr (inr (is, none))) = inr (inr (refl, none))
