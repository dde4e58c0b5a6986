-- Choices of which columns of a block are wrong.
use Rattle.std.specs.Prelude.{ℕ, ◌≡◌, ◌+◌, ◌<◌, ◌≤◌, Some, List, [], ◌∷◌, ◌++◌, length, sum, slice_get, Contains, All}
use Rattle.sha2.specs.Sha256.{sha256}
use Rattle.model_disk.specs.Joint.{Disks, content}
use Rattle.raidz_map.specs.declared.column.Column.{Column}
use Rattle.raidz_parity.specs.Layout.{Block, columns_of}
use Rattle.raidz_parity.specs.Parity.{IsParity}
use Rattle.raidz_io.specs.declared.vdev.Extent.{Extent}
use Rattle.raidz_io.specs.Places.{disk_of, offset_of}
use Rattle.raidz_io.specs.Reads.{OnlyReads, GaveSince, GivesTruly, absent_since, FewAreLost}
use Rattle.raidz_io.specs.Stands.{parity_of, IsLayout, all_columns, AreBytesOf, ExtentStands}
use Rattle.raidz_io.specs.Stripe.{stripe_sizes, HasSizes, read_columns, MatchesBut}

-- the block's columns are what reads since then gave, but for those on as many disks as it has parities
pub record IsChoice (old new : Disks) (extent : Extent) (block : List ℕ) : Type 0 where
  pub layout : List Column
  pub columns : Block
  pub is_layout : IsLayout extent layout
  pub are_bytes : AreBytesOf extent block layout columns
  pub wrong : List ℕ
  pub few : length wrong ≤ parity_of extent
  pub given : (i : ℕ) (column : Column) (bytes : List ℕ) → slice_get layout i ≡ Some column → slice_get (all_columns columns) i ≡ Some bytes
      → ¬ Contains wrong (disk_of extent.vdev column)
      → GaveSince (length old.calls) new.calls (disk_of extent.vdev column) (offset_of column) bytes

-- Enough columns were read, and neither a choice has the digest nor what stands on all but few disks, where the others gave what stood there.
pub record HasNoChoice (old new : Disks) (missing digest : List ℕ) (extent : Extent) : Type 0 where
  pub enough : FewAreLost extent (absent_since old new missing)
  pub no_choice : (block : List ℕ) → IsChoice old new extent block → ¬ (sha256 block ≡ digest)
  pub none_stands : (block wrong : List ℕ) → ((disk : ℕ) → ¬ Contains wrong disk → GivesTruly old new disk)
      → ExtentStands (content old) (absent_since old new missing ++ wrong) extent block
      → FewAreLost extent (absent_since old new missing ++ wrong) → ¬ (sha256 block ≡ digest)

-- no other bytes that what reads gave could be have the digest of a block that stood on all but few disks
abbrev pub DigestsTell : Disks → Disks → Type 0
DigestsTell old new =
    (extent : Extent) (absent block other : List ℕ) → FewAreLost extent absent → ExtentStands (content old) absent extent block → IsChoice old new extent other
    → sha256 other ≡ sha256 block → other ≡ block

-- where digests tell blocks, they do so in each part of the reads
abbrev pub PartsTell : Type 0
PartsTell = (old mid new : Disks) → OnlyReads old mid → OnlyReads mid new → DigestsTell old new → DigestsTell old mid × DigestsTell mid new

-- a choice of what later reads gave is one of what all gave
abbrev pub LaterChoicesStay : Type 0
LaterChoicesStay = (old mid new : Disks) (extent : Extent) (block : List ℕ) → OnlyReads old mid → IsChoice mid new extent block → IsChoice old new extent block

-- the columns, of these sizes, of a block
pub record IsWhole (parity : ℕ) (sizes block : List ℕ) (columns : Block) : Type 0 where
  pub block_size : length block ≡ sum sizes
  pub bytes : All (λ byte. byte < 256) block
  pub has_sizes : HasSizes parity sizes columns
  pub block_columns : columns.data_columns ≡ columns_of sizes block
  pub is_parity : IsParity columns

-- the block's columns are what was read but for the wrong ones, and it has the digest
pub record IsFound (digest : List ℕ) (parity : ℕ) (sizes bytes wrong block : List ℕ) : Type 0 where
  pub digest_is : sha256 block ≡ digest
  pub columns : Block
  pub whole : IsWhole parity sizes block columns
  pub matches : MatchesBut wrong (read_columns columns) (columns_of (stripe_sizes parity sizes) bytes)
  pub only : (other : List ℕ) (right : Block) → IsWhole parity sizes other right
      → MatchesBut wrong (read_columns right) (columns_of (stripe_sizes parity sizes) bytes) → block ≡ other

-- no block whose columns are what was read but for the wrong ones has the digest
abbrev pub HasNone : List ℕ → ℕ → List ℕ → List ℕ → List ℕ → Type 0
HasNone digest parity sizes bytes wrong =
    (block : List ℕ) (columns : Block) → IsWhole parity sizes block columns
    → MatchesBut wrong (read_columns columns) (columns_of (stripe_sizes parity sizes) bytes) → ¬ (sha256 block ≡ digest)

-- further columns in order, from one on
abbrev pub AreFurther : ℕ → ℕ → List ℕ → Type 0
AreFurther from count [] = Unit {0}
AreFurther from count (k ∷ further) = (from ≤ k) × (k < count) × AreFurther (k + 1) count further

-- a choice that was found
pub record IsFoundChoice (digest : List ℕ) (parity : ℕ) (sizes bytes lost block : List ℕ) : Type 0 where
  pub wrong : List ℕ
  pub few : length wrong ≤ parity
  pub below : All (λ k. k < length sizes + parity) wrong
  pub lost_are_wrong : (k : ℕ) → Contains lost k → Contains wrong k
  pub found : IsFound digest parity sizes bytes wrong block
