-- Blocks, and the bytes that they were written with.
use Rattle.std.specs.Prelude.{ℕ, ◌≡◌, ◌≢◌, ◌*◌, ◌<◌, ◌⊎◌, Option, Some, None, List, length, All, AllPairs, Contains}
use Rattle.sha2.specs.Sha256.{sha256}
use Rattle.block_pointer.specs.declared.block.Block.{Block}
use Rattle.block_pointer.specs.Block.{FitsBlock}
use Rattle.block_pointer.specs.Copies.{dvas}
use Rattle.block_pointer.specs.Property.{FitsProperty}
use Rattle.block_store.specs.declared.block.CopyCount.{CopyCount}
use Rattle.block_store.specs.declared.block.CopyCount.TheVariants.{One, Two, Three}
use Rattle.block_store.specs.declared.block.NewBlock.{NewBlock}

-- Blocks that are known, each with the bytes that it was written with. No code has this map.
abbrev pub Contents : Type 0
Contents = Block → Option (List ℕ)

-- no block is known
abbrev pub nothing_stored : Contents
nothing_stored block = None

-- each block that was known is known, with the same bytes
abbrev pub Extends : Contents → Contents → Type 0
Extends old new = (block : Block) (bytes : List ℕ) → old block ≡ Some bytes → new block ≡ Some bytes

-- these blocks are known
abbrev pub AreStored : Contents → List Block → Type 0
AreStored stored blocks = (block : Block) → Contains blocks block → (bytes : List ℕ) × (stored block ≡ Some bytes)

-- no block is there twice
abbrev pub AreDistinct : List Block → Type 0
AreDistinct blocks = AllPairs (λ block later. block ≢ later) blocks

-- this block is known too, and no other
pub record Adds (old new : Contents) (block : Block) (bytes : List ℕ) : Type 0 where
  pub fresh : old block ≡ None
  pub added : new block ≡ Some bytes
  pub kept : Extends old new
  pub only : (other : Block) (known : List ℕ) → new other ≡ Some known → ((other ≡ block) × (known ≡ bytes)) ⊎ (old other ≡ Some known)

-- the pointer tells the size and the digest of the bytes, and has a spelling
pub record IsWrittenAs (block : Block) (bytes : List ℕ) : Type 0 where
  pub fits : FitsBlock block
  pub size : length bytes ≡ block.property.sectors * 512
  pub are_bytes : All (λ byte. byte < 256) bytes
  pub digest : sha256 bytes ≡ block.checksum

-- a block that may be written
pub record FitsNew (new : NewBlock) : Type 0 where
  pub property : FitsProperty new.property
  pub born : 0 < new.birth
  pub filled : 0 < new.fill
  pub fill_of_data : new.property.level ≡ 0 → new.fill ≡ 1

-- how many copies
abbrev pub count_of : CopyCount → ℕ
count_of One = 1
count_of Two = 2
count_of Three = 3

-- the pointer says what was asked, of these bytes and so many copies
pub record IsBlockOf (new : NewBlock) (bytes : List ℕ) (copies : ℕ) (block : Block) : Type 0 where
  pub property : block.property ≡ new.property
  pub birth : block.birth ≡ new.birth
  pub fill : block.fill ≡ new.fill
  pub checksum : block.checksum ≡ sha256 bytes
  pub count : length (dvas block.copies) ≡ copies
