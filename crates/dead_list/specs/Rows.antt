-- The rows of a dead list: a block pointer each, of 128 bytes.
use Rattle.std.specs.Prelude.{◌≡◌, ℕ, List, length, IsPermutation}
use Rattle.std.specs.List.{AllByRecursion, flat_map}
use Rattle.block_pointer.specs.declared.block.Block.{Block}
use Rattle.block_pointer.specs.declared.pointer.BlockPtr.TheVariants as pointers
use Rattle.block_pointer.specs.Block.{FitsBlock}
use Rattle.block_pointer.specs.Pointer.{spelling}

-- the pointer of a block
abbrev pub row : Block → List ℕ
row block = spelling (pointers.Block block)

-- a block that has a row
abbrev pub FitsRow : Block → Type 0
FitsRow block = FitsBlock block × (length (row block) ≡ 128)

-- the bytes of the rows of these blocks, one after another
abbrev pub rows : List Block → List ℕ
rows blocks = flat_map row blocks

-- these bytes are the rows of these blocks, in this order
pub record SpellsRows (bytes : List ℕ) (blocks : List Block) : Type 0 where
  pub each : AllByRecursion FitsRow blocks
  pub spelled : bytes ≡ rows blocks

-- these bytes are the rows of these blocks, in some order
abbrev pub SpellsList : List ℕ → List Block → Type 0
SpellsList bytes list = (blocks : List Block) × IsPermutation blocks list × SpellsRows bytes blocks

-- these bytes are no rows
abbrev pub SpellsNoList : List ℕ → Type 0
SpellsNoList bytes = (blocks : List Block) → ¬ SpellsRows bytes blocks
