-- Blocks that leave a reach, and blocks that join it.
use Rattle.std.specs.Prelude.{ℕ, ◌≡◌, ◌≢◌, ◌⊎◌, List, Some, None, Contains, length}
use Rattle.block_pointer.specs.Copies.{dvas}
use Rattle.block_pointer.specs.declared.block.Block.{Block}
use Rattle.block_store.specs.Blocks.{Contents}
use Rattle.dnode_tree.specs.Rewriting.{AreDistinct, AreTogether}

-- Some blocks of a reach were given for others: what stayed and what is gone are those before, what
-- stayed and what was added those after. What was added is new: it is there once, was not known, and
-- was born then. Nothing else is known now that was not.
pub record IsReachExchanged (birth : ℕ) (planned later : Contents) (before after gone : List Block)
    : Type 0 where
  pub stayed : List Block
  pub added : List Block
  pub before_are : AreTogether before stayed gone
  pub after_are : AreTogether after stayed added
  pub once : AreDistinct added
  pub fresh : (block : Block) → Contains added block → planned block ≡ None
  pub born : (block : Block) → Contains added block → block.birth ≡ birth
  pub known : (block : Block) → Contains added block
      → (bytes : List ℕ) × (later block ≡ Some bytes)
  pub only : (block : Block) (bytes : List ℕ) → later block ≡ Some bytes
      → Contains added block ⊎ (planned block ≡ Some bytes)

-- each block that is known now and was not has three copies
abbrev pub AddsMeta : Contents → Contents → Type 0
AddsMeta planned later = (block : Block) (bytes : List ℕ) → later block ≡ Some bytes
    → planned block ≡ None → length (dvas block.copies) ≡ 3

-- or none of them has
abbrev pub AddsData : Contents → Contents → Type 0
AddsData planned later = (block : Block) (bytes : List ℕ) → later block ≡ Some bytes
    → planned block ≡ None → length (dvas block.copies) ≢ 3
