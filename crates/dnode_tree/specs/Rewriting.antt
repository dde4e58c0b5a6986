-- Trees in which blocks gave way to new ones.
use Rattle.std.specs.Prelude.{ℕ, ◌≡◌, ◌≢◌, ◌⊎◌, ◌+◌, ◌≤◌, Bool, List, length, Option, Some, None, Contains, count_by, All, AllPairs}
use Rattle.block_pointer.specs.declared.block.Block.{Block}
use Rattle.block_pointer.specs.Copies.{dvas}
use Rattle.block_store.specs.Blocks.{Contents, Extends}
use Rattle.dnode.specs.declared.node.ObjectNode.{ObjectNode}
use Rattle.dnode_tree.specs.declared.writes.BlockWrite.{BlockWrite}
use Rattle.dnode_tree.specs.declared.writes.CopyCounts.{CopyCounts}
use Rattle.dnode_tree.specs.declared.writes.Rewrite.{Rewrite}
use Rattle.dnode_tree.specs.Tree.{IsTree}
use Rattle.dnode_tree.specs.Writes.{copies_at}

-- The two lists together have the blocks of the whole: each test passes as many there.
abbrev pub AreTogether : List Block → List Block → List Block → Type 0
AreTogether whole first second = (test : Block → Bool) → count_by test whole ≡ count_by test first + count_by test second

-- no block is there twice
abbrev pub AreDistinct : List Block → Type 0
AreDistinct blocks = AllPairs (λ block later. block ≢ later) blocks

-- Some blocks were given for others: what stayed and what is gone are those before, what stayed and what was added those after. What
-- was added is new: it is there once, was not known, was born then, and each block has as many copies as its level is to have. Nothing
-- else is known now that was not.
pub record IsExchanged (copies : CopyCounts) (birth : ℕ) (planned later : Contents) (before after gone : List Block) : Type 0 where
  pub stayed : List Block
  pub added : List Block
  pub before_are : AreTogether before stayed gone
  pub after_are : AreTogether after stayed added
  pub once : AreDistinct added
  pub fresh : (block : Block) → Contains added block → planned block ≡ None
  pub born : (block : Block) → Contains added block → block.birth ≡ birth
  pub copied : (block : Block) → Contains added block → length (dvas block.copies) ≡ copies_at copies block.property.level
  pub known : (block : Block) → Contains added block → (bytes : List ℕ) × (later block ≡ Some bytes)
  pub only : (block : Block) (bytes : List ℕ) → later block ≡ Some bytes → Contains added block ⊎ (planned block ≡ Some bytes)

-- The object with the writes: it has a place for each of them, and no more than it needs.
pub record IsGrown (old new : ObjectNode) (writes : List BlockWrite) : Type 0 where
  pub object_type : new.object_type ≡ old.object_type
  pub data_sectors : new.data_sectors ≡ old.data_sectors
  pub from : old.highest ≤ new.highest
  pub room : All (λ write. write.id ≤ new.highest) writes
  pub least : (highest : ℕ) → old.highest ≤ highest → All (λ write. write.id ≤ highest) writes → new.highest ≤ highest

-- The object's tree reads as the array. Of its blocks before some stayed, those that are replaced gave way, and all others are new.
pub record IsRewritten (copies : CopyCounts) (planned later : Contents) (birth : ℕ) (done : Rewrite) (array : ℕ → Option (List ℕ)) (before : List Block) : Type 0 where
  pub kept : Extends planned later
  pub blocks : List Block
  pub tree : IsTree later birth done.node array blocks
  pub exchanged : IsExchanged copies birth planned later before blocks done.replaced.items
