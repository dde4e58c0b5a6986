use Rattle.std.proofs.Common.{Some, Contains, inl, inr}
use Rattle.std.specs.Prelude.{◌≡◌, ℕ, List}
use Rattle.block_pointer.specs.declared.block.Block.{Block}
use Rattle.block_store.specs.Blocks.{Contents, nothing_stored}
use Rattle.block_store.specs.Opened.{AreFound, IsOnDisks}
use Rattle.block_store.specs.Store.{Store}
use Rattle.block_store.proofs.laws.found_are_held.Goals as goal

-- a block that is known is one of these, on the disks
found : (store : Store) (blocks : List Block) (stored : Contents) → AreFound store blocks nothing_stored stored
    → (block : Block) (bytes : List ℕ) → stored block ≡ Some bytes → Contains blocks block × IsOnDisks store block bytes
found store blocks stored are block bytes known = elim (are block bytes known) [
  | inl was ↦ absurd (cc)
  | inr is ↦ is
]

pub returns : goal.returns
returns c store blocks stored are places = record {
  blocks = λ block bytes known. (found store blocks stored are block bytes known).1.written;
  places = λ block bytes known. places block (found store blocks stored are block bytes known).0;
  stand = λ block bytes i extent known copy. (found store blocks stored are block bytes known).1.stand i extent copy;
}
