-- Blocks of object sets.
use Rattle.std.specs.Prelude.{ℕ, ◌≡◌, ◌⊎◌, ◌++◌, Some, List}
use Rattle.block_pointer.specs.declared.block.Block.{Block}
use Rattle.dnode.specs.declared.object_set.ObjectSet.{ObjectSet}
use Rattle.dnode.specs.ObjectSet.{SpellsObjectSet}
use Rattle.block_store.specs.declared.block.Asked.{Asked}
use Rattle.block_store.specs.Blocks.{Contents}
use Rattle.block_store.specs.declared.refusal.Refusal.{Refusal}
use Rattle.block_store.specs.declared.refusal.Refusal.TheVariants.{NoMemory, BadPointer}
use Rattle.block_store.specs.Spaces.{VdevSpace}
use Rattle.block_store.specs.Reading.{Asks, IsReadable, IsReadAs, IsLastFault}
use Rattle.block_store.specs.Store.{Store, outs}

-- what a pointer to an object set is asked: level 0, the type 11, 1,024 bytes, and the latest birth
abbrev pub asked_of_set : ℕ → Asked
asked_of_set birth = record { property = record { level = 0; object_type = 11; sectors = 2 }; birth = birth }

-- the block was born by then, and its bytes spell the object set
pub record IsSetBlock (stored : Contents) (birth : ℕ) (block : Block) (set : ObjectSet) : Type 0 where
  pub asks : Asks (asked_of_set birth) block
  pub bytes : List ℕ
  pub known : stored block ≡ Some bytes
  pub spelled : SpellsObjectSet bytes set

-- the bytes that were read for the pointer spell the set
pub record IsSetFound (spaces : List VdevSpace) (birth : ℕ) (block : Block) (set : ObjectSet) : Type 0 where
  pub bytes : List ℕ
  pub read : IsReadAs spaces (asked_of_set birth) block bytes
  pub spelled : SpellsObjectSet bytes set

-- or spell none
pub record SpellsNoSet (spaces : List VdevSpace) (birth : ℕ) (block : Block) : Type 0 where
  pub bytes : List ℕ
  pub read : IsReadAs spaces (asked_of_set birth) block bytes
  pub none : (set : ObjectSet) → ¬ SpellsObjectSet bytes set

-- why a set was not read: its pointer may not be, or it spells no set, or its last copy was at fault
abbrev pub IsSetRefused : Store → Store → List ℕ → ℕ → Block → Refusal → Type 0
IsSetRefused old new missing birth block refusal =
    (refusal ≡ NoMemory)
    ⊎ (((refusal ≡ BadPointer) × ((¬ IsReadable old.spaces (asked_of_set birth) block) ⊎ SpellsNoSet old.spaces birth block))
    ⊎ IsLastFault old new (outs old ++ missing) block refusal)
