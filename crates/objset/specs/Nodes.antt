-- The dnodes of an object set by number.
use Rattle.std.specs.Prelude.{ℕ, ◌≡◌, ◌⊎◌, ◌+◌, ◌*◌, ◌/◌, ◌%◌, ◌<◌, ◌≤◌, List, Option, Some, None, take, drop, replicate}
use Rattle.block_pointer.specs.declared.block.Block.{Block}
use Rattle.dnode.specs.declared.dnode.Dnode.{Dnode}
use Rattle.dnode.specs.declared.dnode.Dnode.TheVariants.{Free}
use Rattle.dnode.specs.declared.object_set.ObjectSet.{ObjectSet}
use Rattle.dnode.specs.Dnode.{SpellsDnode}
use Rattle.block_store.specs.Blocks.{Contents}
use Rattle.dnode_tree.specs.Births.{HasBirths}
use Rattle.dnode_tree.specs.Tree.{IsTree}

-- the bytes of a dnode of a block
abbrev pub slot_of : List ℕ → ℕ → List ℕ
slot_of bytes place = take 512 (drop (512 * place) bytes)

-- the dnode at that place in a block of dnodes, 32 a block; a hole has free ones alone
abbrev pub IsNodeIn : Option (List ℕ) → ℕ → Dnode → Type 0
IsNodeIn None place node = node ≡ Free
IsNodeIn (Some bytes) place node = SpellsDnode (slot_of bytes place) node

-- the blocks have these dnodes, by number
abbrev pub AreNodesOf : (ℕ → Option (List ℕ)) → (ℕ → Dnode) → Type 0
AreNodesOf array nodes = (number : ℕ) → IsNodeIn (array (number / 32)) (number % 32) (nodes number)

-- number 0 has no object, and no number from the count on
abbrev pub IsUnused : ℕ → ℕ → Type 0
IsUnused objects number = (number ≡ 0) ⊎ (objects ≤ number)

-- in a block of dnodes, zeros stand where there is no object
abbrev pub HasZeros : ℕ → ℕ → List ℕ → Type 0
HasZeros objects id bytes = (place : ℕ) → place < 32 → IsUnused objects (32 * id + place) → slot_of bytes place ≡ replicate 512 0

-- the birth of the block that has the dnode of that number, by those of the blocks of the dnodes
abbrev pub birth_of : (ℕ → ℕ → ℕ) → ℕ → ℕ
birth_of births number = births 0 (number / 32)

-- The set's dnodes by number, and the blocks that they stand in, with their births. Number 0 is free, and so is what is behind the last one.
pub record HasNodes (stored : Contents) (birth : ℕ) (set : ObjectSet) (nodes : ℕ → Dnode) (blocks : List Block) : Type 0 where
  pub array : ℕ → Option (List ℕ)
  pub tree : IsTree stored birth set.dnodes array blocks
  pub births : ℕ → ℕ → ℕ
  pub born : HasBirths stored set.dnodes births
  pub each : AreNodesOf array nodes
  pub first : nodes 0 ≡ Free
  pub behind : (number : ℕ) → set.objects ≤ number → nodes number ≡ Free
