-- What was read of a dnode, whether or not the object of the dnodes is whole.
use Rattle.std.specs.Prelude.{ℕ, ◌≡◌, ◌⊎◌, ◌/◌, ◌%◌, ◌<◌, ◌≤◌, List, Option, Some, None}
use Rattle.block_store.specs.declared.refusal.Refusal.{Refusal}
use Rattle.block_store.specs.declared.refusal.Refusal.TheVariants.{BadPointer}
use Rattle.block_store.specs.Spaces.{VdevSpace}
use Rattle.block_store.specs.Store.{Store}
use Rattle.dnode.specs.declared.dnode.Dnode.{Dnode}
use Rattle.dnode.specs.declared.dnode.Dnode.TheVariants.{Free}
use Rattle.dnode.specs.declared.object_set.ObjectSet.{ObjectSet}
use Rattle.dnode_tree.specs.Ways.{bytes_in, IsFound, IsBlockFound, IsRefused}
use Rattle.dnode_tree.specs.declared.reading.DataBlock.{DataBlock}
use Rattle.objset.specs.declared.node_reading.FoundDnode.{FoundDnode}
use Rattle.objset.specs.Nodes.{IsNodeIn, HasZeros}

-- a block of dnodes, or a hole, has zeros where there is no object
abbrev pub HasZerosIn : ℕ → ℕ → Option (List ℕ) → Type 0
HasZerosIn objects id None = Unit {0}
HasZerosIn objects id (Some bytes) = HasZeros objects id bytes

-- a dnode with the birth of its block
abbrev pub found_dnode : Dnode → ℕ → FoundDnode
found_dnode dnode birth = record { dnode = dnode; birth = birth }

-- the birth of a block; where there is none, the one that it would be asked
abbrev pub birth_or : ℕ → Option DataBlock → ℕ
birth_or birth None = birth
birth_or birth (Some block) = block.birth

-- the dnode stands at its place in its block, as that was read, and the birth is the block's
pub record IsNodeRead (spaces : List VdevSpace) (set : ObjectSet) (birth number : ℕ) (found : FoundDnode) : Type 0 where
  pub block : Option DataBlock
  pub block_found : IsBlockFound spaces set.dnodes birth (number / 32) block
  pub zeros : HasZerosIn set.objects (number / 32) (bytes_in block)
  pub is_in : IsNodeIn (bytes_in block) (number % 32) found.dnode
  pub born : found.birth ≡ birth_or birth block

-- what was found of a dnode: a free one behind the last, where nothing is read
abbrev pub IsNodeFound : List VdevSpace → ObjectSet → ℕ → ℕ → FoundDnode → Type 0
IsNodeFound spaces set birth number found =
    ((set.objects ≤ number) × (found ≡ found_dnode Free birth)) ⊎ ((number < set.objects) × IsNodeRead spaces set birth number found)

-- its block was read, and spells no dnode at its place, or has something else than zeros where there is no object
pub record IsBadBlock (spaces : List VdevSpace) (set : ObjectSet) (birth number : ℕ) : Type 0 where
  pub bytes : List ℕ
  pub found : IsFound spaces set.dnodes birth (number / 32) (Some bytes)
  pub why : ((node : Dnode) → ¬ IsNodeIn (Some bytes) (number % 32) node) ⊎ ¬ HasZeros set.objects (number / 32) bytes

-- why a dnode was not read
abbrev pub IsNodeRefused : Store → Store → List ℕ → ObjectSet → ℕ → ℕ → Refusal → Type 0
IsNodeRefused old new missing set birth number refusal =
    IsRefused old new missing set.dnodes birth (number / 32) refusal ⊎ ((refusal ≡ BadPointer) × IsBadBlock old.spaces set birth number)
