-- Several data blocks that are read at once.
use Rattle.std.specs.declared.alloc.Global.{Global}
use Rattle.std.specs.List.{AllZip}
use Rattle.std.specs.Prelude.{ℕ, Vec, ◌≡◌, ◌⊎◌, ◌-◌, ◌<◌, ◌≤◌, ◌++◌, ◌∷◌, [], List, Option, Some, All, Contains}
use Rattle.block_pointer.specs.declared.block.Block.{Block}
use Rattle.block_store.specs.declared.block.Asked.{Asked}
use Rattle.block_store.specs.declared.refusal.Refusal.{Refusal}
use Rattle.block_store.specs.declared.refusal.Refusal.TheVariants.{NoMemory}
use Rattle.block_store.specs.Spaces.{VdevSpace}
use Rattle.block_store.specs.Blocks.{Contents}
use Rattle.block_store.specs.Reading.{IsReadAs}
use Rattle.block_store.specs.Steps.{AnswersTell}
use Rattle.block_store.specs.Store.{Store, Holds}
use Rattle.dnode.specs.declared.node.ObjectNode.{ObjectNode}
use Rattle.dnode_tree.specs.declared.subtree.Subtree.{Subtree}
use Rattle.dnode_tree.specs.PartsRefused.{reached_part}
use Rattle.dnode_tree.specs.Tree.{property_of, IsPart}
use Rattle.dnode_tree.specs.Ways.{bytes_of, IsFound, IsFoundBelow, IsRefused, IsRefusedBelow}

-- what is read of data blocks: of each its bytes, or nothing
abbrev pub FoundBlocks : Type 0
FoundBlocks = List (Option (Vec ℕ Global))

-- for each of the ids there is what the array has
abbrev pub AreAsIn : (ℕ → Option (List ℕ)) → List ℕ → FoundBlocks → Type 0
AreAsIn array ids found = AllZip (λ id block. bytes_of block ≡ array id) ids found

-- for each of the ids there is what was found of the object's data block
abbrev pub AreFound : List VdevSpace → ObjectNode → ℕ → List ℕ → FoundBlocks → Type 0
AreFound spaces node birth ids found =
    AllZip (λ id block. IsFound spaces node birth id (bytes_of block)) ids found

-- one of the object's data blocks was not read, none behind its highest id
abbrev pub IsOneRefused : Store → Store → List ℕ → ObjectNode → ℕ → List ℕ → Refusal → Type 0
IsOneRefused old new missing node birth ids refusal =
    (id : ℕ) × Contains ids id × (id ≤ node.highest) × IsRefused old new missing node birth id refusal

-- ---- Parts of a tree. Only the crate's own functions say these.

-- the ids are from the first on and before the end
abbrev pub AreIdsBetween : ℕ → ℕ → List ℕ → Type 0
AreIdsBetween first end ids = All (λ id. (first ≤ id) × (id < end)) ids

-- what was found at the places of these ids in a part, whose data blocks begin at the first
abbrev pub AreFoundIn : List VdevSpace → ObjectNode → Subtree → ℕ → List ℕ → FoundBlocks → Type 0
AreFoundIn spaces node part first ids found =
    AllZip (λ id block. IsFoundBelow spaces (property_of node) (reached_part part) (id - first) (bytes_of block)) ids found

-- for each of these ids what the part has was added, and the part was read for it
pub record HaveAdded (old new : Store) (missing : List ℕ) (node : ObjectNode) (part : Subtree) (first : ℕ) (ids : List ℕ)
    (before after : FoundBlocks) : Type 0 where
  pub more : FoundBlocks
  pub added : after ≡ before ++ more
  pub found : AreFoundIn old.spaces node part first ids more
  pub value : (stored : Contents) (array : ℕ → Option (List ℕ)) (blocks : List Block) → Holds old stored
      → IsPart stored node first part array blocks → AnswersTell old new missing → AreAsIn array ids more

-- a data block was read for the pointer, and its bytes were added
pub record IsDataAdded (old new : Store) (missing : List ℕ) (asked : Asked) (block : Block) (before after : FoundBlocks) : Type 0 where
  pub bytes : Vec ℕ Global
  pub added : after ≡ before ++ Some bytes ∷ []
  pub read : IsReadAs old.spaces asked block bytes.items
  pub value : (stored : Contents) (known : List ℕ) → Holds old stored → stored block ≡ Some known → AnswersTell old new missing
      → bytes.items ≡ known

-- there is not enough memory, or a block on the way to one of these ids was not read
abbrev pub IsOneRefusedIn : Store → Store → List ℕ → ObjectNode → Subtree → ℕ → List ℕ → Refusal → Type 0
IsOneRefusedIn old new missing node part first ids refusal =
    (refusal ≡ NoMemory)
    ⊎ ((id : ℕ) × Contains ids id
    × IsRefusedBelow old new missing (property_of node) (reached_part part) (id - first) refusal)
