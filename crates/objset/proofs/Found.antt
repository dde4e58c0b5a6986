-- What is found depends on the shapes of the vdevs alone.
use Rattle.std.proofs.Common.{◌≡◌, inl, inr, ℕ, zero, suc, List, Option, Some, None}
use Rattle.block_pointer.specs.declared.pointer.BlockPtr.{BlockPtr}
use Rattle.block_pointer.specs.declared.property.Property.{Property}
use Rattle.block_store.specs.Spaces.{VdevSpace}
use Rattle.block_store.specs.Places.{shapes_of}
use Rattle.block_store.proofs.Steps.{read_in}
use Rattle.dnode.specs.declared.dnode.Dnode.{Dnode}
use Rattle.dnode.specs.declared.node.ObjectNode.{ObjectNode}
use Rattle.dnode.specs.declared.object_set.ObjectSet.{ObjectSet}
use Rattle.objset.specs.declared.node_reading.FoundDnode.{FoundDnode}
use Rattle.objset.specs.NodesFound.{found_dnode, IsNodeFound}
use Rattle.dnode_tree.specs.declared.reading.DataBlock.{DataBlock}
use Rattle.objset.specs.Found.{IsDnodeBornBy, IsDnodeFound, IsDnodeLate}
use Rattle.dnode_tree.specs.Tree.{property_of}
use Rattle.dnode_tree.specs.Ways.{Reached, root_of, bytes_in, ComesTo, HasFound, IsBlockFound, asked_there}

module _ (spaces others : List VdevSpace) (same : shapes_of others ≡ shapes_of spaces) where
  comes_in : (property : ℕ → Property) (level birth : ℕ) (pointer : BlockPtr) (place : ℕ) (there : Reached) → ComesTo others property level birth pointer place there
      → ComesTo spaces property level birth pointer place there
  comes_in property zero birth pointer place there comes = comes
  comes_in property (suc level) birth pointer place there (inl here) = inl here
  comes_in property (suc level) birth pointer place there (inr (block, pointers, is, read, comes)) =
      inr (
        block,
        pointers,
        is,
        record { bytes = read.bytes; read = read_in spaces others _ block read.bytes same read.read; spelled = read.spelled },
        comes_in property level block.birth _ _ there comes,
      )

  has_in : (property : ℕ → Property) (there : Reached) (found : Option (List ℕ)) → HasFound others property there found → HasFound spaces property there found
  has_in property there None has = has
  has_in property there (Some bytes) (block, low, is, read) = (block, low, is, read_in spaces others (asked_there property there) block bytes same read)

  block_in : (node : ObjectNode) (birth id : ℕ) (found : Option DataBlock) → IsBlockFound others node birth id found → IsBlockFound spaces node birth id found
  block_in node birth id found (inl behind) = inl behind
  block_in node birth id found (inr (low, block)) =
      let root : Reached = root_of node birth in
      inr (
        low,
        record {
          below = record {
            there = block.below.there;
            leads = comes_in (property_of node) root.level root.birth root.pointer id block.below.there block.below.leads;
            has = has_in (property_of node) block.below.there (bytes_in found) block.below.has;
          };
          born = block.born;
        },
      )

  pub node_found_in : (set : ObjectSet) (birth number : ℕ) (found : FoundDnode) → IsNodeFound others set birth number found → IsNodeFound spaces set birth number found
  node_found_in set birth number found (inl behind) = inl behind
  node_found_in set birth number found (inr (low, read)) =
      inr (low, record { block = read.block; block_found = block_in set.dnodes birth _ read.block read.block_found; zeros = read.zeros; is_in = read.is_in; born = read.born })

  pub dnode_found_in : (set : ObjectSet) (birth number : ℕ) (dnode : Dnode) → IsDnodeFound others set birth number dnode → IsDnodeFound spaces set birth number dnode
  dnode_found_in set birth number dnode (block_birth, found, born) = (block_birth, node_found_in set birth number (found_dnode dnode block_birth) found, born)

  pub dnode_late_in : (set : ObjectSet) (birth number : ℕ) → IsDnodeLate others set birth number → IsDnodeLate spaces set birth number
  dnode_late_in set birth number (dnode, block_birth, found, late) = (dnode, block_birth, node_found_in set birth number (found_dnode dnode block_birth) found, late)

-- a dnode that was read, in its block
pub dnode_found_of : {spaces : List VdevSpace} {set : ObjectSet} {birth number : ℕ} (found : FoundDnode) → IsNodeFound spaces set birth number found → IsDnodeBornBy found.birth found.dnode
    → IsDnodeFound spaces set birth number found.dnode
dnode_found_of found is born = (found.birth, is, born)
