-- What reads of dnodes and sets are refused for.
use Rattle.std.proofs.Common.{ℕ, ◌≡◌, ◌⊎◌, ◌/◌, ◌++◌, inl, inr, List}
use Rattle.block_pointer.specs.declared.block.Block.{Block}
use Rattle.block_store.specs.declared.refusal.Refusal.{Refusal}
use Rattle.block_store.specs.Reading.{IsReadable}
use Rattle.block_store.specs.Store.{Store, outs}
use Rattle.dnode.specs.declared.object_set.ObjectSet.{ObjectSet}
use Rattle.dnode_tree.proofs.ReadRefusals.{bad_read, block_read, data_read, within_read}
use Rattle.dnode_tree.specs.ReadRefusals.{IsForRead}
use Rattle.objset.specs.NodesFound.{IsNodeRefused}
use Rattle.objset.specs.Sets.{asked_of_set, SpellsNoSet, IsSetRefused}
use Rattle.objset.specs.NodesWithin.{asked_of_nodes, HasNoNode, AreNodesRefused}

pub set_read : (old new : Store) (missing : List ℕ) (birth : ℕ) (block : Block) (refusal : Refusal) → IsSetRefused old new missing birth block refusal → IsForRead refusal
set_read old new missing birth block refusal why =
    block_read old new (outs old ++ missing) block ((¬ IsReadable old.spaces (asked_of_set birth) block) ⊎ SpellsNoSet old.spaces birth block) refusal why

pub node_read : (old new : Store) (missing : List ℕ) (set : ObjectSet) (birth number : ℕ) (refusal : Refusal) → IsNodeRefused old new missing set birth number refusal → IsForRead refusal
node_read old new missing set birth number refusal (inl why) = data_read old new missing set.dnodes birth (number / 32) refusal why
node_read old new missing set birth number refusal (inr bad) = bad_read refusal bad.0

pub nodes_read : (old new : Store) (missing : List ℕ) (set : ObjectSet) (birth left : ℕ) (refusal : Refusal) → AreNodesRefused old new missing set birth left refusal → IsForRead refusal
nodes_read old new missing set birth left refusal (inl why) = within_read old new missing set.dnodes birth left refusal why
nodes_read old new missing set birth left refusal (inr there) =
    block_read there.mid new (outs there.mid ++ missing) there.block
    ((left ≡ 0) ⊎ ((¬ IsReadable there.mid.spaces (asked_of_nodes there.block) there.block) ⊎ HasNoNode there.mid.spaces there.block)) refusal there.why
