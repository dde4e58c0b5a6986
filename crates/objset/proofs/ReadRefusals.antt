-- What reads of objects are refused for.
use Rattle.std.proofs.Common.{ℕ, inl, inr, List}
use Rattle.block_store.specs.declared.refusal.Refusal.{Refusal}
use Rattle.block_store.specs.Store.{Store}
use Rattle.dnode.specs.declared.object_set.ObjectSet.{ObjectSet}
use Rattle.objset.proofs.NodeReadRefusals.{node_read, nodes_read}
use Rattle.dnode_tree.proofs.ReadRefusals.{bad_read, data_read as block_read, within_read}
use Rattle.dnode_tree.specs.ReadRefusals.{IsForRead}
use Rattle.objset.specs.Found.{IsDataRefused}
use Rattle.objset.specs.Within.{IsSetWalkRefused}

pub data_read : (old new : Store) (missing : List ℕ) (set : ObjectSet) (birth number id : ℕ) (refusal : Refusal) → IsDataRefused old new missing set birth number id refusal → IsForRead refusal
data_read old new missing set birth number id refusal (inl node) = node_read old new missing set birth number refusal node
data_read old new missing set birth number id refusal (inr (inl bad)) = bad_read refusal bad.0
data_read old new missing set birth number id refusal (inr (inr there)) = block_read there.mid new missing there.node there.block_birth id refusal there.why

pub set_walk_read : (old new : Store) (missing : List ℕ) (set : ObjectSet) (birth before after : ℕ) (refusal : Refusal) → IsSetWalkRefused old new missing set birth before after refusal → IsForRead refusal
set_walk_read old new missing set birth before after refusal (inl memory) = inl memory
set_walk_read old new missing set birth before after refusal (inr (inl nodes)) = nodes_read old new missing set birth after refusal nodes
set_walk_read old new missing set birth before after refusal (inr (inr (inl there))) = within_read there.mid new missing there.it.node there.it.birth after refusal there.why
set_walk_read old new missing set birth before after refusal (inr (inr (inr bad))) = bad_read refusal bad.0
