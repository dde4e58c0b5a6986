-- Refusals for lack of disks: a block is lost.
use Rattle.std.proofs.Common.{ℕ, ◌≡◌, inl, inr, List, map}
use Rattle.block_store.specs.declared.refusal.Refusal.{Refusal}
use Rattle.block_store.specs.declared.refusal.Refusal.TheVariants.{DiskFault}
use Rattle.block_store.specs.Losses.{IsBlockLost}
use Rattle.block_store.specs.Store.{Store}
use Rattle.block_store.proofs.Losses.{lost_later, lost_behind_reads}
use Rattle.dnode.specs.declared.dnode.Dnode.{Dnode}
use Rattle.dnode.specs.declared.dnode.Dnode.TheVariants.{Free as NoObject, Object as Node}
use Rattle.dnode.specs.declared.object_set.ObjectSet.{ObjectSet}
use Rattle.objset.proofs.NodeLosses.{node_lost, node_write_lost, nodes_within_lost}
use Rattle.dnode_tree.specs.Tree.{property_of}
use Rattle.dnode_tree.specs.Ways.{root_of}
use Rattle.dnode_tree.proofs.Losses.{refused_lost, walk_lost, within_lost, write_lost}
use Rattle.objset.specs.declared.changes.Change.{Change}
use Rattle.objset.specs.declared.changes.Change.TheVariants.{Create, Put, Free, Replace}
use Rattle.objset.specs.declared.changes.ObjectChange.{ObjectChange}
use Rattle.objset.specs.Found.{IsDataRefused, IsObjectWalkRefused}
use Rattle.objset.specs.Refused.{IsTreeRefused, IsObjectRefused, IsChangeRefused}
use Rattle.objset.specs.Within.{IsSetWalkRefused}

pub data_lost : (old new : Store) (missing : List ℕ) (set : ObjectSet) (birth number id : ℕ) (refusal : Refusal) → IsDataRefused old new missing set birth number id refusal → refusal ≡ DiskFault
    → IsBlockLost old new missing
data_lost old new missing set birth number id refusal (inl node) is = node_lost old new missing set birth number refusal node is
data_lost old new missing set birth number id refusal (inr (inl (bad, block_birth, free))) is = absurd (cc)
data_lost old new missing set birth number id refusal (inr (inr there)) is =
    lost_behind_reads old there.mid new missing there.before (refused_lost there.mid new missing there.node there.block_birth id refusal there.why is)

pub object_walk_lost : (old new : Store) (missing : List ℕ) (set : ObjectSet) (birth number : ℕ) (refusal : Refusal) → IsObjectWalkRefused old new missing set birth number refusal → refusal ≡ DiskFault
    → IsBlockLost old new missing
object_walk_lost old new missing set birth number refusal (inl node) is = node_lost old new missing set birth number refusal node is
object_walk_lost old new missing set birth number refusal (inr (inl (bad, block_birth, free))) is = absurd (cc)
object_walk_lost old new missing set birth number refusal (inr (inr there)) is =
    lost_behind_reads old there.mid new missing there.before
    (walk_lost there.mid new missing (property_of there.node) (root_of there.node there.block_birth) refusal there.why is)

pub tree_lost : (old new : Store) (missing : List ℕ) (birth : ℕ) (change : Change) (dnode : Dnode) (refusal : Refusal) → IsTreeRefused old new missing birth change dnode refusal → refusal ≡ DiskFault
    → IsBlockLost old new missing
tree_lost old new missing birth (Put writes) (Node node) refusal why is = write_lost old new missing node birth writes.items refusal why is
tree_lost old new missing birth Free (Node node) refusal why is = walk_lost old new missing (property_of node) (root_of node birth) refusal why is
tree_lost old new missing birth (Replace writes) (Node node) refusal why is = walk_lost old new missing (property_of node) (root_of node birth) refusal why is
tree_lost old new missing birth (Create object_type sectors writes) dnode refusal why is = absurd why
tree_lost old new missing birth (Put writes) NoObject refusal why is = absurd why
tree_lost old new missing birth Free NoObject refusal why is = absurd why
tree_lost old new missing birth (Replace writes) NoObject refusal why is = absurd why

pub object_lost : (old new : Store) (missing : List ℕ) (set : ObjectSet) (birth : ℕ) (change : ObjectChange) (refusal : Refusal) → IsObjectRefused old new missing set birth change refusal → refusal ≡ DiskFault
    → IsBlockLost old new missing
object_lost old new missing set birth change refusal there is = elim there.why [
  | inl (bad, misfit) ↦ absurd (cc)
  | inr tree ↦ lost_later old there.mid new missing there.before (tree_lost there.mid new missing birth change.change there.dnode refusal tree is)
]

pub change_lost : (old new : Store) (missing : List ℕ) (set : ObjectSet) (before birth : ℕ) (changes : List ObjectChange) (refusal : Refusal) → IsChangeRefused old new missing set before birth changes refusal
    → refusal ≡ DiskFault → IsBlockLost old new missing
change_lost old new missing set before birth changes refusal (inl (bad, late)) is = absurd (cc)
change_lost old new missing set before birth changes refusal (inr (inl nodes)) is =
    node_write_lost old new missing set birth (map (λ (change : ObjectChange). change.number) changes) refusal nodes is
change_lost old new missing set before birth changes refusal (inr (inr (inl (k, change, low, at, object)))) is = object_lost old new missing set birth change refusal object is
change_lost old new missing set before birth changes refusal (inr (inr (inr (bad, late)))) is = absurd (cc)

pub set_walk_lost : (old new : Store) (missing : List ℕ) (set : ObjectSet) (birth before after : ℕ) (refusal : Refusal) → IsSetWalkRefused old new missing set birth before after refusal → refusal ≡ DiskFault
    → IsBlockLost old new missing
set_walk_lost old new missing set birth before after refusal (inl memory) is = absurd (cc)
set_walk_lost old new missing set birth before after refusal (inr (inl nodes)) is = nodes_within_lost old new missing set birth after refusal nodes is
set_walk_lost old new missing set birth before after refusal (inr (inr (inl there))) is =
    lost_behind_reads old there.mid new missing there.before (within_lost there.mid new missing there.it.node there.it.birth after refusal there.why is)
set_walk_lost old new missing set birth before after refusal (inr (inr (inr (bad, twice)))) is = absurd (cc)
