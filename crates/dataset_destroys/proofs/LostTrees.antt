-- Younger blocks that are not found for lack of disks: a block is lost.
use Rattle.std.proofs.Common.{ℕ, ◌≡◌, ◌⊎◌, Bool, inl, inr, List, []}
use Rattle.block_pointer.specs.declared.block.Block.{Block}
use Rattle.block_store.proofs.Losses.{lost_behind_reads, read_lost}
use Rattle.block_store.specs.Losses.{IsBlockLost}
use Rattle.block_store.specs.Reading.{IsReadable}
use Rattle.block_store.specs.Store.{Store}
use Rattle.block_store.specs.declared.refusal.Refusal.{Refusal}
use Rattle.block_store.specs.declared.refusal.Refusal.TheVariants.{DiskFault}
use Rattle.dnode.specs.declared.node.ObjectNode.{ObjectNode}
use Rattle.dnode.specs.declared.object_set.ObjectSet.{ObjectSet}
use Rattle.objset.proofs.NodeLosses.{set_lost}
use Rattle.objset.specs.NodesWithin.{HasNoNode, asked_of_nodes}
use Rattle.objset.specs.NodesYounger.{AreYoungerRefused}
use Rattle.dnode_tree.proofs.Losses.{cause_lost}
use Rattle.dnode_tree.specs.Tree.{property_of}
use Rattle.dnode_tree.specs.Younger.{IsWithinRefusedWhere, is_younger}
use Rattle.objset.specs.Younger.{IsYoungerSetRefused}
use Rattle.dataset_destroys.specs.Younger.{IsTreeMissed, IsTreeRefused}

where_lost : (picks : Block → Bool) (old new : Store) (missing : List ℕ) (node : ObjectNode) (birth left : ℕ) (refusal : Refusal) → IsWithinRefusedWhere picks old new missing node birth left refusal
    → refusal ≡ DiskFault → IsBlockLost old new missing
where_lost picks old new missing node birth left refusal (inl why) is = cause_lost old new missing (property_of node) why.there refusal why.fault is
where_lost picks old new missing node birth left refusal (inr (bad, why)) is = absurd (cc)

nodes_lost : (since : ℕ) (old new : Store) (missing : List ℕ) (set : ObjectSet) (birth left : ℕ) (refusal : Refusal) → AreYoungerRefused since old new missing set birth left refusal
    → refusal ≡ DiskFault → IsBlockLost old new missing
nodes_lost since old new missing set birth left refusal (inl why) is = where_lost (is_younger since) old new missing set.dnodes birth left refusal why is
nodes_lost since old new missing set birth left refusal (inr there) is =
    lost_behind_reads old there.mid new missing there.before
    (read_lost there.mid new missing there.block
    ((left ≡ 0) ⊎ ((¬ IsReadable there.mid.spaces (asked_of_nodes there.block) there.block) ⊎ HasNoNode there.mid.spaces there.block)) refusal there.why is)

younger_set_lost : (since : ℕ) (old new : Store) (missing : List ℕ) (set : ObjectSet) (birth before after : ℕ) (refusal : Refusal)
    → IsYoungerSetRefused since old new missing set birth before after refusal → refusal ≡ DiskFault → IsBlockLost old new missing
younger_set_lost since old new missing set birth before after refusal (inl memory) is = absurd (cc)
younger_set_lost since old new missing set birth before after refusal (inr (inl nodes)) is = nodes_lost since old new missing set birth after refusal nodes is
younger_set_lost since old new missing set birth before after refusal (inr (inr (inl there))) is =
    lost_behind_reads old there.mid new missing there.before (where_lost (is_younger since) there.mid new missing there.it.node there.it.birth after refusal there.why is)
younger_set_lost since old new missing set birth before after refusal (inr (inr (inr (bad, twice)))) is = absurd (cc)

missed_lost : (old new : Store) (birth : ℕ) (block : Block) (before : ℕ) (refusal : Refusal) → IsTreeMissed old new birth block before refusal → refusal ≡ DiskFault → IsBlockLost old new []
missed_lost old new birth block before refusal (inl (bad, none)) is = absurd (cc)
missed_lost old new birth block before refusal (inr (inl refused)) is = set_lost old new [] birth block refusal refused is
missed_lost old new birth block before refusal (inr (inr (bad, other))) is = absurd (cc)

pub tree_lost : (since : ℕ) (old new : Store) (birth : ℕ) (block : Block) (before after : ℕ) (refusal : Refusal) → IsTreeRefused since old new birth block before after refusal → refusal ≡ DiskFault
    → IsBlockLost old new []
tree_lost since old new birth block before after refusal (inl memory) is = absurd (cc)
tree_lost since old new birth block before after refusal (inr (inl missed)) is = missed_lost old new birth block before refusal missed is
tree_lost since old new birth block before after refusal (inr (inr tree)) is =
    lost_behind_reads old tree.mid new [] tree.first (younger_set_lost since tree.mid new [] tree.set block.birth tree.left after refusal tree.why is)
