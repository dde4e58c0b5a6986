-- Refusals for lack of disks: a block is lost.
use Rattle.std.proofs.Common.{ℕ, ◌≡◌, ◌⊎◌, inl, inr, ◌/◌, List}
use Rattle.block_pointer.specs.declared.block.Block.{Block}
use Rattle.block_store.specs.declared.refusal.Refusal.{Refusal}
use Rattle.block_store.specs.declared.refusal.Refusal.TheVariants.{NoMemory, DiskFault, NoSpace}
use Rattle.block_store.specs.Losses.{IsBlockLost}
use Rattle.block_store.specs.Reading.{IsReadable}
use Rattle.block_store.specs.Store.{Store}
use Rattle.block_store.proofs.Losses.{read_lost, lost_later, lost_behind_reads}
use Rattle.dnode.specs.declared.object_set.ObjectSet.{ObjectSet}
use Rattle.dnode_tree.proofs.Losses.{refused_lost, within_lost}
use Rattle.objset.specs.NodesFound.{IsNodeRefused}
use Rattle.objset.specs.NodesRefused.{IsNodeWriteRefused}
use Rattle.objset.specs.NodesWithin.{asked_of_nodes, HasNoNode, AreNodesRefused}
use Rattle.objset.specs.Sets.{asked_of_set, SpellsNoSet, IsSetRefused}

pub set_lost : (old new : Store) (missing : List ℕ) (birth : ℕ) (block : Block) (refusal : Refusal)
    → IsSetRefused old new missing birth block refusal → refusal ≡ DiskFault → IsBlockLost old new missing
set_lost old new missing birth block refusal why is =
    read_lost old new missing block ((¬ IsReadable old.spaces (asked_of_set birth) block) ⊎ SpellsNoSet old.spaces birth block) refusal why is

pub node_lost : (old new : Store) (missing : List ℕ) (set : ObjectSet) (birth number : ℕ) (refusal : Refusal)
    → IsNodeRefused old new missing set birth number refusal → refusal ≡ DiskFault → IsBlockLost old new missing
node_lost old new missing set birth number refusal (inl why) is = refused_lost old new missing set.dnodes birth (number / 32) refusal why is
node_lost old new missing set birth number refusal (inr (bad, block)) is = absurd (cc)

pub node_write_lost : (old new : Store) (missing : List ℕ) (set : ObjectSet) (birth : ℕ) (numbers : List ℕ) (refusal : Refusal)
    → IsNodeWriteRefused old new missing set birth numbers refusal → refusal ≡ DiskFault → IsBlockLost old new missing
node_write_lost old new missing set birth numbers refusal there is = elim there.why [
  | inl why ↦ lost_later old there.mid new missing there.before (node_lost there.mid new missing set birth there.number refusal why is)
  | inr (bad, over) ↦ absurd (cc)
]

-- the same with the other causes of a plan
pub nodes_put_lost : (old new : Store) (missing : List ℕ) (set : ObjectSet) (birth : ℕ) (numbers : List ℕ) (Lack : Type 0) (refusal : Refusal)
    → (refusal ≡ NoMemory) ⊎ (((refusal ≡ NoSpace) × Lack) ⊎ IsNodeWriteRefused old new missing set birth numbers refusal)
    → refusal ≡ DiskFault → IsBlockLost old new missing
nodes_put_lost old new missing set birth numbers Lack refusal (inl memory) is = absurd (cc)
nodes_put_lost old new missing set birth numbers Lack refusal (inr (inl (space, lack))) is = absurd (cc)
nodes_put_lost old new missing set birth numbers Lack refusal (inr (inr why)) is = node_write_lost old new missing set birth numbers refusal why is

pub nodes_within_lost : (old new : Store) (missing : List ℕ) (set : ObjectSet) (birth left : ℕ) (refusal : Refusal)
    → AreNodesRefused old new missing set birth left refusal → refusal ≡ DiskFault → IsBlockLost old new missing
nodes_within_lost old new missing set birth left refusal (inl why) is = within_lost old new missing set.dnodes birth left refusal why is
nodes_within_lost old new missing set birth left refusal (inr there) is =
    lost_behind_reads old there.mid new missing there.before
    (read_lost there.mid new missing there.block
    ((left ≡ 0) ⊎ ((¬ IsReadable there.mid.spaces (asked_of_nodes there.block) there.block) ⊎ HasNoNode there.mid.spaces there.block)) refusal there.why is)
