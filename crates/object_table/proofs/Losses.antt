-- Refusals for lack of disks: a block is lost.
use Rattle.std.proofs.Common.{ℕ, ◌≡◌, ◌+◌, inl, inr, ⊎_elim, List}
use Rattle.block_store.specs.declared.refusal.Refusal.{Refusal}
use Rattle.block_store.specs.declared.refusal.Refusal.TheVariants.{DiskFault}
use Rattle.block_store.specs.Losses.{IsBlockLost}
use Rattle.block_store.specs.Store.{Store}
use Rattle.block_store.proofs.Losses.{lost_behind_reads}
use Rattle.dnode.specs.declared.object_set.ObjectSet.{ObjectSet}
use Rattle.objset.proofs.NodeLosses.{node_lost}
use Rattle.objset.proofs.Losses.{data_lost}
use Rattle.object_table.specs.declared.kind.TableKind.{TableKind}
use Rattle.object_table.specs.Ends.{IsEndBlockRefused, IsEndRefused}
use Rattle.object_table.specs.Found.{AreBlocksRefused, IsTableRefused}

pub blocks_lost : (old new : Store) (missing : List ℕ) (set : ObjectSet) (birth number count : ℕ) (refusal : Refusal) → AreBlocksRefused old new missing set birth number count refusal → refusal ≡ DiskFault
    → IsBlockLost old new missing
blocks_lost old new missing set birth number count refusal (inl memory) is = absurd (cc)
blocks_lost old new missing set birth number count refusal (inr (inl (bad, hole))) is = absurd (cc)
blocks_lost old new missing set birth number count refusal (inr (inr block)) is =
    lost_behind_reads old block.mid new missing block.before (data_lost block.mid new missing set birth number block.id refusal block.why is)

pub table_lost : (old new : Store) (missing : List ℕ) (set : ObjectSet) (birth : ℕ) (kind : TableKind) (number : ℕ) (refusal : Refusal) → IsTableRefused old new missing set birth kind number refusal
    → refusal ≡ DiskFault → IsBlockLost old new missing
table_lost old new missing set birth kind number refusal (inl node) is = node_lost old new missing set birth number refusal node is
table_lost old new missing set birth kind number refusal (inr (inl (bad, other))) is = absurd (cc)
table_lost old new missing set birth kind number refusal (inr (inr rows)) is =
    lost_behind_reads old rows.mid new missing rows.before (blocks_lost rows.mid new missing set birth number (rows.highest + 1) refusal rows.why is)

end_block_lost : (old new : Store) (missing : List ℕ) (set : ObjectSet) (birth number highest : ℕ) (refusal : Refusal) → IsEndBlockRefused old new missing set birth number highest refusal
    → refusal ≡ DiskFault → IsBlockLost old new missing
end_block_lost old new missing set birth number highest refusal block is =
    lost_behind_reads old block.mid new missing block.before
    (⊎_elim (λ hole. absurd (cc hole.0)) (λ why. data_lost block.mid new missing set birth number block.id refusal why is) block.why)

pub end_lost : (old new : Store) (missing : List ℕ) (set : ObjectSet) (birth : ℕ) (kind : TableKind) (number : ℕ) (refusal : Refusal) → IsEndRefused old new missing set birth kind number refusal
    → refusal ≡ DiskFault → IsBlockLost old new missing
end_lost old new missing set birth kind number refusal (inl node) is = node_lost old new missing set birth number refusal node is
end_lost old new missing set birth kind number refusal (inr (inl (bad, other))) is = absurd (cc)
end_lost old new missing set birth kind number refusal (inr (inr ends)) is =
    lost_behind_reads old ends.mid new missing ends.before (end_block_lost ends.mid new missing set birth number ends.highest refusal ends.why is)
