-- What reads of tables are refused for.
use Rattle.std.proofs.Common.{ℕ, ◌+◌, inl, inr, ⊎_elim, List}
use Rattle.block_store.specs.declared.refusal.Refusal.{Refusal}
use Rattle.block_store.specs.Store.{Store}
use Rattle.dnode.specs.declared.object_set.ObjectSet.{ObjectSet}
use Rattle.objset.proofs.NodeReadRefusals.{node_read}
use Rattle.dnode_tree.proofs.ReadRefusals.{bad_read}
use Rattle.dnode_tree.specs.ReadRefusals.{IsForRead}
use Rattle.objset.proofs.ReadRefusals.{data_read}
use Rattle.object_table.specs.declared.kind.TableKind.{TableKind}
use Rattle.object_table.specs.Ends.{IsEndRefused}
use Rattle.object_table.specs.Found.{AreBlocksRefused, IsTableRefused}

blocks_read : (old new : Store) (missing : List ℕ) (set : ObjectSet) (birth number count : ℕ) (refusal : Refusal) → AreBlocksRefused old new missing set birth number count refusal → IsForRead refusal
blocks_read old new missing set birth number count refusal (inl memory) = inl memory
blocks_read old new missing set birth number count refusal (inr (inl bad)) = bad_read refusal bad.0
blocks_read old new missing set birth number count refusal (inr (inr block)) = data_read block.mid new missing set birth number block.id refusal block.why

pub table_read : (old new : Store) (missing : List ℕ) (set : ObjectSet) (birth : ℕ) (kind : TableKind) (number : ℕ) (refusal : Refusal) → IsTableRefused old new missing set birth kind number refusal
    → IsForRead refusal
table_read old new missing set birth kind number refusal (inl node) = node_read old new missing set birth number refusal node
table_read old new missing set birth kind number refusal (inr (inl bad)) = bad_read refusal bad.0
table_read old new missing set birth kind number refusal (inr (inr rows)) = blocks_read rows.mid new missing set birth number (rows.highest + 1) refusal rows.why

pub end_read : (old new : Store) (missing : List ℕ) (set : ObjectSet) (birth : ℕ) (kind : TableKind) (number : ℕ) (refusal : Refusal) → IsEndRefused old new missing set birth kind number refusal → IsForRead refusal
end_read old new missing set birth kind number refusal (inl node) = node_read old new missing set birth number refusal node
end_read old new missing set birth kind number refusal (inr (inl bad)) = bad_read refusal bad.0
end_read old new missing set birth kind number refusal (inr (inr ends)) =
    ⊎_elim (λ hole. bad_read refusal hole.0) (λ why. data_read ends.why.mid new missing set birth number ends.why.id refusal why) ends.why.why
