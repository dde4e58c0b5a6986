-- What reads of the pool's tables and records are refused for.
use Rattle.std.proofs.Common.{ℕ, inl, inr, List}
use Rattle.block_store.specs.declared.refusal.Refusal.{Refusal}
use Rattle.block_store.specs.Store.{Store}
use Rattle.dnode.specs.declared.object_set.ObjectSet.{ObjectSet}
use Rattle.objset.proofs.NodeReadRefusals.{node_read}
use Rattle.dnode_tree.proofs.ReadRefusals.{bad_read}
use Rattle.dnode_tree.specs.ReadRefusals.{IsForRead}
use Rattle.objset.proofs.ReadRefusals.{data_read}
use Rattle.object_table.specs.declared.kind.TableKind.{TableKind}
use Rattle.object_table.proofs.ReadRefusals.{table_read}
use Rattle.meta_objset.specs.Found.{IsRowsRefused, IsRecordRefused}

pub rows_read : (old new : Store) (missing : List ℕ) (set : ObjectSet) (birth : ℕ) (kind : TableKind) (number : ℕ) (MayHave : List ℕ → Type 0) (refusal : Refusal)
    → IsRowsRefused old new missing set birth kind number MayHave refusal → IsForRead refusal
rows_read old new missing set birth kind number MayHave refusal (inl table) = table_read old new missing set birth kind number refusal table
rows_read old new missing set birth kind number MayHave refusal (inr bad) = bad_read refusal bad.0

pub record_read : (old new : Store) (missing : List ℕ) (set : ObjectSet) (birth number : ℕ) (refusal : Refusal) → IsRecordRefused old new missing set birth number refusal → IsForRead refusal
record_read old new missing set birth number refusal (inl node) = node_read old new missing set birth number refusal node
record_read old new missing set birth number refusal (inr (inl bad)) = bad_read refusal bad.0
record_read old new missing set birth number refusal (inr (inr there)) = data_read there.mid new missing set birth number 0 refusal there.why
