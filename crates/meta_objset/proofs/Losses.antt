-- Refusals for lack of disks: a block is lost.
use Rattle.std.proofs.Common.{ℕ, ◌≡◌, inl, inr, List}
use Rattle.block_store.specs.declared.refusal.Refusal.{Refusal}
use Rattle.block_store.specs.declared.refusal.Refusal.TheVariants.{DiskFault}
use Rattle.block_store.specs.Losses.{IsBlockLost}
use Rattle.block_store.specs.Store.{Store}
use Rattle.block_store.proofs.Losses.{lost_behind_reads}
use Rattle.dnode.specs.declared.object_set.ObjectSet.{ObjectSet}
use Rattle.objset.proofs.NodeLosses.{node_lost}
use Rattle.objset.proofs.Losses.{data_lost}
use Rattle.object_table.specs.declared.kind.TableKind.{TableKind}
use Rattle.object_table.proofs.Losses.{table_lost}
use Rattle.meta_objset.specs.Found.{IsRowsRefused, IsRecordRefused}

pub rows_lost : (old new : Store) (missing : List ℕ) (set : ObjectSet) (birth : ℕ) (kind : TableKind) (number : ℕ) (MayHave : List ℕ → Type 0) (refusal : Refusal)
    → IsRowsRefused old new missing set birth kind number MayHave refusal → refusal ≡ DiskFault → IsBlockLost old new missing
rows_lost old new missing set birth kind number MayHave refusal (inl table) is = table_lost old new missing set birth kind number refusal table is
rows_lost old new missing set birth kind number MayHave refusal (inr (bad, others)) is = absurd (cc)

pub record_lost : (old new : Store) (missing : List ℕ) (set : ObjectSet) (birth number : ℕ) (refusal : Refusal) → IsRecordRefused old new missing set birth number refusal → refusal ≡ DiskFault
    → IsBlockLost old new missing
record_lost old new missing set birth number refusal (inl node) is = node_lost old new missing set birth number refusal node is
record_lost old new missing set birth number refusal (inr (inl (bad, none))) is = absurd (cc)
record_lost old new missing set birth number refusal (inr (inr there)) is =
    lost_behind_reads old there.mid new missing there.before (data_lost there.mid new missing set birth number 0 refusal there.why is)
