-- Datasets that are not destroyed for lack of disks: a block is lost.
use Rattle.std.proofs.Common.{ℕ, ◌≡◌, inl, inr, []}
use Rattle.block_store.proofs.Losses.{lost_behind_reads}
use Rattle.block_store.specs.Losses.{IsBlockLost}
use Rattle.block_store.specs.Store.{Store}
use Rattle.block_store.specs.declared.refusal.Refusal.{Refusal}
use Rattle.block_store.specs.declared.refusal.Refusal.TheVariants.{DiskFault}
use Rattle.dataset_chains.specs.DatasetChanges.{DatasetChanges}
use Rattle.meta_objset.specs.declared.record.DatasetKind.{DatasetKind}
use Rattle.meta_objset.specs.declared.record.DatasetKind.TheVariants.{Volume, Snapshot}
use Rattle.dataset_destroys.proofs.LostChains.{chain_lost, record_unread_lost}
use Rattle.dataset_destroys.proofs.LostTrees.{tree_lost}
use Rattle.dataset_destroys.specs.Destroying.{IsKeptAs}
use Rattle.dataset_destroys.specs.Laws.{LossesOfDestroys}
use Rattle.dataset_destroys.specs.Refused.{IsHeadKept, IsHeadUnfit, IsSnapshotKept}
use Rattle.dataset_destroys.specs.Steps.{group_of}

snapshot_lost : (old new : Store) (changes far : DatasetChanges) (snapshot : ℕ) (refusal : Refusal) → IsSnapshotKept old new changes far snapshot refusal → refusal ≡ DiskFault → IsBlockLost old new []
snapshot_lost old new changes far snapshot refusal (inl (bad, clones)) is = absurd (cc)
snapshot_lost old new changes far snapshot refusal (inr (inl (bad, unlinked))) is = absurd (cc)
snapshot_lost old new changes far snapshot refusal (inr (inr chain)) is = chain_lost old new changes far snapshot Snapshot refusal chain is

unfit_lost : (old new : Store) (changes far : DatasetChanges) (head : ℕ) (refusal : Refusal) → IsHeadUnfit old new changes far head refusal → refusal ≡ DiskFault → IsBlockLost old new []
unfit_lost old new changes far head refusal (inl (bad, snapshots)) is = absurd (cc)
unfit_lost old new changes far head refusal (inr (inl (bad, uncounted))) is = absurd (cc)
unfit_lost old new changes far head refusal (inr (inr chain)) is = chain_lost old new changes far head Volume refusal chain is

head_lost : (old new : Store) (changes far : DatasetChanges) (head group left_before left_after : ℕ) (refusal : Refusal) → IsHeadKept old new changes far head group left_before left_after refusal
    → refusal ≡ DiskFault → IsBlockLost old new []
head_lost old new changes far head group left_before left_after refusal (inl tree) is =
    lost_behind_reads old tree.mid new [] tree.first (tree_lost (group_of tree.before) tree.mid new group tree.r.object_set left_before left_after refusal tree.why is)
head_lost old new changes far head group left_before left_after refusal (inr (inl (bad, list))) is = absurd (cc)
head_lost old new changes far head group left_before left_after refusal (inr (inr unfit)) is = unfit_lost old new changes far head refusal unfit is

kept_lost : (kind : DatasetKind) (old new : Store) (changes far : DatasetChanges) (number group left_before left_after : ℕ) (refusal : Refusal)
    → IsKeptAs kind old new changes far number group left_before left_after refusal → refusal ≡ DiskFault → IsBlockLost old new []
kept_lost Volume old new changes far number group left_before left_after refusal why is = head_lost old new changes far number group left_before left_after refusal why is
kept_lost Snapshot old new changes far number group left_before left_after refusal why is = snapshot_lost old new changes far number refusal why is

pub losses_of_destroys : LossesOfDestroys
losses_of_destroys old new changes far number group left_before left_after refusal (inl unread) is = record_unread_lost old new changes number refusal unread is
losses_of_destroys old new changes far number group left_before left_after refusal (inr kept) is =
    lost_behind_reads old kept.mid new [] kept.first (kept_lost kept.r.kind kept.mid new kept.read far number group left_before left_after refusal kept.why is)
