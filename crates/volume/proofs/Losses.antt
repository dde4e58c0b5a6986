-- Refusals for lack of disks: a block is lost.
use Rattle.std.proofs.Common.{ℕ, ◌≡◌, inl, inr, List, []}
use Rattle.std.specs.Prelude.{Vec}
use Rattle.std.specs.declared.alloc.Global.{Global}
use Rattle.block_store.proofs.Losses.{lost_behind_reads}
use Rattle.block_store.specs.declared.refusal.Refusal.{Refusal}
use Rattle.block_store.specs.declared.refusal.Refusal.TheVariants.{DiskFault}
use Rattle.block_store.specs.Losses.{IsBlockLost}
use Rattle.block_store.specs.Store.{Store}
use Rattle.dnode.specs.declared.object_set.ObjectSet.{ObjectSet}
use Rattle.objset.proofs.NodeLosses.{node_lost, set_lost}
use Rattle.dnode_tree.specs.declared.writes.BlockWrite.{BlockWrite}
use Rattle.objset.proofs.Losses.{change_lost, data_lost}
use Rattle.objset.specs.declared.changes.Change.{Change}
use Rattle.objset.specs.declared.changes.Change.TheVariants.{Put}
use Rattle.volume.specs.declared.volume.VolumeSet.{VolumeSet}
use Rattle.volume.specs.declared.writing.GroupWrites.{GroupWrites}
use Rattle.volume.specs.Demands.{IsPlacingRefused, IsPlanRefused, IsWritingRefused}
use Rattle.volume.specs.Laws.{LossesOfVolumes}
use Rattle.volume.specs.Placing.{data_change}
use Rattle.volume.specs.Reading.{IsBlockRefused, IsReadRefused, IsUnread, IsVolumeRefused}
use Rattle.volume.specs.Volume.{block_of}

-- ---- reads

pub volume_lost : (old new : Store) (missing : List ℕ) (volume : VolumeSet) (birth : ℕ) (refusal : Refusal) → IsVolumeRefused old new missing volume birth refusal
    → refusal ≡ DiskFault → IsBlockLost old new missing
volume_lost old new missing volume birth refusal (inl unread) is = set_lost old new missing birth (block_of volume) refusal unread is
volume_lost old new missing volume birth refusal (inr (inl (bad, none))) is = absurd (cc)
volume_lost old new missing volume birth refusal (inr (inr unread)) is =
    lost_behind_reads old unread.mid new missing unread.before (node_lost unread.mid new missing unread.set (block_of volume).birth 1 refusal unread.why is)

block_lost : (old new : Store) (missing : List ℕ) (volume : VolumeSet) (set : ObjectSet) (id : ℕ) (refusal : Refusal) → IsBlockRefused old new missing volume set id refusal
    → refusal ≡ DiskFault → IsBlockLost old new missing
block_lost old new missing volume set id refusal (inl unread) is = data_lost old new missing set (block_of volume).birth 1 id refusal unread is
block_lost old new missing volume set id refusal (inr (bad, size)) is = absurd (cc)

unread_lost : (old new : Store) (missing : List ℕ) (volume : VolumeSet) (set : ObjectSet) (Wanted : ℕ → Type 0) (refusal : Refusal) → IsUnread old new missing volume set Wanted refusal
    → refusal ≡ DiskFault → IsBlockLost old new missing
unread_lost old new missing volume set Wanted refusal unread is =
    lost_behind_reads old unread.mid new missing unread.before (block_lost unread.mid new missing volume set unread.id refusal unread.why is)

pub read_lost : (old new : Store) (missing : List ℕ) (volume : VolumeSet) (birth : ℕ) (Wanted : ℕ → Type 0) (refusal : Refusal) → IsReadRefused old new missing volume birth Wanted refusal
    → refusal ≡ DiskFault → IsBlockLost old new missing
read_lost old new missing volume birth Wanted refusal (inl refused) is = volume_lost old new missing volume birth refusal refused is
read_lost old new missing volume birth Wanted refusal (inr there) is =
    lost_behind_reads old there.mid new missing there.before (unread_lost there.mid new missing volume there.set Wanted refusal there.unread is)

-- ---- plans

pub plan_lost : (old new : Store) (set : ObjectSet) (before birth : ℕ) (change : Change) (refusal : Refusal) → IsPlanRefused old new set before birth change refusal → refusal ≡ DiskFault
    → IsBlockLost old new []
plan_lost old new set before birth change refusal (inl memory) is = absurd (cc)
plan_lost old new set before birth change refusal (inr (inl (space, lacks))) is = absurd (cc)
plan_lost old new set before birth change refusal (inr (inr refused)) is = change_lost old new [] set before birth (data_change change) refusal refused is

pub placing_lost : (old new : Store) (volume : VolumeSet) (birth : ℕ) (blocks : Vec BlockWrite Global) (refusal : Refusal) → IsPlacingRefused old new volume birth blocks refusal
    → refusal ≡ DiskFault → IsBlockLost old new []
placing_lost old new volume birth blocks refusal (inl memory) is = absurd (cc)
placing_lost old new volume birth blocks refusal (inr (inl refused)) is = volume_lost old new [] volume birth refusal refused is
placing_lost old new volume birth blocks refusal (inr (inr put)) is =
    lost_behind_reads old put.mid new [] put.before (plan_lost put.mid new put.set (block_of volume).birth birth (Put blocks) refusal put.why is)

pub writing_lost : (old new : Store) (volume : VolumeSet) (birth_before birth : ℕ) (changes : GroupWrites) (refusal : Refusal) → IsWritingRefused old new volume birth_before birth changes refusal
    → refusal ≡ DiskFault → IsBlockLost old new []
writing_lost old new volume birth_before birth changes refusal (inl memory) is = absurd (cc)
writing_lost old new volume birth_before birth changes refusal (inr (inl unread)) is = read_lost old new [] volume birth_before _ refusal unread is
writing_lost old new volume birth_before birth changes refusal (inr (inr unplaced)) is =
    lost_behind_reads old unplaced.mid new [] unplaced.before (placing_lost unplaced.mid new volume birth unplaced.blocks refusal unplaced.why is)

-- ---- the law

pub losses_of_volumes : LossesOfVolumes
losses_of_volumes = record {
  ranges = λ old new missing volume birth offset end refusal refused is. read_lost old new missing volume birth _ refusal refused is;
  changed = λ old new missing volume birth name writes refusal refused is. read_lost old new missing volume birth _ refusal refused is;
  plans = plan_lost;
  placings = placing_lost;
  writings = writing_lost;
}
