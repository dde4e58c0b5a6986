-- What reads of volumes are refused for.
use Rattle.std.proofs.Common.{ℕ, inl, inr, List}
use Rattle.block_store.specs.declared.refusal.Refusal.{Refusal}
use Rattle.block_store.specs.Store.{Store}
use Rattle.dnode.specs.declared.object_set.ObjectSet.{ObjectSet}
use Rattle.objset.proofs.NodeReadRefusals.{node_read, set_read}
use Rattle.dnode_tree.proofs.ReadRefusals.{bad_read}
use Rattle.dnode_tree.specs.ReadRefusals.{IsForRead}
use Rattle.objset.proofs.ReadRefusals.{data_read, set_walk_read}
use Rattle.volume.specs.declared.volume.VolumeSet.{VolumeSet}
use Rattle.volume.specs.Reading.{IsBlockRefused, IsReadRefused, IsVolumeRefused}
use Rattle.volume.specs.Volume.{block_of}
use Rattle.volume.specs.Walking.{IsSetMissed, IsVolumeWalkRefused}

volume_read : (old new : Store) (missing : List ℕ) (volume : VolumeSet) (birth : ℕ) (refusal : Refusal) → IsVolumeRefused old new missing volume birth refusal → IsForRead refusal
volume_read old new missing volume birth refusal (inl unread) = set_read old new missing birth (block_of volume) refusal unread
volume_read old new missing volume birth refusal (inr (inl bad)) = bad_read refusal bad.0
volume_read old new missing volume birth refusal (inr (inr unread)) = node_read unread.mid new missing unread.set (block_of volume).birth 1 refusal unread.why

block_read : (old new : Store) (missing : List ℕ) (volume : VolumeSet) (set : ObjectSet) (id : ℕ) (refusal : Refusal) → IsBlockRefused old new missing volume set id refusal → IsForRead refusal
block_read old new missing volume set id refusal (inl unread) = data_read old new missing set (block_of volume).birth 1 id refusal unread
block_read old new missing volume set id refusal (inr bad) = bad_read refusal bad.0

pub blocks_read : (old new : Store) (missing : List ℕ) (volume : VolumeSet) (birth : ℕ) (Wanted : ℕ → Type 0) (refusal : Refusal) → IsReadRefused old new missing volume birth Wanted refusal
    → IsForRead refusal
blocks_read old new missing volume birth Wanted refusal (inl refused) = volume_read old new missing volume birth refusal refused
blocks_read old new missing volume birth Wanted refusal (inr there) = block_read there.unread.mid new missing volume there.set there.unread.id refusal there.unread.why

set_missed : (old new : Store) (missing : List ℕ) (volume : VolumeSet) (birth before : ℕ) (refusal : Refusal) → IsSetMissed old new missing volume birth before refusal → IsForRead refusal
set_missed old new missing volume birth before refusal (inl bad) = bad_read refusal bad.0
set_missed old new missing volume birth before refusal (inr (inl unread)) = set_read old new missing birth (block_of volume) refusal unread
set_missed old new missing volume birth before refusal (inr (inr bad)) = bad_read refusal bad.0

pub volume_walk_read : (old new : Store) (missing : List ℕ) (volume : VolumeSet) (birth before after : ℕ) (refusal : Refusal) → IsVolumeWalkRefused old new missing volume birth before after refusal
    → IsForRead refusal
volume_walk_read old new missing volume birth before after refusal (inl memory) = inl memory
volume_walk_read old new missing volume birth before after refusal (inr (inl missed)) = set_missed old new missing volume birth before refusal missed
volume_walk_read old new missing volume birth before after refusal (inr (inr unwalked)) =
    set_walk_read unwalked.mid new missing unwalked.set (block_of volume).birth unwalked.left after refusal unwalked.why
