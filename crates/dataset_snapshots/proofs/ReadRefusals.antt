-- What reads of roots are refused for.
use Rattle.std.proofs.Common.{ℕ, ◌⊎◌, inl, inr, List}
use Rattle.block_pointer.specs.declared.block.Block.{Block}
use Rattle.block_store.specs.declared.refusal.Refusal.{Refusal}
use Rattle.block_store.specs.Store.{Store}
use Rattle.dnode.specs.declared.object_set.ObjectSet.{ObjectSet}
use Rattle.objset.proofs.NodeReadRefusals.{set_read}
use Rattle.dnode_tree.proofs.ReadRefusals.{bad_read}
use Rattle.dnode_tree.specs.ReadRefusals.{IsForRead}
use Rattle.meta_objset.proofs.ReadRefusals.{record_read, rows_read}
use Rattle.meta_objset.specs.declared.directory.DirectoryRow.{DirectoryRow}
use Rattle.meta_objset.specs.Found.{AreDirectoryRows}
use Rattle.meta_objset.specs.Reading.{directory_kind}
use Rattle.objset.proofs.ReadRefusals.{set_walk_read}
use Rattle.volume.proofs.ReadRefusals.{blocks_read}
use Rattle.dataset_snapshots.specs.Finding.{IsDirectoryRefused, IsMetaRefused, IsRefused, IsRefusedIn}
use Rattle.dataset_snapshots.specs.Laws.{ReadsNeedNoRoom}
use Rattle.dataset_snapshots.specs.Ranges.{IsRangeRefused, IsRangeRefusedIn}
use Rattle.dataset_snapshots.specs.Reach.{AreVolumesUnwalked, IsDatasetUnwalked, IsMetaMissed, IsReachRefused}
use Rattle.dataset_snapshots.proofs.YoungerRefusals.{younger_volume_read}

meta_read : (old new : Store) (missing : List ℕ) (birth : ℕ) (root : Block) (refusal : Refusal) → IsMetaRefused old new missing birth root refusal → IsForRead refusal
meta_read old new missing birth root refusal (inl unread) = set_read old new missing birth root refusal unread
meta_read old new missing birth root refusal (inr bad) = bad_read refusal bad.0

under_read : (old new : Store) (missing : List ℕ) (birth : ℕ) (root : Block) (refusal : Refusal) → IsMetaRefused old new missing birth root refusal ⊎ IsDirectoryRefused old new missing birth root refusal
    → IsForRead refusal
under_read old new missing birth root refusal (inl refused) = meta_read old new missing birth root refusal refused
under_read old new missing birth root refusal (inr there) = rows_read there.mid new missing there.set root.birth directory_kind 1 AreDirectoryRows refusal there.why

dataset_read : (old new : Store) (missing : List ℕ) (birth : ℕ) (root : Block) (name : List ℕ) (refusal : Refusal) → IsRefused old new missing birth root name refusal → IsForRead refusal
dataset_read old new missing birth root name refusal (inl refused) = meta_read old new missing birth root refusal refused
dataset_read old new missing birth root name refusal (inr (inl there)) = rows_read there.mid new missing there.set root.birth directory_kind 1 AreDirectoryRows refusal there.why
dataset_read old new missing birth root name refusal (inr (inr there)) = record_read there.mid new missing there.set root.birth there.object refusal there.why

range_read : (old new : Store) (missing : List ℕ) (birth : ℕ) (root : Block) (name : List ℕ) (offset len : ℕ) (refusal : Refusal)
    → IsRangeRefused old new missing birth root name offset len refusal → IsForRead refusal
range_read old new missing birth root name offset len refusal (inl unfound) = dataset_read old new missing birth root name refusal unfound
range_read old new missing birth root name offset len refusal (inr (inl bad)) = bad_read refusal bad.0
range_read old new missing birth root name offset len refusal (inr (inr unread)) = blocks_read unread.mid new missing unread.dataset.volume root.birth _ refusal unread.why

-- ---- by the rows of a directory

name_read : (old new : Store) (missing : List ℕ) (birth : ℕ) (root : Block) (rows : List DirectoryRow) (name : List ℕ) (refusal : Refusal) → IsRefusedIn old new missing birth root rows name refusal
    → IsForRead refusal
name_read old new missing birth root rows name refusal (object, row, inl refused) = meta_read old new missing birth root refusal refused
name_read old new missing birth root rows name refusal (object, row, inr there) = record_read there.mid new missing there.set root.birth object refusal there.why

range_in_read : (old new : Store) (missing : List ℕ) (birth : ℕ) (root : Block) (rows : List DirectoryRow) (name : List ℕ) (offset len : ℕ) (refusal : Refusal)
    → IsRangeRefusedIn old new missing birth root rows name offset len refusal → IsForRead refusal
range_in_read old new missing birth root rows name offset len refusal (inl unfound) = name_read old new missing birth root rows name refusal unfound
range_in_read old new missing birth root rows name offset len refusal (inr (inl bad)) = bad_read refusal bad.0
range_in_read old new missing birth root rows name offset len refusal (inr (inr unread)) = blocks_read unread.mid new missing unread.dataset.volume root.birth _ refusal unread.why

-- ---- walks

dataset_walk_read : (old new : Store) (missing : List ℕ) (set : ObjectSet) (birth object before after : ℕ) (refusal : Refusal)
    → IsDatasetUnwalked old new missing set birth object before after refusal → IsForRead refusal
dataset_walk_read old new missing set birth object before after refusal (inl memory) = inl memory
dataset_walk_read old new missing set birth object before after refusal (inr (inl of_record)) = record_read old new missing set birth object refusal of_record
dataset_walk_read old new missing set birth object before after refusal (inr (inr (inl there))) = record_read there.mid new missing set birth there.dataset.record.previous refusal there.why
dataset_walk_read old new missing set birth object before after refusal (inr (inr (inr there))) =
    younger_volume_read there.since there.mid new missing there.dataset.volume birth before after refusal there.why

volumes_walk_read : (old new : Store) (missing : List ℕ) (set : ObjectSet) (birth before after : ℕ) (refusal : Refusal) → AreVolumesUnwalked old new missing set birth before after refusal
    → IsForRead refusal
volumes_walk_read old new missing set birth before after refusal (inl memory) = inl memory
volumes_walk_read old new missing set birth before after refusal (inr (inl rows)) = rows_read old new missing set birth directory_kind 1 AreDirectoryRows refusal rows
volumes_walk_read old new missing set birth before after refusal (inr (inr there)) =
    let one = there.why in
    dataset_walk_read one.mid new missing set birth one.row.object one.left after refusal one.why

meta_missed : (old new : Store) (missing : List ℕ) (birth : ℕ) (root : Block) (before : ℕ) (refusal : Refusal) → IsMetaMissed old new missing birth root before refusal → IsForRead refusal
meta_missed old new missing birth root before refusal (inl bad) = bad_read refusal bad.0
meta_missed old new missing birth root before refusal (inr refused) = meta_read old new missing birth root refusal refused

reach_read : (old new : Store) (missing : List ℕ) (birth : ℕ) (root : Block) (before after : ℕ) (refusal : Refusal) → IsReachRefused old new missing birth root before after refusal → IsForRead refusal
reach_read old new missing birth root before after refusal (inl memory) = inl memory
reach_read old new missing birth root before after refusal (inr (inl missed)) = meta_missed old new missing birth root before refusal missed
reach_read old new missing birth root before after refusal (inr (inr (inl there))) = set_walk_read there.mid new missing there.set root.birth there.left after refusal there.why
reach_read old new missing birth root before after refusal (inr (inr (inr (inl there)))) = volumes_walk_read there.mid new missing there.set root.birth there.rest after refusal there.why
reach_read old new missing birth root before after refusal (inr (inr (inr (inr bad)))) = bad_read refusal bad.0

pub reads_need_no_room : ReadsNeedNoRoom
reads_need_no_room = record {
  names = dataset_read;
  ranges = range_read;
  directories = under_read;
  names_in = name_read;
  ranges_in = range_in_read;
  reaches = reach_read;
}
