-- Refusals for lack of disks: a block is lost.
use Rattle.std.proofs.Common.{ℕ, ◌≡◌, ◌⊎◌, inl, inr, List, [], Option}
use Rattle.block_pointer.specs.declared.block.Block.{Block}
use Rattle.block_store.proofs.Losses.{lost_behind_reads, lost_later}
use Rattle.block_store.specs.declared.refusal.Refusal.{Refusal}
use Rattle.block_store.specs.declared.refusal.Refusal.TheVariants.{DiskFault}
use Rattle.block_store.specs.Losses.{IsBlockLost}
use Rattle.block_store.specs.Store.{Store}
use Rattle.dataset_groups.specs.DatasetChanges.{DatasetChanges}
pub use Rattle.dataset_groups.proofs.Losses.{losses_of_destroys}
use Rattle.dataset_groups.specs.Laws.{LossesOfDestroys}
use Rattle.dataset_groups.specs.declared.datasets.GroupDatasets.{GroupDatasets}
use Rattle.dataset_groups.specs.Destroys.{AreDestroysRefused}
use Rattle.dataset_groups.specs.Demands.{IsActionRefused, IsMakingRefused, IsUnmade}
use Rattle.dnode.specs.declared.object_set.ObjectSet.{ObjectSet}
use Rattle.objset.proofs.NodeLosses.{set_lost}
use Rattle.meta_objset.proofs.Losses.{record_lost, rows_lost}
use Rattle.meta_objset.specs.declared.directory.DirectoryRow.{DirectoryRow}
use Rattle.meta_objset.specs.declared.stale_spans.StaleSpan.{StaleSpan}
use Rattle.meta_objset.specs.Found.{AreDirectoryRows, AreMapRows}
use Rattle.meta_objset.specs.Reading.{directory_kind}
use Rattle.meta_objset.specs.SpaceMaps.{maps_kind}
use Rattle.objset.proofs.Losses.{change_lost}
use Rattle.objset.specs.declared.changes.ObjectChange.{ObjectChange}
use Rattle.pool_maps.specs.Refused.{AreFirstRefused, IsPlanRefused as AreMapsUnplanned, no_set}
use Rattle.pool_model.specs.declared.item.Action.{Action}
use Rattle.pool_model.specs.declared.item.Change.{Change}
use Rattle.pool_model.specs.declared.item.Change.TheVariants.{Clone, Create, Destroy, Snapshot}
use Rattle.pool_model.specs.declared.item.Write.{Write}
use Rattle.volume.proofs.Losses.{plan_lost, read_lost}
use Rattle.volume.specs.Demands.{empty_set}
use Rattle.dataset_snapshots.specs.declared.groups.Opened.{Opened}
use Rattle.dataset_snapshots.specs.Demands.{AreMappedRefused, AreVolumesRefused, IsRootRefused}
use Rattle.dataset_snapshots.specs.Finding.{IsDirectoryRefused, IsMetaRefused, IsRefusedIn}
use Rattle.dataset_snapshots.specs.FirstGroup.{empty_meta}
use Rattle.dataset_snapshots.specs.Laws.{LossesByRows, LossesOfDatasets, LossesOfFirstGroups, LossesOfGroups, LossesOfRanges}
use Rattle.dataset_snapshots.specs.Opening.{IsGroupUnread, IsVolumeUnread, IsWrittenRefused, most_blocks}
use Rattle.dataset_snapshots.specs.Ranges.{IsRangeRefusedIn}
use Rattle.dataset_snapshots.proofs.LostHeads.{chain_lost, head_lost}
use Rattle.dataset_snapshots.proofs.LostMaps.{some_map_lost}

pub meta_lost : (old new : Store) (missing : List ℕ) (birth : ℕ) (root : Block) (refusal : Refusal) → IsMetaRefused old new missing birth root refusal → refusal ≡ DiskFault → IsBlockLost old new missing
meta_lost old new missing birth root refusal (inl unread) is = set_lost old new missing birth root refusal unread is
meta_lost old new missing birth root refusal (inr (bad, other)) is = absurd (cc)

directory_lost : (old new : Store) (missing : List ℕ) (birth : ℕ) (root : Block) (refusal : Refusal) → IsDirectoryRefused old new missing birth root refusal → refusal ≡ DiskFault
    → IsBlockLost old new missing
directory_lost old new missing birth root refusal directory is =
    lost_behind_reads old directory.mid new missing directory.before (rows_lost directory.mid new missing directory.set root.birth directory_kind 1 AreDirectoryRows refusal directory.why is)

pub losses_of_datasets : LossesOfDatasets
losses_of_datasets old new missing birth root name refusal (inl refused) is = meta_lost old new missing birth root refusal refused is
losses_of_datasets old new missing birth root name refusal (inr (inl directory)) is = directory_lost old new missing birth root refusal directory is
losses_of_datasets old new missing birth root name refusal (inr (inr unread)) is =
    lost_behind_reads old unread.mid new missing unread.before (record_lost unread.mid new missing unread.set root.birth unread.object refusal unread.why is)

-- ---- groups

blocks_lost : (old new : Store) (set : ObjectSet) (birth : ℕ) (writes : List Write) (row : DirectoryRow) (refusal : Refusal) → IsWrittenRefused old new set birth writes row refusal
    → refusal ≡ DiskFault → IsBlockLost old new []
blocks_lost old new set birth writes row refusal (inl memory) is = absurd (cc)
blocks_lost old new set birth writes row refusal (inr (inl (bad, number))) is = absurd (cc)
blocks_lost old new set birth writes row refusal (inr (inr (inl of_record))) is = record_lost old new [] set birth row.object refusal of_record is
blocks_lost old new set birth writes row refusal (inr (inr (inr unread))) is =
    lost_behind_reads old unread.mid new [] unread.before (read_lost unread.mid new [] unread.volume birth _ refusal unread.why.2 is)

volume_lost : (old new : Store) (birth : ℕ) (root : Block) (rows : List DirectoryRow) (destroyed : List (List ℕ)) (writes : List Write) (refusal : Refusal)
    → IsVolumeUnread old new birth root rows destroyed writes refusal → refusal ≡ DiskFault → IsBlockLost old new []
volume_lost old new birth root rows destroyed writes refusal volume is =
    let one = volume.why in
    lost_behind_reads old volume.mid new [] volume.before
    (lost_behind_reads volume.mid one.mid new [] one.before (blocks_lost one.mid new volume.set root.birth writes one.row refusal one.why is))

names_lost : (old new : Store) (datasets : GroupDatasets) (group most : ℕ) (names : List (List ℕ)) (refusal : Refusal) → LossesOfDestroys → AreDestroysRefused old new datasets group most names refusal
    → refusal ≡ DiskFault → IsBlockLost old new []
names_lost old new datasets group most names refusal lost (inl memory) is = absurd (cc)
names_lost old new datasets group most names refusal lost (inr one) is =
    lost_behind_reads old one.store new [] one.reads (lost one.store new one.mid.changes one.last one.row.object group most one.left refusal one.why is)

unread_lost : (old new : Store) (root : Block) (rows : List DirectoryRow) (group : ℕ) (destroyed : List (List ℕ)) (writes : List Write) (refusal : Refusal) → LossesOfDestroys
    → IsGroupUnread old new root rows group destroyed writes refusal → refusal ≡ DiskFault → IsBlockLost old new []
unread_lost old new root rows group destroyed writes refusal lost (inl refused) is = meta_lost old new [] _ root refusal refused is
unread_lost old new root rows group destroyed writes refusal lost (inr (inl volume)) is = volume_lost old new _ root rows destroyed writes refusal volume is
unread_lost old new root rows group destroyed writes refusal lost (inr (inr names)) is =
    lost_behind_reads old names.mid new [] names.before (names_lost names.mid new names.begun group most_blocks destroyed refusal lost names.why is)

unmade_lost : (old new : Store) (changes : DatasetChanges) (group : ℕ) (rows : List DirectoryRow) (next : ℕ) (change : Change) (refusal : Refusal)
    → IsUnmade old new changes group rows next change refusal → refusal ≡ DiskFault → IsBlockLost old new []
unmade_lost old new changes group rows next (Create name size block_size) refusal (creation, made, why) is = plan_lost old new empty_set group group creation refusal why is
unmade_lost old new changes group rows next (Snapshot volume part) refusal untaken is = chain_lost old new untaken.far untaken.last untaken.head _ refusal untaken.why is
unmade_lost old new changes group rows next (Destroy name) refusal why is = absurd why
unmade_lost old new changes group rows next (Clone snapshot name) refusal uncloned is = elim uncloned.why [
  | inl (full, most) ↦ absurd (cc)
  | inr why ↦ chain_lost old new uncloned.far uncloned.last uncloned.origin _ refusal why is
]

making_lost : (old new : Store) (changes : DatasetChanges) (group : ℕ) (rows : List DirectoryRow) (made : List Action) (next end : ℕ) (change : Change) (refusal : Refusal)
    → IsMakingRefused old new changes group rows made next end change refusal → refusal ≡ DiskFault → IsBlockLost old new []
making_lost old new changes group rows made next end change refusal (inl memory) is = absurd (cc)
making_lost old new changes group rows made next end change refusal (inr (inl (bad, none))) is = absurd (cc)
making_lost old new changes group rows made next end change refusal (inr (inr (making, inl (space, full)))) is = absurd (cc)
making_lost old new changes group rows made next end change refusal (inr (inr (making, inr why))) is = unmade_lost old new changes group rows next change refusal why is

action_lost : (old new : Store) (changes : DatasetChanges) (group : ℕ) (rows : List DirectoryRow) (next end : ℕ) (actions : List Action) (refusal : Refusal)
    → IsActionRefused old new changes group rows next end actions refusal → refusal ≡ DiskFault → IsBlockLost old new []
action_lost old new changes group rows next end actions refusal one is =
    lost_later old one.mid new [] one.before (making_lost one.mid new changes group rows one.made next end one.action.change refusal one.why is)

volumes_lost : (old new : Store) (group : ℕ) (opened : Opened) (actions : List Action) (refusal : Refusal) → AreVolumesRefused old new group opened actions refusal → refusal ≡ DiskFault
    → IsBlockLost old new []
volumes_lost old new group opened actions refusal (inl memory) is = absurd (cc)
volumes_lost old new group opened actions refusal (inr (inl (inl memory))) is = absurd (cc)
volumes_lost old new group opened actions refusal (inr (inl (inr unplaced))) is = head_lost old new opened.datasets.changes group opened.written.items refusal unplaced is
volumes_lost old new group opened actions refusal (inr (inr (inl refused))) is =
    lost_later old refused.mid new [] refused.before (action_lost refused.mid new refused.written group opened.datasets.directory _ _ actions refusal refused.why is)
volumes_lost old new group opened actions refusal (inr (inr (inr mis))) is = absurd (let bad = mis.bad in cc)

root_lost : (old new : Store) (set : ObjectSet) (before group : ℕ) (changes : List ObjectChange) (refusal : Refusal) → IsRootRefused old new set before group changes refusal → refusal ≡ DiskFault
    → IsBlockLost old new []
root_lost old new set before group changes refusal (inl memory) is = absurd (cc)
root_lost old new set before group changes refusal (inr (inl (space, lacks))) is = absurd (cc)
root_lost old new set before group changes refusal (inr (inr refused)) is = change_lost old new [] set before group changes refusal refused is

maps_lost : (old new : Store) (set : ObjectSet) (birth : ℕ) (gone : List Block) (changes : List ObjectChange) (next : ℕ) (refusal : Refusal)
    → AreMapsUnplanned old new set birth gone changes next refusal → refusal ≡ DiskFault → IsBlockLost old new []
maps_lost old new set birth gone changes next refusal (inl table) is = rows_lost old new [] set birth maps_kind 4 AreMapRows refusal table is
maps_lost old new set birth gone changes next refusal (inr maps) is = lost_behind_reads old maps.mid new [] maps.before (elim maps.why [
  | inl some ↦ some_map_lost maps.mid new set birth gone maps.plan refusal some is
  | inr (bad, taken) ↦ absurd (cc)
])

mapped_lost : (old new : Store) (born group : ℕ) (spans : Option (List StaleSpan)) (opened : Opened) (actions : List Action) (refusal : Refusal) → AreMappedRefused old new born group spans opened actions refusal → refusal ≡ DiskFault
    → IsBlockLost old new []
mapped_lost old new born group spans opened actions refusal (inl volumes) is = volumes_lost old new group opened actions refusal volumes is
mapped_lost old new born group spans opened actions refusal (inr maps) is =
    lost_later old maps.mid new [] maps.before (maps_lost maps.mid new opened.set born maps.gone maps.changes maps.next refusal maps.why is)

pub losses_of_groups : LossesOfDestroys → LossesOfGroups
losses_of_groups lost old new root rows group spans destroyed items refusal (inl memory) is = absurd (cc)
losses_of_groups lost old new root rows group spans destroyed items refusal (inr (inl unread)) is = unread_lost old new root rows group destroyed items.writes refusal lost unread is
losses_of_groups lost old new root rows group spans destroyed items refusal (inr (inr unplanned)) is =
    lost_behind_reads old unplanned.mid new [] unplanned.before (elim unplanned.why [
      | inl mapped ↦ mapped_lost unplanned.mid new root.birth group spans unplanned.opened items.actions refusal mapped is
      | inr changes ↦ lost_later unplanned.mid changes.mid new [] changes.before (root_lost changes.mid new unplanned.opened.set root.birth group changes.all refusal changes.why is)
    ])

-- ---- the first root

first_maps_lost : (old new : Store) (changes : List ObjectChange) (next : ℕ) (refusal : Refusal) → AreFirstRefused old new changes next refusal → refusal ≡ DiskFault → IsBlockLost old new []
first_maps_lost old new changes next refusal maps is = elim maps.why [
  | inl some ↦ some_map_lost old new no_set 0 [] maps.plan refusal some is
  | inr (bad, taken) ↦ absurd (cc)
]

pub losses_of_first_groups : LossesOfFirstGroups
losses_of_first_groups old new group vdevs stale items refusal (inl memory) is = absurd (cc)
losses_of_first_groups old new group vdevs stale items refusal (inr (inl (before, none, action))) is = action_lost old new before group [] 5 _ items.actions refusal action is
losses_of_first_groups old new group vdevs stale items refusal (inr (inr (inl mis))) is = absurd (let bad = mis.bad in cc)
losses_of_first_groups old new group vdevs stale items refusal (inr (inr (inr (inl maps)))) is =
    lost_later old maps.mid new [] maps.volumes.before (first_maps_lost maps.mid new maps.changes maps.next refusal maps.why is)
losses_of_first_groups old new group vdevs stale items refusal (inr (inr (inr (inr set)))) is =
    lost_later old set.mid new [] set.volumes.before
    (lost_behind_reads set.mid set.planned new [] set.reads (root_lost set.planned new empty_meta group group set.all refusal set.why is))

-- ---- ranges

pub losses_of_ranges : LossesOfRanges
losses_of_ranges old new missing birth root name offset len refusal (inl unfound) is = losses_of_datasets old new missing birth root name refusal unfound is
losses_of_ranges old new missing birth root name offset len refusal (inr (inl (bad, nowhere))) is = absurd (cc)
losses_of_ranges old new missing birth root name offset len refusal (inr (inr unread)) is =
    lost_behind_reads old unread.mid new missing unread.before (read_lost unread.mid new missing unread.dataset.volume root.birth _ refusal unread.why is)

-- ---- by the rows of a directory

under_lost : (old new : Store) (missing : List ℕ) (birth : ℕ) (root : Block) (refusal : Refusal) → IsMetaRefused old new missing birth root refusal ⊎ IsDirectoryRefused old new missing birth root refusal
    → refusal ≡ DiskFault → IsBlockLost old new missing
under_lost old new missing birth root refusal (inl refused) is = meta_lost old new missing birth root refusal refused is
under_lost old new missing birth root refusal (inr directory) is = directory_lost old new missing birth root refusal directory is

name_lost : (old new : Store) (missing : List ℕ) (birth : ℕ) (root : Block) (rows : List DirectoryRow) (name : List ℕ) (refusal : Refusal) → IsRefusedIn old new missing birth root rows name refusal
    → refusal ≡ DiskFault → IsBlockLost old new missing
name_lost old new missing birth root rows name refusal (object, row, inl refused) is = meta_lost old new missing birth root refusal refused is
name_lost old new missing birth root rows name refusal (object, row, inr unread) is =
    lost_behind_reads old unread.mid new missing unread.before (record_lost unread.mid new missing unread.set root.birth object refusal unread.why is)

range_lost : (old new : Store) (missing : List ℕ) (birth : ℕ) (root : Block) (rows : List DirectoryRow) (name : List ℕ) (offset len : ℕ) (refusal : Refusal)
    → IsRangeRefusedIn old new missing birth root rows name offset len refusal → refusal ≡ DiskFault → IsBlockLost old new missing
range_lost old new missing birth root rows name offset len refusal (inl unfound) is = name_lost old new missing birth root rows name refusal unfound is
range_lost old new missing birth root rows name offset len refusal (inr (inl (bad, nowhere))) is = absurd (cc)
range_lost old new missing birth root rows name offset len refusal (inr (inr unread)) is =
    lost_behind_reads old unread.mid new missing unread.before (read_lost unread.mid new missing unread.dataset.volume root.birth _ refusal unread.why is)

pub losses_by_rows : LossesByRows
losses_by_rows = record { directories = under_lost; names = name_lost; ranges = range_lost }
