-- All blocks that the root of a pool leads to.
use Rattle.std.specs.Prelude.{ℕ, suc, ◌≡◌, ◌≢◌, ◌⊎◌, List, [], ◌∷◌, ◌++◌, Option}
use Rattle.block_pointer.specs.declared.block.Block.{Block}
use Rattle.block_store.specs.Blocks.{Contents}
use Rattle.block_store.specs.declared.refusal.Refusal.{Refusal}
use Rattle.block_store.specs.declared.refusal.Refusal.TheVariants.{NoMemory, BadPointer}
use Rattle.block_store.specs.Spaces.{VdevSpace}
use Rattle.block_store.specs.Steps.{OnlyReadsBlocks}
use Rattle.block_store.specs.Store.{Store}
use Rattle.dataset_groups.specs.Names.{reach_by}
use Rattle.dnode.specs.declared.object_set.ObjectSet.{ObjectSet}
use Rattle.dnode_tree.specs.Rewriting.{AreDistinct}
use Rattle.meta_objset.specs.declared.directory.DirectoryRow.{DirectoryRow}
use Rattle.meta_objset.specs.declared.record.DatasetRecord.{DatasetRecord}
use Rattle.meta_objset.specs.Found.{AreDirectoryRows, IsDirectoryFound, IsRecordFound, IsRecordRefused, IsRowsRefused}
use Rattle.meta_objset.specs.Reading.{directory_kind}
use Rattle.objset.specs.Objects.{Object}
use Rattle.objset.specs.Within.{blocks_of_set, IsSetWalked, IsSetWalkRefused}
use Rattle.pool_model.specs.declared.volume.PlainVolume.{PlainVolume}
use Rattle.pool_model.specs.Pools.{PlainPool}
use Rattle.volume.specs.Walking.{blocks_of_volume}
use Rattle.volume.specs.Younger.{IsYoungerVolumeRefused, IsYoungerVolumeWalked}
use Rattle.dataset_snapshots.specs.declared.finding.Dataset.{Dataset}
use Rattle.dataset_snapshots.specs.Finding.{IsMetaFound, IsMetaRefused, IsVolumeOf}
use Rattle.dataset_snapshots.specs.Pools.{SpellsDataset, SpellsPool}

-- all blocks of a dataset's volume
abbrev pub blocks_of_dataset : {stored : Contents} {birth : ℕ} {objects : ℕ → Option Object}
    {row : DirectoryRow} {volume : PlainVolume} → SpellsDataset stored birth objects row volume
    → List Block
blocks_of_dataset is =
    blocks_of_volume is.r.object_set is.bytes.set is.bytes.has.own is.bytes.has.blocks

-- the root's block, and those of the meta object set
abbrev pub meta_blocks_of : {stored : Contents} {birth : ℕ} {root : Block} {pool : PlainPool}
    → SpellsPool stored birth root pool → List Block
meta_blocks_of {root = root} is = root ∷ blocks_of_set is.set is.own is.blocks

-- those of the volumes, each in the volume that it was born in
abbrev pub volume_blocks_of : {stored : Contents} {birth : ℕ} {root : Block} {pool : PlainPool}
    → SpellsPool stored birth root pool → List Block
volume_blocks_of is = reach_by is.datasets is.rows

-- all blocks that the root leads to
abbrev pub reach_of : {stored : Contents} {birth : ℕ} {root : Block} {pool : PlainPool}
    → SpellsPool stored birth root pool → List Block
reach_of is = meta_blocks_of is ++ volume_blocks_of is

-- ---- what was walked, whether or not the root is whole

-- the root was read, and then the blocks of its set were walked, by so many reads: that of the root,
-- and those of the walk
pub record IsMetaWalked (spaces : List VdevSpace) (birth : ℕ) (root : Block) (before after : ℕ)
    (set : ObjectSet) (found : List Block) : Type 0 where
  pub meta : IsMetaFound spaces birth root set
  pub left : ℕ
  pub count : before ≡ suc left
  pub own : List Block
  pub walked : IsSetWalked spaces set root.birth left after own
  pub are : found ≡ root ∷ own

-- the group of the snapshot before a dataset: 0 where there is none, else what its record tells, which was read
abbrev pub IsGroupBefore : List VdevSpace → ObjectSet → ℕ → DatasetRecord → ℕ → Type 0
IsGroupBefore spaces set birth r since =
    ((r.previous ≡ 0) × (since ≡ 0))
    ⊎ ((r.previous ≢ 0) × ((s : DatasetRecord) × IsRecordFound spaces set birth r.previous s × (s.created ≡ since)))

-- the dataset's record was read, and that of the snapshot before it, and behind them what of the volume was born after that was walked
pub record IsDatasetWalked (spaces : List VdevSpace) (set : ObjectSet)
    (birth object before after : ℕ) (found : List Block) : Type 0 where
  pub dataset : Dataset
  pub has : IsRecordFound spaces set birth object dataset.record
  pub is : IsVolumeOf dataset
  pub since : ℕ
  pub since_is : IsGroupBefore spaces set birth dataset.record since
  pub walked : IsYoungerVolumeWalked since spaces dataset.volume birth before after found

-- the volumes of the rows were walked, one after the other
abbrev pub AreRowsWalked :
    List VdevSpace → ObjectSet → ℕ → List DirectoryRow → ℕ → ℕ → List Block → Type 0
AreRowsWalked spaces set birth [] before after found = (before ≡ after) × (found ≡ [])
AreRowsWalked spaces set birth (row ∷ rows) before after found =
    (mid : ℕ) × (first : List Block) × (rest : List Block)
    × IsDatasetWalked spaces set birth row.object before mid first
    × AreRowsWalked spaces set birth rows mid after rest × (found ≡ first ++ rest)

-- the directory was read, and the volumes of its rows were walked
pub record AreVolumesWalked (spaces : List VdevSpace) (set : ObjectSet) (birth before after : ℕ)
    (found : List Block) : Type 0 where
  pub rows : List DirectoryRow
  pub directory : IsDirectoryFound spaces set birth rows
  pub walked : AreRowsWalked spaces set birth rows before after found

-- The root was read, then the blocks of its set were walked, and then the volumes, by so many reads:
-- that of the root, and those of the walks.
pub record IsReached (spaces : List VdevSpace) (birth : ℕ) (root : Block) (before after : ℕ)
    (found : List Block) : Type 0 where
  pub set : ObjectSet
  pub meta : IsMetaFound spaces birth root set
  pub left : ℕ
  pub count : before ≡ suc left
  pub own : List Block
  pub mid : ℕ
  pub walked : IsSetWalked spaces set root.birth left mid own
  pub below : List Block
  pub volumes : AreVolumesWalked spaces set root.birth mid after below
  pub are : found ≡ root ∷ own ++ below

-- ---- why it was not

-- the dataset's record was read, and that of the snapshot before it was refused
pub record IsBeforeUnread (old new : Store) (missing : List ℕ) (set : ObjectSet) (birth object : ℕ) (refusal : Refusal)
    : Type 0 where
  pub dataset : Dataset
  pub has : IsRecordFound old.spaces set birth object dataset.record
  pub some : dataset.record.previous ≢ 0
  pub mid : Store
  pub first : OnlyReadsBlocks old mid missing
  pub why : IsRecordRefused mid new missing set birth dataset.record.previous refusal

-- both were read, and the walk over the volume was refused
pub record IsVolumeUnwalked (old new : Store) (missing : List ℕ) (set : ObjectSet)
    (birth object before after : ℕ) (refusal : Refusal) : Type 0 where
  pub dataset : Dataset
  pub has : IsRecordFound old.spaces set birth object dataset.record
  pub is : IsVolumeOf dataset
  pub since : ℕ
  pub since_is : IsGroupBefore old.spaces set birth dataset.record since
  pub mid : Store
  pub first : OnlyReadsBlocks old mid missing
  pub why : IsYoungerVolumeRefused since mid new missing dataset.volume birth before after refusal

-- why a dataset was not walked: its record was not read, or that of the snapshot before it, or its volume not walked
abbrev pub IsDatasetUnwalked :
    Store → Store → List ℕ → ObjectSet → ℕ → ℕ → ℕ → ℕ → Refusal → Type 0
IsDatasetUnwalked old new missing set birth object before after refusal =
    (refusal ≡ NoMemory)
    ⊎ (IsRecordRefused old new missing set birth object refusal
    ⊎ (IsBeforeUnread old new missing set birth object refusal
    ⊎ IsVolumeUnwalked old new missing set birth object before after refusal))

-- the volumes of the first rows were walked, and then the dataset of the next was refused
pub record IsRowUnwalked (old new : Store) (missing : List ℕ) (set : ObjectSet) (birth : ℕ)
    (rows : List DirectoryRow) (before after : ℕ) (refusal : Refusal) : Type 0 where
  pub first : List DirectoryRow
  pub row : DirectoryRow
  pub rest : List DirectoryRow
  pub are : rows ≡ first ++ row ∷ rest
  pub found : List Block
  pub left : ℕ
  pub walked : AreRowsWalked old.spaces set birth first before left found
  pub mid : Store
  pub reads : OnlyReadsBlocks old mid missing
  pub why : IsDatasetUnwalked mid new missing set birth row.object left after refusal

-- the directory was read, and then one of its rows was refused
pub record AreRowsUnwalked (old new : Store) (missing : List ℕ) (set : ObjectSet)
    (birth before after : ℕ) (refusal : Refusal) : Type 0 where
  pub rows : List DirectoryRow
  pub directory : IsDirectoryFound old.spaces set birth rows
  pub mid : Store
  pub first : OnlyReadsBlocks old mid missing
  pub why : IsRowUnwalked mid new missing set birth rows before after refusal

-- why the volumes were not walked: the directory was not read, or one of its rows was refused
abbrev pub AreVolumesUnwalked :
    Store → Store → List ℕ → ObjectSet → ℕ → ℕ → ℕ → Refusal → Type 0
AreVolumesUnwalked old new missing set birth before after refusal =
    (refusal ≡ NoMemory)
    ⊎ (IsRowsRefused old new missing set birth directory_kind 1 AreDirectoryRows refusal
    ⊎ AreRowsUnwalked old new missing set birth before after refusal)

-- why the root was not read: none was left to be read, or it was refused
abbrev pub IsMetaMissed : Store → Store → List ℕ → ℕ → Block → ℕ → Refusal → Type 0
IsMetaMissed old new missing birth root before refusal =
    ((refusal ≡ BadPointer) × (before ≡ 0))
    ⊎ IsMetaRefused old new missing birth root refusal

-- the root was read, and the walk over the blocks of its set was refused
pub record IsMetaUnwalked (old new : Store) (missing : List ℕ) (birth : ℕ) (root : Block)
    (before after : ℕ) (refusal : Refusal) : Type 0 where
  pub set : ObjectSet
  pub meta : IsMetaFound old.spaces birth root set
  pub left : ℕ
  pub count : before ≡ suc left
  pub mid : Store
  pub first : OnlyReadsBlocks old mid missing
  pub why : IsSetWalkRefused mid new missing set root.birth left after refusal

-- the blocks of the root and its set were walked, and one is there twice
pub record IsMetaTwice (spaces : List VdevSpace) (birth : ℕ) (root : Block) (before after : ℕ)
    : Type 0 where
  pub set : ObjectSet
  pub found : List Block
  pub walked : IsMetaWalked spaces birth root before after set found
  pub twice : ¬ AreDistinct found

-- why the blocks of a root and its set were not walked, by what was left before and after: the
-- root's was refused, or those of the set, or one is there twice
abbrev pub IsMetaWalkRefused :
    Store → Store → List ℕ → ℕ → Block → ℕ → ℕ → Refusal → Type 0
IsMetaWalkRefused old new missing birth root before after refusal =
    (refusal ≡ NoMemory)
    ⊎ (IsMetaMissed old new missing birth root before refusal
    ⊎ (IsMetaUnwalked old new missing birth root before after refusal
    ⊎ ((refusal ≡ BadPointer) × IsMetaTwice old.spaces birth root before after)))

-- the root was read and the blocks of its set were walked, and then the volumes were refused
pub record IsBelowUnwalked (old new : Store) (missing : List ℕ) (birth : ℕ) (root : Block)
    (before after : ℕ) (refusal : Refusal) : Type 0 where
  pub set : ObjectSet
  pub meta : IsMetaFound old.spaces birth root set
  pub left : ℕ
  pub count : before ≡ suc left
  pub own : List Block
  pub rest : ℕ
  pub walked : IsSetWalked old.spaces set root.birth left rest own
  pub mid : Store
  pub first : OnlyReadsBlocks old mid missing
  pub why : AreVolumesUnwalked mid new missing set root.birth rest after refusal

-- all was walked, and a block is there twice
pub record IsReachTwice (spaces : List VdevSpace) (birth : ℕ) (root : Block) (before after : ℕ)
    : Type 0 where
  pub found : List Block
  pub reached : IsReached spaces birth root before after found
  pub twice : ¬ AreDistinct found

-- why the reach of a root was refused, by what was left before and after: its block was, or the
-- blocks of its set, or the volumes, or a block is there twice
abbrev pub IsReachRefused :
    Store → Store → List ℕ → ℕ → Block → ℕ → ℕ → Refusal → Type 0
IsReachRefused old new missing birth root before after refusal =
    (refusal ≡ NoMemory)
    ⊎ (IsMetaMissed old new missing birth root before refusal
    ⊎ (IsMetaUnwalked old new missing birth root before after refusal
    ⊎ (IsBelowUnwalked old new missing birth root before after refusal
    ⊎ ((refusal ≡ BadPointer) × IsReachTwice old.spaces birth root before after))))
