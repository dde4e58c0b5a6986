-- What an open keeps of a pool's root.
use Rattle.std.specs.Prelude.{ℕ, ◌≡◌, ◌⊎◌, ◌∷◌, ◌++◌, List, All}
use Rattle.std.specs.List.{AllZip}
use Rattle.block_pointer.specs.declared.block.Block.{Block}
use Rattle.block_store.specs.Blocks.{Contents}
use Rattle.block_store.specs.declared.refusal.Refusal.{Refusal}
use Rattle.block_store.specs.declared.refusal.Refusal.TheVariants.{BadPointer, NoMemory}
use Rattle.block_store.specs.Spaces.{VdevSpace}
use Rattle.block_store.specs.Steps.{OnlyReadsBlocks}
use Rattle.block_store.specs.Store.{Store}
use Rattle.dnode.specs.declared.object_set.ObjectSet.{ObjectSet}
use Rattle.meta_objset.specs.declared.directory.DirectoryRow.{DirectoryRow}
use Rattle.meta_objset.specs.declared.record.DatasetRecord.{DatasetRecord}
use Rattle.meta_objset.specs.Found.{AreSpanRows, AreSpansFound, IsRecordFound, IsRecordRefused, IsRowsRefused}
use Rattle.meta_objset.specs.Names.{IsNamed}
use Rattle.meta_objset.specs.StaleSpans.{spans_kind}
use Rattle.pool_model.specs.declared.volume.PlainVolume.{PlainVolume}
use Rattle.pool_model.specs.Pools.{PlainPool}
use Rattle.pool_maps.specs.declared.reading.FreeMetaslab.{FreeMetaslab}
use Rattle.pool_maps.specs.Loads.{AreFreeFound, AreMapsUnread, AreReadMaps}
use Rattle.space_map_objects.specs.declared.refusal.Refusal.{Refusal as MapRefusal}
use Rattle.space_map_objects.specs.declared.refusal.Refusal.TheVariants.{NoMemory as NoMapMemory, Unread}
use Rattle.volume_rules.specs.declared.index.NameIndex.{NameIndex}
use Rattle.volume_rules.specs.declared.shape.VolumeShape.{VolumeShape}
use Rattle.volume_rules.specs.Index.{Knows}
use Rattle.dataset_snapshots.specs.declared.chaining.RowRecord.{RowRecord}
use Rattle.dataset_snapshots.specs.declared.contents.RootContents.{RootContents}
use Rattle.dataset_snapshots.specs.Chaining.{AreChained}
use Rattle.dataset_snapshots.specs.Finding.{AreRowsFound, IsDirectoryRefused, IsMetaFound, IsMetaRefused}
use Rattle.dataset_snapshots.specs.Clones.{IsToldOrigin, TellsOrigin}
use Rattle.dataset_snapshots.specs.Pools.{IsRecordKind, IsRecordOf, SpellsPool}
use Rattle.dataset_snapshots.specs.Reach.{meta_blocks_of, IsMetaWalked, IsMetaWalkRefused}

-- these are the root's own: the rows that it spells its pool by, the names of the pool, the blocks
-- of the root and its meta object set, what its space maps leave free of these vdevs, and the stale
-- spans
pub record AreContentsOf (stored : Contents) (spaces : List VdevSpace) (birth : ℕ) (root : Block)
    (pool : PlainPool) (contents : RootContents) : Type 0 where
  pub is : SpellsPool stored birth root pool
  pub rows : contents.directory ≡ is.rows
  pub names : Knows contents.names pool
  pub blocks : contents.blocks.items ≡ meta_blocks_of is
  pub maps : AreReadMaps is.objects spaces contents.maps.items
  pub spans : contents.spans ≡ is.stale

-- ---- what was read, whether or not the root is whole

-- the shape of the volume or snapshot of the record
pub record IsShapeIn (r : DatasetRecord) (shape : VolumeShape) : Type 0 where
  pub kind : IsRecordKind shape.kind r.kind
  pub size : shape.size ≡ r.size
  pub block_size : shape.block_size ≡ r.block_size
  pub created : shape.group ≡ r.created

-- the volume has the row's name, and what its record says, which was read
pub record IsVolumeNamed (spaces : List VdevSpace) (set : ObjectSet) (birth : ℕ)
    (row : DirectoryRow) (volume : PlainVolume) : Type 0 where
  pub name : IsNamed row.name volume.name
  pub r : DatasetRecord
  pub has : IsRecordFound spaces set birth row.object r
  pub is : IsRecordOf r volume

-- the record of the row's object was read
pub record IsRowRecord (spaces : List VdevSpace) (set : ObjectSet) (birth : ℕ) (row : DirectoryRow)
    (one : RowRecord) : Type 0 where
  pub object : one.object ≡ row.object
  pub has : IsRecordFound spaces set birth row.object one.record

-- the index knows the volumes of the rows, each with an origin that the records tell of its name: with none where they tell none
abbrev pub AreVolumesNamed :
    List VdevSpace → ObjectSet → ℕ → List DirectoryRow → NameIndex → Type 0
AreVolumesNamed spaces set birth rows names =
    (records : List RowRecord) × AllZip (IsRowRecord spaces set birth) rows records
    × (volumes : List PlainVolume) × AllZip (IsVolumeNamed spaces set birth) rows volumes
    × All (λ volume. IsToldOrigin (TellsOrigin rows records volume.name) volume.origin) volumes
    × Knows names (record { volumes = volumes })

-- the records of all rows were read, and fit one another
abbrev pub AreChainsFound : List VdevSpace → ObjectSet → ℕ → List DirectoryRow → Type 0
AreChainsFound spaces set birth rows =
    (records : List RowRecord) × AllZip (IsRowRecord spaces set birth) rows records
    × AreChained records

-- the root was read, and then the record of each row; these fit one another
pub record AreNamesFound (spaces : List VdevSpace) (birth : ℕ) (root : Block)
    (rows : List DirectoryRow) (names : NameIndex) : Type 0 where
  pub set : ObjectSet
  pub meta : IsMetaFound spaces birth root set
  pub volumes : AreVolumesNamed spaces set root.birth rows names
  pub chains : AreChainsFound spaces set root.birth rows

-- the directory was read, the names of its rows, then the blocks of the root and its set, by so many
-- reads of these, and then the set's space maps and its stale spans
pub record AreContentsFound (spaces : List VdevSpace) (birth : ℕ) (root : Block) (before after : ℕ)
    (contents : RootContents) : Type 0 where
  pub set : ObjectSet
  pub directory : AreRowsFound spaces birth root set contents.directory
  pub names : AreNamesFound spaces birth root contents.directory contents.names
  pub walked_set : ObjectSet
  pub blocks : IsMetaWalked spaces birth root before after walked_set contents.blocks.items
  pub maps : AreFreeFound spaces walked_set root.birth contents.maps.items
  pub spans : AreSpansFound spaces walked_set root.birth contents.spans

-- ---- why it was not

-- behind other reads, the record of one of the rows was refused
pub record IsRowUnnamed (old new : Store) (missing : List ℕ) (set : ObjectSet) (birth : ℕ)
    (rows : List DirectoryRow) (refusal : Refusal) : Type 0 where
  pub first : List DirectoryRow
  pub row : DirectoryRow
  pub rest : List DirectoryRow
  pub are : rows ≡ first ++ row ∷ rest
  pub mid : Store
  pub reads : OnlyReadsBlocks old mid missing
  pub why : IsRecordRefused mid new missing set birth row.object refusal

-- they were read, and don't
abbrev pub AreUnchained :
    List VdevSpace → ObjectSet → ℕ → List DirectoryRow → Refusal → Type 0
AreUnchained spaces set birth rows refusal =
    (refusal ≡ BadPointer)
    × ((records : List RowRecord) × AllZip (IsRowRecord spaces set birth) rows records
    × ¬ AreChained records)

-- the root was read, and then one of the rows was refused, or their records don't fit one another
pub record AreRowsUnnamed (old new : Store) (missing : List ℕ) (birth : ℕ) (root : Block)
    (rows : List DirectoryRow) (refusal : Refusal) : Type 0 where
  pub set : ObjectSet
  pub meta : IsMetaFound old.spaces birth root set
  pub mid : Store
  pub first : OnlyReadsBlocks old mid missing
  pub why : IsRowUnnamed mid new missing set root.birth rows refusal
      ⊎ AreUnchained mid.spaces set root.birth rows refusal

-- why the names of the rows were not read: the root was not, or one of the rows was refused, or their
-- records don't fit one another
abbrev pub AreNamesRefused :
    Store → Store → List ℕ → ℕ → Block → List DirectoryRow → Refusal → Type 0
AreNamesRefused old new missing birth root rows refusal =
    (refusal ≡ NoMemory)
    ⊎ (IsMetaRefused old new missing birth root refusal
    ⊎ AreRowsUnnamed old new missing birth root rows refusal)

-- the directory was read, and then the names of its rows were refused
pub record AreNamesUnread (old new : Store) (missing : List ℕ) (birth : ℕ) (root : Block)
    (refusal : Refusal) : Type 0 where
  pub set : ObjectSet
  pub rows : List DirectoryRow
  pub read : AreRowsFound old.spaces birth root set rows
  pub mid : Store
  pub first : OnlyReadsBlocks old mid missing
  pub why : AreNamesRefused mid new missing birth root rows refusal

-- the directory and the names of its rows were read, and then the walk of the meta object set was
-- refused
pub record IsMetaUnread (old new : Store) (missing : List ℕ) (birth : ℕ) (root : Block)
    (before after : ℕ) (refusal : Refusal) : Type 0 where
  pub set : ObjectSet
  pub rows : List DirectoryRow
  pub read : AreRowsFound old.spaces birth root set rows
  pub mid : Store
  pub first : OnlyReadsBlocks old mid missing
  pub why : IsMetaWalkRefused mid new missing birth root before after refusal

-- why what comes before the space maps was not read: the directory was not, or the names of its
-- rows, or the meta object set was not walked
abbrev pub IsRootUnread :
    Store → Store → List ℕ → ℕ → Block → ℕ → ℕ → Refusal → Type 0
IsRootUnread old new missing birth root before after refusal =
    (IsMetaRefused old new missing birth root refusal
    ⊎ IsDirectoryRefused old new missing birth root refusal)
    ⊎ (AreNamesUnread old new missing birth root refusal
    ⊎ IsMetaUnread old new missing birth root before after refusal)

-- all that was read, the meta object set was walked, and then its space maps were refused
pub record AreRootMapsUnread (old new : Store) (missing : List ℕ) (birth : ℕ) (root : Block)
    (before after : ℕ) (refusal : MapRefusal) : Type 0 where
  pub set : ObjectSet
  pub rows : List DirectoryRow
  pub read : AreRowsFound old.spaces birth root set rows
  pub walked_set : ObjectSet
  pub found : List Block
  pub walked : IsMetaWalked old.spaces birth root before after walked_set found
  pub mid : Store
  pub first : OnlyReadsBlocks old mid missing
  pub why : AreMapsUnread mid new missing walked_set root.birth refusal

-- the space maps too, and then its stale spans were refused
pub record AreRootSpansUnread (old new : Store) (missing : List ℕ) (birth : ℕ) (root : Block)
    (before after : ℕ) (refusal : Refusal) : Type 0 where
  pub set : ObjectSet
  pub rows : List DirectoryRow
  pub read : AreRowsFound old.spaces birth root set rows
  pub walked_set : ObjectSet
  pub found : List Block
  pub walked : IsMetaWalked old.spaces birth root before after walked_set found
  pub maps : List FreeMetaslab
  pub loaded : AreFreeFound old.spaces walked_set root.birth maps
  pub mid : Store
  pub first : OnlyReadsBlocks old mid missing
  pub why : IsRowsRefused mid new missing walked_set root.birth spans_kind 3 AreSpanRows refusal

-- why the contents of a root were not read: something before the space maps was not, or the stale spans
-- behind them, or the maps themselves
abbrev pub AreContentsRefused :
    Store → Store → List ℕ → ℕ → Block → ℕ → ℕ → MapRefusal → Type 0
AreContentsRefused old new missing birth root before after refusal =
    (refusal ≡ NoMapMemory)
    ⊎ (((why : Refusal) × (refusal ≡ Unread why)
    × (IsRootUnread old new missing birth root before after why
    ⊎ AreRootSpansUnread old new missing birth root before after why))
    ⊎ AreRootMapsUnread old new missing birth root before after refusal)
