-- What was read of the pool's tables and records, whether or not the meta object set is whole.
use Rattle.std.specs.Prelude.{ℕ, ◌≡◌, ◌⊎◌, List, Option, Some, None, length, IsSomeAnd}
use Rattle.block_store.specs.declared.refusal.Refusal.{Refusal}
use Rattle.block_store.specs.declared.refusal.Refusal.TheVariants.{BadPointer}
use Rattle.block_store.specs.Spaces.{VdevSpace}
use Rattle.block_store.specs.Steps.{OnlyReadsBlocks}
use Rattle.block_store.specs.Store.{Store}
use Rattle.dnode.specs.declared.object_set.ObjectSet.{ObjectSet}
use Rattle.objset.specs.NodesFound.{IsNodeRefused}
use Rattle.objset.specs.declared.shape.ObjectShape.{ObjectShape}
use Rattle.objset.specs.Found.{IsDataFound, IsDataRefused}
use Rattle.objset.specs.Shapes.{IsShapeFound}
use Rattle.object_table.specs.declared.kind.TableKind.{TableKind}
use Rattle.object_table.specs.Found.{IsTableFound, IsTableRefused}
use Rattle.vdev_label.specs.Config.{FitsConfig, config_bytes}
use Rattle.vdev_label.specs.Plain.{PlainVdev}
use Rattle.meta_objset.specs.declared.directory.DirectoryRow.{DirectoryRow}
use Rattle.meta_objset.specs.declared.record.DatasetRecord.{DatasetRecord}
use Rattle.meta_objset.specs.declared.space_maps.MetaslabMap.{MetaslabMap}
use Rattle.meta_objset.specs.declared.stale_spans.StaleSpan.{StaleSpan}
use Rattle.meta_objset.specs.Directory.{IsDirectory, rows_bytes}
use Rattle.meta_objset.specs.Reading.{directory_kind, config_kind}
use Rattle.meta_objset.specs.SpaceMaps.{AreSpaceMaps, maps_bytes, maps_kind}
use Rattle.meta_objset.specs.StaleSpans.{AreStaleSpans, spans_bytes, spans_kind}
use Rattle.meta_objset.specs.Record.{SpellsRecord}

-- a table was found, and its rows are none of those that it may have
pub record IsTableOfOthers (spaces : List VdevSpace) (set : ObjectSet) (birth : ℕ) (kind : TableKind)
    (number : ℕ) (MayHave : List ℕ → Type 0) : Type 0 where
  pub rows : List ℕ
  pub found : IsTableFound spaces set birth kind number rows
  pub none : ¬ MayHave rows

-- why such a table was not read: no table was, or its rows are others
abbrev pub IsRowsRefused : Store → Store → List ℕ → ObjectSet → ℕ → TableKind → ℕ → (List ℕ → Type 0)
    → Refusal → Type 0
IsRowsRefused old new missing set birth kind number MayHave refusal =
    IsTableRefused old new missing set birth kind number refusal
    ⊎ ((refusal ≡ BadPointer) × IsTableOfOthers old.spaces set birth kind number MayHave)

-- these rows are a directory's
abbrev pub AreDirectoryRows : List ℕ → Type 0
AreDirectoryRows bytes = (rows : List DirectoryRow) × IsDirectory rows × (bytes ≡ rows_bytes rows)

-- the directory was found
abbrev pub IsDirectoryFound : List VdevSpace → ObjectSet → ℕ → List DirectoryRow → Type 0
IsDirectoryFound spaces set birth rows =
    IsDirectory rows × IsTableFound spaces set birth directory_kind 1 (rows_bytes rows)

-- these rows are stale spans
abbrev pub AreSpanRows : List ℕ → Type 0
AreSpanRows bytes = (spans : List StaleSpan) × AreStaleSpans spans × (bytes ≡ spans_bytes spans)

-- the stale spans were found
abbrev pub AreSpansFound : List VdevSpace → ObjectSet → ℕ → List StaleSpan → Type 0
AreSpansFound spaces set birth spans =
    AreStaleSpans spans × IsTableFound spaces set birth spans_kind 3 (spans_bytes spans)

-- these rows are space maps
abbrev pub AreMapRows : List ℕ → Type 0
AreMapRows bytes = (maps : List MetaslabMap) × AreSpaceMaps maps × (bytes ≡ maps_bytes maps)

-- the space maps were found
abbrev pub AreMapsFound : List VdevSpace → ObjectSet → ℕ → List MetaslabMap → Type 0
AreMapsFound spaces set birth maps =
    AreSpaceMaps maps × IsTableFound spaces set birth maps_kind 4 (maps_bytes maps)

-- these rows are a configuration's
abbrev pub AreConfigRows : List ℕ → Type 0
AreConfigRows bytes = (vdevs : List PlainVdev) × FitsConfig vdevs × (bytes ≡ config_bytes vdevs)

-- the configuration was found
abbrev pub IsConfigFound : List VdevSpace → ObjectSet → ℕ → List PlainVdev → Type 0
IsConfigFound spaces set birth vdevs =
    FitsConfig vdevs × IsTableFound spaces set birth config_kind 2 (config_bytes vdevs)

-- an object of this shape may have a record
abbrev pub IsRecordShape : ObjectShape → Type 0
IsRecordShape shape =
    (shape.object_type ≡ 201) × (shape.data_sectors ≡ 1) × (shape.highest ≡ 0)

-- an object that may have a record was found
abbrev pub IsRecordThere : List VdevSpace → ObjectSet → ℕ → ℕ → Type 0
IsRecordThere spaces set birth number =
    (shape : ObjectShape) × IsShapeFound spaces set birth number (Some shape) × IsRecordShape shape

-- and its block was read, which spells the record
pub record IsRecordFound (spaces : List VdevSpace) (set : ObjectSet) (birth number : ℕ)
    (r : DatasetRecord) : Type 0 where
  pub there : IsRecordThere spaces set birth number
  pub bytes : List ℕ
  pub block : IsDataFound spaces set birth number 0 (Some bytes)
  pub size : length bytes ≡ 512
  pub spelled : SpellsRecord bytes r

-- there was no object, or one that has no record
abbrev pub IsNoRecordThere : List VdevSpace → ObjectSet → ℕ → ℕ → Type 0
IsNoRecordThere spaces set birth number =
    (found : Option ObjectShape) × IsShapeFound spaces set birth number found
    × ¬ IsSomeAnd found IsRecordShape

-- its block was read, and spells none
pub record SpellsNoRecord (spaces : List VdevSpace) (set : ObjectSet) (birth number : ℕ) : Type 0 where
  pub bytes : List ℕ
  pub block : IsDataFound spaces set birth number 0 (Some bytes)
  pub none : length bytes ≡ 512 → (r : DatasetRecord) → ¬ SpellsRecord bytes r

-- what was found is no record: no object for one, a hole, or bytes that spell none
abbrev pub IsNoRecord : List VdevSpace → ObjectSet → ℕ → ℕ → Type 0
IsNoRecord spaces set birth number =
    IsNoRecordThere spaces set birth number
    ⊎ (IsDataFound spaces set birth number 0 None ⊎ SpellsNoRecord spaces set birth number)

-- the object was found, and its block was refused
pub record IsRecordLost (old new : Store) (missing : List ℕ) (set : ObjectSet) (birth number : ℕ)
    (refusal : Refusal) : Type 0 where
  pub there : IsRecordThere old.spaces set birth number
  pub mid : Store
  pub before : OnlyReadsBlocks old mid missing
  pub why : IsDataRefused mid new missing set birth number 0 refusal

-- why a record was not read: its object's dnode was not; or there is none; or its block was not read
abbrev pub IsRecordRefused : Store → Store → List ℕ → ObjectSet → ℕ → ℕ → Refusal → Type 0
IsRecordRefused old new missing set birth number refusal =
    IsNodeRefused old new missing set birth number refusal
    ⊎ (((refusal ≡ BadPointer) × IsNoRecord old.spaces set birth number)
    ⊎ IsRecordLost old new missing set birth number refusal)
