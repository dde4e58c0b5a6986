-- What was read of a table, whether or not its object set is whole.
use Rattle.std.specs.Prelude.{ℕ, ◌≡◌, ◌⊎◌, ◌+◌, ◌<◌, List, Option, Some, None, IsSomeAnd}
use Rattle.block_store.specs.declared.refusal.Refusal.{Refusal}
use Rattle.block_store.specs.declared.refusal.Refusal.TheVariants.{NoMemory, BadPointer}
use Rattle.block_store.specs.Spaces.{VdevSpace}
use Rattle.block_store.specs.Steps.{OnlyReadsBlocks}
use Rattle.block_store.specs.Store.{Store}
use Rattle.dnode.specs.declared.object_set.ObjectSet.{ObjectSet}
use Rattle.objset.specs.NodesFound.{IsNodeRefused}
use Rattle.objset.specs.declared.shape.ObjectShape.{ObjectShape}
use Rattle.objset.specs.Found.{IsDataFound, IsDataRefused}
use Rattle.objset.specs.Shapes.{IsShapeFound}
use Rattle.object_table.specs.declared.kind.TableKind.{TableKind}
use Rattle.object_table.specs.Rows.{SpellsRows}
use Rattle.object_table.specs.Tables.{IsFront}

-- an object of this shape may have such a table
abbrev pub IsShapeOf : TableKind → ObjectShape → Type 0
IsShapeOf kind shape = (shape.object_type ≡ kind.object_type) × (shape.data_sectors ≡ 8)

-- the first blocks of an object, so many, were read, none of them is a hole, and these are their bytes
pub record AreBlocksFound (spaces : List VdevSpace) (set : ObjectSet) (birth number count : ℕ)
    (bytes : List ℕ) : Type 0 where
  pub array : ℕ → Option (List ℕ)
  pub each : (id : ℕ) → id < count → IsDataFound spaces set birth number id (array id)
  pub front : IsFront array count bytes

-- an object that may have such a table was found, with this highest block id
pub record IsObjectFound (spaces : List VdevSpace) (set : ObjectSet) (birth : ℕ) (kind : TableKind)
    (number highest : ℕ) : Type 0 where
  pub shape : ObjectShape
  pub found : IsShapeFound spaces set birth number (Some shape)
  pub of_kind : IsShapeOf kind shape
  pub highest_is : shape.highest ≡ highest

-- and its blocks up to the highest were read, with these bytes
pub record AreBytesFound (spaces : List VdevSpace) (set : ObjectSet) (birth : ℕ) (kind : TableKind)
    (number : ℕ) (bytes : List ℕ) : Type 0 where
  pub highest : ℕ
  pub object : IsObjectFound spaces set birth kind number highest
  pub blocks : AreBlocksFound spaces set birth number (highest + 1) bytes

-- which spell these rows
pub record IsTableFound (spaces : List VdevSpace) (set : ObjectSet) (birth : ℕ) (kind : TableKind)
    (number : ℕ) (rows : List ℕ) : Type 0 where
  pub bytes : List ℕ
  pub read : AreBytesFound spaces set birth kind number bytes
  pub spelled : SpellsRows kind.rows bytes rows

-- there was no object, or one of another type or with blocks of another size
abbrev pub IsOtherFound : List VdevSpace → ObjectSet → ℕ → TableKind → ℕ → Type 0
IsOtherFound spaces set birth kind number =
    (found : Option ObjectShape) × IsShapeFound spaces set birth number found
    × ¬ IsSomeAnd found (IsShapeOf kind)

-- a block that is to be there was a hole
pub record IsHoleFound (spaces : List VdevSpace) (set : ObjectSet) (birth number count : ℕ)
    : Type 0 where
  pub id : ℕ
  pub below : id < count
  pub hole : IsDataFound spaces set birth number id None

-- the blocks were read, and spell no rows
pub record SpellsNoRows (spaces : List VdevSpace) (set : ObjectSet) (birth : ℕ) (kind : TableKind)
    (number : ℕ) : Type 0 where
  pub bytes : List ℕ
  pub read : AreBytesFound spaces set birth kind number bytes
  pub none : (rows : List ℕ) → ¬ SpellsRows kind.rows bytes rows

-- one of the first blocks, so many, was read last, and was refused
pub record IsBlockRefused (old new : Store) (missing : List ℕ) (set : ObjectSet)
    (birth number count : ℕ) (refusal : Refusal) : Type 0 where
  pub id : ℕ
  pub below : id < count
  pub mid : Store
  pub before : OnlyReadsBlocks old mid missing
  pub why : IsDataRefused mid new missing set birth number id refusal

-- why the first blocks of an object, so many, have no bytes
abbrev pub AreBlocksRefused : Store → Store → List ℕ → ObjectSet → ℕ → ℕ → ℕ → Refusal → Type 0
AreBlocksRefused old new missing set birth number count refusal =
    (refusal ≡ NoMemory)
    ⊎ (((refusal ≡ BadPointer) × IsHoleFound old.spaces set birth number count)
    ⊎ IsBlockRefused old new missing set birth number count refusal)

-- a table's object was found, and its blocks have no bytes
pub record AreRowsRefused (old new : Store) (missing : List ℕ) (set : ObjectSet) (birth : ℕ)
    (kind : TableKind) (number : ℕ) (refusal : Refusal) : Type 0 where
  pub highest : ℕ
  pub object : IsObjectFound old.spaces set birth kind number highest
  pub mid : Store
  pub before : OnlyReadsBlocks old mid missing
  pub why : AreBlocksRefused mid new missing set birth number (highest + 1) refusal

-- why a table was not read: its object's dnode was not; or what was found is no table; or its blocks were not read
abbrev pub IsTableRefused : Store → Store → List ℕ → ObjectSet → ℕ → TableKind → ℕ → Refusal → Type 0
IsTableRefused old new missing set birth kind number refusal =
    IsNodeRefused old new missing set birth number refusal
    ⊎ (((refusal ≡ BadPointer) × (IsOtherFound old.spaces set birth kind number
    ⊎ SpellsNoRows old.spaces set birth kind number))
    ⊎ AreRowsRefused old new missing set birth kind number refusal)
