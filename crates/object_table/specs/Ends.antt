-- The end of a table: what has to be known of it to add rows to it.
use Rattle.std.specs.Prelude.{ℕ, ◌≡◌, ◌⊎◌, ◌+◌, ◌*◌, List, length, take, drop, Option, Some, None}
use Rattle.block_store.specs.declared.refusal.Refusal.{Refusal}
use Rattle.block_store.specs.declared.refusal.Refusal.TheVariants.{BadPointer}
use Rattle.block_store.specs.Spaces.{VdevSpace}
use Rattle.block_store.specs.Steps.{OnlyReadsBlocks}
use Rattle.block_store.specs.Store.{Store}
use Rattle.dnode.specs.declared.object_set.ObjectSet.{ObjectSet}
use Rattle.objset.specs.NodesFound.{IsNodeRefused}
use Rattle.objset.specs.Found.{IsDataFound, IsDataRefused}
use Rattle.objset.specs.Objects.{Object}
use Rattle.object_table.specs.declared.ends.TableEnd.{TableEnd}
use Rattle.object_table.specs.declared.kind.TableKind.{TableKind}
use Rattle.object_table.specs.declared.shape.RowShape.{RowShape}
use Rattle.object_table.specs.Found.{IsObjectFound, IsOtherFound}
use Rattle.object_table.specs.Rows.{SpellsRows}
use Rattle.object_table.specs.Shape.{AreRows}
use Rattle.object_table.specs.Tables.{HasTable, HasWholeBlocks}

-- The object has a table with these rows, in blocks of 4,096 bytes, and this is its end: how many rows they are, and the first and
-- the last block.
pub record IsEndOf (kind : TableKind) (object : Option Object) (rows : List ℕ) (end : TableEnd) : Type 0 where
  pub table : HasTable kind object rows
  pub whole : HasWholeBlocks table.there.array
  pub count : AreRows kind.rows end.rows rows
  pub first : table.there.array 0 ≡ Some end.first.items
  pub last : table.there.array table.there.highest ≡ Some end.last.items

-- Some table with so many rows, up to this block id, has these as its first and its last block.
pub record AreEndsOfSome (shape : RowShape) (highest count : ℕ) (first last : List ℕ) : Type 0 where
  pub rows : List ℕ
  pub are_rows : AreRows shape count rows
  pub bytes : List ℕ
  pub spelled : SpellsRows shape bytes rows
  pub size : length bytes ≡ (highest + 1) * 4096
  pub first_is : take 4096 bytes ≡ first
  pub last_is : drop (highest * 4096) bytes ≡ last

-- ---- what was read, whether or not the object set is whole

-- an object that may have such a table was found, with this highest block id, and its first and its last block were read
pub record AreEndsFound (spaces : List VdevSpace) (set : ObjectSet) (birth : ℕ) (kind : TableKind) (number highest : ℕ)
    (first last : List ℕ) : Type 0 where
  pub object : IsObjectFound spaces set birth kind number highest
  pub first_is : IsDataFound spaces set birth number 0 (Some first)
  pub last_is : IsDataFound spaces set birth number highest (Some last)

-- which are those of some table with so many rows
pub record IsEndFound (spaces : List VdevSpace) (set : ObjectSet) (birth : ℕ) (kind : TableKind) (number : ℕ) (end : TableEnd)
    : Type 0 where
  pub highest : ℕ
  pub read : AreEndsFound spaces set birth kind number highest end.first.items end.last.items
  pub ends : AreEndsOfSome kind.rows highest end.rows end.first.items end.last.items

-- or of none
pub record AreEndsOfNone (spaces : List VdevSpace) (set : ObjectSet) (birth : ℕ) (kind : TableKind) (number : ℕ) : Type 0 where
  pub highest : ℕ
  pub first : List ℕ
  pub last : List ℕ
  pub read : AreEndsFound spaces set birth kind number highest first last
  pub none : (count : ℕ) → ¬ AreEndsOfSome kind.rows highest count first last

-- one of the two blocks was read last, and is a hole or was refused
pub record IsEndBlockRefused (old new : Store) (missing : List ℕ) (set : ObjectSet) (birth number highest : ℕ) (refusal : Refusal)
    : Type 0 where
  pub id : ℕ
  pub which : (id ≡ 0) ⊎ (id ≡ highest)
  pub mid : Store
  pub before : OnlyReadsBlocks old mid missing
  pub why : ((refusal ≡ BadPointer) × IsDataFound mid.spaces set birth number id None)
      ⊎ IsDataRefused mid new missing set birth number id refusal

-- a table's object was found, and one of the two blocks has no bytes
pub record AreEndsRefused (old new : Store) (missing : List ℕ) (set : ObjectSet) (birth : ℕ) (kind : TableKind) (number : ℕ)
    (refusal : Refusal) : Type 0 where
  pub highest : ℕ
  pub object : IsObjectFound old.spaces set birth kind number highest
  pub mid : Store
  pub before : OnlyReadsBlocks old mid missing
  pub why : IsEndBlockRefused mid new missing set birth number highest refusal

-- why the end of a table was not read: its object's dnode was not; or what was found is no table; or one of the two blocks was not read
abbrev pub IsEndRefused : Store → Store → List ℕ → ObjectSet → ℕ → TableKind → ℕ → Refusal → Type 0
IsEndRefused old new missing set birth kind number refusal =
    IsNodeRefused old new missing set birth number refusal
    ⊎ (((refusal ≡ BadPointer) × (IsOtherFound old.spaces set birth kind number
    ⊎ AreEndsOfNone old.spaces set birth kind number))
    ⊎ AreEndsRefused old new missing set birth kind number refusal)
