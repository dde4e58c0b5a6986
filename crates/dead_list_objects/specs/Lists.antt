-- Dead lists in objects.
use Rattle.std.specs.Prelude.{ℕ, ◌≡◌, ◌⊎◌, List, Option}
use Rattle.block_pointer.specs.declared.block.Block.{Block}
use Rattle.block_store.specs.Losses.{IsForLoss}
use Rattle.block_store.specs.declared.refusal.Refusal.{Refusal as StoreRefusal}
use Rattle.block_store.specs.Spaces.{VdevSpace}
use Rattle.block_store.specs.Store.{Store}
use Rattle.dead_list.specs.Rows.{SpellsList, SpellsNoList}
use Rattle.dnode.specs.declared.object_set.ObjectSet.{ObjectSet}
use Rattle.object_table.specs.declared.kind.TableKind.{TableKind}
use Rattle.object_table.specs.Ends.{IsEndRefused}
use Rattle.object_table.specs.Found.{IsTableFound, IsTableRefused}
use Rattle.object_table.specs.Tables.{HasTable}
use Rattle.objset.specs.Objects.{Object}
use Rattle.dead_list_objects.specs.declared.refusal.Refusal.{Refusal}
use Rattle.dead_list_objects.specs.declared.refusal.Refusal.TheVariants.{NoMemory, BadList, Unread}

-- a dead list has type 202, and rows of 128 bytes behind a first row of 128
abbrev pub dead_list_kind : TableKind
dead_list_kind = record { object_type = 202; rows = record { first_len = 128; row_len = 128 } }

-- the object's rows are these blocks, in some order
abbrev pub HasDeadList : Option Object → List Block → Type 0
HasDeadList object list =
    (rows : List ℕ) × HasTable dead_list_kind object rows × SpellsList rows list

-- the object has some dead list
abbrev pub HasSomeDeadList : Option Object → Type 0
HasSomeDeadList object = (list : List Block) × HasDeadList object list

-- ---- what was read, whether or not the object set is whole

-- the list's rows were read, and are these blocks, in some order
abbrev pub IsListFound : List VdevSpace → ObjectSet → ℕ → ℕ → List Block → Type 0
IsListFound spaces set birth number list =
    (rows : List ℕ) × IsTableFound spaces set birth dead_list_kind number rows × SpellsList rows list

-- the rows were not read
abbrev pub IsUnread : Store → Store → List ℕ → ObjectSet → ℕ → ℕ → Refusal → Type 0
IsUnread old new missing set birth number refusal =
    (refusal ≡ NoMemory)
    ⊎ ((why : StoreRefusal) × (refusal ≡ Unread why)
    × IsTableRefused old new missing set birth dead_list_kind number why)

-- the end of the list's rows was not read
abbrev pub IsEndUnread : Store → Store → List ℕ → ObjectSet → ℕ → ℕ → Refusal → Type 0
IsEndUnread old new missing set birth number refusal =
    (refusal ≡ NoMemory)
    ⊎ ((why : StoreRefusal) × (refusal ≡ Unread why)
    × IsEndRefused old new missing set birth dead_list_kind number why)

-- why a list was not read: its rows were not, or they are none of a list
abbrev pub IsListRefused : Store → Store → List ℕ → ObjectSet → ℕ → ℕ → Refusal → Type 0
IsListRefused old new missing set birth number refusal =
    IsUnread old new missing set birth number refusal
    ⊎ ((refusal ≡ BadList) × ((rows : List ℕ)
    × IsTableFound old.spaces set birth dead_list_kind number rows × SpellsNoList rows))

-- memory is wanting, or too many disks miss of a block
abbrev pub IsForLossOf : Refusal → Type 0
IsForLossOf refusal =
    (refusal ≡ NoMemory) ⊎ ((why : StoreRefusal) × (refusal ≡ Unread why) × IsForLoss why)
