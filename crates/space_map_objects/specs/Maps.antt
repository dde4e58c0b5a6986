-- Space maps in objects.
use Rattle.std.specs.Prelude.{ℕ, ◌≡◌, ◌⊎◌, List, Option}
use Rattle.block_store.specs.Losses.{IsForLoss}
use Rattle.block_store.specs.declared.refusal.Refusal.{Refusal as StoreRefusal}
use Rattle.block_store.specs.Spaces.{VdevSpace}
use Rattle.block_store.specs.Store.{Store}
use Rattle.dnode.specs.declared.object_set.ObjectSet.{ObjectSet}
use Rattle.object_table.specs.declared.kind.TableKind.{TableKind}
use Rattle.object_table.specs.Ends.{IsEndRefused}
use Rattle.object_table.specs.Found.{IsTableFound, IsTableRefused}
use Rattle.object_table.specs.Tables.{HasTable}
use Rattle.objset.specs.Objects.{Object}
use Rattle.space_map.specs.declared.entry.Entry.{Entry}
use Rattle.space_map.specs.Condensed.{IsCondensed}
use Rattle.space_map.specs.Entry.{Spells}
use Rattle.space_map.specs.FreeRuns.{FreeRuns, IsSet}
use Rattle.space_map.specs.Map.{all_free, free_set, IsMap}
use Rattle.space_map_objects.specs.declared.refusal.Refusal.{Refusal}
use Rattle.space_map_objects.specs.declared.refusal.Refusal.TheVariants.{NoMemory, BadMap, Unread}

-- type 8, and rows of 8 bytes behind a first row of 8
abbrev pub map_kind : TableKind
map_kind = record { object_type = 8; rows = record { first_len = 8; row_len = 8 } }

-- the bytes spell a map of a metaslab of so many sectors, whose entries leave these free
pub record LeavesFree (bytes : List ℕ) (sectors : ℕ) (free : FreeRuns) : Type 0 where
  pub entries : List Entry
  pub spelled : Spells bytes entries
  pub is_map : IsMap sectors (all_free sectors) entries
  pub leaves : IsSet free sectors (free_set (all_free sectors) entries)

-- the bytes spell no map of such a metaslab
abbrev pub SpellsNoMap : List ℕ → ℕ → Type 0
SpellsNoMap bytes sectors = (entries : List Entry) → Spells bytes entries → ¬ IsMap sectors (all_free sectors) entries

-- the object has a map, and it leaves these sectors free
abbrev pub HasMap : Option Object → ℕ → FreeRuns → Type 0
HasMap object sectors free =
    (bytes : List ℕ) × HasTable map_kind object bytes × LeavesFree bytes sectors free

-- the object has a map of such a metaslab
abbrev pub HasSomeMap : Option Object → ℕ → Type 0
HasSomeMap object sectors = (free : FreeRuns) × HasMap object sectors free

-- the object has the shortest map of the free set
abbrev pub HasCondensedMap : Option Object → FreeRuns → Type 0
HasCondensedMap object free = (bytes : List ℕ) × HasTable map_kind object bytes × IsCondensed free bytes

-- ---- what was read, whether or not the object set is whole

-- the map's rows were read, and leave these sectors free
abbrev pub IsMapFound : List VdevSpace → ObjectSet → ℕ → ℕ → ℕ → FreeRuns → Type 0
IsMapFound spaces set birth number sectors free =
    (bytes : List ℕ) × IsTableFound spaces set birth map_kind number bytes × LeavesFree bytes sectors free

-- the rows were not read
abbrev pub IsUnread : Store → Store → List ℕ → ObjectSet → ℕ → ℕ → Refusal → Type 0
IsUnread old new missing set birth number refusal =
    (refusal ≡ NoMemory)
    ⊎ ((why : StoreRefusal) × (refusal ≡ Unread why)
    × IsTableRefused old new missing set birth map_kind number why)

-- the end of the map was not read
abbrev pub IsEndUnread : Store → Store → List ℕ → ObjectSet → ℕ → ℕ → Refusal → Type 0
IsEndUnread old new missing set birth number refusal =
    (refusal ≡ NoMemory)
    ⊎ ((why : StoreRefusal) × (refusal ≡ Unread why)
    × IsEndRefused old new missing set birth map_kind number why)

-- why a map was not read: its rows were not, or they spell none
abbrev pub IsMapRefused : Store → Store → List ℕ → ObjectSet → ℕ → ℕ → ℕ → Refusal → Type 0
IsMapRefused old new missing set birth number sectors refusal =
    IsUnread old new missing set birth number refusal
    ⊎ ((refusal ≡ BadMap) × ((bytes : List ℕ)
    × IsTableFound old.spaces set birth map_kind number bytes × SpellsNoMap bytes sectors))

-- memory is wanting, or too many disks miss of a block
abbrev pub IsForLossOf : Refusal → Type 0
IsForLossOf refusal =
    (refusal ≡ NoMemory) ⊎ ((why : StoreRefusal) × (refusal ≡ Unread why) × IsForLoss why)
