-- The root of a group.
use Rattle.std.specs.Prelude.{ℕ, ◌≡◌, ◌⊎◌, ◌↔◌, ◌+◌, ◌*◌, ◌<◌, ◌≤◌, false, List, Contains, Option, None, All}
use Rattle.std.specs.List.Sorted.{IsStrictlyIncreasing}
use Rattle.block_pointer.specs.declared.block.Block.{Block}
use Rattle.block_store.specs.Blocks.{Contents}
use Rattle.dataset_groups.specs.Chains.{Reading}
use Rattle.dataset_groups.specs.ChainStanding.{HasChains}
use Rattle.dataset_groups.specs.Over.{IsForList, IsForRecord}
use Rattle.dataset_groups.specs.States.{birth_of, set_of}
use Rattle.dataset_groups.specs.declared.datasets.GroupDatasets.{GroupDatasets}
use Rattle.dataset_groups.specs.Groups.{SpellsGroup, first_number}
pub use Rattle.dataset_groups.specs.Leaving.{IsReachExchanged}
use Rattle.dataset_groups.specs.Names.{NamesPool, reach_by}
use Rattle.dataset_groups.specs.NewVolumes.{numbers_end}
use Rattle.dataset_groups.specs.Writing.{AreWritten, FitsHead, numbers_of}
use Rattle.dead_list.specs.Datasets.{Pool}
use Rattle.dnode.specs.declared.object_set.ObjectSet.{ObjectSet}
use Rattle.dnode.specs.declared.object_set.ObjectSetKind.{ObjectSetKind}
use Rattle.dnode.specs.ObjectSet.{FitsObjectSet}
use Rattle.objset.specs.Sets.{IsSetBlock}
use Rattle.meta_objset.specs.declared.directory.DirectoryRow.{DirectoryRow}
use Rattle.meta_objset.specs.declared.stale_spans.StaleSpan.{StaleSpan}
use Rattle.meta_objset.specs.Names.{IsNamed}
use Rattle.meta_objset.specs.Reading.{HasDirectory}
use Rattle.objset.specs.declared.changes.ObjectChange.{ObjectChange}
use Rattle.objset.specs.Changes.{MayChange, changed}
use Rattle.objset.specs.Objects.{Object, AreObjects}
use Rattle.pool_model.specs.declared.item.Write.{Write}
use Rattle.pool_model.specs.Pools.{PlainPool, all_destroyed}
use Rattle.dataset_snapshots.specs.Creating.{KeepsTables}
use Rattle.dataset_snapshots.specs.declared.groups.Begun.{Begun}
use Rattle.dataset_snapshots.specs.declared.groups.Opened.{Opened}
use Rattle.dataset_snapshots.specs.Pools.{SpellsPool}
use Rattle.dataset_snapshots.specs.Writing.{IsWritten}

-- the objects of the volumes that are written to
abbrev pub objects_of : Opened → List ℕ
objects_of opened = numbers_of opened.written.items

-- new objects take the numbers behind all objects that there are
pub record AreNumbersBehind (set : ObjectSet) (datasets : GroupDatasets) : Type 0 where
  pub next : datasets.next ≡ first_number set
  pub end : datasets.bounds.end ≡ numbers_end
  pub behind : datasets.bounds.behind ≡ first_number set

-- they take these, or some before them, behind the tables
pub record HasNumbers (set : ObjectSet) (datasets : GroupDatasets) : Type 0 where
  pub low : 4 < datasets.next
  pub behind : datasets.bounds.behind ≡ first_number set
  pub which : AreNumbersBehind set datasets
      ⊎ ((datasets.next ≤ datasets.bounds.end) × (datasets.bounds.end ≤ set.objects))

-- numbers are left behind all objects, or as many as so many datasets take
abbrev pub HasRoomFor : GroupDatasets → ℕ → Type 0
HasRoomFor datasets count =
    (datasets.bounds.end ≡ numbers_end) ⊎ (datasets.next + 2 * count ≤ datasets.bounds.end)

-- The volumes that the writes name are there, each once, in the order of their objects' numbers, which are below the set's last.
pub record IsOpened (writes : List Write) (opened : Opened) : Type 0 where
  pub set : FitsObjectSet opened.set
  pub of_set : set_of opened.datasets.changes ≡ opened.set
  pub numbers : HasNumbers opened.set opened.datasets
  pub once : IsStrictlyIncreasing (objects_of opened)
  pub within : All (λ number. number < opened.set.objects) (objects_of opened)
  pub each : All FitsHead opened.written.items
  pub all : (object : ℕ) → IsWritten opened.datasets.directory writes object → Contains (objects_of opened) object

-- so it is before anything is destroyed
pub record IsBegun (begun : Begun) : Type 0 where
  pub set : FitsObjectSet begun.set
  pub once : IsStrictlyIncreasing (numbers_of begun.written.items)
  pub within : All (λ number. number < begun.set.objects) (numbers_of begun.written.items)
  pub each : All FitsHead begun.written.items

-- the rows that have none of these names
abbrev pub AreRowsLeft : List DirectoryRow → List (List ℕ) → List DirectoryRow → Type 0
AreRowsLeft rows names left =
    (row : DirectoryRow) → Contains left row ↔ (Contains rows row × ((name : List ℕ) → Contains names name → ¬ IsNamed row.name name))

-- The group begins with the datasets of the root's pool. The volumes are those that the writes name by the rows that are left once these names are
-- gone, with the blocks that the writes change.
pub record IsBegunFrom (stored : Contents) (birth : ℕ) (root : Block) (pool : PlainPool) (is : SpellsPool stored birth root pool)
    (destroyed : List (List ℕ)) (writes : List Write) (begun : Begun) : Type 0 where
  pub set : begun.set ≡ is.set
  pub born : birth_of begun.datasets.changes ≡ root.birth
  pub directory : begun.datasets.directory ≡ is.rows
  pub begins : (group : ℕ) → root.birth ≤ group
      → SpellsGroup stored group is.objects begun.datasets (record is.datasets { group = group }) is.readings pool
  pub written : (group : ℕ) (left : List DirectoryRow) → root.birth < group → AreRowsLeft is.rows destroyed left
      → AreWritten stored root.birth (record is.datasets { group = group }) is.readings left writes begun.written.items

-- They are those of the root's pool, with the blocks that the writes change, and the group begins with its datasets, once those are destroyed
-- that have these names. Where no name went the rows are the same. What is freed is what the root's pool reached and isn't any more.
pub record IsOpenedFrom (stored : Contents) (group birth : ℕ) (root : Block) (pool : PlainPool) (is : SpellsPool stored birth root pool)
    (destroyed : List (List ℕ)) (writes : List Write) (opened : Opened) : Type 0 where
  pub set : opened.set ≡ is.set
  pub born : birth_of opened.datasets.changes ≡ root.birth
  pub same : opened.renamed ≡ false → opened.datasets.directory ≡ is.rows
  pub datasets : Pool
  pub begins : SpellsGroup stored group is.objects opened.datasets datasets is.readings (all_destroyed destroyed pool)
  pub exchanged : IsReachExchanged group stored stored (reach_by is.datasets is.rows) (reach_by datasets opened.datasets.directory)
      opened.freed.items
  pub written : AreWritten stored root.birth datasets is.readings opened.datasets.directory writes opened.written.items

-- the changes are of objects below the next number, which is behind the tables
pub record IsNextOf (changes : List ObjectChange) (next : ℕ) : Type 0 where
  pub below : All (λ change. change.number < next) changes
  pub behind : 4 < next
  pub within : next ≤ numbers_end

-- a change of the directory or of the table of stale spans, or behind the tables of an object that may have a record or a dead list, or of
-- none
abbrev pub IsOfDatasets : ℕ → Option Object → Type 0
IsOfDatasets number object =
    (number ≡ 1) ⊎ ((number ≡ 3) ⊎ ((4 < number) × ((object ≡ None) ⊎ (IsForRecord object ⊎ IsForList object))))

-- the changes are such
abbrev pub AreOfDatasets : (ℕ → Option Object) → List ObjectChange → Type 0
AreOfDatasets objects changes = All (λ change. IsOfDatasets change.number (objects change.number)) changes

-- The block spells a set of this kind, with these objects.
pub record IsSetOf (stored : Contents) (birth : ℕ) (root : Block) (kind : ObjectSetKind) (objects : ℕ → Option Object) : Type 0 where
  pub set : ObjectSet
  pub is_set : IsSetBlock stored birth root set
  pub kind_is : set.kind ≡ kind
  pub own : List Block
  pub blocks : ℕ → List Block
  pub are : AreObjects stored root.birth set objects own blocks

-- Of these objects the changes make those of the pool: records and dead lists of datasets that fit one another, and the directory, which
-- names them, as the pool's volumes, no more and no fewer. The configuration is as it was, and so are the stale spans, where no others
-- come.
pub record SpellsAfter (stored : Contents) (birth : ℕ) (objects : ℕ → Option Object) (changes : List ObjectChange)
    (spans : Option (List StaleSpan)) (pool : PlainPool) : Type 0 where
  pub rows : List DirectoryRow
  pub directory : HasDirectory (changed changes objects 1) rows
  pub may : All (λ change. MayChange change.change (objects change.number)) changes
  pub tables : KeepsTables spans objects (changed changes objects)
  pub datasets : Pool
  pub readings : ℕ → Reading
  pub chains : HasChains stored birth (changed changes objects) datasets readings
  pub names : NamesPool datasets readings rows pool
