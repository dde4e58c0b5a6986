-- Datasets that a group destroys, by their names.
use Rattle.std.specs.Prelude.{ℕ, ◌≡◌, ◌↔◌, ◌⊎◌, ◌≤◌, List, [], ◌∷◌, ◌++◌, length, Contains, Option}
use Rattle.block_pointer.specs.declared.block.Block.{Block}
use Rattle.block_store.specs.Blocks.{Contents}
use Rattle.block_store.specs.Steps.{OnlyReadsBlocks}
use Rattle.block_store.specs.Store.{Store}
use Rattle.block_store.specs.declared.refusal.Refusal.{Refusal}
use Rattle.block_store.specs.declared.refusal.Refusal.TheVariants.{NoMemory}
use Rattle.dataset_destroys.specs.Chains.{Reading}
use Rattle.dataset_destroys.specs.DatasetChanges.{DatasetChanges}
use Rattle.dataset_destroys.specs.Destroying.{IsDatasetKept}
use Rattle.dataset_destroys.specs.Touched.{IsDestroyTouched}
use Rattle.dead_list.specs.Datasets.{Pool}
use Rattle.dead_list.specs.Operations.{IsWritable}
use Rattle.meta_objset.specs.declared.directory.DirectoryRow.{DirectoryRow}
use Rattle.meta_objset.specs.Names.{IsNamed}
use Rattle.objset.specs.Objects.{Object}
use Rattle.pool_model.specs.Pools.{PlainPool}
use Rattle.dataset_groups.specs.Demands.{IsNameThere}
use Rattle.dataset_groups.specs.Groups.{SpellsGroup}
use Rattle.dataset_groups.specs.Leaving.{IsReachExchanged}
use Rattle.dataset_groups.specs.Names.{reach_by}
use Rattle.dataset_groups.specs.declared.datasets.GroupDatasets.{GroupDatasets}

-- What rows name is what it was, but for what is before it and which blocks are dead behind that; a head may be written to still.
pub record KeepsNamed (pool after : Pool) (rows : List DirectoryRow) : Type 0 where
  pub kinds : (row : DirectoryRow) → Contains rows row
      → (after.datasets row.object).kind ≡ (pool.datasets row.object).kind
  pub groups : (row : DirectoryRow) → Contains rows row
      → (after.datasets row.object).group ≡ (pool.datasets row.object).group
  pub blocks : (row : DirectoryRow) → Contains rows row
      → (after.datasets row.object).blocks ≡ (pool.datasets row.object).blocks
  pub writable : (row : DirectoryRow) → Contains rows row → IsWritable pool row.object
      → IsWritable after row.object

-- The datasets come to those of the plain pool. What is freed is what was reached and isn't any more; nothing is planned.
pub record AreDestroyed (group : ℕ) (objects : ℕ → Option Object) (stored : Contents) (old new : GroupDatasets) (pool : Pool)
    (readings : ℕ → Reading) (plain : PlainPool) (gone : List Block) : Type 0 where
  pub after : Pool
  pub spells : SpellsGroup stored group objects new after readings plain
  pub exchanged : IsReachExchanged group stored stored (reach_by pool old.directory) (reach_by after new.directory) gone
  pub keeps : KeepsNamed pool after new.directory

-- no dataset has more blocks
abbrev pub HasAtMost : Pool → ℕ → Type 0
HasAtMost pool most = (number : ℕ) → length (pool.datasets number).blocks ≤ most

-- ---- whatever the datasets are

-- the rows but for the one of that name
abbrev pub IsRowGone : List DirectoryRow → List ℕ → List DirectoryRow → Type 0
IsRowGone rows name left =
    (row : DirectoryRow) → Contains left row ↔ (Contains rows row × ¬ IsNamed row.name name)

-- a row has the name, and its dataset is destroyed
pub record DestroysNamed (old new : GroupDatasets) (name : List ℕ) : Type 0 where
  pub row : DirectoryRow
  pub held : Contains old.directory row
  pub named : IsNamed row.name name
  pub rows : IsRowGone old.directory name new.directory
  pub next : new.next ≡ old.next
  pub bounds : new.bounds ≡ old.bounds
  pub touched : IsDestroyTouched old.changes new.changes row.object

-- or none has, and nothing changes
abbrev pub DestroysOne : GroupDatasets → GroupDatasets → List ℕ → Type 0
DestroysOne old new name =
    ((¬ IsNameThere old.directory name) × (new ≡ old)) ⊎ DestroysNamed old new name

-- so it is with these names, one after the other
abbrev pub DestroysAll : GroupDatasets → GroupDatasets → List (List ℕ) → Type 0
DestroysAll old new [] = new ≡ old
DestroysAll old new (name ∷ names) =
    (mid : GroupDatasets) × DestroysOne old mid name × DestroysAll mid new names

-- the first names were destroyed, and then the dataset of the next was not; at most so many of a volume's blocks are read
pub record IsDestroyRefused (old new : Store) (datasets : GroupDatasets) (group most : ℕ) (names : List (List ℕ))
    (refusal : Refusal) : Type 0 where
  pub first : List (List ℕ)
  pub name : List ℕ
  pub rest : List (List ℕ)
  pub are : names ≡ first ++ name ∷ rest
  pub mid : GroupDatasets
  pub done : DestroysAll datasets mid first
  pub row : DirectoryRow
  pub held : Contains mid.directory row
  pub named : IsNamed row.name name
  pub store : Store
  pub reads : OnlyReadsBlocks old store []
  pub last : DatasetChanges
  pub left : ℕ
  pub why : IsDatasetKept store new mid.changes last row.object group most left refusal

-- why names are not destroyed
abbrev pub AreDestroysRefused :
    Store → Store → GroupDatasets → ℕ → ℕ → List (List ℕ) → Refusal → Type 0
AreDestroysRefused old new datasets group most names refusal =
    (refusal ≡ NoMemory) ⊎ IsDestroyRefused old new datasets group most names refusal
