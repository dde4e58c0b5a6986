-- The datasets of a pool under the names of its directory, as plain volumes.
use Rattle.std.specs.Prelude.{ℕ, ◌≡◌, ◌≢◌, true, List, map, Some, Contains}
use Rattle.std.specs.List.{AllZip}
use Rattle.block_pointer.specs.declared.block.Block.{Block}
use Rattle.dataset_destroys.specs.Chains.{Reading}
use Rattle.dead_list.specs.Datasets.{Head, Kind, Pool}
use Rattle.dead_list.specs.Datasets.{Snapshot as ASnapshot}
use Rattle.dead_list.specs.Reach.{AreNumbersOf, reach_of}
use Rattle.meta_objset.specs.declared.directory.DirectoryRow.{DirectoryRow}
use Rattle.meta_objset.specs.Names.{IsNamed}
use Rattle.pool_model.specs.declared.volume.PlainVolume.{PlainVolume}
use Rattle.pool_model.specs.declared.volume.VolumeKind.{VolumeKind}
use Rattle.pool_model.specs.declared.volume.VolumeKind.TheVariants.{Snapshot, Volume}
use Rattle.pool_model.specs.Names.{is_name_for, volume_part}
use Rattle.pool_model.specs.Pools.{PlainPool}

-- a volume is a head
abbrev pub IsOfKind : VolumeKind → Kind → Type 0
IsOfKind Volume kind = kind ≡ Head
IsOfKind Snapshot kind = kind ≡ ASnapshot

-- The row names the volume, as one of its kind may be named: its object is that of a dataset that reads so, and that this group made.
pub record NamesVolume (pool : Pool) (readings : ℕ → Reading) (row : DirectoryRow) (volume : PlainVolume)
    : Type 0 where
  pub name : IsNamed row.name volume.name
  pub good : is_name_for volume.kind volume.name ≡ true
  pub kind : IsOfKind volume.kind (pool.datasets row.object).kind
  pub created : (pool.datasets row.object).group ≡ volume.group
  pub array : (readings row.object).array ≡ volume.bytes
  pub block_size : (readings row.object).block_size ≡ volume.block_size

-- the objects of the rows
abbrev pub objects_of_rows : List DirectoryRow → List ℕ
objects_of_rows rows = map (λ row. row.object) rows

-- a row names the dataset so
abbrev pub IsCalled : List DirectoryRow → ℕ → List ℕ → Type 0
IsCalled rows number name =
    (row : DirectoryRow) × Contains rows row × (row.object ≡ number) × IsNamed row.name name

-- the dataset branches off the snapshot before it: something else comes next to that one in its chain
abbrev pub BranchesOff : Pool → ℕ → Type 0
BranchesOff pool number =
    ((pool.datasets number).before ≢ 0) × (pool.next (pool.datasets number).before ≢ number)

-- the volume of the first name is a clone of the snapshot of the second
abbrev pub HasClone : PlainPool → List ℕ → List ℕ → Type 0
HasClone plain name origin =
    (volume : PlainVolume) × Contains plain.volumes volume × (volume.name ≡ name)
    × (volume.origin ≡ Some origin)

-- Names tell the chains. What comes next to a snapshot is of the volume that the snapshot is of. Where a dataset branches off a snapshot, the
-- volume that it is of is a clone of that one; and of each clone a dataset does.
pub record NamesTellChains (pool : Pool) (rows : List DirectoryRow) (plain : PlainPool) : Type 0 where
  pub chains : (number : ℕ) (name next : List ℕ) → (pool.datasets number).kind ≡ ASnapshot
      → IsCalled rows number name → IsCalled rows (pool.next number) next
      → volume_part next ≡ volume_part name
  pub branches : (number : ℕ) (name origin : List ℕ) → BranchesOff pool number
      → IsCalled rows number name → IsCalled rows (pool.datasets number).before origin
      → HasClone plain (volume_part name) origin
  pub clones : (volume : PlainVolume) (origin : List ℕ) → Contains plain.volumes volume
      → volume.origin ≡ Some origin
      → (number : ℕ) × (name : List ℕ) × BranchesOff pool number × IsCalled rows number name
      × (volume_part name ≡ volume.name) × IsCalled rows (pool.datasets number).before origin

-- The rows name all datasets, each once: the volumes of the plain pool, in the order of their names, no more and no fewer. The names tell the
-- chains.
pub record NamesPool (pool : Pool) (readings : ℕ → Reading) (rows : List DirectoryRow) (plain : PlainPool)
    : Type 0 where
  pub numbers : AreNumbersOf pool.datasets (objects_of_rows rows)
  pub volumes : AllZip (NamesVolume pool readings) rows plain.volumes
  pub chains : NamesTellChains pool rows plain

-- all blocks that the datasets of the rows reach, each in the dataset that it was born in
abbrev pub reach_by : Pool → List DirectoryRow → List Block
reach_by pool rows = reach_of pool.datasets (objects_of_rows rows)
