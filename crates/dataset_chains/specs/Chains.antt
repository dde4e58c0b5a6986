-- The datasets of a pool, each with the snapshot before it, as their records and dead lists tell of them.
use Rattle.std.specs.Prelude.{ℕ, ◌≡◌, ◌≢◌, ◌↔◌, List, Option, None, Contains, length, AllPairs}
use Rattle.block_pointer.specs.declared.block.Block.{Block}
use Rattle.block_store.specs.Blocks.{Contents}
use Rattle.dataset_changes.specs.Over.{AreOver, HasListNow, HasRecordNow}
use Rattle.dataset_changes.specs.States.{IsNumber, list_at, record_at}
use Rattle.dataset_changes.specs.declared.changes.DatasetChanges.{DatasetChanges}
use Rattle.dead_list.specs.Datasets.{Free, Head, Kind, Pool, nothing}
use Rattle.dead_list.specs.Datasets.{Snapshot as ASnapshot}
use Rattle.dead_list.specs.Sound.{IsSound}
use Rattle.meta_objset.specs.declared.record.DatasetKind.{DatasetKind}
use Rattle.meta_objset.specs.declared.record.DatasetKind.TheVariants.{Volume, Snapshot}
use Rattle.meta_objset.specs.declared.record.DatasetRecord.{DatasetRecord}
use Rattle.objset.specs.Objects.{Object}
use Rattle.volume.specs.Volume.{IsVolume}
use Rattle.volume.specs.Walking.{blocks_of_volume}

-- what a dataset reads as
pub record Reading : Type 0 where
  pub array : List ℕ
  pub block_size : ℕ

-- a volume and a clone are heads
abbrev pub kind_of : DatasetKind → Kind
kind_of Volume = Head
kind_of Snapshot = ASnapshot

-- the record tells what its dataset is, which group made it, what is before it, and of a snapshot what comes after it
pub record IsRecordFor (pool : Pool) (number : ℕ) (r : DatasetRecord) : Type 0 where
  pub kind : (pool.datasets number).kind ≡ kind_of r.kind
  pub created : (pool.datasets number).group ≡ r.created
  pub previous : (pool.datasets number).before ≡ r.previous
  pub next : r.kind ≡ Snapshot → pool.next number ≡ r.next

-- the clones of a snapshot: what names it as the one before and doesn't come after it in its chain
pub record AreClones (pool : Pool) (number : ℕ) (clones : List ℕ) : Type 0 where
  pub which : (m : ℕ) → Contains clones m ↔ (((pool.datasets m).before ≡ number) × (m ≢ pool.next number))
  pub once : AllPairs (λ clone later. clone ≢ later) clones

-- the dataset of that number has this many clones
abbrev pub HasCloneCount : Pool → ℕ → ℕ → Type 0
HasCloneCount pool number count = (clones : List ℕ) × AreClones pool number clones × (count ≡ length clones)

-- the record leads to a volume with these blocks that reads so
pub record LeadsTo (stored : Contents) (birth : ℕ) (r : DatasetRecord) (blocks : List Block) (reading : Reading) : Type 0 where
  pub size : r.size ≡ length reading.array
  pub block_size : r.block_size ≡ reading.block_size
  pub bytes : IsVolume stored birth r.object_set r.size r.block_size reading.array
  pub blocks_are : blocks_of_volume r.object_set bytes.set bytes.has.own bytes.has.blocks ≡ blocks

-- The dataset of this number has its record and its dead list, as the group leaves them so far, behind the tables; the record leads to its
-- blocks.
pub record HasDataset (stored : Contents) (birth : ℕ) (objects : ℕ → Option Object) (changes : DatasetChanges) (pool : Pool)
    (readings : ℕ → Reading) (number : ℕ) : Type 0 where
  pub behind : IsNumber number
  pub r : DatasetRecord
  pub has : HasRecordNow objects changes number r
  pub is : IsRecordFor pool number r
  pub clones : HasCloneCount pool number r.clones
  pub leads : LeadsTo stored birth r (pool.datasets number).blocks (readings number)
  pub list_behind : IsNumber r.dead_list
  pub dead : HasListNow objects changes r.dead_list (pool.datasets number).dead

-- a number that is free stands for nothing, and has no record
pub record HasNoDataset (objects : ℕ → Option Object) (changes : DatasetChanges) (pool : Pool) (number : ℕ) : Type 0 where
  pub is : pool.datasets number ≡ nothing
  pub none : (r : DatasetRecord) → ¬ HasRecordNow objects changes number r

-- The records and dead lists, as the group leaves them so far, are those of the pool's datasets, no more and no fewer, and no two datasets
-- have one dead list. The datasets fit one another, and change in this group.
pub record SpellsChains (stored : Contents) (group : ℕ) (objects : ℕ → Option Object) (changes : DatasetChanges) (pool : Pool)
    (readings : ℕ → Reading) : Type 0 where
  pub over : AreOver objects changes
  pub sound : IsSound pool
  pub now : pool.group ≡ group
  pub each : (number : ℕ) → (pool.datasets number).kind ≢ Free
      → HasDataset stored group objects changes pool readings number
  pub none : (number : ℕ) → (pool.datasets number).kind ≡ Free → HasNoDataset objects changes pool number
  pub apart : (number other : ℕ) (r s : DatasetRecord) → HasRecordNow objects changes number r
      → HasRecordNow objects changes other s → r.dead_list ≡ s.dead_list → number ≡ other

-- two objects that are not there, and that nothing was made of
pub record AreNewNumbers (objects : ℕ → Option Object) (changes : DatasetChanges) (number list : ℕ) : Type 0 where
  pub apart : number ≢ list
  pub number_is : IsNumber number
  pub list_is : IsNumber list
  pub no_object : (objects number ≡ None) × (objects list ≡ None)
  pub no_record : (record_at changes number ≡ None) × (record_at changes list ≡ None)
  pub no_list : (list_at changes number ≡ None) × (list_at changes list ≡ None)
