-- What the steps of a destroy find, and what they make of records and dead lists.
use Rattle.std.specs.Prelude.{ℕ, ◌≡◌, ◌≢◌, ◌↔◌, ◌==◌, ◌&&◌, ◌-◌, ◌++◌, cond, List, [], Option, Some, None, IsPermutation}
use Rattle.block_pointer.specs.declared.block.Block.{Block}
use Rattle.block_store.specs.Blocks.{Contents}
use Rattle.block_store.specs.Steps.{AnswersTell}
use Rattle.block_store.specs.Store.{Store, Holds}
use Rattle.dataset_chains.specs.Over.{AreOver, HasListNow, HasRecordNow}
use Rattle.dataset_chains.specs.Refused.{HasKnown}
use Rattle.dataset_chains.specs.States.{IsNumber, birth_of, set_of}
use Rattle.dataset_chains.specs.DatasetChanges.{DatasetChanges}
use Rattle.dead_list.specs.Blocks.{IsSplit}
use Rattle.meta_objset.specs.Record.{FitsRecord}
use Rattle.meta_objset.specs.declared.record.DatasetRecord.{DatasetRecord}
use Rattle.objset.specs.Objects.{Object, AreObjects}

-- the store has the objects of the set, and what its disks answered since tells it
pub record TellsObjects (old new : Store) (changes : DatasetChanges) (stored : Contents) (objects : ℕ → Option Object) : Type 0 where
  pub own : List Block
  pub blocks : ℕ → List Block
  pub held : Holds old stored
  pub are : AreObjects stored (birth_of changes) (set_of changes) objects own blocks
  pub tell : AnswersTell old new []

-- ---- reads

-- the same records are there, and each dead list that was
pub record AreSameNow (objects : ℕ → Option Object) (old new : DatasetChanges) : Type 0 where
  pub over : AreOver objects new
  pub records : (number : ℕ) (r : DatasetRecord) → HasRecordNow objects old number r ↔ HasRecordNow objects new number r
  pub lists : (number : ℕ) (list : List Block) → HasListNow objects old number list → HasListNow objects new number list

-- this record is there, and no other
pub record IsTheRecord (objects : ℕ → Option Object) (changes : DatasetChanges) (number : ℕ) (r : DatasetRecord) : Type 0 where
  pub has : HasRecordNow objects changes number r
  pub one : (other : DatasetRecord) → HasRecordNow objects changes number other → other ≡ r

-- nothing changed, and this record is there
abbrev pub IsFound : (ℕ → Option Object) → DatasetChanges → DatasetChanges → ℕ → DatasetRecord → Type 0
IsFound objects old new number r = AreSameNow objects old new × IsTheRecord objects old number r

-- the record of the snapshot before, where there is one
abbrev pub IsBefore : (ℕ → Option Object) → DatasetChanges → ℕ → Option DatasetRecord → Type 0
IsBefore objects changes previous None = previous ≡ 0
IsBefore objects changes previous (Some r) = (previous ≢ 0) × IsTheRecord objects changes previous r

-- it was read, or put there
abbrev pub IsKnownBefore : DatasetChanges → ℕ → Option DatasetRecord → Type 0
IsKnownBefore changes previous None = previous ≡ 0
IsKnownBefore changes previous (Some r) = (previous ≢ 0) × HasKnown changes previous r

-- it has a spelling, and its number is that of an object
abbrev pub FitsBefore : ℕ → Option DatasetRecord → Type 0
FitsBefore previous None = Unit {0}
FitsBefore previous (Some r) = FitsRecord r × IsNumber previous

-- the group of the snapshot before
abbrev pub group_of : Option DatasetRecord → ℕ
group_of None = 0
group_of (Some r) = r.created

-- ---- dead lists

-- the dead blocks at one number, but for those that were freed, and those at another are one list now, and the other is empty
pub record AreGivenOver (objects : ℕ → Option Object) (old new : DatasetChanges) (from into since : ℕ) (dead own gone : List Block) : Type 0 where
  pub older : List Block
  pub merged : List Block
  pub split : IsSplit since dead gone older
  pub joined : IsPermutation (older ++ own) merged
  pub over : AreOver objects new
  pub has : HasListNow objects new into merged
  pub left : HasListNow objects new from []
  pub others : (number : ℕ) (list : List Block) → number ≢ from → number ≢ into → HasListNow objects old number list → HasListNow objects new number list

-- ---- records

-- the record at one number is this one now, and the others are the same
pub record IsPutNow (objects : ℕ → Option Object) (old new : DatasetChanges) (number : ℕ) (r : DatasetRecord) : Type 0 where
  pub over : AreOver objects new
  pub is : IsTheRecord objects new number r
  pub others : (other : ℕ) (s : DatasetRecord) → other ≢ number → HasRecordNow objects old other s ↔ HasRecordNow objects new other s

-- there is no record at one number now, and the others are the same
pub record IsTakenOut (objects : ℕ → Option Object) (old new : DatasetChanges) (number : ℕ) : Type 0 where
  pub over : AreOver objects new
  pub none : (r : DatasetRecord) → ¬ HasRecordNow objects new number r
  pub others : (other : ℕ) (s : DatasetRecord) → other ≢ number → HasRecordNow objects old other s ↔ HasRecordNow objects new other s

-- what comes after a dataset, once something else comes after the snapshot at one number, that before another
abbrev pub next_of : ℕ → Option DatasetRecord → ℕ → ℕ → ℕ → ℕ → ℕ
next_of previous None number to other next = next
next_of previous (Some before) number to other next = cond (other == previous && before.next == number) to next

-- what came after a snapshot comes after the one before it, where the snapshot did
pub record AreLinked (objects : ℕ → Option Object) (old new : DatasetChanges) (number previous next : ℕ) (before : Option DatasetRecord) : Type 0 where
  pub over : AreOver objects new
  pub stay : (other : ℕ) (r : DatasetRecord) → HasRecordNow objects old other r
      → HasRecordNow objects new other (record r { next = next_of previous before number next other r.next })
  pub were : (other : ℕ) (r : DatasetRecord) → HasRecordNow objects new other r
      → (was : DatasetRecord) × HasRecordNow objects old other was
      × (r ≡ record was { next = next_of previous before number next other was.next })

-- The records once a snapshot is out of its chain: what comes after it, at the number `next`, stands behind what was before it, at `previous`.
pub record IsPassed (objects : ℕ → Option Object) (old new : DatasetChanges) (number previous next : ℕ) (after : DatasetRecord)
    (before : Option DatasetRecord) : Type 0 where
  pub over : AreOver objects new
  pub none : (r : DatasetRecord) → ¬ HasRecordNow objects new number r
  pub after_is : IsTheRecord objects new next (record after { previous = previous })
  pub stay : (other : ℕ) (r : DatasetRecord) → other ≢ number → other ≢ next → HasRecordNow objects old other r
      → HasRecordNow objects new other (record r { next = next_of previous before number next other r.next })
  pub were : (other : ℕ) (r : DatasetRecord) → other ≢ number → other ≢ next → HasRecordNow objects new other r
      → (was : DatasetRecord) × HasRecordNow objects old other was
      × (r ≡ record was { next = next_of previous before number next other was.next })

-- how many clones a dataset has, once one of the snapshot at one number is gone
abbrev pub clones_of : ℕ → Option DatasetRecord → ℕ → ℕ → ℕ
clones_of previous None other clones = clones
clones_of previous (Some before) other clones = cond (other == previous) (clones - 1) clones

-- the snapshot before has a clone less
pub record AreOneLess (objects : ℕ → Option Object) (old new : DatasetChanges) (previous : ℕ) (before : Option DatasetRecord) : Type 0 where
  pub over : AreOver objects new
  pub stay : (other : ℕ) (r : DatasetRecord) → HasRecordNow objects old other r
      → HasRecordNow objects new other (record r { clones = clones_of previous before other r.clones })
  pub were : (other : ℕ) (r : DatasetRecord) → HasRecordNow objects new other r
      → (was : DatasetRecord) × HasRecordNow objects old other was × (r ≡ record was { clones = clones_of previous before other was.clones })

-- the records once a head is gone: its origin has a clone less
pub record IsLeft (objects : ℕ → Option Object) (old new : DatasetChanges) (head previous : ℕ) (before : Option DatasetRecord) : Type 0 where
  pub over : AreOver objects new
  pub none : (r : DatasetRecord) → ¬ HasRecordNow objects new head r
  pub stay : (other : ℕ) (r : DatasetRecord) → other ≢ head → HasRecordNow objects old other r
      → HasRecordNow objects new other (record r { clones = clones_of previous before other r.clones })
  pub were : (other : ℕ) (r : DatasetRecord) → other ≢ head → HasRecordNow objects new other r
      → (was : DatasetRecord) × HasRecordNow objects old other was × (r ≡ record was { clones = clones_of previous before other was.clones })
