-- Records of datasets that fit one another in chains, as far as an open looks.
use Rattle.std.specs.Prelude.{ℕ, ◌≡◌, ◌≢◌, ◌↔◌, ◌⊎◌, ◌==◌, ◌&&◌, not, nat_eq, List, Option, Some, None, Contains, All, AllPairs, filter, length}
use Rattle.std.specs.HashMap.{HashMap, get}
use Rattle.std.specs.Map.{count_at}
use Rattle.std.specs.declared.hash.BuildHasherDefault.{BuildHasherDefault}
use Rattle.std.specs.declared.hash.FoldHasher.{FoldHasher}
use Rattle.meta_objset.specs.declared.record.DatasetKind.TheVariants as kinds
use Rattle.meta_objset.specs.declared.record.DatasetRecord.{DatasetRecord}
use Rattle.dataset_snapshots.specs.declared.chaining.RowRecord.{RowRecord}

-- the object of one of the rows has this record
abbrev pub HasRecordAt : List RowRecord → ℕ → DatasetRecord → Type 0
HasRecordAt records object r = Contains records (record { object = object; «record» = r })

-- what is before it is a snapshot, or nothing is
abbrev pub IsBehindOne : List RowRecord → DatasetRecord → Type 0
IsBehindOne records r =
    (r.previous ≡ 0)
    ⊎ ((before : DatasetRecord) × HasRecordAt records r.previous before × (before.kind ≡ kinds.Snapshot))

-- what comes next to a snapshot names it as what is before it
abbrev pub IsFollowed : List RowRecord → RowRecord → Type 0
IsFollowed records one =
    (next : DatasetRecord) × HasRecordAt records one.record.next next × (next.previous ≡ one.object)

-- how many have this before them, but for what comes next to it
abbrev pub clones_among : List RowRecord → ℕ → ℕ → ℕ
clones_among records object next =
    length (filter (λ one. one.record.previous == object && not (one.object == next)) records)

-- the record of this row fits those of the others: what is before it, and of a snapshot what comes next and how many clones it has
pub record IsChained (records : List RowRecord) (one : RowRecord) : Type 0 where
  pub behind : IsBehindOne records one.record
  pub followed : one.record.kind ≡ kinds.Snapshot → IsFollowed records one
  pub counted : one.record.kind ≡ kinds.Snapshot
      → one.record.clones ≡ clones_among records one.object one.record.next

-- each object is there once, and each record fits the others
pub record AreChained (records : List RowRecord) : Type 0 where
  pub once : AllPairs (λ one later. one.object ≢ later.object) records
  pub each : All (IsChained records) records

-- ---- how they are looked up

-- records, and counts, by objects
abbrev pub RecordIndex : Type 0
RecordIndex = HashMap ℕ DatasetRecord (BuildHasherDefault FoldHasher)

-- how many, by the numbers of objects
abbrev pub Counts : Type 0
Counts = HashMap ℕ ℕ (BuildHasherDefault FoldHasher)

-- each object is there once, and the index has the record of each, and no other
pub record IsIndexOf (records : List RowRecord) (index : RecordIndex) : Type 0 where
  pub once : AllPairs (λ one later. one.object ≢ later.object) records
  pub has : (object : ℕ) (r : DatasetRecord)
      → (get nat_eq index object ≡ Some r) ↔ HasRecordAt records object r

-- there is no index where an object is there twice
abbrev pub IsIndexIfOnce : List RowRecord → Option RecordIndex → Type 0
IsIndexIfOnce records None = ¬ AllPairs (λ one later. one.object ≢ later.object) records
IsIndexIfOnce records (Some index) = IsIndexOf records index

-- there is none where the records don't fit one another
abbrev pub IsIndexIfChained : List RowRecord → Option RecordIndex → Type 0
IsIndexIfChained records None = ¬ AreChained records
IsIndexIfChained records (Some index) = AreChained records × IsIndexOf records index

-- how many have this before them
abbrev pub behind_among : List RowRecord → ℕ → ℕ
behind_among records object = length (filter (λ one. one.record.previous == object) records)

-- the counts have of each object how many have it before them
abbrev pub AreCountsOf : List RowRecord → Counts → Type 0
AreCountsOf records counts =
    (object : ℕ) → count_at (get nat_eq counts) object ≡ behind_among records object
