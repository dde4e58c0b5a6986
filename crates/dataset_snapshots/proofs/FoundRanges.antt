-- Ranges of volumes that are found.
use Rattle.std.proofs.Common.{◌≡◌, ◌⊎◌, ℕ, ◌+◌, ◌<◌, ◌≤◌, Bool, false, IsTrue, Option, List, Some, None, inl, inr, refl, sym, subst, arith}
use Rattle.std.proofs.lemmas.Option.{same_Some}
use Rattle.raidz_io.proofs.Found.{false_not_true}
use Rattle.block_pointer.specs.declared.block.Block.{Block}
use Rattle.block_store.specs.Blocks.{Contents}
use Rattle.block_store.specs.declared.refusal.Refusal.{Refusal}
use Rattle.block_store.specs.declared.refusal.Refusal.TheVariants.{BadPointer, NoMemory}
use Rattle.block_store.specs.Spaces.{VdevSpace}
use Rattle.block_store.specs.Steps.{OnlyReadsBlocks}
use Rattle.block_store.specs.Store.{Store}
use Rattle.dnode.specs.declared.object_set.ObjectSet.{ObjectSet}
use Rattle.meta_objset.specs.declared.directory.DirectoryRow.{DirectoryRow}
use Rattle.pool_model.specs.declared.volume.PlainVolume.{PlainVolume}
use Rattle.volume.specs.Reading.{IsReadRefused, LiesIn}
use Rattle.volume.specs.Volume.{size_of}
use Rattle.dataset_snapshots.specs.declared.finding.Dataset.{Dataset}
use Rattle.dataset_snapshots.specs.Finding.{HasDataset, IsDatasetRead, IsFound, IsFoundIn, IsVolumeOf}
use Rattle.dataset_snapshots.specs.Ranges.{IsRangeRefused, IsRangeRefusedIn}

-- ---- of which volume

read_volume : (spaces : List VdevSpace) (root : Block) (set : ObjectSet) (number : Option ℕ) (dataset : Dataset) → IsDatasetRead spaces root set number (Some dataset) → IsVolumeOf dataset
read_volume spaces root set None dataset none = absurd (cc)
read_volume spaces root set (Some object) dataset (read, same, object_is, of, record_is) = subst IsVolumeOf (sym (same_Some dataset read same)) of

pub found_volume : (spaces : List VdevSpace) (birth : ℕ) (root : Block) (name : List ℕ) (found : Option Dataset) (dataset : Dataset) → IsFound spaces birth root name found
    → found ≡ Some dataset → IsVolumeOf dataset
found_volume spaces birth root name found dataset is some =
    let read = subst (λ (other : Option Dataset). IsDatasetRead spaces root is.set is.number other) some is.dataset in
    read_volume spaces root is.set is.number dataset read

-- a range that ends within the record's size ends within the volume
pub range_within : (dataset : Dataset) (end : ℕ) → IsVolumeOf dataset → end ≤ dataset.record.size → end ≤ size_of dataset.volume
range_within dataset end of within = subst (λ n. end ≤ n) (sym of.0.0) within

-- one that isn't within ends behind it
pub is_past : (result : Bool) (end size : ℕ) → (end ≤ size → IsTrue result) → result ≡ false → size < end
is_past result end size holds is =
    let not_within : ¬ (end ≤ size) = λ within. false_not_true result is (holds within) in
    omega (arith, not_within)

-- ---- what the pool has there

-- what was found of a volume that is there
pub volume_found : (stored : Contents) (birth : ℕ) (there : Option PlainVolume) (found : Option Dataset) (volume : PlainVolume) (dataset : Dataset) → there ≡ Some volume → found ≡ Some dataset
    → HasDataset stored birth there found → HasDataset stored birth (Some volume) (Some dataset)
volume_found stored birth there found volume dataset is some has =
    subst (λ (other : Option Dataset). HasDataset stored birth (Some volume) other) some (subst (λ (other : Option PlainVolume). HasDataset stored birth other found) is has)

-- it is not nothing
pub is_not_none : (stored : Contents) (birth : ℕ) (there : Option PlainVolume) (found : Option Dataset) (volume : PlainVolume) → there ≡ Some volume → found ≡ None
    → HasDataset stored birth there found → ⊥
is_not_none stored birth there found volume is none has =
    subst (λ (other : Option Dataset). HasDataset stored birth (Some volume) other) none (subst (λ (other : Option PlainVolume). HasDataset stored birth other found) is has)

-- ---- refusals

-- why the bytes of a range of a dataset were not read
abbrev pub IsUnreadOf : Store → Store → List ℕ → ℕ → Dataset → ℕ → ℕ → Refusal → Type 0
IsUnreadOf old new missing birth dataset offset len refusal =
    (refusal ≡ NoMemory)
    ⊎ (((refusal ≡ BadPointer) × (dataset.record.size < offset + len))
    ⊎ IsReadRefused old new missing dataset.volume birth (LiesIn dataset.volume offset (offset + len)) refusal)

-- the volume's bytes were not read, behind the way to its name
pub data_refused : (old mid new : Store) (missing : List ℕ) (birth : ℕ) (root : Block) (name : List ℕ) (found : Option Dataset) (dataset : Dataset) (offset len : ℕ) (refusal : Refusal)
    → OnlyReadsBlocks old mid missing → IsFound old.spaces birth root name found → found ≡ Some dataset
    → IsUnreadOf mid new missing root.birth dataset offset len refusal → (refusal ≡ NoMemory) ⊎ IsRangeRefused old new missing birth root name offset len refusal
data_refused old mid new missing birth root name found dataset offset len refusal before is some (inl memory) = inl memory
data_refused old mid new missing birth root name found dataset offset len refusal before is some (inr (inl (bad, less))) =
    inr (inr (inl (bad, inr (dataset, subst (λ (other : Option Dataset). IsFound old.spaces birth root name other) some is, less))))
data_refused old mid new missing birth root name found dataset offset len refusal before is some (inr (inr why)) = inr (inr (inr (record {
  dataset = dataset;
  found = subst (λ (other : Option Dataset). IsFound old.spaces birth root name other) some is;
  mid = mid;
  before = before;
  why = why;
})))

-- the root hasn't got the name
pub not_there : (old new : Store) (missing : List ℕ) (birth : ℕ) (root : Block) (name : List ℕ) (found : Option Dataset) (offset len : ℕ) → IsFound old.spaces birth root name found → found ≡ None
    → IsRangeRefused old new missing birth root name offset len BadPointer
not_there old new missing birth root name found offset len is none =
    inr (inl (refl, inl (subst (λ (other : Option Dataset). IsFound old.spaces birth root name other) none is)))

-- ---- by the rows of a directory

pub found_volume_in : (spaces : List VdevSpace) (birth : ℕ) (root : Block) (rows : List DirectoryRow) (name : List ℕ) (found : Option Dataset) (dataset : Dataset)
    → IsFoundIn spaces birth root rows name found → found ≡ Some dataset → IsVolumeOf dataset
found_volume_in spaces birth root rows name found dataset is some = (subst (λ (other : Option Dataset). IsFoundIn spaces birth root rows name other) some is).1

pub data_refused_in : (old mid new : Store) (missing : List ℕ) (birth : ℕ) (root : Block) (rows : List DirectoryRow) (name : List ℕ) (found : Option Dataset) (dataset : Dataset) (offset len : ℕ)
    (refusal : Refusal) → OnlyReadsBlocks old mid missing → IsFoundIn old.spaces birth root rows name found → found ≡ Some dataset
    → IsUnreadOf mid new missing root.birth dataset offset len refusal → (refusal ≡ NoMemory) ⊎ IsRangeRefusedIn old new missing birth root rows name offset len refusal
data_refused_in old mid new missing birth root rows name found dataset offset len refusal before is some (inl memory) = inl memory
data_refused_in old mid new missing birth root rows name found dataset offset len refusal before is some (inr (inl (bad, less))) =
    inr (inr (inl (bad, inr (dataset, subst (λ (other : Option Dataset). IsFoundIn old.spaces birth root rows name other) some is, less))))
data_refused_in old mid new missing birth root rows name found dataset offset len refusal before is some (inr (inr why)) = inr (inr (inr (record {
  dataset = dataset;
  found = subst (λ (other : Option Dataset). IsFoundIn old.spaces birth root rows name other) some is;
  mid = mid;
  before = before;
  why = why;
})))

-- the rows haven't got the name
pub not_there_in : (old new : Store) (missing : List ℕ) (birth : ℕ) (root : Block) (rows : List DirectoryRow) (name : List ℕ) (found : Option Dataset) (offset len : ℕ)
    → IsFoundIn old.spaces birth root rows name found → found ≡ None → IsRangeRefusedIn old new missing birth root rows name offset len BadPointer
not_there_in old new missing birth root rows name found offset len is none =
    inr (inl (refl, inl (subst (λ (other : Option Dataset). IsFoundIn old.spaces birth root rows name other) none is)))
