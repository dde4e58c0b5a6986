-- Records of datasets.
use Rattle.std.specs.Prelude.{ℕ, ◌≡◌, ◌==◌, ◌%◌, ◌^◌, ◌<◌, ◌≤◌, Bool, List, [], ◌∷◌, ◌++◌, replicate, IsTrue}
use Rattle.std.specs.List.{list_any}
use Rattle.block_pointer.specs.declared.block.Block.{Block}
use Rattle.block_pointer.specs.declared.pointer.BlockPtr.TheVariants.{Block as At}
use Rattle.block_pointer.specs.Block.{FitsBlock}
use Rattle.block_pointer.specs.Pointer.{spelling}
use Rattle.words.specs.Words.{word_bytes}
use Rattle.meta_objset.specs.declared.record.DatasetKind.{DatasetKind}
use Rattle.meta_objset.specs.declared.record.DatasetKind.TheVariants.{Volume, Snapshot}
use Rattle.meta_objset.specs.declared.record.DatasetRecord.{DatasetRecord}

-- the word that a kind is spelled as
abbrev pub kind_word : DatasetKind → ℕ
kind_word Volume = 1
kind_word Snapshot = 2

-- a power of two from 512 to 131,072
abbrev pub is_block_size : ℕ → Bool
is_block_size n = list_any (λ size. n == size) (512 ∷ 1024 ∷ 2048 ∷ 4096 ∷ 8192 ∷ 16384 ∷ 32768 ∷ 65536 ∷ 131072 ∷ [])

-- nothing comes behind a volume
abbrev pub IsNext : DatasetKind → ℕ → Type 0
IsNext Volume next = next ≡ 0
IsNext Snapshot next = Unit {0}

-- a dataset has whole blocks, one at least, and at most 2^40 bytes
pub record IsRecord (r : DatasetRecord) : Type 0 where
  pub block : IsTrue (is_block_size r.block_size)
  pub some : 0 < r.size
  pub most : r.size ≤ 2 ^ 40
  pub whole : r.size % r.block_size ≡ 0
  pub next : IsNext r.kind r.next

-- these numbers are words
pub record HasWords (r : DatasetRecord) : Type 0 where
  pub created : r.created < 2 ^ 64
  pub previous : r.previous < 2 ^ 64
  pub next : r.next < 2 ^ 64
  pub clones : r.clones < 2 ^ 64
  pub dead_list : r.dead_list < 2 ^ 64

-- what has a spelling
pub record FitsRecord (r : DatasetRecord) : Type 0 where
  pub record_is : IsRecord r
  pub words : HasWords r
  pub object_set : FitsBlock r.object_set

-- eight words, and zeros up to byte 128
abbrev pub record_words : DatasetRecord → List ℕ
record_words r =
    kind_word r.kind ∷ r.size ∷ r.block_size ∷ r.created ∷ r.previous ∷ r.next ∷ r.clones ∷ r.dead_list ∷ 0 ∷ 0 ∷ 0 ∷ 0 ∷ 0 ∷ 0 ∷ 0 ∷ 0 ∷ []

-- the words, the pointer to the object set, and zeros up to byte 512
abbrev pub record_bytes : DatasetRecord → List ℕ
record_bytes r = word_bytes (record_words r) ++ (spelling (At r.object_set) ++ replicate 256 0)

-- these bytes, and no others, spell the record
abbrev pub SpellsRecord : List ℕ → DatasetRecord → Type 0
SpellsRecord bytes r = FitsRecord r × (bytes ≡ record_bytes r)

-- the fields of a record
pub record IsRecordRead (words : List ℕ) (object_set : Block) (r : DatasetRecord) : Type 0 where
  pub record_is : IsRecord r
  pub words_are : words ≡ record_words r
  pub object_set_is : object_set ≡ r.object_set
