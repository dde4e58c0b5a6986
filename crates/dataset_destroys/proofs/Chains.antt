-- Datasets in chains: what is before one, and what of a dataset its record tells.
use Rattle.std.proofs.Common.{◌≡◌, ◌≢◌, ℕ, ◌<◌, List, Option, inl, inr, refl, sym, ap, ◌∙◌, subst, arith}
use Rattle.block_pointer.specs.declared.block.Block.{Block}
use Rattle.block_store.specs.Blocks.{Contents}
use Rattle.dataset_chains.specs.Chains.{HasCloneCount, HasDataset, IsRecordFor, LeadsTo, Reading, kind_of}
use Rattle.dataset_chains.specs.Over.{HasListNow}
use Rattle.dataset_chains.specs.States.{IsNumber}
use Rattle.dataset_chains.specs.DatasetChanges.{DatasetChanges}
use Rattle.dead_list.specs.Datasets.{Dataset, Free, Head, Pool}
use Rattle.dead_list.specs.Datasets.{Snapshot as ASnapshot}
use Rattle.dead_list.specs.Sound.{IsSound}
use Rattle.meta_objset.specs.declared.record.DatasetKind.{DatasetKind}
use Rattle.meta_objset.specs.declared.record.DatasetKind.TheVariants.{Volume, Snapshot}
use Rattle.meta_objset.specs.declared.record.DatasetRecord.{DatasetRecord}
use Rattle.objset.specs.Objects.{Object}
use Rattle.dataset_destroys.specs.Steps.{IsTheRecord}

pub of_snapshot : (kind : DatasetKind) → kind_of kind ≡ ASnapshot → kind ≡ Snapshot
of_snapshot Volume e = absurd (cc)
of_snapshot Snapshot e = refl

pub of_head : (kind : DatasetKind) → kind_of kind ≡ Head → kind ≡ Volume
of_head Volume e = refl
of_head Snapshot e = absurd (cc)

module _ (pool : Pool) (sound : IsSound pool) where
  pub not_none : (m : ℕ) → (pool.datasets m).kind ≢ Free → m ≢ 0
  not_none m some e = some (ap (λ k. (pool.datasets k).kind) e ∙ ap (λ (x : Dataset). x.kind) sound.none)

  pub before_other : (m : ℕ) → m ≢ 0 → (pool.datasets m).before ≢ m
  before_other m some e = elim (sound.linked m) [
    | inl first ↦ some (sym e ∙ first)
    | inr link ↦ let low : sound.rank m < sound.rank m = subst (λ k. sound.rank k < sound.rank m) e link.1 in omega (arith, low)
  ]

  -- nothing is before what comes after it
  pub before_not_after : (m n : ℕ) → (pool.datasets n).before ≡ m → m ≢ 0 → n ≢ 0 → (pool.datasets m).before ≢ n
  before_not_after m n behind some some_next e = elim (sound.linked m) [
    | inl first ↦ some_next (sym e ∙ first)
    | inr link ↦ elim (sound.linked n) [
      | inl first ↦ some (sym behind ∙ first)
      | inr next ↦
          let low : sound.rank n < sound.rank m = subst (λ k. sound.rank k < sound.rank m) e link.1 in
          let high : sound.rank m < sound.rank n = subst (λ k. sound.rank k < sound.rank n) behind next.1 in
          omega (arith, low, high)
    ]
  ]

  -- what is before one is a snapshot
  pub before_is_snapshot : (m : ℕ) → (pool.datasets m).before ≢ 0 → (pool.datasets (pool.datasets m).before).kind ≡ ASnapshot
  before_is_snapshot m some = elim (sound.linked m) [
    | inl first ↦ absurd (some first)
    | inr link ↦ link.0
  ]

-- what a dataset's record, when it is this one, tells
pub record HasAs (stored : Contents) (birth : ℕ) (objects : ℕ → Option Object) (changes : DatasetChanges) (pool : Pool)
    (readings : ℕ → Reading) (number : ℕ) (r : DatasetRecord) : Type 0 where
  pub behind : IsNumber number
  pub is : IsRecordFor pool number r
  pub clones : HasCloneCount pool number r.clones
  pub leads : LeadsTo stored birth r (pool.datasets number).blocks (readings number)
  pub list_behind : IsNumber r.dead_list
  pub dead : HasListNow objects changes r.dead_list (pool.datasets number).dead

pub has_as : (stored : Contents) (birth : ℕ) (objects : ℕ → Option Object) (changes : DatasetChanges) (pool : Pool) (readings : ℕ → Reading) (number : ℕ) (r : DatasetRecord)
    → HasDataset stored birth objects changes pool readings number → IsTheRecord objects changes number r → HasAs stored birth objects changes pool readings number r
has_as stored birth objects changes pool readings number r there one =
    subst (λ x. HasAs stored birth objects changes pool readings number x) (one.one there.r there.has)
    (record { behind = there.behind; is = there.is; clones = there.clones; leads = there.leads; list_behind = there.list_behind; dead = there.dead })

-- a record leads to the same blocks whatever stands before and after it
pub leads_as : (stored : Contents) (birth : ℕ) (r : DatasetRecord) (previous next clones : ℕ) (blocks others : List Block) (reading : Reading) → blocks ≡ others
    → LeadsTo stored birth r blocks reading → LeadsTo stored birth (record r { previous = previous; next = next; clones = clones }) others reading
leads_as stored birth r previous next clones blocks others reading same leads =
    record { size = leads.size; block_size = leads.block_size; bytes = leads.bytes; blocks_are = leads.blocks_are ∙ same }
