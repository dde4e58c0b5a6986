-- Records of chains that were read.
use Rattle.std.proofs.Common.{◌≡◌, ◌≢◌, ◌↔◌, ℕ, Option, Some, inl, inr, refl, sym, ap, subst, ◌∙◌}
use Rattle.block_store.specs.Blocks.{Contents}
use Rattle.dataset_changes.specs.Over.{AreOver, HasListNow, HasRecordNow}
use Rattle.dataset_changes.specs.States.{HasRecordPut, HaveSameLists, IsNumber, once_read, record_at}
use Rattle.dataset_changes.specs.declared.changes.DatasetChanges.{DatasetChanges}
use Rattle.dead_list.specs.Datasets.{Free, Head, Pool}
use Rattle.dead_list.specs.Datasets.{Snapshot as ASnapshot}
use Rattle.dead_list.specs.Operations.{IsHead}
use Rattle.meta_objset.specs.declared.record.DatasetKind.{DatasetKind}
use Rattle.meta_objset.specs.declared.record.DatasetKind.TheVariants.{Volume, Snapshot}
use Rattle.meta_objset.specs.declared.record.DatasetRecord.{DatasetRecord}
use Rattle.objset.specs.Objects.{Object}
use Rattle.dataset_chains.specs.Chains.{HasDataset, Reading, SpellsChains, kind_of}
use Rattle.dataset_chains.specs.Passing.{IsRecordAlone}
use Rattle.dataset_chains.proofs.Frames.{read_spells}
use Rattle.dataset_chains.proofs.RecordsNow.{read_same}

pub some_kind : (kind : DatasetKind) → kind_of kind ≢ Free
some_kind Volume e = absurd cc
some_kind Snapshot e = absurd cc

pub one_kind : (one two : DatasetKind) → kind_of one ≡ kind_of two → one ≡ two
one_kind Volume Volume e = refl
one_kind Volume Snapshot e = absurd cc
one_kind Snapshot Volume e = absurd cc
one_kind Snapshot Snapshot e = refl

-- what the record of a dataset tells
pub record IsRead (known : Contents) (group : ℕ) (objects : ℕ → Option Object) (changes : DatasetChanges) (pool : Pool) (readings : ℕ → Reading) (n : ℕ) (r : DatasetRecord) : Type 0 where
  pub has : HasDataset known group objects changes pool readings n
  pub is : has.r ≡ r
  pub before : (pool.datasets n).before ≡ r.previous
  pub list_behind : IsNumber r.dead_list
  pub dead : HasListNow objects changes r.dead_list (pool.datasets n).dead

module _ (known : Contents) (group : ℕ) (objects : ℕ → Option Object) (pool : Pool) (readings : ℕ → Reading) where
  pub dataset_read : (changes : DatasetChanges) (n : ℕ) (r : DatasetRecord) → SpellsChains known group objects changes pool readings → IsRecordAlone objects changes n r → (pool.datasets n).kind ≢ Free
      → IsRead known group objects changes pool readings n r
  dataset_read changes n r spells alone kind =
      let has = spells.each n kind in
      let is : has.r ≡ r = (alone has.r).0 has.has in
      record {
        has = has;
        is = is;
        before = has.is.previous ∙ ap (λ (s : DatasetRecord). s.previous) is;
        list_behind = subst (λ (s : DatasetRecord). IsNumber s.dead_list) is has.list_behind;
        dead = subst (λ (s : DatasetRecord). HasListNow objects changes s.dead_list (pool.datasets n).dead) is has.dead;
      }

  pub head_read : (changes : DatasetChanges) (n : ℕ) (r : DatasetRecord) → SpellsChains known group objects changes pool readings → IsRecordAlone objects changes n r → IsHead pool.datasets n
      → IsRead known group objects changes pool readings n r
  head_read changes n r spells alone head = dataset_read changes n r spells alone (λ free. let clash : Head ≡ Free = sym head ∙ free in cc)

  -- the dataset before another is there, if there is any
  pub before_there : (old : DatasetChanges) → SpellsChains known group objects old pool readings → (m before : ℕ) → (pool.datasets m).before ≡ before → before ≢ 0
      → HasDataset known group objects old pool readings before
  before_there old spells m before e some = elim (spells.sound.linked m) [
    | inl first ↦ absurd (some (sym e ∙ first))
    | inr link ↦
        let kind : (pool.datasets before).kind ≡ ASnapshot = ap (λ (k : ℕ). (pool.datasets k).kind) (sym e) ∙ link.0 in
        spells.each before (λ free. let clash : ASnapshot ≡ Free = sym kind ∙ free in cc)
  ]

  module _ (old new : DatasetChanges) (n : ℕ) (found : DatasetRecord) (kept : HasRecordPut old n (Some (once_read (record_at old n) found)) new) (lists : HaveSameLists old new)
      (value : AreOver objects new × HasRecordNow objects old n found × ((r : DatasetRecord) → HasRecordNow objects old n r → r ≡ found)) where
    same : (m : ℕ) (r : DatasetRecord) → HasRecordNow objects new m r ↔ HasRecordNow objects old m r
    same = read_same objects old new n found kept value.1 value.2

    pub read_on : SpellsChains known group objects old pool readings → SpellsChains known group objects new pool readings
    read_on spells = read_spells known group objects old new pool readings value.0 same lists spells

    pub read_alone : IsRecordAlone objects new n found
    read_alone s = (λ there. value.2 s ((same n s).0 there), λ e. (same n s).1 (subst (HasRecordNow objects old n) (sym e) value.1))

    -- its dataset, unless it is free
    pub read_of : SpellsChains known group objects old pool readings → (pool.datasets n).kind ≢ Free → (has : HasDataset known group objects old pool readings n) × (has.r ≡ found)
    read_of spells kind = let has = spells.each n kind in (has, value.2 has.r has.has)

    -- the group that it was made in
    pub group_of_read : SpellsChains known group objects old pool readings → (pool.datasets n).group ≡ found.created
    group_of_read spells =
        let it = read_of spells (λ free. (spells.none n free).none found value.1) in
        it.0.is.created ∙ ap (λ (r : DatasetRecord). r.created) it.1
