-- The records of a sound pool that a destroy looks up.
use Rattle.std.proofs.Common.{◌≡◌, ◌≢◌, ℕ, [], ◌∷◌, Option, Some, None, inl, inr, sym, ap, ◌∙◌, subst}
use Rattle.block_store.specs.Blocks.{Contents}
use Rattle.block_store.specs.Steps.{OnlyReadsBlocks}
use Rattle.block_store.specs.Store.{Store}
use Rattle.block_store.specs.declared.refusal.Refusal.{Refusal}
use Rattle.dataset_chains.specs.Chains.{HasCloneCount, Reading, SpellsChains}
use Rattle.dataset_chains.specs.Refused.{IsChainRefused}
use Rattle.dataset_chains.specs.Over.{HasRecordNow}
use Rattle.dataset_chains.specs.States.{AreOfOneSet, IsNumber}
use Rattle.dataset_chains.specs.DatasetChanges.{DatasetChanges}
use Rattle.dead_list.specs.Datasets.{Dataset, Free, Head, Pool}
use Rattle.dead_list.specs.Datasets.{Snapshot as ASnapshot}
use Rattle.dead_list.specs.Operations.{HasNoClones}
use Rattle.meta_objset.specs.declared.record.DatasetKind.{DatasetKind}
use Rattle.meta_objset.specs.declared.record.DatasetKind.TheVariants.{Volume, Snapshot}
use Rattle.meta_objset.specs.declared.record.DatasetRecord.{DatasetRecord}
use Rattle.objset.specs.Objects.{Object}
use Rattle.dataset_destroys.proofs.Chains.{HasAs, before_is_snapshot, has_as, not_none, of_snapshot}
use Rattle.dataset_destroys.proofs.Numbers.{is_first}
use Rattle.dataset_destroys.proofs.ReadSteps.{list_lost_on, record_lost_on, the_record_first}
use Rattle.dataset_destroys.specs.Refused.{IsHeadUnfit, IsSnapshotKept}
use Rattle.dataset_destroys.specs.Steps.{AreSameNow, IsBefore, IsTheRecord}

-- ---- refusals, behind other reads

pub chain_on : (old mid new : Store) (changes later far : DatasetChanges) (number : ℕ) (kind : DatasetKind) (refusal : Refusal) → OnlyReadsBlocks old mid [] → AreOfOneSet changes later
    → IsChainRefused mid new later far number kind refusal → IsChainRefused old new changes far number kind refusal
chain_on old mid new changes later far number kind refusal first same (inl memory) = inl memory
chain_on old mid new changes later far number kind refusal first same (inr (inl lost)) = inr (inl (record_lost_on old mid new changes later refusal first same lost))
chain_on old mid new changes later far number kind refusal first same (inr (inr (inl lost))) = inr (inr (inl (list_lost_on old mid new changes later refusal first same lost)))
chain_on old mid new changes later far number kind refusal first same (inr (inr (inr other))) = inr (inr (inr other))

pub kept_on : (old mid new : Store) (changes later far : DatasetChanges) (number : ℕ) (refusal : Refusal) → OnlyReadsBlocks old mid [] → AreOfOneSet changes later
    → IsSnapshotKept mid new later far number refusal → IsSnapshotKept old new changes far number refusal
kept_on old mid new changes later far number refusal first same (inl clones) = inl clones
kept_on old mid new changes later far number refusal first same (inr (inl link)) = inr (inl link)
kept_on old mid new changes later far number refusal first same (inr (inr chain)) = inr (inr (chain_on old mid new changes later far number Snapshot refusal first same chain))

pub unfit_on : (old mid new : Store) (changes later far : DatasetChanges) (number : ℕ) (refusal : Refusal) → OnlyReadsBlocks old mid [] → AreOfOneSet changes later
    → IsHeadUnfit mid new later far number refusal → IsHeadUnfit old new changes far number refusal
unfit_on old mid new changes later far number refusal first same (inl snapshots) = inl snapshots
unfit_on old mid new changes later far number refusal first same (inr (inl uncounted)) = inr (inl uncounted)
unfit_on old mid new changes later far number refusal first same (inr (inr chain)) = inr (inr (chain_on old mid new changes later far number Volume refusal first same chain))

pub before_first : (objects : ℕ → Option Object) (old new : DatasetChanges) (previous : ℕ) (before : Option DatasetRecord) → AreSameNow objects old new
    → IsBefore objects new previous before → IsBefore objects old previous before
before_first objects old new previous None same is = is
before_first objects old new previous (Some r) same is = (is.0, the_record_first objects old new previous r same is.1)

-- ---- what is there

no_clones : (pool : Pool) (d count : ℕ) → HasNoClones pool d → HasCloneCount pool d count → count ≡ 0
no_clones pool d count only ([], are, is) = is
no_clones pool d count only (clone ∷ clones, are, is) = let it = (are.which clone).0 (is_first clone clones) in absurd (it.1 (only clone it.0))

-- a record that is there, with some of what it tells
pub record IsLoneThere (objects : ℕ → Option Object) (changes : DatasetChanges) (d : ℕ) : Type 0 where
  pub behind : IsNumber d
  pub r : DatasetRecord
  pub has : HasRecordNow objects changes d r
  pub kind : r.kind ≡ Snapshot
  pub clones : r.clones ≡ 0

pub record IsAfterThere (objects : ℕ → Option Object) (changes : DatasetChanges) (d next : ℕ) : Type 0 where
  pub behind : IsNumber next
  pub r : DatasetRecord
  pub has : HasRecordNow objects changes next r
  pub linked : r.previous ≡ d

module _ (known : Contents) (group : ℕ) (objects : ℕ → Option Object) (changes : DatasetChanges) (pool : Pool) (readings : ℕ → Reading)
    (spells : SpellsChains known group objects changes pool readings) where
  pub used_snapshot : (m : ℕ) → (pool.datasets m).kind ≡ ASnapshot → (pool.datasets m).kind ≢ Free
  used_snapshot m kind free = let clash : Free ≡ ASnapshot = sym free ∙ kind in cc

  pub used_head : (m : ℕ) → (pool.datasets m).kind ≡ Head → (pool.datasets m).kind ≢ Free
  used_head m kind free = let clash : Free ≡ Head = sym free ∙ kind in cc

  -- of what is there, this record tells
  pub snapshot_as : (d : ℕ) (r : DatasetRecord) → (pool.datasets d).kind ≡ ASnapshot → IsTheRecord objects changes d r → HasAs known group objects changes pool readings d r
  snapshot_as d r kind one = has_as known group objects changes pool readings d r (spells.each d (used_snapshot d kind)) one

  pub head_as : (d : ℕ) (r : DatasetRecord) → (pool.datasets d).kind ≡ Head → IsTheRecord objects changes d r → HasAs known group objects changes pool readings d r
  head_as d r kind one = has_as known group objects changes pool readings d r (spells.each d (used_head d kind)) one

  pub lone_there : (d : ℕ) → (pool.datasets d).kind ≡ ASnapshot → HasNoClones pool d → IsLoneThere objects changes d
  lone_there d kind only =
      let there = spells.each d (used_snapshot d kind) in
      record { behind = there.behind; r = there.r; has = there.has; kind = of_snapshot there.r.kind (sym there.is.kind ∙ kind); clones = no_clones pool d there.r.clones only there.clones }

  -- what comes after a snapshot is no free number
  pub next_used : (d : ℕ) → (pool.datasets d).kind ≡ ASnapshot → (pool.datasets (pool.next d)).kind ≢ Free
  next_used d kind free =
      not_none pool spells.sound d (used_snapshot d kind) (sym (spells.sound.followed d kind) ∙ ap (λ (x : Dataset). x.before) (spells.none (pool.next d) free).is)

  pub next_is : (d : ℕ) (r : DatasetRecord) → (pool.datasets d).kind ≡ ASnapshot → IsTheRecord objects changes d r → pool.next d ≡ r.next
  next_is d r kind one = let there = snapshot_as d r kind one in there.is.next (of_snapshot r.kind (sym there.is.kind ∙ kind))

  pub after_there : (d : ℕ) (r : DatasetRecord) → (pool.datasets d).kind ≡ ASnapshot → IsTheRecord objects changes d r → IsAfterThere objects changes d r.next
  after_there d r kind one =
      let there = spells.each (pool.next d) (next_used d kind) in
      subst (λ n. IsAfterThere objects changes d n) (next_is d r kind one)
      (record { behind = there.behind; r = there.r; has = there.has; linked = sym there.is.previous ∙ spells.sound.followed d kind })

  -- the record of what is before a dataset
  pub before_there : (d : ℕ) (r : DatasetRecord) → HasAs known group objects changes pool readings d r → r.previous ≢ 0 → IsNumber r.previous × ((b : DatasetRecord) × HasRecordNow objects changes r.previous b)
  before_there d r is some =
      let there = spells.each (pool.datasets d).before (used_snapshot (pool.datasets d).before (before_is_snapshot pool spells.sound d (λ none. some (sym is.is.previous ∙ none)))) in
      subst (λ n. IsNumber n × ((b : DatasetRecord) × HasRecordNow objects changes n b)) is.is.previous (there.behind, (there.r, there.has))
