-- Numbers that are new: no dataset has them, and no record names them.
use Rattle.std.proofs.Common.{◌≡◌, ◌≢◌, ℕ, List, [], Option, Some, None, sym, ap, subst, ◌∙◌}
use Rattle.std.proofs.lemmas.List.Sorted.{IsPermutation-refl}
use Rattle.block_pointer.specs.declared.block.Block.{Block}
use Rattle.block_store.specs.Blocks.{Contents}
use Rattle.dataset_changes.specs.Over.{HasListNow, HasRecordNow, IsListNow}
use Rattle.dataset_changes.specs.States.{HaveSameLists, IsNumber, list_at}
use Rattle.dataset_changes.specs.declared.changes.DatasetChanges.{DatasetChanges}
use Rattle.dataset_changes.specs.declared.states.ListState.{ListState}
use Rattle.dataset_changes.specs.declared.states.ListState.TheVariants as lists
use Rattle.dead_list.specs.Datasets.{Free, Dataset, Pool}
use Rattle.dead_list.specs.Operations.{IsUnused}
use Rattle.dead_list.proofs.Climbing.{not_behind}
use Rattle.meta_objset.specs.declared.record.DatasetRecord.{DatasetRecord}
use Rattle.objset.specs.Objects.{Object}
use Rattle.dataset_chains.specs.Chains.{AreNewNumbers, Reading, SpellsChains}
use Rattle.dataset_chains.proofs.RecordsNow.{lists_as_one}

-- what is asked of new numbers here
pub record IsNewList (objects : ℕ → Option Object) (changes : DatasetChanges) (n list : ℕ) : Type 0 where
  pub number_is : IsNumber n
  pub list_is : IsNumber list
  pub no_object : objects list ≡ None
  pub no_list : list_at changes list ≡ None

pub new_list_on : (objects : ℕ → Option Object) (old new : DatasetChanges) (n list : ℕ) → HaveSameLists old new → AreNewNumbers objects old n list → IsNewList objects new n list
new_list_on objects old new n list same fresh = record { number_is = fresh.number_is; list_is = fresh.list_is; no_object = fresh.no_object.1; no_list = same list ∙ fresh.no_list.1 }

-- a dead list that is made is empty
pub made_empty : (objects : ℕ → Option Object) (new : DatasetChanges) (list : ℕ) → list_at new list ≡ Some (lists.Made []) → HasListNow objects new list []
made_empty objects new list e = subst (λ (state : Option ListState). IsListNow (objects list) state []) (sym e) (IsPermutation-refl [])

module _ (known : Contents) (group : ℕ) (objects : ℕ → Option Object) (old : DatasetChanges) (pool : Pool) (readings : ℕ → Reading)
    (spells : SpellsChains known group objects old pool readings) where
  -- what has a record is a dataset
  pub kind_there : (m : ℕ) (r : DatasetRecord) → HasRecordNow objects old m r → (pool.datasets m).kind ≢ Free
  kind_there m r there free = (spells.none m free).none r there

  pub some_number : (m : ℕ) → (pool.datasets m).kind ≢ Free → m ≢ 0
  some_number m kind e = kind (ap (λ (k : ℕ). (pool.datasets k).kind) e ∙ ap (λ (x : Dataset). x.kind) spells.sound.none)

  module _ (n list : ℕ) (unused : IsUnused pool.datasets n) (fresh : IsNewList objects old n list) where
    pub free_kind : (pool.datasets n).kind ≡ Free
    free_kind = ap (λ (x : Dataset). x.kind) unused.1

    pub free_before : (pool.datasets n).before ≡ 0
    free_before = ap (λ (x : Dataset). x.before) unused.1

    pub not_unused : (m : ℕ) → (pool.datasets m).kind ≢ Free → m ≢ n
    not_unused m kind e = kind (ap (λ (k : ℕ). (pool.datasets k).kind) e ∙ free_kind)

    pub none_behind : (m : ℕ) → (pool.datasets m).before ≢ n
    none_behind m = not_behind pool spells.sound n m unused.0 (λ e. let f : (pool.datasets n).kind ≡ Free = free_kind in cc)

    no_list : (blocks : List Block) → ¬ HasListNow objects old list blocks
    no_list blocks there =
        let state = subst (λ (state : Option ListState). IsListNow (objects list) state blocks) fresh.no_list there in
        let none = subst (λ (object : Option Object). IsListNow object None blocks) fresh.no_object state in
        let clash : None ≡ Some none.1.there = none.1.is in
        cc

    pub unnamed : (m : ℕ) (r : DatasetRecord) → HasRecordNow objects old m r → r.dead_list ≢ list
    unnamed m r there e =
        let has = spells.each m (kind_there m r there) in
        let same : has.r.dead_list ≡ list = lists_as_one objects old m has.r r has.has there ∙ e in
        no_list (pool.datasets m).dead (subst (λ (k : ℕ). HasListNow objects old k (pool.datasets m).dead) same has.dead)
