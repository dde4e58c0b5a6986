-- A dataset that is destroyed as what its record says that it is.
use Rattle.std.proofs.Common.{◌≡◌, ◌≢◌, ℕ, List, [], Option, Some, inr, sym, ap, ◌∙◌, subst}
use Rattle.block_pointer.specs.declared.block.Block.{Block}
use Rattle.block_store.specs.Blocks.{Contents}
use Rattle.block_store.specs.Steps.{AnswersTell, OnlyReadsBlocks}
use Rattle.block_store.specs.Store.{Holds, Store}
use Rattle.block_store.specs.declared.refusal.Refusal.{Refusal}
use Rattle.dataset_chains.proofs.ReadRecords.{read_of, read_on}
use Rattle.dataset_chains.specs.Chains.{Reading, SpellsChains, kind_of}
use Rattle.dataset_chains.specs.Refused.{HasKnown}
use Rattle.dataset_chains.specs.Over.{AreOver, HasRecordNow}
use Rattle.dataset_chains.specs.States.{AreOfOneSet, HasRecordPut, HaveSameLists, birth_of, once_read, record_at, set_of}
use Rattle.dataset_chains.specs.DatasetChanges.{DatasetChanges}
use Rattle.dead_list.specs.Datasets.{Free, Head, Kind, Pool}
use Rattle.dead_list.specs.Datasets.{Snapshot as ASnapshot}
use Rattle.dead_list.specs.Operations.{DestroyHead, DestroySnapshot, Makes, MayDo}
use Rattle.dnode.specs.declared.object_set.ObjectSet.{ObjectSet}
use Rattle.dnode_tree.proofs.FurtherReads.{told_after, told_before}
use Rattle.meta_objset.specs.declared.record.DatasetKind.{DatasetKind}
use Rattle.meta_objset.specs.declared.record.DatasetRecord.{DatasetRecord}
use Rattle.objset.specs.Objects.{AreObjects, Object}
use Rattle.dataset_destroys.specs.Destroying.{IsDatasetKept, IsDestroyed, IsKeptAs, MayDestroy, operation_of}

-- ---- the operation

pub may_head : (pool : Pool) (number : ℕ) → (pool.datasets number).kind ≡ Head → MayDestroy pool number → MayDo pool (DestroyHead number)
may_head pool number kind may = subst (λ (k : Kind). MayDo pool (operation_of k number)) kind may

pub may_snapshot : (pool : Pool) (number : ℕ) → (pool.datasets number).kind ≡ ASnapshot → MayDestroy pool number → MayDo pool (DestroySnapshot number)
may_snapshot pool number kind may = subst (λ (k : Kind). MayDo pool (operation_of k number)) kind may

pub made_of_head : (pool : Pool) (number : ℕ) (gone : List Block) (new : Pool) → (pool.datasets number).kind ≡ Head → Makes pool (DestroyHead number) gone new → IsDestroyed pool number gone new
made_of_head pool number gone new kind made = subst (λ (k : Kind). Makes pool (operation_of k number) gone new) (sym kind) made

pub made_of_snapshot : (pool : Pool) (number : ℕ) (gone : List Block) (new : Pool) → (pool.datasets number).kind ≡ ASnapshot → Makes pool (DestroySnapshot number) gone new
    → IsDestroyed pool number gone new
made_of_snapshot pool number gone new kind made = subst (λ (k : Kind). Makes pool (operation_of k number) gone new) (sym kind) made

-- there is a dataset where one may be destroyed
pub is_used : (pool : Pool) (number : ℕ) → MayDestroy pool number → (pool.datasets number).kind ≢ Free
is_used pool number may free =
    let held : MayDo pool (DestroyHead number) = subst (λ (k : Kind). MayDo pool (operation_of k number)) free may in
    let clash : Free ≡ Head = sym free ∙ held.0 in
    cc

-- ---- behind the read of its record

-- what is there behind the read
pub record IsBehind (mid new : Store) (read : DatasetChanges) (stored : Contents) (group : ℕ) (objects : ℕ → Option Object) (own : List Block) (blocks : ℕ → List Block) (pool : Pool)
    (readings : ℕ → Reading) (number : ℕ) (kind : DatasetKind) : Type 0 where
  pub held : Holds mid stored
  pub are : AreObjects stored (birth_of read) (set_of read) objects own blocks
  pub tell : AnswersTell mid new []
  pub spells : SpellsChains stored group objects read pool readings
  pub kind_as : (pool.datasets number).kind ≡ kind_of kind

module _ (old mid new : Store) (changes read : DatasetChanges) (number group : ℕ) (r : DatasetRecord) (first : OnlyReadsBlocks old mid []) (one_set : AreOfOneSet changes read) where
  module _ (rest : OnlyReadsBlocks mid new []) (lists : HaveSameLists changes read) (kept : HasRecordPut changes number (Some (once_read (record_at changes number) r)) read)
      (value : (stored : Contents) (objects : ℕ → Option Object) (own : List Block) (blocks : ℕ → List Block) → Holds old stored
      → AreObjects stored (birth_of changes) (set_of changes) objects own blocks → AnswersTell old mid [] → AreOver objects changes
      → AreOver objects read × HasRecordNow objects changes number r × ((s : DatasetRecord) → HasRecordNow objects changes number s → s ≡ r)) where
    pub behind : (stored : Contents) (objects : ℕ → Option Object) (own : List Block) (blocks : ℕ → List Block) (pool : Pool) (readings : ℕ → Reading) → Holds old stored
        → AreObjects stored (birth_of changes) (set_of changes) objects own blocks → AnswersTell old new [] → SpellsChains stored group objects changes pool readings
        → (kind : DatasetKind) → r.kind ≡ kind → IsBehind mid new read stored group objects own blocks pool readings number kind
    behind stored objects own blocks pool readings held are tell spells kind is =
        let there = value stored objects own blocks held are (told_before old mid new [] first rest tell) spells.over in
        let of = read_of stored group objects pool readings changes read number r kept lists there spells (λ free. (spells.none number free).none r there.1) in
        record {
          held = first.keeps stored held;
          are = subst (λ (set : ObjectSet). AreObjects stored (birth_of read) set objects own blocks) (sym one_set.0)
              (subst (λ (birth : ℕ). AreObjects stored birth (set_of changes) objects own blocks) (sym one_set.1) are);
          tell = told_after old mid new [] first rest tell;
          spells = read_on stored group objects pool readings changes read number r kept lists there spells;
          kind_as = of.0.is.kind ∙ ap (λ (x : DatasetRecord). kind_of x.kind) of.1 ∙ ap kind_of is;
        }

  pub kept_behind : (far : DatasetChanges) (left_before left_after : ℕ) (kind : DatasetKind) → HasKnown read number r → r.kind ≡ kind → (refusal : Refusal)
      → IsKeptAs kind mid new read far number group left_before left_after refusal → IsDatasetKept old new changes far number group left_before left_after refusal
  kept_behind far left_before left_after kind known is refusal why = inr (record {
    mid = mid;
    first = first;
    read = read;
    one_set = one_set;
    r = r;
    known = known;
    why = subst (λ (k : DatasetKind). IsKeptAs k mid new read far number group left_before left_after refusal) (sym is) why;
  })
