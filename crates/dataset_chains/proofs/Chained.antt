-- Steps of changes of one set.
use Rattle.std.proofs.Common.{◌≡◌, ℕ, List, Option, Some, None, inl, inr, sym, subst, ◌∙◌}
use Rattle.block_pointer.specs.declared.block.Block.{Block}
use Rattle.block_store.specs.Blocks.{Contents}
use Rattle.dataset_changes.specs.States.{AreOfOneSet, birth_of, record_at, set_of}
use Rattle.dataset_changes.specs.declared.changes.DatasetChanges.{DatasetChanges}
use Rattle.dataset_changes.specs.declared.states.RecordState.TheVariants as records
use Rattle.dnode.specs.declared.object_set.ObjectSet.{ObjectSet}
use Rattle.meta_objset.specs.declared.record.DatasetRecord.{DatasetRecord}
use Rattle.objset.specs.Objects.{AreObjects, Object}
use Rattle.dataset_chains.specs.Passing.{IsRecordAlone, KeepsRecords}
use Rattle.dataset_chains.specs.Refused.{HasKnown}
use Rattle.dataset_chains.proofs.RecordsNow.{record_stays, record_was}

pub one_set_on : (old mid new : DatasetChanges) → AreOfOneSet old mid → AreOfOneSet mid new → AreOfOneSet old new
one_set_on old mid new first rest = (rest.0 ∙ first.0, rest.1 ∙ first.1)

pub objects_on : (stored : Contents) (objects : ℕ → Option Object) (own : List Block) (blocks : ℕ → List Block) (old new : DatasetChanges) → AreOfOneSet old new
    → AreObjects stored (birth_of old) (set_of old) objects own blocks → AreObjects stored (birth_of new) (set_of new) objects own blocks
objects_on stored objects own blocks old new same are =
    subst (λ (set : ObjectSet). AreObjects stored (birth_of new) set objects own blocks) (sym same.0)
    (subst (λ (birth : ℕ). AreObjects stored birth (set_of old) objects own blocks) (sym same.1) are)

-- what is known was read or put
pub known_there : (changes : DatasetChanges) (n : ℕ) (r : DatasetRecord) → HasKnown changes n r → record_at changes n ≡ None → ⊥
known_there changes n r (inl is) none = let clash : Some (records.Read r) ≡ None = sym is ∙ none in cc
known_there changes n r (inr (inl is)) none = let clash : Some (records.Changed r) ≡ None = sym is ∙ none in cc
known_there changes n r (inr (inr is)) none = let clash : Some (records.Made r) ≡ None = sym is ∙ none in cc

pub alone_on : (objects : ℕ → Option Object) (old new : DatasetChanges) (n : ℕ) (r : DatasetRecord) → record_at new n ≡ record_at old n → IsRecordAlone objects old n r → IsRecordAlone objects new n r
alone_on objects old new n r same alone s =
    (λ there. (alone s).0 (record_was objects old new n s same there), λ e. record_stays objects old new n s same ((alone s).1 e))

pub alone_kept : (objects : ℕ → Option Object) (old new : DatasetChanges) (n : ℕ) (r : DatasetRecord) → HasKnown old n r → KeepsRecords old new → IsRecordAlone objects old n r → IsRecordAlone objects new n r
alone_kept objects old new n r known keeps = alone_on objects old new n r (keeps n (known_there old n r known))
