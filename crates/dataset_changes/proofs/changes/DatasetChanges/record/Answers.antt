use Rattle.std.proofs.Common.{◌≡◌, Option, Some, None, MatchOption, inl, inr, ⊎_elim, sym, subst}
use Rattle.std.proofs.lemmas.Result.{IfOk-weaker, IfErr-weaker}
use Rattle.dnode_tree.proofs.Refusing.{ok_both, passed_on}
use Rattle.meta_objset.specs.declared.record.DatasetRecord.{DatasetRecord}
use Rattle.dataset_changes.specs.Over.{IsRecordNow}
use Rattle.dataset_changes.specs.States.{IsKnownAs, record_at}
use Rattle.dataset_changes.specs.declared.states.RecordState.{RecordState}
use Rattle.dataset_changes.specs.declared.states.RecordState.TheVariants.{Read}
use Rattle.dataset_changes.proofs.Overs.{over_record}
use Rattle.object_table.proofs.Causes.{judged_is_caused}
use Rattle.dataset_changes.proofs.changes.DatasetChanges.record.Goals as goal

pub returns-clause-value : goal.returns-clause-value
returns-clause-value g c =
    let state = record_at c.args.self.now c.args.number in
    let none : state ≡ None = subst (λ (found : Option DatasetRecord). MatchOption found (state ≡ None) (IsKnownAs state)) c.in_default.is c.in_ok-dataset.ensures.known in
    IfOk-weaker c.read_record.result _ _
    (λ found h stored objects own blocks held are tell over.
    let object = objects c.args.number in
    let there = h.1.0 stored objects own blocks held are tell in (
      over_record objects c.args.self.now c.read_record.new.self over c.args.number (Some (Read found)) h.0 c.read_record.ensures.lists there,
      subst (λ (s : Option RecordState). IsRecordNow object s found) (sym none) there,
      λ r now. sym (h.1.1 stored objects own blocks held are tell r (subst (λ (s : Option RecordState). IsRecordNow object s r) none now)),
    ))
    (ok_both c.read_record.result _ _ c.read_record.ensures.put (ok_both c.read_record.result _ _ c.read_record.ensures.value c.read_record.ensures.one))

pub returns-clause-refused : goal.returns-clause-refused
returns-clause-refused g c =
    IfErr-weaker c.read_record.result _ _ (λ refusal. ⊎_elim (λ memory. inl memory) (λ refused. inr (inl refused))) c.read_record.ensures.refused

pub returns-clause-known : goal.returns-clause-known
returns-clause-known g c =
    let state = record_at c.args.self.now c.args.number in
    let none : state ≡ None = subst (λ (found : Option DatasetRecord). MatchOption found (state ≡ None) (IsKnownAs state)) c.in_default.is c.in_ok-dataset.ensures.known in
    IfErr-weaker c.read_record.result _ _
    (λ refusal known stored objects own blocks held are tell number r now.
    known stored objects own blocks held are tell r (subst (λ (s : Option RecordState). IsRecordNow (objects c.args.number) s r) none now))
    c.read_record.ensures.known

pub returns-clause-found : goal.returns-clause-found
returns-clause-found g c = IfOk-weaker c.read_record.result _ _ (λ found there none. there) c.read_record.ensures.found

pub returns-in_err-dataset-clause-caused : goal.returns-in_err-dataset-clause-caused
returns-in_err-dataset-clause-caused g c = passed_on _ _ _ c.from_residual.ensures.1 (judged_is_caused _ _ _ _ _ (inr c.in_err-dataset.ensures.refused))
