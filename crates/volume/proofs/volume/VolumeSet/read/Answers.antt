use Rattle.std.proofs.Common.{inl, inr, ⊎_elim, sym, subst, arith}
use Rattle.std.proofs.lemmas.Result.{IfOk-weaker, IfErr-weaker}
use Rattle.block_store.proofs.Steps.{reads_on}
use Rattle.dnode.specs.declared.object_set.ObjectSet.{ObjectSet}
use Rattle.dnode_tree.proofs.FurtherReads.{told_before, told_after}
use Rattle.volume.specs.Volume.{HasData}
use Rattle.volume.proofs.Refusing.{passed_on}
use Rattle.block_store.proofs.Causes.{caused_behind_reads}
use Rattle.volume.proofs.volume.VolumeSet.read.Goals as goal

pub returns-in_err-set-clause-refused : goal.returns-in_err-set-clause-refused
returns-in_err-set-clause-refused g c = passed_on _ _ _ c.from_residual.ensures.1 (inr (inl c.in_err-set.ensures.refused))

pub returns-in_err-set-clause-known : goal.returns-in_err-set-clause-known
returns-in_err-set-clause-known g c =
    passed_on _ _ _ c.from_residual.ensures.1 (λ stored array held is tell. c.in_err-set.ensures.known stored _ array held is (omega arith) tell)

pub returns-clause-reads : goal.returns-clause-reads
returns-clause-reads g c = reads_on _ _ _ _ c.in_ok-set.ensures.reads c.read_data.ensures.reads

pub returns-clause-value : goal.returns-clause-value
returns-clause-value g c =
    let first = c.in_ok-set.ensures.reads in
    let rest = c.read_data.ensures.reads in
    IfOk-weaker c.read_data.result _ _
    (λ read value stored array held is tell.
    value stored array (first.keeps stored held)
    (subst (λ (set : ObjectSet). HasData stored _ set _ _ array) (sym (c.in_ok-set.ensures.value stored _ _ held is (omega arith) (told_before _ _ _ _ first rest tell))) is.has)
    (told_after _ _ _ _ first rest tell))
    c.read_data.ensures.value

pub returns-clause-refused : goal.returns-clause-refused
returns-clause-refused g c =
    IfErr-weaker c.read_data.result _ _
    (λ refusal why. ⊎_elim (λ memory. inl memory)
    (λ unread. inr (inr (record { set = c.in_ok-set.set; is_set = c.in_ok-set.ensures.found; mid = c.open.new.store; before = c.in_ok-set.ensures.reads; unread = unread }))) why)
    c.read_data.ensures.refused

pub returns-clause-known : goal.returns-clause-known
returns-clause-known g c =
    let first = c.in_ok-set.ensures.reads in
    let rest = c.read_data.ensures.reads in
    IfErr-weaker c.read_data.result _ _
    (λ refusal known stored array held is tell.
    known stored array (first.keeps stored held)
    (subst (λ (set : ObjectSet). HasData stored _ set _ _ array) (sym (c.in_ok-set.ensures.value stored _ _ held is (omega arith) (told_before _ _ _ _ first rest tell))) is.has)
    (told_after _ _ _ _ first rest tell))
    c.read_data.ensures.known

pub returns-clause-found : goal.returns-clause-found
returns-clause-found g c = IfOk-weaker c.read_data.result _ _ (λ read len. (c.in_ok-set.set, c.in_ok-set.ensures.found)) c.read_data.ensures.len

pub returns-in_err-set-clause-caused : goal.returns-in_err-set-clause-caused
returns-in_err-set-clause-caused g c = passed_on _ _ _ c.from_residual.ensures.1 c.in_err-set.ensures.caused

pub returns-clause-caused : goal.returns-clause-caused
returns-clause-caused g c = IfErr-weaker c.read_data.result _ _ (λ refusal. caused_behind_reads _ _ _ _ refusal c.in_ok-set.ensures.reads) c.read_data.ensures.caused
