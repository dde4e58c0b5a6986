use Rattle.std.proofs.Common.{◌∙◌, inl, inr, ⊎_elim, sym, ap, subst}
use Rattle.dnode_tree.proofs.Refusing.{passed_on}
use Rattle.meta_objset.specs.Datasets.{HasRecord}
use Rattle.meta_objset.specs.declared.record.DatasetRecord.{DatasetRecord}
use Rattle.dataset_snapshots.proofs.ChainWalks.{some_before}
use Rattle.dataset_snapshots.proofs.walks.group_before.Goals as goal

pub returns-in_err-before-clause-refused : goal.returns-in_err-before-clause-refused
returns-in_err-before-clause-refused g c =
    passed_on _ _ _ c.from_residual.ensures.1 (⊎_elim (λ memory. inl memory) (λ why. inr (c.if-record-eq0.false, why)) c.in_err-before.ensures.refused)

pub returns-in_err-before-clause-known : goal.returns-in_err-before-clause-known
returns-in_err-before-clause-known g c =
    passed_on _ _ _ c.from_residual.ensures.1 (λ stored objects own blocks pool readings object held are chains at tell.
    let stands = some_before stored c.args.birth objects pool readings chains object (λ first. c.if-record-eq0.false (sym at ∙ first)) in
    c.in_err-before.ensures.known stored objects own blocks stands.r held are (subst (λ n. HasRecord (objects n) stands.r) at stands.has) tell)

pub returns-clause-value : goal.returns-clause-value
returns-clause-value g c = λ stored objects own blocks pool readings object held are chains at tell.
    let stands = some_before stored c.args.birth objects pool readings chains object (λ first. c.if-record-eq0.false (sym at ∙ first)) in
    ap (λ (r : DatasetRecord). r.created)
    (c.in_ok-before.ensures.value stored objects own blocks stands.r held are (subst (λ n. HasRecord (objects n) stands.r) at stands.has) tell)
    ∙ sym stands.is.created
