use Rattle.std.proofs.Common.{◌≡◌, ℕ, List, inl, inr, ⊎_elim, sym, subst, ◌∙◌}
use Rattle.std.proofs.lemmas.Result.{IfOk-weaker, IfErr-weaker}
use Rattle.dnode_tree.proofs.Refusing.{passed_on}
use Rattle.meta_objset.specs.declared.stale_spans.StaleSpan.{StaleSpan}
use Rattle.meta_objset.specs.StaleSpans.{AreStaleSpans, spans_bytes, spans_kind}
use Rattle.object_table.proofs.Tables.{ok_for_all}
use Rattle.object_table.specs.Found.{IsTableFound}
use Rattle.object_table.specs.Tables.{HasTable}
use Rattle.object_table.proofs.Causes.{judged_is_caused}
use Rattle.meta_objset.proofs.reading.read_stale_spans.Goals as goal

pub returns-in_err-rows-clause-known : goal.returns-in_err-rows-clause-known
returns-in_err-rows-clause-known g c =
    passed_on _ _ _ c.from_residual.ensures.1
    (λ stored objects own blocks held are tell.
    ⊎_elim (λ memory. inl memory) (λ bad. inr (bad.0, λ rows has. bad.1 _ has.1)) (c.in_err-rows.ensures.known stored objects own blocks held are tell))

pub returns-clause-value : goal.returns-clause-value
returns-clause-value g c =
    IfOk-weaker c.spans_of.result _ _
    (λ spans is stored objects own blocks held are tell.
    let rows = c.in_ok-rows.ensures.value stored objects own blocks held are tell in
    (is.0, subst (λ (bytes : List ℕ). HasTable spans_kind (objects 3) bytes) (sym c.deref.ensures.value ∙ is.1) rows))
    c.spans_of.ensures.found

pub returns-clause-known : goal.returns-clause-known
returns-clause-known g c =
    IfErr-weaker c.spans_of.result _ _
    (λ refusal why stored objects own blocks held are tell.
    ⊎_elim (λ memory. inl (inl memory))
    (λ bad. inr (bad.0, λ rows has. bad.1 rows has.0 (c.deref.ensures.value ∙ c.in_ok-rows.ensures.one stored objects own blocks held are tell _ has.1)))
    why)
    c.spans_of.ensures.refused

pub returns-in_err-rows-clause-refused : goal.returns-in_err-rows-clause-refused
returns-in_err-rows-clause-refused g c =
    passed_on _ _ _ c.from_residual.ensures.1 (⊎_elim (λ memory. inl memory) (λ why. inr (inl why)) c.in_err-rows.ensures.refused)

pub returns-clause-found : goal.returns-clause-found
returns-clause-found g c =
    IfOk-weaker c.spans_of.result _ _
    (λ found is. (is.0, subst (λ (bytes : List ℕ). IsTableFound c.args.store.now.spaces c.args.set.now c.args.birth spans_kind 3 bytes) (sym c.deref.ensures.value ∙ is.1) c.in_ok-rows.ensures.found))
    c.spans_of.ensures.found

pub returns-clause-refused : goal.returns-clause-refused
returns-clause-refused g c =
    IfErr-weaker c.spans_of.result _ _
    (λ refusal why. ⊎_elim (λ memory. inl memory)
    (λ bad. inr (inr (
      bad.0,
      record {
        rows = c.in_ok-rows.rows.items;
        found = c.in_ok-rows.ensures.found;
        none = λ has. bad.1 has.0 has.1 (c.deref.ensures.value ∙ has.2);
      },
    )))
    why)
    c.spans_of.ensures.refused

pub returns-clause-one : goal.returns-clause-one
returns-clause-one g c =
    IfOk-weaker c.spans_of.result _ _
    (λ found one stored objects own blocks held are tell other has.
    one other (has.0, c.deref.ensures.value ∙ c.in_ok-rows.ensures.one stored objects own blocks held are tell _ has.1))
    (ok_for_all c.spans_of.result (λ (rows : List StaleSpan). AreStaleSpans rows × (c.deref.result.now ≡ spans_bytes rows)) (λ found rows. found ≡ rows) (λ rows is. c.spans_of.ensures.only rows is.0 is.1))

pub returns-clause-caused : goal.returns-clause-caused
returns-clause-caused g c = IfErr-weaker c.spans_of.result _ _ (λ refusal why. judged_is_caused _ _ _ _ refusal why) c.spans_of.ensures.refused
