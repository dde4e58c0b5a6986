use Rattle.std.proofs.Common.{◌≡◌, ℕ, ◌*◌, List, None, length, ap, subst, ◌∙◌, arith}
use Rattle.std.proofs.lemmas.Result.{IfOk-weaker}
use Rattle.objset.specs.Changes.{after_change}
use Rattle.object_table.specs.Tables.{HasTable}
use Rattle.meta_objset.specs.StaleSpans.{AreStaleSpans, span_bytes, spans_kind}
use Rattle.meta_objset.proofs.Ordered.{rows_of_32}
use Rattle.meta_objset.proofs.Spans.{span_len}
use Rattle.meta_objset.proofs.stale_spans.StaleSpans.creation.Goals as goal

pub creation-requires-clause-rows : goal.creation-requires-clause-rows
creation-requires-clause-rows c =
    let len : length c.deref.result.now ≡ 32 * length c.args.self.now =
    ap length c.deref.ensures.value ∙ ap length c.in_ok-rows.ensures ∙ rows_of_32 span_bytes c.args.self.now span_len in
    omega (arith, len)

pub creation-requires-clause-few : goal.creation-requires-clause-few
creation-requires-clause-few c =
    let len : length c.deref.result.now ≡ 32 * length c.args.self.now =
    ap length c.deref.ensures.value ∙ ap length c.in_ok-rows.ensures ∙ rows_of_32 span_bytes c.args.self.now span_len in
    omega (arith, len, c.requires)

pub returns-clause-made : goal.returns-clause-made
returns-clause-made c =
    let same : c.self.inside.rows.items ≡ c.args.self.now = cc in
    IfOk-weaker c.creation.result _ _
    (λ change made. (
      subst AreStaleSpans same c.self.invariant,
      subst (λ (rows : List ℕ). HasTable spans_kind (after_change change None) rows) (c.deref.ensures.value ∙ c.in_ok-rows.ensures) made,
    ))
    c.creation.ensures.made
