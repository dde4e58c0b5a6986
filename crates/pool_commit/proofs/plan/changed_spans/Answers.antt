use Rattle.std.proofs.Common.{◌≡◌, ◌&&◌, ℕ, Bool, List, nat_eq, ap, sym, ◌∙◌, refl, subst}
use Rattle.std.specs.Bool.{Decides}
use Rattle.std.proofs.lemmas.Bool.Decides.{Decides-and, Decides-eqb}
use Rattle.std.proofs.lemmas.Slice.Eq.{slice_eq-Decides}
use Rattle.meta_objset.specs.declared.stale_spans.StaleSpan.{StaleSpan}
use Rattle.stale_disks.specs.Rules.{AreSpansAfter, guids_in}
use Rattle.vdev_label.specs.Plain.{config_view}
use Rattle.vdev_label.specs.declared.label.Config.{Config}
use Rattle.pool_commit.proofs.plan.changed_spans.Given as given
use Rattle.pool_commit.proofs.plan.changed_spans.Goals as goal

-- `==` of spans tells whether they are the same
span_decides : (a b : StaleSpan) → Decides (nat_eq a.disk b.disk && (nat_eq a.from b.from && nat_eq a.to b.to)) (a ≡ b)
span_decides a b =
    let both = Decides-and (nat_eq a.disk b.disk) (nat_eq a.from b.from && nat_eq a.to b.to) (Decides-eqb a.disk b.disk)
    (Decides-and (nat_eq a.from b.from) (nat_eq a.to b.to) (Decides-eqb a.from b.from) (Decides-eqb a.to b.to)) in (
      λ yes. let parts = both.0 yes in let disk = parts.0 in let from = parts.1.0 in let to = parts.1.1 in (λ i. record { disk = disk i; from = from i; to = to i }),
      λ same. both.1 (ap (λ (s : StaleSpan). s.disk) same, (ap (λ (s : StaleSpan). s.from) same, ap (λ (s : StaleSpan). s.to) same)),
    )

-- what was made are the spans behind the last group
made : (guids its : List ℕ) (marks out : List Bool) (group : ℕ) (before known after : List StaleSpan) → guids ≡ its → marks ≡ out → before ≡ known
    → AreSpansAfter guids marks group before after → AreSpansAfter its out group known after
made guids its marks out group before known after of_guids of_marks of_spans are =
    subst (λ (g : List ℕ). AreSpansAfter g out group known after) of_guids
    (subst (λ (o : List Bool). AreSpansAfter guids o group known after) of_marks
    (subst (λ (b : List StaleSpan). AreSpansAfter guids marks group b after) of_spans are))

pub returns-clause-after : goal.returns-clause-after
returns-clause-after g c =
    made _ _ _ _ c.args.group _ _ c.in_ok-spans.spans
    (c.deref.ensures.value ∙ c.in_ok-guids.ensures ∙ ap (λ (config : Config). guids_in (config_view config)) c.config.ensures)
    (c.deref-2.ensures.value ∙ c.in_ok-marks.ensures) c.spans.ensures c.in_ok-spans.ensures

pub returns-then-eq-clause-after : goal.returns-then-eq-clause-after
returns-then-eq-clause-after g c =
    let same = (slice_eq-Decides span_decides _ _ _ c.if-eq.ensures).0 refl in
    subst (λ (after : List StaleSpan). AreSpansAfter (guids_in (config_view c.args.last.now.config.value)) c.args.store.now.out c.args.group c.args.last.now.spans.value after)
    (sym c.rows.ensures.value ∙ same ∙ c.rows-2.ensures.value ∙ c.as_ref.ensures)
    (made _ _ _ _ c.args.group _ _ c.in_ok-spans.spans
    (c.deref.ensures.value ∙ c.in_ok-guids.ensures ∙ ap (λ (config : Config). guids_in (config_view config)) c.config.ensures)
    (c.deref-2.ensures.value ∙ c.in_ok-marks.ensures) c.spans.ensures c.in_ok-spans.ensures)
