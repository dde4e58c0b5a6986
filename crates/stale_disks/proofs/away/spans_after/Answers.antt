use Rattle.std.proofs.Common.{◌≡◌, ℕ, ◌+◌, ◌≤◌, ◌⊎◌, Bool, List, Some, length, get_or, inl, inr, ap, refl, sym, ◌∙◌, subst, true, true≢false, arith}
use Rattle.std.specs.Prelude.{◌↔◌, Contains, slice_get}
use Rattle.std.proofs.lemmas.Option.{slice_get-get_or}
use Rattle.meta_objset.specs.StaleSpans.{AreStaleSpans}
use Rattle.meta_objset.specs.declared.stale_spans.StaleSpan.{StaleSpan}
use Rattle.stale_disks.specs.Rules.{IsOfDisk, IsOfFirst, LacksFrom, no_end}
use Rattle.stale_disks.proofs.Spans.{all_of_first, first_of_all}
use Rattle.stale_disks.proofs.Steps.{AreAway, away_more, away_none}
use Rattle.stale_disks.proofs.away.spans_after.Goals as goal
use Rattle.stale_disks.proofs.away.spans_after.Goals.{then-is_marked+in_ok-set, else-is_marked}

pub loop-disk-init : goal.loop-disk-init
loop-disk-init c = λ span. (
  λ held. inr ((c.in_ok-after.ensures.spans span).0 held),
  λ it. elim it [
    | inl (first, end, since) ↦ absurd (let below = first.1 in omega (arith, below))
    | inr other ↦ (c.in_ok-after.ensures.spans span).1 other
  ],
)

pub loop-disk-preserved : goal.loop-disk-preserved
loop-disk-preserved c =
    let n : ℕ = c.loop-disk.disk in
    let guids : List ℕ = c.args.guids.now in
    let at = slice_get-get_or guids n 0 c.loop-disk-test.true in
    elim c.if-is_marked.branch [
      | then-is_marked+in_ok-set w ↦
          subst (AreAway (n + 1) guids c.args.out.now c.args.group c.args.before.now) (sym w.after-is)
          (away_more n guids c.args.out.now c.args.group c.args.before.now c.loop-disk.after w.set.new.self (get_or guids n 0) w.span_away-span.result c.spans_without.ensures.order at
          (sym c.is_marked.ensures ∙ w.if-is_marked.true)
          w.span_away-span.ensures.disk w.span_away-span.ensures.to w.span_away-span.ensures.from w.in_ok-set.ensures.set c.loop-disk.invariant)
      | else-is_marked w ↦
          subst (AreAway (n + 1) guids c.args.out.now c.args.group c.args.before.now) (sym w.after-is)
          (away_none n guids c.args.out.now c.args.group c.args.before.now c.loop-disk.after (λ is. true≢false (sym is ∙ sym c.is_marked.ensures ∙ w.if-is_marked.false))
          c.loop-disk.invariant)
    ]

pub returns : goal.returns
returns c = λ span. (
  λ held. elim ((c.loop-disk.invariant span).0 held) [
    | inl (first, end, since) ↦ inl (first_of_all c.args.guids.now c.args.out.now true span.disk c.loop-disk.disk first, end, since)
    | inr other ↦ inr other
  ],
  λ it. (c.loop-disk.invariant span).1 (elim it [
    | inl (is, end, since) ↦ inl (all_of_first c.args.guids.now c.args.out.now true span.disk c.loop-disk.disk c.loop-disk-test.false is, end, since)
    | inr other ↦ inr other
  ]),
)
