use Rattle.std.proofs.Common.{◌≡◌, ℕ, ◌+◌, ◌≤◌, Bool, List, Some, length, get_or, ap, refl, sym, ◌∙◌, subst, true, true≢false, arith}
use Rattle.std.specs.Prelude.{◌↔◌, Contains, slice_get}
use Rattle.std.proofs.lemmas.Option.{slice_get-get_or}
use Rattle.meta_objset.specs.StaleSpans.{AreStaleSpans}
use Rattle.meta_objset.specs.declared.stale_spans.StaleSpan.{StaleSpan}
use Rattle.stale_disks.specs.Rules.{IsOfDisk}
use Rattle.stale_disks.proofs.Spans.{no_span}
use Rattle.stale_disks.proofs.Steps.{AreMade, IsOne, made_all, made_more, made_none}
use Rattle.stale_disks.proofs.away.spans_without.Goals as goal
use Rattle.stale_disks.proofs.away.spans_without.Goals.{then-not-has_disk+in_ok-set, else-not-has_disk}

-- of a disk that isn't marked the row stays
abbrev Stays : List ℕ → List Bool → StaleSpan → StaleSpan → Type 0
Stays guids marks row span = (¬ IsOfDisk guids marks true row.disk) × (span ≡ row)

unmarked_are : (guids : List ℕ) (marks : List Bool) → IsOne (Stays guids marks)
unmarked_are guids marks = record {
  disk = λ row span is. ap (λ (s : StaleSpan). s.disk) is.1;
  once = λ row one other is also. is.1 ∙ sym also.1;
}

pub loop-index-preserved : goal.loop-index-preserved
loop-index-preserved c =
    let rows : List StaleSpan = c.rows-rows.result.now in
    let n : ℕ = c.loop-index.index in
    let To : StaleSpan → StaleSpan → Type 0 = Stays c.args.guids.now c.args.marks.now in
    let row : StaleSpan = get_or rows n no_span in
    let at = slice_get-get_or rows n no_span c.loop-index-test.true in
    let are : AreStaleSpans rows = subst AreStaleSpans (sym c.rows-rows.ensures.value) c.rows-rows.ensures.is in
    elim c.if-not-has_disk.branch [
      | then-not-has_disk+in_ok-set w ↦
          subst (AreMade To (n + 1) rows) (sym w.spans-is)
          (made_more To n rows c.loop-index.spans w.set.new.self row row (unmarked_are c.args.guids.now c.args.marks.now) are at
          (λ yes. true≢false (sym (c.has_disk.ensures.1 yes) ∙ w.if-not-has_disk.true), refl) w.in_ok-set.ensures.set c.loop-index.invariant)
      | else-not-has_disk w ↦
          subst (AreMade To (n + 1) rows) (sym w.spans-is)
          (made_none To n rows c.loop-index.spans row at (λ span is. is.0 (c.has_disk.ensures.0 w.if-not-has_disk.false)) c.loop-index.invariant)
    ]

pub returns-clause-order : goal.returns-clause-order
returns-clause-order c = c.rows-rows.ensures.is

pub returns-clause-spans : goal.returns-clause-spans
returns-clause-spans c = λ span. (
  λ held. let it = (all span).0 held in
      (subst (λ (s : StaleSpan). ¬ IsOfDisk c.args.guids.now c.args.marks.now true s.disk) (sym it.2.1) it.2.0, subst (Contains c.args.before.now) (sym it.2.1) it.1),
  λ it. (all span).1 (span, it.1, (it.0, refl)),
)
  where
    all : (span : StaleSpan) → Contains c.loop-index.spans span ↔ ((row : StaleSpan) × Contains c.args.before.now row × Stays c.args.guids.now c.args.marks.now row span)
    all = made_all (Stays c.args.guids.now c.args.marks.now) c.loop-index.index c.rows-rows.result.now c.args.before.now c.loop-index.spans c.rows-rows.ensures.value
        c.loop-index-test.false c.loop-index.invariant
