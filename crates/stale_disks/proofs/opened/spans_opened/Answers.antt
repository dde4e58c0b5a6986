use Rattle.std.proofs.Common.{◌≡◌, ℕ, ◌+◌, ◌≤◌, Bool, List, Some, None, length, get_or, inl, inr, ap, refl, sym, ◌∙◌, subst, true, arith}
use Rattle.std.specs.Prelude.{◌↔◌, Contains, slice_get}
use Rattle.std.proofs.lemmas.Option.{slice_get-get_or}
use Rattle.meta_objset.specs.StaleSpans.{AreStaleSpans}
use Rattle.meta_objset.specs.declared.stale_spans.StaleSpan.{StaleSpan}
use Rattle.stale_disks.specs.Rules.{OpensAs}
use Rattle.stale_disks.proofs.Spans.{no_span}
use Rattle.stale_disks.proofs.Steps.{AreMade, IsOne, made_all, made_more, made_none}
use Rattle.stale_disks.proofs.opened.spans_opened.Goals as goal
use Rattle.stale_disks.proofs.opened.spans_opened.Goals.{in-Some+in_ok-set, in_default}

rows_are : (guids : List ℕ) (out : List Bool) (group : ℕ) → IsOne (OpensAs guids out group)
rows_are guids out group = record { disk = disk; once = once }
  where
    disk : (row span : StaleSpan) → OpensAs guids out group row span → span.disk ≡ row.disk
    disk row span (inl (back, begun, is)) = ap (λ (s : StaleSpan). s.disk) is
    disk row span (inr (other, is)) = ap (λ (s : StaleSpan). s.disk) is

    once : (row one other : StaleSpan) → OpensAs guids out group row one → OpensAs guids out group row other → one ≡ other
    once row one other (inl (back, begun, is)) (inl (again, by, also)) = is ∙ sym also
    once row one other (inl (back, begun, is)) (inr (not, also)) = absurd (not back)
    once row one other (inr (not, is)) (inl (back, begun, also)) = absurd (not back)
    once row one other (inr (not, is)) (inr (nor, also)) = is ∙ sym also

pub loop-index-preserved : goal.loop-index-preserved
loop-index-preserved c =
    let rows : List StaleSpan = c.rows-rows.result.now in
    let n : ℕ = c.loop-index.index in
    let To : StaleSpan → StaleSpan → Type 0 = OpensAs c.args.guids.now c.args.out.now c.args.group in
    let row : StaleSpan = get_or rows n no_span in
    let at = slice_get-get_or rows n no_span c.loop-index-test.true in
    let are : AreStaleSpans rows = subst AreStaleSpans (sym c.rows-rows.ensures.value) c.rows-rows.ensures.is in
    elim c.match-opened_as.branch [
      | in-Some+in_ok-set w ↦
          subst (AreMade To (n + 1) rows) (sym w.spans-is)
          (made_more To n rows c.loop-index.spans w.set.new.self row w.in-Some.span (rows_are c.args.guids.now c.args.out.now c.args.group) are at w.in-Some.ensures.some w.in_ok-set.ensures.set c.loop-index.invariant)
      | in_default w ↦
          subst (AreMade To (n + 1) rows) (sym w.spans-is)
          (made_none To n rows c.loop-index.spans row at (c.opened_as.ensures.none w.in_default.is) c.loop-index.invariant)
    ]

pub returns : goal.returns
returns c =
    made_all (OpensAs c.args.guids.now c.args.out.now c.args.group) c.loop-index.index c.rows-rows.result.now c.args.table.now c.loop-index.spans c.rows-rows.ensures.value
    c.loop-index-test.false c.loop-index.invariant
