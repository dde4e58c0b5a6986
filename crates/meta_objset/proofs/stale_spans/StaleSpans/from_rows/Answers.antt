use Rattle.std.proofs.Common.{◌≡◌, ◌<◌, List, ◌++◌, length, All, sym, ap, subst, ◌∙◌, arith}
use Rattle.std.proofs.lemmas.Bool.Decides.{nat_tests}
use Rattle.std.proofs.lemmas.List.{append-nil}
use Rattle.meta_objset.specs.declared.stale_spans.StaleSpan.{StaleSpan}
use Rattle.meta_objset.specs.StaleSpans.{FitsSpan, span_bytes}
use Rattle.meta_objset.proofs.InOrder.{reading_goes_on, reading_stops}
use Rattle.meta_objset.proofs.Ordered.{AreReadInOrder, next_is_behind, pushed_order, none_left}
use Rattle.meta_objset.proofs.Spans.{Earlier, span_len}
use Rattle.meta_objset.proofs.stale_spans.StaleSpans.from_rows.Goals as goal

pub returns-in_err-span-clause-bad : goal.returns-in_err-span-clause-bad
returns-in_err-span-clause-bad c = λ _ whole is spelled.
    let some : 0 < length c.loop-rest.rest.now = grind (arith, nat_tests) in
    reading_stops span_bytes FitsSpan c.args.bytes.now c.loop-rest.rest.now c.loop-rest.rows.items c.loop-rest.invariant.read some
    (λ span more fits parts. absurd (c.in_err-span.ensures.only span more fits parts)) whole is.each spelled

pub returns-then-not-is_behind-clause-bad : goal.returns-then-not-is_behind-clause-bad
returns-then-not-is_behind-clause-bad c = λ _ whole is spelled.
    let some : 0 < length c.loop-rest.rest.now = grind (arith, nat_tests) in
    let all = next_is_behind span_bytes FitsSpan Earlier c.args.bytes.now c.loop-rest.rest.now c.in_ok-span.after.now c.loop-rest.rows.items c.in_ok-span.span c.loop-rest.invariant.read some c.in_ok-span.ensures.only whole is.each is.order spelled in
    let test = c.is_behind.ensures.1 (subst (λ (spans : List StaleSpan). All (λ before. Earlier before c.in_ok-span.span) spans) (sym c.deref.ensures.value) all) in
    absurd cc

pub loop-rest-preserved : goal.loop-rest-preserved
loop-rest-preserved c =
    let some : 0 < length c.loop-rest.rest.now = grind (arith, nat_tests) in
    let spans : List StaleSpan = c.loop-rest.rows.items in
    let all = subst (λ (spans : List StaleSpan). All (λ before. Earlier before c.in_ok-span.span) spans) c.deref.ensures.value (c.is_behind.ensures.0 c.if-not-is_behind.false) in
    subst (λ (spans : List StaleSpan). AreReadInOrder span_bytes FitsSpan Earlier c.args.bytes.now c.in_ok-span.after.now spans) (sym c.in_ok-push.ensures.items)
    (record {
      read = reading_goes_on span_bytes FitsSpan c.args.bytes.now c.loop-rest.rest.now c.in_ok-span.after.now spans c.in_ok-span.span c.loop-rest.invariant.read some c.in_ok-span.ensures.fits c.in_ok-span.ensures.found c.in_ok-span.ensures.only;
      order = pushed_order Earlier spans c.in_ok-span.span c.loop-rest.invariant.order all;
    })

pub returns-clause-only : goal.returns-clause-only
returns-clause-only c = λ spans is spelled.
    let known = c.loop-rest.invariant.read.only spans is.each spelled in
    let none : length c.loop-rest.rest.now ≡ 0 = grind (arith, nat_tests) in
    sym (known.2 ∙ ap (λ (left : List StaleSpan). c.loop-rest.rows.items ++ left) (none_left span_bytes known.0 c.loop-rest.rest.now span_len known.3 none) ∙ append-nil c.loop-rest.rows.items)
