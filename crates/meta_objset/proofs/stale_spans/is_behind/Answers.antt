use Rattle.std.proofs.Common.{◌≡◌, ◌-◌, length, Some, sym, subst, arith}
use Rattle.std.specs.List.{slice_get}
use Rattle.std.proofs.lemmas.Bool.Decides.{nat_tests}
use Rattle.std.proofs.lemmas.List.Elements.{All-get_or}
use Rattle.std.proofs.lemmas.Option.{slice_get_within, get_or_from_slice_get}
use Rattle.meta_objset.specs.declared.stale_spans.StaleSpan.{StaleSpan}
use Rattle.meta_objset.proofs.Ordered.{behind_each}
use Rattle.meta_objset.proofs.Spans.{Earlier, number_order}
use Rattle.meta_objset.proofs.stale_spans.is_behind.Goals as goal

pub returns-in-Some : goal.returns-in-Some
returns-in-Some c =
    let spans = c.args.spans.now in
    let span = c.args.span.now in
    let last = c.in-Some.last.now in
    let there : slice_get spans (length spans - 1) ≡ Some last = sym c.in-Some.ensures.value in
    let within = slice_get_within spans (length spans - 1) last there in
    let is = get_or_from_slice_get spans (length spans - 1) last last there in (
      λ test. behind_each Earlier (λ a b c. number_order.through a.disk b.disk c.disk) spans last span c.requires.order (omega (arith, within)) is (grind (arith, nat_tests)),
      λ all. let low : Earlier last span = subst (λ (before : StaleSpan). Earlier before span) is (All-get_or (λ (before : StaleSpan). Earlier before span) spans (length spans - 1) last within all) in
          grind (arith, nat_tests),
    )
