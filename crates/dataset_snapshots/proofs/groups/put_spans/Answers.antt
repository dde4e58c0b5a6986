use Rattle.std.proofs.Common.{◌≡◌, List, [], ◌∷◌, Option, Some, sym, ap, subst}
use Rattle.meta_objset.specs.declared.stale_spans.StaleSpan.{StaleSpan}
use Rattle.objset.specs.declared.changes.ObjectChange.{ObjectChange}
use Rattle.dataset_snapshots.specs.Demands.{AreSpanChanges, WritesSpans}
use Rattle.dataset_snapshots.proofs.groups.put_spans.Goals as goal

-- one change of object 3 that writes the spans
spans_are : (spans : Option (List StaleSpan)) (rows : List StaleSpan) (change : ObjectChange) → spans ≡ Some rows → change.number ≡ 3 → WritesSpans rows change.change
    → AreSpanChanges spans (change ∷ [])
spans_are spans rows change is number writes =
    subst (λ (some : Option (List StaleSpan)). AreSpanChanges some (change ∷ [])) (sym is)
    (change.change, writes, ap (λ n. record { number = n; change = change.change } ∷ []) number)

pub returns-clause-spans : goal.returns-clause-spans
returns-clause-spans c =
    let made = c.in_ok-change.ensures in (
      c.in_ok-change.change ∷ [],
      spans_are c.args.group.now.spans _ c.in_ok-change.change c.in-Some.is made.number (λ object of_kind. (made.may object of_kind, made.made object of_kind)),
      c.in_ok-put_first.ensures,
    )
