use Rattle.std.proofs.Common.{◌≡◌, ℕ, Bool, Some, List, [], ap, ◌∙◌, subst}
use Rattle.std.specs.List.{slice_get}
use Rattle.meta_objset.specs.declared.stale_spans.StaleSpan.{StaleSpan}
use Rattle.stale_disks.specs.Rules.{AreSpansWithout}
use Rattle.pool_commit.specs.Spans.{AreSameSpans}
use Rattle.pool_commit.specs.declared.kept.KeptGroup.{KeptGroup}
use Rattle.pool_commit.proofs.commit.Commit.known_disks.Goals as goal

no_disk : (disk guid : ℕ) → slice_get [] disk ≡ Some guid → ⊥
no_disk disk guid at = cc

-- without those of no disk they are the same
same_without : (marks : List Bool) (before known after : List StaleSpan) → before ≡ known → AreSpansWithout [] marks before after → AreSameSpans known after
same_without marks before known after is are =
    subst (λ (them : List StaleSpan). AreSameSpans them after) is
    (λ span. (λ held. ((are span).0 held).1, λ held. (are span).1 (λ (disk, at, marked). no_disk disk span.disk at, held)))

pub returns-clause-spans : goal.returns-clause-spans
returns-clause-spans g c = same_without [] _ _ _ (c.spans.ensures ∙ ap (λ (it : KeptGroup). it.spans.value) c.last-last.ensures) c.in_ok-spans.ensures.spans
