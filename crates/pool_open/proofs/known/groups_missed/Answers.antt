use Rattle.std.proofs.Common.{ℕ, List, subst, ◌∙◌}
use Rattle.stale_disks.specs.Rules.{AreSpansOpened}
use Rattle.pool_open.proofs.known.groups_missed.Goals as goal

pub returns-clause-spans : goal.returns-clause-spans
returns-clause-spans c =
    subst (λ (guids : List ℕ). AreSpansOpened guids c.args.out.now c.args.group c.args.table.now c.in_ok-spans.spans) (c.deref.ensures.value ∙ c.in_ok-guids.ensures)
    c.in_ok-spans.ensures
