use Rattle.std.proofs.Common.{List, sym, subst}
use Rattle.objset.specs.declared.changes.ObjectChange.{ObjectChange}
use Rattle.dataset_changes.specs.Results.{AreChangesOf}
use Rattle.dataset_changes.proofs.Giving.{planned_changes}
use Rattle.dataset_changes.proofs.changes.DatasetChanges.into_changes.Goals as goal

pub returns-clause-are : goal.returns-clause-are
returns-clause-are c =
    subst (λ (made : List ObjectChange). AreChangesOf c.args.self made) (sym c.in_ok-made.ensures.are)
    (planned_changes c.args.self c.in_ok-plans.plans c.plan_lists.new.plans c.in_ok-made.ensures.ordered c.in_ok-plans.ensures.are c.in_ok-plan_lists.ensures.are)
