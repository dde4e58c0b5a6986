-- Where each action of a group makes something that may be made so, all of them may be made.
use Rattle.std.proofs.Common.{◌≡◌, true}
use Rattle.std.proofs.lemmas.List.Elements.{All-from_recursion}
use Rattle.pool_model.specs.declared.item.Action.{Action}
use Rattle.volume_rules.specs.GoodChanges.{is_good_making}
use Rattle.dataset_snapshots.specs.Laws.{GoodChangesMayBeMade}

pub good_changes_may_be_made : GoodChangesMayBeMade
good_changes_may_be_made entry good = All-from_recursion (λ (action : Action). is_good_making action.change ≡ true) entry.actions good
