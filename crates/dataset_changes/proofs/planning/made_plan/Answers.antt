use Rattle.dataset_changes.proofs.Serving.{list_created}
use Rattle.dataset_changes.proofs.planning.made_plan.Goals as goal

pub returns-in-Ok-clause-serves : goal.returns-in-Ok-clause-serves
returns-in-Ok-clause-serves c = list_created c.args.list c.in-Ok.change c.in-Ok.ensures.good c.in-Ok.ensures.made
