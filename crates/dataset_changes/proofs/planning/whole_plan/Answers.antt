use Rattle.dataset_changes.proofs.Serving.{whole_replaced}
use Rattle.dataset_changes.proofs.planning.whole_plan.Goals as goal

pub returns-in-Ok-clause-serves : goal.returns-in-Ok-clause-serves
returns-in-Ok-clause-serves c = whole_replaced c.args.list c.in-Ok.change c.in-Ok.ensures.good c.in-Ok.ensures.may c.in-Ok.ensures.made
