use Rattle.pool_model.proofs.Falls.{once_in_order}
use Rattle.pool_model.proofs.laws.flows_are_once_in_order.Goals as goal

pub returns : goal.returns
returns c = once_in_order
