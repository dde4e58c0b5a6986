use Rattle.pool_model.specs.Flow.{flow_of}
use Rattle.volume_rules.proofs.CoveredGroups.{by_open}
use Rattle.volume_rules.proofs.covered.is_covered_by_open.Goals as goal

pub returns : goal.returns
returns c = λ v k.
    by_open v c.args.name.now c.args.shape c.args.offset c.args.len c.open_group-open.result c.saturating_sub.result c.open_items-items.result.now c.is_covered_by.result
    (c.open_group-open.ensures (flow_of v) k) c.saturating_sub.ensures (c.open_items-items.ensures (flow_of v) k) c.is_covered_by.ensures
