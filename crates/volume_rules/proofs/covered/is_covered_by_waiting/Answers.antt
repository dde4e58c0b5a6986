use Rattle.std.proofs.Common.{sym}
use Rattle.pool_model.specs.Flow.{flow_of}
use Rattle.volume_rules.proofs.CoveredGroups.{by_waiting, by_no_waiting}
use Rattle.volume_rules.proofs.covered.is_covered_by_waiting.Goals as goal

pub returns : goal.returns
returns c = λ v k.
    by_waiting v c.args.name.now c.args.shape c.args.offset c.args.len c.open_group-open.result c.saturating_sub.result c.in-Some.items.now c.is_covered_by.result
    (sym (c.in-Some.ensures.some (flow_of v) k)) (c.open_group-open.ensures (flow_of v) k) c.saturating_sub.ensures (c.in-Some.ensures.items (flow_of v) k) c.is_covered_by.ensures

pub returns-in_default : goal.returns-in_default
returns-in_default c = λ v k. by_no_waiting v c.args.name.now c.args.shape c.args.offset c.args.len (sym (c.in_default.ensures.some (flow_of v) k))
