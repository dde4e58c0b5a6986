use Rattle.std.proofs.Common.{sym}
use Rattle.pool_model.specs.Flow.{flow_of}
use Rattle.volume_rules.proofs.CoveredGroups.{by_syncing, by_no_syncing}
use Rattle.volume_rules.proofs.covered.is_covered_by_syncing.Goals as goal

pub returns : goal.returns
returns c = λ v k.
    by_syncing v c.args.name.now c.args.shape c.args.offset c.args.len c.committed_group-committed.result c.in-Some.items.now c.is_covered_by.result
    (sym (c.in-Some.ensures.some (flow_of v) k)) (c.committed_group-committed.ensures (flow_of v) k) (c.in-Some.ensures.items (flow_of v) k) c.is_covered_by.ensures

pub returns-in_default : goal.returns-in_default
returns-in_default c = λ v k. by_no_syncing v c.args.name.now c.args.shape c.args.offset c.args.len (sym (c.in_default.ensures.some (flow_of v) k))
