use Rattle.std.proofs.Common.{sym}
use Rattle.std.specs.Option.{option_copied}
use Rattle.pool_model.specs.Flow.{flow_of}
use Rattle.volume_rules.proofs.Laying.{before_syncing, before_no_syncing}
use Rattle.volume_rules.proofs.overlay.before_syncing.Goals as goal

pub returns-in-Some : goal.returns-in-Some
returns-in-Some c = λ v k.
    before_syncing v (option_copied c.args.name) (option_copied c.source_before.result) c.in-Some.items.now
    (sym (c.in-Some.ensures.some (flow_of v) k)) (c.in-Some.ensures.items (flow_of v) k) c.source_before.ensures

pub returns-in-None : goal.returns-in-None
returns-in-None c = λ v k. before_no_syncing v (option_copied c.args.name) (sym (c.in-None.ensures.some (flow_of v) k))
