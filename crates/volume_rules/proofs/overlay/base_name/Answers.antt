use Rattle.std.specs.Option.{option_copied}
use Rattle.pool_model.specs.Flow.{flow_of}
use Rattle.volume_rules.proofs.Laying.{before_all}
use Rattle.volume_rules.proofs.overlay.base_name.Goals as goal

pub returns : goal.returns
returns c = λ v k.
    before_all v c.args.name.now (option_copied c.source_before-behind_closed.result) (option_copied c.before_waiting-behind_syncing.result) (option_copied c.before_syncing.result) c.open_items.result.now
    (c.open_items.ensures (flow_of v) k) c.source_before-behind_closed.ensures (c.before_waiting-behind_syncing.ensures v k) (c.before_syncing.ensures v k)
