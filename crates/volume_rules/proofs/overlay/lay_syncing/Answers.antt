use Rattle.std.proofs.Common.{sym}
use Rattle.std.specs.Option.{option_copied}
use Rattle.pool_model.specs.Flow.{flow_of}
use Rattle.volume_rules.proofs.Laying.{lays_no_syncing, lays_syncing}
use Rattle.volume_rules.proofs.overlay.lay_syncing.Goals as goal

pub returns-in-Some : goal.returns-in-Some
returns-in-Some c = λ v k below good effects.
    lays_syncing v (option_copied c.args.name) c.args.size c.args.offset below good effects c.in-Some.items.now c.args.buffer.now c.lay_group.new.buffer
    (sym (c.in-Some.ensures.some (flow_of v) k)) (c.in-Some.ensures.items (flow_of v) k) c.lay_group.ensures

pub returns-in_default : goal.returns-in_default
returns-in_default c = λ v k below good effects.
    lays_no_syncing v (option_copied c.args.name) c.args.size c.args.offset below good effects c.args.buffer.now (sym (c.in_default.ensures.some (flow_of v) k))
