use Rattle.std.proofs.lemmas.Option.{IfSome_then}
use Rattle.pool_model.specs.Flow.{flow_of}
use Rattle.pool_intake.proofs.intake.Intake.syncing_items.Goals as goal

pub returns-clause-some : goal.returns-clause-some
returns-clause-some c = λ v r. c.syncing_items.ensures.some (flow_of v) r.flow

pub returns-clause-items : goal.returns-clause-items
returns-clause-items c = IfSome_then c.syncing_items.result c.syncing_items.ensures.items (λ items h v r. h (flow_of v) r.flow)
