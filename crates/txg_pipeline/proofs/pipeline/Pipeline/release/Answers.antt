use Rattle.std.proofs.Common.{refl, ap, ◌∙◌}
use Rattle.pool_model.specs.declared.step.Step.TheVariants.{Release}
use Rattle.pool_model.specs.declared.step.Reply.TheVariants.{Released}
use Rattle.pool_model.specs.Flow.{released_by}
use Rattle.pool_model.proofs.SoundFlows.{sound_flow}
use Rattle.txg_pipeline.proofs.pipeline.Pipeline.release.Goals as goal

pub returns-clause-released : goal.returns-clause-released
returns-clause-released c = λ f k. (
  record f { holds = released_by f.holds c.args.writer },
  refl,
  record {
    sound = sound_flow f (Release c.args.writer) Released _ k.sound refl;
    committed = k.committed;
    syncing = k.syncing;
    waiting = k.waiting;
    holds = c.remove_holds.ensures ∙ ap (λ hs. released_by hs c.args.writer) k.holds;
    next = k.next;
    accepting = k.accepting;
    waited = k.waited;
    synced = k.synced;
  },
)
