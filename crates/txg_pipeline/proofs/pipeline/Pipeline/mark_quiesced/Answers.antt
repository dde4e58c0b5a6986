use Rattle.std.proofs.Common.{◌≡◌, suc, false, Some, refl, sym, ap, ◌∙◌}
use Rattle.std.specs.Prelude.{is_some}
use Rattle.pool_model.specs.declared.group.Stage.TheVariants.{Quiescing, Quiesced as QuiescedStage}
use Rattle.pool_model.specs.declared.step.Step.TheVariants.{Quiesce}
use Rattle.pool_model.specs.declared.step.Reply.TheVariants.{Quiesced}
use Rattle.pool_model.specs.View.{is_held, waiting_after}
use Rattle.pool_model.specs.Flow.{opened, waiting_in, FlowStep}
use Rattle.pool_model.proofs.SoundFlows.{sound_flow}
use Rattle.txg_pipeline.proofs.Carrying.{quiescing_is, waits_open}
use Rattle.txg_pipeline.proofs.pipeline.Pipeline.mark_quiesced.Goals as goal

pub returns-clause-quiesced : goal.returns-clause-quiesced
returns-clause-quiesced c = λ f k.
    let some : f.waiting ≡ Some Quiescing = sym k.waiting ∙ quiescing_is c.args.self.now.waiting (sym c.may_be_held.ensures ∙ c.if-not-may_be_held.false) in
    let same : c.waiting_number-group.result ≡ waiting_in f = c.waiting_number-group.ensures ∙ (λ i. waiting_after (k.committed i) (k.syncing i)) in
    let free : is_held (waiting_in f) f.holds ≡ false = (λ i. is_held (sym same i) (sym k.holds i)) ∙ (ap (is_held c.waiting_number-group.result) (sym c.deref.ensures.value) ∙ (sym c.is_group_held.ensures ∙ c.if-is_group_held.false)) in
    let open_is : opened f ≡ suc (waiting_in f) = waits_open f (Some Quiescing) some refl in
    let moves : FlowStep f Quiesce (Quiesced c.waiting_number-group.result) (record f { waiting = Some QuiescedStage }) = (some, free, same, refl) in (
      record f { waiting = Some QuiescedStage },
      moves,
      record {
        sound = sound_flow f Quiesce (Quiesced c.waiting_number-group.result) _ k.sound moves;
        committed = k.committed;
        syncing = k.syncing;
        waiting = refl;
        holds = k.holds;
        next = k.next;
        accepting = k.accepting ∙ ap f.ledger open_is;
        waited = λ _. k.waited (ap is_some some);
        synced = k.synced;
      },
    )
