use Rattle.std.proofs.Common.{◌≡◌, ◌+◌, suc, true, false, Some, None, inr, refl, sym, ap, ◌∙◌, arith}
use Rattle.std.specs.Prelude.{is_some, if◌then◌else◌}
use Rattle.pool_model.specs.declared.group.Stage.TheVariants.{Quiesced as QuiescedStage}
use Rattle.pool_model.specs.declared.step.Step.TheVariants.{Plan}
use Rattle.pool_model.specs.declared.step.Reply.TheVariants.{Planned}
use Rattle.pool_model.specs.Flow.{opened, waiting_in, FlowStep}
use Rattle.pool_model.proofs.SoundFlows.{sound_flow}
use Rattle.txg_pipeline.proofs.Carrying.{quiesced_is, waits_open}
use Rattle.txg_pipeline.proofs.pipeline.Pipeline.take.Goals as goal

pub returns-clause-taken : goal.returns-clause-taken
returns-clause-taken c = λ timestamp f k.
    let some : f.waiting ≡ Some QuiescedStage = sym k.waiting ∙ quiesced_is c.args.self.now.waiting (sym c.may_be_taken.ensures ∙ c.if-not-may_be_taken.false) in
    let idle : f.syncing ≡ false = sym k.syncing ∙ c.if-self.false in
    let waits_is : waiting_in f ≡ suc f.committed = rw idle refl in
    let open_is : opened f ≡ suc (suc f.committed) = waits_open f (Some QuiescedStage) some refl ∙ ap suc waits_is in
    let group : c.args.self.now.committed + 1 ≡ suc f.committed = let e = k.committed in omega arith in
    let moves : FlowStep f (Plan timestamp) (Planned (c.args.self.now.committed + 1)) (record f { syncing = true; waiting = None }) = (group, (inr some, ap (λ b. record f { syncing = true; waiting = if b then f.waiting else None }) (sym idle))) in (
      record f { syncing = true; waiting = None },
      moves,
      record {
        sound = sound_flow f (Plan timestamp) (Planned (c.args.self.now.committed + 1)) _ k.sound moves;
        committed = k.committed;
        syncing = refl;
        waiting = refl;
        holds = k.holds;
        next = k.next;
        accepting = k.accepting ∙ ap f.ledger open_is;
        waited = λ e. absurd (cc);
        synced = λ _. c.replace.ensures.value ∙ (k.waited (ap is_some some) ∙ ap f.ledger waits_is);
      },
    )
