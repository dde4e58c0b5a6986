use Rattle.std.proofs.Common.{◌≡◌, ◌<◌, suc, Some, None, refl, sym, ap, ◌∙◌, arith}
use Rattle.pool_model.specs.declared.group.Stage.TheVariants.{Quiescing}
use Rattle.pool_model.specs.declared.step.Step.TheVariants.{Close}
use Rattle.pool_model.specs.declared.step.Reply.TheVariants.{Closed}
use Rattle.pool_model.specs.Refusals.{greatest}
use Rattle.pool_model.specs.Flow.{opened, waiting_in, FlowStep}
use Rattle.pool_model.proofs.SoundFlows.{sound_flow}
use Rattle.txg_pipeline.proofs.Carrying.{none_is, none_open, opened_is, may_close}
use Rattle.txg_pipeline.proofs.pipeline.Pipeline.close_open.Goals as goal

pub invariant_of-self : goal.invariant_of-self
invariant_of-self c = record { ends = may_close c.args.self.now.committed c.args.self.now.syncing c.args.self.now.waiting c.open_number-closing.result (sym c.is_some.ensures ∙ c.if-is_some.false) c.open_number-closing.ensures (let h = c.if-closing-ge-GREATEST.false in omega arith) }

pub returns-clause-closed : goal.returns-clause-closed
returns-clause-closed c = λ f k.
    let none : f.waiting ≡ None = sym k.waiting ∙ none_is c.args.self.now.waiting (sym c.is_some.ensures ∙ c.if-is_some.false) in
    let same : c.open_number-closing.result ≡ opened f = c.open_number-closing.ensures ∙ opened_is f _ _ _ k.committed k.syncing k.waiting in
    let lt : opened f < greatest = (let h = c.if-closing-ge-GREATEST.false in omega arith) in
    let moves : FlowStep f Close (Closed c.open_number-closing.result) (record f { waiting = Some Quiescing }) = (none, lt, same, refl) in (
      record f { waiting = Some Quiescing },
      moves,
      record {
        sound = sound_flow f Close (Closed c.open_number-closing.result) _ k.sound moves;
        committed = k.committed;
        syncing = k.syncing;
        waiting = refl;
        holds = k.holds;
        next = k.next;
        accepting = c.replace.ensures.after ∙ (c.new.ensures ∙ sym (k.sound.beyond (suc (waiting_in f)) (let e = none_open f none in omega arith)));
        waited = λ _. c.replace.ensures.value ∙ (k.accepting ∙ ap f.ledger (none_open f none));
        synced = k.synced;
      },
    )
