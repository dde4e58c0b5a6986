use Rattle.std.proofs.Common.{◌≡◌, ◌+◌, suc, true, refl, sym, ap, ◌∙◌, arith}
use Rattle.pool_model.specs.declared.step.Step.TheVariants.{Device}
use Rattle.pool_model.specs.declared.step.Reply.TheVariants.{Committed}
use Rattle.pool_model.specs.Flow.{opened, waiting_in, with_committed, FlowStep}
use Rattle.pool_model.proofs.SoundFlows.{sound_flow}
use Rattle.txg_pipeline.proofs.pipeline.Pipeline.committed.Goals as goal

pub returns-clause-committed : goal.returns-clause-committed
returns-clause-committed c = λ f k.
    let busy : f.syncing ≡ true = sym k.syncing ∙ c.if-not-self.false in
    let group : c.args.self.now.committed + 1 ≡ suc f.committed = let e = k.committed in omega arith in
    let open_is : opened f ≡ opened (with_committed f) = rw busy refl in
    let waits_is : waiting_in f ≡ waiting_in (with_committed f) = rw busy refl in
    let moves : FlowStep f Device (Committed (c.args.self.now.committed + 1)) (with_committed f) = (busy, group, refl) in (
      with_committed f,
      moves,
      record {
        sound = sound_flow f Device (Committed (c.args.self.now.committed + 1)) _ k.sound moves;
        committed = group;
        syncing = refl;
        waiting = k.waiting;
        holds = k.holds;
        next = k.next;
        accepting = k.accepting ∙ ap f.ledger open_is;
        waited = λ e. k.waited e ∙ ap f.ledger waits_is;
        synced = λ e. absurd (cc);
      },
    )
