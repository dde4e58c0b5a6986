use Rattle.pool_model.specs.declared.step.Step.TheVariants as steps
use Rattle.shared_pool.specs.History.{Takes}
use Rattle.shared_pool.specs.Hinders.{HindersStep}
use Rattle.shared_pool.specs.Moments.{WasTaken, WasHindered}
use Rattle.shared_pool.proofs.Results.{if_ok_weaker, if_err_weaker}
use Rattle.shared_pool.proofs.pool.SharedPool.plan_with.Goals as goal

pub returns-clause-answered : goal.returns-clause-answered
returns-clause-answered g c =
    let old = c.deref_mut.result.now in
    let new = c.plan_with.new.self in
    let called = c.plan_with.ensures in (
      if_ok_weaker (λ reply. Takes g.C.PoolSteps old (steps.Plan c.args.timestamp) reply new) (WasTaken g.C.PoolSteps (steps.Plan c.args.timestamp)) c.plan_with.result
          (λ reply taken. record { old = old; new = new; before = called.before; taken = taken; after = called.after }) called.taken,
      if_err_weaker (λ refusal. HindersStep (steps.Plan c.args.timestamp) refusal old) (WasHindered g.C.PoolSteps (steps.Plan c.args.timestamp)) c.plan_with.result
          (λ refusal hindered. record { old = old; before = called.before; hindered = hindered }) called.hindered,
    )
