use Rattle.std.proofs.Common.{refl, subst}
use Rattle.pool_model.specs.declared.step.Step.TheVariants.{Hold}
use Rattle.pool_model.specs.declared.step.Reply.{Reply}
use Rattle.pool_steps.specs.Goes.{Goes}
use Rattle.volume_device.specs.Causes.{writing}
use Rattle.volume_device.proofs.Holding.{caused_at, hold_leads, not_held_leads}
use Rattle.volume_device.proofs.device.Device.hold.Goals as goal

pub returns-in-Held-clause-same : goal.returns-in-Held-clause-same
returns-in-Held-clause-same g c =
    let p = g.P.PoolSteps in
    let old = c.args.self.now in
    let taken = c.take_step-reply in
    hold_leads p g.met.P.PoolSteps.is_sound old taken.new.self c.in-Held.field-0 c.requires c.if-self.false
    (subst (λ (r : Reply). Goes p.represents p.answers_tell p.links old.core (Hold 1) r taken.new.self) c.in-Held.is taken.ensures.goes)

pub returns : goal.returns
returns g c =
    let p = g.P.PoolSteps in
    let old = c.args.self.now in
    let taken = c.take_step-reply in record {
      follows = taken.ensures.follows;
      same = not_held_leads p old taken.new.self taken.result c.in_default.not-Held taken.ensures.goes;
      held = tt;
      not_held = refl;
      caused = λ name offset bytes. caused_at p g.met.P.PoolSteps.came_from_itself (writing name offset bytes) old taken.new.self (Hold 1) taken.result c.cause_of.result c.cause_of.ensures refl taken.ensures.goes;
    }
