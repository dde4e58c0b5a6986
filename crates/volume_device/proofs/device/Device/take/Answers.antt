use Rattle.std.proofs.Common.{arith, refl, subst}
use Rattle.pool_model.specs.declared.step.Step.TheVariants.{Write as WriteStep}
use Rattle.pool_model.specs.declared.step.Reply.{Reply}
use Rattle.pool_steps.specs.Goes.{Goes}
use Rattle.volume_device.specs.Causes.{writing}
use Rattle.volume_device.proofs.Holding.{caused_at, next_number, not_taken_leads, still_some, take_leads}
use Rattle.volume_device.proofs.device.Device.take.Goals as goal

pub returns-in-Receipt-clause-written : goal.returns-in-Receipt-clause-written
returns-in-Receipt-clause-written g c =
    let p = g.P.PoolSteps in
    let old = c.args.self.now in
    let x = c.args.write in
    let taken = c.take_step-reply in
    take_leads p g.met.P.PoolSteps.is_sound old taken.new.self x c.in-Receipt.field-0 c.saturating_add-self.result c.saturating_add-self-in-Receipt.result c.requires.goes_on c.requires.held c.requires.numbered.0 c.requires.numbered.1
    (λ below. next_number old.number c.saturating_add-self.result below c.saturating_add-self.ensures)
    (still_some old.pending c.len-len.result c.saturating_add-self-in-Receipt.result c.saturating_add-self-in-Receipt.ensures (omega (arith, c.len-len.ensures, c.requires.some)))
    (subst (λ (r : Reply). Goes p.represents p.answers_tell p.links old.core (WriteStep x) r taken.new.self) c.in-Receipt.is taken.ensures.goes)

pub returns : goal.returns
returns g c =
    let p = g.P.PoolSteps in
    let old = c.args.self.now in
    let x = c.args.write in
    let taken = c.take_step-reply in record {
      follows = taken.ensures.follows;
      name = refl;
      goes_on = c.requires.goes_on;
      written = tt;
      refused = not_taken_leads p old taken.new.self x taken.result c.in_default.not-Receipt taken.ensures.goes;
      caused = caused_at p g.met.P.PoolSteps.came_from_itself (writing x.volume x.offset x.bytes) old taken.new.self (WriteStep x) taken.result c.cause_of.result c.cause_of.ensures
          (c.requires.numbered.0, refl, omega arith, omega arith) taken.ensures.goes;
    }
