use Rattle.std.proofs.Common.{arith, refl, subst}
use Rattle.pool_model.specs.declared.step.Step.TheVariants.{Read}
use Rattle.pool_steps.specs.Goes.{Goes}
use Rattle.volume_device.specs.Causes.{reading}
use Rattle.volume_device.proofs.Holding.{caused_at}
use Rattle.volume_device.proofs.Reading.{not_read_leads}
use Rattle.volume_device.proofs.device.Device.read_piece.Goals as goal

pub returns-in_default-reply : goal.returns-in_default-reply
returns-in_default-reply g c =
    let p = g.P.PoolSteps in
    let old = c.args.self.now in
    let taken = c.take_step-reply in
    let goes = subst (λ name. Goes p.represents p.answers_tell p.links old.core (Read name c.args.offset c.args.len) taken.result taken.new.self) c.in-Ok.ensures taken.ensures.goes in record {
      follows = taken.ensures.follows;
      kept = refl;
      read = tt;
      refused = not_read_leads p old taken.new.self c.args.offset c.args.len taken.result goes;
      caused = caused_at p g.met.P.PoolSteps.came_from_itself (reading old.name c.args.offset c.args.len) old taken.new.self (Read old.name c.args.offset c.args.len) taken.result c.cause_of.result c.cause_of.ensures (refl, omega arith, omega arith) goes;
    }
