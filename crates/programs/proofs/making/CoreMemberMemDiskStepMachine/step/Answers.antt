use Rattle.std.proofs.Common.{true, refl}
use Rattle.pool_create.specs.CoreStateOf.{state_of}
use Rattle.programs.proofs.making.CoreMemberMemDiskStepMachine.step.Goals as goal

pub returns : goal.returns
returns g c = (c.step_of-reply.ensures.grew, c.step_of-reply.ensures.moves, λ v r. c.step_of-reply.ensures.goes v true r (λ e. c.answers_are_true.ensures.tell (state_of c.args.self.now)) (λ planned. refl))
