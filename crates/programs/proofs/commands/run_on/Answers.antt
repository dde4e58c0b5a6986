use Rattle.std.proofs.Common.{◌≡◌, [], ◌∷◌, ◌++◌, Some, length-append, arith}
use Rattle.programs.specs.Answers.{next_of}
use Rattle.programs.proofs.Leading.{leads_more}
use Rattle.programs.proofs.commands.run_on.Goals as goal

pub loop-preserved : goal.loop-preserved
loop-preserved g c =
    let follows : next_of c.loop.reply ≡ Some c.in-Some.step = cc in
    let so_far = c.loop.invariant in
    let one_more = length-append so_far.0 (c.loop.reply ∷ []) in (
      so_far.0 ++ c.loop.reply ∷ [],
      leads_more g.P.StepMachine.steps so_far.0 c.args.pool.now c.loop.pool c.step-reply-in-loop.new.self c.args.step c.in-Some.step c.loop.reply c.step-reply-in-loop.result so_far.1 follows c.step-reply-in-loop.ensures,
      omega (arith, one_more, so_far.2),
    )
