use Rattle.std.proofs.Common.{◌≡◌, ◌+◌, [], ◌∷◌, ◌++◌, true, false, Some, sym, ◌∙◌, length-append, arith}
use Rattle.programs.specs.Answers.{next_of}
use Rattle.programs.specs.Stops.{count_moved}
use Rattle.programs.proofs.Leading.{leads_more}
use Rattle.programs.proofs.Points.{counts_more}
use Rattle.programs.proofs.stopping.run_to.Goals as goal
use Rattle.programs.proofs.stopping.run_to.Goals.{then-is_moved+else-left-eq0, else-is_moved}

pub loop-preserved : goal.loop-preserved
loop-preserved g c =
    let follows : next_of c.loop.reply ≡ Some c.in-Some.step = cc in
    let so_far = c.loop.invariant in
    let one_more = length-append so_far.0 (c.loop.reply ∷ []) in
    let left : count_moved c.args.point.phase (so_far.0 ++ c.loop.reply ∷ []) + c.if-is_moved.left ≡ c.args.point.before = elim c.if-is_moved.branch [
      | then-is_moved+else-left-eq0 w ↦
          let more = counts_more c.args.point.phase so_far.0 c.loop.reply true (sym c.is_moved.ensures ∙ w.if-is_moved.true) in
          omega (arith, more, so_far.3, w.left-is, w.if-left-eq0.false)
      | else-is_moved w ↦
          let more = counts_more c.args.point.phase so_far.0 c.loop.reply false (sym c.is_moved.ensures ∙ w.if-is_moved.false) in
          omega (arith, more, so_far.3, w.left-is)
    ] in (
      so_far.0 ++ c.loop.reply ∷ [],
      leads_more g.P.StepMachine.steps so_far.0 c.args.pool.now c.loop.pool c.step-reply-in-loop.new.self c.args.step c.in-Some.step c.loop.reply c.step-reply-in-loop.result so_far.1 follows c.step-reply-in-loop.ensures,
      omega (arith, one_more, so_far.2),
      left,
    )
