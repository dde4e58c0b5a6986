use Rattle.std.proofs.Common.{◌∙◌}
use Rattle.thread_runs.proofs.Printed.{prints_one, prints_more}
use Rattle.thread_runs.proofs.rounds.play_on.Goals as goal

pub loop-preserved : goal.loop-preserved
loop-preserved g c =
    let old = g.W.Write.contents c.args.output.now in
    let between = g.W.Write.contents c.loop.output in
    let new = g.W.Write.contents c.print_record.new.output in
    record {
      printed = prints_more g.C.PoolSteps old between new c.loop.invariant.printed (prints_one g.C.PoolSteps between new c.in_ok-print_record.ensures.printed);
      parts = c.print_record.ensures.parts ∙ (c.in_ok-played.ensures.parts ∙ c.loop.invariant.parts);
      len = c.in_ok-played.ensures.len ∙ c.loop.invariant.len;
    }
