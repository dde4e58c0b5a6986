use Rattle.thread_runs.proofs.Printed.{on_ok, prints_more}
use Rattle.thread_runs.proofs.rounds.run_in_threads.Goals as goal

pub returns : goal.returns
returns g c =
    let old = g.W.Write.contents c.args.output.now in
    let between = g.W.Write.contents c.play_on.new.output in
    let new = g.W.Write.contents c.end.new.output in
    on_ok c.end.result _ _ (λ printed. prints_more g.C.PoolSteps old between new c.in_ok-recorded.ensures.printed printed) c.end.ensures
