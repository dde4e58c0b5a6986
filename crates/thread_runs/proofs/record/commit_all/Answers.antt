use Rattle.thread_runs.proofs.Printed.{on_ok, prints_more}
use Rattle.thread_runs.proofs.record.commit_all.Goals as goal

pub returns-clause-printed : goal.returns-clause-printed
returns-clause-printed g c =
    let old = g.W.Write.contents c.args.output.now in
    let one = g.W.Write.contents c.take_on.new.output in
    let two = g.W.Write.contents c.take_on-2.new.output in
    let three = g.W.Write.contents c.take_on-3.new.output in
    let upto_two = prints_more g.C.PoolSteps old one two c.in_ok-take_on.ensures.printed c.in_ok-take_on-2.ensures.printed in
    let upto_three = prints_more g.C.PoolSteps old two three upto_two c.in_ok-take_on-3.ensures.printed in
    on_ok c.take_on-4.result _ _ (λ printed. prints_more g.C.PoolSteps old three (g.W.Write.contents c.take_on-4.new.output) upto_three printed) c.take_on-4.ensures.printed
