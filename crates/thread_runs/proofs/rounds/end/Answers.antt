use Rattle.thread_runs.proofs.Printed.{on_ok, prints_one, prints_more}
use Rattle.thread_runs.proofs.rounds.end.Goals as goal

pub returns : goal.returns
returns g c =
    let old = g.W.Write.contents c.args.output.now in
    let one = g.W.Write.contents c.commit_all.new.output in
    let two = g.W.Write.contents c.take_all.new.output in
    let new = g.W.Write.contents c.print_record.new.output in
    let upto_two = prints_more g.C.PoolSteps old one two c.in_ok-commit_all.ensures.printed c.in_ok-take_all.ensures.printed in
    on_ok c.print_record.result _ _ (λ printed. prints_more g.C.PoolSteps old two new upto_two (prints_one g.C.PoolSteps two new printed)) c.print_record.ensures.printed
