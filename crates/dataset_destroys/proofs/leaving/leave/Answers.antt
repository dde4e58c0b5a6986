use Rattle.dataset_destroys.proofs.HeadFinding.{left_behind}
use Rattle.dataset_destroys.proofs.leaving.leave.Goals as goal

pub returns-clause-value : goal.returns-clause-value
returns-clause-value c = λ objects over placed.
    let place = c.args.place.now in
    let first = c.in_ok-leave_origin.ensures.value objects over placed.before_is in
    left_behind objects c.args.changes.now c.leave_origin.new.changes c.take_out.new.changes place.number place.gone.previous place.before first
    (c.in_ok-take_out.ensures.value objects _ first.over (first.stay place.number place.gone placed.gone_is.has))
