use Rattle.std.proofs.Common.{◌∙◌, ◌≡◌, ap, sym}
use Rattle.std.proofs.lemmas.Result.{err_from_is_err_and}
use Rattle.nbd_wire.specs.Requests.{request_bytes}
use Rattle.nbd_serve.proofs.Stepping.{answered_more, ends_at}
use Rattle.nbd_serve.proofs.transmission.transmit.Goals as goal

pub returns-in_err-answer_one : goal.returns-in_err-answer_one
returns-in_err-answer_one g c =
    let p = err_from_is_err_and c.from_residual-in_err-answer_one.result c.from_residual-in_err-answer_one.ensures.1 in
    rw (p.1, p.2)
    (ends_at g.P.PoolSteps c.args.export.now c.args.device.now c.loop.device c.answer_one.new.device (g.R.Read.remaining c.args.input.now) (g.R.Read.remaining c.loop.input) (g.R.Read.remaining c.read_head.new.input)
    (g.R.Read.remaining c.answer_one.new.input) (g.W.Write.contents c.args.output.now) (g.W.Write.contents c.loop.output) (g.W.Write.contents c.answer_one.new.output) c.loop.invariant c.in-Some-decode_request.head c.in-Some.bytes
    (rw c.in-Some.is at c.in_ok-bytes.ensures.read) c.in-Some-decode_request.ensures c.in_err-answer_one.field-0.0 c.in_err-answer_one.ensures)

pub loop-preserved : goal.loop-preserved
loop-preserved g c =
    let step = c.in_ok-answer_one.ensures in
    let e = step.answered.exchange in
    let is : c.in-Some.bytes ≡ request_bytes e.head = c.in-Some-decode_request.ensures.bytes_are ∙ ap request_bytes (sym step.answered.head_is) in
    answered_more g.P.PoolSteps c.args.export.now c.args.device.now c.loop.device c.answer_one.new.device (g.R.Read.remaining c.args.input.now) (g.R.Read.remaining c.loop.input) (g.R.Read.remaining c.read_head.new.input)
    (g.R.Read.remaining c.answer_one.new.input) (g.W.Write.contents c.args.output.now) (g.W.Write.contents c.loop.output) c.loop.invariant e c.in-Some.bytes
    (rw c.in-Some.is at c.in_ok-bytes.ensures.read) is step.answered.consumed (g.W.Write.contents c.answer_one.new.output) step.answered.answers step.sent
