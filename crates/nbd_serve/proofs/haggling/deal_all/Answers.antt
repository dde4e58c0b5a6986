use Rattle.std.proofs.Common.{◌≡◌, subst}
use Rattle.nbd_serve.specs.Dealings.{IsDealtWith}
use Rattle.nbd_serve.specs.declared.course.Course.TheVariants.{GoesOn}
use Rattle.std.proofs.lemmas.Result.{err_from_is_err_and}
use Rattle.nbd_serve.proofs.Dealing.{deals_more, deals_none, deals_short}
use Rattle.nbd_serve.proofs.haggling.deal_all.Goals as goal

pub loop-init : goal.loop-init
loop-init g c = deals_none c.args.export.now c.args.no_zeroes (g.R.Read.remaining c.args.input.now) (g.W.Write.contents c.args.output.now)

pub returns-in_err-course : goal.returns-in_err-course
returns-in_err-course g c =
    let p = err_from_is_err_and c.from_residual.result c.from_residual.ensures.1 in
    rw (p.1, p.2)
    (deals_short c.args.export.now c.args.no_zeroes c.in_err-course.field-0.0 (g.R.Read.remaining c.args.input.now) (g.R.Read.remaining c.loop.input) (g.R.Read.remaining c.deal_one.new.input)
    (g.W.Write.contents c.args.output.now) (g.W.Write.contents c.loop.output) (g.W.Write.contents c.deal_one.new.output) c.loop.invariant c.in_err-course.ensures)

pub loop-preserved : goal.loop-preserved
loop-preserved g c =
    let export = c.args.export.now in
    let no_zeroes = c.args.no_zeroes in
    let left = g.R.Read.remaining c.loop.input in
    let further = g.R.Read.remaining c.deal_one.new.input in
    let written = g.W.Write.contents c.loop.output in
    let sent = g.W.Write.contents c.deal_one.new.output in
    let course : c.in_ok-course.course ≡ GoesOn = c.goes_on.ensures.0 c.if-not-goes_on.false in
    deals_more export no_zeroes (g.R.Read.remaining c.args.input.now) left further (g.W.Write.contents c.args.output.now) written sent c.loop.invariant
    (subst (IsDealtWith export no_zeroes left further written sent) course c.in_ok-course.ensures)
