use Rattle.std.proofs.Common.{[], inr, refl}
use Rattle.std.proofs.lemmas.Result.{err_from_is_err_and}
use Rattle.nbd_serve.proofs.Sessions.{early, has_left}
use Rattle.nbd_serve.proofs.serving.talk.Goals as goal

pub returns-in_err-haggle : goal.returns-in_err-haggle
returns-in_err-haggle g c =
    let p = err_from_is_err_and c.from_residual.result c.from_residual.ensures.1 in
    rw (p.1, p.2) (
      [],
      refl,
      inr (
        refl,
        early c.args.export.now (g.R.Read.remaining c.args.input.now) (g.R.Read.remaining c.haggle.new.input) (g.W.Write.contents c.args.output.now) (g.W.Write.contents c.haggle.new.output) c.in_err-haggle.field-0.0
            c.in_err-haggle.ensures,
      ),
    )

pub returns-then-is_left : goal.returns-then-is_left
returns-then-is_left g c = (
  [],
  refl,
  inr (
    refl,
    has_left c.args.export.now (g.R.Read.remaining c.args.input.now) (g.R.Read.remaining c.haggle.new.input) (g.W.Write.contents c.args.output.now) (g.W.Write.contents c.haggle.new.output)
        c.in_ok-haggle.field-0 c.in_ok-haggle.ensures (c.is_left.ensures.0 c.if-is_left.true),
  ),
)
