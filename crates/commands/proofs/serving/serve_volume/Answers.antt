use Rattle.std.proofs.Common.{Ok, inr, refl, sym, ◌∙◌, subst}
use Rattle.commands.proofs.Sessions.{serve_stopped}
use Rattle.commands.specs.Serves.{IsServedBy}
use Rattle.commands.proofs.serving.serve_volume.Goals as goal

pub returns-in-Err-has_lost-clause-stopped : goal.returns-in-Err-has_lost-clause-stopped
returns-in-Err-has_lost-clause-stopped g c =
    let last = c.served-ended.result.1 in
    let front = c.in-Ok.opened.1 in (
      Ok tt,
      inr (refl, refl),
      (
        g.S.Pools.has_lost last front,
        record {
          pool = c.in-Ok.opened.0;
          last = last;
          front = front;
          opened = record { between = c.open.new.self; opens = c.in-Ok.ensures.opened; closes = c.close.ensures };
          lost_is = refl;
          served = subst (IsServedBy g.S.Pool.PoolSteps c.in-Ok.opened.0 last c.args.name (g.R.Read.remaining c.args.input.now) (g.R.Read.remaining c.served-ended.new.input) (g.W.Write.contents c.args.output.now) (g.W.Write.contents c.served-ended.new.output))
              c.in-Ok-ended.is c.served-ended.ensures;
        },
      ),
    )

pub returns-in-Err-ended-clause-stopped : goal.returns-in-Err-ended-clause-stopped
returns-in-Err-ended-clause-stopped g c =
    let last = c.served-ended.result.1 in
    let front = c.in-Ok.opened.1 in
    let input = g.R.Read.remaining c.args.input.now in
    let left = g.R.Read.remaining c.served-ended.new.input in
    let output = g.W.Write.contents c.args.output.now in
    let written = g.W.Write.contents c.served-ended.new.output in
    serve_stopped g.S.Pools g.S.Pool.PoolSteps c.args.pools.now c.args.files.now c.args.name input left output written c.close.new.self c.in-Err-ended.stop
    (λ ended is. (
      g.S.Pools.has_lost last front,
      record {
        pool = c.in-Ok.opened.0;
        last = last;
        front = front;
        opened = record { between = c.open.new.self; opens = c.in-Ok.ensures.opened; closes = c.close.ensures };
        lost_is = refl;
        served = subst (IsServedBy g.S.Pool.PoolSteps c.in-Ok.opened.0 last c.args.name input left output written) (c.in-Err-ended.is ∙ sym is) c.served-ended.ensures;
      },
    ))
