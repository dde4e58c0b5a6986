use Rattle.std.proofs.Common.{Ok, inr, refl, sym, ◌∙◌, subst}
use Rattle.commands.proofs.Wholes.{not_filled}
use Rattle.commands.specs.Streams.{IsFilledFrom}
use Rattle.commands.proofs.streaming.write_all.Goals as goal

pub returns-in-Err-has_lost-clause-stopped : goal.returns-in-Err-has_lost-clause-stopped
returns-in-Err-has_lost-clause-stopped g c =
    let last = c.filled-ended.result.1 in
    let front = c.in-Ok.opened.1 in
    let input = g.R.Read.remaining c.args.input.now in (
      Ok tt,
      inr (refl, refl),
      (
        g.S.Pools.has_lost last front,
        record {
          pool = c.in-Ok.opened.0;
          last = last;
          front = front;
          opened = record { between = c.open.new.self; opens = c.in-Ok.ensures.opened; closes = c.close.ensures };
          lost_is = refl;
          filled = subst (IsFilledFrom g.S.Pool.PoolSteps c.in-Ok.opened.0 last c.args.name input) c.in-Ok-ended.is c.filled-ended.ensures;
        },
      ),
    )

pub returns-in-Err-ended-clause-stopped : goal.returns-in-Err-ended-clause-stopped
returns-in-Err-ended-clause-stopped g c =
    let last = c.filled-ended.result.1 in
    let front = c.in-Ok.opened.1 in
    let input = g.R.Read.remaining c.args.input.now in
    not_filled g.S.Pools g.S.Pool.PoolSteps c.args.pools.now c.args.files.now c.args.name input c.close.new.self c.in-Err-ended.stop
    (λ ended is. (
      g.S.Pools.has_lost last front,
      record {
        pool = c.in-Ok.opened.0;
        last = last;
        front = front;
        opened = record { between = c.open.new.self; opens = c.in-Ok.ensures.opened; closes = c.close.ensures };
        lost_is = refl;
        filled = subst (IsFilledFrom g.S.Pool.PoolSteps c.in-Ok.opened.0 last c.args.name input) (c.in-Err-ended.is ∙ sym is) c.filled-ended.ensures;
      },
    ))
