use Rattle.pool_core.proofs.pool.Core.rows.Goals as goal

pub returns : goal.returns
returns g c = λ v represents. c.in_ok-rows.ensures v represents.follows
