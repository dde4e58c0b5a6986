use Rattle.std.proofs.Common.{Result, subst}
use Rattle.pool_command.specs.declared.command.ZpoolCommand.{ZpoolCommand}
use Rattle.pool_command.specs.Causes.{Cause, Gives}
use Rattle.pool_command.specs.Words.{zpool_app}
use Rattle.pool_command.proofs.Found.{zpool_simple, zpool_some, zpool_none, zpool_fails, named_none, named_some}
use Rattle.pool_command.proofs.Passing.{passed_on}
use Rattle.pool_command.proofs.reading.zpool_of.Goals as goal

pub returns-in_err-matches : goal.returns-in_err-matches
returns-in_err-matches c =
    passed_on _ c.from_residual-in_err-matches.result _ _ c.from_residual-in_err-matches.ensures.1 (zpool_fails _ _ (c.in_err-matches.ensures zpool_app c.in_ok-zpool.ensures zpool_simple))

pub returns-in_default : goal.returns-in_default
returns-in_default c =
    zpool_none _ c.in_ok-matches.matches (c.in_ok-matches.ensures zpool_app c.in_ok-zpool.ensures zpool_simple) (named_none _ c.named.result c.named.ensures c.in_default.is)

pub returns : goal.returns
returns c =
    let found = c.in_ok-matches.ensures zpool_app c.in_ok-zpool.ensures zpool_simple in
    let named = named_some _ c.named.result _ c.named.ensures c.in-Some.is in
    subst (λ (read : Result ZpoolCommand Cause). Gives (λ c'. c') c.zpool_command.result read) (zpool_some _ c.in_ok-matches.matches _ found named) c.zpool_command.ensures
