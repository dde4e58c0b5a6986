use Rattle.std.proofs.Common.{Result, subst}
use Rattle.pool_command.specs.declared.command.ZfsCommand.{ZfsCommand}
use Rattle.pool_command.specs.Causes.{Cause, Gives}
use Rattle.pool_command.specs.Words.{zfs_app}
use Rattle.pool_command.proofs.Found.{zfs_simple, zfs_some, zfs_none, zfs_fails, named_none, named_some}
use Rattle.pool_command.proofs.Passing.{passed_on}
use Rattle.pool_command.proofs.reading.zfs_of.Goals as goal

pub returns-in_err-matches : goal.returns-in_err-matches
returns-in_err-matches c =
    passed_on _ c.from_residual-in_err-matches.result _ _ c.from_residual-in_err-matches.ensures.1 (zfs_fails _ _ (c.in_err-matches.ensures zfs_app c.in_ok-zfs.ensures zfs_simple))

pub returns-in_default : goal.returns-in_default
returns-in_default c =
    zfs_none _ c.in_ok-matches.matches (c.in_ok-matches.ensures zfs_app c.in_ok-zfs.ensures zfs_simple) (named_none _ c.named.result c.named.ensures c.in_default.is)

pub returns : goal.returns
returns c =
    let found = c.in_ok-matches.ensures zfs_app c.in_ok-zfs.ensures zfs_simple in
    let named = named_some _ c.named.result _ c.named.ensures c.in-Some.is in
    subst (λ (read : Result ZfsCommand Cause). Gives (λ c'. c') c.zfs_command.result read) (zfs_some _ c.in_ok-matches.matches _ found named) c.zfs_command.ensures
