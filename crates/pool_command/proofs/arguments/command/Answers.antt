use Rattle.pool_command.proofs.Apps.{more}
use Rattle.pool_command.proofs.arguments.command.Goals as goal

pub loop-place-preserved : goal.loop-place-preserved
loop-place-preserved c =
    let table = c.args.table.now in
    more table.name.now table.places.now c.loop-place.place-index _ _ c.loop-place.command c.in_ok-command.command c.loop-place-test.true c.argument.ensures.rule c.loop-place.invariant c.in_ok-command.ensures
