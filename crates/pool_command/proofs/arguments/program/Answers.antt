use Rattle.pool_command.proofs.Apps.{more_above}
use Rattle.pool_command.proofs.arguments.program.Goals as goal

pub loop-below-preserved : goal.loop-below-preserved
loop-below-preserved c =
    let table = c.args.table.now in
    more_above table.name.now table.commands.now c.loop-below.below-index _ c.loop-below.program c.in_ok-command.field-0 c.in_ok-program.program c.loop-below-test.true c.loop-below.invariant c.in_ok-command.ensures c.in_ok-program.ensures
