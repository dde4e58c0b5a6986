use Rattle.std.proofs.Common.{map, take}
use Rattle.pool_command.specs.Words.{IsOfApp, program_app}
use Rattle.pool_command.specs.Tabled.{command_app}
use Rattle.pool_command.proofs.arguments.program.Given as goal

abbrev pub invariant-loop-below : goal.invariant-loop-below
invariant-loop-below l = IsOfApp (program_app l.table.name.now (map (λ command. (command_app command).top) (take l.below-index l.table.commands.now))) l.program
