use Rattle.std.proofs.Common.{map, take}
use Rattle.pool_command.specs.Words.{IsOfApp, leaf_app}
use Rattle.pool_command.specs.Tabled.{place_rule}
use Rattle.pool_command.proofs.arguments.command.Given as goal

abbrev pub invariant-loop-place : goal.invariant-loop-place
invariant-loop-place l = IsOfApp (leaf_app l.table.name.now (map place_rule (take l.place-index l.table.places.now))) l.command
