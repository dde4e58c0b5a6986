use Rattle.std.proofs.Common.{◌≡◌, drop}
use Rattle.nvlist.specs.View.{pairs_view}
use Rattle.nvlist.specs.Find.{find}
use Rattle.nvlist.proofs.list.value_of.Given as goal

abbrev pub invariant-loop-pair : goal.invariant-loop-pair
invariant-loop-pair l = find l.name (pairs_view (drop l.pair-index l.pairs)) ≡ find l.name (pairs_view l.pairs)
