use Rattle.std.proofs.Common.{◌≡◌, ◌++◌, map, take}
use Rattle.pool_open.specs.Children.{child_of}
use Rattle.pool_open.proofs.children.add_children.Given as goal

abbrev pub invariant-loop-i : goal.invariant-loop-i
invariant-loop-i l = l.children.items ≡ l.fn.children.items ++ map (child_of l.sectors) (take l.i l.found)
