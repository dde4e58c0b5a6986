use Rattle.std.proofs.Common.{◌≡◌, ◌++◌, map, take}
use Rattle.pool_format.proofs.children.add_children.Given as goal

abbrev pub invariant-loop-i : goal.invariant-loop-i
invariant-loop-i l = l.children.items ≡ l.fn.children.items ++ map (λ guid. record { top_guid = l.top_guid; guid = guid }) (take l.i l.guids)
