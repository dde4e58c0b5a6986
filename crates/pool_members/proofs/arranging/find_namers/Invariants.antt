use Rattle.std.proofs.Common.{take}
use Rattle.pool_members.proofs.Naming.{AreSo}
use Rattle.pool_members.proofs.arranging.find_namers.Given as goal

-- the children so far
abbrev pub invariant-loop-index : goal.invariant-loop-index
invariant-loop-index l = AreSo l.count (take l.index l.children) l.namers.items
