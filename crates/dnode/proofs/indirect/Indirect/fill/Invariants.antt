use Rattle.std.proofs.Common.{◌≡◌, ◌^◌, ◌<◌, take}
use Rattle.dnode.specs.Indirect.{total_fill}
use Rattle.dnode.proofs.indirect.Indirect.fill.Given as goal

abbrev pub invariant-loop-pointer : goal.invariant-loop-pointer
invariant-loop-pointer l = (l.fill ≡ total_fill (take l.pointer-index l.pointer-items)) × (l.fill < 2 ^ 64)
