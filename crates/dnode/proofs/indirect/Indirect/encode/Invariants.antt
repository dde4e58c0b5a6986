use Rattle.std.proofs.Common.{◌≡◌, take}
use Rattle.dnode.specs.Indirect.{indirect_bytes}
use Rattle.dnode.proofs.indirect.Indirect.encode.Given as goal

abbrev pub invariant-loop-pointer : goal.invariant-loop-pointer
invariant-loop-pointer l = l.bytes.items ≡ indirect_bytes (take l.pointer-index l.pointer-items)
