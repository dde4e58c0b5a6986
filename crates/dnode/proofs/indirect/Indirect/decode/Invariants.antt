use Rattle.dnode.proofs.PointerLists.{AreRead}
use Rattle.dnode.proofs.indirect.Indirect.decode.Given as goal

abbrev pub invariant-loop : goal.invariant-loop
invariant-loop l = AreRead l.bytes l.rest l.pointers.items l.counter
