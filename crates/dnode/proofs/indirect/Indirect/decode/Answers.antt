use Rattle.std.proofs.Common.{arith}
use Rattle.dnode.proofs.PointerLists.{reading_goes_on, reading_stops}
use Rattle.dnode.proofs.indirect.Indirect.decode.Goals as goal

pub returns-in_err-pointer-clause-bad : goal.returns-in_err-pointer-clause-bad
returns-in_err-pointer-clause-bad c = λ _.
    reading_stops c.args.bytes.now c.loop.rest.now c.loop.pointers.items c.loop.counter c.loop.invariant (omega arith) (λ p more fits parts. absurd (c.in_err-pointer.ensures.only p more fits parts))

pub loop-preserved : goal.loop-preserved
loop-preserved c =
    let next = reading_goes_on c.args.bytes.now c.loop.rest.now c.in_ok-pointer.after.now c.loop.pointers.items c.loop.counter c.in_ok-pointer.pointer c.loop.invariant (omega arith) c.in_ok-pointer.ensures.fits c.in_ok-pointer.ensures.found c.in_ok-pointer.ensures.only in
    rw c.in_ok-push.ensures.items next
