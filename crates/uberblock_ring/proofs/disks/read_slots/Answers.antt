use Rattle.std.proofs.Common.{◌∙◌, ◌+◌, arith, refl}
use Rattle.std.proofs.lemmas.List.{length-set}
use Rattle.uberblock_ring.proofs.Scans.{none_read, one_more, one_failed, stops_there}
use Rattle.uberblock_ring.proofs.disks.read_slots.Goals as goal

pub loop-number-init : goal.loop-number-init
loop-number-init g c = (refl, omega (arith, c.in_ok-found.ensures.len, c.in_ok-found.found.ok.0), none_read c.args.disks.now c.args.which c.in_ok-found.found.items)

pub returns-in_err-found-2-clause-calls : goal.returns-in_err-found-2-clause-calls
returns-in_err-found-2-clause-calls g c =
    let failed = one_failed c.args.disks.now c.loop-number.disks c.read_slot.new.disks c.args.which c.loop-number.number c.loop-number.found.items c.in_err-found-2.field-0.0 c.loop-number.invariant.2 c.loop-number.invariant.0 c.in_err-found-2.ensures.calls in
    stops_there c.args.disks.now c.read_slot.new.disks c.args.which c.loop-number.number c.from_residual-in_err-found-2.result c.from_residual-in_err-found-2.ensures.1 c.loop-number-test.true failed

pub loop-number-preserved : goal.loop-number-preserved
loop-number-preserved g c =
    let n = c.loop-number.number in
    let more = one_more c.args.disks.now c.loop-number.disks c.read_slot.new.disks c.args.which n (n + 1) c.loop-number.found.items c.in_ok-found-2.field-0 c.loop-number.invariant.2 c.loop-number.invariant.0
    (omega (arith, c.loop-number-test.true, c.loop-number.invariant.1)) c.in_ok-found-2.ensures.calls (omega arith) in
    (c.in_ok-found-2.ensures.starts ∙ c.loop-number.invariant.0, length-set c.loop-number.found.items n c.in_ok-found-2.field-0 ∙ c.loop-number.invariant.1, more)
