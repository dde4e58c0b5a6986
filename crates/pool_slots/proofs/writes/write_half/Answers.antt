use Rattle.std.proofs.Common.{◌≡◌, ◌+◌, ℕ, List, ◌∷◌, length, inl, refl, subst, arith}
use Rattle.model_disk.specs.Call.{write_call}
use Rattle.model_disk.specs.Joint.{on, bytes_of}
use Rattle.pool_slots.proofs.Failing.{failure_later}
use Rattle.uberblock_ring.specs.Slot.{slot_number}
use Rattle.pool_slots.specs.Failures.{IsFailure}
use Rattle.pool_slots.proofs.Results.{if_err_is}
use Rattle.pool_slots.specs.Slots.{spelled, slot_at}
use Rattle.pool_slots.specs.Writes.{IsSlotWrite, in_half_of}
use Rattle.pool_slots.proofs.Same.{slot_call, slot_wrote}
use Rattle.pool_slots.proofs.Writing.{makes_slot, half_makes, half_stands}
use Rattle.pool_slots.proofs.writes.write_half.Goals as goal

pub returns-in_err-write_slot-clause-makes : goal.returns-in_err-write_slot-clause-makes
returns-in_err-write_slot-clause-makes g c =
    let u = c.args.uberblock.now in
    let old = c.args.disks.now in
    let mid = c.write_slot.new.disks in
    makes_slot c.write_slot.result old.starts u (in_half_of c.args.which c.args.half) old mid c.args.which c.args.half
    (omega (arith, c.requires.half)) (refl, inl refl) c.write_slot.ensures.starts (slot_call c.write_slot.result old mid c.args.which (length (bytes_of old.starts c.args.which)) c.args.half u c.write_slot.ensures.call)

pub returns-in_err-write_slot-clause-fault : goal.returns-in_err-write_slot-clause-fault
returns-in_err-write_slot-clause-fault g c =
    let u = c.args.uberblock.now in
    let old = c.args.disks.now in
    let mid = c.write_slot.new.disks in
    if_err_is c.from_residual.result c.in_err-write_slot.field-0.0 (IsFailure old mid) c.from_residual.ensures.1 c.in_err-write_slot.ensures.fault

pub returns-clause-makes : goal.returns-clause-makes
returns-clause-makes g c =
    let u = c.args.uberblock.now in
    let old = c.args.disks.now in
    let mid = c.write_slot.new.disks in
    let new = c.write_slot-2.new.disks in
    half_makes c.write_slot.result c.write_slot-2.result u old mid new c.args.which c.args.half c.requires.half
    c.write_slot.ensures.starts c.write_slot-2.ensures.starts
    (slot_call c.write_slot.result old mid c.args.which (length (bytes_of old.starts c.args.which)) c.args.half u c.write_slot.ensures.call)
    (slot_call c.write_slot-2.result mid new c.args.which (length (bytes_of mid.starts c.args.which)) (c.args.half + 2) u c.write_slot-2.ensures.call)

pub returns-clause-stand : goal.returns-clause-stand
returns-clause-stand g c =
    let u = c.args.uberblock.now in
    let old = c.args.disks.now in
    let mid = c.write_slot.new.disks in
    let new = c.write_slot-2.new.disks in
    let P : List (List ℕ) → Type 0 = λ starts. new.calls
    ≡ on c.args.which (write_call c.write_slot-2.result (slot_at (length (bytes_of starts c.args.which)) (c.args.half + 2) (slot_number u.group)) (spelled u)) ∷ mid.calls in
    half_stands c.write_slot-2.result old.starts u old mid new c.args.which c.args.half
    c.requires.labels c.requires.fits c.requires.which c.requires.half c.write_slot.ensures.starts c.write_slot-2.ensures.starts
    (slot_wrote old mid c.args.which (length (bytes_of old.starts c.args.which)) c.args.half u c.in_ok-write_slot.ensures.call)
    (subst P c.write_slot.ensures.starts (slot_call c.write_slot-2.result mid new c.args.which (length (bytes_of mid.starts c.args.which)) (c.args.half + 2) u c.write_slot-2.ensures.call))

pub returns-clause-fault : goal.returns-clause-fault
returns-clause-fault g c =
    let u = c.args.uberblock.now in
    let old = c.args.disks.now in
    let mid = c.write_slot.new.disks in
    let new = c.write_slot-2.new.disks in
    failure_later c.write_slot-2.result (IsSlotWrite old.starts u (in_half_of c.args.which c.args.half)) old mid new
    (makes_slot c.write_slot.result old.starts u (in_half_of c.args.which c.args.half) old mid c.args.which c.args.half
    (omega (arith, c.requires.half)) (refl, inl refl) c.write_slot.ensures.starts (slot_call c.write_slot.result old mid c.args.which (length (bytes_of old.starts c.args.which)) c.args.half u c.write_slot.ensures.call)).makes
    c.write_slot-2.ensures.fault
