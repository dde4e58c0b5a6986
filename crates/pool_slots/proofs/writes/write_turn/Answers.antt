use Rattle.std.proofs.Common.{length, ap, arith}
use Rattle.pool_slots.specs.Failures.{IsFailure}
use Rattle.pool_slots.proofs.Failing.{fails_later}
use Rattle.pool_slots.specs.Slots.{InUse}
use Rattle.pool_slots.specs.Writes.{IsSlotWrite, InTurn}
use Rattle.pool_slots.proofs.Phases.{MakesOn-none}
use Rattle.pool_slots.proofs.Results.{if_err_is}
use Rattle.pool_slots.proofs.Writing.{made_more, made_next}
use Rattle.pool_slots.proofs.writes.write_turn.Goals as goal

pub loop-which-init : goal.loop-which-init
loop-which-init g c = record {
  makes = MakesOn-none (InUse c.args.out.now) (IsSlotWrite c.args.disks.now.starts c.args.uberblock.now (InTurn c.args.out.now c.args.all.now c.args.turn)) c.args.disks.now;
  stand = λ d label below. absurd (omega (arith, below));
}

pub returns-in_err-write_turn_on-clause-makes : goal.returns-in_err-write_turn_on-clause-makes
returns-in_err-write_turn_on-clause-makes g c =
    made_more c.args.disks.now c.loop-which.disks c.write_turn_on.new.disks (InUse c.args.out.now) c.args.uberblock.now (InTurn c.args.out.now c.args.all.now c.args.turn) c.loop-which.which c.loop-which.invariant.makes c.write_turn_on.ensures.makes

pub returns-in_err-write_turn_on-clause-fault : goal.returns-in_err-write_turn_on-clause-fault
returns-in_err-write_turn_on-clause-fault g c =
    if_err_is c.from_residual.result c.in_err-write_turn_on.field-0.0 (IsFailure c.args.disks.now c.write_turn_on.new.disks) c.from_residual.ensures.1
    (fails_later (IsSlotWrite c.args.disks.now.starts c.args.uberblock.now (InTurn c.args.out.now c.args.all.now c.args.turn)) c.args.disks.now c.loop-which.disks c.write_turn_on.new.disks c.loop-which.invariant.makes.makes c.in_err-write_turn_on.field-0.0.disk c.in_err-write_turn_on.ensures.fault)

pub loop-which-preserved : goal.loop-which-preserved
loop-which-preserved g c =
    let made = made_next c.args.disks.now c.loop-which.disks c.write_turn_on.new.disks (InUse c.args.out.now) c.args.uberblock.now (InTurn c.args.out.now c.args.all.now c.args.turn) c.loop-which.which c.requires.labels c.requires.fits
    (omega (arith, c.loop-which-test.true, ap length c.loop-which.invariant.makes.makes.starts))
    (record { makes = c.loop-which.invariant.makes; stand = c.loop-which.invariant.stand }) c.write_turn_on.ensures.makes c.in_ok-write_turn_on.ensures.stand in
    record { makes = made.makes; stand = made.stand }
