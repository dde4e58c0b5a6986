use Rattle.pool_slots.specs.Failures.{IsFailure}
use Rattle.pool_slots.specs.Labels.{IsAreaWrite, copies}
use Rattle.pool_slots.specs.Slots.{is_disk}
use Rattle.pool_slots.proofs.Failing.{fails_later}
use Rattle.pool_slots.proofs.LabelWrites.{by_label, copies_room, copies_whole, made_next, stand_next}
use Rattle.pool_slots.proofs.Results.{if_err_is}
use Rattle.pool_slots.proofs.label_writes.write_picked.Goals as goal

pub returns-in_err-write_if_picked-clause-makes : goal.returns-in_err-write_if_picked-clause-makes
returns-in_err-write_if_picked-clause-makes g c =
    made_next by_label c.loop-number.number (is_disk c.args.which) (copies c.args.which c.args.area.now c.args.pick) c.args.disks.now c.loop-number.disks c.write_if_picked.new.disks
    c.loop-number.invariant.makes c.write_if_picked.ensures.makes

pub returns-in_err-write_if_picked-clause-fault : goal.returns-in_err-write_if_picked-clause-fault
returns-in_err-write_if_picked-clause-fault g c =
    if_err_is c.from_residual.result c.in_err-write_if_picked.field-0.0 (IsFailure c.args.disks.now c.write_if_picked.new.disks) c.from_residual.ensures.1
    (fails_later (IsAreaWrite c.args.disks.now.starts (copies c.args.which c.args.area.now c.args.pick)) c.args.disks.now c.loop-number.disks c.write_if_picked.new.disks
    c.loop-number.invariant.makes.makes c.in_err-write_if_picked.field-0.0.disk c.in_err-write_if_picked.ensures.fault)

pub loop-number-preserved : goal.loop-number-preserved
loop-number-preserved g c =
    let old = c.args.disks.now in
    let loop = c.loop-number.disks in
    let new = c.write_if_picked.new.disks in
    let picks = copies c.args.which c.args.area.now c.args.pick in
    record {
      makes = made_next by_label c.loop-number.number (is_disk c.args.which) picks old loop new c.loop-number.invariant.makes c.write_if_picked.ensures.makes;
      stand = stand_next by_label c.loop-number.number (is_disk c.args.which) picks old loop new (copies_whole c.args.which c.args.area.now c.args.pick c.requires.whole)
          (copies_room old.starts c.args.which c.args.area.now c.args.pick c.requires.room) c.loop-number.invariant.makes c.loop-number.invariant.stand
          c.write_if_picked.ensures.makes c.in_ok-write_if_picked.ensures.stand;
    }
