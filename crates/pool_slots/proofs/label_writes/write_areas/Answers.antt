use Rattle.std.proofs.Common.{length, ap, arith}
use Rattle.pool_slots.specs.Failures.{IsFailure}
use Rattle.pool_slots.specs.Labels.{InAreaTurn, IsAreaWrite}
use Rattle.pool_slots.specs.Slots.{InUse}
use Rattle.pool_slots.proofs.Failing.{fails_later}
use Rattle.pool_slots.proofs.LabelWrites.{by_disk, made_next, planned_used, stand_next}
use Rattle.pool_slots.proofs.Results.{if_err_is}
use Rattle.pool_slots.proofs.Used.{are_there}
use Rattle.pool_slots.proofs.label_writes.write_areas.Goals as goal

pub returns-in_err-write_on-clause-makes : goal.returns-in_err-write_on-clause-makes
returns-in_err-write_on-clause-makes g c =
    made_next by_disk c.loop-which.which (InUse c.args.out.now) (InAreaTurn c.args.areas.now c.args.first) c.args.disks.now c.loop-which.disks c.write_on.new.disks
    c.loop-which.invariant.makes c.write_on.ensures.makes

pub returns-in_err-write_on-clause-fault : goal.returns-in_err-write_on-clause-fault
returns-in_err-write_on-clause-fault g c =
    if_err_is c.from_residual.result c.in_err-write_on.field-0.0 (IsFailure c.args.disks.now c.write_on.new.disks) c.from_residual.ensures.1
    (fails_later (IsAreaWrite c.args.disks.now.starts (InAreaTurn c.args.areas.now c.args.first)) c.args.disks.now c.loop-which.disks c.write_on.new.disks
    c.loop-which.invariant.makes.makes c.in_err-write_on.field-0.0.disk c.in_err-write_on.ensures.fault)

pub loop-which-preserved : goal.loop-which-preserved
loop-which-preserved g c =
    let old = c.args.disks.now in
    let loop = c.loop-which.disks in
    let new = c.write_on.new.disks in
    let out = c.args.out.now in
    let picks = InAreaTurn c.args.areas.now c.args.first in
    record {
      makes = made_next by_disk c.loop-which.which (InUse out) picks old loop new c.loop-which.invariant.makes c.write_on.ensures.makes;
      stand = stand_next by_disk c.loop-which.which (InUse out) picks old loop new c.requires.whole
          (λ w n b it. c.requires.labels w (are_there out old.starts c.requires.out w (planned_used out c.args.areas.now c.args.first c.requires.on w n b it)))
          c.loop-which.invariant.makes c.loop-which.invariant.stand c.write_on.ensures.makes c.in_ok-write_on.ensures.stand;
    }

pub returns-clause-stand : goal.returns-clause-stand
returns-clause-stand g c which number bytes is picked =
    let starts = c.args.disks.now.starts in
    let there = are_there c.args.out.now starts c.requires.out which (planned_used c.args.out.now c.args.areas.now c.args.first c.requires.on which number bytes picked) in
    c.loop-which.invariant.stand which number bytes is
    (omega (arith, there, ap length c.loop-which.invariant.makes.makes.starts, c.loop-which-test.false, c.loop-which.auto.which-end, c.len-which-end.ensures), picked)
