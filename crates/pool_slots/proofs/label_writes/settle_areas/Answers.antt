use Rattle.model_disk.specs.Joint.{content}
use Rattle.pool_slots.specs.Labels.{AreasStand, InAreaTurn, IsAreaWrite}
use Rattle.pool_slots.specs.Slots.{AreSettled, InUse}
use Rattle.pool_slots.proofs.Failing.{failure_later}
use Rattle.pool_slots.proofs.LabelWrites.{stand_flushed}
use Rattle.pool_slots.proofs.Phases.{flushed_too}
use Rattle.pool_slots.proofs.Results.{on_ok_use}
use Rattle.pool_slots.proofs.label_writes.settle_areas.Goals as goal

pub returns-clause-makes : goal.returns-clause-makes
returns-clause-makes g c =
    let old = c.args.disks.now in
    flushed_too (InUse c.args.out.now) (IsAreaWrite old.starts (InAreaTurn c.args.areas.now c.args.first)) old c.write_areas.new.disks c.flush_all.new.disks
    c.write_areas.ensures.makes c.flush_all.ensures.makes

pub returns-clause-stand : goal.returns-clause-stand
returns-clause-stand g c =
    let old = c.args.disks.now in
    let wrote = c.write_areas.new.disks in
    let new = c.flush_all.new.disks in
    let picks = InAreaTurn c.args.areas.now c.args.first in
    on_ok_use c.flush_all.result (AreSettled c.args.out.now new.calls) (AreasStand (content new) old.starts picks)
    (λ settled. stand_flushed wrote new old.starts picks c.flush_all.ensures.makes.makes c.in_ok-write_areas.ensures.stand) c.flush_all.ensures.settled

pub returns-clause-fault : goal.returns-clause-fault
returns-clause-fault g c =
    let old = c.args.disks.now in
    failure_later c.flush_all.result (IsAreaWrite old.starts (InAreaTurn c.args.areas.now c.args.first)) old c.write_areas.new.disks c.flush_all.new.disks
    c.write_areas.ensures.makes.makes c.flush_all.ensures.fault
