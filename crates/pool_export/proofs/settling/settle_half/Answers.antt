use Rattle.std.proofs.Common.{length, ap, sym, ◌∙◌}
use Rattle.model_disk.specs.Joint.{content}
use Rattle.model_disk.specs.Runs.{no_write}
use Rattle.pool_slots.specs.Slots.{InUse}
use Rattle.pool_slots.specs.Writes.{InHalf}
use Rattle.pool_slots.proofs.Phases.{MakesOn-wider, flushed_too}
use Rattle.pool_export.specs.Writes.{IsUsedWrite}
use Rattle.pool_export.proofs.Absence.{go_on}
use Rattle.pool_export.proofs.Halves.{stand_flushed}
use Rattle.pool_export.proofs.settling.settle_half.Goals as goal

pub returns-clause-absent : goal.returns-clause-absent
returns-clause-absent g c =
    let out = c.args.out.now.items in
    go_on (IsUsedWrite out c.args.disks.now.starts c.args.areas.now (InHalf c.args.half)) no_write out c.write_half.new.out.items c.flush_all.new.out.items
    c.args.disks.now c.write_half.new.disks c.flush_all.new.disks c.write_half.ensures.absent c.flush_all.ensures.absent c.write_half.ensures.makes.makes c.flush_all.ensures.makes

pub returns-clause-makes : goal.returns-clause-makes
returns-clause-makes g c =
    let out = c.args.out.now.items in
    let wrote = c.write_half.new.disks in
    let new = c.flush_all.new.disks in
    flushed_too (InUse out) (IsUsedWrite out c.args.disks.now.starts c.args.areas.now (InHalf c.args.half)) c.args.disks.now wrote new c.write_half.ensures.makes
    (MakesOn-wider (InUse c.write_half.new.out.items) (InUse out) no_write no_write wrote new c.write_half.ensures.absent.stay (λ w at bytes none. none) c.flush_all.ensures.makes)

pub returns-clause-stand : goal.returns-clause-stand
returns-clause-stand g c =
    stand_flushed c.write_half.new.out.items c.flush_all.new.out.items c.write_half.new.disks c.flush_all.new.disks c.args.disks.now.starts c.args.areas.now (InHalf c.args.half)
    c.flush_all.ensures.absent.stay c.flush_all.ensures.makes.makes c.write_half.ensures.stand
