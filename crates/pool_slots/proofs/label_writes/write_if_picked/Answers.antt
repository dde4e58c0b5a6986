use Rattle.std.proofs.Common.{refl}
use Rattle.pool_slots.specs.Labels.{copies, of_label}
use Rattle.pool_slots.proofs.LabelWrites.{area_stands, makes_area}
use Rattle.pool_slots.proofs.label_writes.write_if_picked.Goals as goal

pub returns-then-is_picked-clause-makes : goal.returns-then-is_picked-clause-makes
returns-then-is_picked-clause-makes g c =
    makes_area c.write_area.result c.args.disks.now.starts (of_label c.args.number (copies c.args.which c.args.area.now c.args.pick)) c.args.disks.now c.write_area.new.disks
    c.args.which c.args.number c.args.area.now c.requires.number (refl, (refl, c.is_picked.ensures.0 c.if-is_picked.true, refl)) c.write_area.ensures.starts c.write_area.ensures.call

pub returns-then-is_picked-clause-stand : goal.returns-then-is_picked-clause-stand
returns-then-is_picked-clause-stand g c =
    area_stands c.write_area.result c.args.disks.now c.write_area.new.disks c.args.which c.args.number c.args.area.now c.args.pick c.requires.whole
    c.write_area.ensures.starts c.write_area.ensures.call

pub returns-then-is_picked-clause-fault : goal.returns-then-is_picked-clause-fault
returns-then-is_picked-clause-fault g c = c.write_area.ensures.fault
