use Rattle.std.proofs.Common.{arith}
use Rattle.model_disk.specs.Joint.{content}
use Rattle.pool_slots.proofs.LabelWrites.{claim_suits, none_claimed, none_planned, suits_makes, suits_stand}
use Rattle.pool_slots.proofs.Used.{out_here, used_here}
use Rattle.pool_slots.proofs.label_writes.write_on.Goals as goal

pub returns-then-out-which-clause-stand : goal.returns-then-out-which-clause-stand
returns-then-out-which-clause-stand g c w n b is it =
    absurd (none_planned c.args.out.now c.args.areas.now c.args.first c.args.which c.requires.on
    (out_here c.args.out.now c.args.which (omega (arith, c.requires.which, c.requires.out)) c.if-out-which.true) w n b it)

pub write_picked-requires-clause-whole : goal.write_picked-requires-clause-whole
write_picked-requires-clause-whole g c =
    (claim_suits c.args.disks.now.starts c.args.areas.now c.args.first c.args.which c.in-Some.area c.index-areas-which.result c.pick_for.result c.deref.result.now
    c.requires.whole c.requires.count c.requires.which c.index-areas-which.is c.in-Some.is c.pick_for.ensures c.deref.ensures.value).long

pub returns-in-Some-clause-makes : goal.returns-in-Some-clause-makes
returns-in-Some-clause-makes g c =
    suits_makes c.args.out.now c.args.areas.now c.args.first c.args.which c.deref.result.now c.pick_for.result c.args.disks.now c.write_picked.new.disks
    (claim_suits c.args.disks.now.starts c.args.areas.now c.args.first c.args.which c.in-Some.area c.index-areas-which.result c.pick_for.result c.deref.result.now
    c.requires.whole c.requires.count c.requires.which c.index-areas-which.is c.in-Some.is c.pick_for.ensures c.deref.ensures.value)
    (used_here c.args.out.now c.args.which (omega (arith, c.requires.which, c.requires.out)) c.if-out-which.false) c.write_picked.ensures.makes

pub returns-in-Some-clause-stand : goal.returns-in-Some-clause-stand
returns-in-Some-clause-stand g c =
    suits_stand c.write_picked.result c.args.areas.now c.args.first c.args.which c.deref.result.now c.pick_for.result (content c.write_picked.new.disks) c.args.disks.now.starts
    (claim_suits c.args.disks.now.starts c.args.areas.now c.args.first c.args.which c.in-Some.area c.index-areas-which.result c.pick_for.result c.deref.result.now
    c.requires.whole c.requires.count c.requires.which c.index-areas-which.is c.in-Some.is c.pick_for.ensures c.deref.ensures.value) c.write_picked.ensures.stand

pub returns-in-None-clause-stand : goal.returns-in-None-clause-stand
returns-in-None-clause-stand g c w n b is it =
    absurd (none_claimed c.args.disks.now.starts c.args.areas.now c.args.first c.args.which c.index-areas-which.result c.requires.count
    c.requires.which c.index-areas-which.is c.in-None.is w n b it)
