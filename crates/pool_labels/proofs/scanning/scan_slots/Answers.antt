use Rattle.std.proofs.Common.{subst}
use Rattle.uberblock_ring.specs.Reads.{ReadsSlots}
use Rattle.std.specs.Prelude.{Err}
use Rattle.uberblock_ring.specs.declared.refusal.Refusal.{Refusal as RingRefusal}
use Rattle.uberblock_ring.specs.declared.refusal.Refusal.TheVariants as ring
use Rattle.pool_slots.proofs.ReadRuns.{reads_any}
use Rattle.pool_slots.proofs.Reading.{slots_read}
use Rattle.pool_labels.proofs.SlotReads.{only_slots, slots_few, slots_lost, slots_scanned}
use Rattle.pool_labels.proofs.scanning.scan_slots.Goals as goal

pub returns-in-Ok-clause-only : goal.returns-in-Ok-clause-only
returns-in-Ok-clause-only g c = reads_any (slots_read c.args.disks.now c.read_slots.new.disks c.args.which c.in-Ok.slots c.read_slots.ensures.starts c.in-Ok.ensures.calls)

pub returns-in-Ok-clause-scans : goal.returns-in-Ok-clause-scans
returns-in-Ok-clause-scans g c = slots_scanned c.args.disks.now c.read_slots.new.disks c.args.which c.in-Ok.slots c.requires.room c.read_slots.ensures.starts c.in-Ok.ensures.calls

pub returns-in-Err-DiskFault-clause-only : goal.returns-in-Err-DiskFault-clause-only
returns-in-Err-DiskFault-clause-only g c =
    let P : RingRefusal → Type 0 = λ r. ReadsSlots c.args.disks.now c.read_slots.new.disks c.args.which (Err r) in
    only_slots c.args.disks.now c.read_slots.new.disks c.args.which ring.DiskFault c.read_slots.ensures.starts (subst P c.in-Err-DiskFault.field-0-is c.in-Err-DiskFault.ensures.calls)

pub returns-in-Err-DiskFault-clause-scans : goal.returns-in-Err-DiskFault-clause-scans
returns-in-Err-DiskFault-clause-scans g c =
    let P : RingRefusal → Type 0 = λ r. ReadsSlots c.args.disks.now c.read_slots.new.disks c.args.which (Err r) in
    slots_lost c.args.disks.now c.read_slots.new.disks c.args.which (subst P c.in-Err-DiskFault.field-0-is c.in-Err-DiskFault.ensures.calls)

pub returns-in-Err-DiskFault-clause-few : goal.returns-in-Err-DiskFault-clause-few
returns-in-Err-DiskFault-clause-few g c =
    let P : RingRefusal → Type 0 = λ r. ReadsSlots c.args.disks.now c.read_slots.new.disks c.args.which (Err r) in
    slots_few c.args.disks.now c.read_slots.new.disks c.args.which (subst P c.in-Err-DiskFault.field-0-is c.in-Err-DiskFault.ensures.calls)
