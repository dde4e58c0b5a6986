use Rattle.std.proofs.Common.{◌↔◌, ℕ, List, Option, Err, subst}
use Rattle.std.specs.Prelude.{IsTrue}
use Rattle.uberblock_ring.specs.Ranking.{Has}
use Rattle.uberblock_ring.specs.Reads.{ReadsSlots}
use Rattle.uberblock_ring.specs.declared.refusal.Refusal.{Refusal as RingRefusal}
use Rattle.uberblock_ring.specs.declared.refusal.Refusal.TheVariants as ring
use Rattle.uberblock_ring.specs.declared.uberblock.Uberblock.{Uberblock}
use Rattle.pool_slots.proofs.ReadRuns.{reads_any}
use Rattle.pool_slots.proofs.Reading.{slots_read, slots_refused}
use Rattle.pool_format.proofs.Blanks.{slots_only, slots_tell}
use Rattle.pool_format.proofs.blank.shows_slots.Goals as goal

pub returns-in-Ok-clause-only : goal.returns-in-Ok-clause-only
returns-in-Ok-clause-only g c = reads_any (slots_read c.args.disks.now c.read_slots.new.disks c.args.which c.in-Ok.slots c.read_slots.ensures.starts c.in-Ok.ensures.calls)

pub returns-in-Ok-clause-tells : goal.returns-in-Ok-clause-tells
returns-in-Ok-clause-tells g c =
    let P : List (Option Uberblock) → Type 0 = λ slots. IsTrue c.is_used.result ↔ ((i : ℕ) × (u : Uberblock) × Has slots i u) in
    slots_tell c.args.disks.now c.read_slots.new.disks c.args.which c.in-Ok.slots c.is_used.result c.requires.room c.read_slots.ensures.starts c.in-Ok.ensures.calls
    (subst P c.deref.ensures.value c.is_used.ensures)

pub returns-in-Err-DiskFault-clause-only : goal.returns-in-Err-DiskFault-clause-only
returns-in-Err-DiskFault-clause-only g c =
    let P : RingRefusal → Type 0 = λ r. ReadsSlots c.args.disks.now c.read_slots.new.disks c.args.which (Err r) in
    slots_only c.args.disks.now c.read_slots.new.disks c.args.which ring.DiskFault c.read_slots.ensures.starts (subst P c.in-Err-DiskFault.field-0-is c.in-Err-DiskFault.ensures.calls)

pub returns-in-Err-DiskFault-clause-tells : goal.returns-in-Err-DiskFault-clause-tells
returns-in-Err-DiskFault-clause-tells g c =
    let P : RingRefusal → Type 0 = λ r. ReadsSlots c.args.disks.now c.read_slots.new.disks c.args.which (Err r) in
    slots_refused c.args.disks.now c.read_slots.new.disks c.args.which ring.DiskFault (subst P c.in-Err-DiskFault.field-0-is c.in-Err-DiskFault.ensures.calls)
