use Rattle.std.proofs.Common.{inr, List, Option, refl, sym, subst}
use Rattle.pool_open.specs.declared.refusal.Refusal.{Refusal}
use Rattle.pool_slots.proofs.ReadRuns.{reads_made}
use Rattle.pool_slots.proofs.Reading.{slots_not_read, slots_read}
use Rattle.uberblock_ring.specs.declared.uberblock.Uberblock.{Uberblock}
use Rattle.pool_create.specs.Alone.{HaveAlone, IsRefusedOn}
use Rattle.pool_create.proofs.Alone.{not_read, read_alone, read_crowded}
use Rattle.pool_create.proofs.slots.require_alone_on.Goals as goal

pub returns-in-Err-clause-only : goal.returns-in-Err-clause-only
returns-in-Err-clause-only g c =
    reads_made (slots_not_read c.args.disks.now c.read_slots.new.disks c.args.which c.in-Err.cause c.read_slots.ensures.starts c.in-Err.ensures.calls)

pub returns-in-Err-clause-refused : goal.returns-in-Err-clause-refused
returns-in-Err-clause-refused g c =
    let old = c.args.disks.now in
    let new = c.read_slots.new.disks in
    subst (λ (refusal : Refusal). IsRefusedOn c.args.uberblock old new c.args.which refusal) (sym c.unread.ensures)
    (not_read old new c.args.which c.args.uberblock c.in-Err.cause c.in-Err.ensures.calls)

pub returns-then-not-have_alone-clause-only : goal.returns-then-not-have_alone-clause-only
returns-then-not-have_alone-clause-only g c =
    reads_made (slots_read c.args.disks.now c.read_slots.new.disks c.args.which c.in-Ok.slots c.read_slots.ensures.starts c.in-Ok.ensures.calls)

pub returns-then-not-have_alone-clause-refused : goal.returns-then-not-have_alone-clause-refused
returns-then-not-have_alone-clause-refused g c =
    let u = c.args.uberblock in
    let have = c.have_alone.ensures in
    inr (inr (
      refl,
      read_crowded c.args.disks.now c.read_slots.new.disks c.args.which c.in-Ok.slots u c.requires.room c.read_slots.ensures.starts c.in-Ok.ensures.calls
          (λ it. let yes = have.1 (subst (λ (slots : List (Option Uberblock)). HaveAlone slots u) (sym c.deref.ensures.value) it) in let fails = c.if-not-have_alone.true in cc),
    ))

pub returns-clause-only : goal.returns-clause-only
returns-clause-only g c =
    reads_made (slots_read c.args.disks.now c.read_slots.new.disks c.args.which c.in-Ok.slots c.read_slots.ensures.starts c.in-Ok.ensures.calls)

pub returns-clause-alone : goal.returns-clause-alone
returns-clause-alone g c =
    let u = c.args.uberblock in
    read_alone c.args.disks.now c.read_slots.new.disks c.args.which c.in-Ok.slots u c.requires.room c.read_slots.ensures.starts c.in-Ok.ensures.calls
    (subst (λ (slots : List (Option Uberblock)). HaveAlone slots u) c.deref.ensures.value (c.have_alone.ensures.0 c.if-not-have_alone.false))
