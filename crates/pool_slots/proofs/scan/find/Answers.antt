use Rattle.std.proofs.Common.{ℕ, List, Option, Err, IfSome, IfNone, sym, subst}
use Rattle.uberblock_ring.specs.Ranking.{Has}
use Rattle.uberblock_ring.specs.declared.uberblock.Uberblock.{Uberblock}
use Rattle.pool_slots.specs.Opens.{FindsOn, HasHighest}
use Rattle.pool_slots.specs.Reads.{OnlyReads, is_fault}
use Rattle.pool_slots.specs.Slots.{is_disk}
use Rattle.pool_slots.specs.declared.refusal.Refusal.{Refusal}
use Rattle.pool_slots.proofs.Reading.{slots_read, slots_not_read, slots_refused, finds_highest}
use Rattle.pool_slots.proofs.scan.find.Goals as goal

pub returns-in-Err-clause-only : goal.returns-in-Err-clause-only
returns-in-Err-clause-only g c =
    let old = c.args.disks.now in
    let new = c.read_slots.new.disks in
    let P : Refusal → Type 0 = λ refusal. OnlyReads (is_disk c.args.which) (is_fault refusal) old new in
    subst P (sym c.slots_unread.ensures) (slots_not_read old new c.args.which c.in-Err.cause c.read_slots.ensures.starts c.in-Err.ensures.calls)

pub returns-in-Err-clause-finds : goal.returns-in-Err-clause-finds
returns-in-Err-clause-finds g c =
    let old = c.args.disks.now in
    let new = c.read_slots.new.disks in
    let P : Refusal → Type 0 = λ refusal. FindsOn old new c.args.which (Err refusal) in
    subst P (sym c.slots_unread.ensures) (slots_refused old new c.args.which c.in-Err.cause c.in-Err.ensures.calls)

pub returns-clause-only : goal.returns-clause-only
returns-clause-only g c = slots_read c.args.disks.now c.read_slots.new.disks c.args.which c.in-Ok.slots c.read_slots.ensures.starts c.in-Ok.ensures.calls

pub returns-clause-finds : goal.returns-clause-finds
returns-clause-finds g c =
    let P : List (Option Uberblock) → Type 0 = λ slots. IfSome c.found_in.result (HasHighest slots) in
    let Q : List (Option Uberblock) → Type 0 = λ slots. IfNone c.found_in.result ((k : ℕ) (u : Uberblock) → ¬ Has slots k u) in
    finds_highest c.args.disks.now c.read_slots.new.disks c.args.which c.in-Ok.slots c.found_in.result c.requires.room c.read_slots.ensures.starts c.in-Ok.ensures.calls
    (subst P c.deref.ensures.value c.found_in.ensures.found) (subst Q c.deref.ensures.value c.found_in.ensures.none)
