use Rattle.std.proofs.Common.{rules, ◌≡◌, ◌<◌, ◌≤◌, ℕ, List, arith, ap, sym, ◌∙◌, subst, refl, length, is_ok, Contains}
use Rattle.std.specs.Prelude.{min}
use Rattle.model_disk.specs.Call.{write_call}
use Rattle.model_disk.specs.Joint.{bytes_of}
use Rattle.disk_set.specs.declared.device.FailedDisk.{FailedDisk}
use Rattle.block_store.specs.Spaces.{VdevSpace}
use Rattle.block_store.specs.Store.{IsOutToo}
use Rattle.pool_model.specs.declared.step.Phase.TheVariants as phases
use Rattle.pool_model.specs.Flow.{counted_on}
use Rattle.uberblock_ring.specs.Slot.{slot_bytes}
use Rattle.disk_set.specs.declared.behind.SlotWrite.{SlotWrite}
use Rattle.pool_commit.specs.Making.{slots_left, MadeCalls, FailedSlot, SlotsMove, SlotsMoveBut}
use Rattle.pool_commit.specs.Slots.{LabelsLieAside, place_of}
use Rattle.pool_commit.proofs.Made.{none_made, one_made, one_failed_before, below_four, err_is, some_to_write}
use Rattle.pool_commit.proofs.SlotWrites.{due_slot, slot_made, slot_lost, none_moved, one_moved, one_moved_but, there_first, there_later}
use Rattle.model_disk.proofs.RunLemmas.{Makes-none}
use Rattle.pool_commit.specs.Writing.{IsDueSlot}
use Rattle.pool_commit.proofs.Writing.{rest_first, rest_next, slot_makes}
use Rattle.pool_commit.proofs.device.make_slots.Goals as goal

pub loop-init : goal.loop-init
loop-init g c = (
  λ counts. (counts, none_made c.args.store.now (slots_left counts c.args.slots.now.items) phases.Slots),
  refl,
  refl,
  refl,
  c.requires.there,
  none_moved c.args.store.now c.args.uberblock.now c.args.slots.now.items,
  rest_first SlotWrite c.args.slots.now.items,
  Makes-none (IsDueSlot c.args.store.now.disks.starts c.args.uberblock.now c.args.slots.now.items) c.args.store.now.disks,
)

pub write_slot-requires-clause-there : goal.write_slot-requires-clause-there
write_slot-requires-clause-there g c =
    subst (λ (starts : List (List ℕ)). c.in-Some.write.disk < length starts) (sym c.loop.invariant.2)
    (c.loop.invariant.4 c.in-Some.write (subst (λ (xs : List SlotWrite). Contains xs c.in-Some.write) (sym c.in-Some.ensures.items) (there_first c.in-Some.write c.pop_front.new.self.items))).0

pub write_slot-requires-clause-label : goal.write_slot-requires-clause-label
write_slot-requires-clause-label g c =
    (c.loop.invariant.4 c.in-Some.write (subst (λ (xs : List SlotWrite). Contains xs c.in-Some.write) (sym c.in-Some.ensures.items) (there_first c.in-Some.write c.pop_front.new.self.items))).1

pub write_slot-requires-clause-aside : goal.write_slot-requires-clause-aside
write_slot-requires-clause-aside g c =
    subst (λ (starts : List (List ℕ)). LabelsLieAside starts c.loop.store.spaces) (sym c.loop.invariant.2)
    (subst (λ (spaces : List VdevSpace). LabelsLieAside c.args.store.now.disks.starts spaces) (sym c.loop.invariant.3) c.requires.aside)

-- the disk has room for its labels
room : (count : ℕ) (starts others : List (List ℕ)) (spaces : List VdevSpace) (disk : ℕ) → others ≡ starts → disk < length starts → LabelsLieAside starts spaces
    → 1048576 ≤ length (bytes_of others disk)
room count starts others spaces disk same below lie = subst (λ (them : List (List ℕ)). 1048576 ≤ length (bytes_of them disk)) (sym same) (lie disk below).0

pub returns-in-Err-clause-failed : goal.returns-in-Err-clause-failed
returns-in-Err-clause-failed g c =
    let few = below_four (length c.args.slots.now.items) c.min-end.result c.loop.counter (c.min-end.ensures ∙ ap (λ n. min n 4) (c.len.ensures ∙ search rules)) c.loop-test.true in
    subst (λ disk. FailedSlot c.args.store.now c.write_slot.new.store c.args.slots.now.items c.pop_front.new.self.items disk)
    (sym (err_is c.write_slot.result c.in-Err.failed (λ (f : FailedDisk). f.disk ≡ c.in-Some.write.disk) c.in-Err.is c.write_slot.ensures.failed))
    (λ counts.
    let so = c.loop.invariant.0 counts in
    let number : ℕ = so.0 c.in-Some.write.disk in
    let at : ℕ = place_of c.loop.store.disks.starts c.in-Some.write c.args.uberblock.now.group in
    let lost = slot_lost c.write_slot.result c.loop.store c.write_slot.new.store c.in-Some.write number at (slot_bytes c.args.uberblock.now) (ap is_ok c.in-Err.is) c.write_slot.ensures.starts
    c.write_slot.ensures.spaces c.write_slot.ensures.stale c.write_slot.ensures.plans c.write_slot.ensures.call in
    let failed = one_failed_before c.args.store.now c.loop.store c.write_slot.new.store (slots_left counts c.args.slots.now.items) (slots_left (counted_on so.0 c.in-Some.write.disk) c.pop_front.new.self.items)
    phases.Slots c.loop.counter (due_slot c.in-Some.write number) (write_call c.write_slot.result at (slot_bytes c.args.uberblock.now))
    (subst (λ (left : List SlotWrite). MadeCalls c.args.store.now c.loop.store (slots_left counts c.args.slots.now.items) (slots_left so.0 left) phases.Slots c.loop.counter) c.in-Some.ensures.items so.1)
    few.1 lost.0 refl lost.1 (err_is c.write_slot.result c.in-Err.failed (λ f. IsOutToo c.loop.store.out c.in-Some.write.disk c.write_slot.new.store.out) c.in-Err.is c.write_slot.ensures.out_too) in
    (failed.0, counted_on so.0 c.in-Some.write.disk, failed.1))

pub returns-in-Err-clause-moved_but : goal.returns-in-Err-clause-moved_but
returns-in-Err-clause-moved_but g c =
    let there = c.loop.invariant.4 c.in-Some.write (subst (λ (xs : List SlotWrite). Contains xs c.in-Some.write) (sym c.in-Some.ensures.items) (there_first c.in-Some.write c.pop_front.new.self.items)) in
    subst (λ disk. SlotsMoveBut disk c.args.store.now c.write_slot.new.store c.args.uberblock.now c.args.slots.now.items c.pop_front.new.self.items)
    (sym (err_is c.write_slot.result c.in-Err.failed (λ (f : FailedDisk). f.disk ≡ c.in-Some.write.disk) c.in-Err.is c.write_slot.ensures.failed))
    (one_moved_but c.write_slot.result c.args.store.now c.loop.store c.write_slot.new.store c.args.uberblock.now c.args.slots.now.items c.pop_front.new.self.items c.in-Some.write c.requires.fits
    (room 0 c.args.store.now.disks.starts c.loop.store.disks.starts c.args.store.now.spaces c.in-Some.write.disk c.loop.invariant.2 there.0 c.requires.aside) there.1
    c.write_slot.ensures.starts c.write_slot.ensures.call
    (subst (λ (left : List SlotWrite). SlotsMove c.args.store.now c.loop.store c.args.uberblock.now c.args.slots.now.items left) c.in-Some.ensures.items c.loop.invariant.5))

pub loop-preserved : goal.loop-preserved
loop-preserved g c =
    let there = c.loop.invariant.4 c.in-Some.write (subst (λ (xs : List SlotWrite). Contains xs c.in-Some.write) (sym c.in-Some.ensures.items) (there_first c.in-Some.write c.pop_front.new.self.items)) in (
      λ counts.
          let so = c.loop.invariant.0 counts in
          let number : ℕ = so.0 c.in-Some.write.disk in
          let at : ℕ = place_of c.loop.store.disks.starts c.in-Some.write c.args.uberblock.now.group in
          let made = slot_made c.write_slot.result c.loop.store c.write_slot.new.store c.in-Some.write number at (slot_bytes c.args.uberblock.now) (ap is_ok c.in_default-write_slot.is) c.write_slot.ensures.starts
          c.write_slot.ensures.spaces c.write_slot.ensures.stale c.write_slot.ensures.plans c.write_slot.ensures.call in (
            counted_on so.0 c.in-Some.write.disk,
            one_made c.args.store.now c.loop.store c.write_slot.new.store (slots_left counts c.args.slots.now.items) (slots_left (counted_on so.0 c.in-Some.write.disk) c.pop_front.new.self.items)
                phases.Slots c.loop.counter (due_slot c.in-Some.write number) (write_call c.write_slot.result at (slot_bytes c.args.uberblock.now))
                (subst (λ (left : List SlotWrite). MadeCalls c.args.store.now c.loop.store (slots_left counts c.args.slots.now.items) (slots_left so.0 left) phases.Slots c.loop.counter) c.in-Some.ensures.items so.1)
                made.0 refl made.1 c.in_default-write_slot.ensures.out,
          ),
      c.write_slot.ensures.due ∙ c.loop.invariant.1,
      c.write_slot.ensures.starts ∙ c.loop.invariant.2,
      c.write_slot.ensures.spaces ∙ c.loop.invariant.3,
      λ write held. c.loop.invariant.4 write (subst (λ (xs : List SlotWrite). Contains xs write) (sym c.in-Some.ensures.items) (there_later c.in-Some.write c.pop_front.new.self.items write held)),
      one_moved c.write_slot.result c.args.store.now c.loop.store c.write_slot.new.store c.args.uberblock.now c.args.slots.now.items c.pop_front.new.self.items c.in-Some.write c.requires.fits
          (room 0 c.args.store.now.disks.starts c.loop.store.disks.starts c.args.store.now.spaces c.in-Some.write.disk c.loop.invariant.2 there.0 c.requires.aside) there.1
          (ap is_ok c.in_default-write_slot.is) c.write_slot.ensures.starts c.write_slot.ensures.call
          (subst (λ (left : List SlotWrite). SlotsMove c.args.store.now c.loop.store c.args.uberblock.now c.args.slots.now.items left) c.in-Some.ensures.items c.loop.invariant.5),
      rest_next SlotWrite c.args.slots.now.items c.loop.slots.items c.pop_front.new.self.items c.in-Some.write c.in-Some.ensures.items c.loop.invariant.6,
      slot_makes c.write_slot.result c.args.store.now.disks c.loop.store.disks c.write_slot.new.store.disks c.args.uberblock.now c.args.slots.now.items c.loop.slots.items
          c.pop_front.new.self.items c.in-Some.write c.in-Some.ensures.items c.loop.invariant.2 c.write_slot.ensures.starts c.write_slot.ensures.call c.loop.invariant.6 there c.loop.invariant.7,
    )

pub returns-in-Err-clause-makes : goal.returns-in-Err-clause-makes
returns-in-Err-clause-makes g c =
    slot_makes c.write_slot.result c.args.store.now.disks c.loop.store.disks c.write_slot.new.store.disks c.args.uberblock.now c.args.slots.now.items c.loop.slots.items
    c.pop_front.new.self.items c.in-Some.write c.in-Some.ensures.items c.loop.invariant.2 c.write_slot.ensures.starts c.write_slot.ensures.call c.loop.invariant.6
    (c.loop.invariant.4 c.in-Some.write (subst (λ (xs : List SlotWrite). Contains xs c.in-Some.write) (sym c.in-Some.ensures.items) (there_first c.in-Some.write c.pop_front.new.self.items)))
    c.loop.invariant.7

pub returns-clause-made : goal.returns-clause-made
returns-clause-made g c counts =
    let ends : c.loop.counter ≡ c.min-end.result = omega (arith, c.loop.auto.counter-end, c.loop-test.false) in
    let all : c.loop.counter ≡ min (length c.args.slots.now.items) 4 = ends ∙ c.min-end.ensures ∙ ap (λ n. min n 4) (c.len.ensures ∙ search rules) in
    subst (λ (n : ℕ). (later : ℕ → ℕ) × MadeCalls c.args.store.now c.loop.store (slots_left counts c.args.slots.now.items) (slots_left later c.loop.slots.items) phases.Slots n) all
    (c.loop.invariant.0 counts)

pub returns-in-Err-clause-there : goal.returns-in-Err-clause-there
returns-in-Err-clause-there g c write held =
    c.loop.invariant.4 write (subst (λ (xs : List SlotWrite). Contains xs write) (sym c.in-Some.ensures.items) (there_later c.in-Some.write c.pop_front.new.self.items write held))

pub returns-in_default-clause-made : goal.returns-in_default-clause-made
returns-in_default-clause-made g c =
    let few = below_four (length c.args.slots.now.items) c.min-end.result c.loop.counter (c.min-end.ensures ∙ ap (λ n. min n 4) (c.len.ensures ∙ search rules)) c.loop-test.true in
    let so = c.loop.invariant.0 (λ disk. 0) in
    let some = some_to_write c.args.store.now c.loop.store (λ disk. 0) so.0 c.args.slots.now.items c.loop.slots.items c.loop.counter so.1 few.0 in
    let none : length c.loop.slots.items ≡ 0 = search rules ∙ c.in_default.ensures.cases.0 in
    absurd (omega (arith, some, none))

pub returns-in_default-clause-moved : goal.returns-in_default-clause-moved
returns-in_default-clause-moved g c =
    subst (λ (left : List SlotWrite). SlotsMove c.args.store.now c.loop.store c.args.uberblock.now c.args.slots.now.items left) c.in_default.ensures.items c.loop.invariant.5
