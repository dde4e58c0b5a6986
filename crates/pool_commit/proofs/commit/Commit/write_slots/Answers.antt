use Rattle.std.proofs.Common.{◌≡◌, inl, List, [], ◌++◌, ℕ, Global, Option, Some, None, min, refl, sym, ap, ◌∙◌, subst, length}
use Rattle.pool_commit.specs.Calls.{GrewTo}
use Rattle.model_disk.specs.Joint.{Disks}
use Rattle.pool_commit.specs.declared.kept.Planned.{Planned}
use Rattle.pool_commit.specs.HasDisks.{HasDisks, IsPlannedOn}
use Rattle.pool_commit.specs.Making.{flushes_left, slots_left, MadeCalls}
use Rattle.pool_commit.specs.Progress.{CarriesOn, LeavesOut}
use Rattle.pool_commit.specs.Backs.{left_calls}
use Rattle.block_store.specs.Store.{Store}
use Rattle.pool_model.specs.View.{DueCall}
use Rattle.pool_commit.specs.State.{State}
use Rattle.pool_commit.specs.StateOf.{state_of}
use Rattle.pool_model.specs.declared.step.Phase.TheVariants as phases
use Rattle.block_store.specs.Places.{shapes_of}
use Rattle.pool_commit.proofs.Labels.{labels_still}
use Rattle.pool_commit.specs.HasDisks.{AreSlotsBelow}
use Rattle.disk_set.specs.declared.behind.SlotWrite.{SlotWrite}
use Rattle.std.specs.declared.collections.VecDeque.{VecDeque}
use Rattle.pool_commit.proofs.Phasing.{FailedSlots, slotting, slots_stay, slots_left_out, none_to_flush}
use Rattle.pool_commit.proofs.Spellings.{spelled_fits}
use Rattle.pool_commit.proofs.Suspending.{still}
use Rattle.pool_commit.proofs.Progressing.{AreFrom, goes_on, leaves_out, slots_from_there, with_tail, failed_before, some_few, LeavesRest, carried_disks}
use Rattle.pool_commit.proofs.Writing.{none_goes_out, one_goes_out, same_flushes, slots_only, writes_on, writes_without}
use Rattle.pool_commit.proofs.commit.Commit.write_slots.Goals as goal

pub make_slots-requires-clause-there : goal.make_slots-requires-clause-there
make_slots-requires-clause-there g c = (c.requires.there c.args.planned refl).behind.slots

pub make_slots-requires-clause-fits : goal.make_slots-requires-clause-fits
make_slots-requires-clause-fits g c = spelled_fits c.args.planned.uberblock (c.requires.there c.args.planned refl).fits

pub make_slots-requires-clause-aside : goal.make_slots-requires-clause-aside
make_slots-requires-clause-aside g c = c.args.self.now.labels

-- the plan with what is left of its slots
popped_there : (count : ℕ) (plan : Planned) (slots : VecDeque SlotWrite Global) → IsPlannedOn count plan → AreSlotsBelow count slots.items → HasDisks count (Some (slotting plan slots))
popped_there count plan slots there below other is =
    let same : slotting plan slots ≡ other = cc in
    subst (λ (p : Planned). IsPlannedOn count p) same (record {
      behind = record { flushes = there.behind.flushes; slots = below; slot_flushes = there.behind.slot_flushes };
      fits = there.fits;
    })

pub returns-in-Ok-clause-goes : goal.returns-in-Ok-clause-goes
returns-in-Ok-clause-goes g c v backs low =
    let old : State = state_of c.args.self.now in
    let store : Store = c.args.self.now.store in
    let mid : Store = c.make_slots.new.store in
    let plan : Planned = c.args.planned in
    let later : Planned = slotting plan c.make_slots.new.slots in
    let counts : ℕ → ℕ = backs.blocks.plan.counts in
    let slot_counts : ℕ → ℕ = backs.blocks.plan.slot_counts in
    let n : ℕ = min (length plan.behind.slots.items) 4 in
    let none : mid.due ≡ [] = c.make_slots.ensures.due ∙ c.requires.written in
    let tail : List DueCall = flushes_left phases.SlotsFlush plan.behind.slot_flushes.items in
    let so = c.in-Ok.ensures.made slot_counts in
    let made : MadeCalls store mid (left_calls counts slot_counts store.due plan.behind) (left_calls counts so.0 mid.due later.behind) phases.Slots n =
    none_to_flush (λ (left : List DueCall). MadeCalls store mid left (left_calls counts so.0 mid.due later.behind) phases.Slots n) counts slot_counts store plan.behind c.requires.written c.requires.flushed
    (none_to_flush (λ (rest : List DueCall). MadeCalls store mid (slots_left slot_counts plan.behind.slots.items ++ tail) rest phases.Slots n) counts so.0 mid later.behind none c.requires.flushed
    (with_tail store mid (slots_left slot_counts plan.behind.slots.items) (slots_left so.0 later.behind.slots.items) tail phases.Slots n so.1)) in
    goes_on old mid plan later v phases.Slots n (state_of c.go_on.new.self) counts so.0 backs (some_few (length plan.behind.slots.items) c.requires.some).1 made
    (none_to_flush (AreFrom phases.Slots) counts slot_counts store plan.behind c.requires.written c.requires.flushed
    (slots_from_there slot_counts plan.behind.slots.items plan.behind.slot_flushes.items))
    (slots_stay old mid plan c.make_slots.new.slots v none c.requires.some c.in-Ok.ensures.moved)
    c.go_on.result low (inl (some_few (length plan.behind.slots.items) c.requires.some).0)
    (subst (λ (o : Option Planned). CarriesOn (record old { store = mid; planned = o }) later phases.Slots c.go_on.result (state_of c.go_on.new.self))
    c.requires.none c.go_on.ensures)

pub returns-in-Err-clause-goes : goal.returns-in-Err-clause-goes
returns-in-Err-clause-goes g c v backs low =
    let old : State = state_of c.args.self.now in
    let store : Store = c.args.self.now.store in
    let mid : Store = c.make_slots.new.store in
    let plan : Planned = c.args.planned in
    let popped : Planned = slotting plan c.make_slots.new.slots in
    let counts : ℕ → ℕ = backs.blocks.plan.counts in
    let slot_counts : ℕ → ℕ = backs.blocks.plan.slot_counts in
    let disk : ℕ = c.in-Err.failed.disk in
    let none : mid.due ≡ [] = c.make_slots.ensures.due ∙ c.requires.written in
    let tail : List DueCall = flushes_left phases.SlotsFlush plan.behind.slot_flushes.items in
    let lost = c.in-Err.ensures.failed slot_counts in
    let whole : FailedSlots store mid (left_calls counts slot_counts store.due plan.behind) (lost.0.rest ++ tail) disk =
    none_to_flush (λ (left : List DueCall). FailedSlots store mid left (lost.0.rest ++ tail) disk) counts slot_counts store plan.behind c.requires.written c.requires.flushed
    (failed_before store mid (slots_left slot_counts plan.behind.slots.items) lost.0.rest tail phases.Slots disk lost.0 refl) in
    leaves_out old mid plan popped v phases.Slots disk c.go_without.result (state_of c.go_without.new.self) backs low whole.0
    (none_to_flush (AreFrom phases.Slots) counts slot_counts store plan.behind c.requires.written c.requires.flushed
    (slots_from_there slot_counts plan.behind.slots.items plan.behind.slot_flushes.items)) refl
    (λ behind left. subst (λ (rest : List DueCall). LeavesRest old mid plan (record popped { behind = behind }) v disk rest) (sym whole.1)
    (slots_left_out old mid plan c.make_slots.new.slots v disk counts lost.1 lost.0.rest none c.requires.flushed c.requires.some lost.2 c.in-Err.ensures.moved_but behind left))
    (subst (λ (o : Option Planned). LeavesOut (record old { store = mid; planned = o }) popped disk phases.Slots c.go_without.result (state_of c.go_without.new.self))
    c.requires.none c.go_without.ensures.goes)

pub invariant_of-self : goal.invariant_of-self
invariant_of-self g c =
    let made = (c.in-Ok.ensures.made (λ disk. 0)).1 in record {
      disks = λ plan is. absurd (let no : None ≡ Some plan = sym c.requires.none ∙ is in cc);
      suspension = c.args.self.now.suspension ∙ still c.args.self.now.store c.make_slots.new.store made.out (ap shapes_of made.same.spaces);
      labels = labels_still c.args.self.now.store c.make_slots.new.store made.same.grew.starts (ap shapes_of made.same.spaces) c.args.self.now.labels;
      claim = c.args.self.now.claim;
    }

pub invariant_of-self-in-Err : goal.invariant_of-self-in-Err
invariant_of-self-in-Err g c =
    let failed = (c.in-Err.ensures.failed (λ disk. 0)).0 in record {
      disks = λ plan is. absurd (let no : None ≡ Some plan = sym c.requires.none ∙ is in cc);
      suspension = c.lacks_disks-self.ensures;
      labels = labels_still c.args.self.now.store c.make_slots.new.store failed.same.grew.starts (ap shapes_of failed.same.spaces) c.args.self.now.labels;
      claim = c.args.self.now.claim;
    }

pub go_on-requires-clause-there : goal.go_on-requires-clause-there
go_on-requires-clause-there g c =
    let there = c.requires.there c.args.planned refl in
    let made = (c.in-Ok.ensures.made (λ disk. 0)).1 in
    subst (λ (them : List (List ℕ)). HasDisks (length them) (Some (slotting c.args.planned c.make_slots.new.slots))) (sym made.same.grew.starts)
    (λ plan is. let same : slotting c.args.planned c.make_slots.new.slots ≡ plan = cc in
    subst (λ (p : Planned). IsPlannedOn (length c.args.self.now.store.disks.starts) p) same (record {
      behind = record { flushes = there.behind.flushes; slots = c.make_slots.ensures.there; slot_flushes = there.behind.slot_flushes };
      fits = there.fits;
    }))

pub go_without-requires-clause-there : goal.go_without-requires-clause-there
go_without-requires-clause-there g c =
    let there = c.requires.there c.args.planned refl in
    let failed = (c.in-Err.ensures.failed (λ disk. 0)).0 in
    subst (λ (them : List (List ℕ)). HasDisks (length them) (Some (slotting c.args.planned c.make_slots.new.slots))) (sym failed.same.grew.starts)
    (λ plan is. let same : slotting c.args.planned c.make_slots.new.slots ≡ plan = cc in
    subst (λ (p : Planned). IsPlannedOn (length c.args.self.now.store.disks.starts) p) same (record {
      behind = record { flushes = there.behind.flushes; slots = c.make_slots.ensures.there; slot_flushes = there.behind.slot_flushes };
      fits = there.fits;
    }))

pub returns-in-Ok-clause-grew : goal.returns-in-Ok-clause-grew
returns-in-Ok-clause-grew g c =
    let made = (c.in-Ok.ensures.made (λ disk. 0)).1 in
    subst (λ (disks : Disks). GrewTo c.args.self.now.store.disks disks)
    (sym (carried_disks (record (state_of c.args.self.now) { store = c.make_slots.new.store }) (slotting c.args.planned c.make_slots.new.slots) phases.Slots c.go_on.result (state_of c.go_on.new.self) c.go_on.ensures))
    made.same.grew

pub returns-in-Err-clause-grew : goal.returns-in-Err-clause-grew
returns-in-Err-clause-grew g c =
    let failed = (c.in-Err.ensures.failed (λ disk. 0)).0 in
    subst (λ (disks : Disks). GrewTo c.args.self.now.store.disks disks) (sym c.go_without.ensures.grew) failed.same.grew

pub returns-in-Ok-clause-writes : goal.returns-in-Ok-clause-writes
returns-in-Ok-clause-writes g c =
    let old : State = state_of c.args.self.now in
    let later : Planned = slotting c.args.planned c.make_slots.new.slots in
    writes_on old c.make_slots.new.store c.args.planned later phases.Slots c.go_on.result (state_of c.go_on.new.self)
    (spelled_fits c.args.planned.uberblock (c.requires.there c.args.planned refl).fits)
    (record {
      makes = slots_only old c.args.planned c.make_slots.new.store c.requires.written c.requires.flushed c.make_slots.ensures.makes;
      goes = same_flushes c.args.self.now.store c.args.planned c.make_slots.new.store later (c.in-Ok.ensures.made (λ disk. 0)).1.same.spaces
          (λ none. c.make_slots.ensures.due ∙ none) refl refl refl;
      stale = (c.in-Ok.ensures.made (λ disk. 0)).1.same.stale;
      out = none_goes_out c.args.self.now.store.out c.make_slots.new.store.out (c.in-Ok.ensures.made (λ disk. 0)).1.out;
    }) c.go_on.ensures

pub returns-in-Err-clause-writes : goal.returns-in-Err-clause-writes
returns-in-Err-clause-writes g c =
    let old : State = state_of c.args.self.now in
    let popped : Planned = slotting c.args.planned c.make_slots.new.slots in
    writes_without old c.make_slots.new.store c.args.planned popped c.in-Err.failed.disk phases.Slots c.go_without.result (state_of c.go_without.new.self)
    (spelled_fits c.args.planned.uberblock (c.requires.there c.args.planned refl).fits)
    (record {
      makes = slots_only old c.args.planned c.make_slots.new.store c.requires.written c.requires.flushed c.make_slots.ensures.makes;
      goes = same_flushes c.args.self.now.store c.args.planned c.make_slots.new.store popped (c.in-Err.ensures.failed (λ disk. 0)).0.same.spaces
          (λ none. c.make_slots.ensures.due ∙ none) refl refl refl;
      stale = (c.in-Err.ensures.failed (λ disk. 0)).0.same.stale;
      out = one_goes_out c.args.self.now.store.out c.in-Err.failed.disk c.make_slots.new.store.out (c.in-Err.ensures.failed (λ disk. 0)).0.out;
    }) (c.in-Err.ensures.failed (λ disk. 0)).0.out c.requires.none c.go_without.ensures.goes
