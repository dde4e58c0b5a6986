use Rattle.std.proofs.Common.{◌≡◌, inl, inr, ⊎_elim, List, [], ℕ, Option, Some, None, min, refl, sym, ap, ◌∙◌, subst, length}
use Rattle.pool_commit.specs.Calls.{GrewTo}
use Rattle.model_disk.specs.Joint.{Disks}
use Rattle.pool_commit.specs.declared.kept.Planned.{Planned}
use Rattle.pool_commit.specs.HasDisks.{HasDisks, IsPlannedOn}
use Rattle.pool_commit.specs.Making.{flushes_left, MadeCalls}
use Rattle.pool_commit.specs.Progress.{CarriesOn, LeavesOut}
use Rattle.pool_commit.specs.Backs.{left_calls}
use Rattle.block_store.specs.Store.{Store}
use Rattle.pool_model.specs.View.{DueCall}
use Rattle.pool_commit.specs.State.{State}
use Rattle.pool_commit.specs.StateOf.{state_of}
use Rattle.pool_model.specs.declared.step.Phase.TheVariants as phases
use Rattle.block_store.specs.Places.{shapes_of}
use Rattle.pool_commit.proofs.Labels.{labels_still}
use Rattle.pool_commit.proofs.Phasing.{FailedEnd, ending, ends_stay, ends_left_out, none_to_show}
use Rattle.pool_commit.proofs.Spellings.{spelled_fits}
use Rattle.pool_commit.proofs.Suspending.{still}
use Rattle.pool_commit.proofs.Progressing.{AreFrom, goes_on, leaves_out, last_from_there, some_or_none, few_of, LeavesRest, carried_disks}
use Rattle.pool_commit.proofs.Writing.{none_goes_out, nothing_at_all, one_goes_out, same_flushes, writes_on, writes_without}
use Rattle.pool_commit.proofs.commit.Commit.flush_slots.Goals as goal

pub make_flushes-requires : goal.make_flushes-requires
make_flushes-requires g c = (c.requires.there c.args.planned refl).behind.slot_flushes

pub returns-in-Ok-clause-goes : goal.returns-in-Ok-clause-goes
returns-in-Ok-clause-goes g c v backs low =
    let old : State = state_of c.args.self.now in
    let store : Store = c.args.self.now.store in
    let mid : Store = c.make_flushes.new.store in
    let plan : Planned = c.args.planned in
    let later : Planned = ending plan c.make_flushes.new.flushes in
    let counts : ℕ → ℕ = backs.blocks.plan.counts in
    let slot_counts : ℕ → ℕ = backs.blocks.plan.slot_counts in
    let n : ℕ = min (length plan.behind.slot_flushes.items) 4 in
    let none : mid.due ≡ [] = c.make_flushes.ensures.due ∙ c.requires.written in
    let so = c.in-Ok.ensures.made phases.SlotsFlush (λ disk number. refl) in
    let made : MadeCalls store mid (left_calls counts slot_counts store.due plan.behind) (left_calls counts slot_counts mid.due later.behind) phases.SlotsFlush n =
    none_to_show (λ (left : List DueCall). MadeCalls store mid left (left_calls counts slot_counts mid.due later.behind) phases.SlotsFlush n) counts slot_counts store plan.behind
    c.requires.written c.requires.flushed c.requires.shown
    (none_to_show (λ (rest : List DueCall). MadeCalls store mid (flushes_left phases.SlotsFlush plan.behind.slot_flushes.items) rest phases.SlotsFlush n) counts slot_counts mid later.behind none
    c.requires.flushed c.requires.shown so) in
    goes_on old mid plan later v phases.SlotsFlush n (state_of c.go_on.new.self) counts slot_counts backs (few_of (length plan.behind.slot_flushes.items)) made
    (none_to_show (AreFrom phases.SlotsFlush) counts slot_counts store plan.behind c.requires.written c.requires.flushed c.requires.shown (last_from_there plan.behind.slot_flushes.items))
    (ends_stay old mid plan c.make_flushes.new.flushes v none c.requires.shown so.same.grew.starts c.in-Ok.ensures.flushed c.make_flushes.ensures.content)
    c.go_on.result low
    (⊎_elim inl (λ empty. inr (none_to_show (λ (left : List DueCall). left ≡ []) counts slot_counts store plan.behind c.requires.written c.requires.flushed c.requires.shown
    (ap (flushes_left phases.SlotsFlush) empty))) (some_or_none plan.behind.slot_flushes.items))
    (subst (λ (o : Option Planned). CarriesOn (record old { store = mid; planned = o }) later phases.SlotsFlush c.go_on.result (state_of c.go_on.new.self))
    c.requires.none c.go_on.ensures)

pub returns-in-Err-clause-goes : goal.returns-in-Err-clause-goes
returns-in-Err-clause-goes g c v backs low =
    let old : State = state_of c.args.self.now in
    let store : Store = c.args.self.now.store in
    let mid : Store = c.make_flushes.new.store in
    let plan : Planned = c.args.planned in
    let popped : Planned = ending plan c.make_flushes.new.flushes in
    let counts : ℕ → ℕ = backs.blocks.plan.counts in
    let slot_counts : ℕ → ℕ = backs.blocks.plan.slot_counts in
    let disk : ℕ = c.in-Err.failed.disk in
    let none : mid.due ≡ [] = c.make_flushes.ensures.due ∙ c.requires.written in
    let lost = c.in-Err.ensures.failed phases.SlotsFlush (λ disk number. refl) in
    let whole : FailedEnd store mid (left_calls counts slot_counts store.due plan.behind) lost.0.rest disk =
    none_to_show (λ (left : List DueCall). FailedEnd store mid left lost.0.rest disk) counts slot_counts store plan.behind c.requires.written c.requires.flushed c.requires.shown (lost.0, refl) in
    leaves_out old mid plan popped v phases.SlotsFlush disk c.go_without.result (state_of c.go_without.new.self) backs low whole.0
    (none_to_show (AreFrom phases.SlotsFlush) counts slot_counts store plan.behind c.requires.written c.requires.flushed c.requires.shown (last_from_there plan.behind.slot_flushes.items)) refl
    (λ behind left. subst (λ (rest : List DueCall). LeavesRest old mid plan (record popped { behind = behind }) v disk rest) (sym whole.1)
    (ends_left_out old mid plan c.make_flushes.new.flushes v disk counts slot_counts lost.0.rest none c.requires.flushed c.requires.shown lost.1 lost.0.same.grew.starts
    c.in-Err.ensures.flushed_but c.make_flushes.ensures.content behind left))
    (subst (λ (o : Option Planned). LeavesOut (record old { store = mid; planned = o }) popped disk phases.SlotsFlush c.go_without.result (state_of c.go_without.new.self))
    c.requires.none c.go_without.ensures.goes)

pub invariant_of-self : goal.invariant_of-self
invariant_of-self g c =
    let made = c.in-Ok.ensures.made phases.SlotsFlush (λ disk number. refl) in record {
      disks = λ plan is. absurd (let no : None ≡ Some plan = sym c.requires.none ∙ is in cc);
      suspension = c.args.self.now.suspension ∙ still c.args.self.now.store c.make_flushes.new.store made.out (ap shapes_of made.same.spaces);
      labels = labels_still c.args.self.now.store c.make_flushes.new.store made.same.grew.starts (ap shapes_of made.same.spaces) c.args.self.now.labels;
      claim = c.args.self.now.claim;
    }

pub invariant_of-self-in-Err : goal.invariant_of-self-in-Err
invariant_of-self-in-Err g c =
    let failed = (c.in-Err.ensures.failed phases.SlotsFlush (λ disk number. refl)).0 in record {
      disks = λ plan is. absurd (let no : None ≡ Some plan = sym c.requires.none ∙ is in cc);
      suspension = c.lacks_disks-self.ensures;
      labels = labels_still c.args.self.now.store c.make_flushes.new.store failed.same.grew.starts (ap shapes_of failed.same.spaces) c.args.self.now.labels;
      claim = c.args.self.now.claim;
    }

pub go_on-requires-clause-there : goal.go_on-requires-clause-there
go_on-requires-clause-there g c =
    let there = c.requires.there c.args.planned refl in
    let made = c.in-Ok.ensures.made phases.SlotsFlush (λ disk number. refl) in
    subst (λ (them : List (List ℕ)). HasDisks (length them) (Some (ending c.args.planned c.make_flushes.new.flushes))) (sym made.same.grew.starts)
    (λ plan is. let same : ending c.args.planned c.make_flushes.new.flushes ≡ plan = cc in
    subst (λ (p : Planned). IsPlannedOn (length c.args.self.now.store.disks.starts) p) same (record {
      behind = record { flushes = there.behind.flushes; slots = there.behind.slots; slot_flushes = c.make_flushes.ensures.there };
      fits = there.fits;
    }))

pub go_without-requires-clause-there : goal.go_without-requires-clause-there
go_without-requires-clause-there g c =
    let there = c.requires.there c.args.planned refl in
    let failed = (c.in-Err.ensures.failed phases.SlotsFlush (λ disk number. refl)).0 in
    subst (λ (them : List (List ℕ)). HasDisks (length them) (Some (ending c.args.planned c.make_flushes.new.flushes))) (sym failed.same.grew.starts)
    (λ plan is. let same : ending c.args.planned c.make_flushes.new.flushes ≡ plan = cc in
    subst (λ (p : Planned). IsPlannedOn (length c.args.self.now.store.disks.starts) p) same (record {
      behind = record { flushes = there.behind.flushes; slots = there.behind.slots; slot_flushes = c.make_flushes.ensures.there };
      fits = there.fits;
    }))

pub returns-in-Ok-clause-grew : goal.returns-in-Ok-clause-grew
returns-in-Ok-clause-grew g c =
    let made = c.in-Ok.ensures.made phases.SlotsFlush (λ disk number. refl) in
    subst (λ (disks : Disks). GrewTo c.args.self.now.store.disks disks)
    (sym (carried_disks (record (state_of c.args.self.now) { store = c.make_flushes.new.store }) (ending c.args.planned c.make_flushes.new.flushes) phases.SlotsFlush c.go_on.result (state_of c.go_on.new.self) c.go_on.ensures))
    made.same.grew

pub returns-in-Err-clause-grew : goal.returns-in-Err-clause-grew
returns-in-Err-clause-grew g c =
    let failed = (c.in-Err.ensures.failed phases.SlotsFlush (λ disk number. refl)).0 in
    subst (λ (disks : Disks). GrewTo c.args.self.now.store.disks disks) (sym c.go_without.ensures.grew) failed.same.grew

pub returns-in-Ok-clause-writes : goal.returns-in-Ok-clause-writes
returns-in-Ok-clause-writes g c =
    let old : State = state_of c.args.self.now in
    let later : Planned = ending c.args.planned c.make_flushes.new.flushes in
    writes_on old c.make_flushes.new.store c.args.planned later phases.SlotsFlush c.go_on.result (state_of c.go_on.new.self)
    (spelled_fits c.args.planned.uberblock (c.requires.there c.args.planned refl).fits)
    (record {
      makes = nothing_at_all old c.args.planned c.make_flushes.new.store c.make_flushes.ensures.makes;
      goes = same_flushes c.args.self.now.store c.args.planned c.make_flushes.new.store later
          (c.in-Ok.ensures.made phases.SlotsFlush (λ disk number. refl)).same.spaces (λ none. c.make_flushes.ensures.due ∙ none) refl refl refl;
      stale = (c.in-Ok.ensures.made phases.SlotsFlush (λ disk number. refl)).same.stale;
      out = none_goes_out c.args.self.now.store.out c.make_flushes.new.store.out (c.in-Ok.ensures.made phases.SlotsFlush (λ disk number. refl)).out;
    }) c.go_on.ensures

pub returns-in-Err-clause-writes : goal.returns-in-Err-clause-writes
returns-in-Err-clause-writes g c =
    let old : State = state_of c.args.self.now in
    let popped : Planned = ending c.args.planned c.make_flushes.new.flushes in
    writes_without old c.make_flushes.new.store c.args.planned popped c.in-Err.failed.disk phases.SlotsFlush c.go_without.result (state_of c.go_without.new.self)
    (spelled_fits c.args.planned.uberblock (c.requires.there c.args.planned refl).fits)
    (record {
      makes = nothing_at_all old c.args.planned c.make_flushes.new.store c.make_flushes.ensures.makes;
      goes = same_flushes c.args.self.now.store c.args.planned c.make_flushes.new.store popped
          (c.in-Err.ensures.failed phases.SlotsFlush (λ disk number. refl)).0.same.spaces (λ none. c.make_flushes.ensures.due ∙ none) refl refl refl;
      stale = (c.in-Err.ensures.failed phases.SlotsFlush (λ disk number. refl)).0.same.stale;
      out = one_goes_out c.args.self.now.store.out c.in-Err.failed.disk c.make_flushes.new.store.out
          (c.in-Err.ensures.failed phases.SlotsFlush (λ disk number. refl)).0.out;
    }) (c.in-Err.ensures.failed phases.SlotsFlush (λ disk number. refl)).0.out c.requires.none c.go_without.ensures.goes
