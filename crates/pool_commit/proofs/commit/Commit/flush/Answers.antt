use Rattle.std.proofs.Common.{◌≡◌, inl, List, ℕ, Option, Some, None, min, refl, sym, ap, ◌∙◌, subst, length, [], ◌++◌}
use Rattle.pool_commit.specs.Calls.{GrewTo}
use Rattle.model_disk.specs.Joint.{Disks}
use Rattle.pool_commit.specs.declared.device.Progress.{Progress}
use Rattle.pool_commit.specs.declared.kept.Planned.{Planned}
use Rattle.pool_commit.specs.HasDisks.{HasDisks, IsPlannedOn}
use Rattle.pool_commit.specs.Making.{flushes_left, slots_left, MadeCalls, FailedCall}
use Rattle.pool_commit.specs.Progress.{Progresses, CarriesOn, with_plan}
use Rattle.pool_commit.specs.Backs.{left_calls}
use Rattle.block_store.specs.Store.{Store}
use Rattle.pool_model.specs.View.{DueCall}
use Rattle.pool_commit.specs.State.{State}
use Rattle.pool_commit.specs.StateOf.{state_of}
use Rattle.pool_model.specs.declared.step.Phase.TheVariants as phases
use Rattle.block_store.specs.Places.{shapes_of}
use Rattle.pool_commit.proofs.Labels.{labels_still}
use Rattle.pool_commit.proofs.Phasing.{flushing, flushes_stay, none_due}
use Rattle.pool_commit.proofs.Spellings.{spelled_fits}
use Rattle.pool_commit.proofs.Suspending.{still}
use Rattle.pool_commit.proofs.Progressing.{AreFrom, goes_on, drops, behind_from, with_tail, failed_tail, some_few, carried_disks}
use Rattle.pool_commit.proofs.Writing.{flushed_now, no_items, none_goes_out, nothing_at_all, writes_dropped, writes_on}
use Rattle.pool_commit.proofs.commit.Commit.flush.Goals as goal

pub make_flushes-requires : goal.make_flushes-requires
make_flushes-requires g c = (c.requires.there c.args.planned refl).behind.flushes

pub invariant_of-self : goal.invariant_of-self
invariant_of-self g c = record {
  disks = λ plan is. absurd (let no : None ≡ Some plan = sym c.requires.none ∙ is in cc);
  suspension = c.args.self.now.suspension ∙ still c.args.self.now.store c.make_flushes.new.store (c.in-Ok.ensures.made phases.BlocksFlush (λ disk number. refl)).out (ap shapes_of (c.in-Ok.ensures.made phases.BlocksFlush (λ disk number. refl)).same.spaces);
  labels = labels_still c.args.self.now.store c.make_flushes.new.store (c.in-Ok.ensures.made phases.BlocksFlush (λ disk number. refl)).same.grew.starts (ap shapes_of (c.in-Ok.ensures.made phases.BlocksFlush (λ disk number. refl)).same.spaces) c.args.self.now.labels;
  claim = c.args.self.now.claim;
}

pub go_on-requires-clause-there : goal.go_on-requires-clause-there
go_on-requires-clause-there g c =
    let there = c.requires.there c.args.planned refl in
    let starts : c.make_flushes.new.store.disks.starts ≡ c.args.self.now.store.disks.starts = (c.in-Ok.ensures.made phases.BlocksFlush (λ disk number. refl)).same.grew.starts in
    subst (λ (them : List (List ℕ)). HasDisks (length them) (Some (flushing c.args.planned c.make_flushes.new.flushes))) (sym starts)
    (λ plan is. let same : flushing c.args.planned c.make_flushes.new.flushes ≡ plan = cc in
    subst (λ (p : Planned). IsPlannedOn (length c.args.self.now.store.disks.starts) p) same (record {
      behind = record { flushes = c.make_flushes.ensures.there; slots = there.behind.slots; slot_flushes = there.behind.slot_flushes };
      fits = there.fits;
    }))

pub returns-in-Ok-clause-goes : goal.returns-in-Ok-clause-goes
returns-in-Ok-clause-goes g c v backs low =
    let old : State = state_of c.args.self.now in
    let store : Store = c.args.self.now.store in
    let mid : Store = c.make_flushes.new.store in
    let plan : Planned = c.args.planned in
    let later : Planned = flushing plan c.make_flushes.new.flushes in
    let counts : ℕ → ℕ = backs.blocks.plan.counts in
    let slot_counts : ℕ → ℕ = backs.blocks.plan.slot_counts in
    let n : ℕ = min (length plan.behind.flushes.items) 4 in
    let none : mid.due ≡ [] = c.make_flushes.ensures.due ∙ c.requires.written in
    let tail : List DueCall = slots_left slot_counts plan.behind.slots.items ++ flushes_left phases.SlotsFlush plan.behind.slot_flushes.items in
    let so = c.in-Ok.ensures.made phases.BlocksFlush (λ disk number. refl) in
    let made : MadeCalls store mid (left_calls counts slot_counts store.due plan.behind) (left_calls counts slot_counts mid.due later.behind) phases.BlocksFlush n =
    none_due (λ (left : List DueCall). MadeCalls store mid left (left_calls counts slot_counts mid.due later.behind) phases.BlocksFlush n) counts slot_counts store plan.behind c.requires.written
    (none_due (λ (rest : List DueCall). MadeCalls store mid (flushes_left phases.BlocksFlush plan.behind.flushes.items ++ tail) rest phases.BlocksFlush n) counts slot_counts mid later.behind none
    (with_tail store mid (flushes_left phases.BlocksFlush plan.behind.flushes.items) (flushes_left phases.BlocksFlush later.behind.flushes.items) tail phases.BlocksFlush n so)) in
    goes_on old mid plan later v phases.BlocksFlush n (state_of c.go_on.new.self) counts slot_counts backs (some_few (length plan.behind.flushes.items) c.requires.some).1 made
    (none_due (AreFrom phases.BlocksFlush) counts slot_counts store plan.behind c.requires.written (behind_from slot_counts plan.behind))
    (flushes_stay old mid plan c.make_flushes.new.flushes v none so.same.grew.starts c.in-Ok.ensures.flushed c.make_flushes.ensures.content)
    c.go_on.result low (inl (some_few (length plan.behind.flushes.items) c.requires.some).0)
    (subst (λ (o : Option Planned). CarriesOn (record old { store = mid; planned = o }) later phases.BlocksFlush c.go_on.result (state_of c.go_on.new.self))
    c.requires.none c.go_on.ensures)

pub returns-in-Err-clause-goes : goal.returns-in-Err-clause-goes
returns-in-Err-clause-goes g c v backs low =
    let old : State = state_of c.args.self.now in
    let store : Store = c.args.self.now.store in
    let mid : Store = c.make_flushes.new.store in
    let plan : Planned = c.args.planned in
    let counts : ℕ → ℕ = backs.blocks.plan.counts in
    let slot_counts : ℕ → ℕ = backs.blocks.plan.slot_counts in
    let tail : List DueCall = slots_left slot_counts plan.behind.slots.items ++ flushes_left phases.SlotsFlush plan.behind.slot_flushes.items in
    subst (λ (p : Progress). Progresses (with_plan old c.args.planned) p (state_of c.drop_plan.new.self) v) (sym c.drop_plan.ensures.result)
    (drops old mid plan v phases.BlocksFlush c.in-Err.failed.disk (state_of c.drop_plan.new.self) backs
    (none_due (λ (left : List DueCall). FailedCall store mid left phases.BlocksFlush c.in-Err.failed.disk) counts slot_counts store plan.behind c.requires.written
    (failed_tail store mid (flushes_left phases.BlocksFlush plan.behind.flushes.items) tail phases.BlocksFlush c.in-Err.failed.disk
    (c.in-Err.ensures.failed phases.BlocksFlush (λ disk number. refl)).0))
    (none_due (AreFrom phases.BlocksFlush) counts slot_counts store plan.behind c.requires.written (behind_from slot_counts plan.behind)) (λ enough. refl)
    c.drop_plan.ensures.store c.drop_plan.ensures.kept (c.drop_plan.ensures.planned ∙ c.requires.none) c.drop_plan.ensures.stamp)

pub invariant_of-self-in-Err : goal.invariant_of-self-in-Err
invariant_of-self-in-Err g c =
    let failed = (c.in-Err.ensures.failed phases.BlocksFlush (λ disk number. refl)).0 in record {
      disks = λ plan is. absurd (let no : None ≡ Some plan = sym c.requires.none ∙ is in cc);
      suspension = c.lacks_disks-self.ensures;
      labels = labels_still c.args.self.now.store c.make_flushes.new.store failed.same.grew.starts (ap shapes_of failed.same.spaces) c.args.self.now.labels;
      claim = c.args.self.now.claim;
    }

pub returns-in-Ok-clause-grew : goal.returns-in-Ok-clause-grew
returns-in-Ok-clause-grew g c =
    let made = c.in-Ok.ensures.made phases.BlocksFlush (λ disk number. refl) in
    subst (λ (disks : Disks). GrewTo c.args.self.now.store.disks disks)
    (sym (carried_disks (record (state_of c.args.self.now) { store = c.make_flushes.new.store }) (flushing c.args.planned c.make_flushes.new.flushes) phases.BlocksFlush c.go_on.result (state_of c.go_on.new.self) c.go_on.ensures))
    made.same.grew

pub returns-in-Err-clause-grew : goal.returns-in-Err-clause-grew
returns-in-Err-clause-grew g c =
    let failed = (c.in-Err.ensures.failed phases.BlocksFlush (λ disk number. refl)).0 in
    subst (λ (disks : Disks). GrewTo c.args.self.now.store.disks disks) (sym c.drop_plan.ensures.store.disks) failed.same.grew

pub returns-in-Ok-clause-writes : goal.returns-in-Ok-clause-writes
returns-in-Ok-clause-writes g c =
    let old : State = state_of c.args.self.now in
    writes_on old c.make_flushes.new.store c.args.planned (flushing c.args.planned c.make_flushes.new.flushes) phases.BlocksFlush c.go_on.result (state_of c.go_on.new.self)
    (spelled_fits c.args.planned.uberblock (c.requires.there c.args.planned refl).fits)
    (record {
      makes = nothing_at_all old c.args.planned c.make_flushes.new.store c.make_flushes.ensures.makes;
      goes = record {
        uberblock = refl;
        leads = refl;
        spaces = (c.in-Ok.ensures.made phases.BlocksFlush (λ disk number. refl)).same.spaces;
        written = λ none. c.make_flushes.ensures.due ∙ none;
        begun = λ none. absurd (no_items c.args.planned.behind.flushes.items c.requires.some none);
        flushes = λ disk due. flushed_now c.make_flushes.new.store c.make_flushes.new.flushes.items disk (c.make_flushes.ensures.due ∙ c.requires.written)
            (c.in-Ok.ensures.flushed.flushed disk due);
      };
      stale = (c.in-Ok.ensures.made phases.BlocksFlush (λ disk number. refl)).same.stale;
      out = none_goes_out c.args.self.now.store.out c.make_flushes.new.store.out (c.in-Ok.ensures.made phases.BlocksFlush (λ disk number. refl)).out;
    }) c.go_on.ensures

pub returns-in-Err-clause-writes : goal.returns-in-Err-clause-writes
returns-in-Err-clause-writes g c =
    let old : State = state_of c.args.self.now in
    writes_dropped old c.make_flushes.new.store c.args.planned c.in-Err.failed.disk (state_of c.drop_plan.new.self) (spelled_fits c.args.planned.uberblock (c.requires.there c.args.planned refl).fits)
    (nothing_at_all old c.args.planned c.make_flushes.new.store c.make_flushes.ensures.makes)
    (c.in-Err.ensures.failed phases.BlocksFlush (λ disk number. refl)).0.same.spaces
    (c.in-Err.ensures.failed phases.BlocksFlush (λ disk number. refl)).0.same.stale
    (c.in-Err.ensures.failed phases.BlocksFlush (λ disk number. refl)).0.out
    c.drop_plan.ensures.store c.drop_plan.ensures.kept (c.drop_plan.ensures.planned ∙ c.requires.none) c.drop_plan.ensures.stamp
