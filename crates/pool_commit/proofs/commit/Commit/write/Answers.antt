use Rattle.std.proofs.Common.{◌≡◌, inl, List, ℕ, Option, Some, None, min, refl, sym, ap, ◌∙◌, subst, length}
use Rattle.pool_commit.specs.declared.device.Progress.{Progress}
use Rattle.pool_commit.specs.declared.kept.Planned.{Planned}
use Rattle.pool_commit.specs.HasDisks.{HasDisks}
use Rattle.pool_commit.specs.Making.{behind_left, writes_left}
use Rattle.pool_commit.specs.Progress.{Progresses, CarriesOn, with_plan}
use Rattle.pool_commit.specs.Backs.{left_calls}
use Rattle.pool_commit.specs.State.{State}
use Rattle.pool_commit.specs.StateOf.{state_of}
use Rattle.pool_model.specs.declared.step.Phase.TheVariants as phases
use Rattle.block_store.specs.Places.{shapes_of}
use Rattle.pool_commit.proofs.Labels.{labels_still}
use Rattle.pool_commit.proofs.Phasing.{writes_stay}
use Rattle.pool_commit.proofs.Spellings.{spelled_fits}
use Rattle.pool_commit.proofs.Suspending.{still}
use Rattle.pool_commit.proofs.Progressing.{goes_on, drops, all_from_first, with_tail, failed_tail, some_few}
use Rattle.pool_commit.proofs.Writing.{blocks_only, no_due, none_goes_out, same_flushes, writes_dropped, writes_on}
use Rattle.pool_commit.proofs.commit.Commit.write.Goals as goal

pub invariant_of-self : goal.invariant_of-self
invariant_of-self g c = record {
  disks = λ plan is. absurd (let no : None ≡ Some plan = sym c.requires.none ∙ is in cc);
  suspension = c.args.self.now.suspension ∙ still c.args.self.now.store c.make_writes.new.store (c.in-Ok.ensures.made (λ disk. 0)).1.out (ap shapes_of (c.in-Ok.ensures.made (λ disk. 0)).1.same.spaces);
  labels = labels_still c.args.self.now.store c.make_writes.new.store (c.in-Ok.ensures.made (λ disk. 0)).1.same.grew.starts (ap shapes_of (c.in-Ok.ensures.made (λ disk. 0)).1.same.spaces) c.args.self.now.labels;
  claim = c.args.self.now.claim;
}

pub go_on-requires-clause-there : goal.go_on-requires-clause-there
go_on-requires-clause-there g c = subst (λ (starts : List (List ℕ)). HasDisks (length starts) (Some c.args.planned)) (sym (c.in-Ok.ensures.made (λ disk. 0)).1.same.grew.starts) c.requires.there

pub returns-in-Ok-clause-goes : goal.returns-in-Ok-clause-goes
returns-in-Ok-clause-goes g c v backs low =
    let old : State = state_of c.args.self.now in
    let counts : ℕ → ℕ = backs.blocks.plan.counts in
    let slot_counts : ℕ → ℕ = backs.blocks.plan.slot_counts in
    let count = some_few (length c.args.self.now.store.due) c.requires.some in
    let so = c.in-Ok.ensures.made counts in
    goes_on old c.make_writes.new.store c.args.planned c.args.planned v phases.Blocks (min (length c.args.self.now.store.due) 4) (state_of c.go_on.new.self) so.0 slot_counts
    backs count.1
    (with_tail c.args.self.now.store c.make_writes.new.store (writes_left counts c.args.self.now.store.due) (writes_left so.0 c.make_writes.new.store.due)
    (behind_left slot_counts c.args.planned.behind) phases.Blocks (min (length c.args.self.now.store.due) 4) so.1)
    (all_from_first (left_calls counts slot_counts c.args.self.now.store.due c.args.planned.behind)) (writes_stay old c.make_writes.new.store c.args.planned v c.requires.some)
    c.go_on.result low (inl count.0)
    (subst (λ (o : Option Planned). CarriesOn (record old { store = c.make_writes.new.store; planned = o }) c.args.planned phases.Blocks c.go_on.result (state_of c.go_on.new.self))
    c.requires.none c.go_on.ensures)

pub returns-in-Err-clause-goes : goal.returns-in-Err-clause-goes
returns-in-Err-clause-goes g c v backs low =
    let old : State = state_of c.args.self.now in
    let counts : ℕ → ℕ = backs.blocks.plan.counts in
    let slot_counts : ℕ → ℕ = backs.blocks.plan.slot_counts in
    subst (λ (p : Progress). Progresses (with_plan old c.args.planned) p (state_of c.drop_plan.new.self) v) (sym c.drop_plan.ensures.result)
    (drops old c.make_writes.new.store c.args.planned v phases.Blocks c.in-Err.failed.disk (state_of c.drop_plan.new.self) backs
    (failed_tail c.args.self.now.store c.make_writes.new.store (writes_left counts c.args.self.now.store.due) (behind_left slot_counts c.args.planned.behind) phases.Blocks c.in-Err.failed.disk
    (c.in-Err.ensures.failed counts))
    (all_from_first (left_calls counts slot_counts c.args.self.now.store.due c.args.planned.behind)) (λ enough. refl)
    c.drop_plan.ensures.store c.drop_plan.ensures.kept (c.drop_plan.ensures.planned ∙ c.requires.none) c.drop_plan.ensures.stamp)

pub invariant_of-self-in-Err : goal.invariant_of-self-in-Err
invariant_of-self-in-Err g c =
    let failed = c.in-Err.ensures.failed (λ disk. 0) in record {
      disks = λ plan is. absurd (let no : None ≡ Some plan = sym c.requires.none ∙ is in cc);
      suspension = c.lacks_disks-self.ensures;
      labels = labels_still c.args.self.now.store c.make_writes.new.store failed.same.grew.starts (ap shapes_of failed.same.spaces) c.args.self.now.labels;
      claim = c.args.self.now.claim;
    }

pub returns-in-Ok-clause-writes : goal.returns-in-Ok-clause-writes
returns-in-Ok-clause-writes g c =
    let old : State = state_of c.args.self.now in
    writes_on old c.make_writes.new.store c.args.planned c.args.planned phases.Blocks c.go_on.result (state_of c.go_on.new.self)
    (spelled_fits c.args.planned.uberblock (c.requires.there c.args.planned refl).fits)
    (record {
      makes = blocks_only old c.args.planned c.make_writes.new.store c.make_writes.ensures.makes;
      goes = same_flushes c.args.self.now.store c.args.planned c.make_writes.new.store c.args.planned (c.in-Ok.ensures.made (λ disk. 0)).1.same.spaces
          (λ none. absurd (no_due c.args.self.now.store c.requires.some none)) refl refl refl;
      stale = (c.in-Ok.ensures.made (λ disk. 0)).1.same.stale;
      out = none_goes_out c.args.self.now.store.out c.make_writes.new.store.out (c.in-Ok.ensures.made (λ disk. 0)).1.out;
    }) c.go_on.ensures

pub returns-in-Err-clause-writes : goal.returns-in-Err-clause-writes
returns-in-Err-clause-writes g c =
    let old : State = state_of c.args.self.now in
    writes_dropped old c.make_writes.new.store c.args.planned c.in-Err.failed.disk (state_of c.drop_plan.new.self) (spelled_fits c.args.planned.uberblock (c.requires.there c.args.planned refl).fits)
    (blocks_only old c.args.planned c.make_writes.new.store c.make_writes.ensures.makes) (c.in-Err.ensures.failed (λ disk. 0)).same.spaces
    (c.in-Err.ensures.failed (λ disk. 0)).same.stale
    (c.in-Err.ensures.failed (λ disk. 0)).out
    c.drop_plan.ensures.store c.drop_plan.ensures.kept (c.drop_plan.ensures.planned ∙ c.requires.none) c.drop_plan.ensures.stamp
