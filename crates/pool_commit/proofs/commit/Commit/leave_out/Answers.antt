use Rattle.std.proofs.Common.{rules, ◌≡◌, ℕ, List, Some, length, ap, inl, inr, refl, sym, ◌∙◌, subst, arith}
use Rattle.model_disk.specs.Joint.{Disks}
use Rattle.block_store.specs.Store.{Spans}
use Rattle.pool_commit.specs.declared.kept.Planned.{Planned}
use Rattle.pool_commit.specs.HasDisks.{HasDisks, IsPlannedOn}
use Rattle.pool_commit.proofs.GoingOut.{there_still}
use Rattle.pool_commit.proofs.Labels.{labels_still}
use Rattle.pool_commit.proofs.Progressing.{no_length}
use Rattle.pool_commit.proofs.Suspending.{still}
use Rattle.pool_commit.proofs.commit.Commit.leave_out.Goals.{then-due_count-gt0-via-then-due_count-gt0, then-due_count-gt0-via-else-due_count-gt0+then-not-is_empty}
use Rattle.pool_commit.proofs.commit.Commit.leave_out.Goals as goal

pub invariant_of-self : goal.invariant_of-self
invariant_of-self g c = record {
  disks = subst (λ (d : Disks). HasDisks (length d.starts) c.args.self.now.planned) (sym c.drop_plan.ensures.disks) c.args.self.now.disks;
  suspension = c.args.self.now.suspension ∙ still c.args.self.now.store c.drop_plan.new.self c.drop_plan.ensures.out c.drop_plan.ensures.shapes;
  labels = labels_still c.args.self.now.store c.drop_plan.new.self (ap (λ (d : Disks). d.starts) c.drop_plan.ensures.disks) c.drop_plan.ensures.shapes c.args.self.now.labels;
  claim = c.args.self.now.claim;
}

pub returns-then-due_count-gt0 : goal.returns-then-due_count-gt0
returns-then-due_count-gt0 g c = inl (
  elim c.then-due_count-gt0.branch [
    | then-due_count-gt0-via-then-due_count-gt0 w ↦ inl (omega (arith, w.if-due_count-gt0.true, c.due_count.ensures))
    | then-due_count-gt0-via-else-due_count-gt0+then-not-is_empty w ↦ inr (search rules)
  ],
  record {
    disks = c.drop_plan.ensures.disks;
    out = c.drop_plan.ensures.out;
    stale = ap (λ (s : Spans). s.stale) c.drop_plan.ensures.spans;
    shapes = c.drop_plan.ensures.shapes;
    filled_by = c.drop_plan.ensures.filled;
    plans = λ stored planned plans. c.drop_plan.ensures.plans stored (record { held = plans.held; placed = plans.stored_placed });
  },
  refl,
  refl,
  refl,
)

pub invariant_of-self-2 : goal.invariant_of-self-2
invariant_of-self-2 g c = record {
  disks = λ plan is. let same : record c.args.planned { behind = c.leave_out.new.self } ≡ plan = cc in
      subst (λ (p : Planned). IsPlannedOn (length c.args.self.now.store.disks.starts) p) same
      (there_still (length c.args.self.now.store.disks.starts) c.args.disk c.args.planned c.leave_out.new.self (c.requires.there c.args.planned refl) c.leave_out.ensures);
  suspension = c.args.self.now.suspension;
  labels = c.args.self.now.labels;
  claim = c.args.self.now.claim;
}

pub returns : goal.returns
returns g c = inr (
  no_length c.args.self.now.store.due (omega (arith, c.if-due_count-gt0.false, c.due_count.ensures)),
  no_length c.args.planned.behind.flushes.items (search rules),
  c.leave_out.new.self,
  c.leave_out.ensures,
  refl,
)
