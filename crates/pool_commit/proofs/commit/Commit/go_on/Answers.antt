use Rattle.std.proofs.Common.{◌≡◌, [], Some, None, refl, sym, ap, ◌∙◌, subst, arith}
use Rattle.std.specs.Prelude.{IsTrue}
use Rattle.model_disk.specs.Joint.{Disks}
use Rattle.block_store.specs.Places.{filled, planned}
use Rattle.block_store.specs.Store.{Spans}
use Rattle.pool_commit.proofs.Holding.{marks_then}
use Rattle.pool_commit.proofs.Labels.{labels_still}
use Rattle.pool_commit.proofs.Progressing.{no_length}
use Rattle.pool_commit.proofs.Suspending.{still}
use Rattle.pool_commit.proofs.commit.Commit.go_on.Goals as goal

pub returns : goal.returns
returns g c =
    let due = c.if-due_count-gt0.false in
    let done = c.is_done.ensures.0 (subst IsTrue (sym c.if-not-is_done.false) refl) in
    let none : c.args.self.now.store.due ≡ [] = no_length c.args.self.now.store.due (omega (arith, due, c.due_count.ensures)) in (
      omega (arith, due, c.due_count.ensures, done),
      record {
        disks = c.drop_plan.ensures.disks ∙ c.finish_plan.ensures.disks;
        out = c.drop_plan.ensures.out ∙ c.finish_plan.ensures.out;
        stale = ap (λ (s : Spans). s.stale) c.drop_plan.ensures.spans ∙ ap (λ (s : Spans). s.stale) c.finish_plan.ensures.spans;
        shapes = c.drop_plan.ensures.shapes ∙ c.finish_plan.ensures.shapes;
        filled_by = marks_then c.args.self.now.store.spaces c.finish_plan.new.self.spaces c.drop_plan.new.self.spaces planned filled filled
            c.finish_plan.ensures.shapes c.finish_plan.ensures.filled c.drop_plan.ensures.filled;
        plans = λ stored planned plans. c.drop_plan.ensures.plans planned (c.finish_plan.ensures.stored stored planned plans none);
      },
      c.shift.ensures,
      c.requires.none,
      refl,
    )

pub invariant_of-self-2 : goal.invariant_of-self-2
invariant_of-self-2 g c = record {
  disks = λ plan is. absurd (let no : None ≡ Some plan = sym c.requires.none ∙ is in cc);
  suspension = c.args.self.now.suspension ∙ still c.args.self.now.store c.finish_plan.new.self c.finish_plan.ensures.out c.finish_plan.ensures.shapes
      ∙ still c.finish_plan.new.self c.drop_plan.new.self c.drop_plan.ensures.out c.drop_plan.ensures.shapes;
  labels = labels_still c.args.self.now.store c.drop_plan.new.self (ap (λ (d : Disks). d.starts) (c.drop_plan.ensures.disks ∙ c.finish_plan.ensures.disks))
      (c.drop_plan.ensures.shapes ∙ c.finish_plan.ensures.shapes) c.args.self.now.labels;
  claim = c.args.self.now.claim;
}
