use Rattle.std.proofs.Common.{sym, ap, ◌∙◌, subst, length}
use Rattle.model_disk.specs.Joint.{Disks}
use Rattle.pool_commit.specs.HasDisks.{HasDisks}
use Rattle.pool_commit.proofs.Labels.{labels_still}
use Rattle.pool_commit.proofs.Suspending.{still}
use Rattle.pool_commit.proofs.commit.Commit.drop_plan.Goals as goal

pub invariant_of-self : goal.invariant_of-self
invariant_of-self g c = record {
  disks = subst (λ (d : Disks). HasDisks (length d.starts) c.args.self.now.planned) (sym c.drop_plan.ensures.disks) c.args.self.now.disks;
  suspension = c.args.self.now.suspension ∙ still c.args.self.now.store c.drop_plan.new.self c.drop_plan.ensures.out c.drop_plan.ensures.shapes;
  labels = labels_still c.args.self.now.store c.drop_plan.new.self (ap (λ (d : Disks). d.starts) c.drop_plan.ensures.disks) c.drop_plan.ensures.shapes c.args.self.now.labels;
  claim = c.args.self.now.claim;
}
