use Rattle.std.proofs.Common.{length, sym, ap, subst, ◌∙◌}
use Rattle.raidz_io.specs.Stands.{IsWithin}
use Rattle.disk_set.proofs.set.DiskSet.read_at.Goals as goal

pub invariant_of-self : goal.invariant_of-self
invariant_of-self g c = record {
  marks = c.self.invariant.marks ∙ ap length (sym c.read.ensures.starts);
  spans = c.self.invariant.spans ∙ ap length (sym c.read.ensures.starts);
  reached = c.self.invariant.reached;
  due = λ write held. subst (λ starts. IsWithin starts write) (sym c.read.ensures.starts) (c.self.invariant.due write held);
}
