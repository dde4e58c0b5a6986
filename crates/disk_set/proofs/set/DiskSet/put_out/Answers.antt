use Rattle.std.proofs.Common.{ℕ, Bool, true, ◌∙◌, arith}
use Rattle.std.proofs.Math.ListN.{length-set}
use Rattle.disk_set.proofs.Spans.{set_reached}
use Rattle.disk_set.proofs.set.DiskSet.put_out.Goals as goal
use Rattle.disk_set.proofs.set.DiskSet.put_out.Goals.{then-not-index, else-not-index}

pub invariant_of-self : goal.invariant_of-self
invariant_of-self g c =
    let marks = length-set {A = Bool} c.self.inside.out.items c.args.disk true ∙ c.self.invariant.marks in
    elim c.if-not-index.branch [
      | then-not-index w ↦ rw w.self-inside-is (record {
        marks = marks;
        spans = length-set {A = ℕ} c.self.inside.since.items c.args.disk c.self.inside.group ∙ c.self.invariant.spans;
        reached = λ disk. set_reached c.self.inside.since.items c.args.disk disk c.self.inside.group c.self.inside.group c.self.invariant.reached (omega arith);
        due = c.self.invariant.due;
      })
      | else-not-index w ↦ rw w.self-inside-is (record {
        marks = marks;
        spans = c.self.invariant.spans;
        reached = c.self.invariant.reached;
        due = c.self.invariant.due;
      })
    ]
