use Rattle.std.proofs.Common.{◌≤◌, List, ℕ, length, sym, ap, ◌∙◌, subst}
use Rattle.std.specs.Prelude.{slice_index}
use Rattle.disk_set.specs.Outs.{Spans}
use Rattle.disk_set.proofs.Spans.{length_in, reached_in}
use Rattle.disk_set.proofs.set.DiskSet.enter.Goals as goal

pub invariant_of-self : goal.invariant_of-self
invariant_of-self g c =
    let spans : Spans = record { since = c.self.inside.since.items; group = c.self.inside.group; stale = c.self.inside.stale.items } in
    record {
      marks = c.self.invariant.marks;
      spans = ap length c.lower.ensures ∙ length_in spans c.args.group ∙ c.self.invariant.spans;
      reached = λ disk. subst (λ (them : List ℕ). slice_index them disk ≤ c.args.group) (sym c.lower.ensures) (reached_in spans c.args.group c.self.invariant.reached disk);
      due = c.self.invariant.due;
    }
