use Rattle.std.proofs.Common.{Contains, inl, inr, sym, subst}
use Rattle.std.proofs.lemmas.List.Elements.{Contains-append_cases}
use Rattle.raidz_io.specs.Stands.{IsWithin}
use Rattle.disk_set.specs.Set.{PoolDisks}
use Rattle.disk_set.proofs.set.DiskSet.add_due.Goals as goal

pub invariant_of-self-2 : goal.invariant_of-self-2
invariant_of-self-2 g c = record {
  marks = c.self.invariant.marks;
  spans = c.self.invariant.spans;
  reached = c.self.invariant.reached;
  due = λ write held.
      elim (Contains-append_cases c.self.inside.due.items c.args.writes.items write (subst (λ xs. Contains xs write) c.in_ok-append.ensures.items held)) [
        | inl before ↦ c.self.invariant.due write before
        | inr here ↦ subst (λ (s : PoolDisks). IsWithin s.disks.starts write) (sym c.self.view_is) (c.requires write here)
      ];
}
