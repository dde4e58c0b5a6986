use Rattle.std.proofs.Common.{◌∙◌, ℕ, [], inl, inr, ap, subst}
use Rattle.pool_open.specs.Roots.{IsRootNotRead, told_as}
use Rattle.pool_open.proofs.known.read_first.Goals as goal

pub returns-in-Err-clause-refused : goal.returns-in-Err-clause-refused
returns-in-Err-clause-refused g c =
    let out = c.args.out.now in
    let it = subst (λ (most : ℕ). IsRootNotRead c.args.disks c.in-Err.disks c.args.shapes.now out [] c.args.taken.now.group c.args.taken.now.root most c.in-Err.cause)
    c.count_sectors-left.ensures c.in-Err.ensures.refused in
    record {
      only = it.only;
      why = elim it.why [
        | inl memory ↦ inl (c.told_as.ensures ∙ ap (told_as out) memory)
        | inr refuses ↦ inr (record { cause = c.in-Err.cause; refused = refuses; told = c.told_as.ensures })
      ];
    }
