use Rattle.std.proofs.Common.{◌≡◌, ◌∙◌, ℕ, ap, sym, slice_set}
use Rattle.pool_members.proofs.Restoring.{the_some}
use Rattle.pool_members.proofs.arranging.put.Goals as goal

pub returns-in-Some-clause-named : goal.returns-in-Some-clause-named
returns-in-Some-clause-named g c child is =
    let here : c.in-Some.child ≡ child = the_some c.in-Some.child child (sym c.in-Some.is ∙ is) in (
      c.present.result,
      ap (λ (k : ℕ). slice_set c.args.members.now.items k c.present.result) here,
      c.present.ensures.disk,
      c.present.ensures.start,
      c.present.ensures.calls,
    )
