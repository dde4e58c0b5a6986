use Rattle.std.proofs.Common.{◌∷◌, ◌++◌, [], sym, subst}
use Rattle.programs.specs.ClaimStops.{AreKept}
use Rattle.programs.proofs.DisksTold.{kept_more}
use Rattle.programs.proofs.claim_stops.all_kept.Goals as goal

pub loop-member-preserved : goal.loop-member-preserved
loop-member-preserved c =
    subst (λ all. AreKept (c.loop-member.yielded ++ c.in-Some.member ∷ []) all) (sym c.in_ok-push.ensures.items)
    (kept_more c.loop-member.yielded c.loop-member.all.items c.in-Some.member c.kept.result c.loop-member.invariant c.kept.ensures)
