use Rattle.std.proofs.Common.{refl, arith}
use Rattle.std.proofs.lemmas.Bool.Decides.{nat_tests}
use Rattle.pool_maps.proofs.judging.is_row.Goals as goal

pub returns-then-is_place : goal.returns-then-is_place
returns-then-is_place g c = (
  λ yes. (c.if-is_place.ensures.0 refl, grind (arith, nat_tests, yes)),
  λ is. let behind = is.1 in grind (arith, nat_tests, behind),
)
