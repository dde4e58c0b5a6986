use Rattle.std.proofs.Common.{zero, suc, arith}
use Rattle.tests_objects.proofs.objects.list_made.Goals as goal

pub extension-requires-clause-fit : goal.extension-requires-clause-fit
extension-requires-clause-fit c zero d low = c.born_in-first.ensures
extension-requires-clause-fit c (suc zero) d low = c.born_in-second.ensures
extension-requires-clause-fit c (suc (suc k)) d low = absurd (omega (arith, low))
