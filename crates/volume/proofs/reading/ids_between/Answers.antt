use Rattle.std.proofs.Common.{refl}
use Rattle.std.proofs.lemmas.Iterator.{YieldsList-from_range, items_from_collect}
use Rattle.volume.proofs.reading.ids_between.Goals as goal

pub returns : goal.returns
returns c = items_from_collect c.collect.result c.collect.ensures.ran (YieldsList-from_range c.args.first c.args.end _ refl refl)
