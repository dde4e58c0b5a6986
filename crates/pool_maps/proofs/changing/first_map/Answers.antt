use Rattle.objset.specs.Changes.{after_change}
use Rattle.std.proofs.Common.{None}
use Rattle.pool_maps.proofs.Short.{condensed_says}
use Rattle.pool_maps.proofs.changing.first_map.Goals as goal

pub returns-in-Ok-clause-value : goal.returns-in-Ok-clause-value
returns-in-Ok-clause-value c = condensed_says (after_change c.in-Ok.change None) c.args.update.now c.requires c.in-Ok.ensures.made
