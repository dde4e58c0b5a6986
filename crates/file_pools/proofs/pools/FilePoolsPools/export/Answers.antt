use Rattle.std.proofs.Common.{inr, refl, subst}
use Rattle.pool_create.specs.OpenExporting.{IsNotExported}
use Rattle.file_pools.proofs.pools.FilePoolsPools.export.Goals as goal

pub returns-in-Err-Stopped-clause-refused : goal.returns-in-Err-Stopped-clause-refused
returns-in-Err-Stopped-clause-refused g c =
    (refl, inr (c.in-Err-Stopped.field-0-1.items, subst (IsNotExported _ (record { core = c.args.pool; uberblock = c.args.front.uberblock })) c.in-Err-Stopped.field-0-is c.in-Err-Stopped.ensures.not))
