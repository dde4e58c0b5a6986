use Rattle.std.proofs.Common.{refl}
use Rattle.file_pools.proofs.Causes.{for_cause, held_scrubbed}
use Rattle.file_pools.proofs.pools.FilePoolsPools.scrub.Goals as goal

pub returns-in_err-held-clause-refused : goal.returns-in_err-held-clause-refused
returns-in_err-held-clause-refused g c =
    for_cause c.from_residual-in_err-held.result _ c.in_err-held.field-0.0 (refl, held_scrubbed _ c.in_err-held.field-0.0 c.in_err-held.ensures) c.from_residual-in_err-held.ensures.1
