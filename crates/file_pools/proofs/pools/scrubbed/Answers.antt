use Rattle.std.proofs.Common.{inl, inr, refl}
use Rattle.pool_create.specs.OpenRefusal.TheVariants.{NoMemory}
use Rattle.file_pools.specs.Opening.{IsNotScrubbed}
use Rattle.file_pools.specs.declared.refusal.Refusal.TheVariants.{Pool}
use Rattle.file_pools.proofs.Causes.{for_cause}
use Rattle.file_pools.proofs.pools.scrubbed.Goals as goal

pub returns-in-Err-clause-refused : goal.returns-in-Err-clause-refused
returns-in-Err-clause-refused g c = inr (c.args.held.disks.items, c.in-Err.field-0-1.items, c.in-Err.ensures.refused)

pub returns-in_err-absent-clause-refused : goal.returns-in_err-absent-clause-refused
returns-in_err-absent-clause-refused g c = for_cause c.from_residual.result (IsNotScrubbed _) (Pool NoMemory) (inl refl) c.from_residual.ensures.1
