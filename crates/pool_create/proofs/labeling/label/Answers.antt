use Rattle.std.proofs.Common.{◌≡◌, ◌⊎◌, ℕ}
use Rattle.pool_open.specs.Causes.{of_format}
use Rattle.pool_open.specs.declared.refusal.Refusal.{Refusal}
use Rattle.pool_open.specs.declared.refusal.Refusal.TheVariants.{NoMemory, DiskFault}
use Rattle.pool_slots.specs.Failures.{HasFailedOn}
use Rattle.pool_slots.proofs.Results.{if_err_is}
use Rattle.pool_create.proofs.Causes.{of_labels}
use Rattle.pool_create.proofs.labeling.label.Goals as goal

pub returns-in_err-write_labels-clause-refused : goal.returns-in_err-write_labels-clause-refused
returns-in_err-write_labels-clause-refused g c =
    let cause = c.in_err-write_labels.field-0.0 in
    let old = c.args.disks.now in
    let new = c.write_labels.new.disks in
    if_err_is c.from_residual.result (of_format cause)
    (λ (refusal : Refusal). (refusal ≡ NoMemory) ⊎ ((refusal ≡ DiskFault) × ((which : ℕ) × HasFailedOn old new which))) c.from_residual.ensures.1
    (of_labels old new cause c.in_err-write_labels.ensures.failed)

pub returns-clause-unfailed : goal.returns-clause-unfailed
returns-clause-unfailed g c = λ disk failed. (c.in_ok-write_labels.ensures.failed disk).0 failed
