use Rattle.std.proofs.Common.{◌≡◌, ◌⊎◌, ℕ, false}
use Rattle.std.specs.Prelude.{Ok}
use Rattle.pool_format.specs.Blank.{TellsBlank}
use Rattle.pool_open.specs.Causes.{of_format}
use Rattle.pool_open.specs.declared.refusal.Refusal.{Refusal}
use Rattle.pool_open.specs.declared.refusal.Refusal.TheVariants.{NoMemory, DiskFault, BadConfig}
use Rattle.pool_slots.specs.Failures.{HasFailedOn}
use Rattle.pool_slots.proofs.ReadRuns.{reads_made}
use Rattle.pool_slots.proofs.Results.{if_err_is}
use Rattle.pool_create.proofs.Causes.{of_blank}
use Rattle.pool_create.proofs.labeling.refuse_used.Goals as goal

pub returns-in_err-are_blank-clause-only : goal.returns-in_err-are_blank-clause-only
returns-in_err-are_blank-clause-only g c = reads_made c.are_blank.ensures.only

pub returns-in_err-are_blank-clause-refused : goal.returns-in_err-are_blank-clause-refused
returns-in_err-are_blank-clause-refused g c =
    let cause = c.in_err-are_blank.field-0.0 in
    let old = c.args.disks.now in
    let new = c.are_blank.new.disks in
    if_err_is c.from_residual.result (of_format cause)
    (λ (refusal : Refusal). (refusal ≡ NoMemory) ⊎ (((refusal ≡ BadConfig) × TellsBlank old new (Ok false)) ⊎ ((refusal ≡ DiskFault) × ((which : ℕ) × HasFailedOn old new which)))) c.from_residual.ensures.1
    (of_blank old new cause (TellsBlank old new (Ok false)) c.in_err-are_blank.ensures.tells)

pub returns-clause-only : goal.returns-clause-only
returns-clause-only g c = reads_made c.are_blank.ensures.only
