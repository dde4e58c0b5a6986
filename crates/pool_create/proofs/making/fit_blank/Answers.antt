use Rattle.std.proofs.Common.{◌≡◌, ◌⊎◌, ℕ, true, false, subst, sym}
use Rattle.std.specs.Prelude.{Ok}
use Rattle.model_disk.specs.Joint.{Disks}
use Rattle.model_disk.specs.Runs.{Makes, no_write}
use Rattle.pool_format.specs.Blank.{TellsBlank}
use Rattle.pool_open.specs.declared.refusal.Refusal.TheVariants.{NoMemory, DiskFault, BadConfig}
use Rattle.pool_slots.specs.Failures.{HasFailedOn}
use Rattle.pool_slots.proofs.Results.{if_err_is}
use Rattle.pool_create.specs.Stages.{IsUnfit}
use Rattle.pool_create.proofs.Stages.{fit_of, unfit_at_once, unfit_of}
use Rattle.pool_create.proofs.making.fit_blank.Goals as goal

pub returns-in_err-disks-clause-refused : goal.returns-in_err-disks-clause-refused
returns-in_err-disks-clause-refused g c =
    let failed = c.in_err-disks.field-0.0 in
    let it = c.args.new.now in
    if_err_is c.from_residual.result failed (λ f. IsUnfit c.args.disks it f.1 f.0) c.from_residual.ensures.1
    (subst (λ (d : Disks). IsUnfit c.args.disks it d failed.0) (sym c.in_err-disks.ensures.back) (unfit_at_once c.args.disks it failed.0 c.in_err-disks.ensures.refused))

pub returns-in-Err-clause-refused : goal.returns-in-Err-clause-refused
returns-in-Err-clause-refused g c =
    let cause = c.in-Err.refusal in
    let new = c.refuse_used.new.disks in
    let same = c.in_ok-disks.ensures.same in
    let W : Disks → Type 0 = λ d. (cause ≡ NoMemory) ⊎ (((cause ≡ BadConfig) × TellsBlank d new (Ok false)) ⊎ ((cause ≡ DiskFault) × ((which : ℕ) × HasFailedOn d new which))) in
    unfit_of c.args.disks new c.args.new.now cause (subst (λ (d : Disks). Makes no_write d new) same c.refuse_used.ensures.only) (subst W same c.in-Err.ensures.refused)

pub returns-in-Ok-clause-fit : goal.returns-in-Ok-clause-fit
returns-in-Ok-clause-fit g c =
    let new = c.refuse_used.new.disks in
    let same = c.in_ok-disks.ensures.same in
    fit_of c.args.disks new c.args.new.now c.in_ok-disks.ensures.may c.in_ok-disks.ensures.labels c.in_ok-disks.ensures.laid
    (subst (λ (d : Disks). Makes no_write d new) same c.refuse_used.ensures.only) (subst (λ (d : Disks). TellsBlank d new (Ok true)) same c.in-Ok.ensures.blank)
