use Rattle.std.proofs.Common.{◌≡◌, ◌⊎◌, Bool, List, subst, sym}
use Rattle.model_disk.specs.Joint.{Disks}
use Rattle.block_store.specs.Opened.{MayBeOpened}
use Rattle.pool_slots.proofs.Results.{if_err_is}
use Rattle.pool_open.specs.Opening.{IsNotOpenedOver}
use Rattle.pool_open.specs.Retried.{IsNotOpenedAtLast}
use Rattle.pool_open.specs.declared.refusal.Refusal.TheVariants.{NoMemory, BadConfig}
use Rattle.stale_disks.specs.Rules.{guids_in}
use Rattle.vdev_label.specs.Plain.{config_view}
use Rattle.pool_open.proofs.Retried.{refused_first}
use Rattle.pool_open.proofs.Stages.{refused_at_once}
use Rattle.pool_open.proofs.attempts.open_over.Goals as goal

pub returns-in_err-disks-clause-refused : goal.returns-in_err-disks-clause-refused
returns-in_err-disks-clause-refused g c =
    let failed = c.in_err-disks.field-0.0 in
    let cause = failed.0 in
    let W : List Bool → Type 0 = λ xs. (cause ≡ NoMemory) ⊎ ((cause ≡ BadConfig) × ¬ MayBeOpened c.args.disks.starts c.args.shapes.now xs) in
    if_err_is c.from_residual.result failed (λ f. IsNotOpenedAtLast (guids_in (config_view c.args.config.now.value)) c.args.disks c.args.shapes.now c.args.out.items c.args.rewind f.1 f.0) c.from_residual.ensures.1
    (refused_first (guids_in (config_view c.args.config.now.value)) c.args.disks c.args.shapes.now c.args.out.items c.args.rewind failed.1 cause
    (subst (λ (d : Disks). IsNotOpenedOver (guids_in (config_view c.args.config.now.value)) c.args.disks c.args.shapes.now c.args.out.items c.args.rewind d cause) (sym c.in_err-disks.ensures.back)
    (refused_at_once (guids_in (config_view c.args.config.now.value)) c.args.out.items c.args.rewind c.args.disks c.args.shapes.now cause c.requires.out (subst W c.deref.ensures.value c.in_err-disks.ensures.refused))))
