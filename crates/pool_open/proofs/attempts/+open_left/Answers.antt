use Rattle.std.proofs.Common.{◌∙◌, Bool, List, ap, sym, subst, arith}
use Rattle.std.proofs.lemmas.Result.{IfErr-weaker, IfOk-weaker}
use Rattle.block_store.specs.Store.{is_out}
use Rattle.pool_model.specs.View.{is_tolerable}
use Rattle.pool_slots.proofs.Results.{if_err_is}
use Rattle.pool_core.specs.StateOf.{state_of}
use Rattle.pool_open.specs.Opening.{IsOpenedOver}
use Rattle.pool_open.specs.Retried.{IsAttempt, IsFailedClaim, IsNotOpenedAtLast, IsOpenedAtLast}
use Rattle.pool_open.specs.Words.{vdevs_in}
use Rattle.stale_disks.specs.Rules.{guids_in}
use Rattle.vdev_label.specs.Plain.{config_view}
use Rattle.pool_open.proofs.Retried.{fewer_left, labels_left, laid_left, may_left, opened_first, opened_next, refused_first, refused_next, refused_with_few}
use Rattle.pool_open.proofs.attempts.+open_left.Goals as goal

pub returns-in_err-pool-clause-refused : goal.returns-in_err-pool-clause-refused
returns-in_err-pool-clause-refused g t c =
    let failed = c.in_err-pool.field-0.0 in
    if_err_is c.from_residual.result failed (λ f. IsNotOpenedAtLast (guids_in (config_view c.args.config.now.value)) c.args.disks c.args.shapes.now c.args.out.items c.args.rewind f.1 f.0) c.from_residual.ensures.1
    (refused_first (guids_in (config_view c.args.config.now.value)) c.args.disks c.args.shapes.now c.args.out.items c.args.rewind failed.1 failed.0 c.in_err-pool.ensures.refused)

pub returns-in-Opened-clause-opened : goal.returns-in-Opened-clause-opened
returns-in-Opened-clause-opened g t c =
    let it : IsOpenedOver c.args.disks c.args.shapes.now c.args.out.items c.args.rewind c.in-Opened.pool.uberblock (state_of c.in-Opened.pool.core) =
    subst (IsAttempt g.D.Disk c.args.disks c.args.shapes.now c.args.out.items c.args.rewind) c.in-Opened.is c.in_ok-pool.ensures.attempted in
    opened_first c.args.disks c.args.shapes.now c.args.out.items c.args.rewind c.in-Opened.pool.uberblock (state_of c.in-Opened.pool.core) it

pub returns-then-not-are_tolerable-clause-refused : goal.returns-then-not-are_tolerable-clause-refused
returns-then-not-are_tolerable-clause-refused g t c =
    let it : IsFailedClaim c.args.disks c.args.shapes.now c.args.out.items c.args.rewind c.in-ClaimFailed.disks c.in-ClaimFailed.out.items =
    subst (IsAttempt g.D.Disk c.args.disks c.args.shapes.now c.args.out.items c.args.rewind) c.in-ClaimFailed.is c.in_ok-pool.ensures.attempted in
    refused_with_few (guids_in (config_view c.args.config.now.value)) c.args.disks c.args.shapes.now c.args.out.items c.args.rewind c.in-ClaimFailed.disks c.in-ClaimFailed.out.items it
    (ap (λ (xs : List Bool). is_tolerable (vdevs_in c.args.shapes.now) (is_out xs)) (sym c.deref.ensures.value) ∙ sym c.are_tolerable.ensures ∙ c.if-not-are_tolerable.true)

pub open_left-requires : goal.open_left-requires
open_left-requires g t c κs within =
    let it : IsFailedClaim c.args.disks c.args.shapes.now c.args.out.items c.args.rewind c.in-ClaimFailed.disks c.in-ClaimFailed.out.items =
    subst (IsAttempt g.D.Disk c.args.disks c.args.shapes.now c.args.out.items c.args.rewind) c.in-ClaimFailed.is c.in_ok-pool.ensures.attempted in
    (omega (arith, c.decreases, fewer_left it c.requires.may.flags), (within, (c.requires.rewind, (may_left it c.requires.may, (labels_left it c.requires.labels, laid_left it c.requires.laid)))))

pub returns-else-not-are_tolerable-clause-opened : goal.returns-else-not-are_tolerable-clause-opened
returns-else-not-are_tolerable-clause-opened g t c =
    let it : IsFailedClaim c.args.disks c.args.shapes.now c.args.out.items c.args.rewind c.in-ClaimFailed.disks c.in-ClaimFailed.out.items =
    subst (IsAttempt g.D.Disk c.args.disks c.args.shapes.now c.args.out.items c.args.rewind) c.in-ClaimFailed.is c.in_ok-pool.ensures.attempted in
    IfOk-weaker c.open_left.result
    (λ pool. IsOpenedAtLast c.in-ClaimFailed.disks c.args.shapes.now c.in-ClaimFailed.out.items c.args.rewind pool.uberblock (state_of pool.core))
    (λ pool. IsOpenedAtLast c.args.disks c.args.shapes.now c.args.out.items c.args.rewind pool.uberblock (state_of pool.core))
    (λ pool is. opened_next c.args.disks c.args.shapes.now c.args.out.items c.args.rewind c.in-ClaimFailed.disks c.in-ClaimFailed.out.items pool.uberblock (state_of pool.core) it is)
    c.open_left.ensures.opened

pub returns-else-not-are_tolerable-clause-refused : goal.returns-else-not-are_tolerable-clause-refused
returns-else-not-are_tolerable-clause-refused g t c =
    let it : IsFailedClaim c.args.disks c.args.shapes.now c.args.out.items c.args.rewind c.in-ClaimFailed.disks c.in-ClaimFailed.out.items =
    subst (IsAttempt g.D.Disk c.args.disks c.args.shapes.now c.args.out.items c.args.rewind) c.in-ClaimFailed.is c.in_ok-pool.ensures.attempted in
    IfErr-weaker c.open_left.result (λ failed. IsNotOpenedAtLast (guids_in (config_view c.args.config.now.value)) c.in-ClaimFailed.disks c.args.shapes.now c.in-ClaimFailed.out.items c.args.rewind failed.1 failed.0)
    (λ failed. IsNotOpenedAtLast (guids_in (config_view c.args.config.now.value)) c.args.disks c.args.shapes.now c.args.out.items c.args.rewind failed.1 failed.0)
    (λ failed is. refused_next (guids_in (config_view c.args.config.now.value)) c.args.disks c.args.shapes.now c.args.out.items c.args.rewind c.in-ClaimFailed.disks c.in-ClaimFailed.out.items failed.1 failed.0 it is)
    c.open_left.ensures.refused
