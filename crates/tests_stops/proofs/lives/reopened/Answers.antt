use Rattle.std.proofs.Common.{◌∙◌, sym}
use Rattle.pool_create.specs.CoreStateOf.{state_of}
use Rattle.pool_create.specs.Retried.{IsNotOpenedAtLast, IsOpenedAtLast}
use Rattle.stale_disks.specs.Rules.{guids_in}
use Rattle.vdev_label.specs.Plain.{config_view}
use Rattle.tests_stops.specs.Lives.{IsRefusedWell, OpensWell}
use Rattle.tests_stops.proofs.Opened.{if_err, if_ok}
use Rattle.tests_stops.proofs.lives.reopened.Goals as goal

pub returns-clause-opened : goal.returns-clause-opened
returns-clause-opened c =
    let shapes = c.args.shapes.now in
    let out = c.args.out.items in
    if_ok c.open_over.result (λ pool. IsOpenedAtLast c.args.disks shapes out 0 pool.uberblock (state_of pool.core))
    (λ pool. OpensWell c.args.disks shapes out pool.uberblock (state_of pool.core))
    (λ pool is p pools led same none named sound.
    let once = c.unfailing_opens_claim_once.ensures.opened c.args.disks shapes out 0 pool.uberblock (state_of pool.core) is (sym is.last.outs ∙ same) in
    c.led_disks_open.ensures c.args.disks shapes out 0 p pools pool.uberblock (state_of pool.core) led once.0 once.1 none sound.few named sound.honest)
    c.open_over.ensures.opened

pub returns-clause-refused : goal.returns-clause-refused
returns-clause-refused c =
    let shapes = c.args.shapes.now in
    let out = c.args.out.items in
    let guids = guids_in (config_view c.args.config.now.value) in
    if_err c.open_over.result (λ failed. IsNotOpenedAtLast guids c.args.disks shapes out 0 failed.1 failed.0) (λ failed. IsRefusedWell guids c.args.disks shapes out failed.1 failed.0)
    (λ failed is. (
      is,
      λ p pools led there free.
          let once = c.unfailing_opens_claim_once.ensures.refused guids c.args.disks shapes out 0 failed.1 failed.0 is free.truly.none_failed in
          c.fault_free_opens_succeed.ensures guids c.args.disks shapes out p pools failed.0 led there failed.1 once free,
    ))
    c.open_over.ensures.refused
