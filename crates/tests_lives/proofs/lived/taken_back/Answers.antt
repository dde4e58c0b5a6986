use Rattle.std.proofs.Common.{subst, sym}
use Rattle.pool_create.specs.CoreStateOf.{state_of}
use Rattle.pool_create.specs.NotOpened.TheVariants.{NotFound}
use Rattle.pool_create.specs.Opens.{OpenRefuses}
use Rattle.tests_lives.proofs.Living.{array_of, gives_back_and_opens}
use Rattle.tests_lives.proofs.lived.taken_back.Goals as goal

pub returns : goal.returns
returns g c =
    let core = state_of c.args.pool.core in
    let disks = c.in_ok-disks.disks.items in
    let array = array_of g.D.Disk c.into_disks.result.items disks _ c.in_ok-disks.ensures (sym c.into_disks.ensures.starts)
    (λ which. sym (c.into_disks.ensures.calls which)) in
    let it = c.in-Err-NotFound in
    let unfound : OpenRefuses g.D.Disk disks 2 (NotFound it.field-0-0 it.disks) = subst (OpenRefuses g.D.Disk disks 2) it.field-0-is it.ensures.refused in
    gives_back_and_opens g.D.Disk c.crash_histories_go_on.ensures core disks it.disks.items unfound.0 _ _ (c.export_refusal.ensures.none c.in-None.is) array unfound.2
    c.in-Ok.ensures.opened.0
