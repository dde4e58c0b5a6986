use Rattle.std.proofs.Common.{List}
use Rattle.model_disk.specs.declared.disk.Disk as disk
use Rattle.pool_stops.specs.Found.{FoundDisksMayBeOpened}
use Rattle.pool_create.specs.NotOpened.{NotOpened}
use Rattle.pool_create.specs.NotOpened.TheVariants.{NotFound, Refused}
use Rattle.pool_create.specs.Opens.{OpenRefuses}
use Rattle.tests_stops.specs.Lives.{FitsFound, IsRefusedAgain}
use Rattle.tests_stops.proofs.Opened.{if_err}
use Rattle.tests_stops.proofs.lives.opened_again.Goals as goal

-- where one was found its vdevs fit
fits_found : {D : Type 0} (g : disk.Ghosts D) (disks : List D) (failed : NotOpened D) → FoundDisksMayBeOpened g → (why : OpenRefuses g disks 0 failed)
    → FitsFound g disks failed why
fits_found g disks (NotFound refusal back) law none = tt
fits_found g disks (Refused refusal back) law it = law disks 0 it.array it.shapes it.out it.ordered

pub returns : goal.returns
returns g c =
    if_err c.open.result (OpenRefuses g.D.Disk c.args.disks.items 0) (IsRefusedAgain {D = g.row.D.Denot} g.D.Disk c.args.disks.items)
    (λ failed why. record {
      why = why;
      fits = fits_found g.D.Disk c.args.disks.items failed c.found_disks_may_be_opened.ensures why;
      memory = λ pool vdevs digest images shapes out p pools order led returned left truly.
          (c.own_pools_open_again.ensures pool vdevs digest images shapes out p pools led).refused c.args.disks.items order failed returned left why truly;
    })
    c.open.ensures.refused
