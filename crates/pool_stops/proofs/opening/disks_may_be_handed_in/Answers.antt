use Rattle.pool_stops.proofs.Arranging.{some_uncalled_disks_are_returned, uncalled_disks_are_returned, unfound_disks_are_returned}
use Rattle.pool_stops.proofs.opening.disks_may_be_handed_in.Goals as goal

pub returns : goal.returns
returns g c =
    record { uncalled = uncalled_disks_are_returned g.D.Disk; some = some_uncalled_disks_are_returned g.D.Disk; unfound = unfound_disks_are_returned g.D.Disk }
