use Rattle.pool_stops.proofs.HandedOn.{arrays_come_back, shown_images_are_left}
use Rattle.pool_stops.proofs.opening.disks_may_be_handed_on.Goals as goal

pub returns : goal.returns
returns g c = record { shown = shown_images_are_left c.held_bytes_are_known.ensures.held; back = arrays_come_back g.D.Disk g.met.D.Disk.is_within }
