-- Images of disks may be opened.
use Rattle.std.proofs.Common.{refl}
use Rattle.model_disk.specs.Joint.{bytes_of}
use Rattle.raidz_io.proofs.Written.{slice_get_some}
use Rattle.pool_open.specs.Stops.{StoppedCanBeOpened}

pub stopped_can_be_opened : StoppedCanBeOpened
stopped_can_be_opened trees out p images some there off leads =
    record {
      some = some;
      off_labels = off;
      known = λ which used i inside. slice_get_some (bytes_of images which) i inside;
      settled = λ which used i. refl;
      leads = leads;
    }
