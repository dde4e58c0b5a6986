-- The view of a pool that was made.
use Rattle.std.specs.Prelude.{List, true}
use Rattle.pool_model.specs.View.{View, Vdev, started}

-- an empty pool over these vdevs is committed as group 3, and its commits end in uberblock slots
abbrev pub started_on_disks : List Vdev → View
started_on_disks vdevs = record (started vdevs) { slots = true }
