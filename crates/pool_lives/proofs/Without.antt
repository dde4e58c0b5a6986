-- Pools that lived, opened on some of their disks.
use Rattle.std.proofs.Common.{ℕ, List, []}
use Rattle.model_disk.specs.declared.disk.Disk as disk
use Rattle.vdev_label.specs.Plain.{config_view}
use Rattle.vdev_label.specs.declared.label.Config.{Config}
use Rattle.pool_format.specs.declared.labeling.PoolIdentity.{PoolIdentity}
use Rattle.pool_stops.specs.Absent.{OwnPoolsOpenWithout}
use Rattle.pool_lives.specs.Lasting.{Keeps, CrashHistoriesKeepTheLastGroup, served_first}
use Rattle.pool_lives.specs.Lives.{Down, Happening}
use Rattle.pool_lives.specs.Tales.{IsTale, Known, Resting, Serving}
use Rattle.pool_lives.specs.Without.{CrashHistoriesOpenWithout, RestsWithout}

module _ {D : Type 0} where
  rests_without : (g : disk.Ghosts D) → OwnPoolsOpenWithout g → (pool : PoolIdentity) (config : Config) (digest : List ℕ) (images : List (List ℕ)) (from : Known)
      (its : List Happening) (known : Known) → IsTale from its known → Keeps g pool config digest (Down images) known → RestsWithout g pool images from its
  rests_without g law pool config digest images from its (Resting p pools) tale (shapes, out, led, again) = record {
    p = p;
    pools = pools;
    tale = tale;
    shapes = shapes;
    opens = λ order. law pool (config_view config) digest images shapes out p pools led order;
  }
  rests_without g law pool config digest images from its (Serving v last before) tale keeps = absurd keeps

  pub crash_histories_open_without : (g : disk.Ghosts D) → CrashHistoriesKeepTheLastGroup g → OwnPoolsOpenWithout g → CrashHistoriesOpenWithout g
  crash_histories_open_without g lose law pool config u core made its images life =
      let it = lose pool config u core made its (Down images) life in
      rests_without g law pool config u.config_digest images (Serving (served_first made) u []) its it.0 it.1 it.2
