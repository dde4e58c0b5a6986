-- Pools that lived, opened on some of their disks.
use Rattle.std.specs.Prelude.{ℕ, Option, List, []}
use Rattle.model_disk.specs.declared.disk.Disk as disk
use Rattle.block_store.specs.declared.shape.VdevShape.{VdevShape}
use Rattle.uberblock_ring.specs.declared.uberblock.Uberblock.{Uberblock}
use Rattle.vdev_label.specs.declared.label.Config.{Config}
use Rattle.pool_create.specs.CoreState.{CoreState}
use Rattle.pool_format.specs.declared.labeling.PoolIdentity.{PoolIdentity}
use Rattle.pool_model.specs.Pools.{PlainPool}
use Rattle.pool_slots.specs.Possible.{Possible}
use Rattle.pool_stops.specs.Absent.{OpenWithout}
use Rattle.pool_lives.specs.Lasting.{served_first}
use Rattle.pool_lives.specs.Lives.{Down, Happening, IsCrashHistory, IsMade, Up}
use Rattle.pool_lives.specs.Tales.{IsTale, Known, Resting, Serving}

module _ {D : Type 0} where
  -- It rests as its tale says, and whichever of its disks are handed in, the pool of one of the possible groups is opened on them.
  pub record RestsWithout (g : disk.Ghosts D) (pool : PoolIdentity) (images : List (List ℕ)) (from : Known) (its : List Happening) : Type 0 where
    pub p : Possible
    pub pools : Uberblock → PlainPool
    pub tale : IsTale from its (Resting p pools)
    pub shapes : List VdevShape
    pub opens : (order : List (Option ℕ)) → OpenWithout g pool images shapes p pools order

  -- So does each pool whose life ended with its disks down.
  abbrev pub CrashHistoriesOpenWithout : disk.Ghosts D → Type 0
  CrashHistoriesOpenWithout g =
      (pool : PoolIdentity) (config : Config) (u : Uberblock) (core : CoreState) (made : IsMade g pool config u core) (its : List Happening)
      (images : List (List ℕ)) → IsCrashHistory g (Up core) its (Down images) → RestsWithout g pool images (Serving (served_first made) u []) its
