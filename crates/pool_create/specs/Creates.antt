-- Making a pool on disks that are handed in.
use Rattle.std.specs.Prelude.{◌≡◌, ◌⊎◌, List, length}
use Rattle.model_disk.specs.Joint.{Disks}
use Rattle.model_disk.specs.declared.disk.Disk as disk
use Rattle.pool_open.specs.CoreState.{CoreState}
use Rattle.pool_format.specs.declared.labeling.PoolIdentity.{PoolIdentity}
use Rattle.pool_members.specs.HandedIn.{own_places}
use Rattle.pool_open.specs.Finding.{AreBack, IsArrayOf}
use Rattle.pool_open.specs.declared.refusal.Refusal.{Refusal}
use Rattle.pool_open.specs.declared.refusal.Refusal.TheVariants.{NoMemory}
use Rattle.uberblock_ring.specs.declared.uberblock.Uberblock.{Uberblock}
use Rattle.vdev_label.specs.declared.label.Config.{Config}
use Rattle.pool_create.specs.Creating.{CreateRefuses, IsCreated}

module _ {D : Type 0} where
  -- the pool was made over an array of the disks
  pub record IsCreatedOn (g : disk.Ghosts D) (disks : List D) (pool : PoolIdentity) (config : Config) (u : Uberblock) (core : CoreState) : Type 0 where
    pub array : Disks
    pub is_array : IsArrayOf g disks array
    pub created : IsCreated array pool config u core

  -- an array was refused, and its disks come back, in the order handed in and as they are then
  pub record IsUncreated (g : disk.Ghosts D) (disks : List D) (pool : PoolIdentity) (config : Config) (back : List D) (refusal : Refusal) : Type 0 where
    pub array : Disks
    pub is_array : IsArrayOf g disks array
    pub new : Disks
    pub refused : CreateRefuses array pool config new refusal
    pub given : AreBack g new (own_places (length disks)) back

  -- it was not: there was no memory for an array, and the disks come back as they were; or that over one was refused
  abbrev pub CreateRefusesOn : disk.Ghosts D → List D → PoolIdentity → Config → List D → Refusal → Type 0
  CreateRefusesOn g disks pool config back refusal = ((refusal ≡ NoMemory) × (back ≡ disks)) ⊎ IsUncreated g disks pool config back refusal
