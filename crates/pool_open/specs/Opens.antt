-- Opening a pool on disks that are handed in, in any order.
use Rattle.std.specs.Prelude.{ℕ, ◌≡◌, Bool, List, map}
use Rattle.model_disk.specs.Joint.{Disks, calls_on, log_of}
use Rattle.model_disk.specs.Member.{calls_of, start_of}
use Rattle.model_disk.specs.declared.disk.Disk as disk
use Rattle.model_disk.specs.declared.member.Member.{Member}
use Rattle.block_store.specs.declared.shape.VdevShape.{VdevShape}
use Rattle.pool_core.specs.State.{CoreState, config_of}
use Rattle.pool_labels.specs.declared.refusal.Refusal.{Refusal as LabelsRefusal}
use Rattle.uberblock_ring.specs.declared.uberblock.Uberblock.{Uberblock}
use Rattle.stale_disks.specs.Rules.{guids_in}
use Rattle.vdev_label.specs.Plain.{config_view}
use Rattle.vdev_label.specs.declared.label.Config.{Config}
use Rattle.pool_open.specs.Causes.{of_labels}
use Rattle.pool_members.specs.HandedIn.{AreHandedIn}
use Rattle.pool_members.specs.declared.handed_in.Place.{Place}
use Rattle.pool_open.specs.Finding.{AreBack, FindRefuses, IsFoundPool}
use Rattle.pool_open.specs.Retried.{IsNotOpenedAtLast, IsOpenedAtLast}
use Rattle.pool_open.specs.declared.handed_in.NotOpened.{NotOpened}
use Rattle.pool_open.specs.declared.handed_in.NotOpened.TheVariants.{NotFound, Refused}
use Rattle.pool_open.specs.declared.handed_in.OpenedFrom.{OpenedFrom}
use Rattle.pool_open.specs.declared.refusal.Refusal.{Refusal}

module _ {D : Type 0} where
  -- A pool was found on the disks, and its children's disks stand in an array in the order of its configuration.
  pub record AreInOrder (g : disk.Ghosts D) (disks : List D) (rewind : ℕ) (array : Disks) (shapes : List VdevShape) (out : List Bool) : Type 0 where
    pub members : List (Member D)
    pub config : Config
    pub highest : Uberblock
    pub taken : Uberblock
    pub found : IsFoundPool g disks rewind members out shapes config highest taken
    pub starts : array.starts ≡ map (start_of g) members
    pub calls : (which : ℕ) → calls_on which array.calls ≡ log_of (map (calls_of g) members) which
    -- where each disk is that was handed in
    pub places : List (Place D)
    pub handed : AreHandedIn found.after found.layout.children.items places

  -- and it was opened over them
  pub record IsOpened (g : disk.Ghosts D) (disks : List D) (rewind : ℕ) (claimed : Uberblock) (core : CoreState) : Type 0 where
    pub array : Disks
    pub shapes : List VdevShape
    pub out : List Bool
    pub ordered : AreInOrder g disks rewind array shapes out
    pub opened : IsOpenedAtLast array shapes out rewind claimed core
    -- the core keeps the configuration that was found
    pub configured : config_of core ≡ ordered.config

  -- with the disks in these places, and known by what the label says that was chosen
  abbrev pub IsOpenedOn : disk.Ghosts D → List D → ℕ → Uberblock → CoreState → OpenedFrom D → Type 0
  IsOpenedOn g disks rewind claimed core from =
      (is : IsOpened g disks rewind claimed core) × (is.ordered.places ≡ from.handed) × (from.identity ≡ is.ordered.found.layout.identity)

  -- or it was not, and the disks are given back in the order handed in, as they are then
  pub record IsUnopened (g : disk.Ghosts D) (disks : List D) (rewind : ℕ) (back : List D) (refusal : Refusal) : Type 0 where
    pub array : Disks
    pub shapes : List VdevShape
    pub out : List Bool
    pub ordered : AreInOrder g disks rewind array shapes out
    pub new : Disks
    pub refused : IsNotOpenedAtLast (guids_in (config_view ordered.config)) array shapes out rewind new refusal
    pub given : AreBack g new ordered.places back

  -- why it was not
  abbrev pub refusal_of : NotOpened D → Refusal
  refusal_of (NotFound refusal back) = refusal
  refusal_of (Refused refusal back) = refusal

  -- why no pool is opened: none was found, or that which was found is refused
  abbrev pub OpenRefuses : disk.Ghosts D → List D → ℕ → NotOpened D → Type 0
  OpenRefuses g disks rewind (NotFound refusal back) = (cause : LabelsRefusal) × (refusal ≡ of_labels cause) × FindRefuses g disks rewind back.items cause
  OpenRefuses g disks rewind (Refused refusal back) = IsUnopened g disks rewind back.items refusal
