-- A pool that is found on disks.
use Rattle.std.specs.Prelude.{ℕ, ◌≡◌, ◌⊎◌, ◌*◌, Bool, List, length, map}
use Rattle.model_disk.specs.Joint.{Disks, calls_on, log_of}
use Rattle.model_disk.specs.Member.{calls_of, disk_of, start_of}
use Rattle.model_disk.specs.declared.disk.Disk as disk
use Rattle.model_disk.specs.declared.member.Member.{Member}
use Rattle.block_store.specs.declared.shape.VdevShape.{VdevShape}
use Rattle.pool_format.specs.declared.labeling.PoolIdentity.{PoolIdentity}
use Rattle.pool_labels.specs.Choices.{ChoiceRefuses, IsChoice}
use Rattle.pool_labels.specs.Scans.{IsScanOf, MakesAtMost, anywhere, has_allowed_size}
use Rattle.pool_labels.specs.declared.choice.Choice.{Choice}
use Rattle.pool_labels.specs.declared.refusal.Refusal.{Refusal}
use Rattle.pool_labels.specs.declared.refusal.Refusal.TheVariants.{NoMemory}
use Rattle.pool_labels.specs.declared.scanned.Scan.{Scan}
use Rattle.pool_members.specs.Arranged.{AreArranged, disk_for}
use Rattle.pool_members.specs.HandedIn.{AreHandedIn, disks_back}
use Rattle.pool_members.specs.declared.handed_in.Place.{Place}
use Rattle.pool_slots.specs.Reads.{OnlyReads}
use Rattle.uberblock_ring.specs.declared.uberblock.Uberblock.{Uberblock}
use Rattle.vdev_label.specs.Plain.{PlainVdev, config_view}
use Rattle.vdev_label.specs.declared.label.Config.{Config}
use Rattle.vdev_label.specs.declared.label.Label.{Label}
use Rattle.pool_open.specs.Children.{all_children}
use Rattle.pool_open.specs.Shapes.{AreShapesOf}
use Rattle.pool_open.specs.declared.finding.Layout.{Layout}

-- ---- what the disks show

-- The uberblock that was chosen, its configuration, and of that the children, each with its disk, and the vdevs.
pub record IsLaidOut (vdevs : List PlainVdev) (choice : Choice) (layout : Layout) : Type 0 where
  pub highest : layout.highest ≡ choice.highest
  pub taken : layout.taken ≡ choice.taken
  pub children : layout.children.items ≡ all_children vdevs choice.members.items
  pub shapes : AreShapesOf vdevs 0 layout.shapes.items
  pub config : config_view layout.config.value ≡ vdevs

-- what a label says that its pool is known by
abbrev pub identity_of : Label → PoolIdentity
identity_of l = record { name = l.name; guid = l.pool_guid }

-- since the old moment the disks were read, and this was chosen of what they show, by the label that was chosen
pub record IsLayoutOf (old new : Disks) (rewind : ℕ) (layout : Layout) : Type 0 where
  pub scan : Scan
  pub read : IsScanOf old new scan
  pub choice : Choice
  pub chosen : IsChoice scan rewind choice
  pub laid_out : IsLaidOut (config_view chosen.l.config) choice layout
  pub identity : layout.identity ≡ identity_of chosen.l

-- nothing is chosen of what they show, for this cause
abbrev pub LayoutRefuses : Disks → Disks → ℕ → Refusal → Type 0
LayoutRefuses old new rewind refusal = (refusal ≡ NoMemory) ⊎ ((scan : Scan) × IsScanOf old new scan × ChoiceRefuses scan rewind refusal)

-- ---- the disks themselves

module _ {D : Type 0} where
  -- an array of these disks
  abbrev pub IsArrayOf : disk.Ghosts D → List D → Disks → Type 0
  IsArrayOf g disks array = (array.starts ≡ map g.start disks) × ((which : ℕ) → calls_on which array.calls ≡ log_of (map g.calls disks) which)

  -- These disks come back: those of an array of children's disks, and those that no child names, as they were handed in, in that order.
  pub record AreBack (g : disk.Ghosts D) (array : Disks) (places : List (Place D)) (back : List D) : Type 0 where
    pub members : List (Member D)
    pub starts : map (start_of g) members ≡ array.starts
    pub calls : (which : ℕ) → log_of (map (calls_of g) members) which ≡ calls_on which array.calls
    pub given : back ≡ disks_back members places

  -- nothing but reads of disks of an allowed size was called, between these two moments: at most 516 for each disk, as many as it has labels and
  -- slots, all disks together
  pub record AreRead (g : disk.Ghosts D) (disks : List D) (old new : Disks) : Type 0 where
    pub before : IsArrayOf g disks old
    pub only : OnlyReads (has_allowed_size old) anywhere old new
    pub few : MakesAtMost (516 * length old.starts) old new

  -- The disks were read, and put in the order of the children that were chosen; what stands for a child with no disk is marked.
  pub record IsFoundPool (g : disk.Ghosts D) (disks : List D) (rewind : ℕ) (members : List (Member D)) (out : List Bool) (shapes : List VdevShape)
      (config : Config) (highest taken : Uberblock) : Type 0 where
    pub old : Disks
    pub new : Disks
    pub read : AreRead g disks old new
    pub layout : Layout
    pub laid_out : IsLayoutOf old new rewind layout
    pub highest_is : highest ≡ layout.highest
    pub taken_is : taken ≡ layout.taken
    pub shapes_are : shapes ≡ layout.shapes.items
    pub config_is : config ≡ layout.config.value
    pub after : List D
    pub array : IsArrayOf g after new
    pub members_are : map disk_of members ≡ map (disk_for after) layout.children.items
    pub arranged : AreArranged (map g.start after) (map g.calls after) layout.children.items (map (start_of g) members) (map (calls_of g) members) out

  -- And each of them is that of the child that names it, or it is kept as it is then. The pool is known by what the chosen label says.
  pub record IsFoundOn (g : disk.Ghosts D) (disks : List D) (rewind : ℕ) (members : List (Member D)) (out : List Bool) (shapes : List VdevShape)
      (config : Config) (highest taken : Uberblock) (places : List (Place D)) (identity : PoolIdentity) : Type 0 where
    pub found : IsFoundPool g disks rewind members out shapes config highest taken
    pub handed : AreHandedIn found.after found.layout.children.items places
    pub named : identity ≡ found.layout.identity

  -- why no pool was found: the disks were read, and what they show was refused; and they are given back, as they are then
  pub record FindRefuses (g : disk.Ghosts D) (disks : List D) (rewind : ℕ) (back : List D) (refusal : Refusal) : Type 0 where
    pub old : Disks
    pub new : Disks
    pub read : AreRead g disks old new
    pub cause : LayoutRefuses old new rewind refusal
    pub given : IsArrayOf g back new
