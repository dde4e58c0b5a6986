-- Labels of disks: what they show, and what a claim writes to them.
use Rattle.std.specs.Prelude.{◌≡◌, ◌↔◌, ◌⊎◌, ◌<◌, ℕ, ◌+◌, Bool, true, false, List, length, slice_get, Option, Some, None, get_or}
use Rattle.sha2.specs.Sha256.{sha256}
use Rattle.model_disk.specs.Joint.{Disks, bytes_of, content}
use Rattle.uberblock_ring.specs.declared.uberblock.Uberblock.{Uberblock}
use Rattle.vdev_label.specs.Area.{HasRoom, area_of}
use Rattle.vdev_label.specs.Config.{config_bytes}
use Rattle.vdev_label.specs.Pairs.{label_pairs, InRange}
use Rattle.vdev_label.specs.Place.{area_at}
use Rattle.vdev_label.specs.Plain.{PlainLabel}
use Rattle.vdev_label.specs.declared.label.State.TheVariants.{Active}
use Rattle.pool_slots.specs.Shown.{IsSummary, NoneHas}
use Rattle.pool_slots.specs.Slots.{InUse}
use Rattle.pool_slots.specs.Writes.{IsSlotWrite, SlotsStand, in_use}
use Rattle.pool_slots.specs.declared.labeled.Area.{Area}
use Rattle.pool_slots.specs.declared.labeled.Labeled.{Labeled}
use Rattle.pool_slots.specs.declared.labeled.Pick.{Pick}
use Rattle.pool_slots.specs.declared.labeled.Pick.TheVariants.{One, Others}
use Rattle.pool_slots.specs.declared.labeled.Shown.{Shown}

-- ---- what is shown

-- the bytes of a label's area
unfoldable pub inscribed : PlainLabel → List ℕ
inscribed l = area_of l

-- where the area of a label begins on a disk of this size
unfoldable pub area_place : ℕ → ℕ → ℕ
area_place size number = area_at size number

-- what has an area
pub record IsValid (l : PlainLabel) : Type 0 where
  pub in_range : InRange l
  pub room : HasRoom (label_pairs l)

-- the label of this number, on a disk of this size, shows it
pub record IsLabelShown (size : ℕ) (held : ℕ → Option ℕ) (number : ℕ) (l : PlainLabel) : Type 0 where
  pub is_label : number < 4
  pub valid : IsValid l
  pub bytes : (i : ℕ) → i < 114688 → held (area_place size number + i) ≡ slice_get (inscribed l) i

-- what is kept of it
abbrev pub Keeps : PlainLabel → Shown → Type 0
Keeps l s = (s.claim ≡ l.claim) × (s.config_digest ≡ sha256 (config_bytes l.vdevs))

-- this is what the label of this number shows, or it shows nothing
abbrev pub IsShownAs : ℕ → (ℕ → Option ℕ) → ℕ → Option Shown → Type 0
IsShownAs size held number None = (l : PlainLabel) → ¬ IsLabelShown size held number l
IsShownAs size held number (Some s) = ((l : PlainLabel) × IsLabelShown size held number l × Keeps l s) × ((l : PlainLabel) → IsLabelShown size held number l → Keeps l s)

-- the same of a disk's four labels
pub record AreShownAs (size : ℕ) (held : ℕ → Option ℕ) (shown : List (Option Shown)) : Type 0 where
  pub four : length shown ≡ 4
  pub each : (number : ℕ) → number < 4 → IsShownAs size held number (get_or shown number None)

-- what a claim takes from the labels of a disk, where this configuration is wanted
pub record IsLabeledAs (size : ℕ) (held : ℕ → Option ℕ) (digest : List ℕ) (it : Labeled) : Type 0 where
  pub shown : List (Option Shown)
  pub are : AreShownAs size held shown
  pub summary : IsSummary shown it
  pub config : (it.config_digest ≡ digest) ⊎ NoneHas shown digest

-- no label of the disk shows this configuration
abbrev pub IsWithout : ℕ → (ℕ → Option ℕ) → List ℕ → Type 0
IsWithout size held digest = (number : ℕ) (l : PlainLabel) → IsLabelShown size held number l → ¬ (sha256 (config_bytes l.vdevs) ≡ digest)

-- no label of the disk shows anything
abbrev pub IsUnlabeled : ℕ → (ℕ → Option ℕ) → Type 0
IsUnlabeled size held = (number : ℕ) (l : PlainLabel) → ¬ IsLabelShown size held number l

-- a label of a disk in use shows it
pub record IsShownInUse (out : List Bool) (disks : Disks) (l : PlainLabel) : Type 0 where
  pub which : ℕ
  pub used : InUse out which
  pub number : ℕ
  pub shown : IsLabelShown (length (bytes_of disks.starts which)) (content disks which) number l

-- One more than the greatest claim that a label of a disk in use shows, or the highest uberblock has.
pub record IsNextClaim (out : List Bool) (disks : Disks) (highest : Uberblock) (claim : ℕ) : Type 0 where
  pub above_slots : highest.claim < claim
  pub above_labels : (l : PlainLabel) → IsShownInUse out disks l → l.claim < claim
  pub least : (claim ≡ highest.claim + 1) ⊎ ((l : PlainLabel) × IsShownInUse out disks l × (claim ≡ l.claim + 1))

-- ---- what is written

-- the area of a label with this uberblock's claim and group, for a pool that is in use
pub record IsInscribed (u : Uberblock) (l : PlainLabel) (bytes : List ℕ) : Type 0 where
  pub valid : IsValid l
  pub claim : l.claim ≡ u.claim
  pub group : l.group ≡ u.group
  pub state : l.state ≡ Active
  pub spells : bytes ≡ inscribed l

-- a label with the numbers of the disk and of its vdev that another one has
abbrev pub renumbered : PlainLabel → PlainLabel → PlainLabel
renumbered l own =
    record {
      claim = l.claim;
      guid = own.guid;
      name = l.name;
      pool_guid = l.pool_guid;
      state = l.state;
      top_guid = own.top_guid;
      group = l.group;
      vdevs = l.vdevs;
    }

-- a label of a disk in use, for this uberblock
pub record IsLabelWrite (starts : List (List ℕ)) (out : List Bool) (u : Uberblock) (which at : ℕ) (bytes : List ℕ) : Type 0 where
  pub number : ℕ
  pub is_label : number < 4
  pub used : InUse out which
  pub place : at ≡ area_place (length (bytes_of starts which)) number
  pub label : PlainLabel
  pub inscribed_as : IsInscribed u label bytes

-- an uberblock's slot, or a label for it, on a disk in use
abbrev pub IsClaimWrite : List (List ℕ) → List Bool → Uberblock → ℕ → ℕ → List ℕ → Type 0
IsClaimWrite starts out u which at bytes = IsSlotWrite starts u (in_use out) which at bytes ⊎ IsLabelWrite starts out u which at bytes

-- there is an area for the disk
abbrev pub HasArea : List (Option Area) → ℕ → Type 0
HasArea areas which = (area : Area) × (slice_get areas which ≡ Some (Some area))

-- for the disks in use, and no others
abbrev pub AreasOn : List Bool → List (Option Area) → Type 0
AreasOn out areas = (which : ℕ) → InUse out which ↔ HasArea areas which

-- each is of a label for this uberblock
pub record FitsArea (u : Uberblock) (area : Area) : Type 0 where
  pub first : area.first < 4
  pub label : PlainLabel
  pub inscribed_as : IsInscribed u label area.bytes.items

-- each area that a disk has is of a label for this uberblock
abbrev pub AreasFit : Uberblock → List (Option Area) → Type 0
AreasFit u areas = (which : ℕ) (area : Area) → slice_get areas which ≡ Some (Some area) → FitsArea u area

-- one label, or all but one
abbrev pub IsPicked : Pick → ℕ → Type 0
IsPicked (One label) number = number ≡ label
IsPicked (Others label) number = ¬ (number ≡ label)

-- In a claim's first turn (true) each disk's claim label, in its last (false) the other three.
abbrev pub turn_of : Bool → Area → Pick
turn_of true area = One area.first
turn_of false area = Others area.first

-- a disk's area, for the labels whose turn it is
pub record InAreaTurn (areas : List (Option Area)) (first : Bool) (which number : ℕ) (bytes : List ℕ) : Type 0 where
  pub area : Area
  pub has : slice_get areas which ≡ Some (Some area)
  pub turn : IsPicked (turn_of first area) number
  pub same : bytes ≡ area.bytes.items

-- one area, for the labels of one disk that are picked
abbrev pub copies : ℕ → List ℕ → Pick → ℕ → ℕ → List ℕ → Type 0
copies disk area pick which number bytes = (which ≡ disk) × IsPicked pick number × (bytes ≡ area)

-- of what is picked, that of one disk
abbrev pub of_disk : ℕ → (ℕ → ℕ → List ℕ → Type 0) → ℕ → ℕ → List ℕ → Type 0
of_disk disk picks which number bytes = (which ≡ disk) × picks which number bytes

-- and that of the labels of one number
abbrev pub of_label : ℕ → (ℕ → ℕ → List ℕ → Type 0) → ℕ → ℕ → List ℕ → Type 0
of_label label picks which number bytes = (number ≡ label) × picks which number bytes

-- an area, in a label for which it is picked
pub record IsAreaWrite (starts : List (List ℕ)) (picks : ℕ → ℕ → List ℕ → Type 0) (which at : ℕ) (bytes : List ℕ) : Type 0 where
  pub number : ℕ
  pub is_label : number < 4
  pub picked : picks which number bytes
  pub place : at ≡ area_place (length (bytes_of starts which)) number

-- it stands in each such label
abbrev pub AreasStand : (ℕ → ℕ → Option ℕ) → List (List ℕ) → (ℕ → ℕ → List ℕ → Type 0) → Type 0
AreasStand held starts picks =
    (which number : ℕ) (bytes : List ℕ) → number < 4 → picks which number bytes
    → (i : ℕ) → i < 114688 → held which (area_place (length (bytes_of starts which)) number + i) ≡ slice_get bytes i

-- each is as long as an area is
abbrev pub AreWhole : (ℕ → ℕ → List ℕ → Type 0) → Type 0
AreWhole picks = (which number : ℕ) (bytes : List ℕ) → picks which number bytes → length bytes ≡ 114688

-- the uberblock stands in its slot in each label of each disk in use
abbrev pub AreSlotted : List Bool → Disks → Uberblock → Type 0
AreSlotted out disks u = SlotsStand (content disks) disks.starts u (in_use out) (length disks.starts)

-- each label of each disk in use shows the claim
abbrev pub AreClaimed : List Bool → Disks → Uberblock → Type 0
AreClaimed out disks u =
    (which number : ℕ) → InUse out which → number < 4
    → (l : PlainLabel) × IsLabelShown (length (bytes_of disks.starts which)) (content disks which) number l × (l.claim ≡ u.claim)
