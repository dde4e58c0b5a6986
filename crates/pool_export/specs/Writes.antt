-- What an export writes.
use Rattle.std.specs.Prelude.{◌≡◌, ◌<◌, ℕ, ◌+◌, Bool, List, length, slice_get, Option, Some, Vec}
use Rattle.std.specs.declared.alloc.Global.{Global}
use Rattle.model_disk.specs.Joint.{bytes_of}
use Rattle.uberblock_ring.specs.declared.uberblock.Uberblock.{Uberblock}
use Rattle.vdev_label.specs.Plain.{PlainLabel}
use Rattle.vdev_label.specs.declared.label.State.TheVariants.{Exported}
use Rattle.pool_slots.specs.Configs.{of_config}
use Rattle.pool_slots.specs.Labels.{IsValid, area_place, inscribed}
use Rattle.pool_slots.specs.Slots.{InUse}

-- the area of a label that is put away: exported, with the uberblock's configuration, claim and group
pub record IsPutAway (u : Uberblock) (l : PlainLabel) (bytes : List ℕ) : Type 0 where
  pub valid : IsValid l
  pub config : of_config u.config_digest l
  pub claim : l.claim ≡ u.claim
  pub group : l.group ≡ u.group
  pub state : l.state ≡ Exported
  pub spells : bytes ≡ inscribed l

-- such an area, in a label of a disk in use
pub record IsExportWrite (starts : List (List ℕ)) (out : List Bool) (u : Uberblock) (which at : ℕ) (bytes : List ℕ) : Type 0 where
  pub number : ℕ
  pub is_label : number < 4
  pub used : InUse out which
  pub place : at ≡ area_place (length (bytes_of starts which)) number
  pub label : PlainLabel
  pub put_away : IsPutAway u label bytes

-- ---- areas by disk

-- the area for each disk, and none for a disk that is out
abbrev pub Areas : Type 0
Areas = List (Option (Vec ℕ Global))

-- this is the disk's
abbrev pub IsAreaOf : Areas → ℕ → Vec ℕ Global → Type 0
IsAreaOf areas which area = slice_get areas which ≡ Some (Some area)

-- there is one for the disk
abbrev pub HasArea : Areas → ℕ → Type 0
HasArea areas which = (area : Vec ℕ Global) × IsAreaOf areas which area

-- for each disk in use
abbrev pub AreasOn : List Bool → Areas → Type 0
AreasOn out areas = (which : ℕ) → InUse out which → HasArea areas which

-- each is of a label that is put away for this uberblock
abbrev pub AreasFit : Uberblock → Areas → Type 0
AreasFit u areas = (which : ℕ) (area : Vec ℕ Global) → IsAreaOf areas which area → (l : PlainLabel) × IsPutAway u l area.items

-- each is as long as an area is
abbrev pub AreWhole : Areas → Type 0
AreWhole areas = (which : ℕ) (area : Vec ℕ Global) → IsAreaOf areas which area → length area.items ≡ 114688

-- ---- writes of areas

-- these bytes, in one of the labels that are picked
pub record IsCopy (starts : List (List ℕ)) (picks : ℕ → Type 0) (area : List ℕ) (which at : ℕ) (bytes : List ℕ) : Type 0 where
  pub number : ℕ
  pub is_label : number < 4
  pub picked : picks number
  pub place : at ≡ area_place (length (bytes_of starts which)) number
  pub same : bytes ≡ area

-- on that disk
abbrev pub copy_on : ℕ → List (List ℕ) → (ℕ → Type 0) → List ℕ → ℕ → ℕ → List ℕ → Type 0
copy_on disk starts picks area which at bytes = (which ≡ disk) × IsCopy starts picks area which at bytes

-- a disk's area, in one of its labels that are picked
pub record IsAreaWrite (starts : List (List ℕ)) (areas : Areas) (picks : ℕ → Type 0) (which at : ℕ) (bytes : List ℕ) : Type 0 where
  pub area : Vec ℕ Global
  pub has : IsAreaOf areas which area
  pub copy : IsCopy starts picks area.items which at bytes

-- on a disk in use
pub record IsUsedWrite (out : List Bool) (starts : List (List ℕ)) (areas : Areas) (picks : ℕ → Type 0) (which at : ℕ) (bytes : List ℕ) : Type 0 where
  pub used : InUse out which
  pub write : IsAreaWrite starts areas picks which at bytes

-- any of the four
abbrev pub is_any : ℕ → Type 0
is_any number = number < 4

-- one disk, if it is used
abbrev pub on_one : ℕ → (ℕ → Type 0) → ℕ → Type 0
on_one disk used which = (which ≡ disk) × used which

-- the area stands in the labels that are picked, on a disk of this size
abbrev pub AreaStands : (ℕ → Option ℕ) → ℕ → (ℕ → Type 0) → List ℕ → Type 0
AreaStands held size picks area = (number : ℕ) → number < 4 → picks number → (i : ℕ) → i < 114688 → held (area_place size number + i) ≡ slice_get area i

-- that of the disk does, if it has one
abbrev pub StandsOn : ℕ → (ℕ → ℕ → Option ℕ) → List (List ℕ) → Areas → (ℕ → Type 0) → Type 0
StandsOn which held starts areas picks = (area : Vec ℕ Global) → IsAreaOf areas which area → AreaStands (held which) (length (bytes_of starts which)) picks area.items

-- that of each disk in use does
abbrev pub AreasStandOn : List Bool → (ℕ → ℕ → Option ℕ) → List (List ℕ) → Areas → (ℕ → Type 0) → Type 0
AreasStandOn out held starts areas picks = (which : ℕ) → InUse out which → StandsOn which held starts areas picks
