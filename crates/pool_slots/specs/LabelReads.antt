-- What reads of labels tell.
use Rattle.std.specs.Prelude.{◌≡◌, ◌↔◌, ◌⊎◌, ◌≤◌, ◌<◌, ℕ, Bool, List, length, slice_get, get_or, Option, Some, None, Result, Ok, Err, Vec}
use Rattle.std.specs.declared.alloc.Global.{Global}
use Rattle.model_disk.specs.Joint.{Disks, bytes_of, content, AreHonestSince}
use Rattle.uberblock_ring.specs.declared.uberblock.Uberblock.{Uberblock}
use Rattle.uberblock_ring.specs.Uberblock.{Fits}
use Rattle.vdev_label.specs.Plain.{PlainLabel, label_view}
use Rattle.pool_slots.specs.Failures.{HasFailedOn}
use Rattle.pool_slots.specs.Labels.{IsLabelShown, IsShownAs, AreShownAs, IsLabeledAs, IsUnlabeled, IsValid, IsWithout, IsNextClaim, AreasOn, AreasFit, FitsArea, HasArea, inscribed, renumbered}
use Rattle.pool_slots.specs.Marks.{SparesMark, IsUsedUp}
use Rattle.pool_slots.specs.Opens.{IsKnown, AreKnown}
use Rattle.pool_slots.specs.Relabels.{AreMadeOf}
use Rattle.pool_slots.specs.Slots.{InUse}
use Rattle.pool_slots.specs.declared.areas.Plan.{Plan}
use Rattle.pool_slots.specs.declared.labeled.Area.{Area}
use Rattle.pool_slots.specs.declared.labeled.Donor.{Donor}
use Rattle.pool_slots.specs.declared.labeled.Labeled.{Labeled}
use Rattle.pool_slots.specs.declared.labeled.Shown.{Shown}
use Rattle.pool_slots.specs.declared.refusal.Refusal.{Refusal}
use Rattle.vdev_label.specs.Room.{relabeled}
use Rattle.vdev_label.specs.declared.label.Label.{Label}
use Rattle.vdev_label.specs.declared.label.State.TheVariants.{Active}
use Rattle.vdev_label.specs.declared.refusal.Refusal.{Refusal as LabelRefusal}
use Rattle.vdev_label.specs.declared.refusal.Refusal.TheVariants as label
use Rattle.pool_slots.specs.declared.refusal.Refusal.TheVariants.{NoMemory, DiskFault, NoUberblock, NoLabel, UsedUp}

-- what one label shows; else want of memory, or a call that failed
abbrev pub ReadsShown : Disks → Disks → ℕ → ℕ → Result (Option Shown) Refusal → Type 0
ReadsShown old new which number (Ok it) =
    IsKnown old which → AreHonestSince (length old.calls) new.starts new.calls → IsShownAs (length (bytes_of old.starts which)) (content old which) number it
ReadsShown old new which number (Err NoMemory) = Unit {0}
ReadsShown old new which number (Err (DiskFault disk)) = HasFailedOn old new disk
ReadsShown old new which number (Err NoUberblock) = ⊥
ReadsShown old new which number (Err NoLabel) = ⊥
ReadsShown old new which number (Err UsedUp) = ⊥

-- what the four of a disk show
abbrev pub ReadsFour : Disks → Disks → ℕ → Result (Vec (Option Shown) Global) Refusal → Type 0
ReadsFour old new which (Ok all) =
    (length all.items ≡ 4)
    × (IsKnown old which → AreHonestSince (length old.calls) new.starts new.calls → AreShownAs (length (bytes_of old.starts which)) (content old which) all.items)
ReadsFour old new which (Err NoMemory) = Unit {0}
ReadsFour old new which (Err (DiskFault disk)) = HasFailedOn old new disk
ReadsFour old new which (Err NoUberblock) = ⊥
ReadsFour old new which (Err NoLabel) = ⊥
ReadsFour old new which (Err UsedUp) = ⊥

-- what a claim takes from the labels of a disk; else want of memory, a call that failed, or none of them shows anything
abbrev pub ReadsLabeled : List ℕ → Disks → Disks → ℕ → Result Labeled Refusal → Type 0
ReadsLabeled digest old new which (Ok it) =
    (it.first < 4) × (it.source < 4)
    × (IsKnown old which → AreHonestSince (length old.calls) new.starts new.calls → IsLabeledAs (length (bytes_of old.starts which)) (content old which) digest it)
ReadsLabeled digest old new which (Err NoMemory) = Unit {0}
ReadsLabeled digest old new which (Err (DiskFault disk)) = HasFailedOn old new disk
ReadsLabeled digest old new which (Err NoUberblock) = ⊥
ReadsLabeled digest old new which (Err NoLabel) =
    IsKnown old which → AreHonestSince (length old.calls) new.starts new.calls → IsUnlabeled (length (bytes_of old.starts which)) (content old which)
ReadsLabeled digest old new which (Err UsedUp) = ⊥

-- why a label of a disk is not read: an invalid one shows nothing
abbrev pub unread_as : ℕ → LabelRefusal → Result (Option Shown) Refusal
unread_as which label.NoMemory = Err NoMemory
unread_as which label.DiskFault = Err (DiskFault which)
unread_as which (label.BadLabel it) = Ok None

-- the same where the disk may be out: then nothing is read
abbrev pub ReadsIfUsed : List Bool → List ℕ → Disks → Disks → ℕ → Result (Option Labeled) Refusal → Type 0
ReadsIfUsed out digest old new which (Ok None) = ¬ InUse out which
ReadsIfUsed out digest old new which (Ok (Some it)) = InUse out which × ReadsLabeled digest old new which (Ok it)
ReadsIfUsed out digest old new which (Err refusal) = InUse out which × ReadsLabeled digest old new which (Err refusal)

-- there is something of the disk
abbrev pub HasLabeled : List (Option Labeled) → ℕ → Type 0
HasLabeled all which = (it : Labeled) × (slice_get all which ≡ Some (Some it))

-- of the disks in use, and no others
abbrev pub AreLabeledOn : List Bool → List (Option Labeled) → Type 0
AreLabeledOn out all = (which : ℕ) → InUse out which ↔ HasLabeled all which

-- in what was read of each disk the claim label and the source are among its labels 0 to 3
abbrev pub AreSmall : List (Option Labeled) → Type 0
AreSmall all = (which : ℕ) (it : Labeled) → slice_get all which ≡ Some (Some it) → (it.first < 4) × (it.source < 4)

-- on each disk what a claim takes from its labels
abbrev pub AreLabeled : List Bool → Disks → List ℕ → List (Option Labeled) → Type 0
AreLabeled out disks digest all =
    (which : ℕ) (it : Labeled) → slice_get all which ≡ Some (Some it) → IsLabeledAs (length (bytes_of disks.starts which)) (content disks which) digest it

-- some disk in use shows no label
pub record HasUnlabeled (out : List Bool) (disks : Disks) : Type 0 where
  pub which : ℕ
  pub used : InUse out which
  pub none : IsUnlabeled (length (bytes_of disks.starts which)) (content disks which)

-- some disk in use shows no label, or none shows this configuration in a label
abbrev pub LacksLabel : List Bool → Disks → List ℕ → Type 0
LacksLabel out disks digest =
    HasUnlabeled out disks ⊎ ((which : ℕ) → InUse out which → IsWithout (length (bytes_of disks.starts which)) (content disks which) digest)

-- of all disks
abbrev pub ReadsAll : List Bool → List ℕ → Disks → Disks → Result (Vec (Option Labeled) Global) Refusal → Type 0
ReadsAll out digest old new (Ok all) =
    (length all.items ≡ length old.starts) × AreLabeledOn out all.items × AreSmall all.items
    × (AreKnown out old → AreHonestSince (length old.calls) new.starts new.calls → AreLabeled out old digest all.items)
ReadsAll out digest old new (Err NoMemory) = Unit {0}
ReadsAll out digest old new (Err (DiskFault disk)) = HasFailedOn old new disk
ReadsAll out digest old new (Err NoUberblock) = ⊥
ReadsAll out digest old new (Err NoLabel) = AreKnown out old → AreHonestSince (length old.calls) new.starts new.calls → HasUnlabeled out old
ReadsAll out digest old new (Err UsedUp) = ⊥

-- ---- what a claim is to write

-- the label of this number shows nothing
abbrev pub ShowsNothing : Disks → ℕ → ℕ → Type 0
ShowsNothing disks which number = IsKnown disks which × ((l : PlainLabel) → ¬ IsLabelShown (length (bytes_of disks.starts which)) (content disks which) number l)

-- a label that was read before; else want of memory, a call that failed, or it shows nothing now
abbrev pub ReadsAgain : Disks → Disks → ℕ → ℕ → Result Label Refusal → Type 0
ReadsAgain old new which number (Ok found) =
    IsValid (label_view found)
    × (IsKnown old which → AreHonestSince (length old.calls) new.starts new.calls → (l : PlainLabel)
    → IsLabelShown (length (bytes_of old.starts which)) (content old which) number l → l ≡ label_view found)
ReadsAgain old new which number (Err NoMemory) = Unit {0}
ReadsAgain old new which number (Err (DiskFault disk)) = HasFailedOn old new disk
ReadsAgain old new which number (Err NoUberblock) = ⊥
ReadsAgain old new which number (Err NoLabel) =
    IsKnown old which → AreHonestSince (length old.calls) new.starts new.calls → ShowsNothing old which number
ReadsAgain old new which number (Err UsedUp) = ⊥

-- one of two disks
abbrev pub is_either : ℕ → ℕ → ℕ → Type 0
is_either first second which = (which ≡ first) ⊎ (which ≡ second)

-- what is made of a disk's own label and a donor's
abbrev pub IsMadeFrom : Labeled → List ℕ → PlainLabel → PlainLabel → PlainLabel → Type 0
IsMadeFrom it digest own given l = ((it.config_digest ≡ digest) × (l ≡ own)) ⊎ (¬ (it.config_digest ≡ digest) × (l ≡ renumbered given own))

-- one of the two labels shows nothing now
abbrev pub LacksSource : Labeled → Donor → Disks → ℕ → Type 0
LacksSource it donor disks which = ShowsNothing disks which it.source ⊎ ShowsNothing disks donor.disk donor.label

-- the label that a disk's labels are made of
abbrev pub MakesLabel : Labeled → Donor → List ℕ → Disks → Disks → ℕ → Result Label Refusal → Type 0
MakesLabel it donor digest old new which (Ok found) =
    IsValid (label_view found)
    × (IsKnown old which → IsKnown old donor.disk → AreHonestSince (length old.calls) new.starts new.calls → (own given : PlainLabel)
    → IsLabelShown (length (bytes_of old.starts which)) (content old which) it.source own
    → IsLabelShown (length (bytes_of old.starts donor.disk)) (content old donor.disk) donor.label given → IsMadeFrom it digest own given (label_view found))
MakesLabel it donor digest old new which (Err NoMemory) = Unit {0}
MakesLabel it donor digest old new which (Err (DiskFault disk)) = HasFailedOn old new disk
MakesLabel it donor digest old new which (Err NoUberblock) = ⊥
MakesLabel it donor digest old new which (Err NoLabel) =
    IsKnown old which → IsKnown old donor.disk → AreHonestSince (length old.calls) new.starts new.calls → LacksSource it donor old which
MakesLabel it donor digest old new which (Err UsedUp) = ⊥

-- the area is of a label that is made of those two
abbrev pub IsAreaFrom : Labeled → Uberblock → PlainLabel → PlainLabel → Area → Type 0
IsAreaFrom it u own given area =
    (l : PlainLabel) × IsMadeFrom it u.config_digest own given l × (area.bytes.items ≡ inscribed (relabeled l u.claim u.group Active))

-- the area of one disk's labels; else want of memory, a call that failed, or a label that it is made of shows nothing
abbrev pub MakesArea : Labeled → Donor → Uberblock → Disks → Disks → ℕ → Result Area Refusal → Type 0
MakesArea it donor u old new which (Ok area) =
    (area.first ≡ it.first) × FitsArea u area
    × (IsKnown old which → IsKnown old donor.disk → AreHonestSince (length old.calls) new.starts new.calls → (own given : PlainLabel)
    → IsLabelShown (length (bytes_of old.starts which)) (content old which) it.source own
    → IsLabelShown (length (bytes_of old.starts donor.disk)) (content old donor.disk) donor.label given → IsAreaFrom it u own given area)
MakesArea it donor u old new which (Err NoMemory) = Unit {0}
MakesArea it donor u old new which (Err (DiskFault disk)) = HasFailedOn old new disk
MakesArea it donor u old new which (Err NoUberblock) = ⊥
MakesArea it donor u old new which (Err NoLabel) =
    IsKnown old which → IsKnown old donor.disk → AreHonestSince (length old.calls) new.starts new.calls → LacksSource it donor old which
MakesArea it donor u old new which (Err UsedUp) = ⊥

-- the same where nothing may have been read of the disk
abbrev pub MakesAreaIfRead : List (Option Labeled) → Donor → Uberblock → Disks → Disks → ℕ → Result (Option Area) Refusal → Type 0
MakesAreaIfRead labels donor u old new which (Ok None) = ¬ HasLabeled labels which
MakesAreaIfRead labels donor u old new which (Ok (Some area)) = (it : Labeled) × (slice_get labels which ≡ Some (Some it)) × MakesArea it donor u old new which (Ok area)
MakesAreaIfRead labels donor u old new which (Err refusal) = (it : Labeled) × (slice_get labels which ≡ Some (Some it)) × MakesArea it donor u old new which (Err refusal)

-- a disk has an area where something was read of it, with its claim label
pub record AreMadeFor (labels : List (Option Labeled)) (areas : List (Option Area)) : Type 0 where
  pub each : (which : ℕ) → HasLabeled labels which → HasArea areas which
  pub only : (which : ℕ) (area : Area) → slice_get areas which ≡ Some (Some area) → (it : Labeled) × (slice_get labels which ≡ Some (Some it)) × (area.first ≡ it.first)

-- a label that an area is made of shows nothing
pub record HasBadSource (labels : List (Option Labeled)) (donor : Donor) (disks : Disks) : Type 0 where
  pub which : ℕ
  pub it : Labeled
  pub at : slice_get labels which ≡ Some (Some it)
  pub bad : IsKnown disks which → IsKnown disks donor.disk → LacksSource it donor disks which

-- each area is of a label that is made of the disk's own and the donor's
abbrev pub AreFromSources : List (Option Labeled) → Donor → Uberblock → Disks → List (Option Area) → Type 0
AreFromSources labels donor u disks areas =
    (which : ℕ) (it : Labeled) (area : Area) (own given : PlainLabel) → slice_get labels which ≡ Some (Some it) → slice_get areas which ≡ Some (Some area) → IsKnown disks which
    → IsKnown disks donor.disk → IsLabelShown (length (bytes_of disks.starts which)) (content disks which) it.source own
    → IsLabelShown (length (bytes_of disks.starts donor.disk)) (content disks donor.disk) donor.label given → IsAreaFrom it u own given area

-- the areas of all disks of which something was read; else want of memory, a call that failed, or a label
-- that one is made of shows nothing
abbrev pub MakesAreas : List (Option Labeled) → Donor → Uberblock → Disks → Disks → Result (Vec (Option Area) Global) Refusal → Type 0
MakesAreas labels donor u old new (Ok areas) = (length areas.items ≡ length labels) × AreMadeFor labels areas.items × AreasFit u areas.items
    × (AreHonestSince (length old.calls) new.starts new.calls → AreFromSources labels donor u old areas.items)
MakesAreas labels donor u old new (Err NoMemory) = Unit {0}
MakesAreas labels donor u old new (Err (DiskFault disk)) = HasFailedOn old new disk
MakesAreas labels donor u old new (Err NoUberblock) = ⊥
MakesAreas labels donor u old new (Err NoLabel) = AreHonestSince (length old.calls) new.starts new.calls → HasBadSource labels donor old
MakesAreas labels donor u old new (Err UsedUp) = ⊥

-- the donor is a disk of which something was read
pub record IsGiven (labels : List (Option Labeled)) (donor : Donor) : Type 0 where
  pub there : HasLabeled labels donor.disk
  pub small : donor.label < 4

-- it has this configuration in the label that it gives
pub record IsDonor (labels : List (Option Labeled)) (digest : List ℕ) (donor : Donor) : Type 0 where
  pub it : Labeled
  pub at : get_or labels donor.disk None ≡ Some it
  pub config : it.config_digest ≡ digest
  pub label : donor.label ≡ it.source

-- no disk has it
abbrev pub NoDonor : List (Option Labeled) → List ℕ → Type 0
NoDonor labels digest = (which : ℕ) (it : Labeled) → get_or labels which None ≡ Some it → ¬ (it.config_digest ≡ digest)

-- the greater of a claim and what labels show, if they were read
pub record IsGreater (claim : ℕ) (labeled : Option Labeled) (result : ℕ) : Type 0 where
  pub from : claim ≤ result
  pub each : (it : Labeled) → labeled ≡ Some it → it.claim ≤ result
  pub is : (result ≡ claim) ⊎ ((it : Labeled) × (labeled ≡ Some it) × (it.claim ≡ result))

-- the greatest of a claim and those of the first n
pub record IsGreatestIn (labels : List (Option Labeled)) (least n claim : ℕ) : Type 0 where
  pub from : least ≤ claim
  pub each : (which : ℕ) (it : Labeled) → which < n → slice_get labels which ≡ Some (Some it) → it.claim ≤ claim
  pub is : (claim ≡ least) ⊎ ((which : ℕ) × (it : Labeled) × (slice_get labels which ≡ Some (Some it)) × (it.claim ≡ claim))

-- what is learned of the disks, where they answer truly
pub record IsPlanned (out : List Bool) (disks : Disks) (highest u : Uberblock) (areas : List (Option Area)) : Type 0 where
  pub next : IsNextClaim out disks highest u.claim
  pub spared : SparesMark out disks areas
  pub made : AreMadeOf out disks u areas

-- The taken uberblock under the next claim, and areas for the disks in use.
abbrev pub PlansClaim : List Bool → Uberblock → Uberblock → Disks → Disks → Result Plan Refusal → Type 0
PlansClaim out taken highest old new (Ok plan) =
    (plan.claimed ≡ record taken { claim = plan.claimed.claim }) × (highest.claim < plan.claimed.claim) × Fits plan.claimed
    × (length plan.areas.items ≡ length old.starts) × AreasOn out plan.areas.items × AreasFit plan.claimed plan.areas.items
    × (AreKnown out old → AreHonestSince (length old.calls) new.starts new.calls → IsPlanned out old highest plan.claimed plan.areas.items)
PlansClaim out taken highest old new (Err NoMemory) = Unit {0}
PlansClaim out taken highest old new (Err (DiskFault disk)) = HasFailedOn old new disk
PlansClaim out taken highest old new (Err NoUberblock) = ⊥
PlansClaim out taken highest old new (Err NoLabel) = AreKnown out old → AreHonestSince (length old.calls) new.starts new.calls → LacksLabel out old taken.config_digest
PlansClaim out taken highest old new (Err UsedUp) = AreKnown out old → AreHonestSince (length old.calls) new.starts new.calls → IsUsedUp out old highest
