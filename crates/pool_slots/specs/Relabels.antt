-- What a claim makes of labels.
use Rattle.std.specs.Prelude.{◌≡◌, ◌⊎◌, ◌<◌, ℕ, Bool, true, List, length, slice_get, Option, Some}
use Rattle.model_disk.specs.Joint.{Disks, bytes_of, content, AreHonestSince}
use Rattle.model_disk.specs.Runs.{IsMoment, Makes, no_write}
use Rattle.uberblock_ring.specs.Uberblock.{Fits}
use Rattle.uberblock_ring.specs.declared.uberblock.Uberblock.{Uberblock}
use Rattle.sha2.specs.Sha256.{sha256}
use Rattle.vdev_label.specs.Config.{config_bytes}
use Rattle.vdev_label.specs.Plain.{PlainLabel}
use Rattle.vdev_label.specs.Room.{relabeled}
use Rattle.vdev_label.specs.declared.label.State.TheVariants.{Active}
use Rattle.pool_slots.specs.Labels.{AreasStand, InAreaTurn, IsAreaWrite, IsLabeledAs, IsLabelShown, IsWithout, area_place, inscribed, renumbered}
use Rattle.pool_slots.specs.Opens.{AreKnown}
use Rattle.pool_slots.specs.Slots.{AreSettled, InUse}
use Rattle.pool_slots.specs.Writes.{IsSlotWrite, in_use}
use Rattle.pool_slots.specs.declared.labeled.Area.{Area}
use Rattle.pool_slots.specs.declared.labeled.Labeled.{Labeled}

-- ---- the labels that are written

-- what the labels of a disk show as the uberblock is claimed
abbrev pub IsLabeledFor : Disks → Uberblock → ℕ → Labeled → Type 0
IsLabeledFor disks u which it = IsLabeledAs (length (bytes_of disks.starts which)) (content disks which) u.config_digest it

-- No label of the disk has the uberblock's configuration; a label of a disk in use has, and this is that one with the numbers of the disk's own.
pub record IsTakenOver (out : List Bool) (disks : Disks) (u : Uberblock) (which : ℕ) (own label : PlainLabel) : Type 0 where
  pub without : IsWithout (length (bytes_of disks.starts which)) (content disks which) u.config_digest
  pub other : ℕ
  pub used : InUse out other
  pub number : ℕ
  pub given : PlainLabel
  pub shown : IsLabelShown (length (bytes_of disks.starts other)) (content disks other) number given
  pub config : sha256 (config_bytes given.vdevs) ≡ u.config_digest
  pub is : label ≡ renumbered given own

-- What a claim makes a disk's labels of: its latest one with the uberblock's configuration; where it has none, that of another disk.
pub record IsLabelFor (out : List Bool) (disks : Disks) (u : Uberblock) (which : ℕ) (it : Labeled) (label : PlainLabel) : Type 0 where
  pub own : PlainLabel
  pub shown : IsLabelShown (length (bytes_of disks.starts which)) (content disks which) it.source own
  pub from : ((it.config_digest ≡ u.config_digest) × (label ≡ own)) ⊎ IsTakenOver out disks u which own label

-- Each label of the disk now is that, but for the uberblock's claim and group, and that it is in use.
pub record IsRelabeled (out : List Bool) (old : Disks) (u : Uberblock) (new : Disks) (which : ℕ) : Type 0 where
  pub it : Labeled
  pub read : IsLabeledFor old u which it
  pub label : PlainLabel
  pub source : IsLabelFor out old u which it label
  pub each : (number : ℕ) → number < 4 → IsLabelShown (length (bytes_of new.starts which)) (content new which) number (relabeled label u.claim u.group Active)

-- of the disks in use
abbrev pub OpenRelabels : List Bool → Disks → Uberblock → Disks → Type 0
OpenRelabels out old u new = AreKnown out old → AreHonestSince (length old.calls) new.starts new.calls → (which : ℕ) → InUse out which → IsRelabeled out old u new which

-- A label of its disk, as a claim makes it: of the uberblock's claim and group, and in use.
pub record IsRelabelWrite (out : List Bool) (disks : Disks) (u : Uberblock) (which at : ℕ) (bytes : List ℕ) : Type 0 where
  pub number : ℕ
  pub is_label : number < 4
  pub place : at ≡ area_place (length (bytes_of disks.starts which)) number
  pub it : Labeled
  pub read : IsLabeledFor disks u which it
  pub label : PlainLabel
  pub source : IsLabelFor out disks u which it label
  pub spells : bytes ≡ inscribed (relabeled label u.claim u.group Active)

-- that, or a slot of the uberblock on a disk in use
abbrev pub IsRewrite : List Bool → Disks → Uberblock → ℕ → ℕ → List ℕ → Type 0
IsRewrite out disks u which at bytes = IsSlotWrite disks.starts u (in_use out) which at bytes ⊎ IsRelabelWrite out disks u which at bytes

-- nothing is written, or nothing else of one uberblock
abbrev pub OpenRewrites : List Bool → Disks → Disks → Type 0
OpenRewrites out old new =
    AreKnown out old → AreHonestSince (length old.calls) new.starts new.calls → Makes no_write old new ⊎ ((u : Uberblock) × Fits u × Makes (IsRewrite out old u) old new)

-- ---- which of them is written first

-- a disk's claim label
pub record IsClaimLabelWrite (disks : Disks) (u : Uberblock) (which at : ℕ) (bytes : List ℕ) : Type 0 where
  pub it : Labeled
  pub read : IsLabeledFor disks u which it
  pub place : at ≡ area_place (length (bytes_of disks.starts which)) it.first

-- the disk's claim label shows the claim
pub record ShowsClaim (old : Disks) (u : Uberblock) (now : Disks) (which : ℕ) : Type 0 where
  pub it : Labeled
  pub read : IsLabeledFor old u which it
  pub label : PlainLabel
  pub shown : IsLabelShown (length (bytes_of now.starts which)) (content now which) it.first label
  pub claim : label.claim ≡ u.claim

-- At some moment nothing was written but claim labels, and each disk in use shows the claim in its own, flushed.
pub record AreMarkedFirst (out : List Bool) (old : Disks) (u : Uberblock) (new : Disks) : Type 0 where
  pub now : Disks
  pub moment : IsMoment (length old.calls) new.calls now.calls
  pub alone : Makes (IsClaimLabelWrite old u) old now
  pub settled : AreSettled out now.calls
  pub marked : (which : ℕ) → InUse out which → ShowsClaim old u now which

-- where bytes were known and answers are true, a claim writes and flushes all claim labels before all else
abbrev pub OpenMarksFirst : List Bool → Disks → Uberblock → Disks → Type 0
OpenMarksFirst out old u new = AreKnown out old → AreHonestSince (length old.calls) new.starts new.calls → AreMarkedFirst out old u new

-- ---- what a claim is given, and what it ensures of that

-- the area of one disk's labels, made of what they show
pub record IsMadeOf (out : List Bool) (disks : Disks) (u : Uberblock) (which : ℕ) (area : Area) : Type 0 where
  pub it : Labeled
  pub read : IsLabeledFor disks u which it
  pub first : area.first ≡ it.first
  pub label : PlainLabel
  pub source : IsLabelFor out disks u which it label
  pub spells : area.bytes.items ≡ inscribed (relabeled label u.claim u.group Active)

-- each area is made of its disk's latest label with the uberblock's configuration, or where the disk has
-- none of another disk's label with it
abbrev pub AreMadeOf : List Bool → Disks → Uberblock → List (Option Area) → Type 0
AreMadeOf out disks u areas = (which : ℕ) (area : Area) → slice_get areas which ≡ Some (Some area) → IsMadeOf out disks u which area

-- a disk's area, for each label
pub record InAllLabels (areas : List (Option Area)) (which number : ℕ) (bytes : List ℕ) : Type 0 where
  pub area : Area
  pub has : slice_get areas which ≡ Some (Some area)
  pub same : bytes ≡ area.bytes.items

-- one of these areas in a label of its disk, or a slot of the uberblock on a disk in use
abbrev pub of_areas : List (List ℕ) → List Bool → Uberblock → List (Option Area) → ℕ → ℕ → List ℕ → Type 0
of_areas starts out u areas which at bytes = IsSlotWrite starts u (in_use out) which at bytes ⊎ IsAreaWrite starts (InAllLabels areas) which at bytes

-- at some moment the claim labels alone were written, and stand flushed
pub record AreFirst (out : List Bool) (old : Disks) (areas : List (Option Area)) (new : Disks) : Type 0 where
  pub now : Disks
  pub moment : IsMoment (length old.calls) new.calls now.calls
  pub alone : Makes (IsAreaWrite old.starts (InAreaTurn areas true)) old now
  pub settled : AreSettled out now.calls
  pub stand : AreasStand (content now) old.starts (InAreaTurn areas true)
