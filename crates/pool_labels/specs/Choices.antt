-- Which pool the scanned disks are, and what an open takes from them.
use Rattle.std.specs.Prelude.{◌≡◌, ◌⊎◌, ◌≤◌, ◌<◌, ℕ, ◌^◌, false, List, length, count_by, slice_get, Option, Some, None, is_none, Vec}
use Rattle.std.specs.declared.alloc.Global.{Global}
use Rattle.sha2.specs.Sha256.{sha256}
use Rattle.uberblock_ring.specs.Ranking.{Has, RanksUpTo, IsRewound}
use Rattle.uberblock_ring.specs.declared.uberblock.Uberblock.{Uberblock}
use Rattle.vdev_label.specs.Config.{FitsConfig, config_bytes, guid_sum}
use Rattle.vdev_label.specs.Limits.{IsAllowed}
use Rattle.vdev_label.specs.Pairs.{state_number}
use Rattle.vdev_label.specs.Plain.{PlainVdev, config_view}
use Rattle.vdev_label.specs.declared.label.Label.{Label}
use Rattle.vdev_label.specs.declared.refusal.Breach.{Breach}
use Rattle.vdev_label.specs.declared.refusal.Breach.TheVariants as breach
use Rattle.pool_labels.specs.Sizes.{HasSectors}
use Rattle.pool_labels.specs.declared.choice.Choice.{Choice}
use Rattle.pool_labels.specs.declared.refusal.Refusal.{Refusal}
use Rattle.pool_labels.specs.declared.refusal.Refusal.TheVariants.{NoMemory, BadLabel, NoUberblock, TooManyMissing, PoolMismatch, BadConfig}
use Rattle.pool_labels.specs.declared.scanned.Reading.{Reading}
use Rattle.pool_labels.specs.declared.scanned.Reading.TheVariants.{Valid, Bad, Unreadable}
use Rattle.pool_labels.specs.declared.scanned.Scan.{Scan}
use Rattle.pool_labels.specs.declared.scanned.ScannedDisk.{ScannedDisk}
use Rattle.pool_labels.specs.declared.scanned.ScannedLabel.{ScannedLabel}

-- ---- labels

-- what was read is a valid label
abbrev pub IsValidReading : Reading → Type 0
IsValidReading (Valid l) = Unit {0}
IsValidReading (Bad it) = ⊥
IsValidReading Unreadable = ⊥

-- label i of the list is valid, and says this
pub record IsValidAt (labels : List ScannedLabel) (i : ℕ) (s : ScannedLabel) (l : Label) : Type 0 where
  pub at : slice_get labels i ≡ Some s
  pub valid : s.reading ≡ Valid l

-- some label in the list is valid
pub record HasValid (labels : List ScannedLabel) : Type 0 where
  pub i : ℕ
  pub s : ScannedLabel
  pub l : Label
  pub at : IsValidAt labels i s l

-- label i is not valid for this cause
pub record IsBadAt (labels : List ScannedLabel) (i : ℕ) (it : Breach) : Type 0 where
  pub s : ScannedLabel
  pub at : slice_get labels i ≡ Some s
  pub bad : s.reading ≡ Bad it

-- the first cause, or the tail where there is none
abbrev pub IsFirstBad : List ScannedLabel → Breach → Type 0
IsFirstBad labels it =
    ((i : ℕ) × IsBadAt labels i it × ((j : ℕ) (other : Breach) → j < i → ¬ IsBadAt labels j other))
    ⊎ ((it ≡ breach.Tail) × ((j : ℕ) (other : Breach) → ¬ IsBadAt labels j other))

-- of one pool, and of one disk just where they say the same disk
pub record AreOfOnePool (disk : ℕ) (l : Label) (other : ℕ) (m : Label) : Type 0 where
  pub pool : l.pool_guid ≡ m.pool_guid
  pub same : disk ≡ other → l.guid ≡ m.guid
  pub apart : l.guid ≡ m.guid → disk ≡ other

-- what was read of labels on two disks agrees: both are of one pool, and have one guid just where the disks
-- are one; or one of them isn't valid
abbrev pub Agree : ℕ → Reading → ℕ → Reading → Type 0
Agree disk (Valid l) other (Valid m) = AreOfOnePool disk l other m
Agree disk (Valid l) other (Bad it) = Unit {0}
Agree disk (Valid l) other Unreadable = Unit {0}
Agree disk (Bad it) other reading = Unit {0}
Agree disk Unreadable other reading = Unit {0}

-- what was read of two scanned labels agrees, each on its disk
abbrev pub LabelsAgree : ScannedLabel → ScannedLabel → Type 0
LabelsAgree s t = Agree s.disk s.reading t.disk t.reading

-- all valid labels do
abbrev pub AllAgree : List ScannedLabel → Type 0
AllAgree labels = (i j : ℕ) (s t : ScannedLabel) → j < i → slice_get labels j ≡ Some s → slice_get labels i ≡ Some t → LabelsAgree s t

-- its configuration has an encoding
abbrev pub HasConfig : Reading → Type 0
HasConfig (Valid l) = FitsConfig (config_view l.config)
HasConfig (Bad it) = Unit {0}
HasConfig Unreadable = Unit {0}

-- that of each valid label has
abbrev pub AreSound : List ScannedLabel → Type 0
AreSound labels = (i : ℕ) (s : ScannedLabel) → slice_get labels i ≡ Some s → HasConfig s.reading

-- what is wrong with it, if something is
abbrev pub IsBreachOf : Reading → Option Breach → Type 0
IsBreachOf (Valid l) it = it ≡ None
IsBreachOf (Bad b) it = it ≡ Some b
IsBreachOf Unreadable it = it ≡ None

-- it agrees with those in front of it
abbrev pub AgreesWithFront : List ScannedLabel → ℕ → Type 0
AgreesWithFront labels i = (j : ℕ) (s t : ScannedLabel) → j < i → slice_get labels j ≡ Some s → slice_get labels i ≡ Some t → LabelsAgree s t

-- ---- uberblocks

-- a slot shows it, and none shows what ranks above it
pub record IsGreatest (slots : List (Option Uberblock)) (u : Uberblock) : Type 0 where
  pub i : ℕ
  pub has : Has slots i u
  pub greatest : (j : ℕ) (other : Uberblock) → Has slots j other → RanksUpTo other u

-- the greatest, and what is so many groups less under its claim: itself where none is gone back
pub record IsTaken (slots : List (Option Uberblock)) (rewind : ℕ) (highest u : Uberblock) : Type 0 where
  pub top : IsGreatest slots highest
  pub i : ℕ
  pub has : Has slots i u
  pub rewound : IsRewound highest rewind u
  pub itself : rewind ≡ 0 → u ≡ highest

-- it has the last claim that there is
abbrev pub HasLastClaim : Reading → Type 0
HasLastClaim (Valid l) = 2 ^ 62 ≤ l.claim
HasLastClaim (Bad it) = ⊥
HasLastClaim Unreadable = ⊥

-- some valid label has
abbrev pub HaveLastClaim : List ScannedLabel → Type 0
HaveLastClaim labels = (i : ℕ) × (s : ScannedLabel) × (slice_get labels i ≡ Some s) × HasLastClaim s.reading

-- no group is left after it, or no claim after that of some label or slot
abbrev pub IsUsedUp : Scan → Uberblock → Type 0
IsUsedUp scan u =
    (2 ^ 62 ≤ u.group)
    ⊎ (((i : ℕ) × (v : Uberblock) × Has scan.slots.items i v × (2 ^ 62 ≤ v.claim))
    ⊎ HaveLastClaim scan.labels.items)

-- no slot shows anything; or none shows what is so many groups below the greatest; or what is to be taken is used up
abbrev pub HasNoUberblock : Scan → ℕ → Type 0
HasNoUberblock scan rewind =
    ((i : ℕ) (u : Uberblock) → ¬ Has scan.slots.items i u)
    ⊎ (((u : Uberblock) × IsGreatest scan.slots.items u × ((i : ℕ) (v : Uberblock) → Has scan.slots.items i v → ¬ IsRewound u rewind v))
    ⊎ ((highest : Uberblock) × (u : Uberblock) × IsTaken scan.slots.items rewind highest u × IsUsedUp scan u))

-- ---- the configuration

-- by the claim, under one claim by the group, in one group by the state
abbrev pub IsAbove : ℕ → ℕ → ℕ → ℕ → ℕ → ℕ → Type 0
IsAbove claim group state other_claim other_group other_state =
    (other_claim < claim)
    ⊎ (((other_claim ≡ claim) × (other_group < group))
    ⊎ ((other_claim ≡ claim) × (other_group ≡ group) × (other_state < state)))

-- the first label is later than the second, where one that is exported is later than one in use
abbrev pub IsLater : Label → Label → Type 0
IsLater l m = IsAbove l.claim l.group (state_number l.state) m.claim m.group (state_number m.state)

-- the label has the configuration of this digest
abbrev pub of_config : List ℕ → Label → Type 0
of_config digest l = sha256 (config_bytes (config_view l.config)) ≡ digest

-- of the valid labels with the configuration of this digest none is later, and each in front of it is earlier
pub record IsSource (labels : List ScannedLabel) (digest : List ℕ) (i : ℕ) (s : ScannedLabel) (l : Label) : Type 0 where
  pub at : IsValidAt labels i s l
  pub config : of_config digest l
  pub latest : (j : ℕ) (t : ScannedLabel) (m : Label) → IsValidAt labels j t m → of_config digest m → (¬ IsLater m l) × (j < i → IsLater l m)

-- the one of them, if there is one
abbrev pub SourceIs : List ScannedLabel → List ℕ → Option ℕ → Type 0
SourceIs labels digest (Some i) = (s : ScannedLabel) × (l : Label) × IsSource labels digest i s l
SourceIs labels digest None = (i : ℕ) (s : ScannedLabel) (l : Label) → IsValidAt labels i s l → ¬ of_config digest l

-- its values are within the limits, and its guids have the uberblock's sum
pub record IsFit (l : Label) (u : Uberblock) : Type 0 where
  pub allowed : IsAllowed l.pool_guid (config_view l.config)
  pub sum : guid_sum (config_view l.config) ≡ u.guid_sum

-- no label has the uberblock's configuration, or it isn't fit
abbrev pub HasNoConfig : List ScannedLabel → Uberblock → Type 0
HasNoConfig labels u =
    ((i : ℕ) (s : ScannedLabel) (l : Label) → IsValidAt labels i s l → ¬ of_config u.config_digest l)
    ⊎ ((i : ℕ) × (s : ScannedLabel) × (l : Label) × IsSource labels u.config_digest i s l × (¬ IsFit l u))

-- a source is fit
abbrev pub HasFitSource : List ScannedLabel → Uberblock → ℕ → Type 0
HasFitSource labels u i = (s : ScannedLabel) × (l : Label) × IsSource labels u.config_digest i s l × IsFit l u

-- there is a valid label at that place
abbrev pub HasLabelAt : List ScannedLabel → ℕ → Type 0
HasLabelAt labels i = (s : ScannedLabel) × (l : Label) × IsValidAt labels i s l

-- why no label gives the configuration: want of memory, or none has it, or the latest that has it isn't fit
abbrev pub SourceRefuses : List ScannedLabel → Uberblock → Refusal → Type 0
SourceRefuses labels u NoMemory = Unit {0}
SourceRefuses labels u (BadLabel it) = ⊥
SourceRefuses labels u PoolMismatch = ⊥
SourceRefuses labels u NoUberblock = ⊥
SourceRefuses labels u BadConfig = HasNoConfig labels u
SourceRefuses labels u TooManyMissing = ⊥

-- ---- disks

-- no read of it failed, and it has so many sectors
pub record IsUsable (disks : List ScannedDisk) (sectors which : ℕ) : Type 0 where
  pub d : ScannedDisk
  pub at : slice_get disks which ≡ Some d
  pub whole : d.failed ≡ false
  pub room : HasSectors d.size sectors

-- a valid label says that it is this disk, and it is usable
pub record IsPresent (scan : Scan) (sectors guid which : ℕ) : Type 0 where
  pub i : ℕ
  pub s : ScannedLabel
  pub l : Label
  pub at : IsValidAt scan.labels.items i s l
  pub disk : s.disk ≡ which
  pub named : l.guid ≡ guid
  pub usable : IsUsable scan.disks.items sectors which

-- what was read of a label of a disk says that
abbrev pub IsPresentAs : List ScannedDisk → ℕ → ℕ → ℕ → Reading → Type 0
IsPresentAs disks sectors guid which (Valid l) = (l.guid ≡ guid) × IsUsable disks sectors which
IsPresentAs disks sectors guid which (Bad it) = ⊥
IsPresentAs disks sectors guid which Unreadable = ⊥

-- which disk is this child, if one is
abbrev pub IsMember : Scan → ℕ → ℕ → Option ℕ → Type 0
IsMember scan sectors guid (Some which) = IsPresent scan sectors guid which
IsMember scan sectors guid None = (which : ℕ) → ¬ IsPresent scan sectors guid which

-- of each child of a vdev
pub record AreMembers (scan : Scan) (v : PlainVdev) (found : List (Option ℕ)) : Type 0 where
  pub count : length found ≡ length v.children
  pub each : (k guid : ℕ) (m : Option ℕ) → slice_get v.children k ≡ Some guid → slice_get found k ≡ Some m → IsMember scan v.child_sectors guid m

-- of each vdev
pub record AreAllMembers (scan : Scan) (vdevs : List PlainVdev) (all : List (Vec (Option ℕ) Global)) : Type 0 where
  pub count : length all ≡ length vdevs
  pub each : (k : ℕ) (v : PlainVdev) (found : Vec (Option ℕ) Global) → slice_get vdevs k ≡ Some v → slice_get all k ≡ Some found → AreMembers scan v found.items

-- how many are absent
abbrev pub absent_count : List (Option ℕ) → ℕ
absent_count found = count_by is_none found

-- no vdev has more than its parities
abbrev pub AreEnough : List PlainVdev → List (Vec (Option ℕ) Global) → Type 0
AreEnough vdevs all =
    (k : ℕ) (v : PlainVdev) (found : Vec (Option ℕ) Global) → slice_get vdevs k ≡ Some v → slice_get all k ≡ Some found → absent_count found.items ≤ v.parity

-- which disks they are, and that they are enough
abbrev pub HasEnough : Scan → List PlainVdev → Vec (Vec (Option ℕ) Global) Global → Type 0
HasEnough scan vdevs all = AreAllMembers scan vdevs all.items × AreEnough vdevs all.items

-- or that they are not
pub record HasTooFew (scan : Scan) (vdevs : List PlainVdev) : Type 0 where
  pub all : List (Vec (Option ℕ) Global)
  pub members : AreAllMembers scan vdevs all
  pub few : ¬ AreEnough vdevs all

-- why the children's disks aren't found: want of memory, or too many of a vdev are absent
abbrev pub MembersRefuse : Scan → List PlainVdev → Refusal → Type 0
MembersRefuse scan vdevs NoMemory = Unit {0}
MembersRefuse scan vdevs (BadLabel it) = ⊥
MembersRefuse scan vdevs PoolMismatch = ⊥
MembersRefuse scan vdevs NoUberblock = ⊥
MembersRefuse scan vdevs BadConfig = ⊥
MembersRefuse scan vdevs TooManyMissing = HasTooFew scan vdevs

-- ---- the answer

-- one pool's labels, and what is taken of them
pub record IsFound (scan : Scan) (rewind : ℕ) (highest u : Uberblock) : Type 0 where
  pub valid : HasValid scan.labels.items
  pub agree : AllAgree scan.labels.items
  pub taken : IsTaken scan.slots.items rewind highest u
  pub left : ¬ IsUsedUp scan u

-- and its configuration
pub record IsConfigured (scan : Scan) (rewind : ℕ) (highest u : Uberblock) (i : ℕ) (l : Label) : Type 0 where
  pub found : IsFound scan rewind highest u
  pub s : ScannedLabel
  pub source : IsSource scan.labels.items u.config_digest i s l
  pub fit : IsFit l u

-- which disk is which, of as many as are needed
pub record IsChoice (scan : Scan) (rewind : ℕ) (c : Choice) : Type 0 where
  pub l : Label
  pub configured : IsConfigured scan rewind c.highest c.taken c.source l
  pub members : AreAllMembers scan (config_view l.config) c.members.items
  pub enough : AreEnough (config_view l.config) c.members.items

-- more of a vdev are absent than it has parities
pub record AreTooFew (scan : Scan) (rewind : ℕ) : Type 0 where
  pub highest : Uberblock
  pub u : Uberblock
  pub i : ℕ
  pub l : Label
  pub configured : IsConfigured scan rewind highest u i l
  pub few : HasTooFew scan (config_view l.config)

-- why no uberblock of one pool is found
abbrev pub FindingRefuses : Scan → ℕ → Refusal → Type 0
FindingRefuses scan rewind NoMemory = ⊥
FindingRefuses scan rewind (BadLabel it) = (¬ HasValid scan.labels.items) × IsFirstBad scan.labels.items it
FindingRefuses scan rewind PoolMismatch = HasValid scan.labels.items × (¬ AllAgree scan.labels.items)
FindingRefuses scan rewind NoUberblock = HasValid scan.labels.items × AllAgree scan.labels.items × HasNoUberblock scan rewind
FindingRefuses scan rewind BadConfig = ⊥
FindingRefuses scan rewind TooManyMissing = ⊥

-- Why nothing is chosen; the first cause that holds. Want of memory may stand in place of each.
abbrev pub ChoiceRefuses : Scan → ℕ → Refusal → Type 0
ChoiceRefuses scan rewind NoMemory = Unit {0}
ChoiceRefuses scan rewind (BadLabel it) = (¬ HasValid scan.labels.items) × IsFirstBad scan.labels.items it
ChoiceRefuses scan rewind PoolMismatch = HasValid scan.labels.items × (¬ AllAgree scan.labels.items)
ChoiceRefuses scan rewind NoUberblock = HasValid scan.labels.items × AllAgree scan.labels.items × HasNoUberblock scan rewind
ChoiceRefuses scan rewind BadConfig = (highest : Uberblock) × (u : Uberblock) × IsFound scan rewind highest u × HasNoConfig scan.labels.items u
ChoiceRefuses scan rewind TooManyMissing = AreTooFew scan rewind
