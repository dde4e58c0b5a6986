-- What an open reads, and what it claims.
use Rattle.std.specs.Prelude.{◌≡◌, ◌⊎◌, ◌<◌, ℕ, ◌-◌, ◌/◌, ◌%◌, Bool, List, [], ◌∷◌, length, slice_get, get_or, Option, Some, None, Contains, Result, Ok, Err, Vec}
use Rattle.std.specs.declared.alloc.Global.{Global}
use Rattle.model_disk.specs.Joint.{JointCall, Disks, bytes_of, content, AreHonestSince}
use Rattle.model_disk.specs.Runs.{EachSince}
use Rattle.uberblock_ring.specs.declared.uberblock.Uberblock.{Uberblock}
use Rattle.uberblock_ring.specs.Ranking.{RanksUpTo, Has, IsRewound}
use Rattle.uberblock_ring.specs.Uberblock.{Fits}
use Rattle.pool_slots.specs.Failures.{HasFailedOn}
use Rattle.pool_slots.specs.Slots.{InUse, AreSettled, slot_at, IsSlot, Shows}
use Rattle.pool_slots.specs.Possible.{Possible, all_of, IsInReach, IsTopped, Trees, TreeStands, Leads, LeavesLeading, AllAreBelow}
use Rattle.pool_slots.specs.Writes.{InTurn}
use Rattle.pool_slots.specs.Commits.{AreOffLabels, AreAt, LeadAlways}
use Rattle.pool_slots.specs.Labels.{IsNextClaim}
use Rattle.pool_slots.specs.Marks.{AreMarked, IsSpared, LeavesMarked}
use Rattle.pool_slots.specs.declared.found.Found.{Found}
use Rattle.pool_slots.specs.declared.labeled.Area.{Area}
use Rattle.pool_slots.specs.declared.refusal.Refusal.{Refusal}
use Rattle.pool_slots.specs.declared.refusal.Refusal.TheVariants.{NoMemory, DiskFault, NoUberblock, NoLabel, UsedUp}

-- ---- what is read

-- each byte of the disk is known, as after an honest start
abbrev pub IsKnown : Disks → ℕ → Type 0
IsKnown disks which = (i : ℕ) → i < length (bytes_of disks.starts which) → (value : ℕ) × (content disks which i ≡ Some value)

-- each byte of each disk in use is known
abbrev pub AreKnown : List Bool → Disks → Type 0
AreKnown out disks = (which : ℕ) → InUse out which → IsKnown disks which

-- of a disk's slots, counted one label after the other: the highest, and the half of the labels in which it doesn't stand
pub record HasHighest (slots : List (Option Uberblock)) (found : Found) : Type 0 where
  pub number : ℕ
  pub has : Has slots number found.uberblock
  pub half : found.other_half ≡ 1 - number / 128 % 2
  pub greatest : (other : ℕ) (u : Uberblock) → Has slots other u → RanksUpTo u found.uberblock

-- the highest uberblock that the slots of a disk show, and the half of the labels in which it was not read
pub record IsHighest (size : ℕ) (held : ℕ → Option ℕ) (found : Found) : Type 0 where
  pub label : ℕ
  pub slot : ℕ
  pub is_slot : IsSlot label slot
  pub shows : Shows held (slot_at size label slot) slot found.uberblock
  pub alone : (v : Uberblock) → Shows held (slot_at size label slot) slot v → v ≡ found.uberblock
  pub half : found.other_half ≡ 1 - label % 2
  pub greatest : (other number : ℕ) → IsSlot other number → (v : Uberblock) → Shows held (slot_at size other number) number v → RanksUpTo v found.uberblock

-- the slots of a disk show no uberblock
abbrev pub IsBareOn : ℕ → (ℕ → Option ℕ) → Type 0
IsBareOn size held = (label slot : ℕ) → IsSlot label slot → (u : Uberblock) → ¬ Shows held (slot_at size label slot) slot u

-- on a disk in use the highest was found, or it shows none; and nothing on the others
abbrev pub IsFoundOn : List Bool → Disks → ℕ → Option Found → Type 0
IsFoundOn out disks which None = InUse out which → IsBareOn (length (bytes_of disks.starts which)) (content disks which)
IsFoundOn out disks which (Some found) = InUse out which × IsHighest (length (bytes_of disks.starts which)) (content disks which) found

-- what was found: the highest uberblock of each disk in use that shows one, and nothing of the others
abbrev pub AreFound : List Bool → Disks → List (Option Found) → Type 0
AreFound out disks all = (which : ℕ) → IsFoundOn out disks which (get_or all which None)

-- what was found on the disk of this number
abbrev pub FoundAt : List (Option Found) → ℕ → Found → Type 0
FoundAt all which found = get_or all which None ≡ Some found

-- nothing on a disk that is out
abbrev pub AreOn : List Bool → List (Option Found) → Type 0
AreOn out all = (which : ℕ) (found : Found) → FoundAt all which found → InUse out which

-- a slot of the disk shows the uberblock
pub record IsShownOn (size : ℕ) (held : ℕ → Option ℕ) (u : Uberblock) : Type 0 where
  pub label : ℕ
  pub slot : ℕ
  pub is_slot : IsSlot label slot
  pub shows : Shows held (slot_at size label slot) slot u

-- and no other
pub record IsReadOn (size : ℕ) (held : ℕ → Option ℕ) (u : Uberblock) : Type 0 where
  pub on : IsShownOn size held u
  pub alone : (v : Uberblock) → Shows held (slot_at size on.label on.slot) on.slot v → v ≡ u

-- a disk in use shows it
pub record IsShown (out : List Bool) (disks : Disks) (u : Uberblock) : Type 0 where
  pub which : ℕ
  pub used : InUse out which
  pub on : IsShownOn (length (bytes_of disks.starts which)) (content disks which) u

-- no disk in use shows one
abbrev pub IsBare : List Bool → Disks → Type 0
IsBare out disks = (u : Uberblock) → ¬ IsShown out disks u

-- and no other there
pub record IsRead (out : List Bool) (disks : Disks) (u : Uberblock) : Type 0 where
  pub which : ℕ
  pub used : InUse out which
  pub on : IsReadOn (length (bytes_of disks.starts which)) (content disks which) u

-- the highest that disks in use show
pub record IsHighestShown (out : List Bool) (disks : Disks) (u : Uberblock) : Type 0 where
  pub shown : IsRead out disks u
  pub greatest : (v : Uberblock) → IsShown out disks v → RanksUpTo v u

-- the uberblock that was found, if one was
abbrev pub uberblock_of : Option Found → Option Uberblock
uberblock_of None = None
uberblock_of (Some found) = Some found.uberblock

-- one of those that were found, and none ranks above it
pub record IsHighestOf (all : List (Option Found)) (u : Uberblock) : Type 0 where
  pub which : ℕ
  pub found : Found
  pub at : FoundAt all which found
  pub is : u ≡ found.uberblock
  pub greatest : (other : ℕ) (it : Found) → FoundAt all other it → RanksUpTo it.uberblock u

-- each uberblock that was found has a spelling
abbrev pub AreFitting : List (Option Found) → Type 0
AreFitting all = (which : ℕ) (found : Found) → FoundAt all which found → Fits found.uberblock

-- ---- what the reads answer

-- the highest of one disk, or nothing where its slots show none; else want of memory, or a call that failed
abbrev pub FindsOn : Disks → Disks → ℕ → Result (Option Found) Refusal → Type 0
FindsOn old new which (Ok (Some found)) =
    Fits found.uberblock
    × (IsKnown old which → AreHonestSince (length old.calls) new.starts new.calls → IsHighest (length (bytes_of old.starts which)) (content old which) found)
FindsOn old new which (Ok None) =
    IsKnown old which → AreHonestSince (length old.calls) new.starts new.calls → IsBareOn (length (bytes_of old.starts which)) (content old which)
FindsOn old new which (Err NoMemory) = Unit {0}
FindsOn old new which (Err (DiskFault disk)) = HasFailedOn old new disk
FindsOn old new which (Err NoUberblock) = ⊥
FindsOn old new which (Err NoLabel) = ⊥
FindsOn old new which (Err UsedUp) = ⊥

-- the same where the disk may be out: then nothing is found
abbrev pub FindsIfUsed : List Bool → Disks → Disks → ℕ → Result (Option Found) Refusal → Type 0
FindsIfUsed out old new which (Ok None) = InUse out which → FindsOn old new which (Ok None)
FindsIfUsed out old new which (Ok (Some found)) = InUse out which × FindsOn old new which (Ok (Some found))
FindsIfUsed out old new which (Err refusal) = InUse out which × FindsOn old new which (Err refusal)

-- of all disks
abbrev pub FindsAll : List Bool → Disks → Disks → Result (Vec (Option Found) Global) Refusal → Type 0
FindsAll out old new (Ok all) =
    (length all.items ≡ length old.starts) × AreOn out all.items × AreFitting all.items
    × (AreKnown out old → AreHonestSince (length old.calls) new.starts new.calls → AreFound out old all.items)
FindsAll out old new (Err NoMemory) = Unit {0}
FindsAll out old new (Err (DiskFault disk)) = HasFailedOn old new disk
FindsAll out old new (Err NoUberblock) = ⊥
FindsAll out old new (Err NoLabel) = ⊥
FindsAll out old new (Err UsedUp) = ⊥

-- the highest of all that were found; else want of memory, or there is none
abbrev pub FindsHighest : List (Option Found) → Result Uberblock Refusal → Type 0
FindsHighest all (Ok u) = IsHighestOf all u × Fits u
FindsHighest all (Err NoMemory) = Unit {0}
FindsHighest all (Err (DiskFault disk)) = ⊥
FindsHighest all (Err NoUberblock) = (which : ℕ) (found : Found) → ¬ FoundAt all which found
FindsHighest all (Err NoLabel) = ⊥
FindsHighest all (Err UsedUp) = ⊥

-- on one disk the uberblock of the same claim as this one, and so many groups less, or none
abbrev pub FindsRewoundOn : Uberblock → ℕ → Disks → Disks → ℕ → Result (Option Uberblock) Refusal → Type 0
FindsRewoundOn from groups old new which (Ok (Some u)) =
    IsRewound from groups u × Fits u
    × (IsKnown old which → AreHonestSince (length old.calls) new.starts new.calls → IsReadOn (length (bytes_of old.starts which)) (content old which) u)
FindsRewoundOn from groups old new which (Ok None) =
    (v : Uberblock) → IsKnown old which → AreHonestSince (length old.calls) new.starts new.calls → IsShownOn (length (bytes_of old.starts which)) (content old which) v
    → ¬ IsRewound from groups v
FindsRewoundOn from groups old new which (Err NoMemory) = Unit {0}
FindsRewoundOn from groups old new which (Err (DiskFault disk)) = HasFailedOn old new disk
FindsRewoundOn from groups old new which (Err NoUberblock) = ⊥
FindsRewoundOn from groups old new which (Err NoLabel) = ⊥
FindsRewoundOn from groups old new which (Err UsedUp) = ⊥

-- the same where the disk may be out
abbrev pub FindsRewoundIfUsed : List Bool → Uberblock → ℕ → Disks → Disks → ℕ → Result (Option Uberblock) Refusal → Type 0
FindsRewoundIfUsed out from groups old new which (Ok (Some u)) = InUse out which × FindsRewoundOn from groups old new which (Ok (Some u))
FindsRewoundIfUsed out from groups old new which (Ok None) = InUse out which → FindsRewoundOn from groups old new which (Ok None)
FindsRewoundIfUsed out from groups old new which (Err refusal) = FindsRewoundOn from groups old new which (Err refusal)

-- on all disks in use: the first; else want of memory, a call that failed, or no slot shows one
abbrev pub FindsRewound : List Bool → Uberblock → ℕ → Disks → Disks → Result Uberblock Refusal → Type 0
FindsRewound out from groups old new (Ok u) =
    IsRewound from groups u × Fits u × (AreKnown out old → AreHonestSince (length old.calls) new.starts new.calls → IsRead out old u)
FindsRewound out from groups old new (Err NoMemory) = Unit {0}
FindsRewound out from groups old new (Err (DiskFault disk)) = HasFailedOn old new disk
FindsRewound out from groups old new (Err NoUberblock) =
    AreKnown out old → AreHonestSince (length old.calls) new.starts new.calls → (v : Uberblock) → IsShown out old v → ¬ IsRewound from groups v
FindsRewound out from groups old new (Err NoLabel) = ⊥
FindsRewound out from groups old new (Err UsedUp) = ⊥

-- what is taken where the disks show this highest one: that itself, or the one so many groups less; which where groups are gone back may not be there
abbrev pub TakesFrom : List Bool → Uberblock → ℕ → Disks → Disks → Result Uberblock Refusal → Type 0
TakesFrom out highest rewind old new (Ok u) =
    IsRewound highest rewind u × Fits u
    × (AreKnown out old → AreHonestSince (length old.calls) new.starts new.calls → IsRead out old highest → IsRead out old u)
TakesFrom out highest rewind old new (Err NoMemory) = Unit {0}
TakesFrom out highest rewind old new (Err (DiskFault disk)) = HasFailedOn old new disk
TakesFrom out highest rewind old new (Err NoUberblock) =
    (0 < rewind) × (AreKnown out old → AreHonestSince (length old.calls) new.starts new.calls → (v : Uberblock) → IsShown out old v → ¬ IsRewound highest rewind v)
TakesFrom out highest rewind old new (Err NoLabel) = ⊥
TakesFrom out highest rewind old new (Err UsedUp) = ⊥

-- ---- what is claimed

-- disks that may be opened: nothing is unflushed, and all in use lead to one of the possible uberblocks
pub record CanOpen (trees : Trees) (out : List Bool) (disks : Disks) (p : Possible) : Type 0 where
  pub some : (which : ℕ) × InUse out which
  pub off_labels : AreOffLabels trees out disks.starts
  pub known : AreKnown out disks
  pub settled : AreSettled out disks.calls
  pub leads : Leads trees out disks.starts (content disks) p

-- The uberblock is, under a claim above that of the last one, what stands so many groups below a possible one that is no lower than the
-- last one.
pub record IsClaimOf (p : Possible) (rewind : ℕ) (u : Uberblock) : Type 0 where
  pub highest : Uberblock
  pub possible : Contains (all_of p) highest
  pub rank : RanksUpTo p.last highest
  pub taken : Uberblock
  pub rewound : IsRewound highest rewind taken
  pub reached : IsInReach p taken
  pub is : u ≡ record taken { claim = u.claim }
  pub above : p.last.claim < u.claim

-- It is what the disks show so many groups below the highest that they show, under the claim after that one's and all that labels show.
pub record IsTakenFrom (out : List Bool) (disks : Disks) (rewind : ℕ) (u : Uberblock) : Type 0 where
  pub highest : Uberblock
  pub top : IsHighestShown out disks highest
  pub taken : Uberblock
  pub shown : IsRead out disks taken
  pub rewound : IsRewound highest rewind taken
  pub is : u ≡ record taken { claim = u.claim }
  pub next : IsNextClaim out disks highest u.claim

-- no disk in use shows what is so many groups below the highest
pub record IsNotThere (out : List Bool) (disks : Disks) (rewind : ℕ) : Type 0 where
  pub highest : Uberblock
  pub top : IsHighestShown out disks highest
  pub none : (v : Uberblock) → IsShown out disks v → ¬ IsRewound highest rewind v

-- the same possible uberblocks, and this one as begun to be written too
abbrev pub also_begun : Uberblock → Possible → Possible
also_begun u p = record { last = p.last; begun = u ∷ p.begun; before = p.before }

-- A stop at any moment leaves what led there before, or also to a claim of it.
abbrev pub LeadsOrClaims : Trees → List Bool → ℕ → Disks → Disks → Possible → Type 0
LeadsOrClaims trees out rewind old new p =
    LeadAlways trees out old new p ⊎ ((u : Uberblock) × IsClaimOf p rewind u × LeadAlways trees out old new (also_begun u p))

-- The uberblock may be claimed: all that the disks show is out of its reach, its tree stands, and on each disk a slot outside the half that is
-- written first shows what is no lower than the last one.
pub record MayClaim (trees : Trees) (out : List Bool) (disks : Disks) (p : Possible) (u : Uberblock) (all : List (Option Found)) : Type 0 where
  pub off_labels : AreOffLabels trees out disks.starts
  pub settled : AreSettled out disks.calls
  pub leads : Leads trees out disks.starts (content disks) p
  pub below : AllAreBelow out disks u
  pub above : RanksUpTo p.last u
  pub tree : TreeStands trees out (content disks) u.root
  pub top : (which : ℕ) → InUse out which → IsTopped (length (bytes_of disks.starts which)) (content disks which) p.last
  pub spared : (which : ℕ) → (used : InUse out which) → ¬ InTurn out all 0 which (top which used).label

-- what `open` ensures of any disks, at each moment
abbrev pub OpenKeeps : List Bool → ℕ → Disks → Disks → Type 0
OpenKeeps out rewind old new =
    (trees : Trees) (p : Possible) → CanOpen trees out old p → AreHonestSince (length old.calls) new.starts new.calls → LeadsOrClaims trees out rewind old new p

-- and once it is done
abbrev pub OpenGives : List Bool → ℕ → Disks → Uberblock → Disks → Type 0
OpenGives out rewind old u new =
    (trees : Trees) (p : Possible) → CanOpen trees out old p → AreHonestSince (length old.calls) new.starts new.calls
    → IsClaimOf p rewind u × AreAt trees out new u []

-- which one it has taken
abbrev pub OpenTakes : List Bool → ℕ → Disks → Uberblock → Disks → Type 0
OpenTakes out rewind old u new = AreKnown out old → AreHonestSince (length old.calls) new.starts new.calls → IsTakenFrom out old rewind u

-- A stop now leaves what led there before, with labels that show no less than before; or what leads also to a claim of it that is above
-- all of them, with a label on each disk in use that shows it.
abbrev pub MarksAt : Trees → List Bool → ℕ → Disks → Possible → ℕ → List JointCall → Type 0
MarksAt trees out rewind old p claim calls =
    (LeavesLeading trees out old.starts p calls × LeavesMarked out old.starts claim calls)
    ⊎ ((u : Uberblock) × IsClaimOf p rewind u × (claim < u.claim) × LeavesLeading trees out old.starts (also_begun u p) calls × LeavesMarked out old.starts u.claim calls)

-- what `open` ensures of labels, at each moment, where each disk in use has one
abbrev pub OpenMarks : List Bool → ℕ → Disks → Disks → Type 0
OpenMarks out rewind old new =
    (trees : Trees) (p : Possible) (claim : ℕ) → CanOpen trees out old p → AreMarked out old.starts (content old) claim → AreHonestSince (length old.calls) new.starts new.calls
    → EachSince (length old.calls) (MarksAt trees out rewind old p claim) new.calls

-- ---- what a claim ensures

-- of the slots alone: at each moment, and once it is done
abbrev pub SlotsKeep : List Bool → Disks → Uberblock → List (Option Found) → Disks → Type 0
SlotsKeep out old u all new = (trees : Trees) (p : Possible) → MayClaim trees out old p u all → LeadAlways trees out old new (also_begun u p)

-- Once all slots of an uberblock that may be claimed are written, it is committed: nothing is unflushed,
-- and all disks in use lead to it alone.
abbrev pub SlotsGive : List Bool → Disks → Uberblock → List (Option Found) → Disks → Type 0
SlotsGive out old u all new =
    (trees : Trees) (p : Possible) → MayClaim trees out old p u all → AreAt trees out new u [] × Leads trees out new.starts (content new) (also_begun u p)

-- beside each disk's claim label another shows no less
abbrev pub AreSpared : List Bool → Disks → List (Option Area) → ℕ → Type 0
AreSpared out disks areas claim =
    (which : ℕ) (area : Area) → InUse out which → slice_get areas which ≡ Some (Some area) → IsSpared (length (bytes_of disks.starts which)) (content disks which) area.first claim

-- A stop now leaves what led there before, with each disk's labels but its claim label; or what leads also to the claim, with a label on each
-- disk in use that shows it.
abbrev pub ClaimsAt : Trees → List Bool → Disks → Possible → Uberblock → List (Option Area) → List JointCall → Type 0
ClaimsAt trees out old p u areas calls =
    (LeavesLeading trees out old.starts p calls × ((claim : ℕ) → AreSpared out old areas claim → LeavesMarked out old.starts claim calls))
    ⊎ (LeavesLeading trees out old.starts (also_begun u p) calls × LeavesMarked out old.starts u.claim calls)

-- At each moment while an uberblock that may be claimed is claimed, a stop leaves what led there before; or
-- what leads also to the claim, with a label on each disk in use that shows it.
abbrev pub ClaimKeeps : List Bool → Disks → Uberblock → List (Option Found) → List (Option Area) → Disks → Type 0
ClaimKeeps out old u all areas new =
    (trees : Trees) (p : Possible) → MayClaim trees out old p u all → EachSince (length old.calls) (ClaimsAt trees out old p u areas) new.calls

-- Once the claim of an uberblock that may be claimed is done it is committed: nothing is unflushed, and all
-- disks in use lead to it alone.
abbrev pub ClaimGives : List Bool → Disks → Uberblock → List (Option Found) → Disks → Type 0
ClaimGives out old u all new = (trees : Trees) (p : Possible) → MayClaim trees out old p u all → AreAt trees out new u []
