-- What a survey of disks finds, and what may be claimed by it.
use Rattle.std.specs.Prelude.{◌≡◌, ◌⊎◌, ◌<◌, ℕ, Bool, List, length, Option}
use Rattle.model_disk.specs.Joint.{Disks, AreHonestSince}
use Rattle.model_disk.specs.Runs.{Makes, no_write}
use Rattle.uberblock_ring.specs.Ranking.{IsRewound}
use Rattle.uberblock_ring.specs.Uberblock.{Fits}
use Rattle.uberblock_ring.specs.declared.uberblock.Uberblock.{Uberblock}
use Rattle.pool_slots.specs.Failures.{HasFailedOn}
use Rattle.pool_slots.specs.LabelReads.{IsPlanned, LacksLabel}
use Rattle.pool_slots.specs.Labels.{AreasFit, AreasOn}
use Rattle.pool_slots.specs.Marks.{IsUsedUp}
use Rattle.pool_slots.specs.Opens.{AreFound, AreKnown, AreOn, IsBare, IsHighestOf, IsHighestShown, IsNotThere, IsRead}
use Rattle.pool_slots.specs.Slots.{InUse}
use Rattle.pool_slots.specs.declared.found.Found.{Found}
use Rattle.pool_slots.specs.declared.labeled.Area.{Area}
use Rattle.pool_slots.specs.declared.refusal.Refusal.{Refusal}
use Rattle.pool_slots.specs.declared.refusal.Refusal.TheVariants.{NoMemory, DiskFault, NoUberblock, NoLabel, UsedUp}

-- The highest uberblock of each disk in use that shows one, the highest of all, the one that is taken, the same under the next claim, and the areas of
-- labels for it.
pub record Surveyed : Type 0 where
  pub found : List (Option Found)
  pub highest : Uberblock
  pub taken : Uberblock
  pub claimed : Uberblock
  pub areas : List (Option Area)

-- It has what is to be written to each disk in use, and nothing for another; and found nothing on another.
pub record IsWholeOf (out : List Bool) (starts : List (List ℕ)) (s : Surveyed) : Type 0 where
  pub found : length s.found ≡ length starts
  pub found_on : AreOn out s.found
  pub fits : Fits s.claimed
  pub areas : length s.areas ≡ length starts
  pub areas_on : AreasOn out s.areas
  pub areas_fit : AreasFit s.claimed s.areas

-- What it says is what the disks show.
pub record IsSurveyOf (out : List Bool) (rewind : ℕ) (disks : Disks) (s : Surveyed) : Type 0 where
  pub found : AreFound out disks s.found
  pub highest : IsHighestOf s.found s.highest
  pub taken : IsRead out disks s.taken
  pub rewound : IsRewound s.highest rewind s.taken
  pub claimed : s.claimed ≡ record s.taken { claim = s.claimed.claim }
  pub planned : IsPlanned out disks s.highest s.claimed s.areas

-- It was made of the first disks, and nothing was written since: where all answers were true, it says what those disks show.
pub record IsSurveyed (out : List Bool) (rewind : ℕ) (first now : Disks) (s : Surveyed) : Type 0 where
  pub unwritten : Makes no_write first now
  pub says : AreKnown out first → AreHonestSince (length first.calls) now.starts now.calls → IsSurveyOf out rewind first s

-- of each disks that it was made of
abbrev pub OfSurveyed : List Bool → Surveyed → Disks → (ℕ → Disks → Type 0) → Type 0
OfSurveyed out s now Holds = (rewind : ℕ) (first : Disks) → rewind < 3 → IsSurveyed out rewind first now s → Holds rewind first

-- ---- refusals

-- no disk in use shows an uberblock, or none shows what is so many groups below the highest
abbrev pub HasNone : List Bool → Disks → ℕ → Type 0
HasNone out disks rewind = IsBare out disks ⊎ ((0 < rewind) × IsNotThere out disks rewind)

-- what an open takes
pub record IsTaken (out : List Bool) (disks : Disks) (rewind : ℕ) (u : Uberblock) : Type 0 where
  pub highest : Uberblock
  pub top : IsHighestShown out disks highest
  pub shown : IsRead out disks u
  pub rewound : IsRewound highest rewind u

-- Want of memory; a call failed on a disk in use; there is none to take; a disk in use shows no label, or none shows the configuration of the taken
-- one; no claim is left above that of the highest, and those that labels show.
abbrev pub SurveyRefuses : List Bool → ℕ → Disks → Disks → Refusal → Type 0
SurveyRefuses out rewind old new NoMemory = Unit {0}
SurveyRefuses out rewind old new (DiskFault disk) = InUse out disk × HasFailedOn old new disk
SurveyRefuses out rewind old new NoUberblock = AreKnown out old → AreHonestSince (length old.calls) new.starts new.calls → HasNone out old rewind
SurveyRefuses out rewind old new NoLabel =
    AreKnown out old → AreHonestSince (length old.calls) new.starts new.calls → (u : Uberblock) × IsTaken out old rewind u × LacksLabel out old u.config_digest
SurveyRefuses out rewind old new UsedUp =
    AreKnown out old → AreHonestSince (length old.calls) new.starts new.calls → (u : Uberblock) × IsHighestShown out old u × IsUsedUp out old u
