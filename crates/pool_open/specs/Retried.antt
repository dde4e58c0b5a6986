-- Opens that go on without disks on which their claims failed.
use Rattle.std.specs.Prelude.{ℕ, zero, suc, ◌≡◌, ◌⊎◌, ◌<◌, Bool, true, false, Option, List, length}
use Rattle.disk_set.specs.declared.stale.GroupSpan.{GroupSpan}
use Rattle.model_disk.specs.Joint.{Disks}
use Rattle.model_disk.specs.declared.disk.Disk as disk
use Rattle.block_store.specs.Store.{is_out}
use Rattle.block_store.specs.declared.shape.VdevShape.{VdevShape}
use Rattle.pool_core.specs.RootContents.{RootContents}
use Rattle.pool_core.specs.State.{CoreState, config_of}
use Rattle.pool_core.specs.StateOf.{state_of}
use Rattle.pool_model.specs.Refusals.{greatest}
use Rattle.pool_model.specs.View.{is_tolerable}
use Rattle.pool_slots.specs.Failures.{HasFailedOn}
use Rattle.pool_slots.specs.Present.{GoOut}
use Rattle.pool_slots.specs.Slots.{InUse}
use Rattle.pool_slots.specs.Surveys.{Surveyed, IsSurveyed, IsWholeOf}
use Rattle.uberblock_ring.specs.declared.uberblock.Uberblock.{Uberblock}
use Rattle.vdev_label.specs.declared.label.Config.{Config}
use Rattle.pool_open.specs.Opening.{AreClaimedThrough, IsKeptThrough, IsNotOpenedOver, IsOpenedOver}
use Rattle.pool_open.specs.Roots.{AreReadBeside, IsKnownRoot}
use Rattle.pool_open.specs.Settling.{AreSettledWithout}
use Rattle.pool_open.specs.Words.{vdevs_in}
use Rattle.pool_open.specs.declared.attempts.Attempt.{Attempt}
use Rattle.pool_open.specs.declared.attempts.Attempt.TheVariants.{Opened, ClaimFailed}
use Rattle.pool_open.specs.declared.refusal.Refusal.{Refusal}
use Rattle.pool_open.specs.declared.refusal.Refusal.TheVariants.{TooManyMissing}

-- ---- one attempt

-- The disks were surveyed, and the root of what was found is read. Nothing was written, and of no vdev more disks are out than it has parities.
pub record IsPoolRead (old : Disks) (shapes : List VdevShape) (out later : List Bool) (rewind : ℕ) (s : Surveyed) (contents : RootContents)
    (stale : List (Option GroupSpan)) (new : Disks) : Type 0 where
  pub surveyed : Disks
  pub absent : GoOut out later old surveyed
  pub count : length later ≡ length old.starts
  pub whole : IsWholeOf later old.starts s
  pub is : IsSurveyed later rewind old surveyed s
  pub below : s.claimed.group < greatest
  pub tolerable : is_tolerable (vdevs_in shapes) (is_out later) ≡ true
  pub blocks : AreReadBeside later surveyed new
  pub root : IsKnownRoot surveyed new shapes later s.claimed.group s.claimed.root contents stale

-- A claim was begun, of which a call failed on a disk that was in use. That disk is out now, and nothing is unflushed on those that are left. When the
-- claim was begun, of no vdev more disks were out than it has parities; and a stop at any moment since, in the flushes too, left what one in an open does.
pub record IsFailedClaim (old : Disks) (shapes : List VdevShape) (out : List Bool) (rewind : ℕ) (new : Disks) (left : List Bool) : Type 0 where
  pub later : List Bool
  pub count : length later ≡ length old.starts
  pub claimed : Uberblock
  pub ended : Disks
  pub through : AreClaimedThrough out later claimed old ended
  pub kept : IsKeptThrough later rewind old new
  pub tolerable : is_tolerable (vdevs_in shapes) (is_out later) ≡ true
  pub which : ℕ
  pub used : InUse later which
  pub failed : HasFailedOn through.read ended which
  pub settles : AreSettledWithout which later left ended new

module _ {D : Type 0} where
  -- what an attempt comes to that isn't refused
  abbrev pub IsAttempt : (g : disk.Ghosts D) → Disks → List VdevShape → List Bool → ℕ → Attempt D g → Type 0
  IsAttempt g old shapes out rewind (Opened pool) = IsOpenedOver old shapes out rewind pool.uberblock (state_of pool.core)
  IsAttempt g old shapes out rewind (ClaimFailed disks left) = IsFailedClaim old shapes out rewind disks left.items

  -- an attempt that opened the pool keeps this configuration
  abbrev pub KeepsConfig : (g : disk.Ghosts D) → Config → Attempt D g → Type 0
  KeepsConfig g config (Opened pool) = config_of (state_of pool.core) ≡ config
  KeepsConfig g config (ClaimFailed disks left) = Unit {0}

-- ---- all of them

-- So many claims failed, each of disks that the one before left; behind the last of them these are left.
abbrev pub AreFailedClaims : ℕ → Disks → List VdevShape → List Bool → ℕ → Disks → List Bool → Type 0
AreFailedClaims zero old shapes out rewind mid left = (mid ≡ old) × (left ≡ out)
AreFailedClaims (suc claims) old shapes out rewind mid left =
    (next : Disks) × (fewer : List Bool) × IsFailedClaim old shapes out rewind next fewer × AreFailedClaims claims next shapes fewer rewind mid left

-- Some claims failed, or none did, and then an attempt opened the disks that were left.
pub record IsOpenedAtLast (old : Disks) (shapes : List VdevShape) (out : List Bool) (rewind : ℕ) (claimed : Uberblock) (core : CoreState) : Type 0 where
  pub claims : ℕ
  pub mid : Disks
  pub left : List Bool
  pub failed : AreFailedClaims claims old shapes out rewind mid left
  pub last : IsOpenedOver mid shapes left rewind claimed core

-- Some claim failed, and now of a vdev more disks are out than it has parities: no other attempt is made.
pub record AreTooFewLeft (claims : ℕ) (mid : Disks) (shapes : List VdevShape) (left : List Bool) (new : Disks) (refusal : Refusal) : Type 0 where
  pub some : 0 < claims
  pub cause : refusal ≡ TooManyMissing
  pub intolerable : is_tolerable (vdevs_in shapes) (is_out left) ≡ false
  pub same : new ≡ mid

-- Some claims failed, or none did, and then no attempt opened the disks that were left, which are the new ones now.
pub record IsNotOpenedAtLast (guids : List ℕ) (old : Disks) (shapes : List VdevShape) (out : List Bool) (rewind : ℕ) (new : Disks) (refusal : Refusal) : Type 0 where
  pub claims : ℕ
  pub mid : Disks
  pub left : List Bool
  pub failed : AreFailedClaims claims old shapes out rewind mid left
  pub why : IsNotOpenedOver guids mid shapes left rewind new refusal ⊎ AreTooFewLeft claims mid shapes left new refusal

-- ---- laws

-- with the disks in use that were in use before no claim failed: the open is its first attempt
abbrev pub UndiminishedOpensClaimOnce : Type 0
UndiminishedOpensClaimOnce =
    (old : Disks) (shapes : List VdevShape) (out : List Bool) (rewind : ℕ) (claimed : Uberblock) (core : CoreState)
    → (is : IsOpenedAtLast old shapes out rewind claimed core) → is.last.later ≡ out
    → (first : IsOpenedOver old shapes out rewind claimed core) × (first.later ≡ out)

-- and so is one that was refused, if no call failed
abbrev pub UnfailingOpensClaimOnce : Type 0
UnfailingOpensClaimOnce =
    (guids : List ℕ) (old : Disks) (shapes : List VdevShape) (out : List Bool) (rewind : ℕ) (new : Disks) (refusal : Refusal) → IsNotOpenedAtLast guids old shapes out rewind new refusal
    → ((disk : ℕ) → ¬ HasFailedOn old new disk) → IsNotOpenedOver guids old shapes out rewind new refusal
