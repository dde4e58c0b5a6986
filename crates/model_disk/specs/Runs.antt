-- Runs of calls: what they may write, and the moments in them at which a crash may come.
use Rattle.std.specs.Prelude.{◌≡◌, ◌⊎◌, ◌≤◌, ◌<◌, ℕ, ◌+◌, false, List, ◌∷◌, ◌++◌, length, slice_get, All, Contains}
use Rattle.model_disk.specs.Call.{Call, Read, FailedRead, Wrote, FailedWrite, Flushed, FailedFlush}
use Rattle.model_disk.specs.Contents.{covers, byte_at, is_dirty}
use Rattle.model_disk.specs.Joint.{JointCall, Disks, bytes_of, calls_on, failed_since}

-- ---- which writes

-- The call writes nothing, or what may be written: `may at bytes` says that these bytes may be, from byte `at` on. A write that
-- failed is one too.
abbrev pub WritesOnly : (ℕ → List ℕ → Type 0) → Call → Type 0
WritesOnly may (Read at bytes) = Unit {0}
WritesOnly may (FailedRead at n) = Unit {0}
WritesOnly may (Wrote at bytes) = may at bytes
WritesOnly may (FailedWrite at bytes) = may at bytes
WritesOnly may Flushed = Unit {0}
WritesOnly may FailedFlush = Unit {0}

-- Since the old moment nothing was written but what may be: `may which at bytes` says it of each disk.
pub record Makes (may : ℕ → ℕ → List ℕ → Type 0) (old new : Disks) : Type 0 where
  pub starts : new.starts ≡ old.starts
  pub newer : List JointCall
  pub calls : new.calls ≡ newer ++ old.calls
  pub writes : All (λ made. WritesOnly (may made.which) made.call) newer

-- a call failed since the old moment
abbrev pub HasFailed : Disks → Disks → Type 0
HasFailed old new = (disk : ℕ) × Contains (failed_since (length old.calls) new.calls) disk

-- nothing may be written
abbrev pub no_write : ℕ → ℕ → List ℕ → Type 0
no_write which at bytes = ⊥

-- no write that may be made has byte i in its range
abbrev pub IsOff : (ℕ → List ℕ → Type 0) → ℕ → Type 0
IsOff may i = (at : ℕ) (bytes : List ℕ) → may at bytes → covers at (length bytes) i ≡ false

-- each write that may be made is to just these n bytes, or to none of them
abbrev pub IsWholeIn : (ℕ → List ℕ → Type 0) → ℕ → ℕ → Type 0
IsWholeIn may at n =
    (to : ℕ) (bytes : List ℕ) → may to bytes
    → ((to ≡ at) × (length bytes ≡ n)) ⊎ ((i : ℕ) → i < n → covers to (length bytes) (at + i) ≡ false)

-- these calls have this write, answered or failed
abbrev pub HasWrite : List Call → ℕ → List ℕ → Type 0
HasWrite calls at bytes = Contains calls (Wrote at bytes) ⊎ Contains calls (FailedWrite at bytes)

-- ---- which moments

-- These are the calls, or were when there were n of them, or at a moment since. While a call runs a crash leaves no more than after it,
-- so there are no other moments.
pub record IsMoment (n : ℕ) (calls earlier : List JointCall) : Type 0 where
  pub newer : List JointCall
  pub is : calls ≡ newer ++ earlier
  pub since : (earlier ≡ calls) ⊎ (n ≤ length earlier)

-- P holds of the calls at each moment since there were n, and now
abbrev pub EachSince : ℕ → (List JointCall → Type 0) → List JointCall → Type 0
EachSince n P calls = (earlier : List JointCall) → IsMoment n calls earlier → P earlier

-- ---- what stands

-- no write since the last flush that succeeded: a crash now leaves each byte that is known
abbrev pub IsSettled : List Call → Type 0
IsSettled calls = (i : ℕ) → is_dirty calls i ≡ false

-- the same on each disk below this number
abbrev pub AreSettledBelow : ℕ → List JointCall → Type 0
AreSettledBelow count calls = (which : ℕ) → which < count → IsSettled (calls_on which calls)

-- the same on each of the disks
abbrev pub AreSettled : Disks → Type 0
AreSettled disks = AreSettledBelow (length disks.starts) disks.calls

-- the calls left these bytes at this place
abbrev pub Holds : List ℕ → List Call → ℕ → List ℕ → Type 0
Holds start calls at bytes = (i : ℕ) → i < length bytes → byte_at start calls (at + i) ≡ slice_get bytes i

-- the calls, the last of them as if it was done, whatever it answered
abbrev pub last_done : List Call → List Call
last_done (FailedWrite at bytes ∷ earlier) = Wrote at bytes ∷ earlier
last_done calls = calls

-- These bytes stood at this place when a flush last succeeded, or at a moment since, if only by a write that was answered as failed.
pub record HeldSince (start : List ℕ) (calls : List Call) (at : ℕ) (bytes : List ℕ) : Type 0 where
  pub newer : List Call
  pub earlier : List Call
  pub is : calls ≡ newer ++ earlier
  pub unflushed : ¬ Contains newer Flushed
  pub stood : Holds start (last_done earlier) at bytes

-- the same at a place of that disk
abbrev pub HeldOn : List (List ℕ) → List JointCall → ℕ → ℕ → List ℕ → Type 0
HeldOn starts calls which at bytes = HeldSince (bytes_of starts which) (calls_on which calls) at bytes

-- the images have these bytes at a place of that disk
abbrev pub ShowsAt : List (List ℕ) → ℕ → ℕ → List ℕ → Type 0
ShowsAt images which at bytes = (i : ℕ) → i < length bytes → slice_get (bytes_of images which) (at + i) ≡ slice_get bytes i

-- What a crash tore at this place doesn't read as these bytes: they show there only if they were held. It is what bytes that carry
-- their own digest may be trusted with.
abbrev pub IsUntorn : List (List ℕ) → List JointCall → List (List ℕ) → ℕ → ℕ → List ℕ → Type 0
IsUntorn starts calls images which at bytes = ShowsAt images which at bytes → HeldOn starts calls which at bytes
