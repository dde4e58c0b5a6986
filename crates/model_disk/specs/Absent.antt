-- Calls that all failed, as those on a disk that is absent.
use Rattle.std.specs.Prelude.{◌≡◌, ℕ, true, List, [], ◌∷◌}
use Rattle.std.specs.Coded.{Coded-set, coded_bool, ×_prop, Unit-prop}
use Rattle.model_disk.specs.Call.{Call, Read, FailedRead, Wrote, FailedWrite, Flushed, FailedFlush, is_failed}
use Rattle.model_disk.specs.Honest.{IsTrueAnswer, IsHonest}

-- each of them did
abbrev pub HaveFailed : List Call → Type 0
HaveFailed [] = Unit {0}
HaveFailed (call ∷ earlier) = (is_failed call ≡ true) × HaveFailed earlier

pub HaveFailed-prop : (calls : List Call) → IsProp (HaveFailed calls)
HaveFailed-prop [] = Unit-prop
HaveFailed-prop (call ∷ earlier) = ×_prop (Coded-set coded_bool (is_failed call) true) (HaveFailed-prop earlier)

-- a call that failed says nothing
is_true : (start : List ℕ) (earlier : List Call) (call : Call) → is_failed call ≡ true → IsTrueAnswer start earlier call
is_true start earlier (Read at bytes) failed = cc
is_true start earlier (FailedRead at n) failed = tt
is_true start earlier (Wrote at bytes) failed = tt
is_true start earlier (FailedWrite at bytes) failed = tt
is_true start earlier Flushed failed = tt
is_true start earlier FailedFlush failed = tt

-- so such calls are honest
pub IsHonest-failed : (start : List ℕ) (calls : List Call) → HaveFailed calls → IsHonest start calls
IsHonest-failed start [] failed = tt
IsHonest-failed start (call ∷ earlier) failed = (is_true start earlier call failed.0, IsHonest-failed start earlier failed.1)
