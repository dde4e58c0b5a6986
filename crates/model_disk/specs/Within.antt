-- What a disk shows ends where it ends.
use Rattle.std.specs.Prelude.{◌≡◌, ℕ, ◌≤◌, true, List, [], ◌∷◌, length, None}
use Rattle.std.specs.Coded.{Coded-set, coded_ℕ, coded_option, Π_prop}
use Rattle.std.proofs.Common.{ℕ, Bool, false, if◌then◌else◌, Option, refl, ◌∙◌, arith}
use Rattle.std.proofs.lemmas.Option.{slice_get_past}
use Rattle.model_disk.specs.Absent.{HaveFailed}
use Rattle.model_disk.specs.Call.{Call, Read, FailedRead, Wrote, FailedWrite, Flushed, FailedFlush}
use Rattle.model_disk.specs.Contents.{byte_at, covers}
use Rattle.model_disk.specs.Memory.{IsCurrent}

-- the calls left no byte past the end
abbrev pub IsWithin : List ℕ → List Call → Type 0
IsWithin start calls = (i : ℕ) → length start ≤ i → byte_at start calls i ≡ None

pub IsWithin-prop : (start : List ℕ) (calls : List Call) → IsProp (IsWithin start calls)
IsWithin-prop start calls = Π_prop (λ i. Π_prop (λ past. Coded-set (coded_option coded_ℕ) (byte_at start calls i) None))

-- so it is where they left these bytes, as many as there were
pub IsWithin-current : (start bytes : List ℕ) (calls : List Call) → length bytes ≡ length start → IsCurrent start calls bytes → IsWithin start calls
IsWithin-current start bytes calls same current i past = current i ∙ slice_get_past bytes i (omega (arith, past, same))

none_if : (test : Bool) (o : Option ℕ) → o ≡ None → (if test then None else o) ≡ None
none_if true o is = refl
none_if false o is = is

-- and where each of them failed
pub IsWithin-failed : (start : List ℕ) (calls : List Call) → HaveFailed calls → IsWithin start calls
IsWithin-failed start [] failed i past = slice_get_past start i past
IsWithin-failed start (Read at bytes ∷ earlier) failed i past = IsWithin-failed start earlier failed.1 i past
IsWithin-failed start (FailedRead at n ∷ earlier) failed i past = IsWithin-failed start earlier failed.1 i past
IsWithin-failed start (Wrote at bytes ∷ earlier) failed i past = absurd (cc (failed.0))
IsWithin-failed start (FailedWrite at bytes ∷ earlier) failed i past =
    none_if (covers at (length bytes) i) (byte_at start earlier i) (IsWithin-failed start earlier failed.1 i past)
IsWithin-failed start (Flushed ∷ earlier) failed i past = IsWithin-failed start earlier failed.1 i past
IsWithin-failed start (FailedFlush ∷ earlier) failed i past = IsWithin-failed start earlier failed.1 i past
