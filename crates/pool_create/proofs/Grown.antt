-- Records of calls that grew.
use Rattle.std.proofs.Common.{ℕ, ◌++◌, ◌&&◌, nat_le, Bool, true, false, List, [], ◌∷◌, length, All, Contains, sym, subst, if◌then◌else◌}
use Rattle.std.proofs.lemmas.List.Elements.{All-nil, All-cons}
use Rattle.model_disk.specs.Call.{Call, Read, FailedRead, Wrote, FailedWrite, Flushed, FailedFlush, is_failed}
use Rattle.model_disk.specs.Joint.{Disks, JointCall, failed_since}
use Rattle.model_disk.specs.Runs.{Makes, WritesOnly}
use Rattle.pool_open.specs.Calls.{GrewTo}
use Rattle.pool_slots.specs.Failures.{HasFailedOn}
use Rattle.pool_slots.proofs.Among.{later_in}
use Rattle.pool_slots.proofs.Failing.{fails_later}

pub made_grew : (may : ℕ → ℕ → List ℕ → Type 0) (old new : Disks) → Makes may old new → GrewTo old new
made_grew may old new makes = record { starts = makes.starts; newer = makes.newer; calls = makes.calls }

-- ---- whatever is written

abbrev pub any_write : ℕ → ℕ → List ℕ → Type 0
any_write which at bytes = Unit {0}

any_call : (which : ℕ) (call : Call) → WritesOnly (any_write which) call
any_call which (Read at bytes) = tt
any_call which (FailedRead at n) = tt
any_call which (Wrote at bytes) = tt
any_call which (FailedWrite at bytes) = tt
any_call which Flushed = tt
any_call which FailedFlush = tt

any_calls : (newer : List JointCall) → All (λ made. WritesOnly (any_write made.which) made.call) newer
any_calls [] = All-nil (λ made. WritesOnly (any_write made.which) made.call)
any_calls (made ∷ earlier) = All-cons (λ (it : JointCall). WritesOnly (any_write it.which) it.call) made earlier (any_call made.which made.call) (any_calls earlier)

pub grew_made : (old new : Disks) → GrewTo old new → Makes any_write old new
grew_made old new grew = record { starts = grew.starts; newer = grew.newer; calls = grew.calls; writes = any_calls grew.newer }

if_in : (test : Bool) (x : ℕ) (xs : List ℕ) (y : ℕ) → Contains xs y → Contains (if test then x ∷ xs else xs) y
if_in true x xs y it = later_in x y xs it
if_in false x xs y it = it

still_failed : (n : ℕ) (newer calls : List JointCall) (which : ℕ) → Contains (failed_since n calls) which → Contains (failed_since n (newer ++ calls)) which
still_failed n [] calls which it = it
still_failed n (made ∷ newer) calls which it =
    if_in (nat_le n (length (newer ++ calls)) && is_failed made.call) made.which (failed_since n (newer ++ calls)) which (still_failed n newer calls which it)

fails_before : (old mid new : Disks) (which : ℕ) → GrewTo mid new → HasFailedOn old mid which → HasFailedOn old new which
fails_before old mid new which grew it =
    subst (λ (calls : List JointCall). Contains (failed_since (length old.calls) calls) which) (sym grew.calls) (still_failed (length old.calls) grew.newer mid.calls which it)

-- a call that failed in a part of a run failed in the whole
pub fails_in : (old mid new last : Disks) (which : ℕ) → GrewTo old mid → GrewTo new last → HasFailedOn mid new which → HasFailedOn old last which
fails_in old mid new last which first rest failed =
    fails_before old new last which rest (fails_later any_write old mid new (grew_made old mid first) which failed)
