-- Bytes of disks that are known stay known, as long as no write fails.
use Rattle.std.proofs.Common.{◌≡◌, ◌<◌, ℕ, suc, ◌&&◌, Bool, true, false, nat_le, List, [], ◌∷◌, ◌++◌, length, map, slice_get, Option, Some, Contains, refl, sym, ap, subst, ◌∙◌, arith}
use Rattle.std.specs.Prelude.{◌==◌, ◌-◌, if◌then◌else◌, get_or}
use Rattle.std.specs.List.{AllByRecursion}
use Rattle.std.proofs.lemmas.Bool.Decides.{nat_tests}
use Rattle.std.proofs.lemmas.List.{length-append}
use Rattle.std.proofs.lemmas.Option.{slice_get-get_or}
use Rattle.model_disk.specs.Call.{Call, FailedFlush, FailedRead, FailedWrite, Flushed, Read, Wrote, is_failed}
use Rattle.model_disk.specs.Contents.{byte_at, covers}
use Rattle.model_disk.specs.Joint.{Disks, JointCall, bytes_of, calls_on, failed_since}
use Rattle.pool_create.specs.Calls.{GrewTo, disk_call, fault_call, faults_between, told_since}
use Rattle.pool_create.specs.CommitState.{NoneIsOut}
use Rattle.pool_create.specs.CoreRuns.{Chain}
use Rattle.pool_create.specs.CoreState.{CoreState, disks_of}
use Rattle.pool_create.specs.CoreSteps.{Link}
use Rattle.pool_create.specs.Progress.{fault_list}
use Rattle.pool_model.specs.View.{Given, View}
use Rattle.pool_model.specs.declared.step.Reply.{Reply}
use Rattle.pool_model.specs.declared.step.Step.{Step}
use Rattle.pool_slots.specs.Failures.{HasFailedOn}
use Rattle.pool_slots.specs.Opens.{IsKnown}
use Rattle.pool_stops.specs.Running.{NoneWasOut}
use Rattle.pool_lives.proofs.Quiet.{no_fault}

-- ---- one call

-- it is no write that failed
abbrev Spares : Call → Type 0
Spares (Read at bytes) = Unit {0}
Spares (FailedRead at n) = Unit {0}
Spares (Wrote at bytes) = Unit {0}
Spares (FailedWrite at bytes) = ⊥
Spares Flushed = Unit {0}
Spares FailedFlush = Unit {0}

abbrev IsSome : Option ℕ → Type 0
IsSome o = (value : ℕ) × (o ≡ Some value)

within : (at n i : ℕ) → covers at n i ≡ true → i - at < n
within at n i covered = grind (arith, nat_tests)

wrote : (at : ℕ) (bytes : List ℕ) (before : Option ℕ) (i : ℕ) (test : Bool) → covers at (length bytes) i ≡ test → IsSome before
    → IsSome (if test then slice_get bytes (i - at) else before)
wrote at bytes before i true covered known = (get_or bytes (i - at) 0, slice_get-get_or bytes (i - at) 0 (within at (length bytes) i covered))
wrote at bytes before i false covered known = known

known_call : (start : List ℕ) (call : Call) (earlier : List Call) (i : ℕ) → Spares call → IsSome (byte_at start earlier i) → IsSome (byte_at start (call ∷ earlier) i)
known_call start (Read at bytes) earlier i spares known = known
known_call start (FailedRead at n) earlier i spares known = known
known_call start (Wrote at bytes) earlier i spares known = wrote at bytes (byte_at start earlier i) i (covers at (length bytes) i) refl known
known_call start (FailedWrite at bytes) earlier i spares known = absurd spares
known_call start Flushed earlier i spares known = known
known_call start FailedFlush earlier i spares known = known

with_call : (test : Bool) (start : List ℕ) (call : Call) (earlier : List Call) (i : ℕ) → Spares call → IsSome (byte_at start earlier i)
    → IsSome (byte_at start (if test then call ∷ earlier else earlier) i)
with_call true start call earlier i spares known = known_call start call earlier i spares known
with_call false start call earlier i spares known = known

-- ---- more calls

abbrev AllSpare : List JointCall → Type 0
AllSpare calls = AllByRecursion (λ (made : JointCall). Spares made.call) calls

known_on : (start : List ℕ) (which : ℕ) (newer older : List JointCall) (i : ℕ) → AllSpare newer → IsSome (byte_at start (calls_on which older) i)
    → IsSome (byte_at start (calls_on which (newer ++ older)) i)
known_on start which [] older i spare known = known
known_on start which (made ∷ newer) older i spare known =
    with_call (made.which == which) start made.call (calls_on which (newer ++ older)) i spare.0 (known_on start which newer older i spare.1 known)

known_later : (old new : Disks) (grew : GrewTo old new) → AllSpare grew.newer → (which : ℕ) → IsKnown old which → IsKnown new which
known_later old new grew spare which known =
    let later : Disks = record { starts = old.starts; calls = grew.newer ++ old.calls } in
    let is : IsKnown later which = λ i below. known_on (bytes_of old.starts which) which grew.newer old.calls i spare (known i below) in
    let P : List (List ℕ) × List JointCall → Type 0 = λ x. IsKnown (record { starts = x.0; calls = x.1 }) which in
    subst P (λ j. (sym grew.starts j, sym grew.calls j)) is

-- ---- which writes failed

le_append : (n : ℕ) (newer older : List JointCall) → n ≡ length older → nat_le n (length (newer ++ older)) ≡ true
le_append n newer older same = let more = length-append newer older in grind (arith, nat_tests, more, same)

front_empty : {A : Type 0} (xs ys : List A) → xs ++ ys ≡ [] → (xs ≡ []) × (ys ≡ [])
front_empty [] ys none = (refl, none)
front_empty (x ∷ xs) ys none = absurd (cc)

spares_if : (test : Bool) (which : ℕ) (call : Call) → test ≡ true → (if test then fault_call which call else []) ≡ [] → Spares call
spares_if false which call is none = absurd (cc)
spares_if true which (Read at bytes) is none = tt
spares_if true which (FailedRead at n) is none = tt
spares_if true which (Wrote at bytes) is none = tt
spares_if true which (FailedWrite at bytes) is none = absurd (cc)
spares_if true which Flushed is none = tt
spares_if true which FailedFlush is none = tt

-- where no call of a plan failed
none_told : (n : ℕ) (newer older : List JointCall) → n ≡ length older → told_since fault_call n (newer ++ older) ≡ [] → AllSpare newer
none_told n [] older same none = tt
none_told n (made ∷ newer) older same none =
    let parts = front_empty (told_since fault_call n (newer ++ older))
    (if nat_le n (length (newer ++ older)) then fault_call made.which made.call else []) none in (
      spares_if (nat_le n (length (newer ++ older))) made.which made.call (le_append n newer older same) parts.1,
      none_told n newer older same parts.0,
    )

more_if : (test : Bool) (which : ℕ) (disks : List ℕ) (disk : ℕ) → Contains disks disk → Contains (if test then which ∷ disks else disks) disk
more_if true which disks disk (k, below, is) = (suc k, omega (arith, below), is)
more_if false which disks disk has = has

failed_if : (test : Bool) (which : ℕ) (call : Call) (disks : List ℕ) → test ≡ true → ¬ Contains (if test && is_failed call then which ∷ disks else disks) which → Spares call
failed_if false which call disks is none = absurd (cc)
failed_if true which (Read at bytes) disks is none = tt
failed_if true which (FailedRead at n) disks is none = tt
failed_if true which (Wrote at bytes) disks is none = tt
failed_if true which (FailedWrite at bytes) disks is none = absurd (none (0, omega arith, refl))
failed_if true which Flushed disks is none = tt
failed_if true which FailedFlush disks is none = tt

-- where no call failed at all
none_failed : (n : ℕ) (newer older : List JointCall) → n ≡ length older → ((disk : ℕ) → ¬ Contains (failed_since n (newer ++ older)) disk) → AllSpare newer
none_failed n [] older same none = tt
none_failed n (made ∷ newer) older same none =
    let test : Bool = nat_le n (length (newer ++ older)) in
    let rest : List ℕ = failed_since n (newer ++ older) in (
      failed_if test made.which made.call rest (le_append n newer older same) (none made.which),
      none_failed n newer older same (λ disk has. none disk (more_if (test && is_failed made.call) made.which rest disk has)),
    )

pub known_unfailed : (old new : Disks) → GrewTo old new → ((disk : ℕ) → ¬ HasFailedOn old new disk) → (which : ℕ) → IsKnown old which → IsKnown new which
known_unfailed old new grew none which known =
    known_later old new grew
    (none_failed (length old.calls) grew.newer old.calls refl
    (subst (λ (calls : List JointCall). (disk : ℕ) → ¬ Contains (failed_since (length old.calls) calls) disk) grew.calls none)) which known

-- ---- runs

known_step : (old : CoreState) (v : View) (step : Step) (given : Given) (reply : Reply) (new : CoreState) (w : View) → GrewTo (disks_of old) (disks_of new)
    → Link old v step given reply new w → NoneIsOut new.commit → (which : ℕ) → IsKnown (disks_of old) which → IsKnown (disks_of new) which
known_step old v step given reply new w grew link none which known =
    let quiet = no_fault v given step reply w link.is_step (λ disk. link.represents.backs.out disk ∙ none disk) in
    let told : faults_between (disks_of old) (disks_of new) ≡ [] = sym link.is_given.fault ∙ ap (λ o. map disk_call (fault_list o)) quiet in
    known_later (disks_of old) (disks_of new) grew
    (none_told (length (disks_of old).calls) grew.newer (disks_of old).calls refl
    (subst (λ (calls : List JointCall). told_since fault_call (length (disks_of old).calls) calls ≡ []) grew.calls told)) which known

pub chain_known : NoneWasOut → (old : CoreState) (v : View) (steps : List Step) (givens : List Given) (replies : List Reply) (new : CoreState) (w : View)
    → Chain old v steps givens replies new w → NoneIsOut new.commit → ((which : ℕ) → IsKnown (disks_of old) which) → (which : ℕ) → IsKnown (disks_of new) which
chain_known none_was old v [] [] [] new w chain none known which = subst (λ (s : CoreState). IsKnown (disks_of s) which) chain.0 (known which)
chain_known none_was old v (step ∷ steps) (given ∷ givens) (reply ∷ replies) new w chain none known which =
    let was = none_was chain.0 new chain.1 w steps givens replies chain.5 none in
    chain_known none_was chain.0 chain.1 steps givens replies new w chain.5 none
    (λ disk. known_step old v step given reply chain.0 chain.1 chain.2 chain.3 was disk (known disk)) which
chain_known none_was old v steps givens replies new w chain none known which = absurd chain
