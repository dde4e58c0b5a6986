-- Runs of calls.
use Rattle.std.proofs.Common.{◌≡◌, ◌⊎◌, inl, inr, ◌<◌, ◌≤◌, ◌∙◌, ℕ, suc, ◌+◌, ◌-◌, ◌==◌, Bool, true, false, ◌||◌, if◌then◌else◌, List, [], ◌∷◌, ◌++◌, length, get_or, slice_get, Option, Some, None, All, Contains, Result, Ok, Err, refl, sym, ap, subst, arith}
use Rattle.std.specs.List.{list_any}
use Rattle.std.proofs.lemmas.List.{append_assoc, length-append}
use Rattle.std.proofs.lemmas.List.Folds.{list_any-append}
use Rattle.std.proofs.lemmas.List.Elements.{All-nil, All-cons, All-tail, All-append, Contains-append_cases, Contains-append_right}
use Rattle.std.proofs.lemmas.Bool.{cases_lt}
use Rattle.std.proofs.lemmas.Option.{slice_get-get_or}
use Rattle.model_disk.proofs.ContentsLemmas.{byte_at-Wrote, byte_at-outside, byte_at-failed_outside, covers-inside}
use Rattle.model_disk.proofs.JointLemmas.{same_if, calls_on-same, calls_on-other}
use Rattle.model_disk.proofs.LawLemmas.{same_bytes, untouched_since}
use Rattle.model_disk.specs.Call.{Call, Read, FailedRead, Wrote, FailedWrite, Flushed, FailedFlush, read_call, write_call, flush_call}
use Rattle.model_disk.specs.Contents.{covers, touches, byte_at, is_dirty}
use Rattle.model_disk.specs.Joint.{JointCall, Disks, bytes_of, calls_on, on, content, Stands, MayLeaveAll}
use Rattle.model_disk.specs.RunLaws.{passing, MakesIsKnown, IsHeld, CleanIsUntorn, IsUntouched, UntouchedBytesStay, SettledBytesStay, FlushesSettle, SettledBytesAreHeld, HeldIsOldOrWritten, MomentsAreOfTheRun, CrashesAreAtMoments}
use Rattle.model_disk.specs.Runs.{WritesOnly, Makes, no_write, IsOff, IsWholeIn, HasWrite, IsMoment, EachSince, IsSettled, AreSettledBelow, AreSettled, Holds, last_done, HeldSince, HeldOn}

-- ---- calls of one disk among all

joined_if : (test : Bool) (call : Call) (xs ys : List Call) → (if test then call ∷ (xs ++ ys) else (xs ++ ys)) ≡ (if test then call ∷ xs else xs) ++ ys
joined_if true call xs ys = refl
joined_if false call xs ys = refl

pub calls_on-append : (which : ℕ) (newer calls : List JointCall) → calls_on which (newer ++ calls) ≡ calls_on which newer ++ calls_on which calls
calls_on-append which [] calls = refl
calls_on-append which (made ∷ newer) calls =
    ap (λ (rest : List Call). if made.which == which then made.call ∷ rest else rest) (calls_on-append which newer calls)
    ∙ joined_if (made.which == which) made.call (calls_on which newer) (calls_on which calls)

-- the first of some, and the others
All-first : {X : Type 0} (P : X → Type 0) (x : X) (xs : List X) → All P (x ∷ xs) → P x
All-first P x xs all = all 0 x (omega arith)

writes_case : (may : ℕ → ℕ → List ℕ → Type 0) (which : ℕ) (made : JointCall) (rest : List Call) (test : Bool) → (made.which == which) ≡ test
    → WritesOnly (may made.which) made.call → All (WritesOnly (may which)) rest → All (WritesOnly (may which)) (if test then made.call ∷ rest else rest)
writes_case may which made rest true tested is are =
    let P : ℕ → Type 0 = λ w. WritesOnly (may w) made.call in
    All-cons (WritesOnly (may which)) made.call rest (subst P (sym (same_if made.which which tested)) is) are
writes_case may which made rest false tested is are = are

-- what all the calls may write, each disk's own may
pub writes_on : (may : ℕ → ℕ → List ℕ → Type 0) (which : ℕ) (newer : List JointCall) → All (λ made. WritesOnly (may made.which) made.call) newer
    → All (WritesOnly (may which)) (calls_on which newer)
writes_on may which [] are = All-nil (WritesOnly (may which))
writes_on may which (made ∷ newer) are =
    let P : JointCall → Type 0 = λ it. WritesOnly (may it.which) it.call in
    writes_case may which made (calls_on which newer) (made.which == which) refl (All-first P made newer are) (writes_on may which newer (All-tail P made newer are))

-- ---- runs after one another

pub Makes-none : (may : ℕ → ℕ → List ℕ → Type 0) (disks : Disks) → Makes may disks disks
Makes-none may disks = record { starts = refl; newer = []; calls = refl; writes = All-nil (λ it. WritesOnly (may it.which) it.call) }

pub Makes-more : (may : ℕ → ℕ → List ℕ → Type 0) (old mid new : Disks) → Makes may old mid → Makes may mid new → Makes may old new
Makes-more may old mid new first second =
    record {
      starts = second.starts ∙ first.starts;
      newer = second.newer ++ first.newer;
      calls = second.calls ∙ ap (λ (rest : List JointCall). second.newer ++ rest) first.calls ∙ sym (append_assoc second.newer first.newer old.calls);
      writes = All-append (λ it. WritesOnly (may it.which) it.call) second.newer first.newer second.writes first.writes;
    }

wider_call : (may also : ℕ → List ℕ → Type 0) (call : Call) → ((at : ℕ) (bytes : List ℕ) → may at bytes → also at bytes) → WritesOnly may call → WritesOnly also call
wider_call may also (Read at bytes) wider is = tt
wider_call may also (FailedRead at n) wider is = tt
wider_call may also (Wrote at bytes) wider is = wider at bytes is
wider_call may also (FailedWrite at bytes) wider is = wider at bytes is
wider_call may also Flushed wider is = tt
wider_call may also FailedFlush wider is = tt

wider_calls : (may also : ℕ → ℕ → List ℕ → Type 0) (calls : List JointCall) → ((which at : ℕ) (bytes : List ℕ) → may which at bytes → also which at bytes)
    → All (λ made. WritesOnly (may made.which) made.call) calls → All (λ made. WritesOnly (also made.which) made.call) calls
wider_calls may also [] wider are = All-nil (λ it. WritesOnly (also it.which) it.call)
wider_calls may also (made ∷ calls) wider are =
    let P : JointCall → Type 0 = λ it. WritesOnly (may it.which) it.call in
    let Q : JointCall → Type 0 = λ it. WritesOnly (also it.which) it.call in
    All-cons Q made calls (wider_call (may made.which) (also made.which) made.call (wider made.which) (All-first P made calls are))
    (wider_calls may also calls wider (All-tail P made calls are))

-- a run that may write more
pub Makes-wider : (may also : ℕ → ℕ → List ℕ → Type 0) (old new : Disks) → ((which at : ℕ) (bytes : List ℕ) → may which at bytes → also which at bytes)
    → Makes may old new → Makes also old new
Makes-wider may also old new wider makes =
    record { starts = makes.starts; newer = makes.newer; calls = makes.calls; writes = wider_calls may also makes.newer wider makes.writes }

-- ---- bytes that a run doesn't write

off_call : (may : ℕ → List ℕ → Type 0) (call : Call) (i : ℕ) → WritesOnly may call → IsOff may i → touches call i ≡ false
off_call may (Read at bytes) i is off = refl
off_call may (FailedRead at n) i is off = refl
off_call may (Wrote at bytes) i is off = off at bytes is
off_call may (FailedWrite at bytes) i is off = off at bytes is
off_call may Flushed i is off = refl
off_call may FailedFlush i is off = refl

pub off_untouched : (may : ℕ → List ℕ → Type 0) (newer : List Call) (i : ℕ) → All (WritesOnly may) newer → IsOff may i → list_any (λ call. touches call i) newer ≡ false
off_untouched may [] i are off = refl
off_untouched may (call ∷ newer) i are off =
    rw (off_call may call i (All-first (WritesOnly may) call newer are) off) (off_untouched may newer i (All-tail (WritesOnly may) call newer are) off)

pub untouched_bytes_stay : UntouchedBytesStay
untouched_bytes_stay old new newer run which i untouched =
    ap (λ (them : List (List ℕ)). byte_at (bytes_of them which) (calls_on which new.calls) i) run.starts
    ∙ ap (λ (them : List JointCall). byte_at (bytes_of old.starts which) (calls_on which them) i) run.calls
    ∙ ap (λ (them : List Call). byte_at (bytes_of old.starts which) them i) (calls_on-append which newer old.calls)
    ∙ (untouched_since (bytes_of old.starts which) (calls_on which newer) (calls_on which old.calls) i untouched).0

-- a byte that no write of the run has in its range is as it was
pub off_content : (may : ℕ → ℕ → List ℕ → Type 0) (old new : Disks) (which i : ℕ) → Makes may old new → IsOff (may which) i
    → content new which i ≡ content old which i
off_content may old new which i makes off =
    untouched_bytes_stay old new makes.newer (record { starts = makes.starts; calls = makes.calls }) which i
    (off_untouched (may which) (calls_on which makes.newer) i (writes_on may which makes.newer makes.writes) off)

-- ---- flushes

none_written : (call : Call) (i : ℕ) → WritesOnly (λ at bytes. ⊥) call → touches call i ≡ false
none_written (Read at bytes) i is = refl
none_written (FailedRead at n) i is = refl
none_written (Wrote at bytes) i is = absurd is
none_written (FailedWrite at bytes) i is = absurd is
none_written Flushed i is = refl
none_written FailedFlush i is = refl

none_touched : (newer : List Call) (i : ℕ) → All (WritesOnly (λ at bytes. ⊥)) newer → list_any (λ call. touches call i) newer ≡ false
none_touched newer i are = off_untouched (λ at bytes. ⊥) newer i are (λ at bytes is. absurd is)

pub flushes_settle : FlushesSettle
flushes_settle newer calls are i = (untouched_since [] newer (Flushed ∷ calls) i (none_touched newer i are)).1 refl

-- ---- moments

-- a list that ends in another, and in a longer one
pub later_part : {X : Type 0} (newer calls others earlier : List X) → newer ++ calls ≡ others ++ earlier → length calls ≤ length earlier
    → (made : List X) × (newer ≡ others ++ made) × (earlier ≡ made ++ calls)
later_part newer calls [] earlier same longer = (newer, refl, sym same)
later_part [] calls (other ∷ others) earlier same longer =
    let count : length calls ≡ suc (length (others ++ earlier)) = ap length same in
    absurd (omega (arith, count, length-append others earlier, longer))
later_part (call ∷ newer) calls (other ∷ others) earlier same longer =
    let rest : newer ++ calls ≡ others ++ earlier = cc in
    let first : call ≡ other = cc in
    let it = later_part newer calls others earlier rest longer in
    (it.0, ap (λ (them : List _). call ∷ them) it.1 ∙ ap (λ one. one ∷ (others ++ it.0)) first, it.2)

-- a moment of a run has all the calls that were made before it
at_least : (calls newer all earlier : List JointCall) → all ≡ newer ++ calls → IsMoment (length calls) all earlier → length calls ≤ length earlier
at_least calls newer all earlier is moment = elim moment.since [
  | inl same ↦ let long : length earlier ≡ length newer + length calls = ap length (same ∙ is) ∙ length-append newer calls in omega (arith, long)
  | inr longer ↦ omega (arith, longer)
]

pub moments_are_of_the_run : MomentsAreOfTheRun
moments_are_of_the_run newer calls earlier moment =
    let it = later_part newer calls moment.newer earlier moment.is (at_least calls newer (newer ++ calls) earlier refl moment) in
    record { later = moment.newer; made = it.0; newer_is = it.1; earlier_is = it.2 }

All-back : {X : Type 0} (P : X → Type 0) (xs ys : List X) → All P (xs ++ ys) → All P ys
All-back P [] ys all = all
All-back P (x ∷ xs) ys all = All-back P xs ys (All-tail P x (xs ++ ys) all)

-- what holds after any calls that may be made holds at each moment of a run of such calls
pub each_of_run : (may : ℕ → ℕ → List ℕ → Type 0) (Q : List JointCall → Type 0) (old new : Disks)
    → ((made : List JointCall) → All (λ it. WritesOnly (may it.which) it.call) made → Q (made ++ old.calls))
    → Makes may old new → EachSince (length old.calls) Q new.calls
each_of_run may Q old new always makes earlier moment =
    let P : JointCall → Type 0 = λ it. WritesOnly (may it.which) it.call in
    let it = later_part makes.newer old.calls moment.newer earlier (sym makes.calls ∙ moment.is) (at_least old.calls makes.newer new.calls earlier makes.calls moment) in
    let all : All P (moment.newer ++ it.0) = subst (All P) it.1 makes.writes in
    subst Q (sym it.2) (always it.0 (All-back P moment.newer it.0 all))

-- the moments of two runs after one another are those of the first and those of the second
pub each_after : (Q : List JointCall → Type 0) (n : ℕ) (calls newer : List JointCall) → EachSince n Q calls → EachSince (length calls) Q (newer ++ calls)
    → EachSince n Q (newer ++ calls)
each_after Q n calls newer before since earlier moment =
    elim (cases_lt (length earlier) (length calls)) [
      | inl shorter ↦
          let it = later_part moment.newer earlier newer calls (sym moment.is) (omega (arith, shorter)) in
          let long : n ≤ length earlier = elim moment.since [
            | inl same ↦ let count : length earlier ≡ length newer + length calls = ap length same ∙ length-append newer calls in omega (arith, shorter, count)
            | inr enough ↦ omega (arith, enough)
          ] in
          before earlier (record { newer = it.0; is = it.2; since = inr long })
      | inr longer ↦ since earlier (record { newer = moment.newer; is = moment.is; since = inr (omega (arith, longer)) })
    ]

pub each_weaker : (Q R : List JointCall → Type 0) (n : ℕ) (calls : List JointCall) → ((them : List JointCall) → Q them → R them) → EachSince n Q calls → EachSince n R calls
each_weaker Q R n calls weaker each earlier moment = weaker earlier (each earlier moment)

pub crashes_are_at_moments : CrashesAreAtMoments
crashes_are_at_moments starts [] n images left = record { earlier = []; moment = record { newer = []; is = refl; since = inl refl }; left = left }
crashes_are_at_moments starts (made ∷ calls) n images (inl left) =
    record { earlier = made ∷ calls; moment = record { newer = []; is = refl; since = inl refl }; left = left }
crashes_are_at_moments starts (made ∷ calls) n images (inr before) =
    let it = crashes_are_at_moments starts calls n images before.1 in
    let enough : n ≤ length it.earlier = elim it.moment.since [
      | inl same ↦ let count : length it.earlier ≡ length calls = ap length same in omega (arith, before.0, count)
      | inr longer ↦ omega (arith, longer)
    ] in
    record {
      earlier = it.earlier;
      moment = record { newer = made ∷ it.moment.newer; is = ap (λ (rest : List JointCall). made ∷ rest) it.moment.is; since = inr enough };
      left = it.left;
    }

-- ---- a crash at a moment of a run that began settled

right_false : (a b : Bool) → (a || b) ≡ false → b ≡ false
right_false true b none = cc
right_false false b none = none

untouched_part : (later made : List JointCall) (which i : ℕ) → IsUntouched (later ++ made) which i → IsUntouched made which i
untouched_part later made which i untouched =
    right_false (list_any (λ call. touches call i) (calls_on which later)) (list_any (λ call. touches call i) (calls_on which made))
    (sym (list_any-append (λ call. touches call i) (calls_on which later) (calls_on which made))
    ∙ sym (ap (list_any (λ call. touches call i)) (calls_on-append which later made)) ∙ untouched)

pub settled_bytes_stay : SettledBytesStay
settled_bytes_stay old new newer run earlier images moment left which i value inside settled untouched known =
    let it = later_part newer old.calls moment.newer earlier (sym run.calls ∙ moment.is) (at_least old.calls newer new.calls earlier run.calls moment) in
    let P : List JointCall → Type 0 = λ them. IsUntouched them which i in
    let none = untouched_part moment.newer it.0 which i (subst P it.1 untouched) in
    let since = untouched_since (bytes_of old.starts which) (calls_on which it.0) (calls_on which old.calls) i none in
    let is : calls_on which earlier ≡ calls_on which it.0 ++ calls_on which old.calls =
    ap (calls_on which) it.2 ∙ calls_on-append which it.0 old.calls in
    (left.each which inside).kept i value (ap (λ (them : List Call). is_dirty them i) is ∙ since.1 (settled i))
    (ap (λ (them : List Call). byte_at (bytes_of old.starts which) them i) is ∙ since.0 ∙ known)

-- the same of bytes that the run may not write
pub off_is_left : (may : ℕ → ℕ → List ℕ → Type 0) (old new : Disks) (earlier : List JointCall) (images : List (List ℕ)) → Makes may old new
    → IsMoment (length old.calls) new.calls earlier → MayLeaveAll old.starts earlier images
    → (which i value : ℕ) → which < length old.starts → IsSettled (calls_on which old.calls) → IsOff (may which) i → content old which i ≡ Some value
    → slice_get (bytes_of images which) i ≡ Some value
off_is_left may old new earlier images makes moment left which i value inside settled off known =
    settled_bytes_stay old new makes.newer (record { starts = makes.starts; calls = makes.calls }) earlier images moment left which i value inside settled
    (off_untouched (may which) (calls_on which makes.newer) i (writes_on may which makes.newer makes.writes) off) known

-- ---- what was held since the last flush

-- the same by the calls, the newest first
abbrev pub WasHeld : List ℕ → List Call → ℕ → List ℕ → Type 0
WasHeld start [] at bytes = Holds start [] at bytes
WasHeld start (Read from read ∷ earlier) at bytes = WasHeld start earlier at bytes
WasHeld start (FailedRead from n ∷ earlier) at bytes = WasHeld start earlier at bytes
WasHeld start (Wrote to written ∷ earlier) at bytes = Holds start (Wrote to written ∷ earlier) at bytes ⊎ WasHeld start earlier at bytes
WasHeld start (FailedWrite to written ∷ earlier) at bytes = Holds start (Wrote to written ∷ earlier) at bytes ⊎ WasHeld start earlier at bytes
WasHeld start (Flushed ∷ earlier) at bytes = Holds start earlier at bytes
WasHeld start (FailedFlush ∷ earlier) at bytes = WasHeld start earlier at bytes

outside_failed : (covered : Bool) (known here : Option ℕ) (value : ℕ) → here ≡ Some value → (if covered then None else known) ≡ here → known ≡ here
outside_failed true known here value is same = let e : None ≡ Some value = same ∙ is in cc
outside_failed false known here value is same = same

-- what is known after a write that failed was so before it
known_before : (start : List ℕ) (calls : List Call) (to : ℕ) (written : List ℕ) (at : ℕ) (bytes : List ℕ) → Holds start (FailedWrite to written ∷ calls) at bytes
    → Holds start calls at bytes
known_before start calls to written at bytes holds i below =
    outside_failed (covers to (length written) (at + i)) (byte_at start calls (at + i)) (slice_get bytes i) (get_or bytes i 0)
    (slice_get-get_or bytes i 0 below) (holds i below)

holding_is_held : (start : List ℕ) (calls : List Call) (at : ℕ) (bytes : List ℕ) → Holds start calls at bytes → WasHeld start calls at bytes
holding_is_held start [] at bytes holds = holds
holding_is_held start (Read from read ∷ calls) at bytes holds = holding_is_held start calls at bytes holds
holding_is_held start (FailedRead from n ∷ calls) at bytes holds = holding_is_held start calls at bytes holds
holding_is_held start (Wrote to written ∷ calls) at bytes holds = inl holds
holding_is_held start (FailedWrite to written ∷ calls) at bytes holds =
    inr (holding_is_held start calls at bytes (known_before start calls to written at bytes holds))
holding_is_held start (Flushed ∷ calls) at bytes holds = holds
holding_is_held start (FailedFlush ∷ calls) at bytes holds = holding_is_held start calls at bytes holds

held_at_moment : (start : List ℕ) (calls : List Call) (at : ℕ) (bytes : List ℕ) → Holds start (last_done calls) at bytes → WasHeld start calls at bytes
held_at_moment start [] at bytes holds = holds
held_at_moment start (Read from read ∷ calls) at bytes holds = holding_is_held start calls at bytes holds
held_at_moment start (FailedRead from n ∷ calls) at bytes holds = holding_is_held start calls at bytes holds
held_at_moment start (Wrote to written ∷ calls) at bytes holds = inl holds
held_at_moment start (FailedWrite to written ∷ calls) at bytes holds = inl holds
held_at_moment start (Flushed ∷ calls) at bytes holds = holds
held_at_moment start (FailedFlush ∷ calls) at bytes holds = holding_is_held start calls at bytes holds

unflushed_rest : (call : Call) (newer : List Call) → ¬ Contains (call ∷ newer) Flushed → ¬ Contains newer Flushed
unflushed_rest call newer none = λ has. none (Contains-append_right (call ∷ []) newer Flushed has)

held_before : (start : List ℕ) (newer earlier : List Call) (at : ℕ) (bytes : List ℕ) → ¬ Contains newer Flushed → WasHeld start earlier at bytes
    → WasHeld start (newer ++ earlier) at bytes
held_before start [] earlier at bytes none held = held
held_before start (Read from read ∷ newer) earlier at bytes none held = held_before start newer earlier at bytes (unflushed_rest (Read from read) newer none) held
held_before start (FailedRead from n ∷ newer) earlier at bytes none held = held_before start newer earlier at bytes (unflushed_rest (FailedRead from n) newer none) held
held_before start (Wrote to written ∷ newer) earlier at bytes none held =
    inr (held_before start newer earlier at bytes (unflushed_rest (Wrote to written) newer none) held)
held_before start (FailedWrite to written ∷ newer) earlier at bytes none held =
    inr (held_before start newer earlier at bytes (unflushed_rest (FailedWrite to written) newer none) held)
held_before start (Flushed ∷ newer) earlier at bytes none held = absurd (none (0, omega arith, refl))
held_before start (FailedFlush ∷ newer) earlier at bytes none held = held_before start newer earlier at bytes (unflushed_rest FailedFlush newer none) held

was_held : (start : List ℕ) (calls : List Call) (at : ℕ) (bytes : List ℕ) → HeldSince start calls at bytes → WasHeld start calls at bytes
was_held start calls at bytes held =
    let P : List Call → Type 0 = λ them. WasHeld start them at bytes in
    subst P (sym held.is) (held_before start held.newer held.earlier at bytes held.unflushed (held_at_moment start held.earlier at bytes held.stood))

-- ---- what is held

none_of_none : (call : Call) → ¬ Contains [] call
none_of_none call has = absurd (omega (arith, has.1))

outside_done : (covered : Bool) (known other here : Option ℕ) (value : ℕ) → here ≡ Some value → (if covered then None else known) ≡ here
    → (if covered then other else known) ≡ here
outside_done true known other here value is same = let e : None ≡ Some value = same ∙ is in cc
outside_done false known other here value is same = same

stood_done : (start : List ℕ) (calls : List Call) (at : ℕ) (bytes : List ℕ) → Holds start calls at bytes → Holds start (last_done calls) at bytes
stood_done start [] at bytes holds = holds
stood_done start (Read from read ∷ calls) at bytes holds = holds
stood_done start (FailedRead from n ∷ calls) at bytes holds = holds
stood_done start (Wrote to written ∷ calls) at bytes holds = holds
stood_done start (FailedWrite to written ∷ calls) at bytes holds = λ i below.
    outside_done (covers to (length written) (at + i)) (byte_at start calls (at + i)) (slice_get written (at + i - to)) (slice_get bytes i) (get_or bytes i 0)
    (slice_get-get_or bytes i 0 below) (holds i below)
stood_done start (Flushed ∷ calls) at bytes holds = holds
stood_done start (FailedFlush ∷ calls) at bytes holds = holds

held_by_failed : (start : List ℕ) (calls : List Call) (at : ℕ) (bytes : List ℕ) → Holds start (Wrote at bytes ∷ calls) at bytes
held_by_failed start calls at bytes i below = byte_at-Wrote start calls at bytes i below

held_longer : (start : List ℕ) (newer calls : List Call) (at : ℕ) (bytes : List ℕ) → ¬ Contains newer Flushed → HeldSince start calls at bytes
    → HeldSince start (newer ++ calls) at bytes
held_longer start newer calls at bytes none held =
    record {
      newer = newer ++ held.newer;
      earlier = held.earlier;
      is = ap (λ (rest : List Call). newer ++ rest) held.is ∙ sym (append_assoc newer held.newer held.earlier);
      unflushed = λ has. elim (Contains-append_cases newer held.newer Flushed has) [ inl one ↦ none one | inr other ↦ held.unflushed other ];
      stood = held.stood;
    }

pub is_held : IsHeld
is_held =
    record {
      now = λ start calls at bytes holds.
          record { newer = []; earlier = calls; is = refl; unflushed = none_of_none Flushed; stood = stood_done start calls at bytes holds };
      by_a_failed_write = λ start calls at bytes.
          record { newer = []; earlier = FailedWrite at bytes ∷ calls; is = refl; unflushed = none_of_none Flushed; stood = held_by_failed start calls at bytes };
      until_a_flush = held_longer;
    }

pub clean_is_untorn : CleanIsUntorn
clean_is_untorn starts calls images left which at bytes inside clean shows =
    is_held.now (bytes_of starts which) (calls_on which calls) at bytes (λ i below.
    let here = clean i below in
    here.known ∙ sym ((left.each which inside).kept (at + i) here.value here.clean here.known) ∙ shows i below)

-- ---- on a settled disk

apart_and_settled : (covered dirty : Bool) → (covered || dirty) ≡ false → (covered ≡ false) × (dirty ≡ false)
apart_and_settled true dirty clean = cc
apart_and_settled false dirty clean = (refl, clean)

-- a write in the log of a settled disk has no byte
settled_Wrote : (start : List ℕ) (to : ℕ) (written : List ℕ) (calls : List Call) (at : ℕ) (bytes : List ℕ)
    → ((i : ℕ) → (covers to (length written) i || is_dirty calls i) ≡ false) → Holds start calls at bytes → Holds start (Wrote to written ∷ calls) at bytes
settled_Wrote start to written calls at bytes clean holds i below =
    byte_at-outside start calls to written (at + i) (apart_and_settled (covers to (length written) (at + i)) (is_dirty calls (at + i)) (clean (at + i))).0 ∙ holds i below

settled_FailedWrite : (start : List ℕ) (to : ℕ) (written : List ℕ) (calls : List Call) (at : ℕ) (bytes : List ℕ)
    → ((i : ℕ) → (covers to (length written) i || is_dirty calls i) ≡ false) → Holds start calls at bytes → Holds start (FailedWrite to written ∷ calls) at bytes
settled_FailedWrite start to written calls at bytes clean holds i below =
    byte_at-failed_outside start calls to written (at + i) (apart_and_settled (covers to (length written) (at + i)) (is_dirty calls (at + i)) (clean (at + i))).0 ∙ holds i below

unwritten : (start : List ℕ) (to : ℕ) (written : List ℕ) (calls : List Call) (at : ℕ) (bytes : List ℕ)
    → ((i : ℕ) → (covers to (length written) i || is_dirty calls i) ≡ false) → Holds start (Wrote to written ∷ calls) at bytes → Holds start calls at bytes
unwritten start to written calls at bytes clean holds i below =
    sym (byte_at-outside start calls to written (at + i) (apart_and_settled (covers to (length written) (at + i)) (is_dirty calls (at + i)) (clean (at + i))).0) ∙ holds i below

settled_rest : (covered : ℕ → Bool) (calls : List Call) → ((i : ℕ) → (covered i || is_dirty calls i) ≡ false) → IsSettled calls
settled_rest covered calls clean i = (apart_and_settled (covered i) (is_dirty calls i) (clean i)).1

settled_was_held : (start : List ℕ) (calls : List Call) (at : ℕ) (bytes : List ℕ) → IsSettled calls → WasHeld start calls at bytes → Holds start calls at bytes
settled_was_held start [] at bytes settled held = held
settled_was_held start (Read from read ∷ calls) at bytes settled held = settled_was_held start calls at bytes settled held
settled_was_held start (FailedRead from n ∷ calls) at bytes settled held = settled_was_held start calls at bytes settled held
settled_was_held start (Wrote to written ∷ calls) at bytes settled (inl now) = now
settled_was_held start (Wrote to written ∷ calls) at bytes settled (inr before) =
    settled_Wrote start to written calls at bytes settled
    (settled_was_held start calls at bytes (settled_rest (covers to (length written)) calls settled) before)
settled_was_held start (FailedWrite to written ∷ calls) at bytes settled (inl now) =
    settled_FailedWrite start to written calls at bytes settled (unwritten start to written calls at bytes settled now)
settled_was_held start (FailedWrite to written ∷ calls) at bytes settled (inr before) =
    settled_FailedWrite start to written calls at bytes settled
    (settled_was_held start calls at bytes (settled_rest (covers to (length written)) calls settled) before)
settled_was_held start (Flushed ∷ calls) at bytes settled held = held
settled_was_held start (FailedFlush ∷ calls) at bytes settled held = settled_was_held start calls at bytes settled held

pub settled_bytes_are_held : SettledBytesAreHeld
settled_bytes_are_held start calls at bytes settled held = settled_was_held start calls at bytes settled (was_held start calls at bytes held)

-- ---- at a place that a run writes whole or not at all

-- what is written over is what was written
overwritten : (start : List ℕ) (calls : List Call) (at : ℕ) (written bytes : List ℕ) → length written ≡ length bytes
    → Holds start (Wrote at written ∷ calls) at bytes → written ≡ bytes
overwritten start calls at written bytes same holds =
    same_bytes written bytes same (λ i below. sym (byte_at-Wrote start calls at written i (omega (arith, same, below))) ∙ holds i below)

failed_unknown : (start : List ℕ) (calls : List Call) (at : ℕ) (written bytes : List ℕ) → length written ≡ length bytes → 0 < length bytes
    → Holds start (FailedWrite at written ∷ calls) at bytes → ⊥
failed_unknown start calls at written bytes same some holds =
    let inside : covers at (length written) (at + 0) ≡ true = covers-inside at (length written) 0 (omega (arith, same, some)) in
    let none : byte_at start (FailedWrite at written ∷ calls) (at + 0) ≡ None = rw inside refl in
    let is : slice_get bytes 0 ≡ Some (get_or bytes 0 0) = slice_get-get_or bytes 0 0 some in
    let e : None ≡ Some (get_or bytes 0 0) = sym none ∙ holds 0 some ∙ is in
    cc

pub holds_in_run : (may : ℕ → List ℕ → Type 0) (start : List ℕ) (newer calls : List Call) (at : ℕ) (bytes : List ℕ)
    → All (WritesOnly may) newer → IsWholeIn may at (length bytes) → 0 < length bytes → Holds start (newer ++ calls) at bytes
    → Holds start calls at bytes ⊎ may at bytes
holds_in_run may start [] calls at bytes are whole some holds = inl holds
holds_in_run may start (Read from read ∷ newer) calls at bytes are whole some holds =
    holds_in_run may start newer calls at bytes (All-tail (WritesOnly may) (Read from read) newer are) whole some holds
holds_in_run may start (FailedRead from n ∷ newer) calls at bytes are whole some holds =
    holds_in_run may start newer calls at bytes (All-tail (WritesOnly may) (FailedRead from n) newer are) whole some holds
holds_in_run may start (Wrote to written ∷ newer) calls at bytes are whole some holds =
    let is : may to written = All-first (WritesOnly may) (Wrote to written) newer are in
    elim (whole to written is) [
      | inl exact ↦
          let P : ℕ → Type 0 = λ place. Holds start (Wrote place written ∷ (newer ++ calls)) at bytes in
          let same : written ≡ bytes = overwritten start (newer ++ calls) at written bytes exact.1 (subst P exact.0 holds) in
          let Q : ℕ → Type 0 = λ place. may place bytes in
          inr (subst Q exact.0 (subst (may to) same is))
      | inr apart ↦
          holds_in_run may start newer calls at bytes (All-tail (WritesOnly may) (Wrote to written) newer are) whole some
          (λ i below. sym (byte_at-outside start (newer ++ calls) to written (at + i) (apart i below)) ∙ holds i below)
    ]
holds_in_run may start (FailedWrite to written ∷ newer) calls at bytes are whole some holds =
    let is : may to written = All-first (WritesOnly may) (FailedWrite to written) newer are in
    elim (whole to written is) [
      | inl exact ↦
          let P : ℕ → Type 0 = λ place. Holds start (FailedWrite place written ∷ (newer ++ calls)) at bytes in
          absurd (failed_unknown start (newer ++ calls) at written bytes exact.1 some (subst P exact.0 holds))
      | inr apart ↦
          holds_in_run may start newer calls at bytes (All-tail (WritesOnly may) (FailedWrite to written) newer are) whole some
          (λ i below. sym (byte_at-failed_outside start (newer ++ calls) to written (at + i) (apart i below)) ∙ holds i below)
    ]
holds_in_run may start (Flushed ∷ newer) calls at bytes are whole some holds =
    holds_in_run may start newer calls at bytes (All-tail (WritesOnly may) Flushed newer are) whole some holds
holds_in_run may start (FailedFlush ∷ newer) calls at bytes are whole some holds =
    holds_in_run may start newer calls at bytes (All-tail (WritesOnly may) FailedFlush newer are) whole some holds

was_held_in_run : (may : ℕ → List ℕ → Type 0) (start : List ℕ) (newer calls : List Call) (at : ℕ) (bytes : List ℕ)
    → All (WritesOnly may) newer → IsWholeIn may at (length bytes) → 0 < length bytes → IsSettled calls → WasHeld start (newer ++ calls) at bytes
    → Holds start calls at bytes ⊎ may at bytes
was_held_in_run may start [] calls at bytes are whole some settled held = inl (settled_was_held start calls at bytes settled held)
was_held_in_run may start (Read from read ∷ newer) calls at bytes are whole some settled held =
    was_held_in_run may start newer calls at bytes (All-tail (WritesOnly may) (Read from read) newer are) whole some settled held
was_held_in_run may start (FailedRead from n ∷ newer) calls at bytes are whole some settled held =
    was_held_in_run may start newer calls at bytes (All-tail (WritesOnly may) (FailedRead from n) newer are) whole some settled held
was_held_in_run may start (Wrote to written ∷ newer) calls at bytes are whole some settled (inl now) =
    holds_in_run may start (Wrote to written ∷ newer) calls at bytes are whole some now
was_held_in_run may start (Wrote to written ∷ newer) calls at bytes are whole some settled (inr before) =
    was_held_in_run may start newer calls at bytes (All-tail (WritesOnly may) (Wrote to written) newer are) whole some settled before
was_held_in_run may start (FailedWrite to written ∷ newer) calls at bytes are whole some settled (inl now) =
    let P = WritesOnly may in
    let made : All P (Wrote to written ∷ newer) =
    All-cons P (Wrote to written) newer (All-first P (FailedWrite to written) newer are) (All-tail P (FailedWrite to written) newer are) in
    holds_in_run may start (Wrote to written ∷ newer) calls at bytes made whole some now
was_held_in_run may start (FailedWrite to written ∷ newer) calls at bytes are whole some settled (inr before) =
    was_held_in_run may start newer calls at bytes (All-tail (WritesOnly may) (FailedWrite to written) newer are) whole some settled before
was_held_in_run may start (Flushed ∷ newer) calls at bytes are whole some settled held =
    holds_in_run may start newer calls at bytes (All-tail (WritesOnly may) Flushed newer are) whole some held
was_held_in_run may start (FailedFlush ∷ newer) calls at bytes are whole some settled held =
    was_held_in_run may start newer calls at bytes (All-tail (WritesOnly may) FailedFlush newer are) whole some settled held

-- the same at a moment of a run of all disks, of what the run may write there
pub held_in_run : (may : ℕ → ℕ → List ℕ → Type 0) (old new : Disks) (earlier : List JointCall) → Makes may old new
    → IsMoment (length old.calls) new.calls earlier
    → (which at : ℕ) (bytes : List ℕ) → IsSettled (calls_on which old.calls) → 0 < length bytes → IsWholeIn (may which) at (length bytes)
    → HeldOn old.starts earlier which at bytes → Stands old which at bytes ⊎ may which at bytes
held_in_run may old new earlier makes moment which at bytes settled some whole held =
    let start = bytes_of old.starts which in
    let it = later_part makes.newer old.calls moment.newer earlier (sym makes.calls ∙ moment.is) (at_least old.calls makes.newer new.calls earlier makes.calls moment) in
    let P : JointCall → Type 0 = λ made. WritesOnly (may made.which) made.call in
    let are : All P it.0 = All-back P moment.newer it.0 (subst (All P) it.1 makes.writes) in
    let is : calls_on which earlier ≡ calls_on which it.0 ++ calls_on which old.calls =
    ap (calls_on which) it.2 ∙ calls_on-append which it.0 old.calls in
    let Q : List Call → Type 0 = λ them. HeldSince start them at bytes in
    let so : HeldSince start (calls_on which it.0 ++ calls_on which old.calls) at bytes = subst Q is held in
    was_held_in_run (may which) start (calls_on which it.0) (calls_on which old.calls) at bytes (writes_on may which it.0 are) whole some settled
    (was_held start (calls_on which it.0 ++ calls_on which old.calls) at bytes so)

writes_itself : (calls : List Call) (call : Call) → Contains calls call → WritesOnly (HasWrite calls) call
writes_itself calls (Read at bytes) has = tt
writes_itself calls (FailedRead at n) has = tt
writes_itself calls (Wrote at bytes) has = inl has
writes_itself calls (FailedWrite at bytes) has = inr has
writes_itself calls Flushed has = tt
writes_itself calls FailedFlush has = tt

has_more_if : (test : Bool) (call : Call) (rest : List Call) (at : ℕ) (bytes : List ℕ) → HasWrite rest at bytes → HasWrite (if test then call ∷ rest else rest) at bytes
has_more_if true call rest at bytes (inl has) = inl (Contains-append_right (call ∷ []) rest (Wrote at bytes) has)
has_more_if true call rest at bytes (inr has) = inr (Contains-append_right (call ∷ []) rest (FailedWrite at bytes) has)
has_more_if false call rest at bytes has = has

writes_first : (made : JointCall) (rest : List JointCall) → WritesOnly (HasWrite (calls_on made.which (made ∷ rest))) made.call
writes_first made rest =
    let P : List Call → Type 0 = λ them. WritesOnly (HasWrite them) made.call in
    subst P (sym (calls_on-same made.which made.call rest)) (writes_itself (made.call ∷ calls_on made.which rest) made.call (0, omega arith, refl))

-- a run makes its own writes
all_its_own : (newer : List JointCall) → All (λ made. WritesOnly (HasWrite (calls_on made.which newer)) made.call) newer
all_its_own [] = All-nil (λ made. WritesOnly (HasWrite []) made.call)
all_its_own (made ∷ rest) =
    All-cons (λ it. WritesOnly (HasWrite (calls_on it.which (made ∷ rest))) it.call) made rest (writes_first made rest)
    (wider_calls (λ which. HasWrite (calls_on which rest)) (λ which. HasWrite (calls_on which (made ∷ rest))) rest
    (λ which at bytes has. has_more_if (made.which == which) made.call (calls_on which rest) at bytes has) (all_its_own rest))

pub held_is_old_or_written : HeldIsOldOrWritten
held_is_old_or_written old new newer run earlier moment which at bytes settled some whole held =
    let makes : Makes (λ disk. HasWrite (calls_on disk newer)) old new =
    record { starts = run.starts; newer = newer; calls = run.calls; writes = all_its_own newer } in
    held_in_run (λ disk. HasWrite (calls_on disk newer)) old new earlier makes moment which at bytes settled some whole held

-- ---- runs of one call, and loops of flushes

Makes-one : (may : ℕ → ℕ → List ℕ → Type 0) (old new : Disks) (which : ℕ) (call : Call) → new.starts ≡ old.starts → new.calls ≡ on which call ∷ old.calls
    → WritesOnly (may which) call → Makes may old new
Makes-one may old new which call starts calls is =
    let P : JointCall → Type 0 = λ made. WritesOnly (may made.which) made.call in
    record { starts = starts; newer = on which call ∷ []; calls = calls; writes = All-cons P (on which call) [] is (All-nil P) }

answered_write : {T E : Type 0} (r : Result T E) (may : ℕ → List ℕ → Type 0) (at : ℕ) (bytes : List ℕ) → may at bytes → WritesOnly may (write_call r at bytes)
answered_write (Ok x) may at bytes is = is
answered_write (Err e) may at bytes is = is

answered_read : {T E : Type 0} (r : Result T E) (may : ℕ → List ℕ → Type 0) (at : ℕ) (buffer : List ℕ) → WritesOnly may (read_call r at buffer)
answered_read (Ok x) may at buffer = tt
answered_read (Err e) may at buffer = tt

answered_flush : {T E : Type 0} (r : Result T E) (may : ℕ → List ℕ → Type 0) → WritesOnly may (flush_call r)
answered_flush (Ok x) may = tt
answered_flush (Err e) may = tt

pub Makes-write : {T E : Type 0} (r : Result T E) (may : ℕ → ℕ → List ℕ → Type 0) (old new : Disks) (which at : ℕ) (bytes : List ℕ) → new.starts ≡ old.starts
    → new.calls ≡ on which (write_call r at bytes) ∷ old.calls → may which at bytes → Makes may old new
Makes-write r may old new which at bytes starts calls is =
    Makes-one may old new which (write_call r at bytes) starts calls (answered_write r (may which) at bytes is)

pub Makes-read : {T E : Type 0} (r : Result T E) (may : ℕ → ℕ → List ℕ → Type 0) (old new : Disks) (which at : ℕ) (buffer : List ℕ) → new.starts ≡ old.starts
    → new.calls ≡ on which (read_call r at buffer) ∷ old.calls → Makes may old new
Makes-read r may old new which at buffer starts calls = Makes-one may old new which (read_call r at buffer) starts calls (answered_read r (may which) at buffer)

pub Makes-flush : {T E : Type 0} (r : Result T E) (may : ℕ → ℕ → List ℕ → Type 0) (old new : Disks) (which : ℕ) → new.starts ≡ old.starts
    → new.calls ≡ on which (flush_call r) ∷ old.calls → Makes may old new
Makes-flush r may old new which starts calls = Makes-one may old new which (flush_call r) starts calls (answered_flush r (may which))

-- one disk more is flushed
pub AreSettledBelow-next : (old new : List JointCall) (which : ℕ) → new ≡ on which Flushed ∷ old → AreSettledBelow which old → AreSettledBelow (which + 1) new
AreSettledBelow-next old new which is before disk below =
    let P : List JointCall → Type 0 = λ them. IsSettled (calls_on disk them) in
    let R : List Call → Type 0 = λ them. IsSettled them in
    subst P (sym is) (elim (cases_lt disk which) [
      | inl lower ↦ subst R (sym (calls_on-other which disk Flushed old (λ same. absurd (omega (arith, same, lower))))) (before disk lower)
      | inr last ↦
          let same : disk ≡ which = omega (arith, last, below) in
          let Q : ℕ → Type 0 = λ w. IsSettled (calls_on w (on which Flushed ∷ old)) in
          subst Q (sym same) (subst R (sym (calls_on-same which Flushed old)) (λ i. refl))
    ])

-- a run that writes nothing leaves settled disks settled
pub AreSettled-kept : (old new : Disks) → Makes no_write old new → AreSettled old → AreSettled new
AreSettled-kept old new makes settled which below i =
    let inside : which < length old.starts = omega (arith, below, ap length makes.starts) in
    let none = none_touched (calls_on which makes.newer) i (writes_on no_write which makes.newer makes.writes) in
    let since = untouched_since [] (calls_on which makes.newer) (calls_on which old.calls) i none in
    ap (λ (them : List Call). is_dirty them i) (ap (calls_on which) makes.calls ∙ calls_on-append which makes.newer old.calls) ∙ since.1 (settled which inside i)

-- ---- runs whose writes pass a test

pub makes_is_known : MakesIsKnown
makes_is_known =
    record {
      none = λ test disks. Makes-none (passing test) disks;
      joined = λ test old mid new first second. Makes-more (passing test) old mid new first second;
      now = λ test old new which i makes off. off_content (passing test) old new which i makes off;
      after_a_crash = λ test old new earlier images makes moment left which i value inside settled off known.
          off_is_left (passing test) old new earlier images makes moment left which i value inside settled off known;
      held = λ test old new earlier makes moment which at bytes settled some whole held.
          held_in_run (passing test) old new earlier makes moment which at bytes settled some whole held;
    }
