-- Runs of reads.
use Rattle.std.proofs.Common.{◌≡◌, inl, inr, ◌<◌, ◌≤◌, ◌∙◌, ℕ, zero, suc, ◌&&◌, Bool, true, false, nat_le, if◌then◌else◌, List, [], ◌∷◌, ◌++◌, length, All, Contains, Result, Ok, Err, refl, sym, ap, subst, arith}
use Rattle.std.specs.Prelude.{IsErrAnd}
use Rattle.std.proofs.lemmas.Bool.Decides.{nat_tests}
use Rattle.std.proofs.lemmas.List.{append_assoc}
use Rattle.std.proofs.lemmas.List.Elements.{All-nil, All-tail, All-append, All-weaker, Contains-append_cases}
use Rattle.model_disk.specs.Call.{Call, Read, FailedRead, Wrote, FailedWrite, Flushed, FailedFlush, is_failed}
use Rattle.model_disk.specs.Joint.{JointCall, Disks, calls_on, failed_since}
use Rattle.model_disk.specs.Runs.{Makes, WritesOnly, no_write}
use Rattle.model_disk.proofs.JointLemmas.{calls_on-other}
use Rattle.pool_slots.specs.Failures.{HasFailedOn}
use Rattle.pool_slots.specs.Reads.{IsReadCall, IsReadOf, OnlyReads, nowhere, is_fault, IsFaultOf}
use Rattle.pool_slots.specs.Slots.{MakesOn}
use Rattle.pool_slots.specs.declared.refusal.Refusal.{Refusal}

-- ---- one after another

pub reads_none : (used faulty : ℕ → Type 0) (disks : Disks) → OnlyReads used faulty disks disks
reads_none used faulty disks = record { starts = refl; newer = []; calls = refl; reads = All-nil (IsReadOf used faulty) }

pub reads_more : (used faulty : ℕ → Type 0) (old mid new : Disks) → OnlyReads used faulty old mid → OnlyReads used faulty mid new → OnlyReads used faulty old new
reads_more used faulty old mid new first second =
    record {
      starts = second.starts ∙ first.starts;
      newer = second.newer ++ first.newer;
      calls = second.calls ∙ ap (λ (rest : List JointCall). second.newer ++ rest) first.calls ∙ sym (append_assoc second.newer first.newer old.calls);
      reads = All-append (IsReadOf used faulty) second.newer first.newer second.reads first.reads;
    }

wider_call : (P Q : Type 0) (call : Call) → (P → Q) → IsReadCall P call → IsReadCall Q call
wider_call P Q (Read at bytes) more it = tt
wider_call P Q (FailedRead at n) more it = more it
wider_call P Q (Wrote at bytes) more it = absurd it
wider_call P Q (FailedWrite at bytes) more it = absurd it
wider_call P Q Flushed more it = absurd it
wider_call P Q FailedFlush more it = absurd it

pub reads_wider : (used also faulty more : ℕ → Type 0) (old new : Disks) → ((which : ℕ) → used which → also which) → ((which : ℕ) → faulty which → more which)
    → OnlyReads used faulty old new → OnlyReads also more old new
reads_wider used also faulty more old new wider worse run =
    record {
      starts = run.starts;
      newer = run.newer;
      calls = run.calls;
      reads = All-weaker (IsReadOf used faulty) (IsReadOf also more) (λ made it. (wider made.which it.0, wider_call (faulty made.which) (more made.which) made.call (worse made.which) it.1)) run.newer run.reads;
    }

-- what didn't fail has failed as little as anything
pub reads_any : {used faulty : ℕ → Type 0} {old new : Disks} → OnlyReads used nowhere old new → OnlyReads used faulty old new
reads_any {used} {faulty} {old} {new} run = reads_wider used used nowhere faulty old new (λ which it. it) (λ which none. absurd none) run

pub reads_then : {used faulty : ℕ → Type 0} {old mid new : Disks} → OnlyReads used nowhere old mid → OnlyReads used faulty mid new → OnlyReads used faulty old new
reads_then {used} {faulty} {old} {mid} {new} first second = reads_more used faulty old mid new (reads_any first) second

-- by the answer
pub reads_err : {T : Type 0} {used : ℕ → Type 0} {old new : Disks} (r : Result T Refusal) (e : Refusal) → IsErrAnd r (λ x. x ≡ e) → OnlyReads used (is_fault e) old new
    → OnlyReads used (IsFaultOf r) old new
reads_err (Ok x) e is run = absurd is
reads_err {T} {used} {old} {new} (Err x) e is run =
    let P : Refusal → Type 0 = λ y. OnlyReads used (is_fault y) old new in
    subst P (sym is) run

-- ---- what they leave

none_wrote : (P : Type 0) (which : ℕ) (call : Call) → IsReadCall P call → WritesOnly (no_write which) call
none_wrote P which (Read at bytes) it = tt
none_wrote P which (FailedRead at n) it = tt
none_wrote P which (Wrote at bytes) it = absurd it
none_wrote P which (FailedWrite at bytes) it = absurd it
none_wrote P which Flushed it = tt
none_wrote P which FailedFlush it = tt

pub reads_made : {used faulty : ℕ → Type 0} {old new : Disks} → OnlyReads used faulty old new → Makes no_write old new
reads_made {used} {faulty} {old} {new} run =
    record {
      starts = run.starts;
      newer = run.newer;
      calls = run.calls;
      writes = All-weaker (IsReadOf used faulty) (λ made. WritesOnly (no_write made.which) made.call) (λ made it. none_wrote (faulty made.which) made.which made.call it.1) run.newer run.reads;
    }

All-first : {X : Type 0} (P : X → Type 0) (x : X) (xs : List X) → All P (x ∷ xs) → P x
All-first P x xs all = all 0 x (omega arith)

alone_in : (used faulty : ℕ → Type 0) (which : ℕ) (newer calls : List JointCall) → ¬ used which → All (IsReadOf used faulty) newer → calls_on which (newer ++ calls) ≡ calls_on which calls
alone_in used faulty which [] calls none all = refl
alone_in used faulty which (made ∷ newer) calls none all =
    let here : used made.which = (All-first (IsReadOf used faulty) made newer all).0 in
    calls_on-other made.which which made.call (newer ++ calls) (λ same. none (subst used (sym same) here))
    ∙ alone_in used faulty which newer calls none (All-tail (IsReadOf used faulty) made newer all)

pub reads_on : {used faulty : ℕ → Type 0} {old new : Disks} → OnlyReads used faulty old new → MakesOn used no_write old new
reads_on {used} {faulty} {old} {new} run =
    record { makes = reads_made run; alone = λ which none. ap (calls_on which) run.calls ∙ alone_in used faulty which run.newer old.calls none run.reads }

-- ---- which failed

test_gt : (a b : ℕ) → b < a → nat_le a b ≡ false
test_gt a b lt = grind (arith, nat_tests)

none_since : (n : ℕ) (calls : List JointCall) (disk : ℕ) → length calls ≤ n → Contains (failed_since n calls) disk → ⊥
none_since n [] disk le has = omega (arith, has.1)
none_since n (made ∷ earlier) disk le has =
    let P : Bool → Type 0 = λ b. Contains (if b && is_failed made.call then made.which ∷ failed_since n earlier else failed_since n earlier) disk in
    none_since n earlier disk (omega (arith, le)) (subst P (test_gt n (length earlier) (omega (arith, le))) has)

one_is : (which disk : ℕ) → Contains (which ∷ []) disk → which ≡ disk
one_is which disk (zero, below, is) = is
one_is which disk (suc i, below, is) = absurd (omega (arith, below))

fail_case : (Q : ℕ → Type 0) (test failed : Bool) (which : ℕ) (xs : List ℕ) (disk : ℕ) → (failed ≡ true → Q which) → (Contains xs disk → Q disk)
    → Contains (if test && failed then which ∷ xs else xs) disk → Q disk
fail_case Q true true which xs disk this rest has = elim (Contains-append_cases (which ∷ []) xs disk has) [
  | inl one ↦ subst Q (one_is which disk one) (this refl)
  | inr more ↦ rest more
]
fail_case Q true false which xs disk this rest has = rest has
fail_case Q false failed which xs disk this rest has = rest has

-- what holds of each disk on which a newer call failed
failed_in : (Q : ℕ → Type 0) (n : ℕ) (newer calls : List JointCall) (disk : ℕ) → length calls ≤ n → All (λ made. is_failed made.call ≡ true → Q made.which) newer
    → Contains (failed_since n (newer ++ calls)) disk → Q disk
failed_in Q n [] calls disk le all has = absurd (none_since n calls disk le has)
failed_in Q n (made ∷ newer) calls disk le all has =
    let P : JointCall → Type 0 = λ it. is_failed it.call ≡ true → Q it.which in
    fail_case Q (nat_le n (length (newer ++ calls))) (is_failed made.call) made.which (failed_since n (newer ++ calls)) disk (All-first P made newer all)
    (failed_in Q n newer calls disk le (All-tail P made newer all)) has

faulty_call : (P : Type 0) (call : Call) → IsReadCall P call → is_failed call ≡ true → P
faulty_call P (Read at bytes) it failed = absurd cc
faulty_call P (FailedRead at n) it failed = it
faulty_call P (Wrote at bytes) it failed = absurd it
faulty_call P (FailedWrite at bytes) it failed = absurd it
faulty_call P Flushed it failed = absurd it
faulty_call P FailedFlush it failed = absurd it

-- a disk that failed was read, and is faulty
pub reads_failed : {used faulty : ℕ → Type 0} {old new : Disks} → OnlyReads used faulty old new → (disk : ℕ) → HasFailedOn old new disk → used disk × faulty disk
reads_failed {used} {faulty} {old} {new} run disk failed =
    let P : List JointCall → Type 0 = λ them. Contains (failed_since (length old.calls) them) disk in
    let Q : ℕ → Type 0 = λ d. used d × faulty d in
    failed_in Q (length old.calls) run.newer old.calls disk (omega arith)
    (All-weaker (IsReadOf used faulty) (λ made. is_failed made.call ≡ true → Q made.which) (λ made it fails. (it.0, faulty_call (faulty made.which) made.call it.1 fails)) run.newer run.reads)
    (subst P run.calls failed)
