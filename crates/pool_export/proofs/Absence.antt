-- Disks that go out as calls on them fail.
use Rattle.std.proofs.Common.{◌≡◌, ◌⊎◌, inl, inr, ◌<◌, ◌∙◌, ℕ, zero, suc, Bool, true, false, List, [], ◌∷◌, ◌++◌, length, slice_get, slice_index_or, slice_set, Some, Result, Ok, Err, OnOk, Contains, refl, sym, ap, subst, arith}
use Rattle.std.specs.Prelude.{is_err}
use Rattle.std.proofs.lemmas.List.{append_assoc, length-set}
use Rattle.std.proofs.lemmas.List.Elements.{All-append, All-cons, All-nil}
use Rattle.model_disk.specs.Call.{Call, FailedFlush, FailedWrite, Flushed, Wrote, flush_call, is_failed, write_call}
use Rattle.model_disk.specs.Joint.{Disks, JointCall, calls_on, failed_since, on}
use Rattle.model_disk.specs.Runs.{Makes}
use Rattle.model_disk.proofs.FailureLemmas.{kept_through}
use Rattle.model_disk.proofs.JointLemmas.{calls_on-other, calls_on-same}
use Rattle.pool_slots.specs.Failures.{HasFailedOn}
use Rattle.pool_slots.specs.Slots.{InUse, MakesOn}
use Rattle.pool_slots.proofs.Failing.{fails_later, fails_now}
use Rattle.pool_slots.proofs.Places.{same_or_not}
use Rattle.pool_export.specs.Absence.{AnswersOn, EndsAs, FailsLastOn, GoOutFailing}

some_bool : (a b : Bool) → Some a ≡ Some b → a ≡ b
some_bool a b e = cc

not_false : Some true ≡ Some false → ⊥
not_false e = let same : true ≡ false = some_bool true false e in cc

pub used_or_out : (xs : List Bool) (which : ℕ) → InUse xs which ⊎ ¬ InUse xs which
used_or_out [] which = inr (λ e. absurd cc)
used_or_out (false ∷ xs) zero = inl refl
used_or_out (true ∷ xs) zero = inr not_false
used_or_out (x ∷ xs) (suc i) = used_or_out xs i

at_flag : (xs : List Bool) (i : ℕ) (d : Bool) → i < length xs → slice_get xs i ≡ Some (slice_index_or xs i d)
at_flag [] i d below = absurd (omega (arith, below))
at_flag (x ∷ xs) zero d below = refl
at_flag (x ∷ xs) (suc i) d below = at_flag xs i d (omega (arith, below))

-- a disk whose mark was read
pub used_at : (xs : List Bool) (which : ℕ) (flag : Bool) → which < length xs → flag ≡ slice_index_or xs which flag → flag ≡ false → InUse xs which
used_at xs which flag below read is = at_flag xs which flag below ∙ ap (λ (b : Bool). Some b) (sym read ∙ is)

-- ---- one more disk is out

-- it is out, and no other
pub record IsPutOut (xs : List Bool) (disk : ℕ) (ys : List Bool) : Type 0 where
  pub stay : (which : ℕ) → InUse ys which → InUse xs which
  pub here : ¬ InUse ys disk
  pub other : (which : ℕ) → InUse xs which → InUse ys which ⊎ (which ≡ disk)

stay_first : (xs : List Bool) (which : ℕ) → InUse (true ∷ xs) which → InUse (false ∷ xs) which
stay_first xs zero it = absurd (not_false it)
stay_first xs (suc i) it = it

other_first : (xs : List Bool) (which : ℕ) → InUse (false ∷ xs) which → InUse (true ∷ xs) which ⊎ (which ≡ 0)
other_first xs zero it = inr refl
other_first xs (suc i) it = inl it

stay_next : (x : Bool) (xs ys : List Bool) (which : ℕ) → ((i : ℕ) → InUse ys i → InUse xs i) → InUse (x ∷ ys) which → InUse (x ∷ xs) which
stay_next x xs ys zero stay it = it
stay_next x xs ys (suc i) stay it = stay i it

other_next : (x : Bool) (xs ys : List Bool) (disk which : ℕ) → ((i : ℕ) → InUse xs i → InUse ys i ⊎ (i ≡ disk)) → InUse (x ∷ xs) which → InUse (x ∷ ys) which ⊎ (which ≡ suc disk)
other_next x xs ys disk zero other it = inl it
other_next x xs ys disk (suc i) other it = elim (other i it) [ inl still ↦ inl still | inr same ↦ inr (ap suc same) ]

pub put_out : (xs : List Bool) (disk : ℕ) → InUse xs disk → IsPutOut xs disk (slice_set xs disk true)
put_out [] disk used = absurd cc
put_out (true ∷ xs) zero used = absurd (not_false used)
put_out (false ∷ xs) zero used = record { stay = stay_first xs; here = not_false; other = other_first xs }
put_out (x ∷ xs) (suc i) used =
    let ys = slice_set xs i true in
    let rest = put_out xs i used in
    record {
      stay = λ which it. stay_next x xs ys which rest.stay it;
      here = rest.here;
      other = λ which it. other_next x xs ys i which rest.other it;
    }

-- ---- which failed

fails_before : (may : ℕ → ℕ → List ℕ → Type 0) (old mid new : Disks) (disk : ℕ) → Makes may mid new → HasFailedOn old mid disk → HasFailedOn old new disk
fails_before may old mid new disk makes failed =
    let P : List JointCall → Type 0 = λ them. Contains (failed_since (length old.calls) them) disk in
    subst P (sym makes.calls) (kept_through (length old.calls) makes.newer mid.calls disk failed)

-- ---- one disk

abbrev pub Answered : Call → Type 0
Answered call = is_failed call ≡ false

pub answers_kept : (old new : Disks) (which : ℕ) → calls_on which new.calls ≡ calls_on which old.calls → AnswersOn old new which
answers_kept old new which same = record { newer = []; calls = same; answered = All-nil Answered }

pub answers_none : (old new : Disks) (which : ℕ) → new.calls ≡ old.calls → AnswersOn old new which
answers_none old new which same = answers_kept old new which (ap (calls_on which) same)

pub answers_one : (old new : Disks) (which : ℕ) (call : Call) → new.calls ≡ on which call ∷ old.calls → is_failed call ≡ false → AnswersOn old new which
answers_one old new which call calls answered =
    record { newer = call ∷ []; calls = ap (calls_on which) calls ∙ calls_on-same which call old.calls; answered = All-cons Answered call [] answered (All-nil Answered) }

pub fails_one : (old new : Disks) (which : ℕ) (call : Call) → new.calls ≡ on which call ∷ old.calls → is_failed call ≡ true → FailsLastOn old new which
fails_one old new which call calls failed =
    record { call = call; earlier = []; calls = ap (calls_on which) calls ∙ calls_on-same which call old.calls; failed = failed; answered = All-nil Answered }

pub answers_more : (old mid new : Disks) (which : ℕ) → AnswersOn old mid which → AnswersOn mid new which → AnswersOn old new which
answers_more old mid new which first second =
    record {
      newer = second.newer ++ first.newer;
      calls = second.calls ∙ ap (λ (rest : List Call). second.newer ++ rest) first.calls ∙ sym (append_assoc second.newer first.newer (calls_on which old.calls));
      answered = All-append Answered second.newer first.newer second.answered first.answered;
    }

pub fails_next : (old mid new : Disks) (which : ℕ) → AnswersOn old mid which → FailsLastOn mid new which → FailsLastOn old new which
fails_next old mid new which first second =
    record {
      call = second.call;
      earlier = second.earlier ++ first.newer;
      calls = second.calls ∙ ap (λ (rest : List Call). second.call ∷ (second.earlier ++ rest)) first.calls
          ∙ ap (λ (rest : List Call). second.call ∷ rest) (sym (append_assoc second.earlier first.newer (calls_on which old.calls)));
      failed = second.failed;
      answered = All-append Answered second.earlier first.newer second.answered first.answered;
    }

fails_kept : (old mid new : Disks) (which : ℕ) → FailsLastOn old mid which → calls_on which new.calls ≡ calls_on which mid.calls → FailsLastOn old new which
fails_kept old mid new which it same = record { call = it.call; earlier = it.earlier; calls = same ∙ it.calls; failed = it.failed; answered = it.answered }

-- ---- by the answer of a write, or of a flush

pub ends_write : {T E : Type 0} (r : Result T E) (old new : Disks) (which at : ℕ) (bytes : List ℕ) → new.calls ≡ on which (write_call r at bytes) ∷ old.calls → EndsAs r old new which
ends_write (Ok x) old new which at bytes calls = answers_one old new which (Wrote at bytes) calls refl
ends_write (Err e) old new which at bytes calls = (fails_one old new which (FailedWrite at bytes) calls refl, fails_now old new which (FailedWrite at bytes) calls refl)

pub ends_flush : {T E : Type 0} (r : Result T E) (old new : Disks) (which : ℕ) → new.calls ≡ on which (flush_call r) ∷ old.calls → EndsAs r old new which
ends_flush (Ok x) old new which calls = answers_one old new which Flushed calls refl
ends_flush (Err e) old new which calls = (fails_one old new which FailedFlush calls refl, fails_now old new which FailedFlush calls refl)

pub ends_next : {T E : Type 0} (r : Result T E) (may : ℕ → ℕ → List ℕ → Type 0) (old mid new : Disks) (which : ℕ) → Makes may old mid → AnswersOn old mid which → EndsAs r mid new which
    → EndsAs r old new which
ends_next (Ok x) may old mid new which makes first it = answers_more old mid new which first it
ends_next (Err e) may old mid new which makes first it = (fails_next old mid new which first it.0, fails_later may old mid new makes which it.1)

pub ends_failed : {T E : Type 0} (r : Result T E) (old new : Disks) (which : ℕ) → is_err r ≡ true → EndsAs r old new which → FailsLastOn old new which × HasFailedOn old new which
ends_failed (Ok x) old new which is it = absurd cc
ends_failed (Err e) old new which is it = it

pub ends_answered : {T E : Type 0} (r : Result T E) (old new : Disks) (which : ℕ) → is_err r ≡ false → EndsAs r old new which → AnswersOn old new which
ends_answered (Ok x) old new which is it = it
ends_answered (Err e) old new which is it = absurd cc

pub on_answered : {T E : Type 0} (r : Result T E) (P : Type 0) → is_err r ≡ false → OnOk r P → P
on_answered (Ok x) P is it = it
on_answered (Err e) P is it = absurd cc

-- ---- all disks

-- no other disk was called
abbrev pub IsAlone : ℕ → Disks → Disks → Type 0
IsAlone which old new = (other : ℕ) → ¬ (other ≡ which) → calls_on other new.calls ≡ calls_on other old.calls

pub alone_one : (old new : Disks) (which : ℕ) (call : Call) → new.calls ≡ on which call ∷ old.calls → IsAlone which old new
alone_one old new which call calls other apart = ap (calls_on other) calls ∙ calls_on-other which other call old.calls apart

pub go_none : (out : List Bool) (disks : Disks) → GoOutFailing out out disks disks
go_none out disks = record {
  count = refl;
  stay = λ which used. used;
  failed = λ which used gone. absurd (gone used);
  last = λ which used gone. absurd (gone used);
  answer = λ which used. answers_kept disks disks which refl;
}

-- the one that was called answered
pub go_kept : (out : List Bool) (old new : Disks) (which : ℕ) → IsAlone which old new → AnswersOn old new which → GoOutFailing out out old new
go_kept out old new which alone answers = record {
  count = refl;
  stay = λ d used. used;
  failed = λ d used gone. absurd (gone used);
  last = λ d used gone. absurd (gone used);
  answer = λ d used. elim (same_or_not d which) [
    | inl same ↦ let P : ℕ → Type 0 = AnswersOn old new in subst P (sym same) answers
    | inr apart ↦ answers_kept old new d (alone d apart)
  ];
}

-- it failed, and goes out
pub go_out : (out : List Bool) (old new : Disks) (which : ℕ) → InUse out which → IsAlone which old new → FailsLastOn old new which → HasFailedOn old new which
    → GoOutFailing out (slice_set out which true) old new
go_out out old new which used alone last failed =
    let put = put_out out which used in
    let later = slice_set out which true in
    let F : ℕ → Type 0 = HasFailedOn old new in
    let L : ℕ → Type 0 = FailsLastOn old new in
    let U : ℕ → Type 0 = InUse later in
    record {
      count = length-set out which true;
      stay = put.stay;
      failed = λ d was gone. elim (put.other d was) [ inl yet ↦ absurd (gone yet) | inr same ↦ subst F (sym same) failed ];
      last = λ d was gone. elim (put.other d was) [ inl yet ↦ absurd (gone yet) | inr same ↦ subst L (sym same) last ];
      answer = λ d yet. answers_kept old new d (alone d (λ same. put.here (subst U same yet)));
    }

pub go_on : (may more : ℕ → ℕ → List ℕ → Type 0) (out mid later : List Bool) (old between new : Disks) → GoOutFailing out mid old between → GoOutFailing mid later between new → Makes may old between
    → MakesOn (InUse mid) more between new → GoOutFailing out later old new
go_on may more out mid later old between new first second makes run = record {
  count = second.count ∙ first.count;
  stay = λ which used. first.stay which (second.stay which used);
  failed = λ which used gone. elim (used_or_out mid which) [
    | inl still ↦ fails_later may old between new makes which (second.failed which still gone)
    | inr already ↦ fails_before more old between new which run.makes (first.failed which used already)
  ];
  last = λ which used gone. elim (used_or_out mid which) [
    | inl still ↦ fails_next old between new which (first.answer which still) (second.last which still gone)
    | inr already ↦ fails_kept old between new which (first.last which used already) (run.alone which already)
  ];
  answer = λ which used. answers_more old between new which (first.answer which (second.stay which used)) (second.answer which used);
}
