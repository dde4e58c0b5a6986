-- Disks that go out as reads of them fail.
use Rattle.std.proofs.Common.{◌≡◌, ◌⊎◌, inl, inr, ◌≤◌, ◌∙◌, ℕ, zero, suc, Bool, true, false, List, [], ◌∷◌, length, slice_set, get_or, Option, Some, None, Contains, refl, sym, ap, subst, arith}
use Rattle.std.proofs.lemmas.List.Elements.{All-weaker}
use Rattle.model_disk.specs.Joint.{JointCall, Disks, failed_since}
use Rattle.model_disk.specs.Runs.{Makes, no_write}
use Rattle.model_disk.proofs.FailureLemmas.{kept_through}
use Rattle.uberblock_ring.specs.declared.uberblock.Uberblock.{Uberblock}
use Rattle.pool_slots.specs.Failures.{HasFailedOn}
use Rattle.pool_slots.specs.Opens.{IsFoundOn, IsHighestShown}
use Rattle.pool_slots.specs.Present.{GoOut, IsNoFault, is_out}
use Rattle.pool_slots.specs.Reads.{IsReadOf, OnlyReads, nowhere, is_fault}
use Rattle.pool_slots.specs.Slots.{InUse}
use Rattle.pool_slots.specs.Surveys.{Surveyed, IsSurveyed, HasNone, SurveyRefuses}
use Rattle.pool_slots.specs.declared.found.Found.{Found}
use Rattle.pool_slots.specs.declared.refusal.Refusal.{Refusal}
use Rattle.pool_slots.specs.declared.refusal.Refusal.TheVariants.{NoMemory, DiskFault, NoUberblock, NoLabel, UsedUp}
use Rattle.pool_slots.proofs.BackReads.{read_earlier, shown_later}
use Rattle.pool_slots.proofs.Failing.{fails_later}
use Rattle.pool_slots.proofs.Finding.{bare_at_first, highest_at_first, honest_since, known_later}
use Rattle.pool_slots.proofs.Phases.{both_made}
use Rattle.pool_slots.proofs.ReadRuns.{reads_made, reads_more, reads_none, reads_wider}
use Rattle.pool_slots.proofs.Reading.{longer}
use Rattle.pool_slots.proofs.SurveySteps.{lacks_earlier, planned_earlier, used_up_earlier}

-- ---- one more disk is out

some_bool : (a b : Bool) → Some a ≡ Some b → a ≡ b
some_bool a b e = cc

not_false : Some true ≡ Some false → ⊥
not_false e = let same : true ≡ false = some_bool true false e in cc

-- how many are out
abbrev pub outs : List Bool → ℕ
outs [] = 0
outs (true ∷ xs) = suc (outs xs)
outs (false ∷ xs) = outs xs

outs_few : (xs : List Bool) → outs xs ≤ length xs
outs_few [] = omega arith
outs_few (true ∷ xs) = omega (arith, outs_few xs)
outs_few (false ∷ xs) = omega (arith, outs_few xs)

-- it is out, and no other
pub record IsPutOut (xs : List Bool) (disk : ℕ) (ys : List Bool) : Type 0 where
  pub stay : (which : ℕ) → InUse ys which → InUse xs which
  pub here : ¬ InUse ys disk
  pub other : (which : ℕ) → InUse xs which → InUse ys which ⊎ (which ≡ disk)
  pub more : outs ys ≡ suc (outs xs)

stay_first : (xs : List Bool) (which : ℕ) → InUse (true ∷ xs) which → InUse (false ∷ xs) which
stay_first xs zero it = absurd (not_false it)
stay_first xs (suc i) it = it

other_first : (xs : List Bool) (which : ℕ) → InUse (false ∷ xs) which → InUse (true ∷ xs) which ⊎ (which ≡ 0)
other_first xs zero it = inr refl
other_first xs (suc i) it = inl it

stay_next : (x : Bool) (xs ys : List Bool) (which : ℕ) → ((i : ℕ) → InUse ys i → InUse xs i) → InUse (x ∷ ys) which → InUse (x ∷ xs) which
stay_next x xs ys zero stay it = it
stay_next x xs ys (suc i) stay it = stay i it

other_next : (x : Bool) (xs ys : List Bool) (disk which : ℕ) → ((i : ℕ) → InUse xs i → InUse ys i ⊎ (i ≡ disk)) → InUse (x ∷ xs) which → InUse (x ∷ ys) which ⊎ (which ≡ suc disk)
other_next x xs ys disk zero other it = inl it
other_next x xs ys disk (suc i) other it = elim (other i it) [ inl still ↦ inl still | inr same ↦ inr (ap suc same) ]

more_next : (x : Bool) (xs ys : List Bool) → outs ys ≡ suc (outs xs) → outs (x ∷ ys) ≡ suc (outs (x ∷ xs))
more_next true xs ys more = ap suc more
more_next false xs ys more = more

pub put_out : (xs : List Bool) (disk : ℕ) → InUse xs disk → IsPutOut xs disk (slice_set xs disk true)
put_out [] disk used = absurd cc
put_out (true ∷ xs) zero used = absurd (not_false used)
put_out (false ∷ xs) zero used = record { stay = stay_first xs; here = not_false; other = other_first xs; more = refl }
put_out (x ∷ xs) (suc i) used =
    let ys = slice_set xs i true in
    let rest = put_out xs i used in
    record {
      stay = λ which it. stay_next x xs ys which rest.stay it;
      here = rest.here;
      other = λ which it. other_next x xs ys i which rest.other it;
      more = more_next x xs ys rest.more;
    }

used_or_out : (xs : List Bool) (which : ℕ) → InUse xs which ⊎ ¬ InUse xs which
used_or_out [] which = inr (λ e. absurd cc)
used_or_out (false ∷ xs) zero = inl refl
used_or_out (true ∷ xs) zero = inr not_false
used_or_out (x ∷ xs) (suc i) = used_or_out xs i

-- where as many are out as there are
pub all_out : (xs : List Bool) (which : ℕ) → length xs ≤ outs xs → ¬ InUse xs which
all_out [] which many used = absurd cc
all_out (false ∷ xs) which many used = omega (arith, many, outs_few xs)
all_out (true ∷ xs) zero many used = not_false used
all_out (true ∷ xs) (suc i) many used = all_out xs i (omega (arith, many)) used

-- ---- which went out

pub fails_before : (may : ℕ → ℕ → List ℕ → Type 0) (old mid new : Disks) (disk : ℕ) → Makes may mid new → HasFailedOn old mid disk → HasFailedOn old new disk
fails_before may old mid new disk makes failed =
    let P : List JointCall → Type 0 = λ them. Contains (failed_since (length old.calls) them) disk in
    subst P (sym makes.calls) (kept_through (length old.calls) makes.newer mid.calls disk failed)

fault_same : (refusal : Refusal) (a b : ℕ) → is_fault refusal a → is_fault refusal b → a ≡ b
fault_same NoMemory a b first second = absurd first
fault_same (DiskFault d) a b first second = first ∙ sym second
fault_same NoUberblock a b first second = absurd first
fault_same NoLabel a b first second = absurd first
fault_same UsedUp a b first second = absurd first

-- the disk that a refusal names was in use, and failed
pub fault_seen : (out : List Bool) (rewind : ℕ) (old new : Disks) (refusal : Refusal) (disk : ℕ) → SurveyRefuses out rewind old new refusal → is_fault refusal disk
    → InUse out disk × HasFailedOn old new disk
fault_seen out rewind old new NoMemory disk refuses fault = absurd fault
fault_seen out rewind old new (DiskFault d) disk refuses fault =
    let P : ℕ → Type 0 = λ which. InUse out which × HasFailedOn old new which in
    subst P (sym fault) refuses
fault_seen out rewind old new NoUberblock disk refuses fault = absurd fault
fault_seen out rewind old new NoLabel disk refuses fault = absurd fault
fault_seen out rewind old new UsedUp disk refuses fault = absurd fault

pub go_none : (out : List Bool) (disks : Disks) → GoOut out out disks disks
go_none out disks = record { stay = λ which it. it; only = reads_none (InUse out) (is_out out) disks; failed = λ which used gone. absurd (gone used) }

pub go_on : (out later : List Bool) (old mid new : Disks) (refusal : Refusal) (disk : ℕ) → GoOut out later old mid → OnlyReads (InUse later) (is_fault refusal) mid new → is_fault refusal disk
    → InUse later disk × HasFailedOn mid new disk → GoOut out (slice_set later disk true) old new
go_on out later old mid new refusal disk first only fault seen =
    let ys = slice_set later disk true in
    let put : IsPutOut later disk ys = put_out later disk seen.0 in
    let I : ℕ → Type 0 = InUse ys in
    let F : ℕ → Type 0 = HasFailedOn mid new in
    record {
      stay = λ which it. first.stay which (put.stay which it);
      only = reads_more (InUse out) (is_out ys) old mid new
          (reads_wider (InUse out) (InUse out) (is_out later) (is_out ys) old mid (λ which it. it) (λ which gone it. gone (put.stay which it)) first.only)
          (reads_wider (InUse later) (InUse out) (is_fault refusal) (is_out ys) mid new first.stay (λ which failed it. put.here (subst I (fault_same refusal which disk failed fault) it)) only);
      failed = λ which used gone. elim (used_or_out later which) [
        | inl still ↦ elim (put.other which still) [
          | inl yet ↦ absurd (gone yet)
          | inr same ↦ fails_later no_write old mid new (reads_made first.only) which (subst F (sym same) seen.1)
        ]
        | inr already ↦ fails_before no_write old mid new which (reads_made only) (first.failed which used already)
      ];
    }

-- the last survey, in which nothing failed
pub go_last : (out later : List Bool) (old mid new : Disks) → GoOut out later old mid → OnlyReads (InUse later) nowhere mid new → GoOut out later old new
go_last out later old mid new first only =
    record {
      stay = first.stay;
      only = reads_more (InUse out) (is_out later) old mid new first.only (reads_wider (InUse later) (InUse out) nowhere (is_out later) mid new first.stay (λ which none. absurd none) only);
      failed = λ which used gone. fails_before no_write old mid new which (reads_made only) (first.failed which used gone);
    }

pub no_fault_reads : (used : ℕ → Type 0) (refusal : Refusal) (old new : Disks) → IsNoFault refusal → OnlyReads used (is_fault refusal) old new → OnlyReads used nowhere old new
no_fault_reads used refusal old new none only = reads_wider used used (is_fault refusal) nowhere old new (λ which it. it) none only

-- where no disk is in use nothing is called
pub none_used_reads : (used faulty : ℕ → Type 0) (old new : Disks) → ((which : ℕ) → ¬ used which) → OnlyReads used faulty old new → OnlyReads used nowhere old new
none_used_reads used faulty old new none only =
    record {
      starts = only.starts;
      newer = only.newer;
      calls = only.calls;
      reads = All-weaker (IsReadOf used faulty) (IsReadOf used nowhere) (λ made it. absurd (none made.which it.0)) only.newer only.reads;
    }

-- ---- what is said of disks as they were earlier

found_earlier : (out : List Bool) (old new : Disks) (which : ℕ) (found : Option Found) → Makes no_write old new → IsFoundOn out new which found → IsFoundOn out old which found
found_earlier out old new which None makes it = λ used. bare_at_first old new which makes (it used)
found_earlier out old new which (Some found) makes it = (it.0, highest_at_first old new which found makes it.1)

pub surveyed_earlier : (out : List Bool) (rewind : ℕ) (old mid new : Disks) (s : Surveyed) → Makes no_write old mid → IsSurveyed out rewind mid new s → IsSurveyed out rewind old new s
surveyed_earlier out rewind old mid new s makes it =
    record {
      unwritten = both_made no_write old mid new makes it.unwritten;
      says = λ known honest.
          let says = it.says (known_later out old mid makes known) (honest_since (length old.calls) (length mid.calls) new (longer old mid no_write makes) honest) in
          record {
            found = λ which. found_earlier out old mid which (get_or s.found which None) makes (says.found which);
            highest = says.highest;
            taken = read_earlier out old mid s.taken makes says.taken;
            rewound = says.rewound;
            claimed = says.claimed;
            planned = planned_earlier out old mid s.highest s.claimed s.areas makes says.planned;
          };
    }

top_earlier : (out : List Bool) (old new : Disks) (u : Uberblock) → Makes no_write old new → IsHighestShown out new u → IsHighestShown out old u
top_earlier out old new u makes top = record { shown = read_earlier out old new u makes top.shown; greatest = λ v shown. top.greatest v (shown_later out old new v makes shown) }

none_earlier : (out : List Bool) (rewind : ℕ) (old new : Disks) → Makes no_write old new → HasNone out new rewind → HasNone out old rewind
none_earlier out rewind old new makes (inl bare) = inl (λ u shown. bare u (shown_later out old new u makes shown))
none_earlier out rewind old new makes (inr it) =
    inr (
      it.0,
      record { highest = it.1.highest; top = top_earlier out old new it.1.highest makes it.1.top; none = λ v shown. it.1.none v (shown_later out old new v makes shown) },
    )

pub refuses_earlier : (out : List Bool) (rewind : ℕ) (old mid new : Disks) (refusal : Refusal) → Makes no_write old mid → SurveyRefuses out rewind mid new refusal → SurveyRefuses out rewind old new refusal
refuses_earlier out rewind old mid new NoMemory makes it = tt
refuses_earlier out rewind old mid new (DiskFault d) makes it = (it.0, fails_later no_write old mid new makes d it.1)
refuses_earlier out rewind old mid new NoUberblock makes it = λ known honest.
    none_earlier out rewind old mid makes (it (known_later out old mid makes known) (honest_since (length old.calls) (length mid.calls) new (longer old mid no_write makes) honest))
refuses_earlier out rewind old mid new NoLabel makes it = λ known honest.
    let found = it (known_later out old mid makes known) (honest_since (length old.calls) (length mid.calls) new (longer old mid no_write makes) honest) in
    let u = found.0 in (
      u,
      record {
        highest = found.1.highest;
        top = top_earlier out old mid found.1.highest makes found.1.top;
        shown = read_earlier out old mid u makes found.1.shown;
        rewound = found.1.rewound;
      },
      lacks_earlier out old mid u.config_digest makes found.2,
    )
refuses_earlier out rewind old mid new UsedUp makes it = λ known honest.
    let found = it (known_later out old mid makes known) (honest_since (length old.calls) (length mid.calls) new (longer old mid no_write makes) honest) in
    (found.0, top_earlier out old mid found.0 makes found.1, used_up_earlier out old mid found.0 makes found.2)
