-- Device calls that are made one after another.
use Rattle.std.proofs.Common.{◌≡◌, ⊎_elim, inl, inr, ℕ, suc, ◌+◌, ◌<◌, ◌≤◌, Bool, true, false, List, [], ◌∷◌, ◌++◌, length, Option, refl, sym, ap, ◌∙◌, subst, arith, append_assoc}
use Rattle.std.specs.Prelude.{IfErr, OnOk, nat_le, min, if◌then◌else◌, map, slice_set}
use Rattle.std.specs.List.{AllByRecursion}
use Rattle.std.proofs.lemmas.Bool.Decides.{nat_tests}
use Rattle.std.proofs.lemmas.List.{append-nil, length-append}
use Rattle.std.proofs.Common.{Result, Ok, Err, is_ok}
use Rattle.model_disk.specs.Call.{Call, Flushed, is_failed, write_call, flush_call}
use Rattle.raidz_io.proofs.Calls.{Contains-cases}
use Rattle.raidz_io.specs.Writes.{ColumnWrite}
use Rattle.model_disk.specs.Joint.{Disks, JointCall, on}
use Rattle.block_store.specs.Plans.{KeepsPlans}
use Rattle.disk_set.specs.declared.stale.GroupSpan.{GroupSpan}
use Rattle.block_store.specs.Store.{Store, Spans, GoesOut, IsOutToo, is_out, is_stale, spans_without}
use Rattle.pool_model.specs.declared.step.Phase.{Phase}
use Rattle.pool_model.specs.declared.step.Phase.TheVariants.{Slots}
use Rattle.pool_model.specs.View.{DueCall, View}
use Rattle.pool_model.specs.Flow.{counted_on}
use Rattle.pool_model.specs.Machine.{due_write}
use Rattle.pool_commit.specs.Calls.{disk_call, plan_call, fault_call, unread_call, told_since, made_between, faults_between, unread_between, GrewTo, IsWrite, IsFlushed, which_call, called_between}
use Rattle.pool_commit.specs.Calls.{DiskCall}
use Rattle.disk_set.specs.declared.behind.SlotWrite.{SlotWrite}
use Rattle.pool_commit.specs.Making.{flushes_left, slots_left, writes_left, IsFlushPhase, IsSameStore, MadeCalls, FailedCall, FlushesMove, FlushesMoveBut}

late : (m n : ℕ) → m ≤ n → nat_le m n ≡ true
late m n h = grind (arith, nat_tests)

early : (m n : ℕ) → n < m → nat_le m n ≡ false
early m n h = grind (arith, nat_tests)

pub GrewTo-none : (disks : Disks) → GrewTo disks disks
GrewTo-none disks = record { starts = refl; newer = []; calls = refl }

pub GrewTo-length : (old new : Disks) → GrewTo old new → length old.calls ≤ length new.calls
GrewTo-length old new grew = omega (arith, ap length grew.calls, length-append grew.newer old.calls)

pub GrewTo-more : (old mid new : Disks) (made : JointCall) → GrewTo old mid → new.starts ≡ mid.starts → new.calls ≡ made ∷ mid.calls → GrewTo old new
GrewTo-more old mid new made grew starts calls = record {
  starts = starts ∙ grew.starts;
  newer = made ∷ grew.newer;
  calls = calls ∙ ap (λ log. made ∷ log) grew.calls;
}

-- nothing was made since now
told_none : {A : Type 0} (tells : ℕ → Call → List A) (n : ℕ) (calls : List JointCall) → length calls ≤ n → told_since tells n calls ≡ []
told_none tells n [] le = refl
told_none tells n (made ∷ earlier) le =
    ap (λ xs. xs ++ (if nat_le n (length earlier) then tells made.which made.call else [])) (told_none tells n earlier (omega arith))
    ∙ ap (λ b. if b then tells made.which made.call else []) (early n (length earlier) (omega arith))

pub told_by_none : {A : Type 0} (tells : ℕ → Call → List A) (disks : Disks) → told_since tells (length disks.calls) disks.calls ≡ []
told_by_none tells disks = told_none tells (length disks.calls) disks.calls (omega arith)

pub made_by_none : (disks : Disks) → made_between disks disks ≡ []
made_by_none disks = told_by_none plan_call disks

-- one call more
told_more : {A : Type 0} (tells : ℕ → Call → List A) (old mid new : Disks) (disk : ℕ) (call : Call) → GrewTo old mid → new.calls ≡ on disk call ∷ mid.calls
    → told_since tells (length old.calls) new.calls ≡ told_since tells (length old.calls) mid.calls ++ tells disk call
told_more tells old mid new disk call grew calls =
    ap (told_since tells (length old.calls)) calls
    ∙ ap (λ b. told_since tells (length old.calls) mid.calls ++ (if b then tells disk call else [])) (late (length old.calls) (length mid.calls) (GrewTo-length old mid grew))

-- one call was made, which is due
pub record MadeOne (mid new : Store) (next : DueCall) (call : Call) : Type 0 where
  pub starts : new.disks.starts ≡ mid.disks.starts
  pub calls : new.disks.calls ≡ on next.disk call ∷ mid.disks.calls
  pub spaces : new.spaces ≡ mid.spaces
  pub stale : new.spans.stale ≡ mid.spans.stale
  pub plans : KeepsPlans mid new
  pub is_due : plan_call next.disk call ≡ disk_call next ∷ []
  pub fault : fault_call next.disk call ≡ (if is_failed call then disk_call next ∷ [] else [])
  pub no_read : unread_call next.disk call ≡ []

same_more : (old mid new : Store) (next : DueCall) (call : Call) → IsSameStore old mid → MadeOne mid new next call → IsSameStore old new
same_more old mid new next call same one = record {
  spaces = one.spaces ∙ same.spaces;
  grew = GrewTo-more old.disks mid.disks new.disks (on next.disk call) same.grew one.starts one.calls;
  stale = one.stale ∙ same.stale;
  plans = λ stored planned held. one.plans stored planned (same.plans stored planned held);
}

map_snoc : {A : Type 0} (f : DueCall → A) (calls : List DueCall) (call : DueCall) → map f (calls ++ call ∷ []) ≡ map f calls ++ f call ∷ []
map_snoc f [] call = refl
map_snoc f (first ∷ calls) call = ap (λ xs. f first ∷ xs) (map_snoc f calls call)

seen_so : (old mid new : Store) (next : DueCall) (call : Call) (made : List DueCall) → IsSameStore old mid → MadeOne mid new next call → map disk_call made ≡ made_between old.disks mid.disks
    → map disk_call (made ++ next ∷ []) ≡ made_between old.disks new.disks
seen_so old mid new next call made same one seen =
    map_snoc disk_call made next ∙ ap (λ xs. xs ++ disk_call next ∷ []) seen
    ∙ sym (told_more plan_call old.disks mid.disks new.disks next.disk call same.grew one.calls ∙ ap (λ xs. made_between old.disks mid.disks ++ xs) one.is_due)

unread_so : (old mid new : Store) (next : DueCall) (call : Call) → IsSameStore old mid → MadeOne mid new next call
    → unread_between old.disks mid.disks ≡ [] → unread_between old.disks new.disks ≡ []
unread_so old mid new next call same one none =
    told_more unread_call old.disks mid.disks new.disks next.disk call same.grew one.calls
    ∙ ap (λ xs. unread_between old.disks mid.disks ++ xs) one.no_read ∙ append-nil (unread_between old.disks mid.disks) ∙ none

called_so : (old mid new : Store) (next : DueCall) (call : Call) (made : List DueCall) → IsSameStore old mid → MadeOne mid new next call
    → called_between old.disks mid.disks ≡ map (λ (c : DueCall). c.disk) made
    → called_between old.disks new.disks ≡ map (λ (c : DueCall). c.disk) (made ++ next ∷ [])
called_so old mid new next call made same one before =
    told_more which_call old.disks mid.disks new.disks next.disk call same.grew one.calls
    ∙ ap (λ xs. xs ++ next.disk ∷ []) before
    ∙ sym (map_snoc (λ (c : DueCall). c.disk) made next)

pub none_made : (store : Store) (left : List DueCall) (phase : Phase) → MadeCalls store store left left phase 0
none_made store left phase = record {
  same = record { spaces = refl; grew = GrewTo-none store.disks; stale = refl; plans = λ stored planned held. held };
  out = refl;
  made = [];
  seen = sym (made_by_none store.disks);
  order = refl;
  count = refl;
  in_phase = tt;
  faults = told_by_none fault_call store.disks;
  unread = told_by_none unread_call store.disks;
  called = told_by_none which_call store.disks;
}

all_more : (P : DueCall → Type 0) (xs : List DueCall) (x : DueCall) → AllByRecursion P xs → P x → AllByRecursion P (xs ++ x ∷ [])
all_more P [] x all p = (p, tt)
all_more P (y ∷ ys) x all p = (all.0, all_more P ys x all.1 p)

pub one_made : (old mid new : Store) (left rest : List DueCall) (phase : Phase) (n : ℕ) (next : DueCall) (call : Call)
    → MadeCalls old mid left (next ∷ rest) phase n → MadeOne mid new next call → next.phase ≡ phase → is_failed call ≡ false → new.out ≡ mid.out
    → MadeCalls old new left rest phase (n + 1)
one_made old mid new left rest phase n next call so one in_it ok out = record {
  same = same_more old mid new next call so.same one;
  out = out ∙ so.out;
  made = so.made ++ next ∷ [];
  seen = seen_so old mid new next call so.made so.same one so.seen;
  order = so.order ∙ sym (append_assoc so.made (next ∷ []) rest);
  count = length-append so.made (next ∷ []) ∙ ap (λ k. k + 1) so.count;
  in_phase = all_more (λ (c : DueCall). c.phase ≡ phase) so.made next so.in_phase in_it;
  faults = told_more fault_call old.disks mid.disks new.disks next.disk call so.same.grew one.calls
      ∙ ap (λ xs. faults_between old.disks mid.disks ++ xs) (one.fault ∙ ap (λ b. if b then disk_call next ∷ [] else []) ok) ∙ append-nil (faults_between old.disks mid.disks) ∙ so.faults;
  unread = unread_so old mid new next call so.same one so.unread;
  called = called_so old mid new next call so.made so.same one so.called;
}

pub one_failed : (old mid new : Store) (left rest : List DueCall) (phase : Phase) (n : ℕ) (next : DueCall) (call : Call)
    → MadeCalls old mid left (next ∷ rest) phase n → n < 4 → MadeOne mid new next call → next.phase ≡ phase → is_failed call ≡ true → IsOutToo mid.out next.disk new.out
    → FailedCall old new left phase next.disk
one_failed old mid new left rest phase n next call so few one in_it failed out = record {
  same = same_more old mid new next call so.same one;
  out = subst (λ (o : List Bool). IsOutToo o next.disk new.out) so.out out;
  made = so.made ++ next ∷ [];
  before = so.made;
  call = next;
  rest = rest;
  seen = seen_so old mid new next call so.made so.same one so.seen;
  last = refl;
  on = refl;
  order = so.order ∙ sym (append_assoc so.made (next ∷ []) rest);
  few = let count : length (so.made ++ next ∷ []) ≡ n + 1 = length-append so.made (next ∷ []) ∙ ap (λ k. k + 1) so.count in omega (arith, count, few);
  in_phase = all_more (λ (c : DueCall). c.phase ≡ phase) so.made next so.in_phase in_it;
  faults = told_more fault_call old.disks mid.disks new.disks next.disk call so.same.grew one.calls
      ∙ ap (λ xs. faults_between old.disks mid.disks ++ xs) (one.fault ∙ ap (λ b. if b then disk_call next ∷ [] else []) failed) ∙ ap (λ xs. xs ++ disk_call next ∷ []) so.faults;
  unread = unread_so old mid new next call so.same one so.unread;
  called = called_so old mid new next call so.made so.same one so.called;
}

-- the same, with what is left behind it
pub one_failed_before : (old mid new : Store) (left rest : List DueCall) (phase : Phase) (n : ℕ) (next : DueCall) (call : Call)
    → MadeCalls old mid left (next ∷ rest) phase n → n < 4 → MadeOne mid new next call → next.phase ≡ phase → is_failed call ≡ true → IsOutToo mid.out next.disk new.out
    → (failed : FailedCall old new left phase next.disk) × (failed.rest ≡ rest)
unfolding one_failed
one_failed_before old mid new left rest phase n next call so few one in_it failed out = (one_failed old mid new left rest phase n next call so few one in_it failed out, refl)

-- ---- which groups disks missed

without_stale : (out : List Bool) (spans : Spans) (disk : ℕ) → (spans_without out spans disk).stale ≡ spans.stale
without_stale out spans disk = cases (is_out out disk)
  where
    cases : (was : Bool) → (if was then spans else record spans { since = slice_set spans.since disk spans.group }).stale ≡ spans.stale
    cases true = refl
    cases false = refl

-- a disk goes out
pub gone_stale : (old : Store) (disk : ℕ) (new : Store) → GoesOut old disk new → new.spans.stale ≡ old.spans.stale
gone_stale old disk new gone = ap (λ (s : Spans). s.stale) gone ∙ without_stale old.out old.spans disk

-- a call was made, and where it failed its disk is out
pub call_stale : {T E : Type 0} (result : Result T E) (of : E → ℕ) (old new : Store) → OnOk result (new.spans ≡ old.spans) → IfErr result (λ failed. GoesOut old (of failed) new)
    → new.spans.stale ≡ old.spans.stale
call_stale (Ok x) of old new same gone = ap (λ (s : Spans). s.stale) same
call_stale (Err failed) of old new same gone = gone_stale old (of failed) new gone

-- where the same disks missed the same groups the view is right of them
pub stale_still : (old new : Store) (v : View) → new.spans.stale ≡ old.spans.stale → ((disk birth : ℕ) → v.stale disk birth ≡ is_stale old.spans.stale disk birth)
    → (disk birth : ℕ) → v.stale disk birth ≡ is_stale new.spans.stale disk birth
stale_still old new v same is disk birth = is disk birth ∙ ap (λ (them : List (Option GroupSpan)). is_stale them disk birth) (sym same)

-- ---- a write and a flush

pub write_made : {T E : Type 0} (result : Result T E) (mid new : Store) (write : ColumnWrite) (number : ℕ) → is_ok result ≡ true
    → new.disks.starts ≡ mid.disks.starts → new.spaces ≡ mid.spaces → new.spans.stale ≡ mid.spans.stale → KeepsPlans mid new
    → new.disks.calls ≡ on write.disk (write_call result write.offset write.bytes) ∷ mid.disks.calls
    → MadeOne mid new (due_write write.disk number) (write_call result write.offset write.bytes) × (is_failed (write_call result write.offset write.bytes) ≡ false)
write_made (Ok x) mid new write number ok starts spaces stale plans calls = (record { starts = starts; calls = calls; spaces = spaces; stale = stale; plans = plans; is_due = refl; fault = refl; no_read = refl }, refl)
write_made (Err x) mid new write number ok starts spaces stale plans calls = absurd (cc)

pub write_lost : {T E : Type 0} (result : Result T E) (mid new : Store) (write : ColumnWrite) (number : ℕ) → is_ok result ≡ false
    → new.disks.starts ≡ mid.disks.starts → new.spaces ≡ mid.spaces → new.spans.stale ≡ mid.spans.stale → KeepsPlans mid new
    → new.disks.calls ≡ on write.disk (write_call result write.offset write.bytes) ∷ mid.disks.calls
    → MadeOne mid new (due_write write.disk number) (write_call result write.offset write.bytes) × (is_failed (write_call result write.offset write.bytes) ≡ true)
write_lost (Err x) mid new write number ok starts spaces stale plans calls = (record { starts = starts; calls = calls; spaces = spaces; stale = stale; plans = plans; is_due = refl; fault = refl; no_read = refl }, refl)
write_lost (Ok x) mid new write number ok starts spaces stale plans calls = absurd (cc)

-- a flush of either phase
abbrev pub flush_due : Phase → ℕ → DueCall
flush_due phase disk = record { disk = disk; phase = phase; number = 0 }

abbrev with_flush : ℕ → Bool → DiskCall
with_flush disk b = record { disk = disk; flushes = b }

as_flush : (phase : Phase) (disk : ℕ) → IsFlushPhase phase → plan_call disk Flushed ≡ disk_call (flush_due phase disk) ∷ []
as_flush phase disk flushes = ap (λ (b : Bool). with_flush disk b ∷ []) (sym (flushes disk 0))

pub flush_made : {T E : Type 0} (result : Result T E) (mid new : Store) (phase : Phase) (disk : ℕ) → IsFlushPhase phase → is_ok result ≡ true
    → new.disks.starts ≡ mid.disks.starts → new.spaces ≡ mid.spaces → new.spans.stale ≡ mid.spans.stale → KeepsPlans mid new
    → new.disks.calls ≡ on disk (flush_call result) ∷ mid.disks.calls
    → MadeOne mid new (flush_due phase disk) (flush_call result) × (is_failed (flush_call result) ≡ false)
flush_made (Ok x) mid new phase disk flushes ok starts spaces stale plans calls =
    (record { starts = starts; calls = calls; spaces = spaces; stale = stale; plans = plans; is_due = as_flush phase disk flushes; fault = refl; no_read = refl }, refl)
flush_made (Err x) mid new phase disk flushes ok starts spaces stale plans calls = absurd (cc)

pub flush_lost : {T E : Type 0} (result : Result T E) (mid new : Store) (phase : Phase) (disk : ℕ) → IsFlushPhase phase → is_ok result ≡ false
    → new.disks.starts ≡ mid.disks.starts → new.spaces ≡ mid.spaces → new.spans.stale ≡ mid.spans.stale → KeepsPlans mid new
    → new.disks.calls ≡ on disk (flush_call result) ∷ mid.disks.calls
    → MadeOne mid new (flush_due phase disk) (flush_call result) × (is_failed (flush_call result) ≡ true)
flush_lost (Err x) mid new phase disk flushes ok starts spaces stale plans calls =
    (record { starts = starts; calls = calls; spaces = spaces; stale = stale; plans = plans; is_due = as_flush phase disk flushes; fault = as_flush phase disk flushes; no_read = refl }, refl)
flush_lost (Ok x) mid new phase disk flushes ok starts spaces stale plans calls = absurd (cc)

-- ---- how many

pub below_four : (count end n : ℕ) → end ≡ min count 4 → n < end → (n < count) × (n < 4)
below_four count end n e lt = (grind (arith, nat_tests, e, lt), grind (arith, nat_tests, e, lt))

-- while fewer were made than were left, some are left
pub left_some : (left made rest : List DueCall) (n : ℕ) → left ≡ made ++ rest → length made ≡ n → n < length left → 0 < length rest
left_some left made rest n order count below = omega (arith, ap length order, length-append made rest, count, below)

pub err_is : {T E : Type 0} (result : Result T E) (failed : E) (P : E → Type 0) → result ≡ Err failed → IfErr result P → P failed
err_is result failed P is there = subst (λ r. IfErr r P) is there

pub writes_count : (counts : ℕ → ℕ) (writes : List ColumnWrite) → length (writes_left counts writes) ≡ length writes
writes_count counts [] = refl
writes_count counts (write ∷ writes) = ap suc (writes_count (counted_on counts write.disk) writes)

-- ---- disks that are flushed

-- a call that is no write to the disk leaves it flushed
pub flushed_more : (mid new : Disks) (which disk : ℕ) (call : Call) → new.calls ≡ on which call ∷ mid.calls → ¬ IsWrite call → IsFlushed mid disk → IsFlushed new disk
flushed_more mid new which disk call calls no_write is = record {
  newer = on which call ∷ is.newer;
  older = is.older;
  calls = calls ∙ ap (λ log. on which call ∷ log) is.calls;
  none = (λ same. no_write, is.none);
}

pub flush_is_no_write : {T E : Type 0} (result : Result T E) → ¬ IsWrite (flush_call result)
flush_is_no_write (Ok x) is = is
flush_is_no_write (Err e) is = is

pub flushed_now : {T E : Type 0} (result : Result T E) (mid new : Disks) (disk : ℕ) → is_ok result ≡ true → new.calls ≡ on disk (flush_call result) ∷ mid.calls → IsFlushed new disk
flushed_now (Ok x) mid new disk ok calls = record { newer = []; older = mid.calls; calls = calls; none = tt }
flushed_now (Err e) mid new disk ok calls = absurd (cc)

pub no_flushes : (store : Store) (flushes : List ℕ) → FlushesMove store store flushes flushes
no_flushes store flushes = record { flushed = λ disk held. inl held; stays = λ disk is. is }

-- one of the disks is flushed
pub one_flushed : {T E : Type 0} (result : Result T E) (old mid new : Store) (flushes rest : List ℕ) (disk : ℕ) → is_ok result ≡ true
    → new.disks.calls ≡ on disk (flush_call result) ∷ mid.disks.calls → FlushesMove old mid flushes (disk ∷ rest) → FlushesMove old new flushes rest
one_flushed result old mid new flushes rest disk ok calls move = record {
  flushed = λ other held. ⊎_elim
      (λ left. ⊎_elim (λ same. inr (subst (λ d. IsFlushed new.disks d) (sym same) (flushed_now result mid.disks new.disks disk ok calls))) inl (Contains-cases disk rest other left))
      (λ is. inr (flushed_more mid.disks new.disks disk other (flush_call result) calls (flush_is_no_write result) is)) (move.flushed other held);
  stays = λ other is. flushed_more mid.disks new.disks disk other (flush_call result) calls (flush_is_no_write result) (move.stays other is);
}

-- the flush of one of them fails: the others are to be flushed, or are, as they were
pub one_flushed_but : {T E : Type 0} (result : Result T E) (old mid new : Store) (flushes rest : List ℕ) (disk : ℕ)
    → new.disks.calls ≡ on disk (flush_call result) ∷ mid.disks.calls → FlushesMove old mid flushes (disk ∷ rest) → FlushesMoveBut disk old new flushes rest
one_flushed_but result old mid new flushes rest disk calls move = record {
  flushed = λ other apart held. ⊎_elim
      (λ left. ⊎_elim (λ same. absurd (apart same)) inl (Contains-cases disk rest other left))
      (λ is. inr (flushed_more mid.disks new.disks disk other (flush_call result) calls (flush_is_no_write result) is)) (move.flushed other held);
  stays = λ other is. flushed_more mid.disks new.disks disk other (flush_call result) calls (flush_is_no_write result) (move.stays other is);
}

-- ---- as many calls as there are slots and flushes

pub slots_count : (counts : ℕ → ℕ) (slots : List SlotWrite) → length (slots_left counts slots) ≡ length slots
slots_count counts [] = refl
slots_count counts (write ∷ slots) = ap suc (slots_count (counted_on counts write.disk) slots)

flushes_count : (phase : Phase) (flushes : List ℕ) → length (flushes_left phase flushes) ≡ length flushes
flushes_count phase [] = refl
flushes_count phase (disk ∷ flushes) = ap suc (flushes_count phase flushes)

-- while fewer were made some are left
pub some_to_flush : (store mid : Store) (phase : Phase) (flushes rest : List ℕ) (n : ℕ) → MadeCalls store mid (flushes_left phase flushes) (flushes_left phase rest) phase n
    → n < length flushes → 0 < length rest
some_to_flush store mid phase flushes rest n so less =
    omega (arith, left_some (flushes_left phase flushes) so.made (flushes_left phase rest) n so.order so.count (omega (arith, less, flushes_count phase flushes)), flushes_count phase rest)

pub some_to_write : (store mid : Store) (counts later : ℕ → ℕ) (slots rest : List SlotWrite) (n : ℕ) → MadeCalls store mid (slots_left counts slots) (slots_left later rest) Slots n
    → n < length slots → 0 < length rest
some_to_write store mid counts later slots rest n so less =
    omega (arith, left_some (slots_left counts slots) so.made (slots_left later rest) n so.order so.count (omega (arith, less, slots_count counts slots)), slots_count later rest)
