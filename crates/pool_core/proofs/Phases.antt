-- Plans and device calls as steps of the machine.
use Rattle.std.proofs.Common.{◌≡◌, ◌⊎◌, ⊎_elim, ℕ, suc, ◌+◌, ◌≤◌, ◌<◌, ◌^◌, Bool, true, false, true≢false, List, [], ◌∷◌, ◌++◌, length, Option, Some, None, refl, sym, ap, ◌∙◌, subst, arith, inl, inr}
use Rattle.std.specs.Prelude.{◌&&◌, ◌||◌, min, is_some, not, nat_le, if◌then◌else◌, ◌==◌, map, Contains}
use Rattle.std.proofs.lemmas.List.{append-nil, length-append}
use Rattle.std.proofs.lemmas.Bool.Decides.{nat_tests}
use Rattle.model_disk.specs.Call.{Call, Read, FailedRead, Wrote, FailedWrite, Flushed, FailedFlush}
use Rattle.model_disk.specs.Joint.{Disks, JointCall, calls_on}
use Rattle.raidz_io.specs.Reads.{IsRead, AreReads, OnlyReads, AreUntouched}
use Rattle.pool_model.specs.declared.refusal.Refusal.TheVariants as causes
use Rattle.pool_model.specs.declared.refusal.Refusal.{Refusal as Cause}
use Rattle.pool_model.specs.declared.step.Phase.{Phase}
use Rattle.pool_model.specs.declared.step.Step.{Step}
use Rattle.pool_model.specs.declared.step.Step.TheVariants.{Plan, Device}
use Rattle.pool_model.specs.declared.step.Reply.{Reply}
use Rattle.pool_model.specs.declared.step.Reply.TheVariants.{Planned, Moved, Replan, Committed, Refused}
use Rattle.pool_model.specs.View.{View, Loss, Given, DueCall, is_away, nothing_given, Sync, Idle, Unplanned, Due, is_syncing, is_planned, is_quiesced, is_suspended, open_after}
use Rattle.pool_model.specs.Pools.{Entry, PlainPool}
use Rattle.pool_model.specs.Flow.{flow_of, with_committed}
use Rattle.pool_model.specs.Refusals.{greatest, first_cause, refusal_of}
use Rattle.pool_model.specs.Machine.{StepOf, IsPlan, IsQuiet, FailsOn, GoesOn, Ends, IsUnreadable, taken, committed_next, without_plan, dropped}
use Rattle.pool_model.proofs.Answering.{takes_due, syncs_without_plan}
use Rattle.pool_model.proofs.Plans.{nothing_quiet}
use Rattle.pool_model.proofs.Uptos.{upto_base}
use Rattle.volume_rules.specs.Effects.{GroupTakesEffect, PendingTakeEffect}
use Rattle.pool_intake.specs.declared.intake.Intake.{Intake}
use Rattle.pool_intake.specs.Follows.{Follows}
use Rattle.pool_intake.proofs.Stepping.{followed}
use Rattle.pool_commit.specs.declared.device.Progress.TheVariants as progress
use Rattle.pool_commit.specs.declared.kept.Planned.{Planned as PlannedGroup}
use Rattle.pool_commit.specs.Backs.{Backs, IsPlanOf, IsReachOfPlan}
use Rattle.pool_commit.specs.Calls.{disk_call, plan_call, fault_call, unread_call, told_since, made_between, faults_between, unread_between, GrewTo, which_call, called_between}
use Rattle.pool_commit.specs.Progress.{AreMade, Progresses, EndsWell, fault_list, given_calls}
use Rattle.pool_commit.specs.Reading.{IsLostUnder, IsLostForPlan, PoolAnswersTell}
use Rattle.pool_commit.specs.Room.{LacksRoom}
use Rattle.pool_commit.specs.State.{State}
use Rattle.pool_commit.proofs.Made.{told_by_none}
use Rattle.block_store.specs.Store.{outs}
use Rattle.block_store.proofs.Outs.{out_is_in}
use Rattle.raidz_io.proofs.Calls.{Contains-front, Contains-cases, Contains-none}
use Rattle.std.proofs.lemmas.List.Elements.{Contains-append_left, Contains-append_right}
use Rattle.std.specs.List.{AllByRecursion}
use Rattle.pool_commit.specs.declared.refusal.Refusal.{Refusal}
use Rattle.pool_commit.specs.declared.refusal.Refusal.TheVariants.{NoMemory, DiskFault, NoSpace, BadPointer, BadDigest}
use Rattle.pool_commit.specs.Causes.{cause_of}
use Rattle.pool_core.specs.Reading.{LosesUnder, LosesForPlan}
use Rattle.pool_core.specs.Represents.{Represents}
use Rattle.pool_core.specs.State.{CoreState, disks_of}
use Rattle.pool_core.specs.Steps.{AwayIsUntouched, AreFlushed, ShowsGroup, LosesBlock, FindsNoRoom, IsGiven, Goes}
use Rattle.pool_core.proofs.Fronting.{nothing_is_given}

-- ---- reads are no calls of a plan

tells_none : {A : Type 0} (tells : ℕ → Call → List A) (n : ℕ) (newer calls : List JointCall) → ((disk : ℕ) (call : Call) → IsRead call → tells disk call ≡ []) → AreReads newer
    → told_since tells n (newer ++ calls) ≡ told_since tells n calls
tells_none tells n [] calls none are = refl
tells_none tells n (made ∷ newer) calls none are =
    ap (λ xs. told_since tells n (newer ++ calls) ++ (if nat_le n (length (newer ++ calls)) then xs else [])) (none made.which made.call are.0)
    ∙ none_more (nat_le n (length (newer ++ calls))) (told_since tells n (newer ++ calls)) ∙ tells_none tells n newer calls none are.1
  where
    none_more : {A : Type 0} (b : Bool) (xs : List A) → xs ++ (if b then [] else []) ≡ xs
    none_more true xs = append-nil xs
    none_more false xs = append-nil xs

not_due : (disk : ℕ) (call : Call) → IsRead call → plan_call disk call ≡ []
not_due disk (Read at bytes) is = refl
not_due disk (FailedRead at n) is = refl
not_due disk (Wrote at bytes) is = absurd is
not_due disk (FailedWrite at bytes) is = absurd is
not_due disk Flushed is = absurd is
not_due disk FailedFlush is = absurd is

no_fault : (disk : ℕ) (call : Call) → IsRead call → fault_call disk call ≡ []
no_fault disk (Read at bytes) is = refl
no_fault disk (FailedRead at n) is = refl
no_fault disk (Wrote at bytes) is = absurd is
no_fault disk (FailedWrite at bytes) is = absurd is
no_fault disk Flushed is = absurd is
no_fault disk FailedFlush is = absurd is

told_by_reads : {A : Type 0} (tells : ℕ → Call → List A) (old new : Disks) → ((disk : ℕ) (call : Call) → IsRead call → tells disk call ≡ []) → OnlyReads old new
    → told_since tells (length old.calls) new.calls ≡ []
told_by_reads tells old new none reads =
    ap (told_since tells (length old.calls)) reads.calls ∙ tells_none tells (length old.calls) reads.newer old.calls none reads.are_reads ∙ told_by_none tells old

pub reads_grow : (old new : Disks) → OnlyReads old new → GrewTo old new
reads_grow old new reads = record { starts = reads.starts; newer = reads.newer; calls = reads.calls }

-- where nothing was done but reads
abbrev pub given_by_reads : CoreState → CoreState → Option Loss → Bool → Bool → Given
given_by_reads old new lost trusted full =
    record { made = []; fault = None; unread = unread_between (disks_of old) (disks_of new); lost = lost; trusted = trusted; full = full }

pub reads_are_given : (old : CoreState) (v : View) (step : Step) (new : CoreState) (lost : Option Loss) (trusted full : Bool) → OnlyReads (disks_of old) (disks_of new)
    → ((loss : Loss) → lost ≡ Some loss → LosesBlock old v step new loss) → (full ≡ true → FindsNoRoom old v step) → IsGiven old v step new (given_by_reads old new lost trusted full)
reads_are_given old v step new lost trusted full reads loses room = record {
  made = sym (told_by_reads plan_call (disks_of old) (disks_of new) not_due reads);
  fault = sym (told_by_reads fault_call (disks_of old) (disks_of new) no_fault reads);
  unread = refl;
  lost = loses;
  full = room;
}

pub reads_quiet : (old new : CoreState) (lost : Option Loss) (trusted full : Bool) → IsQuiet (given_by_reads old new lost trusted full)
reads_quiet old new lost trusted full = record { made = refl; fault = refl }

-- a block that could not be read, as it is given
pub record GivesLost (v : View) (old new : CoreState) (trusted : Bool) (cause : Cause) (Loses : Loss → Type 0) : Type 0 where
  pub lost : Option Loss
  pub unreadable : IsUnreadable v (given_by_reads old new lost trusted false) cause
  pub loses : (loss : Loss) → lost ≡ Some loss → Loses loss

untrusted : {P : Type 0} (trusted : Bool) → (trusted ≡ true → P) → ¬ P → trusted ≡ false
untrusted true holds fails = absurd (fails (holds refl))
untrusted false holds fails = refl

none_lost : (P : Loss → Type 0) (loss : Loss) → None ≡ Some loss → P loss
none_lost P loss e = absurd (cc)

this_lost : (P : Loss → Type 0) (lost loss : Loss) → P lost → Some lost ≡ Some loss → P loss
this_lost P lost loss p e = let same : lost ≡ loss = cc in subst P same p

pub under_given : (v : View) (old new : CoreState) (trusted : Bool) (group : ℕ) (name : List ℕ) (offset len : ℕ) (refusal : Refusal)
    → IsLostUnder v old.commit new.commit group name offset len [] refusal → (trusted ≡ true → PoolAnswersTell old.commit new.commit [])
    → GivesLost v old new trusted (cause_of refusal) (LosesUnder v old.commit new.commit group name offset len)
under_given v old new trusted group name offset len DiskFault is tell = record {
  lost = Some is.lost.0;
  unreadable = (is.lost.0, refl, record { there = is.lost.2.0; more = is.lost.2.1 });
  loses = λ loss e. this_lost (LosesUnder v old.commit new.commit group name offset len) is.lost.0 loss (record { unread = is.unread; on = is.lost.1 }) e;
}
under_given v old new trusted group name offset len BadPointer is tell = record { lost = None; unreadable = untrusted trusted tell is.lost; loses = none_lost _ }
under_given v old new trusted group name offset len BadDigest is tell = record { lost = None; unreadable = untrusted trusted tell is.lost; loses = none_lost _ }
under_given v old new trusted group name offset len refusal is tell = absurd is.lost

pub plan_given : (v : View) (old new : CoreState) (trusted : Bool) (items : Entry) (refusal : Refusal)
    → IsLostForPlan v old.commit new.commit items refusal → (trusted ≡ true → PoolAnswersTell old.commit new.commit [])
    → GivesLost v old new trusted (cause_of refusal) (LosesForPlan v old.commit new.commit items)
plan_given v old new trusted items DiskFault is tell = record {
  lost = Some is.lost.0;
  unreadable = (is.lost.0, refl, record { there = is.lost.2.0; more = is.lost.2.1 });
  loses = λ loss e. this_lost (LosesForPlan v old.commit new.commit items) is.lost.0 loss (record { unread = is.unread; on = is.lost.1 }) e;
}
plan_given v old new trusted items BadPointer is tell = record { lost = None; unreadable = untrusted trusted tell is.lost; loses = none_lost _ }
plan_given v old new trusted items BadDigest is tell = record { lost = None; unreadable = untrusted trusted tell is.lost; loses = none_lost _ }
plan_given v old new trusted items refusal is tell = absurd is.lost

-- reads and plans that touch no disk that is out
pub spares_outs : (s : CoreState) (commit : State) (intake : Intake) (v : View) (missing : List ℕ) → Represents s v → AreUntouched (outs s.commit.store ++ missing) (disks_of s) commit.store.disks
    → AwayIsUntouched s v (record { intake = intake; commit = commit })
spares_outs s commit intake v missing r untouched disk away =
    untouched disk (Contains-append_left (outs s.commit.store) missing disk (out_is_in s.commit.store disk (sym (r.backs.out disk) ∙ away)))

pub plan_spares : (s : CoreState) (commit : State) (intake : Intake) (v : View) → Represents s v → AreUntouched (outs s.commit.store) (disks_of s) commit.store.disks
    → AwayIsUntouched s v (record { intake = intake; commit = commit })
plan_spares s commit intake v r untouched disk away = untouched disk (out_is_in s.commit.store disk (sym (r.backs.out disk) ∙ away))

-- ---- how far the group that is synced is

follows_on : (intake : Intake) (v : View) (sync : Sync) (out : ℕ → Bool) → Follows intake v → is_syncing v.sync ≡ true → is_syncing sync ≡ true
    → Follows intake (record v { sync = sync; out = out })
follows_on intake v sync out f syncs is =
    followed intake v (record v { sync = sync; out = out }) f
    (λ i. record { committed = v.committed; syncing = (is ∙ sym syncs) i; waiting = v.waiting; holds = v.holds; next = v.next; ledger = v.ledger }) refl refl

-- the changes of the group that is planned take effect
pub next_effects : (v : View) (items : Entry) → items ≡ v.ledger (suc v.committed) → PendingTakeEffect v → GroupTakesEffect (suc v.committed) (v.pools v.committed) items
next_effects v items is effects =
    subst (GroupTakesEffect (suc v.committed) (v.pools v.committed)) (sym is)
    (subst (λ (p : PlainPool). GroupTakesEffect (suc v.committed) p (v.ledger (suc v.committed))) (upto_base v.committed (v.pools v.committed) v.ledger) (effects v.committed (omega arith)))

pub group_low : (intake : Intake) (v : View) → Follows intake v → v.committed < 2 ^ 62
group_low intake v f = below v.committed (is_syncing v.sync) (is_some v.waiting) f.sound.flow.groups
  where
    below : (c : ℕ) (s w : Bool) → open_after c s w ≤ greatest → c < 2 ^ 62
    below c true true h = omega arith
    below c true false h = omega arith
    below c false true h = omega arith
    below c false false h = omega arith

-- ---- device steps

pub device_free : (v : View) → is_suspended v ≡ false → is_planned v.sync ≡ true → refusal_of v Device ≡ None
device_free v s p = both (is_suspended v) (is_planned v.sync) s p
  where
    both : (a b : Bool) → a ≡ false → b ≡ true → first_cause ((a, causes.Suspended) ∷ (not b, causes.NotNow) ∷ []) ≡ None
    both false true x y = refl
    both false false x y = absurd (true≢false (sym y))
    both true b x y = absurd (true≢false x)

pub device_early : (v : View) → is_suspended v ≡ false → is_planned v.sync ≡ false → refusal_of v Device ≡ Some causes.NotNow
device_early v s p = both (is_suspended v) (is_planned v.sync) s p
  where
    both : (a b : Bool) → a ≡ false → b ≡ false → first_cause ((a, causes.Suspended) ∷ (not b, causes.NotNow) ∷ []) ≡ Some causes.NotNow
    both false false x y = refl
    both false true x y = absurd (true≢false y)
    both true b x y = absurd (true≢false x)

device_is_given : (old new : CoreState) (v : View) (made : List DueCall) (fault : Option DueCall) → AreMade (disks_of old) (disks_of new) v made
    → faults_between (disks_of old) (disks_of new) ≡ map disk_call (fault_list fault) → IsGiven old v Device new (given_calls made fault)
device_is_given old new v made fault are faults =
    record { made = are.seen; fault = sym faults; unread = sym are.unread; lost = none_lost _; full = λ e. absurd (true≢false (sym e)) }

late : (m n : ℕ) → m ≤ n → nat_le m n ≡ true
late m n h = grind (arith, nat_tests)

not_same : (m n : ℕ) → ¬ (m ≡ n) → (m == n) ≡ false
not_same m n h = grind (arith, nat_tests, h)

-- a disk that is not among those that were called has the calls that it had
not_called : (n : ℕ) (newer calls : List JointCall) (disk : ℕ) → n ≡ length calls → ¬ Contains (told_since which_call n (newer ++ calls)) disk → calls_on disk (newer ++ calls) ≡ calls_on disk calls
not_called n [] calls disk same none = refl
not_called n (made ∷ newer) calls disk same none =
    let count = length-append newer calls in
    let is_late : nat_le n (length (newer ++ calls)) ≡ true = late n (length (newer ++ calls)) (omega arith) in
    let told : told_since which_call n (made ∷ newer ++ calls) ≡ told_since which_call n (newer ++ calls) ++ made.which ∷ [] =
    ap (λ b. told_since which_call n (newer ++ calls) ++ (if b then made.which ∷ [] else [])) is_late in
    let other : (made.which == disk) ≡ false = not_same made.which disk (λ e. none (subst (λ (xs : List ℕ). Contains xs disk) (sym told)
    (Contains-append_right (told_since which_call n (newer ++ calls)) (made.which ∷ []) disk (subst (λ d. Contains (made.which ∷ []) d) e (Contains-front made.which []))))) in
    ap (λ b. if b then made.call ∷ calls_on disk (newer ++ calls) else calls_on disk (newer ++ calls)) other
    ∙ not_called n newer calls disk same (λ held. none (subst (λ (xs : List ℕ). Contains xs disk) (sym told) (Contains-append_left (told_since which_call n (newer ++ calls)) (made.which ∷ []) disk held)))

not_on_away : (calls : List DueCall) (v : View) (disk : ℕ) → AllByRecursion (λ (call : DueCall). is_away v call.disk ≡ false) calls → is_away v disk ≡ true
    → ¬ Contains (map (λ (call : DueCall). call.disk) calls) disk
not_on_away [] v disk all away held = Contains-none disk held
not_on_away (call ∷ calls) v disk all away held =
    ⊎_elim (λ same. true≢false (sym away ∙ ap (is_away v) same ∙ all.0)) (λ later. not_on_away calls v disk all.1 away later) (Contains-cases call.disk (map (λ (call : DueCall). call.disk) calls) disk held)

-- a Device step calls no disk that is away
device_spares : (s : CoreState) (new : CoreState) (v : View) (made : List DueCall) → GrewTo (disks_of s) (disks_of new) → AreMade (disks_of s) (disks_of new) v made → AwayIsUntouched s v new
device_spares s new v made grew only disk away =
    ap (λ (calls : List JointCall). calls_on disk calls) grew.calls
    ∙ not_called (length (disks_of s).calls) grew.newer (disks_of s).calls disk refl
    (λ held. not_on_away made v disk only.in_use away
    (subst (λ (xs : List ℕ). Contains xs disk) (ap (told_since which_call (length (disks_of s).calls)) (sym grew.calls) ∙ only.called) held))

-- a view that goes on is planned, and its intake follows it still
goes_planned : (v w : View) (given : Given) (phase : Phase) (rest : List DueCall) → GoesOn v given phase rest w → is_planned v.sync ≡ true
goes_planned v w given phase rest (inl well) = ap is_planned well.planned
goes_planned v w given phase rest (inr without) = ap is_planned without.fails.planned

goes_follows : (intake : Intake) (v w : View) (given : Given) (phase : Phase) (rest : List DueCall) → Follows intake v → GoesOn v given phase rest w → Follows intake w
goes_follows intake v w given phase rest f (inl well) =
    subst (Follows intake) (sym well.after) (follows_on intake v (Due rest) v.out f (ap is_syncing well.planned) refl)
goes_follows intake v w given phase rest f (inr without) =
    subst (Follows intake) (sym without.after) (follows_on intake v (Due rest) (λ d. (d == without.disk) || v.out d) f (ap is_syncing without.fails.planned) refl)

pub moves : (s : CoreState) (commit : State) (v : View) (trusted : Bool) (phase : Phase) → Represents s v → is_suspended v ≡ false → Progresses s.commit (progress.Moved phase) commit v → GrewTo (disks_of s) commit.store.disks
    → Goes s v trusted Device (Moved phase) (record s { commit = commit })
moves s commit v trusted phase r free p grew =
    let new : CoreState = record s { commit = commit } in
    let w : View = p.0 in
    let on = p.1 in
    let given : Given = given_calls on.made on.fault in
    record {
      given = given;
      trust = λ e. refl;
      after = w;
      link = record {
        is_given = device_is_given s new v on.made on.fault on.are_made on.faults;
        is_step = inr (inr (record { none = device_free v free (goes_planned v w given phase on.rest on.goes); answered = (on.rest, on.some, on.goes); calls = refl }));
        represents = record { follows = goes_follows s.intake v w given phase on.rest r.follows on.goes; backs = p.2 };
        flushed = tt;
        shown = tt;
        untouched = device_spares s new v on.made grew on.are_made;
        only = on.are_made.called;
      };
    }

-- so it is of one whose commit ends
pub ends_planned : (v w : View) (given : Given) → Ends v given w → is_planned v.sync ≡ true
ends_planned v w given (inl (done, same)) = ap is_planned done.planned
ends_planned v w given (inr (phase, without)) = ap is_planned without.fails.planned

syncing_if : (sync : Sync) → is_planned sync ≡ true → is_syncing sync ≡ true
syncing_if Idle is = is
syncing_if Unplanned is = refl
syncing_if (Due calls) is = refl

pub ends_follows : (intake : Intake) (v w : View) (given : Given) → Follows intake v → Ends v given w → Follows intake w
ends_follows intake v w given f (inl (done, same)) = subst (Follows intake) (sym same) f
ends_follows intake v w given f (inr (phase, without)) =
    subst (Follows intake) (sym without.after) (follows_on intake v (Due []) (λ d. (d == without.disk) || v.out d) f (ap is_syncing without.fails.planned) refl)

pub ends_syncing : (v w : View) (given : Given) → Ends v given w → is_syncing w.sync ≡ true
ends_syncing v w given (inl (done, same)) = ap (λ (u : View). is_syncing u.sync) same ∙ ap is_syncing done.planned
ends_syncing v w given (inr (phase, without)) = ap (λ (u : View). is_syncing u.sync) without.after

pub ends_committed : (v w : View) (given : Given) → Ends v given w → w.committed ≡ v.committed
ends_committed v w given (inl (done, same)) = ap (λ (u : View). u.committed) same
ends_committed v w given (inr (phase, without)) = ap (λ (u : View). u.committed) without.after

ends_flow : (v w : View) (given : Given) → Ends v given w → flow_of (committed_next w) ≡ with_committed (flow_of v)
ends_flow v w given (inl (done, same)) = ap (λ (u : View). flow_of (committed_next u)) same
ends_flow v w given (inr (phase, without)) = ap (λ (u : View). flow_of (committed_next u)) without.after

pub commits : (s : CoreState) (intake : Intake) (commit : State) (v w : View) (trusted : Bool) (reply : Reply) → Represents s v → is_suspended v ≡ false
    → EndsWell s.commit commit v w → Backs commit (committed_next w) → GrewTo (disks_of s) commit.store.disks
    → reply ≡ Committed (suc w.committed) → Follows intake (committed_next w) → Goes s v trusted Device reply (record { intake = intake; commit = commit })
commits s intake commit v w trusted reply r free ends backs grew is f =
    let new : CoreState = record { intake = intake; commit = commit } in
    let given : Given = given_calls ends.made ends.fault in
    let planned = ends_planned v w given ends.ends in
    subst (λ (x : Reply). Goes s v trusted Device x new) (sym (is ∙ ap (λ (n : ℕ). Committed (suc n)) (ends_committed v w given ends.ends))) (record {
      given = given;
      trust = λ e. refl;
      after = committed_next w;
      link = record {
        is_given = device_is_given s new v ends.made ends.fault ends.are_made ends.faults;
        is_step = inr (inr (record { none = device_free v free planned; answered = ((syncing_if v.sync planned, refl, ends_flow v w given ends.ends), w, ends.ends, refl); calls = refl }));
        represents = record { follows = f; backs = backs };
        flushed = ends.flushed;
        shown = (ends.root, ends.is_root, ends.timestamp, ends.planned, ends.shown);
        untouched = device_spares s new v ends.made grew ends.are_made;
        only = ends.are_made.called;
      };
    })

pub drops : (s : CoreState) (commit : State) (v : View) (trusted : Bool) (disk : ℕ) (reply : Reply) → Represents s v → is_suspended v ≡ false → Progresses s.commit (progress.Dropped disk) commit v → GrewTo (disks_of s) commit.store.disks
    → ((w : View) → Backs commit w → reply ≡ (if is_suspended w then Refused causes.Suspended else Replan disk)) → Goes s v trusted Device reply (record s { commit = commit })
drops s commit v trusted disk reply r free p grew is = go (is_suspended (dropped v disk)) refl (is (dropped v disk) p.1)
  where
    new : CoreState
    new = record s { commit = commit }

    given : Given
    given = given_calls p.0.made (Some p.0.call)

    is_given : IsGiven s v Device new given
    is_given = device_is_given s new v p.0.made (Some p.0.call) p.0.are_made p.0.fault

    fails : FailsOn v given disk
    fails = record {
      left = p.0.left;
      rest = p.0.rest;
      before = p.0.before;
      call = p.0.call;
      on = p.0.on;
      planned = p.0.planned;
      last = p.0.last;
      makes = p.0.makes;
      fault = refl;
    }

    after : Represents new (dropped v disk)
    after = record { follows = follows_on s.intake v (without_plan v.sync) (dropped v disk).out r.follows (ap is_syncing p.0.planned) (syncs_without_plan v.sync ∙ ap is_syncing p.0.planned); backs = p.1 }

    goes : (answer : Reply) → StepOf v given Device answer (dropped v disk) → AreFlushed answer (dropped v disk) new → ShowsGroup answer s (dropped v disk) new
        → Goes s v trusted Device answer new
    goes answer step flushed shown = record {
      given = given;
      trust = λ t. refl;
      after = dropped v disk;
      link = record {
        is_given = is_given;
        is_step = step;
        represents = after;
        flushed = flushed;
        shown = shown;
        untouched = device_spares s new v p.0.made grew p.0.are_made;
        only = p.0.are_made.called;
      };
    }

    go : (b : Bool) → is_suspended (dropped v disk) ≡ b → reply ≡ (if is_suspended (dropped v disk) then Refused causes.Suspended else Replan disk) → Goes s v trusted Device reply new
    go true e x =
        subst (λ (y : Reply). Goes s v trusted Device y new) (sym (x ∙ ap (λ b. if b then Refused causes.Suspended else Replan disk) e))
        (goes (Refused causes.Suspended) (inr (inr (record { none = device_free v free (ap is_planned p.0.planned); answered = (refl, disk, fails, e, refl); calls = refl }))) tt tt)
    go false e x =
        subst (λ (y : Reply). Goes s v trusted Device y new) (sym (x ∙ ap (λ b. if b then Refused causes.Suspended else Replan disk) e))
        (goes (Replan disk) (inr (inr (record { none = device_free v free (ap is_planned p.0.planned); answered = (fails, p.0.early e, e, refl); calls = refl }))) tt tt)

-- ---- plans

pub plan_planned : (v : View) (timestamp : ℕ) → is_suspended v ≡ false → is_planned v.sync ≡ true → refusal_of v (Plan timestamp) ≡ Some causes.NotNow
plan_planned v timestamp s p = both (is_suspended v) (is_planned v.sync) (is_syncing v.sync) (is_quiesced v.waiting) s p
  where
    both : (a b c d : Bool) → a ≡ false → b ≡ true → first_cause ((a, causes.Suspended) ∷ (not (not b && (c || d)), causes.NotNow) ∷ []) ≡ Some causes.NotNow
    both false true c d x y = refl
    both false false c d x y = absurd (true≢false (sym y))
    both true b c d x y = absurd (true≢false x)

-- what backs a view without a plan backs the one whose group is taken
pub backs_taken : (s : State) (v : View) → Backs s v → is_planned v.sync ≡ false → Backs s (taken v Unplanned)
backs_taken s v backs none = record {
  vdevs = backs.vdevs;
  slots = backs.slots;
  out = backs.out;
  stale = backs.stale;
  committed = backs.committed;
  stamped = backs.stamped;
  blocks = record {
    stored = backs.blocks.stored;
    planned = backs.blocks.planned;
    plans = backs.blocks.plans;
    kept = backs.blocks.kept;
    plan = still s.planned backs.blocks.plan;
    reached = backs.blocks.reached;
    plan_reached = same_reach s.planned backs.blocks.plan_reached;
  };
}
  where
    still : (plan : Option PlannedGroup) → IsPlanOf s backs.blocks.planned plan v → IsPlanOf s backs.blocks.planned plan (taken v Unplanned)
    still None is = refl
    still (Some plan) is = absurd (true≢false (sym (ap is_planned is.sync) ∙ none))

    same_reach : (plan : Option PlannedGroup) → IsReachOfPlan s.store.spaces backs.blocks.reached.reach backs.blocks.stored backs.blocks.planned plan v
        → IsReachOfPlan s.store.spaces backs.blocks.reached.reach backs.blocks.stored backs.blocks.planned plan (taken v Unplanned)
    same_reach None is = tt
    same_reach (Some plan) is = is

-- a group is taken, and planned
pub plans : (s : CoreState) (intake : Intake) (commit : State) (v : View) (trusted : Bool) (timestamp group : ℕ) (calls : List DueCall)
    → refusal_of v (Plan timestamp) ≡ None → Follows intake (taken v Unplanned) → group ≡ suc v.committed → IsPlan (taken v Unplanned) calls
    → Backs commit (record (taken v Unplanned) { sync = Due calls }) → OnlyReads (disks_of s) commit.store.disks → AwayIsUntouched s v (record { intake = intake; commit = commit })
    → Goes s v trusted (Plan timestamp) (Planned group) (record { intake = intake; commit = commit })
plans s intake commit v trusted timestamp group calls none f is plan backs reads spared =
    let new : CoreState = record { intake = intake; commit = commit } in
    record {
      given = given_by_reads s new None trusted false;
      trust = λ e. e;
      after = taken v (Due calls);
      link = record {
        is_given = reads_are_given s v (Plan timestamp) new None trusted false reads (none_lost _) (λ e. absurd (true≢false (sym e)));
        is_step = inr (inr (record { none = none; answered = ((is, (takes_due v timestamp none, refl)), calls, record { in_use = plan.in_use; numbered = plan.numbered; behind = plan.behind; flushes = plan.flushes; slots = plan.slots; slot_flushes = plan.slot_flushes }, refl); calls = reads_quiet s new None trusted false }));
        represents = record { follows = follows_on intake (taken v Unplanned) (Due calls) v.out f refl refl; backs = backs };
        flushed = tt;
        shown = tt;
        untouched = spared;
        only = tt;
      };
    }

-- a plan that was refused, by its cause: its group is taken
pub plan_refused : (s : CoreState) (intake : Intake) (commit : State) (v : View) (trusted : Bool) (timestamp : ℕ) (refusal : Refusal) (named : Cause) → named ≡ cause_of refusal
    → refusal_of v (Plan timestamp) ≡ None → Follows intake (taken v Unplanned) → Backs commit (taken v Unplanned) → OnlyReads (disks_of s) commit.store.disks → AwayIsUntouched s v (record { intake = intake; commit = commit })
    → (trusted ≡ true → PoolAnswersTell s.commit commit []) → (refusal ≡ NoSpace → LacksRoom s.commit (v.ledger (suc v.committed)))
    → (refusal ≡ NoMemory) ⊎ (IsLostForPlan (taken v Unplanned) s.commit commit (v.ledger (suc v.committed)) refusal ⊎ (refusal ≡ NoSpace))
    → Goes s v trusted (Plan timestamp) (Refused named) (record { intake = intake; commit = commit })
plan_refused s intake commit v trusted timestamp refusal named is none f backs reads spared tell full why =
    subst (λ (c : Cause). Goes s v trusted (Plan timestamp) (Refused c) new) (sym is) (⊎_elim
    (λ memory. subst (λ (x : Refusal). Goes s v trusted (Plan timestamp) (Refused (cause_of x)) new) (sym memory)
    (goes None false (none_lost _) (λ e. absurd (true≢false (sym e))) causes.NoMemory
    (inr (inl (record { may = none; answer = refl; leaves = refl; calls = reads_quiet s new None trusted false })))))
    (λ other. ⊎_elim
    (λ lost. let gives = plan_given (taken v Unplanned) s new trusted (v.ledger (suc v.committed)) refusal lost tell in
    goes gives.lost false (λ loss e. let there = gives.loses loss e in record { unread = there.unread; on = record { lost = there.on.lost; last = record { place = there.on.last.place; is_last = there.on.last.is_last; is_there = there.on.last.is_there }; birth = there.on.birth } })
    (λ e. absurd (true≢false (sym e))) (cause_of refusal)
    (inr (inr (record { none = none; answered = (inl (same_causes refusal gives.lost gives.unreadable), refl); calls = reads_quiet s new gives.lost trusted false }))))
    (λ space. subst (λ (x : Refusal). Goes s v trusted (Plan timestamp) (Refused (cause_of x)) new) (sym space)
    (goes None true (none_lost _) (λ e. full space) causes.NoSpace (inr (inr (record { none = none; answered = (inr (refl, refl), refl); calls = reads_quiet s new None trusted true }))))) other) why)
  where
    new : CoreState
    new = record { intake = intake; commit = commit }

    -- that the group is taken changes nothing of its disks
    same_causes : (refusal : Refusal) (lost : Option Loss) → IsUnreadable (taken v Unplanned) (given_by_reads s new lost trusted false) (cause_of refusal)
        → IsUnreadable v (given_by_reads s new lost trusted false) (cause_of refusal)
    same_causes DiskFault lost is = (is.0, is.1, record { there = is.2.there; more = is.2.more })
    same_causes BadPointer lost is = is
    same_causes BadDigest lost is = is
    same_causes refusal lost is = absurd is

    goes : (lost : Option Loss) (full : Bool) → ((loss : Loss) → lost ≡ Some loss → LosesBlock s v (Plan timestamp) new loss) → (full ≡ true → FindsNoRoom s v (Plan timestamp)) → (cause : Cause)
        → StepOf v (given_by_reads s new lost trusted full) (Plan timestamp) (Refused cause) (taken v Unplanned)
        → Goes s v trusted (Plan timestamp) (Refused cause) new
    goes lost full loses room cause step = record {
      given = given_by_reads s new lost trusted full;
      trust = λ e. e;
      after = taken v Unplanned;
      link = record {
        is_given = reads_are_given s v (Plan timestamp) new lost trusted full reads loses room;
        is_step = step;
        represents = record { follows = f; backs = backs };
        flushed = tt;
        shown = tt;
        untouched = spared;
        only = tt;
      };
    }

-- nothing is planned
pub idles : (s : CoreState) (commit : State) (v : View) (trusted : Bool) → Represents s v → is_suspended v ≡ false → is_planned v.sync ≡ false → Backs commit v → commit.store.disks ≡ disks_of s
    → Goes s v trusted Device (Refused causes.NotNow) (record s { commit = commit })
idles s commit v trusted r free none backs same =
    let new : CoreState = record s { commit = commit } in
    record {
      given = nothing_given;
      trust = λ e. refl;
      after = v;
      link = record {
        is_given = record {
          made = sym (ap (λ (d : Disks). made_between (disks_of s) d) same ∙ told_by_none plan_call (disks_of s));
          fault = sym (ap (λ (d : Disks). faults_between (disks_of s) d) same ∙ told_by_none fault_call (disks_of s));
          unread = sym (ap (λ (d : Disks). unread_between (disks_of s) d) same ∙ told_by_none unread_call (disks_of s));
          lost = none_lost _;
          full = λ e. absurd (true≢false (sym e));
        };
        is_step = inl (record { cause = causes.NotNow; first = device_early v free none; answer = refl; unchanged = refl; quiet = nothing_quiet; calls = refl });
        represents = record { follows = r.follows; backs = backs };
        flushed = tt;
        shown = tt;
        untouched = λ disk away. ap (λ (d : Disks). calls_on disk d.calls) same;
        only = ap (λ (d : Disks). called_between (disks_of s) d) same ∙ told_by_none which_call (disks_of s);
      };
    }

-- no group can be taken
pub takes_none : (s : CoreState) (intake : Intake) (v : View) (trusted : Bool) (timestamp : ℕ) (cause : Cause) → Represents s v → refusal_of v (Plan timestamp) ≡ Some cause → Follows intake v
    → Goes s v trusted (Plan timestamp) (Refused cause) (record s { intake = intake })
takes_none s intake v trusted timestamp cause r first f = record {
  given = nothing_given;
  trust = λ e. refl;
  after = v;
  link = record {
    is_given = nothing_is_given s v (Plan timestamp) intake;
    is_step = inl (record { cause = cause; first = first; answer = refl; unchanged = refl; quiet = nothing_quiet; calls = nothing_quiet });
    represents = record { follows = f; backs = r.backs };
    flushed = tt;
    shown = tt;
    untouched = λ disk away. refl;
    only = tt;
  };
}

pub group_after : (n c sum : ℕ) → n ≡ c → c < 2 ^ 62 → sum ≡ min (n + 1) 18446744073709551615 → sum ≡ suc c
group_after n c sum e low is = grind (arith, nat_tests, e, low, is)
