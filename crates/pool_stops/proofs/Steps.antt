-- Steps of a pool that runs, of which none puts a disk out.
use Rattle.std.proofs.Common.{ℕ, zero, suc, ◌≡◌, ◌⊎◌, inl, inr, ⊎_elim, ◌<◌, ◌≤◌, Bool, true, false, List, [], ◌∷◌, length, Option, Some, None, Contains, refl, sym, ap, subst, ◌∙◌, arith, true≢false}
use Rattle.std.specs.Prelude.{◌==◌, if◌then◌else◌, filter, nat_le, not}
use Rattle.std.proofs.lemmas.Bool.Decides.{nat_tests}
use Rattle.model_disk.specs.Joint.{Disks, bytes_of, content}
use Rattle.model_disk.specs.Runs.{Makes, no_write}
use Rattle.model_disk.proofs.RunLemmas.{Makes-wider}
use Rattle.raidz_io.specs.Reads.{OnlyReads}
use Rattle.block_store.specs.Places.{IsLaidOut, shapes_of}
use Rattle.block_store.specs.Spaces.{VdevSpace}
use Rattle.block_store.specs.Store.{is_out}
use Rattle.block_store.proofs.Taking.{laid_out_too}
use Rattle.uberblock_ring.specs.Slot.{slot_number}
use Rattle.uberblock_ring.specs.Uberblock.{Fits}
use Rattle.uberblock_ring.specs.declared.uberblock.Uberblock.{Uberblock}
use Rattle.pool_create.specs.Kept.{Kept}
use Rattle.pool_create.specs.CommitPlanned.{Planned}
use Rattle.pool_create.specs.Backs.{pool_after}
use Rattle.pool_create.specs.Config.{vdevs_of}
use Rattle.pool_create.specs.Slots.{ShowsIn}
use Rattle.pool_create.specs.Spans.{HaveNoSpans, NoneIsStale}
use Rattle.pool_create.specs.CommitState.{NoneIsOut, State, group_at}
use Rattle.pool_create.specs.CommitWriting.{PlansFrom, WritesPlan, in_use_of, may_write}
use Rattle.pool_create.proofs.CommitLabels.{labels_still}
use Rattle.pool_create.proofs.CommitProgressing.{vdevs_by_shapes}
use Rattle.pool_create.proofs.CoreUntouched.{keeps_no_spans, none_stale_on, stale_stays}
use Rattle.pool_create.specs.Moves.{Moves, ReadsAndPlans}
use Rattle.pool_create.specs.CoreState.{CoreState}
use Rattle.pool_create.specs.CoreSteps.{AreFlushed, Link, ShowsGroup}
use Rattle.pool_model.specs.Machine.{GoesOn, MayAnswer, StepOf}
use Rattle.pool_model.specs.Pools.{PlainPool, upto}
use Rattle.pool_model.specs.Sound.{IsSound}
use Rattle.pool_model.specs.View.{DueCall, Given, View, Vdev, disks_in_use, disks_of}
use Rattle.pool_model.specs.declared.step.Phase.{Phase}
use Rattle.volume_rules.specs.NowMoves.{IsMadeBy}
use Rattle.pool_model.specs.declared.step.Reply.{Reply}
use Rattle.pool_model.specs.declared.step.Reply.TheVariants.{Held, Receipt, Released, Closed, Quiesced, Planned as PlannedReply, Moved, Replan, Committed, Out, Bytes, Refused}
use Rattle.pool_model.specs.declared.step.Step.{Step}
use Rattle.pool_model.specs.declared.step.Step.TheVariants as steps
use Rattle.pool_model.proofs.Committing.{told_pools}
use Rattle.pool_slots.specs.Commits.{LeadAlways, last_or, only_last}
use Rattle.pool_slots.specs.PhaseLaws.{NextIsUnseen, ReadsAndFlushesKeep}
use Rattle.pool_slots.specs.Phases.{AreInBlocks}
use Rattle.pool_slots.specs.Possible.{IsBefore, IsInReach}
use Rattle.pool_slots.specs.Slots.{AreSettled, InUse, Shows, slot_at, spelled}
use Rattle.pool_slots.specs.Writes.{SlotsStand, in_use}
use Rattle.pool_slots.proofs.Writing.{slot_number_small}
use Rattle.pool_stops.specs.Filled.{is_filled, is_for_blocks}
use Rattle.pool_stops.specs.Phases.{IsGoodPlan, IsInPhase, IsInSlots, PhasesEnd, PhasesGoOn, PlansKeepThePhase, ReadsKeepThePhase, StopsWell}
use Rattle.pool_stops.specs.Running.{IsOfKept, IsRunning, IsWhole, StandAt, StepsOn, StopsAt, pool_of}
use Rattle.pool_stops.specs.Standing.{BlocksKeepWhatIsFilled, SlotsBeginBehindBlocks, block_trees, filled_trees, unfilled_write}
use Rattle.pool_stops.proofs.Backed.{backed_plans_are_good}
use Rattle.pool_stops.proofs.Filled.{filled_bytes_are_for_blocks, picked_are_for_blocks}
use Rattle.pool_stops.proofs.Holding.{get_in_use}
use Rattle.pool_stops.proofs.Kept.{kept_tree, kept_tree_too, plan_tree}
use Rattle.pool_stops.proofs.Whole.{WholeTreeOf}
use Rattle.pool_stops.proofs.Phases.{begins, flushed_settled, is_empty, no_writes, read_only}
use Rattle.pool_stops.proofs.Standing.{picked_off}

-- the laws of phases that a step rests on
pub record PhaseLaws : Type 0 where
  pub blocks : BlocksKeepWhatIsFilled
  pub begin : SlotsBeginBehindBlocks
  pub unseen : NextIsUnseen
  pub go_on : PhasesGoOn
  pub reads : ReadsKeepThePhase
  pub plans : PlansKeepThePhase
  pub ends : PhasesEnd
  pub keep : ReadsAndFlushesKeep

-- ---- lists

-- two lists of as many flags, none of which is set
pub same_flags : (out other : List Bool) → length other ≡ length out → ((disk : ℕ) → is_out out disk ≡ false) → ((disk : ℕ) → is_out other disk ≡ false) → other ≡ out
same_flags [] [] count none none' = refl
same_flags [] (b ∷ other) count none none' = absurd (cc)
same_flags (a ∷ out) [] count none none' = absurd (cc)
same_flags (a ∷ out) (b ∷ other) count none none' =
    let rest : length other ≡ length out = omega (arith, count) in
    (λ i. (none' 0 ∙ sym (none 0)) i ∷ same_flags out other rest (λ disk. none (suc disk)) (λ disk. none' (suc disk)) i)

first_of : {A : Type 0} (x : A) (xs : List A) → Contains (x ∷ xs) x
first_of x xs = (0, omega arith, refl)

pub first_or : {A : Type 0} (x : A) (xs : List A) (y : A) → Contains (x ∷ xs) y → (y ≡ x) ⊎ Contains xs y
first_or x xs y (zero, within, is) = inl (sym is)
first_or x xs y (suc k, within, is) = inr (k, omega (arith, within), is)

later_of : {A : Type 0} (x : A) (xs : List A) (y : A) → Contains xs y → Contains (x ∷ xs) y
later_of x xs y (k, within, is) = (suc k, omega (arith, within), is)

first_if : {A : Type 0} (b : Bool) (x : A) (rest : List A) (y : A) → (x ≡ y → b ≡ true) → (y ≡ x) ⊎ Contains rest y → Contains (if b then x ∷ rest else rest) y
first_if true x rest y keeps held = ⊎_elim (λ same. subst (λ z. Contains (x ∷ rest) z) (sym same) (first_of x rest)) (λ later. later_of x rest y later) held
first_if false x rest y keeps held = ⊎_elim (λ same. absurd (true≢false (sym (keeps (sym same))))) (λ later. later) held

filtered : {A : Type 0} (test : A → Bool) (xs : List A) (y : A) → test y ≡ true → Contains xs y → Contains (filter test xs) y
filtered test [] y holds (k, within, is) = absurd (omega (arith, within))
filtered test (x ∷ xs) y holds held =
    first_if (test x) x (filter test xs) y (λ same. ap test same ∙ holds)
    (⊎_elim (λ same. inl same) (λ later. inr (filtered test xs y holds later)) (first_or x xs y held))

-- ---- uberblocks in reach

pub is_last_or_before : (last : Uberblock) (before : List Uberblock) (u : Uberblock) → IsInReach (only_last last before) u → (u ≡ last) ⊎ IsBefore last before u
is_last_or_before last before u (inl among) =
    inl (⊎_elim (λ same. same) (λ later. absurd (omega (arith, later.1))) (first_or last [] u among))
is_last_or_before last before u (inr is) = inr is

reach_low : (last : Uberblock) (before : List Uberblock) (u : Uberblock) → IsInReach (only_last last before) u → u.group ≤ last.group
reach_low last before u reach = ⊎_elim (λ same. let e = ap (λ (x : Uberblock). x.group) same in omega (arith, e)) (λ is. omega (arith, is.lower)) (is_last_or_before last before u reach)

pub last_in_reach : (last : Uberblock) (before : List Uberblock) → IsInReach (only_last last before) last
last_in_reach last before = inl (first_of last [])

-- ---- views

yes_low : (n c : ℕ) → n ≤ c → nat_le n c ≡ true
yes_low n c low = grind (arith, nat_tests, low)

-- a step changes no pool of a group that was committed
pub pools_stay : (v : View) (given : Given) (step : Step) (reply : Reply) (w : View) → IsSound v → StepOf v given step reply w → (n : ℕ) → n ≤ w.committed → n ≤ v.committed
    → w.pools n ≡ v.pools n
pools_stay v given step reply w sound is n le low =
    told_pools v (step ∷ []) (given ∷ []) (reply ∷ []) w (w, is, refl) sound n le
    ∙ ap (λ b. if b then v.pools n else upto v.committed (v.pools v.committed) w.ledger n) (yes_low n v.committed low)

not_next : (n c : ℕ) → n ≤ c → (n == suc c) ≡ false
not_next n c low = grind (arith, nat_tests, low)

is_next : (n c : ℕ) → n ≡ suc c → (n == suc c) ≡ true
is_next n c same = grind (arith, nat_tests, same)

pool_of_low : (v : View) (u : Uberblock) → u.group ≤ v.committed → pool_of v u ≡ v.pools u.group
pool_of_low v u low = ap (λ b. if b then pool_after v else v.pools u.group) (not_next u.group v.committed low)

pool_of_next : (v : View) (u : Uberblock) → u.group ≡ suc v.committed → pool_of v u ≡ pool_after v
pool_of_next v u same = ap (λ b. if b then pool_after v else v.pools u.group) (is_next u.group v.committed same)

-- ---- what a stop leads to

pub tree_with : (s : State) (v : View) (last : Uberblock) (before : List Uberblock) (core : CoreState) → core.commit ≡ s → IsRunning core v last before → (u : Uberblock)
    → IsInReach (only_last last before) u
    → WholeTreeOf (filled_trees s.store.spaces s.store.disks) s.store.disks.starts (shapes_of s.store.spaces) s.store.out u (pool_of v u)
tree_with s v last before core is runs u reach =
    subst (λ (t : State). WholeTreeOf (filled_trees t.store.spaces t.store.disks) t.store.disks.starts (shapes_of t.store.spaces) t.store.out u (pool_of v u)) is
    (subst (λ (pool : PlainPool). WholeTreeOf (filled_trees core.commit.store.spaces core.commit.store.disks) core.commit.store.disks.starts (shapes_of core.commit.store.spaces)
    core.commit.store.out u pool) (sym (pool_of_low v u (omega (arith, reach_low last before u reach, runs.group))))
    (kept_tree core.commit v u runs.represents.backs runs.whole (runs.kept u reach)))

pub stops_filled : (old : CoreState) (v : View) (new : Disks) (last : Uberblock) (before : List Uberblock) → IsRunning old v last before
    → LeadAlways (filled_trees old.commit.store.spaces old.commit.store.disks) old.commit.store.out old.commit.store.disks new (only_last last before)
    → StopsAt old.commit v new last before
stops_filled old v new last before runs always =
    let s : State = old.commit in
    record {
      p = only_last last before;
      which = inl refl;
      trees = filled_trees s.store.spaces s.store.disks;
      off_labels = picked_off (is_filled s.store.spaces) (content s.store.disks) s.store.disks.starts s.store.spaces s.store.out runs.whole.lie
          (filled_bytes_are_for_blocks s.store.spaces);
      always = always;
      tree = λ u reach. (tree_with s v last before old refl runs u reach).tree;
      whole = λ u reach. (tree_with s v last before old refl runs u reach).whole;
    }

pub stops_in_slots : (old : CoreState) (v : View) (new : Disks) (plan : Planned) (last : Uberblock) (before : List Uberblock) → IsRunning old v last before
    → old.commit.planned ≡ Some plan → plan.uberblock.group ≡ suc v.committed → old.commit.store.due ≡ []
    → LeadAlways (block_trees old.commit.store.spaces old.commit.store.disks) old.commit.store.out old.commit.store.disks new (last_or last before plan.uberblock)
    → StopsAt old.commit v new last before
stops_in_slots old v new plan last before runs is group written always =
    let s : State = old.commit in
    let Tree : Uberblock → PlainPool → Type 0 =
    λ u pool. WholeTreeOf (block_trees s.store.spaces s.store.disks) s.store.disks.starts (shapes_of s.store.spaces) s.store.out u pool in
    let kept : (u : Uberblock) → IsInReach (only_last last before) u → Tree u (pool_of v u) =
    λ u reach. kept_tree_too s u (pool_of v u) (tree_with s v last before old refl runs u reach) in
    let planned : Tree plan.uberblock (pool_of v plan.uberblock) =
    subst (λ (pool : PlainPool). Tree plan.uberblock pool) (sym (pool_of_next v plan.uberblock group))
    (plan_tree s v plan runs.represents.backs runs.whole is written runs.represents.follows.made (runs.represents.follows.good (suc v.committed))) in
    let each : (u : Uberblock) → IsInReach (last_or last before plan.uberblock) u → Tree u (pool_of v u) = λ u reach. ⊎_elim
    (λ among. ⊎_elim
    (λ same. subst (λ (x : Uberblock). Tree x (pool_of v x)) (sym same) (kept last (last_in_reach last before)))
    (λ rest. ⊎_elim
    (λ same. subst (λ (x : Uberblock). Tree x (pool_of v x)) (sym same) planned)
    (λ none. absurd (omega (arith, none.1)))
    (first_or plan.uberblock [] u rest))
    (first_or last (plan.uberblock ∷ []) u among))
    (λ is_before. kept u (inr is_before)) reach in
    record {
      p = last_or last before plan.uberblock;
      which = inr (plan, is, refl);
      trees = block_trees s.store.spaces s.store.disks;
      off_labels = picked_off (is_for_blocks s.store.spaces) (content s.store.disks) s.store.disks.starts s.store.spaces s.store.out runs.whole.lie
          (picked_are_for_blocks s.store.spaces);
      always = always;
      tree = λ u reach. (each u reach).tree;
      whole = λ u reach. (each u reach).whole;
    }

pub stops_either : (old : CoreState) (v : View) (new : State) (plan : Planned) (last : Uberblock) (before : List Uberblock) → IsRunning old v last before
    → old.commit.planned ≡ Some plan → plan.uberblock.group ≡ suc v.committed → StopsWell old.commit plan new last before
    → StopsAt old.commit v new.store.disks last before
stops_either old v new plan last before runs is group well = ⊎_elim
    (λ always. stops_filled old v new.store.disks last before runs always)
    (λ (written, always). stops_in_slots old v new.store.disks plan last before runs is group written always) well

-- ---- the pool runs on

-- no disk missed a group by then
pub record MissesNone (s : State) : Type 0 where
  pub fresh : NoneIsStale s
  pub untouched : HaveNoSpans s

-- so it is behind a step
pub misses_none : (old new : CoreState) (v w : View) (step : Step) (given : Given) (reply : Reply) (last : Uberblock) (before : List Uberblock)
    → IsRunning old v last before → Link old v step given reply new w → Moves step old.commit new.commit → NoneIsOut new.commit → MissesNone new.commit
misses_none old new v w step given reply last before runs link moves none = record {
  fresh = none_stale_on old new v w (stale_stays v w given step reply link.is_step) runs.represents link.represents runs.whole.fresh;
  untouched = (keeps_no_spans step old.commit new.commit moves none).1 runs.whole.untouched;
}

pub whole_still : (old new : State) → IsWhole old → NoneIsOut new → MissesNone new → length new.store.out ≡ length old.store.out → new.store.disks.starts ≡ old.store.disks.starts
    → shapes_of new.store.spaces ≡ shapes_of old.store.spaces → IsWhole new
whole_still old new whole none misses count starts shapes =
    let disks : length new.store.disks.starts ≡ length old.store.disks.starts = ap length starts in
    record {
      none = none;
      fresh = misses.fresh;
      untouched = misses.untouched;
      count = count ∙ whole.count ∙ sym disks;
      some = omega (arith, whole.some, disks);
      covered = λ disk there.
          subst (λ (vdevs : List Vdev). Contains (disks_of vdevs) disk) (sym (vdevs_by_shapes old.store.spaces new.store.spaces shapes))
          (whole.covered disk (omega (arith, there, disks)));
      lie = record {
        laid = laid_out_too new.store.disks.starts old.store.spaces new.store.spaces shapes
            (subst (λ (them : List (List ℕ)). IsLaidOut them old.store.spaces) (sym starts) whole.lie.laid);
        labels = labels_still old.store new.store starts shapes whole.lie.labels;
      };
    }

kept_still : (old new : State) (v w : View) (u : Uberblock) → new.kept ≡ old.kept → new.stamp ≡ old.stamp → w.pools u.group ≡ v.pools u.group → IsOfKept old v u → IsOfKept new w u
kept_still old new v w u same stamp pool of = record {
  kept = of.kept;
  is = ap (λ (k : Kept). group_at k u.group) same ∙ of.is;
  root = of.root;
  stamped = of.stamped ∙ sym stamp;
  made = subst (λ (p : PlainPool). IsMadeBy u.group p) (sym pool) of.made;
}

-- with the same groups committed
pub runs_still : (old new : CoreState) (v w : View) (step : Step) (given : Given) (reply : Reply) (last : Uberblock) (before : List Uberblock) → IsRunning old v last before
    → Link old v step given reply new w → IsWhole new.commit → new.commit.stamp ≡ old.commit.stamp → new.commit.kept ≡ old.commit.kept
    → StandAt new.commit new.commit.planned last before → IsRunning new w last before
runs_still old new v w step given reply last before runs link whole stamp kept stand =
    let same : w.committed ≡ v.committed =
    sym link.represents.backs.committed ∙ ap (λ (k : Kept). k.committed) kept ∙ runs.represents.backs.committed in
    record {
      represents = link.represents;
      whole = whole;
      claim = runs.claim ∙ ap (λ st. st.claim) (sym stamp);
      group = runs.group ∙ sym same;
      lower = runs.lower;
      kept = λ u reach.
          let low : u.group ≤ v.committed = omega (arith, reach_low last before u reach, runs.group) in
          kept_still old.commit new.commit v w u kept stamp
          (pools_stay v given step reply w runs.represents.follows.sound link.is_step u.group (omega (arith, low, same)) low) (runs.kept u reach);
      stand = stand;
    }

-- ---- steps that write nothing

abbrev pub with_disks : State → Disks → State
with_disks s disks = record s { store = record s.store { disks = disks } }

pub good : (old : CoreState) (v : View) (plan : Planned) (last : Uberblock) (before : List Uberblock) → IsRunning old v last before → old.commit.planned ≡ Some plan
    → IsGoodPlan old.commit plan last
good old v plan last before runs is =
    backed_plans_are_good old.commit v plan last runs.represents.backs is runs.whole.count runs.whole.lie runs.claim runs.group

pub its_group : (old : CoreState) (v : View) (plan : Planned) (last : Uberblock) (before : List Uberblock) → IsRunning old v last before → old.commit.planned ≡ Some plan
    → plan.uberblock.group ≡ suc v.committed
its_group old v plan last before runs is = (good old v plan last before runs is).next.1 ∙ ap suc runs.group

-- reads leave nothing unflushed
still_settled : PhaseLaws → (s : State) (disks : Disks) (last : Uberblock) (before : List Uberblock) → OnlyReads s.store.disks disks → AreSettled s.store.out s.store.disks.calls
    → AreSettled s.store.out disks.calls
still_settled laws s disks last before reads settled disk used =
    (laws.keep (filled_trees s.store.spaces s.store.disks) s.store.out s.store.disks disks last before (no_writes no_write s.store.disks disks reads)).settled disk (settled disk used)

-- disks were read, or nothing was done
reads_by : (old : CoreState) (v : View) (disks : Disks) (last : Uberblock) (before : List Uberblock) (planned : Option Planned) → PhaseLaws → IsRunning old v last before
    → OnlyReads old.commit.store.disks disks → old.commit.planned ≡ planned → StandAt old.commit planned last before
    → StandAt (with_disks old.commit disks) planned last before × StopsAt old.commit v disks last before
reads_by old v disks last before None laws runs reads is phase =
    let spaces : List VdevSpace = old.commit.store.spaces in
    let went = laws.blocks spaces spaces old.commit.store.out old.commit.store.disks disks last before runs.whole.lie (λ disk i filled. filled) phase.blocks
    (read_only spaces old.commit.store.disks disks reads) in
    (record { blocks = went.0; settled = still_settled laws old.commit disks last before reads phase.settled }, stops_filled old v disks last before runs went.1)
reads_by old v disks last before (Some plan) laws runs reads is phase =
    let went = laws.reads old.commit (with_disks old.commit disks) plan last before runs.whole.lie reads refl phase in
    (went.0, stops_either old v (with_disks old.commit disks) plan last before runs is (its_group old v plan last before runs is) went.1)

-- the same of any state with other disks
pub read_steps : (old new : CoreState) (v w : View) (step : Step) (given : Given) (reply : Reply) (last : Uberblock) (before : List Uberblock) → PhaseLaws → IsRunning old v last before
    → Link old v step given reply new w → MissesNone new.commit → OnlyReads old.commit.store.disks new.commit.store.disks → new.commit ≡ with_disks old.commit new.commit.store.disks
    → StepsOn old v new w last before
read_steps old new v w step given reply last before laws runs link misses reads rest =
    let disks : Disks = new.commit.store.disks in
    let went = reads_by old v disks last before old.commit.planned laws runs reads refl runs.stand in
    let none : NoneIsOut new.commit = subst (λ (s : State). NoneIsOut s) (sym rest) runs.whole.none in
    record {
      later = last;
      earlier = before;
      next = inl (refl, refl);
      runs = runs_still old new v w step given reply last before runs link
          (whole_still old.commit new.commit runs.whole none misses (ap (λ s. length s.store.out) rest) reads.starts (ap (λ s. shapes_of s.store.spaces) rest))
          (ap (λ s. s.stamp) rest) (ap (λ s. s.kept) rest) (subst (λ (s : State). StandAt s s.planned last before) (sym rest) went.0);
      stops = went.1;
    }

no_reads : (disks : Disks) → OnlyReads disks disks
no_reads disks = record { starts = refl; newer = []; calls = refl; are_reads = tt }

-- nothing was done
pub stays : (old new : CoreState) (v w : View) (step : Step) (given : Given) (reply : Reply) (last : Uberblock) (before : List Uberblock) → PhaseLaws → IsRunning old v last before
    → Link old v step given reply new w → MissesNone new.commit → new.commit ≡ old.commit → StepsOn old v new w last before
stays old new v w step given reply last before laws runs link misses same =
    let disks : new.commit.store.disks ≡ old.commit.store.disks = ap (λ s. s.store.disks) same in
    read_steps old new v w step given reply last before laws runs link misses
    (subst (λ (d : Disks). OnlyReads old.commit.store.disks d) (sym disks) (no_reads old.commit.store.disks))
    (same ∙ ap (λ (d : Disks). with_disks old.commit d) (sym disks))

-- ---- plans

-- each disk in use is to be flushed before the plan's slots
in_use_there : (old : CoreState) (v : View) (last : Uberblock) (before : List Uberblock) (disk : ℕ) → IsRunning old v last before → disk < length old.commit.store.disks.starts
    → Contains (in_use_of old.commit) disk
in_use_there old v last before disk runs there =
    filtered (λ (d : ℕ). not (is_out old.commit.store.out d)) (disks_of (vdevs_of old.commit.store.spaces)) disk
    (ap not (runs.whole.none disk)) (runs.whole.covered disk there)

pub used_below : (out : List Bool) (disk : ℕ) → InUse out disk → disk < length out
used_below [] disk used = absurd (cc)
used_below (flag ∷ out) zero used = omega arith
used_below (flag ∷ out) (suc disk) used = let rest = used_below out disk used in omega (arith, rest)

plan_stands : (old : CoreState) (v : View) (new : State) (last : Uberblock) (before : List Uberblock) (planned : Option Planned) → IsRunning old v last before
    → PlansFrom old.commit new → new.planned ≡ planned → AreInBlocks (filled_trees new.store.spaces new.store.disks) new.store.out new.store.disks last before
    → AreSettled new.store.out new.store.disks.calls → StandAt new planned last before
plan_stands old v new last before None runs from is phase settled = record { blocks = phase; settled = settled }
plan_stands old v new last before (Some plan) runs from is phase settled = inl (record {
  blocks = phase;
  flushed = λ disk used.
      let below : disk < length old.commit.store.out = used_below old.commit.store.out disk (subst (λ (out : List Bool). InUse out disk) from.out used) in
      inl (subst (λ (them : List ℕ). Contains them disk) (sym (from.flushes plan is))
      (in_use_there old v last before disk runs (omega (arith, below, runs.whole.count))));
})

pub plans_on : (timestamp : ℕ) (old new : CoreState) (v w : View) (step : Step) (given : Given) (reply : Reply) (last : Uberblock) (before : List Uberblock) → PhaseLaws → IsRunning old v last before
    → Link old v step given reply new w → MissesNone new.commit → ReadsAndPlans timestamp old.commit new.commit → StepsOn old v new w last before
plans_on timestamp old new v w step given reply last before laws runs link misses plans =
    let from : PlansFrom old.commit new.commit = plans.from in
    let phase : StandAt old.commit None last before = subst (λ (o : Option Planned). StandAt old.commit o last before) plans.unplanned runs.stand in
    let went = laws.plans old.commit new.commit last before runs.whole.lie from plans.reads phase.blocks in
    let settled : AreSettled new.commit.store.out new.commit.store.disks.calls =
    subst (λ (out : List Bool). AreSettled out new.commit.store.disks.calls) (sym from.out)
    (still_settled laws old.commit new.commit.store.disks last before plans.reads phase.settled) in
    let none : NoneIsOut new.commit = λ disk. ap (λ out. is_out out disk) from.out ∙ runs.whole.none disk in
    record {
      later = last;
      earlier = before;
      next = inl (refl, refl);
      runs = runs_still old new v w step given reply last before runs link
          (whole_still old.commit new.commit runs.whole none misses (ap length from.out) plans.reads.starts from.shapes) from.stamp from.kept
          (plan_stands old v new.commit last before new.commit.planned runs from refl went.0 settled);
      stops = stops_filled old v new.commit.store.disks last before runs went.1;
    }

-- ---- device calls

-- a step that goes on with its plan
pub goes_on : (old new : CoreState) (v w : View) (step : Step) (given : Given) (reply : Reply) (plan after : Planned) (last : Uberblock) (before : List Uberblock) → PhaseLaws
    → IsRunning old v last before → Link old v step given reply new w → MissesNone new.commit → WritesPlan old.commit new.commit → NoneIsOut new.commit → old.commit.planned ≡ Some plan
    → new.commit.planned ≡ Some after → StepsOn old v new w last before
goes_on old new v w step given reply plan after last before laws runs link misses writes none is still =
    let out : new.commit.store.out ≡ old.commit.store.out =
    same_flags old.commit.store.out new.commit.store.out writes.out.count runs.whole.none none in
    let phase : IsInPhase old.commit plan last before = subst (λ (o : Option Planned). StandAt old.commit o last before) is runs.stand in
    let went = laws.go_on old.commit new.commit plan after last before (good old v plan last before runs is)
    (record { writes = writes; planned = is; still = still; out = out }) phase in
    record {
      later = last;
      earlier = before;
      next = inl (refl, refl);
      runs = runs_still old new v w step given reply last before runs link
          (whole_still old.commit new.commit runs.whole none misses writes.out.count (writes.makes plan is).starts writes.shapes) writes.stamp (writes.stays plan after is still)
          (subst (λ (o : Option Planned). StandAt new.commit o last before) (sym still) went.0);
      stops = stops_either old v new.commit plan last before runs is (its_group old v plan last before runs is) went.1;
    }

-- ---- a group that is committed

goes_committed : (v : View) (given : Given) (phase : Phase) (rest : List DueCall) (w : View) → GoesOn v given phase rest w → w.committed ≡ v.committed
goes_committed v given phase rest w (inl well) = ap (λ (u : View). u.committed) well.after
goes_committed v given phase rest w (inr without) = ap (λ (u : View). u.committed) without.after

-- only a step that is answered so commits a group
answered_so : (v : View) (given : Given) (reply : Reply) (w : View) → MayAnswer v given steps.Device reply w → ¬ (w.committed ≡ v.committed)
    → (group : ℕ) × (reply ≡ Committed group)
answered_so v given (Held n) w a other = absurd a
answered_so v given (Receipt n) w a other = absurd a
answered_so v given Released w a other = absurd a
answered_so v given (Closed n) w a other = absurd a
answered_so v given (Quiesced n) w a other = absurd a
answered_so v given (PlannedReply n) w a other = absurd a
answered_so v given (Moved phase) w a other = absurd (other (goes_committed v given phase a.0 w a.2))
answered_so v given (Replan disk) w a other = absurd (other (ap (λ (u : View). u.committed) a.3))
answered_so v given (Committed group) w a other = (group, refl)
answered_so v given Out w a other = absurd a
answered_so v given (Bytes bytes) w a other = absurd a
answered_so v given (Refused cause) w a other = absurd (other (ap (λ (u : View). u.committed) a.4))

pub committed_so : (v : View) (given : Given) (reply : Reply) (w : View) → StepOf v given steps.Device reply w → ¬ (w.committed ≡ v.committed) → (group : ℕ) × (reply ≡ Committed group)
committed_so v given reply w is other = ⊎_elim
    (λ refused. absurd (other (ap (λ (u : View). u.committed) refused.unchanged)))
    (λ rest. ⊎_elim (λ lacks. absurd (other (ap (λ (u : View). u.committed) lacks.leaves))) (λ answered. answered_so v given reply w answered.answered other) rest) is

-- each slot of the plan's uberblock stands, and each disk is flushed
pub record HasShown (old new : State) (plan : Planned) : Type 0 where
  pub shown : (which label : ℕ) → which < length new.store.disks.starts → label < 4 → ShowsIn new.store.disks plan.uberblock (record { disk = which; label = label })
  pub settled : AreSettled old.store.out new.store.disks.calls

in_use_now : (old new : CoreState) (v w : View) (step : Step) (given : Given) (reply : Reply) (disk : ℕ) → Link old v step given reply new w → IsWhole new.commit
    → disk < length new.commit.store.disks.starts → Contains (disks_in_use w) disk
in_use_now old new v w step given reply disk link whole there =
    filtered (λ (d : ℕ). not (w.out d)) (disks_of w.vdevs) disk (ap not (link.represents.backs.out disk ∙ whole.none disk))
    (subst (λ (vdevs : List Vdev). Contains (disks_of vdevs) disk) (sym link.represents.backs.vdevs) (whole.covered disk there))

pub has_shown : (old new : CoreState) (v w : View) (given : Given) (reply : Reply) (plan : Planned) (group : ℕ) → Link old v steps.Device given reply new w → IsWhole new.commit
    → length old.commit.store.out ≡ length new.commit.store.disks.starts → old.commit.planned ≡ Some plan → reply ≡ Committed group → HasShown old.commit new.commit plan
has_shown old new v w given reply plan group link whole count is answer =
    let shows : ShowsGroup (Committed group) old w new = subst (λ (r : Reply). ShowsGroup r old w new) answer link.shown in
    let flushed : AreFlushed (Committed group) w new = subst (λ (r : Reply). AreFlushed r w new) answer link.flushed in
    record {
      shown = λ which label there low.
          subst (λ (u : Uberblock). ShowsIn new.commit.store.disks u (record { disk = which; label = label })) (sym (shows.3 plan is))
          (shows.4 (record { disk = which; label = label }) (in_use_now old new v w steps.Device given reply which link whole there) low);
      settled = λ which used.
          flushed_settled new.commit.store.disks which
          (flushed which (in_use_now old new v w steps.Device given reply which link whole (omega (arith, used_below old.commit.store.out which used, count))));
    }

pub slots_stand : (old new : State) (plan : Planned) → HasShown old new plan
    → SlotsStand (content new.store.disks) new.store.disks.starts plan.uberblock (in_use old.store.out) (length new.store.disks.starts)
unfolding spelled slot_at
slots_stand old new plan has which label below low used i within = has.shown which label below low i within

shows_slot : (new : State) (u : Uberblock) (which : ℕ) → Fits u → ShowsIn new.store.disks u (record { disk = which; label = 0 })
    → Shows (content new.store.disks which) (slot_at (length (bytes_of new.store.disks.starts which)) 0 (slot_number u.group)) (slot_number u.group) u
unfolding spelled slot_at
shows_slot new u which fits shown = record { fits = fits; number = refl; bytes = λ i within. shown i within }

-- the slots are written only behind the blocks and their flushes: where they stand, that was so
pub was_in_slots : (old : CoreState) (v : View) (new : State) (plan : Planned) (last : Uberblock) (before : List Uberblock) → PhaseLaws → IsRunning old v last before
    → old.commit.planned ≡ Some plan → WritesPlan old.commit new → HasShown old.commit new plan → new.store.disks.starts ≡ old.commit.store.disks.starts
    → IsInPhase old.commit plan last before → IsInSlots old.commit plan last before
was_in_slots old v new plan last before laws runs is writes has starts (inr slots) = slots
was_in_slots old v new plan last before laws runs is writes has starts (inl early) =
    let s : State = old.commit in
    let may : IsGoodPlan s plan last = good old v plan last before runs is in
    let fits : Fits plan.uberblock = writes.fits plan is in
    let used : InUse s.store.out 0 = get_in_use s.store.out 0 (omega (arith, runs.whole.some, runs.whole.count)) (runs.whole.none 0) in
    let unseen : ¬ ((s.store.due ≡ []) × (plan.behind.flushes.items ≡ [])) → IsInSlots s plan last before =
    λ not_yet.
    let blocks : Makes (unfilled_write s.store.spaces) s.store.disks new.store.disks =
    Makes-wider (may_write s plan) (unfilled_write s.store.spaces) s.store.disks new.store.disks
    (λ which at bytes write. ⊎_elim (λ block. may.unfilled which at bytes block) (λ slot. absurd (not_yet (slot.0, slot.1))) write) (writes.makes plan is) in
    let went = laws.blocks s.store.spaces s.store.spaces s.store.out s.store.disks new.store.disks last before runs.whole.lie (λ disk i filled. filled) early.blocks blocks in
    absurd (laws.unseen (filled_trees s.store.spaces new.store.disks) s.store.out new.store.disks last before went.0 0 0 (slot_number plan.uberblock.group) plan.uberblock used
    (record { is_label = omega arith; in_ring = slot_number_small plan.uberblock }) may.next
    (shows_slot new plan.uberblock 0 fits (has.shown 0 0 (omega (arith, runs.whole.some, ap length starts)) (omega arith)))) in
    ⊎_elim
    (λ due. ⊎_elim
    (λ flushes. begins laws.begin s plan last before may fits due flushes early)
    (λ some. unseen (λ none. some none.1))
    (is_empty plan.behind.flushes.items))
    (λ some. unseen (λ none. some none.0))
    (is_empty s.store.due)
