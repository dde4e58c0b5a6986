-- Disks that are taken out of use.
use Rattle.std.proofs.Common.{◌≡◌, ◌⊎◌, ⊎_elim, inl, inr, ℕ, zero, suc, ◌+◌, ◌≤◌, ◌<◌, Bool, true, false, true≢false, List, [], ◌∷◌, ◌++◌, length, Option, Some, None, Contains, refl, sym, ap, ◌∙◌, subst, arith, take}
use Rattle.std.specs.Prelude.{map, filter, not, nat_le, nat_lt, slice_get, ◌==◌, ◌&&◌, ◌||◌, if◌then◌else◌}
use Rattle.std.specs.List.{AllByRecursion, list_all, list_any}
use Rattle.std.proofs.lemmas.Bool.Decides.{nat_tests}
use Rattle.std.proofs.lemmas.Grind.{flat_map-append}
use Rattle.std.proofs.lemmas.List.{append-nil}
use Rattle.std.proofs.lemmas.List.Folds.{list_any-append, list_all-append}
use Rattle.model_disk.specs.Joint.{Disks}
use Rattle.raidz_io.specs.Writes.{ColumnWrite}
use Rattle.block_store.specs.Blocks.{Contents}
use Rattle.block_store.specs.Places.{shapes_of, HaveMarks}
use Rattle.block_store.specs.Places.{filled as filled_marks}
use Rattle.block_store.specs.Plans.{Plans}
use Rattle.block_store.specs.Spaces.{VdevSpace}
use Rattle.block_store.specs.Store.{Store, IsOutToo, is_out}
use Rattle.disk_set.specs.declared.behind.Behind.{Behind}
use Rattle.disk_set.specs.declared.behind.SlotWrite.{SlotWrite}
use Rattle.pool_model.specs.declared.step.Phase.TheVariants.{BlocksFlush, Slots, SlotsFlush}
use Rattle.pool_model.specs.Flow.{counted_on}
use Rattle.pool_model.specs.Machine.{is_late, is_late_sync, calls_without, dropped, gone_out, without_disk}
use Rattle.pool_model.specs.View.{View, Vdev, Sync, Idle, Unplanned, Due, DueCall, counted, disks_of, disks_in_use, is_planned}
use Rattle.pool_model.proofs.Answering.{none_planned}
use Rattle.pool_commit.specs.declared.kept.Kept.{Kept}
use Rattle.pool_commit.specs.declared.kept.Planned.{Planned}
use Rattle.pool_commit.specs.declared.stamp.Stamp.{Stamp}
use Rattle.pool_commit.specs.Absence.{LeavesPlan, TakesOut}
use Rattle.pool_commit.specs.Calls.{IsFlushed}
use Rattle.pool_commit.specs.Backs.{AreStamped, Backs, HasPlan, IsPlanOf, IsToFlush, SpellsKept, StoresReach, kept_pool, left_calls}
use Rattle.pool_commit.specs.Config.{vdevs_of}
use Rattle.pool_commit.specs.HasDisks.{AreBelow, AreSlotsBelow, IsPlannedOn}
use Rattle.pool_commit.specs.Making.{writes_left, behind_left, flushes_left, slots_left, IsSameStore}
use Rattle.pool_commit.specs.Progress.{LeftOut, with_plan}
use Rattle.pool_commit.specs.Slots.{ShowsIn}
use Rattle.pool_commit.specs.State.{State, group_at}
use Rattle.pool_commit.proofs.Made.{stale_still}
use Rattle.pool_commit.proofs.Disks.{take_next}
use Rattle.pool_commit.proofs.Phasing.{none_to_flush}
use Rattle.pool_commit.proofs.Progressing.{all_filtered, all_through, carried, fewer, filtered_behind, in_use_is, kept_others, kept_slots, no_length, not_that, outs_are, vdevs_by_shapes}
use Rattle.pool_commit.proofs.Reaching.{no_plan, reached_over, same_spaces}

-- ---- whether a vdev has the disk

abbrev one_of : ℕ → List ℕ → Bool
one_of disk disks = list_any (λ d. d == disk) disks

or_nothing : (b : Bool) → (b || false) ≡ b
or_nothing true = refl
or_nothing false = refl

counted_none : (first n disk : ℕ) → (disk < first) ⊎ (first + n ≤ disk) → one_of disk (counted first n) ≡ false
counted_none first zero disk aside = refl
counted_none first (suc n) disk aside =
    list_any-append (λ d. d == disk) (counted first n) ((first + n) ∷ [])
    ∙ (λ i. counted_none first n disk (⊎_elim inl (λ behind. inr (omega (arith, behind))) aside) i || (or_nothing (first + n == disk) ∙ other) i)
  where
    other : (first + n == disk) ≡ false
    other = grind (arith, nat_tests, aside)

counted_one : (first n disk : ℕ) → first ≤ disk → disk < first + n → one_of disk (counted first n) ≡ true
counted_one first zero disk from below = absurd (omega (arith, from, below))
counted_one first (suc n) disk from below =
    list_any-append (λ d. d == disk) (counted first n) ((first + n) ∷ [])
    ∙ ⊎_elim
    (λ (same : disk ≡ first + n). ap (λ b. one_of disk (counted first n) || b) (or_nothing (first + n == disk) ∙ last same) ∙ or_true (one_of disk (counted first n)))
    (λ (before : disk < first + n). ap (λ b. b || one_of disk ((first + n) ∷ [])) (counted_one first n disk from before))
    split
  where
    last : disk ≡ first + n → (first + n == disk) ≡ true
    last same = grind (arith, nat_tests, same)

    or_true : (b : Bool) → (b || true) ≡ true
    or_true true = refl
    or_true false = refl

    split : (disk ≡ first + n) ⊎ (disk < first + n)
    split = grind (arith, below)

-- one vdev more
disks_more : (vdevs : List Vdev) (i disk : ℕ) (vdev : Vdev) → slice_get vdevs i ≡ Some vdev
    → one_of disk (disks_of (take (suc i) vdevs)) ≡ (one_of disk (disks_of (take i vdevs)) || one_of disk (counted vdev.first vdev.children))
disks_more vdevs i disk vdev at =
    ap (λ vs. one_of disk (disks_of vs)) (take_next vdevs i vdev at)
    ∙ ap (one_of disk) (flat_map-append (λ (v : Vdev). counted v.first v.children) (take i vdevs) (vdev ∷ []) ∙ ap (λ ds. disks_of (take i vdevs) ++ ds) (append-nil (counted vdev.first vdev.children)))
    ∙ list_any-append (λ d. d == disk) (disks_of (take i vdevs)) (counted vdev.first vdev.children)

pub none_more : (vdevs : List Vdev) (i disk : ℕ) (vdev : Vdev) → slice_get vdevs i ≡ Some vdev → (disk < vdev.first) ⊎ (vdev.first + vdev.children ≤ disk)
    → one_of disk (disks_of (take i vdevs)) ≡ false → one_of disk (disks_of (take (suc i) vdevs)) ≡ false
none_more vdevs i disk vdev at aside before =
    disks_more vdevs i disk vdev at ∙ (λ j. before j || counted_none vdev.first vdev.children disk aside j)

-- one vdev settles it
pub one_there : (vdevs : List Vdev) (i disk : ℕ) (vdev : Vdev) → slice_get vdevs i ≡ Some vdev → vdev.first ≤ disk → disk < vdev.first + vdev.children
    → one_of disk (disks_of vdevs) ≡ true
one_there [] i disk vdev at from below = let no : None ≡ Some vdev = at in absurd (cc)
one_there (v ∷ vdevs) zero disk vdev at from below =
    let same : v ≡ vdev = cc in
    list_any-append (λ d. d == disk) (counted v.first v.children) (disks_of vdevs)
    ∙ ap (λ b. b || one_of disk (disks_of vdevs))
    (subst (λ (w : Vdev). one_of disk (counted w.first w.children) ≡ true) (sym same) (counted_one vdev.first vdev.children disk from below))
one_there (v ∷ vdevs) (suc i) disk vdev at from below =
    list_any-append (λ d. d == disk) (counted v.first v.children) (disks_of vdevs)
    ∙ right (one_of disk (counted v.first v.children)) (one_of disk (disks_of vdevs)) (one_there vdevs i disk vdev at from below)
  where
    right : (a b : Bool) → b ≡ true → (a || b) ≡ true
    right true b e = refl
    right false b e = e

-- ---- how late a plan is

unplanned_late : (sync : Sync) → is_planned sync ≡ false → is_late_sync sync ≡ false
unplanned_late Idle none = refl
unplanned_late Unplanned none = refl
unplanned_late (Due calls) none = absurd (true≢false none)

-- one call before the slots is enough
early_behind : (before rest : List DueCall) (call : DueCall) → is_late call.phase ≡ false → list_all (λ (c : DueCall). is_late c.phase) (before ++ call ∷ rest) ≡ false
early_behind [] rest call early = ap (λ b. b && list_all (λ (c : DueCall). is_late c.phase) rest) early
early_behind (first ∷ before) rest call early = both (is_late first.phase) (list_all (λ (c : DueCall). is_late c.phase) (before ++ call ∷ rest)) (early_behind before rest call early)
  where
    both : (a b : Bool) → b ≡ false → (a && b) ≡ false
    both true b e = e
    both false b e = refl

early_calls : (counts slot_counts : ℕ → ℕ) (due : List ColumnWrite) (behind : Behind) → (0 < length due) ⊎ (0 < length behind.flushes.items)
    → list_all (λ (call : DueCall). is_late call.phase) (left_calls counts slot_counts due behind) ≡ false
early_calls counts slot_counts (write ∷ due) behind early = refl
early_calls counts slot_counts [] behind early = flushes behind.flushes.items refl (⊎_elim (λ none. absurd (omega (arith, none))) (λ some. some) early)
  where
    flushes : (items : List ℕ) → behind.flushes.items ≡ items → 0 < length behind.flushes.items
        → list_all (λ (call : DueCall). is_late call.phase) (behind_left slot_counts behind) ≡ false
    flushes [] are some = absurd (let none = ap length are in omega (arith, some, none))
    flushes (disk ∷ rest) are some =
        ap (λ (them : List ℕ). list_all (λ (call : DueCall). is_late call.phase) (flushes_left BlocksFlush them ++ (slots_left slot_counts behind.slots.items ++ flushes_left SlotsFlush behind.slot_flushes.items))) are

late_slots : (counts : ℕ → ℕ) (slots : List SlotWrite) → list_all (λ (call : DueCall). is_late call.phase) (slots_left counts slots) ≡ true
late_slots counts [] = refl
late_slots counts (write ∷ slots) = late_slots (counted_on counts write.disk) slots

late_flushes : (flushes : List ℕ) → list_all (λ (call : DueCall). is_late call.phase) (flushes_left SlotsFlush flushes) ≡ true
late_flushes [] = refl
late_flushes (disk ∷ flushes) = late_flushes flushes

late_calls : (counts slot_counts : ℕ → ℕ) (store : Store) (behind : Behind) → store.due ≡ [] → behind.flushes.items ≡ []
    → list_all (λ (call : DueCall). is_late call.phase) (left_calls counts slot_counts store.due behind) ≡ true
late_calls counts slot_counts store behind none flushed =
    none_to_flush (λ calls. list_all (λ (call : DueCall). is_late call.phase) calls ≡ true) counts slot_counts store behind none flushed
    (list_all-append (λ (call : DueCall). is_late call.phase) (slots_left slot_counts behind.slots.items) (flushes_left SlotsFlush behind.slot_flushes.items)
    ∙ (λ i. late_slots slot_counts behind.slots.items i && late_flushes behind.slot_flushes.items i))

-- ---- what backs the view

-- the view without the disk, and without a plan
dropped_backs : (s : State) (mid : Store) (v : View) (disk : ℕ) (new : State) (planned : Contents) (backs : Backs s v) → mid.spaces ≡ s.store.spaces
    → IsOutToo s.store.out disk mid.out → shapes_of new.store.spaces ≡ shapes_of mid.spaces → HaveMarks mid.spaces filled_marks new.store.spaces filled_marks
    → new.store.out ≡ mid.out → new.store.spans.stale ≡ s.store.spans.stale → Plans new.store backs.blocks.stored planned → new.kept ≡ s.kept → new.planned ≡ None → new.stamp ≡ s.stamp
    → Backs new (dropped v disk)
dropped_backs s mid v disk new planned backs spaces too shapes marks out stale plans kept none stamp = record {
  vdevs = backs.vdevs ∙ ap (λ (them : List VdevSpace). vdevs_of them) (sym spaces) ∙ sym (vdevs_by_shapes mid.spaces new.store.spaces shapes);
  slots = backs.slots;
  out = λ other. outs_are s mid v disk backs.out too other ∙ ap (λ (outs : List Bool). is_out outs other) (sym out);
  stale = stale_still s.store new.store v stale backs.stale;
  committed = ap (λ (k : Kept). k.committed) kept ∙ backs.committed;
  stamped = subst (λ (x : Stamp). AreStamped x new.kept) (sym stamp) (subst (λ (k : Kept). AreStamped s.stamp k) (sym kept) backs.stamped);
  blocks = record {
    stored = backs.blocks.stored;
    planned = planned;
    plans = plans;
    kept = subst (λ (k : Kept). (group : ℕ) → SpellsKept backs.blocks.stored group (group_at k group) (kept_pool v group)) (sym kept) backs.blocks.kept;
    plan = subst (λ (o : Option Planned). IsPlanOf new planned o (dropped v disk)) (sym none) (none_planned v.sync);
    reached = subst (λ (k : Kept). StoresReach new.store.spaces backs.blocks.stored k (kept_pool v)) (sym kept)
        (reached_over mid.spaces new.store.spaces backs.blocks.stored s.kept (kept_pool v) shapes marks
        (reached_over s.store.spaces mid.spaces backs.blocks.stored s.kept (kept_pool v) (ap shapes_of spaces)
        (same_spaces s.store.spaces mid.spaces filled_marks spaces) backs.blocks.reached));
    plan_reached = no_plan new.store.spaces _ backs.blocks.stored planned new.planned (dropped v disk) none;
  };
}

-- where that is the view once the disk is out
as_gone : (s : State) (v : View) (disk : ℕ) → is_late_sync v.sync ≡ false → Backs s (dropped v disk) → Backs s (gone_out v disk)
as_gone s v disk early backs = subst (λ (b : Bool). Backs s (if b then record (without_disk v disk) { sync = calls_without v.sync disk } else dropped v disk)) (sym early) backs

-- what is left of a plan on other disks
pub left_on_others : (counts slot_counts : ℕ → ℕ) (store mid : Store) (disk : ℕ) (old behind : Behind) → store.due ≡ [] → mid.due ≡ [] → old.flushes.items ≡ []
    → LeftOut disk old behind
    → left_calls counts slot_counts mid.due behind ≡ filter (λ (call : DueCall). not (call.disk == disk)) (left_calls counts slot_counts store.due old)
left_on_others counts slot_counts store mid disk old behind none still flushed (flushes, slots, ends) =
    none_to_flush (λ calls. calls ≡ filter (λ (call : DueCall). not (call.disk == disk)) (left_calls counts slot_counts store.due old)) counts slot_counts mid behind still
    (ap (λ deque. deque.items) flushes ∙ flushed)
    (none_to_flush (λ calls. slots_left slot_counts behind.slots.items ++ flushes_left SlotsFlush behind.slot_flushes.items ≡ filter (λ (call : DueCall). not (call.disk == disk)) calls)
    counts slot_counts store old none flushed
    ((λ i. slots_left slot_counts (slots i) ++ flushes_left SlotsFlush (ends i)) ∙ filtered_behind disk slot_counts old.slots.items old.slot_flushes.items))

still_in : (before same now : Bool) → before ≡ false → not same ≡ true → now ≡ (before || same) → now ≡ false
still_in false false now p q r = r
still_in true same now p q r = absurd (true≢false p)
still_in false true now p q r = absurd (true≢false (sym q))

-- from the slots on the commit goes on without the disk
late_backs : (s : State) (mid : Store) (plan : Planned) (v : View) (disk : ℕ) (behind : Behind) (backs : Backs (with_plan s plan) v) → IsSameStore s.store mid
    → mid.disks ≡ s.store.disks → IsOutToo s.store.out disk mid.out → s.store.due ≡ [] → mid.due ≡ [] → plan.behind.flushes.items ≡ [] → LeftOut disk plan.behind behind
    → Backs (record s { store = mid; planned = Some (record plan { behind = behind }) }) (gone_out v disk)
late_backs s mid plan v disk behind backs same disks too none still flushed left =
    subst (λ (b : Bool). Backs after (if b then record (without_disk v disk) { sync = calls_without v.sync disk } else dropped v disk)) (sym late)
    (subst (λ (sync : Sync). Backs after (record (without_disk v disk) { sync = sync })) (ap Due rest ∙ ap (λ sync. calls_without sync disk) (sym has.sync)) on_others)
  where
    has : HasPlan (with_plan s plan) backs.blocks.planned plan v
    has = backs.blocks.plan

    later : Planned
    later = record plan { behind = behind }

    after : State
    after = record s { store = mid; planned = Some later }

    late : is_late_sync v.sync ≡ true
    late = ap is_late_sync has.sync ∙ late_calls has.counts has.slot_counts s.store plan.behind none flushed

    rest : left_calls has.counts has.slot_counts mid.due behind
        ≡ filter (λ (call : DueCall). not (call.disk == disk)) (left_calls has.counts has.slot_counts s.store.due plan.behind)
    rest = left_on_others has.counts has.slot_counts s.store mid disk plan.behind behind none still flushed left

    to_flush : (other : ℕ) → Contains (disks_in_use (record v { out = λ d. (d == disk) || v.out d })) other → IsToFlush mid behind other
    to_flush other used = ⊎_elim
        (λ held. inl (subst (λ (xs : List ℕ). Contains xs other) (sym left.2) (kept_others disk plan.behind.slot_flushes.items other (not_that v disk other used) held)))
        (λ done. inr (still, left.1 ∙ ap (filter (λ (w : SlotWrite). not (w.disk == disk))) done.1, subst (λ (d : Disks). IsFlushed d other) (sym disks) done.2))
        (has.to_flush other (fewer v disk other used))

    shown : (write : SlotWrite) → Contains (disks_in_use (record v { out = λ d. (d == disk) || v.out d })) write.disk → write.label < 4
        → Contains behind.slots.items write ⊎ ((mid.due ≡ []) × ShowsIn mid.disks plan.uberblock write)
    shown write used label = ⊎_elim
        (λ held. inl (subst (λ (xs : List SlotWrite). Contains xs write) (sym left.1) (kept_slots disk plan.behind.slots.items write (not_that v disk write.disk used) held)))
        (λ shows. inr (still, subst (λ (d : Disks). ShowsIn d plan.uberblock write) (sym disks) shows.1))
        (has.shown write (fewer v disk write.disk used) label)

    in_use : AllByRecursion (λ (call : DueCall). is_out mid.out call.disk ≡ false) (left_calls has.counts has.slot_counts mid.due behind)
    in_use =
        subst (AllByRecursion (λ (call : DueCall). is_out mid.out call.disk ≡ false)) (sym rest)
        (all_filtered (λ (call : DueCall). is_out mid.out call.disk ≡ false) (λ (call : DueCall). not (call.disk == disk))
        (left_calls has.counts has.slot_counts s.store.due plan.behind)
        (all_through (λ (call : DueCall). is_out s.store.out call.disk ≡ false) (λ (call : DueCall). not (call.disk == disk) ≡ true → is_out mid.out call.disk ≡ false)
        (λ call is apart. still_in (is_out s.store.out call.disk) (call.disk == disk) (is_out mid.out call.disk) is apart (too.disks call.disk))
        (left_calls has.counts has.slot_counts s.store.due plan.behind) has.in_use))

    on_others : Backs after (record (without_disk v disk) { sync = Due (left_calls has.counts has.slot_counts mid.due behind) })
    on_others = carried s mid plan later v (λ d. (d == disk) || v.out d) has.counts has.slot_counts backs same refl refl (outs_are s mid v disk backs.out too) to_flush shown in_use

-- a disk goes out, and there is a plan
pub leaves_backs : (s : State) (mid : Store) (plan : Planned) (v : View) (disk : ℕ) (new : State) → Backs (with_plan s plan) v → s.planned ≡ None → IsSameStore s.store mid
    → mid.disks ≡ s.store.disks → mid.due ≡ s.store.due → IsOutToo s.store.out disk mid.out → LeavesPlan disk (record s { store = mid }) plan new → Backs new (gone_out v disk)
leaves_backs s mid plan v disk new backs unplanned same disks due too (inl (early, drop, kept, none, stamp)) =
    as_gone new v disk
    (ap is_late_sync backs.blocks.plan.sync
    ∙ early_calls backs.blocks.plan.counts backs.blocks.plan.slot_counts s.store.due plan.behind (⊎_elim (λ some. inl (subst (λ (d : List ColumnWrite). 0 < length d) due some)) inr early))
    (dropped_backs (with_plan s plan) mid v disk new backs.blocks.stored backs same.spaces too drop.shapes drop.filled_by drop.out (drop.stale ∙ same.stale)
    (drop.plans backs.blocks.stored backs.blocks.planned (same.plans backs.blocks.stored backs.blocks.planned backs.blocks.plans))
    kept (none ∙ unplanned) stamp)
leaves_backs s mid plan v disk new backs unplanned same disks due too (inr (none, flushed, behind, left, is)) =
    subst (λ (x : State). Backs x (gone_out v disk)) (sym is) (late_backs s mid plan v disk behind backs same disks too (sym due ∙ none) none flushed left)

-- there is no plan
pub unplanned_backs : (s : State) (mid : Store) (v : View) (disk : ℕ) → Backs s v → s.planned ≡ None → IsSameStore s.store mid → IsOutToo s.store.out disk mid.out
    → Backs (record s { store = mid }) (gone_out v disk)
unplanned_backs s mid v disk backs none same too =
    as_gone (record s { store = mid }) v disk
    (unplanned_late v.sync (subst (λ (o : Option Planned). IsPlanOf s backs.blocks.planned o v) none backs.blocks.plan))
    (dropped_backs s mid v disk (record s { store = mid }) backs.blocks.planned backs same.spaces too refl (same_spaces mid.spaces mid.spaces filled_marks refl) refl same.stale
    (same.plans backs.blocks.stored backs.blocks.planned backs.blocks.plans) refl none refl)

-- ---- what is left of a plan

fewer_below : (count disk : ℕ) (flushes : List ℕ) → AreBelow count flushes → AreBelow count (filter (λ (flush : ℕ). not (flush == disk)) flushes)
fewer_below count disk flushes below other held = below other (in_use_is (λ (flush : ℕ). not (flush == disk)) flushes other held).1

fewer_slots : (count disk : ℕ) (slots : List SlotWrite) → AreSlotsBelow count slots → AreSlotsBelow count (filter (λ (write : SlotWrite). not (write.disk == disk)) slots)
fewer_slots count disk slots below other held = below other (in_use_is (λ (write : SlotWrite). not (write.disk == disk)) slots other held).1

-- its disks are there
pub there_still : (count disk : ℕ) (plan : Planned) (behind : Behind) → IsPlannedOn count plan → LeftOut disk plan.behind behind → IsPlannedOn count (record plan { behind = behind })
there_still count disk plan behind there (flushes, slots, ends) = record {
  behind = record {
    flushes = subst (λ (items : List ℕ). AreBelow count items) (sym (ap (λ f. f.items) flushes)) there.behind.flushes;
    slots = subst (λ (items : List SlotWrite). AreSlotsBelow count items) (sym slots) (fewer_slots count disk plan.behind.slots.items there.behind.slots);
    slot_flushes = subst (λ (items : List ℕ). AreBelow count items) (sym ends) (fewer_below count disk plan.behind.slot_flushes.items there.behind.slot_flushes);
  };
  fits = there.fits;
}

same_plan : (plan other : Planned) → Some plan ≡ Some other → plan ≡ other
same_plan plan other e = cc

-- no call is made, and what is left is what there was, but for calls on the disk
pub leaves_takes : (s : State) (mid : Store) (plan : Planned) (disk : ℕ) (new : State) → Some plan ≡ s.planned → mid.disks ≡ s.store.disks → mid.spaces ≡ s.store.spaces
    → mid.spans.stale ≡ s.store.spans.stale → IsOutToo s.store.out disk mid.out → LeavesPlan disk (record s { store = mid; planned = None }) plan new → TakesOut disk s new
leaves_takes s mid plan disk new was disks spaces stale too (inl (early, drop, kept, none, stamp)) = record {
  disks = drop.disks ∙ disks;
  out = record { count = ap length drop.out ∙ too.count; disks = λ other. ap (λ (outs : List Bool). is_out outs other) drop.out ∙ too.disks other };
  stale = drop.stale ∙ stale;
  shapes = drop.shapes ∙ ap shapes_of spaces;
  kept = kept;
  stamp = stamp;
  plan = λ later is. absurd (let no : None ≡ Some later = sym none ∙ is in cc);
}
leaves_takes s mid plan disk new was disks spaces stale too (inr (none, flushed, behind, left, is)) =
    subst (λ (x : State). TakesOut disk s x) (sym is) (record {
      disks = disks;
      out = too;
      stale = stale;
      shapes = ap shapes_of spaces;
      kept = refl;
      stamp = refl;
      plan = λ later that. (
        plan,
        sym was,
        ap (λ (p : Planned). p.uberblock) (sym (same_plan (record plan { behind = behind }) later that)),
        ap (λ (p : Planned). p.after) (sym (same_plan (record plan { behind = behind }) later that)),
        subst (λ (p : Planned). LeftOut disk plan.behind p.behind) (same_plan (record plan { behind = behind }) later that) left,
      );
    })
