-- What backs the view after device calls of a plan.
use Rattle.std.proofs.Common.{rules, ◌≡◌, ◌≢◌, ◌⊎◌, ℕ, suc, ◌+◌, ◌≤◌, ◌<◌, ◌^◌, Bool, true, false, true≢false, List, [], ◌∷◌, ◌++◌, length, Option, Some, None, refl, sym, ap, ◌∙◌, subst, arith, inl, inr, ⊎_elim, Contains, append_assoc, lit≤, if◌then◌else◌}
use Rattle.std.specs.Prelude.{◌||◌, ◌==◌, map, min, filter, not}
use Rattle.std.specs.List.{AllByRecursion}
use Rattle.std.proofs.lemmas.Bool.{eq-eqb, eqb-true}
use Rattle.std.proofs.lemmas.Bool.Decides.{nat_tests}
use Rattle.std.proofs.lemmas.List.{append-nil, length-append, length-map}
use Rattle.std.proofs.lemmas.List.Elements.{filter-append}
use Rattle.model_disk.specs.Joint.{Disks}
use Rattle.block_store.specs.Places.{shapes_of}
use Rattle.block_store.specs.Places.{filled as filled_marks}
use Rattle.block_store.specs.declared.shape.VdevShape.{VdevShape}
use Rattle.block_store.specs.Spaces.{VdevSpace}
use Rattle.block_store.specs.Store.{Store, IsOutToo, is_out}
use Rattle.pool_commit.specs.declared.kept.KeptGroup.{KeptGroup}
use Rattle.pool_model.specs.declared.step.Phase.{Phase}
use Rattle.pool_model.specs.declared.step.Phase.TheVariants.{Blocks, BlocksFlush, Slots, SlotsFlush}
use Rattle.uberblock_ring.specs.declared.uberblock.Uberblock.{Uberblock}
use Rattle.pool_model.specs.View.{View, DueCall, Due, disks_in_use, disks_of, is_suspended, is_tolerable}
use Rattle.pool_model.specs.Flow.{counted_on}
use Rattle.pool_model.specs.Machine.{rank, is_late, Makes, MakesAll, GoesWithout, committed_next, dropped, without_disk}
use Rattle.pool_model.proofs.Answering.{none_planned}
use Rattle.pool_model.proofs.Plans.{same_elements, all_append}
use Rattle.pool_commit.specs.declared.device.Progress.{Progress}
use Rattle.pool_commit.specs.declared.device.Progress.TheVariants.{Moved, Done, Dropped}
use Rattle.block_pointer.specs.declared.block.Block.{Block}
use Rattle.disk_set.specs.declared.behind.Behind.{Behind}
use Rattle.pool_commit.specs.declared.kept.Kept.{Kept}
use Rattle.pool_commit.specs.declared.kept.Planned.{Planned}
use Rattle.disk_set.specs.declared.behind.SlotWrite.{SlotWrite}
use Rattle.pool_commit.specs.declared.stamp.Stamp.{Stamp}
use Rattle.pool_commit.specs.Backs.{AreStamped, Backs, IsPlanOf, IsToFlush, PlansReach, SpellsKept, StoresReach, kept_pool, left_calls, pool_after, SpellsGroup}
use Rattle.pool_commit.specs.Calls.{disk_call, made_between, faults_between, unread_between, called_between, IsFlushed}
use Rattle.pool_commit.specs.Config.{shown, vdevs_of}
use Rattle.pool_commit.specs.Making.{writes_left, behind_left, flushes_left, slots_left, IsSameStore, MadeCalls, FailedCall}
use Rattle.pool_commit.specs.Progress.{AreMade, Progresses, CarriesOn, LeavesOut, LeftOut, DropsPlan, StoresPlan, IsShifted, calls_left, given_calls, with_plan}
use Rattle.pool_commit.specs.Slots.{IsStampOf, ShowsIn, uberblock_of}
use Rattle.vdev_label.specs.Plain.{config_view}
use Rattle.vdev_label.specs.declared.label.Config.{Config}
use Rattle.pool_commit.specs.State.{State, group_at}
use Rattle.pool_commit.specs.Suspension.{lacks_disks}
use Rattle.block_store.proofs.Fewer.{fewer_planned}
use Rattle.block_store.specs.Blocks.{Contents}
use Rattle.pool_commit.proofs.Keeping.{first_low, groups_next, kept_next, last_at, last_kept}
use Rattle.pool_commit.proofs.SlotWrites.{cases_in, there_first, there_later}
use Rattle.pool_commit.proofs.Reaching.{among, forgets, kept_blocks, no_plan, reached_next, reached_over, same_spaces, spells_next}
use Rattle.pool_commit.proofs.Made.{stale_still, slots_count, writes_count}

-- only the shapes of the vdevs matter
pub vdevs_by_shapes : (spaces others : List VdevSpace) → shapes_of others ≡ shapes_of spaces → vdevs_of others ≡ vdevs_of spaces
vdevs_by_shapes spaces others e = ap (λ (shapes : List VdevShape). map (λ (shape : VdevShape). shown shape.vdev) shapes) e

-- more is left behind the calls that are looked at
pub with_tail : (old mid : Store) (left rest tail : List DueCall) (phase : Phase) (n : ℕ) → MadeCalls old mid left rest phase n → MadeCalls old mid (left ++ tail) (rest ++ tail) phase n
with_tail old mid left rest tail phase n so = record {
  same = so.same;
  out = so.out;
  made = so.made;
  seen = so.seen;
  order = ap (λ xs. xs ++ tail) so.order ∙ append_assoc so.made rest tail;
  count = so.count;
  in_phase = so.in_phase;
  faults = so.faults;
  unread = so.unread;
  called = so.called;
}

pub failed_tail : (old mid : Store) (left tail : List DueCall) (phase : Phase) (disk : ℕ) → FailedCall old mid left phase disk → FailedCall old mid (left ++ tail) phase disk
failed_tail old mid left tail phase disk failed = record {
  same = failed.same;
  out = failed.out;
  made = failed.made;
  before = failed.before;
  call = failed.call;
  rest = failed.rest ++ tail;
  seen = failed.seen;
  last = failed.last;
  on = failed.on;
  order = ap (λ xs. xs ++ tail) failed.order ∙ append_assoc failed.made failed.rest tail;
  few = failed.few;
  in_phase = failed.in_phase;
  faults = failed.faults;
  unread = failed.unread;
  called = failed.called;
}

-- with what is left behind it
pub failed_before : (old mid : Store) (left rest tail : List DueCall) (phase : Phase) (disk : ℕ) (failed : FailedCall old mid left phase disk) → failed.rest ≡ rest
    → (whole : FailedCall old mid (left ++ tail) phase disk) × (whole.rest ≡ rest ++ tail)
unfolding failed_tail
failed_before old mid left rest tail phase disk failed is = (failed_tail old mid left tail phase disk failed, ap (λ (calls : List DueCall). calls ++ tail) is)

pub in_none : {X : Type 0} (xs : List X) (x : X) → xs ≡ [] → ¬ Contains xs x
in_none {X = X} xs x none held = let there = subst (λ (l : List X). Contains l x) none held in absurd (omega (arith, there.1))

-- ---- the order of phases

-- no call is of an earlier phase
abbrev pub AreFrom : Phase → List DueCall → Type 0
AreFrom low calls = AllByRecursion (λ (call : DueCall). rank low ≤ rank call.phase) calls

pub all_from_first : (calls : List DueCall) → AreFrom Blocks calls
all_from_first [] = tt
all_from_first (call ∷ calls) = (omega arith, all_from_first calls)

flushes_from : (low phase : Phase) (flushes : List ℕ) → rank low ≤ rank phase → AreFrom low (flushes_left phase flushes)
flushes_from low phase [] le = tt
flushes_from low phase (disk ∷ flushes) le = (le, flushes_from low phase flushes le)

slots_from : (low : Phase) (counts : ℕ → ℕ) (slots : List SlotWrite) → rank low ≤ rank Slots → AreFrom low (slots_left counts slots)
slots_from low counts [] le = tt
slots_from low counts (write ∷ slots) le = (le, slots_from low (counted_on counts write.disk) slots le)

-- what is left behind the writes of blocks, from each phase on
pub behind_from : (counts : ℕ → ℕ) (behind : Behind) → AreFrom BlocksFlush (behind_left counts behind)
behind_from counts behind =
    all_append _ (flushes_left BlocksFlush behind.flushes.items) _ (flushes_from BlocksFlush BlocksFlush behind.flushes.items (lit≤ tt))
    (all_append _ (slots_left counts behind.slots.items) _ (slots_from BlocksFlush counts behind.slots.items (lit≤ tt))
    (flushes_from BlocksFlush SlotsFlush behind.slot_flushes.items (lit≤ tt)))

pub slots_from_there : (counts : ℕ → ℕ) (slots : List SlotWrite) (flushes : List ℕ) → AreFrom Slots (slots_left counts slots ++ flushes_left SlotsFlush flushes)
slots_from_there counts slots flushes =
    all_append _ (slots_left counts slots) _ (slots_from Slots counts slots (lit≤ tt)) (flushes_from Slots SlotsFlush flushes (lit≤ tt))

pub last_from_there : (flushes : List ℕ) → AreFrom SlotsFlush (flushes_left SlotsFlush flushes)
last_from_there flushes = flushes_from SlotsFlush SlotsFlush flushes (lit≤ tt)

makes_front : (left made rest : List DueCall) (phase : Phase) → AreFrom phase left → left ≡ made ++ rest → 0 < length made → length made ≤ 4
    → AllByRecursion (λ (call : DueCall). call.phase ≡ phase) made → Makes left made rest phase
makes_front left made rest phase from order some few same = record { parts = same_elements left (made ++ rest) order; some = some; few = few; same = same; next = from }

-- ---- how many calls are left

pub count_left : (counts slot_counts : ℕ → ℕ) (store : Store) (behind : Behind) → length (left_calls counts slot_counts store.due behind) ≡ calls_left store behind
count_left counts slot_counts store behind =
    omega (
      arith,
      length-append (writes_left counts store.due) (behind_left slot_counts behind),
      length-append (flushes_left BlocksFlush behind.flushes.items) (slots_left slot_counts behind.slots.items ++ flushes_left SlotsFlush behind.slot_flushes.items),
      length-append (slots_left slot_counts behind.slots.items) (flushes_left SlotsFlush behind.slot_flushes.items),
      writes_count counts store.due,
      slots_count slot_counts behind.slots.items,
      length-map {B = DueCall} behind.flushes.items (λ (disk : ℕ). record { disk = disk; phase = BlocksFlush; number = 0 }),
      length-map {B = DueCall} behind.slot_flushes.items (λ (disk : ℕ). record { disk = disk; phase = SlotsFlush; number = 0 }),
    )

pub no_length : {X : Type 0} (xs : List X) → length xs ≤ 0 → xs ≡ []
no_length [] few = refl
no_length (x ∷ xs) few = absurd (omega (arith, few))

-- where none is left there are none of any phase
none_left : (counts slot_counts : ℕ → ℕ) (store : Store) (behind : Behind) → calls_left store behind ≡ 0 → left_calls counts slot_counts store.due behind ≡ []
none_left counts slot_counts store behind none = no_length (left_calls counts slot_counts store.due behind) (omega (arith, none, count_left counts slot_counts store behind))

pub all_through : (P Q : DueCall → Type 0) → ((call : DueCall) → P call → Q call) → (calls : List DueCall) → AllByRecursion P calls → AllByRecursion Q calls
all_through P Q h [] all = tt
all_through P Q h (call ∷ calls) all = (h call all.0, all_through P Q h calls all.1)

all_front : (P : DueCall → Type 0) (made rest : List DueCall) → AllByRecursion P (made ++ rest) → AllByRecursion P made
all_front P [] rest all = tt
all_front P (call ∷ made) rest all = (all.0, all_front P made rest all.1)

pub all_rest : (P : DueCall → Type 0) (made rest : List DueCall) → AllByRecursion P (made ++ rest) → AllByRecursion P rest
all_rest P [] rest all = all
all_rest P (call ∷ made) rest all = all_rest P made rest all.1

-- the calls that were made are those that the disks tell, of disks in use
are_made : (old : Store) (mid new : Disks) (v : View) (left made rest : List DueCall) → ((disk : ℕ) → v.out disk ≡ is_out old.out disk) → new ≡ mid
    → left ≡ made ++ rest → AllByRecursion (λ (call : DueCall). is_out old.out call.disk ≡ false) left → map disk_call made ≡ made_between old.disks mid
    → unread_between old.disks mid ≡ [] → called_between old.disks mid ≡ map (λ (call : DueCall). call.disk) made → AreMade old.disks new v made
are_made old mid new v left made rest out same order in_use seen unread called = subst (λ (d : Disks). AreMade old.disks d v made) (sym same) (record {
  seen = seen;
  unread = unread;
  called = called;
  in_use = all_through (λ (call : DueCall). is_out old.out call.disk ≡ false) (λ (call : DueCall). v.out call.disk ≡ false) (λ call is. out call.disk ∙ is)
      made (all_front (λ (call : DueCall). is_out old.out call.disk ≡ false) made rest
      (subst (AllByRecursion (λ (call : DueCall). is_out old.out call.disk ≡ false)) order in_use));
})

-- ---- what backs the view once calls were made

-- what is left of the plan is planned still, and disks may be out since
pub carried : (old : State) (mid : Store) (plan later : Planned) (v : View) (out : ℕ → Bool) (counts slot_counts : ℕ → ℕ)
    → (backs : Backs (with_plan old plan) v) → IsSameStore old.store mid → later.after ≡ plan.after → later.uberblock ≡ plan.uberblock
    → ((disk : ℕ) → out disk ≡ is_out mid.out disk)
    → ((disk : ℕ) → Contains (disks_in_use (record v { out = out })) disk → IsToFlush mid later.behind disk)
    → ((write : SlotWrite) → Contains (disks_in_use (record v { out = out })) write.disk → write.label < 4
    → Contains later.behind.slots.items write ⊎ ((mid.due ≡ []) × ShowsIn mid.disks later.uberblock write))
    → AllByRecursion (λ (call : DueCall). is_out mid.out call.disk ≡ false) (left_calls counts slot_counts mid.due later.behind)
    → Backs (record old { store = mid; planned = Some later }) (record v { sync = Due (left_calls counts slot_counts mid.due later.behind); out = out })
carried old mid plan later v out counts slot_counts backs same after uberblock outs to_flush shown in_use =
    let has = backs.blocks.plan in record {
      vdevs = backs.vdevs ∙ ap (λ (spaces : List VdevSpace). vdevs_of spaces) (sym same.spaces);
      slots = backs.slots;
      out = outs;
      stale = stale_still old.store mid v same.stale backs.stale;
      committed = backs.committed;
      stamped = backs.stamped;
      blocks = record {
        stored = backs.blocks.stored;
        planned = backs.blocks.planned;
        plans = same.plans backs.blocks.stored backs.blocks.planned backs.blocks.plans;
        kept = backs.blocks.kept;
        plan = record {
          counts = counts;
          slot_counts = slot_counts;
          sync = refl;
          spells = subst (λ (g : KeptGroup). SpellsGroup backs.blocks.planned (suc v.committed) g (pool_after v)) (sym after) has.spells;
          config = ap (λ (g : KeptGroup). g.config.value) after ∙ has.config;
          uberblock = record {
            root = has.uberblock.root;
            is_root = ap (λ (g : KeptGroup). g.root) after ∙ has.uberblock.is_root;
            timestamp = has.uberblock.timestamp;
            is = uberblock ∙ has.uberblock.is;
          };
          to_flush = to_flush;
          shown = shown;
          in_use = in_use;
        };
        reached = reached_over old.store.spaces mid.spaces backs.blocks.stored old.kept (kept_pool v) (ap shapes_of same.spaces)
            (same_spaces old.store.spaces mid.spaces filled_marks same.spaces) backs.blocks.reached;
        plan_reached = subst (λ spaces. PlansReach spaces backs.blocks.reached.reach backs.blocks.stored backs.blocks.planned (suc v.committed) later.after (pool_after v)) (sym same.spaces)
            (subst (λ (g : KeptGroup). PlansReach old.store.spaces backs.blocks.reached.reach backs.blocks.stored backs.blocks.planned (suc v.committed) g (pool_after v)) (sym after)
            backs.blocks.plan_reached);
      };
    }

-- nothing is left, and the group is committed
pub finishes : (s : State) (plan : Planned) (v : View) (new : State) → (backs : Backs (with_plan s plan) v) → v.committed < 2 ^ 62 → StoresPlan s.store new.store
    → IsShifted s.kept plan.after new.kept → new.planned ≡ None → new.stamp ≡ s.stamp → Backs new (committed_next v)
finishes s plan v new backs low stores shifted none same_stamp =
    let has = backs.blocks.plan in
    let next_group = shifted.committed (subst (λ c. c < 2 ^ 62) (sym backs.committed) low) ∙ ap suc backs.committed in
    let reached : StoresReach s.store.spaces backs.blocks.stored s.kept (kept_pool v) = backs.blocks.reached in
    let reaches : PlansReach s.store.spaces reached.reach backs.blocks.stored backs.blocks.planned (suc v.committed) new.kept.last (pool_after v) =
    subst (λ (g : KeptGroup). PlansReach s.store.spaces reached.reach backs.blocks.stored backs.blocks.planned (suc v.committed) g (pool_after v)) (sym shifted.last)
    backs.blocks.plan_reached in
    let left_over : Contents = among (kept_blocks v.committed reached.reach reaches.reach) backs.blocks.planned in
    let low_first = first_low v (last_kept backs.blocks.stored s.kept v backs.committed (backs.blocks.kept v.committed)).0 in record {
      vdevs = backs.vdevs ∙ sym (vdevs_by_shapes s.store.spaces new.store.spaces stores.shapes);
      slots = backs.slots;
      out = λ disk. backs.out disk ∙ ap (λ (out : List Bool). is_out out disk) (sym stores.out);
      stale = stale_still s.store new.store v stores.stale backs.stale;
      committed = next_group;
      stamped = subst (λ (stamp : Stamp). AreStamped stamp new.kept) (sym same_stamp)
          (groups_next s.kept new.kept v.committed (λ k. IsStampOf (config_view k.config.value) s.stamp.claim s.stamp) backs.committed next_group shifted.before shifted.earliest
          (subst (λ (c : Config). IsStampOf (config_view c) s.stamp.claim s.stamp) (sym (ap (λ (g : KeptGroup). g.config.value) shifted.last ∙ has.config))
          (backs.stamped s.kept.committed s.kept.last (last_at s.kept)))
          backs.stamped);
      blocks = record {
        stored = left_over;
        planned = left_over;
        plans = fewer_planned new.store backs.blocks.planned backs.blocks.planned left_over left_over
            (forgets new.store (kept_blocks v.committed reached.reach reaches.reach) backs.blocks.planned)
            (stores.plans backs.blocks.stored backs.blocks.planned backs.blocks.plans);
        kept = spells_next v s.kept new.kept s.store.spaces new.store.spaces backs.blocks.stored backs.blocks.planned reached reaches stores.shapes stores.filled_by low_first backs.committed
            next_group shifted.before shifted.earliest backs.blocks.plans.kept
            (kept_next v s.kept new.kept backs.blocks.stored backs.blocks.planned backs.committed
            next_group shifted.before shifted.earliest backs.blocks.plans.kept
            (subst (λ (g : KeptGroup). SpellsGroup backs.blocks.planned (suc v.committed) g (pool_after v)) (sym shifted.last) has.spells) backs.blocks.kept);
        plan = subst (λ (o : Option Planned). IsPlanOf new left_over o (committed_next v)) (sym none) refl;
        reached = reached_next v s.kept new.kept s.store.spaces new.store.spaces backs.blocks.stored backs.blocks.planned reached reaches stores.shapes stores.filled_by low_first backs.committed
            next_group shifted.before shifted.earliest backs.blocks.plans.kept;
        plan_reached = no_plan new.store.spaces _ left_over left_over new.planned (committed_next v) none;
      };
    }

-- where nothing is left each disk in use is flushed
flushed_at_end : (s : State) (plan : Planned) (v : View) (new : State) → Backs (with_plan s plan) v → calls_left s.store plan.behind ≡ 0 → new.store.disks ≡ s.store.disks
    → (disk : ℕ) → Contains (disks_in_use v) disk → IsFlushed new.store.disks disk
flushed_at_end s plan v new backs none disks disk in_use =
    subst (λ (d : Disks). IsFlushed d disk) (sym disks) (⊎_elim
    (λ held. absurd (in_none plan.behind.slot_flushes.items disk (no_length plan.behind.slot_flushes.items (omega (arith, none))) held))
    (λ flushed. flushed.2) (backs.blocks.plan.to_flush disk in_use))

-- and its slots show the uberblock
shown_at_end : (s : State) (plan : Planned) (v : View) (new : State) → (backs : Backs (with_plan s plan) v) → calls_left s.store plan.behind ≡ 0
    → new.store.disks ≡ s.store.disks → new.stamp ≡ s.stamp → (write : SlotWrite) → Contains (disks_in_use v) write.disk → write.label < 4
    → ShowsIn new.store.disks (uberblock_of new.stamp (suc v.committed) backs.blocks.plan.uberblock.root backs.blocks.plan.uberblock.timestamp) write
shown_at_end s plan v new backs none disks stamp write in_use label =
    let is = backs.blocks.plan.uberblock in
    subst (λ (d : Disks). ShowsIn d (uberblock_of new.stamp (suc v.committed) is.root is.timestamp) write) (sym disks)
    (subst (λ (x : Stamp). ShowsIn s.store.disks (uberblock_of x (suc v.committed) is.root is.timestamp) write) (sym stamp)
    (subst (λ (u : Uberblock). ShowsIn s.store.disks u write) is.is (⊎_elim
    (λ held. absurd (in_none plan.behind.slots.items write (no_length plan.behind.slots.items (omega (arith, none))) held))
    (λ shown. shown.1) (backs.blocks.plan.shown write in_use label))))

-- the uberblock of what is left of a plan is that of the plan
its_uberblock : (plan later other : Planned) (new old : State) (group : ℕ) (root : Block) (timestamp : ℕ) → later.uberblock ≡ plan.uberblock
    → later.uberblock ≡ uberblock_of old.stamp group root timestamp → new.stamp ≡ old.stamp → Some plan ≡ Some other
    → other.uberblock ≡ uberblock_of new.stamp group root timestamp
its_uberblock plan later other new old group root timestamp same is stamp that =
    let it : plan ≡ other = cc in
    subst (λ (p : Planned). p.uberblock ≡ uberblock_of new.stamp group root timestamp) it
    (sym same ∙ is ∙ ap (λ (x : Stamp). uberblock_of x group root timestamp) (sym stamp))

-- what a plan's calls have left to flush, and to show, is so still
pub record StaysOn (old : State) (mid : Store) (plan later : Planned) (v : View) (out : ℕ → Bool) : Type 0 where
  pub after : later.after ≡ plan.after
  pub uberblock : later.uberblock ≡ plan.uberblock
  pub flushes : (disk : ℕ) → Contains (disks_in_use (record v { out = out })) disk → IsToFlush old.store plan.behind disk → IsToFlush mid later.behind disk
  pub shown : (write : SlotWrite) → Contains (disks_in_use (record v { out = out })) write.disk → write.label < 4
      → Contains plan.behind.slots.items write ⊎ ((old.store.due ≡ []) × ShowsIn old.store.disks plan.uberblock write)
      → Contains later.behind.slots.items write ⊎ ((mid.due ≡ []) × ShowsIn mid.disks plan.uberblock write)

-- calls were made, and none failed
module _ (old : State) (mid : Store) (plan later : Planned) (v : View) (phase : Phase) (n : ℕ) (new : State) (counts slot_counts : ℕ → ℕ)
    (backs : Backs (with_plan old plan) v) (few : n ≤ 4)
    (so : MadeCalls old.store mid (left_calls backs.blocks.plan.counts backs.blocks.plan.slot_counts old.store.due plan.behind) (left_calls counts slot_counts mid.due later.behind) phase n)
    (from : AreFrom phase (left_calls backs.blocks.plan.counts backs.blocks.plan.slot_counts old.store.due plan.behind))
    (stays : StaysOn old mid plan later v v.out) where
  abbrev left : List DueCall
  left = left_calls backs.blocks.plan.counts backs.blocks.plan.slot_counts old.store.due plan.behind

  abbrev rest : List DueCall
  rest = left_calls counts slot_counts mid.due later.behind

  on : Backs (record old { store = mid; planned = Some later }) (record v { sync = Due rest })
  on = carried old mid plan later v v.out counts slot_counts backs so.same stays.after stays.uberblock
      (λ disk. backs.out disk ∙ ap (λ (out : List Bool). is_out out disk) (sym so.out))
      (λ disk in_use. stays.flushes disk in_use (backs.blocks.plan.to_flush disk in_use))
      (λ write in_use label. subst (λ (u : Uberblock). Contains later.behind.slots.items write ⊎ ((mid.due ≡ []) × ShowsIn mid.disks u write)) (sym stays.uberblock)
      (stays.shown write in_use label (backs.blocks.plan.shown write in_use label)))
      (all_rest (λ (call : DueCall). is_out mid.out call.disk ≡ false) so.made rest
      (subst (AllByRecursion (λ (call : DueCall). is_out mid.out call.disk ≡ false)) so.order
      (subst (λ (out : List Bool). AllByRecursion (λ (call : DueCall). is_out out call.disk ≡ false) left) (sym so.out) backs.blocks.plan.in_use)))

  made_so : new.store.disks ≡ mid.disks → AreMade old.store.disks new.store.disks v so.made
  made_so disks = are_made old.store mid.disks new.store.disks v left so.made rest backs.out disks so.order backs.blocks.plan.in_use so.seen so.unread so.called

  pub goes_on : (progress : Progress) → v.committed < 2 ^ 62 → (0 < n) ⊎ (left ≡ []) → CarriesOn (record old { store = mid; planned = None }) later phase progress new
      → Progresses (with_plan old plan) progress new v
  goes_on (Moved moved) low some goes =
      let after : State = record old { store = mid; planned = Some later } in
      subst (λ (s : State). Progresses (with_plan old plan) (Moved moved) s v) (sym goes.2) (
        record v { sync = Due rest },
        record {
          made = so.made;
          fault = None;
          rest = rest;
          some = omega (arith, goes.1, count_left counts slot_counts mid later.behind);
          goes = inl (record {
            left = left;
            planned = backs.blocks.plan.sync;
            makes = subst (λ (p : Phase). Makes left so.made rest p) (sym goes.0) (makes_front left so.made rest phase from so.order (made_some some) (omega (arith, so.count, few)) so.in_phase);
            fault = refl;
            after = refl;
          });
          faults = so.faults;
          are_made = are_made old.store mid.disks mid.disks v left so.made rest backs.out refl so.order backs.blocks.plan.in_use so.seen so.unread so.called;
        },
        on,
      )
    where
      made_some : (0 < n) ⊎ (left ≡ []) → 0 < length so.made
      made_some (inl above) = omega (arith, so.count, above)
      made_some (inr none) = absurd (omega (arith, goes.1, count_left counts slot_counts mid later.behind, ap length so.order, ap length none, length-append so.made rest))
  goes_on Done low some goes =
      let s : State = record old { store = mid; planned = None } in (
        v,
        record {
          made = so.made;
          fault = None;
          ends = inl (record { left = left; planned = backs.blocks.plan.sync; makes = makes_all some; fault = refl }, refl);
          faults = ap (λ (d : Disks). faults_between old.store.disks d) goes.1.disks ∙ so.faults;
          are_made = made_so goes.1.disks;
          flushed = flushed_at_end s later (record v { sync = Due rest }) new on goes.0 goes.1.disks;
          root = on.blocks.plan.uberblock.root;
          is_root = ap (λ (g : KeptGroup). g.root) goes.2.last ∙ on.blocks.plan.uberblock.is_root;
          timestamp = on.blocks.plan.uberblock.timestamp;
          planned = λ other is. its_uberblock plan later other new old (suc v.committed) on.blocks.plan.uberblock.root on.blocks.plan.uberblock.timestamp
              stays.uberblock on.blocks.plan.uberblock.is goes.4 is;
          shown = shown_at_end s later (record v { sync = Due rest }) new on goes.0 goes.1.disks goes.4;
        },
        finishes s later (record v { sync = Due rest }) new on low goes.1 goes.2 goes.3 goes.4,
      )
    where
      rest_none : left ≡ so.made
      rest_none = so.order ∙ ap (λ xs. so.made ++ xs) (none_left counts slot_counts mid later.behind goes.0) ∙ append-nil so.made

      makes_all : (0 < n) ⊎ (left ≡ []) → MakesAll left so.made
      makes_all (inl above) = inr (phase, makes_front left so.made [] phase from (rest_none ∙ sym (append-nil so.made)) (omega (arith, so.count, above)) (omega (arith, so.count, few)) so.in_phase)
      makes_all (inr none) = inl (none, sym rest_none ∙ none)
  goes_on (Dropped disk) low some goes = absurd goes

-- what carries on calls no device
pub carried_disks : (old : State) (plan : Planned) (phase : Phase) (progress : Progress) (new : State) → CarriesOn old plan phase progress new → new.store.disks ≡ old.store.disks
carried_disks old plan phase (Moved moved) new goes = ap (λ (s : State). s.store.disks) goes.2
carried_disks old plan phase Done new goes = goes.1.disks
carried_disks old plan phase (Dropped disk) new goes = absurd goes

-- ---- a call failed

last_in_phase : (phase : Phase) (before : List DueCall) (call : DueCall) → AllByRecursion (λ (c : DueCall). c.phase ≡ phase) (before ++ call ∷ []) → call.phase ≡ phase
last_in_phase phase [] call all = all.0
last_in_phase phase (first ∷ before) call all = last_in_phase phase before call all.1

out_too : (a b m e n : Bool) → a ≡ b → m ≡ (b || e) → n ≡ m → (e || a) ≡ n
out_too true true true true true p q r = refl
out_too true true true false true p q r = refl
out_too false false true true true p q r = refl
out_too false false false false false p q r = refl
out_too a b m e n p q r = search rules

-- and its disk is out
pub outs_are : (old : State) (mid : Store) (v : View) (disk : ℕ) → ((other : ℕ) → v.out other ≡ is_out old.store.out other) → IsOutToo old.store.out disk mid.out
    → (other : ℕ) → ((other == disk) || v.out other) ≡ is_out mid.out other
outs_are old mid v disk out too other = out_too (v.out other) (is_out old.store.out other) (is_out mid.out other) (other == disk) (is_out mid.out other) (out other) (too.disks other) refl

fault_in_phase : (phase : Phase) (failed : List DueCall) (before : List DueCall) (call : DueCall) → failed ≡ before ++ call ∷ []
    → AllByRecursion (λ (c : DueCall). c.phase ≡ phase) failed → call.phase ≡ phase
fault_in_phase phase failed before call last in_phase = last_in_phase phase before call (subst (AllByRecursion (λ (c : DueCall). c.phase ≡ phase)) last in_phase)

-- the plan is dropped
pub drops : (old : State) (mid : Store) (plan : Planned) (v : View) (phase : Phase) (disk : ℕ) (new : State)
    → (backs : Backs (with_plan old plan) v)
    → FailedCall old.store mid (left_calls backs.blocks.plan.counts backs.blocks.plan.slot_counts old.store.due plan.behind) phase disk
    → AreFrom phase (left_calls backs.blocks.plan.counts backs.blocks.plan.slot_counts old.store.due plan.behind)
    → (is_suspended (dropped v disk) ≡ false → is_late phase ≡ false)
    → DropsPlan mid new.store → new.kept ≡ old.kept → new.planned ≡ None → new.stamp ≡ old.stamp → Progresses (with_plan old plan) (Dropped disk) new v
drops old mid plan v phase disk new backs failed from early drop kept none same_stamp =
    let has = backs.blocks.plan in
    let left : List DueCall = left_calls has.counts has.slot_counts old.store.due plan.behind in
    let count = ap length failed.last ∙ length-append failed.before (failed.call ∷ []) in
    let in_it : failed.call.phase ≡ phase = fault_in_phase phase failed.made failed.before failed.call failed.last failed.in_phase in (
      record {
        left = left;
        made = failed.made;
        rest = failed.rest;
        before = failed.before;
        call = failed.call;
        on = failed.on;
        planned = has.sync;
        last = failed.last;
        makes = subst (λ (p : Phase). Makes left failed.made failed.rest p) (sym in_it)
            (makes_front left failed.made failed.rest phase from failed.order (omega (arith, count)) failed.few failed.in_phase);
        early = λ enough. ap is_late in_it ∙ early enough;
        fault = ap (λ (d : Disks). faults_between old.store.disks d) drop.disks ∙ failed.faults;
        are_made = are_made old.store mid.disks new.store.disks v left failed.made failed.rest backs.out drop.disks failed.order has.in_use failed.seen failed.unread failed.called;
      },
      record {
        vdevs = backs.vdevs ∙ ap (λ (spaces : List VdevSpace). vdevs_of spaces) (sym failed.same.spaces) ∙ sym (vdevs_by_shapes mid.spaces new.store.spaces drop.shapes);
        slots = backs.slots;
        out = λ other. outs_are old mid v disk backs.out failed.out other ∙ ap (λ (out : List Bool). is_out out other) (sym drop.out);
        stale = stale_still old.store new.store v (drop.stale ∙ failed.same.stale) backs.stale;
        committed = ap (λ (k : Kept). k.committed) kept ∙ backs.committed;
        stamped = subst (λ (stamp : Stamp). AreStamped stamp new.kept) (sym same_stamp) (subst (λ (k : Kept). AreStamped old.stamp k) (sym kept) backs.stamped);
        blocks = record {
          stored = backs.blocks.stored;
          planned = backs.blocks.stored;
          plans = drop.plans backs.blocks.stored backs.blocks.planned (failed.same.plans backs.blocks.stored backs.blocks.planned backs.blocks.plans);
          kept = subst (λ (k : Kept). (group : ℕ) → SpellsKept backs.blocks.stored group (group_at k group) (kept_pool v group)) (sym kept) backs.blocks.kept;
          plan = subst (λ (o : Option Planned). IsPlanOf new backs.blocks.stored o (dropped v disk)) (sym none) (none_planned v.sync);
          reached = subst (λ (k : Kept). StoresReach new.store.spaces backs.blocks.stored k (kept_pool v)) (sym kept)
              (reached_over mid.spaces new.store.spaces backs.blocks.stored old.kept (kept_pool v) drop.shapes drop.filled_by
              (reached_over old.store.spaces mid.spaces backs.blocks.stored old.kept (kept_pool v) (ap shapes_of failed.same.spaces)
              (same_spaces old.store.spaces mid.spaces filled_marks failed.same.spaces) backs.blocks.reached));
          plan_reached = no_plan new.store.spaces _ backs.blocks.stored backs.blocks.stored new.planned (dropped v disk) none;
        };
      },
    )

not_same : (m n : ℕ) → m ≢ n → (m == n) ≡ false
not_same m n h = grind (arith, nat_tests, h)

unequal : (m n : ℕ) → (m == n) ≡ false → m ≢ n
unequal m n is same = absurd (true≢false (sym (eq-eqb m n same) ∙ is))

in_filter : {X : Type 0} (test : X → Bool) (xs : List X) (x : X) → test x ≡ true → Contains xs x → Contains (filter test xs) x
in_filter test [] x is held = held
in_filter {X = X} test (y ∷ xs) x is held = step (test y) refl (λ later. in_filter test xs x is later)
  where
    step : (b : Bool) → test y ≡ b → (Contains xs x → Contains (filter test xs) x) → Contains (if test y then y ∷ filter test xs else filter test xs) x
    step true on there = subst (λ (b : Bool). Contains (if b then y ∷ filter test xs else filter test xs) x) (sym on)
        (⊎_elim (λ (same : x ≡ y). subst (λ z. Contains (y ∷ filter test xs) z) (sym same) (there_first y (filter test xs)))
        (λ later. there_later y (filter test xs) x (there later)) (cases_in y xs x held))
    step false off there = subst (λ (b : Bool). Contains (if b then y ∷ filter test xs else filter test xs) x) (sym off)
        (⊎_elim (λ (same : x ≡ y). absurd (true≢false (sym is ∙ ap test same ∙ off))) there (cases_in y xs x held))

-- in a list without one number the others are
pub kept_others : (disk : ℕ) (flushes : List ℕ) (other : ℕ) → other ≢ disk → Contains flushes other → Contains (filter (λ (flush : ℕ). not (flush == disk)) flushes) other
kept_others disk flushes other apart held = in_filter (λ (flush : ℕ). not (flush == disk)) flushes other (ap not (not_same other disk apart)) held

pub kept_slots : (disk : ℕ) (slots : List SlotWrite) (write : SlotWrite) → write.disk ≢ disk → Contains slots write → Contains (filter (λ (w : SlotWrite). not (w.disk == disk)) slots) write
kept_slots disk slots write apart held = in_filter (λ (w : SlotWrite). not (w.disk == disk)) slots write (ap not (not_same write.disk disk apart)) held

-- disks in use beside one that is out were in use before, and are not that one
pub in_use_is : {X : Type 0} (test : X → Bool) (xs : List X) (x : X) → Contains (filter test xs) x → (test x ≡ true) × Contains xs x
in_use_is test [] x held = absurd (in_none [] x refl held)
in_use_is {X = X} test (y ∷ xs) x held = step (test y) refl (λ later. in_use_is test xs x later)
  where
    step : (b : Bool) → test y ≡ b → (Contains (filter test xs) x → (test x ≡ true) × Contains xs x) → (test x ≡ true) × Contains (y ∷ xs) x
    step true is there = ⊎_elim (λ same. (ap test same ∙ is, subst (λ z. Contains (y ∷ xs) z) (sym same) (there_first y xs)))
        (λ later. ((there later).0, there_later y xs x (there later).1))
        (cases_in y (filter test xs) x (subst (λ (b : Bool). Contains (if b then y ∷ filter test xs else filter test xs) x) is held))
    step false is there =
        let rest = there (subst (λ (b : Bool). Contains (if b then y ∷ filter test xs else filter test xs) x) is held) in
        (rest.0, there_later y xs x rest.1)

pub fewer : (v : View) (disk other : ℕ) → Contains (disks_in_use (record v { out = λ d. (d == disk) || v.out d })) other → Contains (disks_in_use v) other
fewer v disk other used =
    let is = in_use_is (λ d. not ((d == disk) || v.out d)) (disks_of v.vdevs) other used in
    in_filter (λ d. not (v.out d)) (disks_of v.vdevs) other (second (other == disk) (v.out other) is.0) is.1
  where
    second : (a b : Bool) → not (a || b) ≡ true → not b ≡ true
    second false false p = refl
    second false true p = p
    second true b p = absurd (true≢false (sym p))

pub not_that : (v : View) (disk other : ℕ) → Contains (disks_in_use (record v { out = λ d. (d == disk) || v.out d })) other → other ≢ disk
not_that v disk other used same =
    let is = in_use_is (λ d. not ((d == disk) || v.out d)) (disks_of v.vdevs) other used in
    absurd (true≢false (sym is.0 ∙ ap (λ (b : Bool). not (b || v.out other)) (eq-eqb other disk same)))

-- the view lacks too many disks where the store does
suspended_is : (mid : Store) (v : View) (disk : ℕ) → v.vdevs ≡ vdevs_of mid.spaces → ((other : ℕ) → ((other == disk) || v.out other) ≡ is_out mid.out other)
    → is_suspended (dropped v disk) ≡ lacks_disks mid
suspended_is mid v disk vdevs outs = λ i. not (is_tolerable (vdevs i) (λ other. outs other i))

pub all_filtered : (P : DueCall → Type 0) (test : DueCall → Bool) (calls : List DueCall) → AllByRecursion (λ call. test call ≡ true → P call) calls → AllByRecursion P (filter test calls)
all_filtered P test [] all = tt
all_filtered P test (call ∷ calls) all = keep (test call) refl (all_filtered P test calls all.1)
  where
    keep : (b : Bool) → test call ≡ b → AllByRecursion P (filter test calls) → AllByRecursion P (if test call then call ∷ filter test calls else filter test calls)
    keep true is rest = subst (λ (b : Bool). AllByRecursion P (if b then call ∷ filter test calls else filter test calls)) (sym is) (all.0 is, rest)
    keep false is rest = subst (λ (b : Bool). AllByRecursion P (if b then call ∷ filter test calls else filter test calls)) (sym is) rest

-- from the slots on what is left on other disks carries on
module _ (old : State) (mid : Store) (plan later : Planned) (v : View) (phase : Phase) (disk : ℕ) (new : State) (counts slot_counts : ℕ → ℕ)
    (backs : Backs (with_plan old plan) v)
    (failed : FailedCall old.store mid (left_calls backs.blocks.plan.counts backs.blocks.plan.slot_counts old.store.due plan.behind) phase disk)
    (from : AreFrom phase (left_calls backs.blocks.plan.counts backs.blocks.plan.slot_counts old.store.due plan.behind)) (late : is_late phase ≡ true)
    (others : left_calls counts slot_counts mid.due later.behind ≡ filter (λ (call : DueCall). not (call.disk == disk)) failed.rest)
    (stays : StaysOn old mid plan later v (λ other. (other == disk) || v.out other)) where
  abbrev due_before : List DueCall
  due_before = left_calls backs.blocks.plan.counts backs.blocks.plan.slot_counts old.store.due plan.behind

  abbrev due_after : List DueCall
  due_after = left_calls counts slot_counts mid.due later.behind

  abbrev out : ℕ → Bool
  out other = (other == disk) || v.out other

  outs : (other : ℕ) → out other ≡ is_out mid.out other
  outs = outs_are old mid v disk backs.out failed.out

  in_it : failed.call.phase ≡ phase
  in_it = fault_in_phase phase failed.made failed.before failed.call failed.last failed.in_phase

  count : length failed.made ≡ length failed.before + 1
  count = ap length failed.last ∙ length-append failed.before (failed.call ∷ [])

  makes : Makes due_before failed.made failed.rest phase
  makes = makes_front due_before failed.made failed.rest phase from failed.order (omega (arith, count)) failed.few failed.in_phase

  in_use : AllByRecursion (λ (call : DueCall). is_out mid.out call.disk ≡ false) due_after
  in_use =
      subst (AllByRecursion (λ (call : DueCall). is_out mid.out call.disk ≡ false)) (sym others)
      (all_filtered (λ (call : DueCall). is_out mid.out call.disk ≡ false) (λ (call : DueCall). not (call.disk == disk)) failed.rest
      (all_through (λ (call : DueCall). is_out old.store.out call.disk ≡ false) (λ (call : DueCall). not (call.disk == disk) ≡ true → is_out mid.out call.disk ≡ false)
      (λ call is apart. still_in (is_out old.store.out call.disk) (call.disk == disk) (is_out mid.out call.disk) is apart (failed.out.disks call.disk)) failed.rest
      (all_rest (λ (call : DueCall). is_out old.store.out call.disk ≡ false) failed.made failed.rest
      (subst (AllByRecursion (λ (call : DueCall). is_out old.store.out call.disk ≡ false)) failed.order backs.blocks.plan.in_use))))
    where
      still_in : (before same now : Bool) → before ≡ false → not same ≡ true → now ≡ (before || same) → now ≡ false
      still_in false false now p q r = r
      still_in true same now p q r = absurd (true≢false p)
      still_in false true now p q r = absurd (true≢false (sym q))

  on_others : Backs (record old { store = mid; planned = Some later }) (record (without_disk v disk) { sync = Due due_after })
  on_others = carried old mid plan later v out counts slot_counts backs failed.same stays.after stays.uberblock outs
      (λ other used. stays.flushes other used (backs.blocks.plan.to_flush other (fewer v disk other used)))
      (λ write used label. subst (λ (u : Uberblock). Contains later.behind.slots.items write ⊎ ((mid.due ≡ []) × ShowsIn mid.disks u write)) (sym stays.uberblock)
      (stays.shown write used label (backs.blocks.plan.shown write (fewer v disk write.disk used) label)))
      in_use

  vdevs : v.vdevs ≡ vdevs_of mid.spaces
  vdevs = backs.vdevs ∙ ap (λ (spaces : List VdevSpace). vdevs_of spaces) (sym failed.same.spaces)

  pub without : (tail : List DueCall) → due_after ≡ tail → lacks_disks mid ≡ false
      → GoesWithout v (given_calls failed.made (Some failed.call)) phase tail (record (without_disk v disk) { sync = Due tail })
  without tail is enough = record {
    disk = disk;
    fails = record {
      left = due_before;
      rest = failed.rest;
      before = failed.before;
      call = failed.call;
      on = failed.on;
      planned = backs.blocks.plan.sync;
      last = failed.last;
      makes = subst (λ (p : Phase). Makes due_before failed.made failed.rest p) (sym in_it) makes;
      fault = refl;
    };
    last = sym in_it;
    late = late;
    others = sym is ∙ others;
    after = refl;
    enough = suspended_is mid v disk vdevs outs ∙ enough;
  }

  made_then : new.store.disks ≡ mid.disks → AreMade old.store.disks new.store.disks v failed.made
  made_then disks = are_made old.store mid.disks new.store.disks v due_before failed.made failed.rest backs.out disks failed.order backs.blocks.plan.in_use failed.seen failed.unread failed.called

  carries : (progress : Progress) → v.committed < 2 ^ 62 → lacks_disks mid ≡ false → CarriesOn (record old { store = mid; planned = None }) later phase progress new
      → Progresses (with_plan old plan) progress new v
  carries (Moved moved) low enough goes =
      subst (λ (s : State). Progresses (with_plan old plan) (Moved moved) s v) (sym goes.2) (
        record (without_disk v disk) { sync = Due due_after },
        record {
          made = failed.made;
          fault = Some failed.call;
          rest = due_after;
          some = omega (arith, goes.1, count_left counts slot_counts mid later.behind);
          goes = inr (subst (λ (p : Phase). GoesWithout v (given_calls failed.made (Some failed.call)) p due_after (record (without_disk v disk) { sync = Due due_after })) (sym goes.0) (without due_after refl enough));
          faults = failed.faults;
          are_made = are_made old.store mid.disks mid.disks v due_before failed.made failed.rest backs.out refl failed.order backs.blocks.plan.in_use failed.seen failed.unread failed.called;
        },
        on_others,
      )
  carries Done low enough goes =
      let s : State = record old { store = mid; planned = None } in
      let w : View = record (without_disk v disk) { sync = Due due_after } in
      let none : due_after ≡ [] = none_left counts slot_counts mid later.behind goes.0 in (
        record (without_disk v disk) { sync = Due [] },
        record {
          made = failed.made;
          fault = Some failed.call;
          ends = inr (phase, without [] none enough);
          faults = ap (λ (d : Disks). faults_between old.store.disks d) goes.1.disks ∙ failed.faults;
          are_made = made_then goes.1.disks;
          flushed = flushed_at_end s later w new on_others goes.0 goes.1.disks;
          root = on_others.blocks.plan.uberblock.root;
          is_root = ap (λ (g : KeptGroup). g.root) goes.2.last ∙ on_others.blocks.plan.uberblock.is_root;
          timestamp = on_others.blocks.plan.uberblock.timestamp;
          planned = λ other is. its_uberblock plan later other new old (suc v.committed) on_others.blocks.plan.uberblock.root
              on_others.blocks.plan.uberblock.timestamp stays.uberblock on_others.blocks.plan.uberblock.is goes.4 is;
          shown = shown_at_end s later w new on_others goes.0 goes.1.disks goes.4;
        },
        finishes s later w new on_others low goes.1 goes.2 goes.3 goes.4,
      )
  carries (Dropped other) low enough goes = absurd goes

-- what is left on other disks, once what is left on one is left out
pub record LeavesRest (old : State) (mid : Store) (plan later : Planned) (v : View) (disk : ℕ) (rest : List DueCall) : Type 0 where
  pub counts : ℕ → ℕ
  pub slot_counts : ℕ → ℕ
  pub others : left_calls counts slot_counts mid.due later.behind ≡ filter (λ (call : DueCall). not (call.disk == disk)) rest
  pub stays : StaysOn old mid plan later v (λ other. (other == disk) || v.out other)

-- a disk failed from the slots on
pub leaves_out : (old : State) (mid : Store) (plan popped : Planned) (v : View) (phase : Phase) (disk : ℕ) (progress : Progress) (new : State)
    → (backs : Backs (with_plan old plan) v) → v.committed < 2 ^ 62
    → (failed : FailedCall old.store mid (left_calls backs.blocks.plan.counts backs.blocks.plan.slot_counts old.store.due plan.behind) phase disk)
    → AreFrom phase (left_calls backs.blocks.plan.counts backs.blocks.plan.slot_counts old.store.due plan.behind) → is_late phase ≡ true
    → ((behind : Behind) → LeftOut disk popped.behind behind → LeavesRest old mid plan (record popped { behind = behind }) v disk failed.rest)
    → LeavesOut (record old { store = mid; planned = None }) popped disk phase progress new → Progresses (with_plan old plan) progress new v
leaves_out old mid plan popped v phase disk progress new backs low failed from late leaves (inl (lacks, is, drop, kept, none, stamp)) =
    let vdevs : v.vdevs ≡ vdevs_of mid.spaces = backs.vdevs ∙ ap (λ (spaces : List VdevSpace). vdevs_of spaces) (sym failed.same.spaces) in
    subst (λ (p : Progress). Progresses (with_plan old plan) p new v) (sym is)
    (drops old mid plan v phase disk new backs failed from
    (λ enough. absurd (true≢false (sym lacks ∙ sym (suspended_is mid v disk vdevs (outs_are old mid v disk backs.out failed.out)) ∙ enough))) drop kept none stamp)
leaves_out old mid plan popped v phase disk progress new backs low failed from late leaves (inr (enough, behind, left, goes)) =
    let there = leaves behind left in
    carries old mid plan (record popped { behind = behind }) v phase disk new there.counts there.slot_counts backs failed from late there.others there.stays progress low enough goes

-- what is left on other disks, in number and order
filtered_flushes : (phase : Phase) (disk : ℕ) (flushes : List ℕ)
    → flushes_left phase (filter (λ (flush : ℕ). not (flush == disk)) flushes) ≡ filter (λ (call : DueCall). not (call.disk == disk)) (flushes_left phase flushes)
filtered_flushes phase disk [] = refl
filtered_flushes phase disk (flush ∷ flushes) = step (flush == disk) (filtered_flushes phase disk flushes)
  where
    step : (b : Bool)
        → flushes_left phase (filter (λ (f : ℕ). not (f == disk)) flushes) ≡ filter (λ (call : DueCall). not (call.disk == disk)) (flushes_left phase flushes)
        → flushes_left phase (if not b then flush ∷ filter (λ (f : ℕ). not (f == disk)) flushes else filter (λ (f : ℕ). not (f == disk)) flushes)
        ≡ (if not b then record { disk = flush; phase = phase; number = 0 } ∷ filter (λ (call : DueCall). not (call.disk == disk)) (flushes_left phase flushes)
        else filter (λ (call : DueCall). not (call.disk == disk)) (flushes_left phase flushes))
    step true rest = rest
    step false rest = ap (λ (calls : List DueCall). record { disk = flush; phase = phase; number = 0 } ∷ calls) rest

-- the numbers of slots on one disk don't depend on those of another
same_but : (disk : ℕ) (counts others : ℕ → ℕ) (slots : List SlotWrite) → ((other : ℕ) → other ≢ disk → counts other ≡ others other)
    → slots_left counts (filter (λ (write : SlotWrite). not (write.disk == disk)) slots) ≡ slots_left others (filter (λ (write : SlotWrite). not (write.disk == disk)) slots)
same_but disk counts others [] same = refl
same_but disk counts others (write ∷ slots) same =
    step (write.disk == disk) refl (same_but disk counts others slots same)
    (same_but disk (counted_on counts write.disk) (counted_on others write.disk) slots
    (λ other apart. ap (λ (n : ℕ). if other == write.disk then suc n else n) (same other apart)))
  where
    step : (b : Bool) → (write.disk == disk) ≡ b
        → slots_left counts (filter (λ (w : SlotWrite). not (w.disk == disk)) slots) ≡ slots_left others (filter (λ (w : SlotWrite). not (w.disk == disk)) slots)
        → slots_left (counted_on counts write.disk) (filter (λ (w : SlotWrite). not (w.disk == disk)) slots)
        ≡ slots_left (counted_on others write.disk) (filter (λ (w : SlotWrite). not (w.disk == disk)) slots)
        → slots_left counts (if not b then write ∷ filter (λ (w : SlotWrite). not (w.disk == disk)) slots else filter (λ (w : SlotWrite). not (w.disk == disk)) slots)
        ≡ slots_left others (if not b then write ∷ filter (λ (w : SlotWrite). not (w.disk == disk)) slots else filter (λ (w : SlotWrite). not (w.disk == disk)) slots)
    step true is those next = those
    step false is those next = λ i. record { disk = write.disk; phase = Slots; number = same write.disk (unequal write.disk disk is) i } ∷ next i

filtered_slots : (disk : ℕ) (counts : ℕ → ℕ) (slots : List SlotWrite)
    → slots_left counts (filter (λ (write : SlotWrite). not (write.disk == disk)) slots) ≡ filter (λ (call : DueCall). not (call.disk == disk)) (slots_left counts slots)
filtered_slots disk counts [] = refl
filtered_slots disk counts (write ∷ slots) = step (write.disk == disk) refl (filtered_slots disk (counted_on counts write.disk) slots)
  where
    step : (b : Bool) → (write.disk == disk) ≡ b
        → slots_left (counted_on counts write.disk) (filter (λ (w : SlotWrite). not (w.disk == disk)) slots)
        ≡ filter (λ (call : DueCall). not (call.disk == disk)) (slots_left (counted_on counts write.disk) slots)
        → slots_left counts (if not b then write ∷ filter (λ (w : SlotWrite). not (w.disk == disk)) slots else filter (λ (w : SlotWrite). not (w.disk == disk)) slots)
        ≡ (if not b then record { disk = write.disk; phase = Slots; number = counts write.disk } ∷ filter (λ (call : DueCall). not (call.disk == disk)) (slots_left (counted_on counts write.disk) slots)
        else filter (λ (call : DueCall). not (call.disk == disk)) (slots_left (counted_on counts write.disk) slots))
    step true is rest =
        same_but disk counts (counted_on counts write.disk) slots (λ other apart. sym (ap (λ (b : Bool). if b then suc (counts other) else counts other)
        (not_same other write.disk (λ same. apart (same ∙ eqb-true write.disk disk is)))))
        ∙ rest
    step false is rest = ap (λ (calls : List DueCall). record { disk = write.disk; phase = Slots; number = counts write.disk } ∷ calls) rest

-- slots and flushes behind them
pub filtered_behind : (disk : ℕ) (counts : ℕ → ℕ) (slots : List SlotWrite) (flushes : List ℕ)
    → slots_left counts (filter (λ (write : SlotWrite). not (write.disk == disk)) slots) ++ flushes_left SlotsFlush (filter (λ (flush : ℕ). not (flush == disk)) flushes)
    ≡ filter (λ (call : DueCall). not (call.disk == disk)) (slots_left counts slots ++ flushes_left SlotsFlush flushes)
filtered_behind disk counts slots flushes =
    (λ i. filtered_slots disk counts slots i ++ filtered_flushes SlotsFlush disk flushes i)
    ∙ sym (filter-append (λ (call : DueCall). not (call.disk == disk)) (slots_left counts slots) (flushes_left SlotsFlush flushes))

-- ---- numbers

pub some_few : (n : ℕ) → 0 < n → (0 < min n 4) × (min n 4 ≤ 4)
some_few n some = (grind (arith, nat_tests, some), grind (arith, nat_tests, some))

pub few_of : (n : ℕ) → min n 4 ≤ 4
few_of n = grind (arith, nat_tests)

-- some flushes, or none are left
pub some_or_none : (flushes : List ℕ) → (0 < min (length flushes) 4) ⊎ (flushes ≡ [])
some_or_none [] = inr refl
some_or_none (disk ∷ flushes) = inl (some_few (length (disk ∷ flushes)) (omega arith)).0

pub not_empty : {X : Type 0} (xs : List X) → 0 < length xs → ¬ (xs ≡ [])
not_empty xs some none = let count = ap length none in absurd (omega arith)
