-- A plan that is begun, and what it has once it is made.
use Rattle.std.proofs.Common.{ℕ, zero, suc, ◌≡◌, ◌⊎◌, ⊎_elim, ◌+◌, ◌-◌, ◌<◌, ◌≤◌, if◌then◌else◌, Bool, true, false, List, [], ◌∷◌, ◌++◌, map, Option, Some, None, Result, Ok, Err, OnErr, OnOk, Contains, refl, sym, ap, ◌∙◌, subst, inl, inr, arith}
use Rattle.std.specs.Prelude.{not, filter, slice_get, is_err}
use Rattle.std.specs.List.{AllByRecursion, count_by}
use Rattle.std.proofs.lemmas.Bool.{cases_lt}
use Rattle.std.proofs.lemmas.List.Elements.{All-contains, Contains-append_left, Contains-append_right}
use Rattle.model_disk.specs.Joint.{Disks, calls_on}
use Rattle.raidz_io.specs.declared.vdev.Vdev.{Vdev as VdevOnDisks}
use Rattle.raidz_io.specs.Reads.{AreUntouched}
use Rattle.raidz_io.specs.Writes.{ColumnWrite}
use Rattle.raidz_io.proofs.Calls.{Contains-front, Contains-later, Contains-cases, Contains-none}
use Rattle.raidz_io.proofs.Placed.{placed_at}
use Rattle.block_store.specs.declared.shape.VdevShape.{VdevShape}
use Rattle.block_store.specs.Spaces.{VdevSpace}
use Rattle.block_store.specs.Blocks.{Contents, Extends, AreStored}
use Rattle.block_store.specs.Places.{shapes_of, HaveMarks}
use Rattle.block_store.specs.Places.{filled as filled_marks, planned as planned_marks}
use Rattle.block_store.specs.Plans.{Plans}
use Rattle.block_store.specs.Steps.{OnlyReadsAndPlans, AnswersTell}
use Rattle.block_store.specs.Releases.{copies_of_all, AreReleased, AreAllInUse, AreSettledIn, AreSettledInSome, AreSpared}
use Rattle.block_store.specs.Store.{Store, Stores, outs, outs_from, is_out}
use Rattle.block_store.specs.Uses.{CopiesLieOn, Passes, IsInUse, IsSpared, SettlesTo}
use Rattle.block_store.proofs.Planning.{marks_by_map, stored_by}
use Rattle.block_store.proofs.Uses.{places_spare}
use Rattle.block_store.proofs.Writing.{found_at}
use Rattle.volume_rules.specs.Effects.{GroupTakesEffect}
use Rattle.pool_commit.specs.declared.kept.KeptGroup.{KeptGroup}
use Rattle.pool_model.specs.Flow.{counted_on}
use Rattle.pool_model.specs.declared.step.Phase.TheVariants.{BlocksFlush, Slots, SlotsFlush}
use Rattle.pool_model.specs.Machine.{due_write, IsPlan}
use Rattle.pool_model.proofs.Plans.{writes_on, writes_in, counts_after, four_times, plan_calls, is_plan_of}
use Rattle.pool_model.specs.Pools.{PlainPool, Entry, applied}
use Rattle.pool_model.specs.View.{View, Vdev, DueCall, Sync, Due, is_planned, counted, disks_of, disks_in_use}
use Rattle.pool_commit.specs.declared.kept.Planned.{Planned}
use Rattle.block_pointer.specs.declared.block.Block.{Block}
use Rattle.metaslab.specs.State.{is_in_use}
use Rattle.metaslab.specs.State.{State as State'}
use Rattle.dataset_snapshots.specs.Groups.{IsReachExchanged}
use Rattle.dataset_snapshots.proofs.GroupReach.{after_once, gone_are}
use Rattle.dnode_tree.specs.Freeing.{AreOnlyIn}
use Rattle.dnode_tree.specs.Rewriting.{AreDistinct}
use Rattle.dnode_tree.proofs.SameBlocks.{same_as, found}
use Rattle.dnode_tree.proofs.SameBlocks.{counted as counted_in}
use Rattle.disk_set.specs.declared.behind.Behind.{Behind}
use Rattle.disk_set.specs.declared.behind.SlotWrite.{SlotWrite}
use Rattle.pool_commit.specs.Backs.{Backs, AreDueBehind, BeginsWithMaps, HasMaps, LeavesMaps, IsPlanOf, IsUberblockOf, LeadsTo, kept_pool, left_calls, SpellsGroup}
use Rattle.pool_commit.specs.Making.{writes_left, slots_left, flushes_left}
use Rattle.pool_commit.specs.Slots.{slots_of_disk, all_slots}
use Rattle.pool_commit.specs.Config.{shown, vdevs_of}
use Rattle.pool_commit.specs.Room.{IsBegun}
use Rattle.pool_commit.specs.Space.{is_held_for, AreHeld, AreInUse, AreInBlocks, WereReleasedBy, GivesBack}
use Rattle.pool_commit.proofs.Made.{stale_still}
use Rattle.pool_commit.proofs.Accounting.{settled_in_blocks, settled_released_by, planned_in_blocks, planned_released_by, in_blocks_by, released_by_marks}
use Rattle.pool_commit.specs.State.{State, group_at}
use Rattle.pool_commit.proofs.Backing.{last_spelled}
use Rattle.pool_commit.proofs.Mapping.{kept_maps_over}
use Rattle.pool_commit.proofs.PlanMaps.{begins_with_maps, last_leads, maps_made}
use Rattle.pool_commit.proofs.Reaching.{led_known, plan_reaches, reached_over}
use Rattle.pool_commit.proofs.Holding.{weaker, by_marks, held_on, held_is_in_use, is_used, held_settles, held_is_spared, near, released_is_held, used_is}
use Rattle.pool_commit.proofs.Reaching.{no_plan as no_reach}
use Rattle.pool_commit.proofs.Tolerating.{vdev_at}

-- ---- disks in lists

in_front : (keeps : Bool) (y x : ℕ) (kept : List ℕ) → (x ≡ y → keeps ≡ true) → (x ≡ y) ⊎ Contains kept x → Contains (if keeps then y ∷ kept else kept) x
in_front true y x kept first held = ⊎_elim (λ same. rw same (Contains-front y kept)) (λ later. Contains-later y kept x later) held
in_front false y x kept first held = ⊎_elim (λ same. absurd (let e : false ≡ true = first same in cc)) (λ later. later) held

in_filter : (test : ℕ → Bool) (xs : List ℕ) (x : ℕ) → test x ≡ true → Contains xs x → Contains (filter test xs) x
in_filter test [] x is held = held
in_filter test (y ∷ xs) x is held =
    in_front (test y) y x (filter test xs) (λ same. subst (λ (z : ℕ). test z ≡ true) same is)
    (⊎_elim inl (λ later. inr (in_filter test xs x is later)) (Contains-cases y xs x held))

pub in_counted : (first n child : ℕ) → child < n → Contains (counted first n) (first + child)
in_counted first zero child below = absurd (omega arith)
in_counted first (suc n) child below =
    ⊎_elim (λ less. Contains-append_left (counted first n) ((first + n) ∷ []) (first + child) (in_counted first n child less))
    (λ at_least. let last : child ≡ n = omega arith in
    Contains-append_right (counted first n) ((first + n) ∷ []) (first + child)
    (subst (λ (k : ℕ). Contains ((first + k) ∷ []) (first + child)) last (Contains-front (first + child) [])))
    (cases_lt child n)

in_disks : (vdevs : List Vdev) (v : ℕ) (vdev : Vdev) (disk : ℕ) → slice_get vdevs v ≡ Some vdev → Contains (counted vdev.first vdev.children) disk
    → Contains (disks_of vdevs) disk
in_disks [] v vdev disk found held = absurd (cc)
in_disks (first ∷ vdevs) zero vdev disk found held =
    let same : first ≡ vdev = cc in
    Contains-append_left (counted first.first first.children) (disks_of vdevs) disk
    (subst (λ (there : Vdev). Contains (counted there.first there.children) disk) (sym same) held)
in_disks (first ∷ vdevs) (suc v) vdev disk found held =
    Contains-append_right (counted first.first first.children) (disks_of vdevs) disk (in_disks vdevs v vdev disk found held)

-- ---- the writes that are due

-- each is to a disk of a vdev
write_on_disk : (store : Store) (stored planned : Contents) (write : ColumnWrite) → Plans store stored planned → Contains store.due write
    → Contains (disks_of (vdevs_of store.spaces)) write.disk
write_on_disk store stored planned write plans held =
    let one = plans.due write held in
    let way = plans.on_the_way one.block one.bytes one.i one.extent one.is_planned one.is_new one.is_copy in
    let at = found_at (plans.writes_of one.block one.i) write one.is_of_copy in
    let is = way.columns at.0 write at.1 in
    let placed = placed_at one.extent at.0 is.column is.below is.is_column in
    let there = one.is_copy.extent_is in
    let among : Contains (counted one.extent.vdev.first one.extent.vdev.geometry.children) write.disk =
    subst (λ (disk : ℕ). Contains (counted one.extent.vdev.first one.extent.vdev.geometry.children) disk) (sym is.disk)
    (in_counted one.extent.vdev.first one.extent.vdev.geometry.children is.column.child placed.child) in
    in_disks (vdevs_of store.spaces) one.is_copy.place.vdev (shown there.space.shape.vdev) write.disk
    (vdev_at store.spaces one.is_copy.place.vdev there.space there.found)
    (subst (λ (vdev : VdevOnDisks). Contains (counted vdev.first vdev.geometry.children) write.disk) there.vdev among)

here : {A : Type 0} (x : A) (xs : List A) → Contains (x ∷ xs) x
here x xs = (0, omega arith, refl)

behind : {A : Type 0} (x : A) (xs : List A) (y : A) → Contains xs y → Contains (x ∷ xs) y
behind x xs y (k, within, is) = (suc k, omega arith, is)

all_disks : (P : ℕ → Type 0) (writes : List ColumnWrite) → ((write : ColumnWrite) → Contains writes write → P write.disk)
    → AllByRecursion P (map (λ write. write.disk) writes)
all_disks P [] each = tt
all_disks P (write ∷ writes) each = (each write (here write writes), all_disks P writes (λ other held. each other (behind write writes other held)))

calls_of_disks : (counts : ℕ → ℕ) (writes : List ColumnWrite) → writes_left counts writes ≡ writes_on counts (map (λ write. write.disk) writes)
calls_of_disks counts [] = refl
calls_of_disks counts (write ∷ writes) = ap (λ (calls : List DueCall). due_write write.disk (counts write.disk) ∷ calls) (calls_of_disks (counted_on counts write.disk) writes)

-- no write was made yet
abbrev pub none_before : ℕ → ℕ
none_before disk = 0

pub same_vdevs : (spaces others : List VdevSpace) → shapes_of others ≡ shapes_of spaces → vdevs_of others ≡ vdevs_of spaces
same_vdevs spaces others same = ap (λ (shapes : List VdevShape). map (λ shape. shown shape.vdev) shapes) same

slots_are : (counts : ℕ → ℕ) (slots : List SlotWrite) → slots_left counts slots ≡ writes_in Slots counts (map (λ (write : SlotWrite). write.disk) slots)
slots_are counts [] = refl
slots_are counts (write ∷ slots) =
    ap (λ (calls : List DueCall). record { disk = write.disk; phase = Slots; number = counts write.disk } ∷ calls) (slots_are (counted_on counts write.disk) slots)

disks_of_slots : (disks : List ℕ) → map (λ (write : SlotWrite). write.disk) (all_slots disks) ≡ four_times disks
disks_of_slots [] = refl
disks_of_slots (disk ∷ disks) = ap (λ (rest : List ℕ). disk ∷ disk ∷ disk ∷ disk ∷ rest) (disks_of_slots disks)

-- where commits end in slots, writes to disks in use, and then what is due behind them
abbrev pub slot_counts_of : Store → ℕ → ℕ
slot_counts_of store = counts_after none_before (map (λ (write : ColumnWrite). write.disk) store.due)

left_are : (store : Store) (behind : Behind) (disks : List ℕ) → AreDueBehind behind disks
    → left_calls none_before (slot_counts_of store) store.due behind ≡ plan_calls (map (λ (write : ColumnWrite). write.disk) store.due) disks disks
left_are store behind disks are =
    (λ i. calls_of_disks none_before store.due i ++ (flushes_left BlocksFlush (are.flushes i) ++ (slots_are (slot_counts_of store) behind.slots.items i ++ flushes_left SlotsFlush (are.slot_flushes i))))
    ∙ (λ i. writes_on none_before (map (λ (write : ColumnWrite). write.disk) store.due)
    ++ (flushes_left BlocksFlush disks ++ (writes_in Slots (slot_counts_of store) ((ap (λ (slots : List SlotWrite). map (λ (write : SlotWrite). write.disk) slots) are.slots ∙ disks_of_slots disks) i)
    ++ flushes_left SlotsFlush disks)))

is_plan : (old new : Store) (v : View) (behind : Behind) (stored planned : Contents) → v.vdevs ≡ vdevs_of old.spaces → v.slots ≡ true → ((disk : ℕ) → v.out disk ≡ is_out old.out disk)
    → old.due ≡ [] → OnlyReadsAndPlans old new [] → Plans new stored planned → AreDueBehind behind (disks_in_use v) → IsPlan v (left_calls none_before (slot_counts_of new) new.due behind)
is_plan old new v behind stored planned vdevs slots out none kept plans are =
    let only : new.due ≡ kept.added = kept.due ∙ ap (λ (writes : List ColumnWrite). writes ++ kept.added) none in
    subst (IsPlan v) (sym (left_are new behind (disks_in_use v) are))
    (subst (λ (b : Bool). IsPlan v (plan_calls (map (λ (write : ColumnWrite). write.disk) new.due) (disks_in_use v) (if b then disks_in_use v else []))) slots
    (is_plan_of v (map (λ (write : ColumnWrite). write.disk) new.due)
    (all_disks (Contains (disks_in_use v)) new.due (λ write held.
    in_filter (λ disk. not (v.out disk)) (disks_of v.vdevs) write.disk
    (ap not (out write.disk ∙ All-contains (λ (w : ColumnWrite). is_out old.out w.disk ≡ false) kept.added write kept.in_use
    (subst (λ (writes : List ColumnWrite). Contains writes write) only held)))
    (subst (λ (list : List Vdev). Contains (disks_of list) write.disk) (same_vdevs old.spaces new.spaces kept.shapes ∙ sym vdevs)
    (write_on_disk new stored planned write plans held))))))

-- each label of each of these disks has its slot
slot_of : (disk label : ℕ) → label < 4 → Contains (slots_of_disk disk) (record { disk = disk; label = label })
slot_of disk label below = elim (four label below) [
  | inl is ↦ (0, omega arith, λ i. record { disk = disk; label = sym is i })
  | inr (inl is) ↦ (1, omega arith, λ i. record { disk = disk; label = sym is i })
  | inr (inr (inl is)) ↦ (2, omega arith, λ i. record { disk = disk; label = sym is i })
  | inr (inr (inr is)) ↦ (3, omega arith, λ i. record { disk = disk; label = sym is i })
]
  where
    four : (label : ℕ) → label < 4 → (label ≡ 0) ⊎ ((label ≡ 1) ⊎ ((label ≡ 2) ⊎ (label ≡ 3)))
    four label below = grind (arith, below)

has_slot : (disks : List ℕ) (disk label : ℕ) → Contains disks disk → label < 4 → Contains (all_slots disks) (record { disk = disk; label = label })
has_slot [] disk label held below = absurd (Contains-none disk held)
has_slot (first ∷ disks) disk label held below = elim (Contains-cases first disks disk held) [
  | inl same ↦ subst (λ (d : ℕ). Contains (slots_of_disk d ++ all_slots disks) (record { disk = disk; label = label })) same
      (Contains-append_left (slots_of_disk disk) (all_slots disks) (record { disk = disk; label = label }) (slot_of disk label below))
  | inr later ↦ Contains-append_right (slots_of_disk first) (all_slots disks) (record { disk = disk; label = label }) (has_slot disks disk label later below)
]

not_true : (b : Bool) → not b ≡ true → b ≡ false
not_true false is = refl
not_true true is = absurd (cc)

kept_at : (test : ℕ → Bool) (y : ℕ) (xs : List ℕ) (x : ℕ) (b : Bool) → test y ≡ b → (Contains xs x → test x ≡ true) → Contains (if b then y ∷ xs else xs) x → test x ≡ true
kept_at test y xs x true is later held = ⊎_elim (λ same. ap test same ∙ is) later (Contains-cases y xs x held)
kept_at test y xs x false is later held = later held

-- what a filter keeps passes its test
kept_passes : (test : ℕ → Bool) (xs : List ℕ) (x : ℕ) → Contains (filter test xs) x → test x ≡ true
kept_passes test [] x held = absurd (Contains-none x held)
kept_passes test (y ∷ xs) x held = kept_at test y (filter test xs) x (test y) refl (kept_passes test xs x) held

calls_in_use : (store : Store) (v : View) (calls : List DueCall) → ((disk : ℕ) → v.out disk ≡ is_out store.out disk) → AllByRecursion (λ (call : DueCall). Contains (disks_in_use v) call.disk) calls
    → AllByRecursion (λ (call : DueCall). is_out store.out call.disk ≡ false) calls
calls_in_use store v [] out all = tt
calls_in_use store v (call ∷ calls) out all = (
  sym (out call.disk) ∙ not_true (v.out call.disk) (kept_passes (λ disk. not (v.out disk)) (disks_of v.vdevs) call.disk all.0),
  calls_in_use store v calls out all.1,
)

-- ---- states

-- what holds, holds at an error
pub at_error : {T E : Type 0} (result : Result T E) (P : Type 0) → P → OnErr result P
at_error (Ok x) P h = tt
at_error (Err e) P h = h

-- a plan of a group begins, and what is due to it becomes free
pub record Begins (old new : Store) (group : ℕ) : Type 0 where
  pub free : HaveMarks new.spaces filled_marks new.spaces planned_marks
  pub stays : (test later : State' → Bool) (block : Block) → SettlesTo group (Passes test) (Passes later) → CopiesLieOn (Passes test) old.spaces filled_marks block
      → CopiesLieOn (Passes later) new.spaces filled_marks block
  pub plans : (stored : Contents) → Stores old stored → AreSpared group old.spaces stored → Plans new stored stored
  pub some : AreSettledInSome group old.spaces new.spaces
  pub stale : new.spans.stale ≡ old.spans.stale

-- what the kept groups lead to is held still
begun_held : (s : State) (store : Store) (group : ℕ) (v : View) → Begins s.store store group → group ≤ suc s.kept.committed → (backs : Backs s v)
    → AreHeld store.spaces filled_marks s.kept.committed backs.blocks.reached.reach
begun_held s store group v begins next backs g block among =
    let last : ℕ = s.kept.committed in
    let close = near backs.blocks.stored s.kept (kept_pool v g) g (backs.blocks.reached.reach g) block (backs.blocks.reached.leads g) among in
    begins.stays (is_held_for g last) (is_held_for g last) block (held_settles g last group close.1 next)
    (backs.blocks.reached.held g block among)

-- and none of what is stored is due
begun_spares : (s : State) (group : ℕ) (v : View) → group ≤ suc s.kept.committed → (backs : Backs s v) → AreSpared group s.store.spaces backs.blocks.stored
begun_spares s group v next backs block bytes known =
    let last : ℕ = s.kept.committed in
    let (g, among) = backs.blocks.reached.only block bytes known in
    let close = near backs.blocks.stored s.kept (kept_pool v g) g (backs.blocks.reached.reach g) block (backs.blocks.reached.leads g) among in
    weaker (Passes (is_held_for g last)) (IsSpared group) s.store.spaces filled_marks block (held_is_spared g last group close.1 next) (backs.blocks.reached.held g block among)

-- where a plan was begun, the one before it is dropped
pub backs_begun : (s : State) (store : Store) (group : ℕ) (v : View) → store.out ≡ s.store.out → shapes_of store.spaces ≡ shapes_of s.store.spaces
    → Begins s.store store group → group ≤ suc s.kept.committed → (sync : Sync) → is_planned sync ≡ false → Backs s v
    → Backs (record s { store = store; planned = None }) (record v { sync = sync })
backs_begun s store group v out shapes begins next sync none backs =
    let held : AreHeld store.spaces filled_marks s.kept.committed backs.blocks.reached.reach = begun_held s store group v begins next backs in record {
      vdevs = backs.vdevs ∙ sym (same_vdevs s.store.spaces store.spaces shapes);
      slots = backs.slots;
      out = λ disk. backs.out disk ∙ sym (ap (λ (list : List Bool). is_out list disk) out);
      stale = stale_still s.store store v begins.stale backs.stale;
      committed = backs.committed;
      stamped = backs.stamped;
      blocks = record {
        stored = backs.blocks.stored;
        planned = backs.blocks.stored;
        plans = begins.plans backs.blocks.stored (stored_by s.store backs.blocks.stored backs.blocks.planned backs.blocks.plans) (begun_spares s group v next backs);
        kept = backs.blocks.kept;
        plan = none;
        reached = record {
          mapped = λ g. kept_maps_over s.store.spaces store.spaces backs.blocks.stored g (group_at s.kept g) (kept_pool v g) shapes (backs.blocks.reached.mapped g);
          reach = backs.blocks.reached.reach;
          leads = backs.blocks.reached.leads;
          once = backs.blocks.reached.once;
          only = backs.blocks.reached.only;
          held = held;
          accounted = settled_in_blocks group s.store.spaces store.spaces (backs.blocks.reached.reach s.kept.committed) shapes begins.some backs.blocks.reached.accounted;
          released = settled_released_by group s.store.spaces store.spaces s.kept.committed shapes begins.some backs.blocks.reached.released;
        };
        plan_reached = tt;
      };
    }

-- nothing but what is stored is planned then
pub begun_plans : (s : State) (store : Store) (group : ℕ) (v : View) (out : store.out ≡ s.store.out) (shapes : shapes_of store.spaces ≡ shapes_of s.store.spaces)
    (begins : Begins s.store store group) (next : group ≤ suc s.kept.committed) (sync : Sync) (none : is_planned sync ≡ false) (backs : Backs s v)
    → Plans store (backs_begun s store group v out shapes begins next sync none backs).blocks.stored (backs_begun s store group v out shapes begins next sync none backs).blocks.stored
unfolding backs_begun
begun_plans s store group v out shapes begins next sync none backs = begins.plans backs.blocks.stored (stored_by s.store backs.blocks.stored backs.blocks.planned backs.blocks.plans) (begun_spares s group v next backs)

-- and where more was planned since, but no plan was made
pub backs_still : (s : State) (new : Store) (v : View) → s.planned ≡ None → OnlyReadsAndPlans s.store new [] → Backs s v
    → Backs (record s { store = new }) v
backs_still s new v no_plan kept backs =
    let there = kept.plans backs.blocks.stored backs.blocks.planned backs.blocks.plans in
    record {
      vdevs = backs.vdevs ∙ sym (same_vdevs s.store.spaces new.spaces kept.shapes);
      slots = backs.slots;
      out = λ disk. backs.out disk ∙ sym (ap (λ (list : List Bool). is_out list disk) kept.out);
      stale = stale_still s.store new v kept.stale backs.stale;
      committed = backs.committed;
      stamped = backs.stamped;
      blocks = record {
        stored = backs.blocks.stored;
        planned = there.0;
        plans = there.1;
        kept = backs.blocks.kept;
        plan = none_is_left s new backs.blocks.planned there.0 s.planned v no_plan backs.blocks.plan;
        reached = reached_over s.store.spaces new.spaces backs.blocks.stored s.kept (kept_pool v) kept.shapes (marks_by_map filled_marks s.store.spaces new.spaces kept.filled)
            backs.blocks.reached;
        plan_reached = no_reach new.spaces _ backs.blocks.stored there.0 s.planned v no_plan;
      };
    }
  where
    none_is_left : (s : State) (new : Store) (planned later : Contents) (plan : Option Planned) (v : View) → plan ≡ None → IsPlanOf s planned plan v
        → IsPlanOf (record s { store = new }) later plan v
    none_is_left s new planned later None v no_plan is = is
    none_is_left s new planned later (Some plan) v no_plan is = absurd (cc)

-- no plan is there still
pub unplanned_still : (s : State) (planned : Option Planned) (v : View) → planned ≡ None → Backs (record s { planned = None }) v → Backs (record s { planned = planned }) v
unplanned_still s planned v none backs = subst (λ (o : Option Planned). Backs (record s { planned = o }) v) (sym none) backs

-- the next group, once it was planned
abbrev pub IsAfter : Store → Store → ℕ → KeptGroup → Entry → KeptGroup → Block → List Block → Type 0
IsAfter old new group last items after root gone =
    (stored planned : Contents) (pool : PlainPool) (before : List Block) → Plans old stored planned → SpellsGroup stored (group - 1) last pool
    → LeadsTo stored (group - 1) last.root pool before → BeginsWithMaps old.spaces stored (group - 1) last.root pool → AnswersTell old new [] → GroupTakesEffect group pool items
    → (later : Contents) × Plans new stored later × Extends planned later × SpellsGroup later group after (applied group pool items)
    × (reach : List Block) × LeadsTo later group after.root (applied group pool items) reach × IsReachExchanged group planned later before reach gone
    × LeavesMaps new.spaces gone later group root (applied group pool items)

-- and its blocks are what its root leads to, for those of the group before; its maps are left
abbrev LeadsOn : List VdevSpace → Contents → Contents → ℕ → KeptGroup → Block → PlainPool → List Block → List Block → Type 0
LeadsOn spaces stored later group after root pool before gone =
    (reach : List Block) × LeadsTo later group after.root pool reach × IsReachExchanged group stored later before reach gone
    × LeavesMaps spaces gone later group root pool

-- what was planned before blocks were given back, for what was stored
module _ (begun made new : Store) (last : ℕ) (earlier : ℕ → List Block) (stored later : Contents) (reach gone : List Block)
    (free : HaveMarks begun.spaces filled_marks begun.spaces planned_marks) (steps : OnlyReadsAndPlans begun made []) (gives : GivesBack made new gone (suc last))
    (held : AreHeld begun.spaces filled_marks last earlier) (low : (g : ℕ) (block : Block) → Contains (earlier g) block → g ≤ last)
    (known : (block : Block) → Contains (earlier last) block → (bytes : List ℕ) × (stored block ≡ Some bytes)) (distinct : AreDistinct (earlier last))
    (plans : Plans made stored later) (exchanged : IsReachExchanged (suc last) stored later (earlier last) reach gone) where
  -- before blocks are given back
  held_made : AreHeld made.spaces planned_marks last earlier
  held_made g block among =
      places_spare (is_held_for g last) begun.spaces made.spaces steps.placed block refl steps.were_placed
      (by_marks (Passes (is_held_for g last)) begun.spaces begun.spaces filled_marks planned_marks block refl free (held g block among))

  pub held_then : AreHeld new.spaces planned_marks (suc last) earlier
  held_then g block among =
      gives.stays (is_held_for g (suc last)) block (released_is_held g last (low g block among))
      (weaker (Passes (is_held_for g last)) (Passes (is_held_for g (suc last))) made.spaces planned_marks block (held_on g last) (held_made g block among))

  only_gone : AreOnlyIn (earlier last) reach gone
  only_gone = gone_are (suc last) stored later (earlier last) reach gone known distinct exchanged

  pub gone_stored : AreStored stored gone
  gone_stored block among = known block ((only_gone.which block).0 among).0

  pub gone_once : AreDistinct gone
  gone_once = only_gone.once

  -- what is given back was in use
  pub gone_in_use : AreAllInUse made.spaces gone
  gone_in_use block among =
      weaker (Passes (is_held_for last last)) IsInUse made.spaces planned_marks block (λ state held. is_used state (held_is_in_use last state held))
      (held_made last block ((only_gone.which block).0 among).0)

  -- what the new root leads to is in use before blocks are given back
  in_use_made : (block : Block) → Contains reach block → ((bytes : List ℕ) × (later block ≡ Some bytes)) × CopiesLieOn (Passes is_in_use) made.spaces planned_marks block
  in_use_made block among =
      let all : 0 < count_by (same_as block) reach = counted_in block reach among in
      elim (cases_lt 0 (count_by (same_as block) exchanged.added)) [
        | inl some ↦
            let added = found block exchanged.added some in
            let there = exchanged.known block added in
            (there, weaker IsInUse (Passes is_in_use) made.spaces planned_marks block used_is (plans.in_use block there.0 there.1 (exchanged.fresh block added)))
        | inr none ↦
            let stayed : 0 < count_by (same_as block) exchanged.stayed = omega (arith, all, none, exchanged.after_are (same_as block)) in
            let before : Contains (earlier last) block = found block (earlier last) (omega (arith, stayed, exchanged.before_are (same_as block))) in
            let there = known block before in
            ((there.0, plans.kept block there.0 there.1), weaker (Passes (is_held_for last last)) (Passes is_in_use) made.spaces planned_marks block (held_is_in_use last) (held_made last block before))
      ]

  pub in_use_then : AreInUse new.spaces planned_marks reach
  in_use_then block among =
      let (there, lies) = in_use_made block among in
      gives.spares is_in_use stored later block there.0 plans gone_stored there.1 (λ left. ((only_gone.which block).0 left).1 among) lies

-- what holds where a call answers, where it answered
pub was_ok : {E : Type 0} (result : Result (Unit {0}) E) (P : Type 0) → is_err result ≡ false → OnOk result P → P
was_ok (Ok unit) P is holds = holds
was_ok (Err e) P is holds = absurd (cc)

-- stored blocks that are in use, each of them once, were given back
abbrev pub AreGivenBack : Store → Store → List Block → ℕ → Type 0
AreGivenBack made new gone group = (stored planned : Contents) → Plans made stored planned → AreStored stored gone → AreDistinct gone
    → AreAllInUse made.spaces gone → AreReleased made.spaces (copies_of_all gone) group new.spaces

pub plan_is_backed : (s : State) (made new : Store) (group : ℕ) (last : KeptGroup) (plan : Planned) (gone : List Block) (items : Entry) (v : View) → (backs : Backs s v) → s.store.due ≡ []
    → group ≡ suc v.committed → last ≡ s.kept.last → items ≡ v.ledger (suc v.committed) → GroupTakesEffect (suc v.committed) (v.pools v.committed) items
    → AreDueBehind plan.behind (filter (λ disk. not (is_out s.store.out disk)) (disks_of (vdevs_of s.store.spaces))) → (uberblock : IsUberblockOf s.stamp group plan)
    → OnlyReadsAndPlans s.store made [] → GivesBack made new gone group → HaveMarks s.store.spaces filled_marks s.store.spaces planned_marks
    → AnswersTell s.store made [] → Plans s.store backs.blocks.stored backs.blocks.stored → IsAfter s.store made group last items plan.after uberblock.root gone
    → made.stray ≡ false → AreGivenBack made new gone group → plan.after.config.value ≡ last.config.value
    → (calls : List DueCall) × IsPlan v calls × Backs (record s { store = new; planned = Some plan }) (record v { sync = Due calls })
plan_is_backed s made new group last plan gone items v backs none next is_last are effects behind uberblock kept gives free tell begun after whole given configured =
    let before : group - 1 ≡ v.committed = omega arith in
    let pool : PlainPool = v.pools v.committed in
    let stored : Contents = backs.blocks.stored in
    let earlier : ℕ → List Block = backs.blocks.reached.reach in
    let spelled : SpellsGroup stored (group - 1) last pool =
    subst (λ (n : ℕ). SpellsGroup stored n last pool) (sym before)
    (subst (λ (kept : KeptGroup). SpellsGroup stored v.committed kept pool) (sym is_last) (last_spelled s v backs)) in
    let led_last : LeadsTo stored v.committed last.root pool (earlier v.committed) =
    subst (λ (kept : KeptGroup). LeadsTo stored v.committed kept.root pool (earlier v.committed)) (sym is_last) (last_leads s v backs) in
    let led : LeadsTo stored (group - 1) last.root pool (earlier v.committed) =
    subst (λ (n : ℕ). LeadsTo stored n last.root pool (earlier v.committed)) (sym before) led_last in
    let begins : BeginsWithMaps s.store.spaces stored (group - 1) last.root pool =
    subst (λ (n : ℕ). BeginsWithMaps s.store.spaces stored n last.root pool) (sym before)
    (subst (λ (kept : KeptGroup). BeginsWithMaps s.store.spaces stored v.committed kept.root pool) (sym is_last) (begins_with_maps s v backs free)) in
    let there = after stored stored pool (earlier v.committed) begun spelled led begins tell (subst (λ (n : ℕ). GroupTakesEffect n pool items) (sym next) effects) in
    let later : Contents = there.0 in
    let root : Block = uberblock.root in
    let on : LeadsOn made.spaces stored later (suc v.committed) plan.after root (applied (suc v.committed) pool (v.ledger (suc v.committed))) (earlier v.committed) gone =
    subst (λ (entry : Entry). LeadsOn made.spaces stored later (suc v.committed) plan.after root (applied (suc v.committed) pool entry) (earlier v.committed) gone) are
    (subst (λ (n : ℕ). LeadsOn made.spaces stored later n plan.after root (applied n pool items) (earlier v.committed) gone) next (there.4, there.5, there.6, there.7)) in
    let all : AreDueBehind plan.behind (disks_in_use v) =
    subst (AreDueBehind plan.behind) (λ i. filter (λ disk. not (sym (backs.out disk) i)) (disks_of (sym backs.vdevs i))) behind in
    let due : new.due ≡ made.due = gives.due in
    let plan_is : IsPlan v (left_calls none_before (slot_counts_of new) new.due plan.behind) =
    subst (λ (writes : List ColumnWrite). IsPlan v (left_calls none_before (counts_after none_before (map (λ (write : ColumnWrite). write.disk) writes)) writes plan.behind)) (sym due)
    (is_plan s.store made v plan.behind stored later backs.vdevs backs.slots backs.out none kept there.1 all) in
    let spells : SpellsGroup later (suc v.committed) plan.after (applied (suc v.committed) pool (v.ledger (suc v.committed))) =
    subst (λ (entry : Entry). SpellsGroup later (suc v.committed) plan.after (applied (suc v.committed) pool entry)) are
    (subst (λ (n : ℕ). SpellsGroup later n plan.after (applied n pool items)) next there.3) in
    let gives_next : GivesBack made new gone (suc v.committed) = subst (GivesBack made new gone) next gives in
    let held : AreHeld s.store.spaces filled_marks v.committed earlier = subst (λ c. AreHeld s.store.spaces filled_marks c earlier) backs.committed backs.blocks.reached.held in
    let low : (g : ℕ) (block : Block) → Contains (earlier g) block → g ≤ v.committed = λ g block among.
    let close = near stored s.kept (kept_pool v g) g (earlier g) block (backs.blocks.reached.leads g) among in omega (arith, close.0, backs.committed) in
    let known = led_known stored v.committed last.root pool (earlier v.committed) led_last in
    let distinct = backs.blocks.reached.once v.committed in
    let held_new : AreHeld new.spaces planned_marks (suc v.committed) earlier =
    held_then s.store made new v.committed earlier stored later on.0 gone free kept gives_next held low known distinct there.1 on.2 in
    let in_use_new : AreInUse new.spaces planned_marks on.0 =
    in_use_then s.store made new v.committed earlier stored later on.0 gone free kept gives_next held low known distinct there.1 on.2 in
    let stored_gone : AreStored stored gone =
    gone_stored s.store made new v.committed earlier stored later on.0 gone free kept gives_next held low known distinct there.1 on.2 in
    let shapes : shapes_of new.spaces ≡ shapes_of s.store.spaces = gives.shapes ∙ kept.shapes in
    let released : AreReleased made.spaces (copies_of_all gone) (suc v.committed) new.spaces =
    subst (λ n. AreReleased made.spaces (copies_of_all gone) n new.spaces) next (given stored later there.1 stored_gone
    (gone_once s.store made new v.committed earlier stored later on.0 gone free kept gives_next held low known distinct there.1 on.2)
    (gone_in_use s.store made new v.committed earlier stored later on.0 gone free kept gives_next held low known distinct there.1 on.2)) in
    let filled_before : AreInBlocks made.spaces filled_marks (earlier v.committed) =
    in_blocks_by s.store.spaces made.spaces filled_marks filled_marks (earlier v.committed) kept.shapes (marks_by_map filled_marks s.store.spaces made.spaces kept.filled)
    (subst (λ c. AreInBlocks s.store.spaces filled_marks (earlier c)) backs.committed backs.blocks.reached.accounted) in
    let accounted_new : AreInBlocks new.spaces planned_marks on.0 =
    planned_in_blocks (suc v.committed) made.spaces new.spaces stored later (earlier v.committed) on.0 gone (suc v.committed) on.2 (there.1.accounted whole)
    filled_before released gives.shapes in
    let released_before : WereReleasedBy s.store.spaces planned_marks v.committed =
    released_by_marks s.store.spaces s.store.spaces filled_marks planned_marks v.committed refl free
    (subst (λ c. WereReleasedBy s.store.spaces filled_marks c) backs.committed backs.blocks.reached.released) in
    let released_new : WereReleasedBy new.spaces planned_marks (suc v.committed) =
    planned_released_by s.store.spaces made.spaces new.spaces kept.placed (copies_of_all gone) v.committed (suc v.committed) (omega arith) released_before
    kept.were_placed released in
    let once_new : AreDistinct on.0 = after_once (suc v.committed) stored later (earlier v.committed) on.0 gone known distinct on.2 in
    let mapped : HasMaps new.spaces later (suc v.committed) plan.after.root (applied (suc v.committed) pool (v.ledger (suc v.committed))) =
    maps_made made.spaces new.spaces gone later (suc v.committed) plan.after.root root (applied (suc v.committed) pool (v.ledger (suc v.committed))) on.0 uberblock.is_root on.3 on.1
    released in_use_new accounted_new once_new there.1.placed in (
      left_calls none_before (slot_counts_of new) new.due plan.behind,
      plan_is,
      record {
        vdevs = backs.vdevs ∙ sym (same_vdevs s.store.spaces new.spaces shapes);
        slots = backs.slots;
        out = λ disk. backs.out disk ∙ sym (ap (λ (list : List Bool). is_out list disk) (gives.out ∙ kept.out));
        stale = stale_still s.store new v (gives.stale ∙ kept.stale) backs.stale;
        committed = backs.committed;
        stamped = backs.stamped;
        blocks = record {
          stored = stored;
          planned = later;
          plans = gives.plans stored later there.1 stored_gone;
          kept = backs.blocks.kept;
          plan = record {
            counts = none_before;
            slot_counts = slot_counts_of new;
            sync = refl;
            spells = spells;
            config = configured ∙ ap (λ (k : KeptGroup). k.config.value) is_last;
            uberblock = subst (λ n. IsUberblockOf s.stamp n plan) next uberblock;
            to_flush = λ disk in_use. inl (subst (λ (xs : List ℕ). Contains xs disk) (sym all.slot_flushes) in_use);
            shown = λ write in_use label. inl (subst (λ (xs : List SlotWrite). Contains xs write) (sym all.slots) (has_slot (disks_in_use v) write.disk write.label in_use label));
            in_use = subst (λ (out : List Bool). AllByRecursion (λ (call : DueCall). is_out out call.disk ≡ false) (left_calls none_before (slot_counts_of new) new.due plan.behind)) (sym (gives.out ∙ kept.out))
                (calls_in_use s.store v (left_calls none_before (slot_counts_of new) new.due plan.behind) backs.out plan_is.in_use);
          };
          reached = reached_over made.spaces new.spaces stored s.kept (kept_pool v) gives.shapes gives.filled_stays
              (reached_over s.store.spaces made.spaces stored s.kept (kept_pool v) kept.shapes (marks_by_map filled_marks s.store.spaces made.spaces kept.filled) backs.blocks.reached);
          plan_reached = plan_reaches new.spaces earlier stored later plan.after v last.root pool (earlier v.committed) on.0 gone led_last distinct on.1 on.2 held_new in_use_new accounted_new released_new mapped;
        };
      },
    )

-- where blocks could not be given back the plan is dropped
pub backs_dropped : (s : State) (made mid new : Store) (gone : List Block) (group : ℕ) (v : View) → s.planned ≡ None → OnlyReadsAndPlans s.store made []
    → GivesBack made mid gone group → new.out ≡ mid.out → new.spans.stale ≡ mid.spans.stale → shapes_of new.spaces ≡ shapes_of mid.spaces
    → HaveMarks mid.spaces filled_marks new.spaces filled_marks → ((stored : Contents) → Stores mid stored → Plans new stored stored) → Backs s v → Backs (record s { store = new }) v
backs_dropped s made mid new gone group v no_plan kept gives out stale shapes filled plans backs =
    let there = kept.plans backs.blocks.stored backs.blocks.planned backs.blocks.plans in
    record {
      vdevs = backs.vdevs ∙ sym (same_vdevs s.store.spaces new.spaces (shapes ∙ gives.shapes ∙ kept.shapes));
      slots = backs.slots;
      out = λ disk. backs.out disk ∙ sym (ap (λ (list : List Bool). is_out list disk) (out ∙ gives.out ∙ kept.out));
      stale = stale_still s.store new v (stale ∙ gives.stale ∙ kept.stale) backs.stale;
      committed = backs.committed;
      stamped = backs.stamped;
      blocks = record {
        stored = backs.blocks.stored;
        planned = backs.blocks.stored;
        plans = plans backs.blocks.stored (gives.stores backs.blocks.stored (stored_by made backs.blocks.stored there.0 there.1));
        kept = backs.blocks.kept;
        plan = none_is_left s.planned no_plan backs.blocks.plan;
        reached = reached_over mid.spaces new.spaces backs.blocks.stored s.kept (kept_pool v) shapes filled
            (reached_over made.spaces mid.spaces backs.blocks.stored s.kept (kept_pool v) gives.shapes gives.filled_stays
            (reached_over s.store.spaces made.spaces backs.blocks.stored s.kept (kept_pool v) kept.shapes (marks_by_map filled_marks s.store.spaces made.spaces kept.filled) backs.blocks.reached));
        plan_reached = no_reach new.spaces _ backs.blocks.stored backs.blocks.stored s.planned v no_plan;
      };
    }
  where
    none_is_left : (plan : Option Planned) → plan ≡ None → IsPlanOf s backs.blocks.planned plan v → IsPlanOf (record s { store = new }) backs.blocks.stored plan v
    none_is_left None no_plan is = is
    none_is_left (Some plan) no_plan is = absurd (cc)

-- disks that were out as the plan was begun are untouched since
pub untouched_since : (old begun new : Store) → begun.disks ≡ old.disks → begun.out ≡ old.out → AreUntouched (outs begun ++ []) begun.disks new.disks
    → AreUntouched (outs old) old.disks new.disks
untouched_since old begun new disks out untouched disk held =
    untouched disk (Contains-append_left (outs begun) [] disk (subst (λ (flags : List Bool). Contains (outs_from 0 flags) disk) (sym out) held))
    ∙ ap (λ (d : Disks). calls_on disk d.calls) disks

pub is_begun : (old begun : Store) (group : ℕ) → begun.disks ≡ old.disks → begun.out ≡ old.out → begun.spans.stale ≡ old.spans.stale → shapes_of begun.spaces ≡ shapes_of old.spaces
    → AreSettledIn group old.spaces begun.spaces → HaveMarks begun.spaces filled_marks begun.spaces planned_marks → IsBegun group old begun
is_begun old begun group disks out stale shapes settled free = record { disks = disks; out = out; stale = stale; shapes = shapes; settled = settled; free = free }
