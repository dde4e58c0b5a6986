-- A state that backs a view: its kept groups, and what reads leave.
use Rattle.std.proofs.Common.{ℕ, suc, ◌≡◌, ◌==◌, if◌then◌else◌, Bool, true, false, List, Option, Some, None, refl, sym, ap, ◌∙◌, subst, [], ◌∷◌, ◌++◌, inl, inr, ⊎_elim, append_assoc}
use Rattle.std.specs.List.{AllByRecursion}
use Rattle.model_disk.specs.Call.{Call, Read, FailedRead, Wrote, FailedWrite, Flushed, FailedFlush}
use Rattle.model_disk.specs.Joint.{Disks, JointCall, on}
use Rattle.raidz_io.specs.Reads.{IsRead, AreReads, OnlyReads}
use Rattle.std.specs.Prelude.{cond}
use Rattle.raidz_io.proofs.Calls.{content-OnlyReads}
use Rattle.std.proofs.lemmas.Bool.{eq-eqb}
use Rattle.raidz_io.specs.Writes.{ColumnWrite}
use Rattle.block_pointer.specs.declared.block.Block.{Block}
use Rattle.block_store.specs.Blocks.{Contents}
use Rattle.block_store.specs.Places.{shapes_of}
use Rattle.block_store.specs.Places.{filled as filled_marks}
use Rattle.block_store.specs.Spaces.{VdevSpace}
use Rattle.block_store.specs.Steps.{OnlyReadsBlocks}
use Rattle.block_store.specs.Store.{Store, is_out, is_stale}
use Rattle.pool_commit.specs.declared.kept.KeptGroup.{KeptGroup}
use Rattle.dataset_snapshots.specs.Pools.{SpellsPool}
use Rattle.pool_model.specs.Pools.{PlainPool}
use Rattle.pool_model.specs.View.{View, DueCall, Due, is_kept}
use Rattle.pool_commit.specs.declared.kept.Kept.{Kept}
use Rattle.pool_commit.specs.declared.kept.Planned.{Planned}
use Rattle.model_disk.specs.Joint.{content}
use Rattle.pool_commit.proofs.SlotWrites.{shows_still}
use Rattle.pool_commit.specs.Backs.{Backs, IsReachOfPlan, SpellsKept, IsPlanOf, kept_pool, left_calls, SpellsGroup, SpellsRoot}
use Rattle.pool_commit.specs.Calls.{IsWrite, IsFlushed}
use Rattle.pool_commit.specs.Config.{vdevs_of}
use Rattle.pool_commit.specs.Reading.{OnlyReadsPool}
use Rattle.pool_commit.specs.State.{State, group_at}
use Rattle.pool_commit.proofs.Reaching.{reached_over, same_spaces}

-- ---- kept groups

kept_cases : (stored : Contents) (group : ℕ) (found : Option KeptGroup) (there : KeptGroup) (kept : Bool) (pool : PlainPool) → found ≡ Some there
    → SpellsKept stored group found (if kept then Some pool else None) → (kept ≡ true) × SpellsGroup stored group there pool
kept_cases stored group found there kept pool is spells =
    at kept (subst (λ (o : Option KeptGroup). SpellsKept stored group o (if kept then Some pool else None)) is spells)
  where
    at : (kept : Bool) → SpellsKept stored group (Some there) (if kept then Some pool else None) → (kept ≡ true) × SpellsGroup stored group there pool
    at true spells = (refl, spells)
    at false spells = absurd spells

gone_cases : (stored : Contents) (group : ℕ) (found : Option KeptGroup) (kept : Bool) (pool : PlainPool) → found ≡ None
    → SpellsKept stored group found (if kept then Some pool else None) → kept ≡ false
gone_cases stored group found kept pool is spells =
    at kept (subst (λ (o : Option KeptGroup). SpellsKept stored group o (if kept then Some pool else None)) is spells)
  where
    at : (kept : Bool) → SpellsKept stored group None (if kept then Some pool else None) → kept ≡ false
    at true spells = absurd spells
    at false spells = refl

-- a group that is there is kept, and spells its pool
pub kept_spelled : (s : State) (v : View) (group : ℕ) (there : KeptGroup) (backs : Backs s v) → group_at s.kept group ≡ Some there
    → (is_kept v group ≡ true) × SpellsGroup backs.blocks.stored group there (v.pools group)
kept_spelled s v group there backs is =
    kept_cases backs.blocks.stored group (group_at s.kept group) there (is_kept v group) (v.pools group) is (backs.blocks.kept group)

pub not_kept : (s : State) (v : View) (group : ℕ) → Backs s v → group_at s.kept group ≡ None → is_kept v group ≡ false
not_kept s v group backs is =
    gone_cases backs.blocks.stored group (group_at s.kept group) (is_kept v group) (v.pools group) is (backs.blocks.kept group)

-- the root of a group spells its pool
pub root_spelled : (stored : Contents) (group : ℕ) (kept : KeptGroup) (pool : PlainPool) (root : Block) → SpellsGroup stored group kept pool → kept.root ≡ Some root → SpellsPool stored group root pool
root_spelled stored group kept pool root spells is = subst (λ (o : Option Block). SpellsRoot stored group o pool) is spells.root

pub last_at : (kept : Kept) → group_at kept kept.committed ≡ Some kept.last
last_at kept =
    ap (λ (b : Bool). cond b (Some kept.last) (if suc kept.committed == kept.committed then kept.before else (if suc (suc kept.committed) == kept.committed then kept.earliest else None)))
    (eq-eqb kept.committed kept.committed refl)

-- the committed group has the last ones
pub last_spelled : (s : State) (v : View) (backs : Backs s v) → SpellsGroup backs.blocks.stored v.committed s.kept.last (v.pools v.committed)
last_spelled s v backs =
    (kept_spelled s v v.committed s.kept.last backs (ap (group_at s.kept) (sym backs.committed) ∙ last_at s.kept)).1

-- ---- reads

-- reads leave a disk flushed
reads_leave : (newer : List JointCall) (disk : ℕ) → AreReads newer → AllByRecursion (λ (made : JointCall). made.which ≡ disk → ¬ IsWrite made.call) newer
reads_leave [] disk are = tt
reads_leave (made ∷ newer) disk are = ((λ same. no_write made.call are.0), reads_leave newer disk are.1)
  where
    no_write : (call : Call) → IsRead call → ¬ IsWrite call
    no_write (Read at bytes) is = λ write. write
    no_write (FailedRead at n) is = λ write. write
    no_write (Wrote at bytes) is = absurd is
    no_write (FailedWrite at bytes) is = absurd is
    no_write Flushed is = absurd is
    no_write FailedFlush is = absurd is

all_joined : {A : Type 0} (P : A → Type 0) (xs ys : List A) → AllByRecursion P xs → AllByRecursion P ys → AllByRecursion P (xs ++ ys)
all_joined P [] ys h k = k
all_joined P (x ∷ xs) ys h k = (h.0, all_joined P xs ys h.1 k)

flushed_still : (old new : Disks) (disk : ℕ) → OnlyReads old new → IsFlushed old disk → IsFlushed new disk
flushed_still old new disk reads is = record {
  newer = reads.newer ++ is.newer;
  older = is.older;
  calls = reads.calls ∙ ap (λ log. reads.newer ++ log) is.calls ∙ sym (append_assoc reads.newer is.newer (on disk Flushed ∷ is.older));
  none = all_joined (λ (made : JointCall). made.which ≡ disk → ¬ IsWrite made.call) reads.newer is.newer (reads_leave reads.newer disk reads.are_reads) is.none;
}

-- and each byte
reads_leave_bytes : (old new : Disks) → OnlyReads old new → (disk i : ℕ) → content new disk i ≡ content old disk i
reads_leave_bytes old new reads disk i = content-OnlyReads old new reads disk i

plan_stays : (s : State) (store : Store) (planned : Contents) (plan : Option Planned) (v : View) → store.due ≡ s.store.due → store.out ≡ s.store.out → OnlyReads s.store.disks store.disks
    → IsPlanOf s planned plan v → IsPlanOf (record s { store = store }) planned plan v
plan_stays s store planned None v due out reads is = is
plan_stays s store planned (Some plan) v due out reads is = record {
  counts = is.counts;
  slot_counts = is.slot_counts;
  sync = is.sync ∙ ap (λ (writes : List ColumnWrite). Due (left_calls is.counts is.slot_counts writes plan.behind)) (sym due);
  spells = is.spells;
  config = is.config;
  uberblock = record { root = is.uberblock.root; is_root = is.uberblock.is_root; timestamp = is.uberblock.timestamp; is = is.uberblock.is };
  to_flush = λ disk in_use. ⊎_elim inl (λ flushed. inr (due ∙ flushed.0, flushed.1, flushed_still s.store.disks store.disks disk reads flushed.2)) (is.to_flush disk in_use);
  shown = λ write in_use label. ⊎_elim inl
      (λ shows. inr (due ∙ shows.0, shows_still s.store.disks store.disks plan.uberblock write reads.starts (reads_leave_bytes s.store.disks store.disks reads) shows.1))
      (is.shown write in_use label);
  in_use = subst (λ (p : List Bool × List ColumnWrite). AllByRecursion (λ (call : DueCall). is_out p.0 call.disk ≡ false) (left_calls is.counts is.slot_counts p.1 plan.behind)) (λ i. (sym out i, sym due i)) is.in_use;
}

backs_after : (s : State) (store : Store) (missing : List ℕ) (v : View) → OnlyReadsBlocks s.store store missing → Backs s v → Backs (record s { store = store }) v
backs_after s store missing v reads backs =
    let same : store.spaces ≡ s.store.spaces = ap (λ (t : Store). t.spaces) reads.rest in record {
      vdevs = backs.vdevs ∙ sym (ap (λ (t : Store). vdevs_of t.spaces) reads.rest);
      slots = backs.slots;
      out = λ disk. backs.out disk ∙ sym (ap (λ (t : Store). is_out t.out disk) reads.rest);
      stale = λ disk birth. backs.stale disk birth ∙ sym (ap (λ (t : Store). is_stale t.spans.stale disk birth) reads.rest);
      committed = backs.committed;
      stamped = backs.stamped;
      blocks = record {
        stored = backs.blocks.stored;
        planned = backs.blocks.planned;
        plans = reads.plans backs.blocks.stored backs.blocks.planned backs.blocks.plans;
        kept = backs.blocks.kept;
        plan = plan_stays s store backs.blocks.planned s.planned v (ap (λ (t : Store). t.due) reads.rest) (ap (λ (t : Store). t.out) reads.rest) reads.reads backs.blocks.plan;
        reached = reached_over s.store.spaces store.spaces backs.blocks.stored s.kept (kept_pool v) (ap shapes_of same)
            (same_spaces s.store.spaces store.spaces filled_marks same) backs.blocks.reached;
        plan_reached = subst (λ (spaces : List VdevSpace). IsReachOfPlan spaces backs.blocks.reached.reach backs.blocks.stored backs.blocks.planned s.planned v) (sym same) backs.blocks.plan_reached;
      };
    }

pub only_reads : (s : State) (store : Store) (missing : List ℕ) → OnlyReadsBlocks s.store store missing → OnlyReadsPool s (record s { store = store }) missing
only_reads s store missing reads = record {
  rest = ap (λ (t : Store). record s { store = t }) reads.rest;
  reads = reads.reads;
  untouched = reads.untouched;
  backs = λ v backs. backs_after s store missing v reads backs;
}
