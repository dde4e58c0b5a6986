-- When the committed half of a core backs a view: what the view says of disks, of kept groups and of the group that is synced.
use Rattle.std.specs.Prelude.{ℕ, suc, ◌≡◌, ◌⊎◌, ◌<◌, ◌++◌, Contains, List, [], true, false, Option, Some, None, if◌then◌else◌}
use Rattle.std.specs.List.{AllByRecursion}
use Rattle.raidz_io.specs.Writes.{ColumnWrite}
use Rattle.block_store.specs.Blocks.{Contents}
use Rattle.block_store.specs.Places.{filled}
use Rattle.block_store.specs.Places.{planned as planned_marks}
use Rattle.block_store.specs.Plans.{Plans}
use Rattle.block_store.specs.Spaces.{VdevSpace}
use Rattle.block_store.specs.Store.{Store, is_out, is_stale}
use Rattle.block_pointer.specs.declared.block.Block.{Block}
use Rattle.dataset_snapshots.specs.Mapped.{HasItsMaps, HasMapsBehind, HasMapsBy, StandsOnce}
use Rattle.dataset_snapshots.specs.Pools.{SpellsPool}
use Rattle.dataset_snapshots.specs.Reach.{reach_of}
use Rattle.dnode_tree.specs.Rewriting.{AreDistinct}
use Rattle.dataset_snapshots.specs.Reached.{UseNothing}
use Rattle.pool_model.specs.Pools.{PlainPool, applied, no_volumes}
use Rattle.pool_model.specs.View.{View, DueCall, Due, is_planned, is_kept, disks_in_use}
use Rattle.vdev_label.specs.Plain.{config_view}
use Rattle.volume_rules.specs.Index.{Knows}
use Rattle.pool_commit.specs.declared.kept.Kept.{Kept}
use Rattle.pool_commit.specs.declared.kept.KeptGroup.{KeptGroup}
use Rattle.disk_set.specs.declared.behind.Behind.{Behind}
use Rattle.pool_commit.specs.declared.kept.Planned.{Planned}
use Rattle.disk_set.specs.declared.behind.SlotWrite.{SlotWrite}
use Rattle.pool_commit.specs.declared.stamp.Stamp.{Stamp}
use Rattle.pool_commit.specs.Calls.{IsFlushed}
use Rattle.pool_commit.specs.Config.{vdevs_of}
use Rattle.pool_commit.specs.Directories.{SpellsBy}
use Rattle.pool_commit.specs.Making.{writes_left, behind_left}
use Rattle.pool_commit.specs.Slots.{IsStampOf, uberblock_of, ShowsIn, all_slots}
use Rattle.pool_commit.specs.Space.{AreHeld, AreInUse, AreInBlocks, WereReleasedBy}
use Rattle.pool_commit.specs.State.{State, group_at}

-- the root spells the pool; with no root there are no volumes
abbrev pub SpellsRoot : Contents → ℕ → Option Block → PlainPool → Type 0
SpellsRoot stored group (Some root) pool = SpellsPool stored group root pool
SpellsRoot stored group None pool = pool ≡ no_volumes

-- a group's root spells its pool, by the directory and the table of stale spans that are kept, and has its configuration, and its names are those of the pool
pub record SpellsGroup (stored : Contents) (group : ℕ) (kept : KeptGroup) (pool : PlainPool)
    : Type 0 where
  pub root : SpellsRoot stored group kept.root pool
  pub directory : SpellsBy stored group kept.root pool kept.directory.value (config_view kept.config.value) kept.spans_under.value
  pub names : Knows kept.names.value pool

-- a kept group spells its pool; another isn't there
abbrev pub SpellsKept : Contents → ℕ → Option KeptGroup → Option PlainPool → Type 0
SpellsKept stored group (Some kept) (Some pool) = SpellsGroup stored group kept pool
SpellsKept stored group None None = Unit {0}
SpellsKept stored group (Some kept) None = ⊥
SpellsKept stored group None (Some pool) = ⊥

-- the volumes of a group, if the view keeps it: one of the last three committed ones
abbrev pub kept_pool : View → ℕ → Option PlainPool
kept_pool v group = if is_kept v group then Some (v.pools group) else None

-- the device calls that are left of a plan: its writes, behind so many on each disk, and then what is due behind them
abbrev pub left_calls : (ℕ → ℕ) → (ℕ → ℕ) → List ColumnWrite → Behind → List DueCall
left_calls counts slot_counts writes behind = writes_left counts writes ++ behind_left slot_counts behind

-- what the group after the committed one makes
abbrev pub pool_after : View → PlainPool
pool_after v = applied (suc v.committed) (v.pools v.committed) (v.ledger (suc v.committed))

-- what is due behind the block writes of a plan over these disks: a flush of each, four slots on each, and a flush of each
pub record AreDueBehind (behind : Behind) (disks : List ℕ) : Type 0 where
  pub flushes : behind.flushes.items ≡ disks
  pub slots : behind.slots.items ≡ all_slots disks
  pub slot_flushes : behind.slot_flushes.items ≡ disks

-- the disk is to be flushed last of all, or no write is due and it was flushed behind its last one
abbrev pub IsToFlush : Store → Behind → ℕ → Type 0
IsToFlush store behind disk =
    Contains behind.slot_flushes.items disk ⊎ ((store.due ≡ []) × (behind.slots.items ≡ []) × IsFlushed store.disks disk)

-- the uberblock is that of the group after the committed one, and leads to what the plan makes
pub record IsUberblockOf (stamp : Stamp) (group : ℕ) (plan : Planned) : Type 0 where
  pub root : Block
  pub is_root : plan.after.root ≡ Some root
  pub timestamp : ℕ
  pub is : plan.uberblock ≡ uberblock_of stamp group root timestamp

-- A plan has these device calls left, and its root spells what the group makes, once its blocks are stored, with the same configuration. Each disk in use is flushed
-- behind its last write or has its flush left; its four slots show the uberblock, or are to be written. No call that is left is on a disk
-- that is out.
pub record HasPlan (s : State) (planned : Contents) (plan : Planned) (v : View) : Type 0 where
  pub counts : ℕ → ℕ
  pub slot_counts : ℕ → ℕ
  pub sync : v.sync ≡ Due (left_calls counts slot_counts s.store.due plan.behind)
  pub spells : SpellsGroup planned (suc v.committed) plan.after (pool_after v)
  pub config : plan.after.config.value ≡ s.kept.last.config.value
  pub uberblock : IsUberblockOf s.stamp (suc v.committed) plan
  pub to_flush : (disk : ℕ) → Contains (disks_in_use v) disk → IsToFlush s.store plan.behind disk
  pub shown : (write : SlotWrite) → Contains (disks_in_use v) write.disk → write.label < 4
      → Contains plan.behind.slots.items write ⊎ ((s.store.due ≡ []) × ShowsIn s.store.disks plan.uberblock write)
  pub in_use : AllByRecursion (λ (call : DueCall). is_out s.store.out call.disk ≡ false) (left_calls counts slot_counts s.store.due plan.behind)

-- the plan that is kept is the view's; where none is, the view has none
abbrev pub IsPlanOf : State → Contents → Option Planned → View → Type 0
IsPlanOf s planned None v = is_planned v.sync ≡ false
IsPlanOf s planned (Some plan) v = HasPlan s planned plan v

-- ---- what the roots lead to

-- these are all blocks that a group's root leads to; with no root there are none
abbrev pub LeadsTo : Contents → ℕ → Option Block → PlainPool → List Block → Type 0
LeadsTo stored group (Some root) pool blocks = (is : SpellsPool stored group root pool) × (reach_of is ≡ blocks)
LeadsTo stored group None pool blocks = blocks ≡ []

-- so it is of a kept group; one that isn't there leads to none
abbrev pub KeptLeadsTo : Contents → ℕ → Option KeptGroup → Option PlainPool → List Block → Type 0
KeptLeadsTo stored group (Some kept) (Some pool) blocks = LeadsTo stored group kept.root pool blocks
KeptLeadsTo stored group None None blocks = blocks ≡ []
KeptLeadsTo stored group (Some kept) None blocks = ⊥
KeptLeadsTo stored group None (Some pool) blocks = ⊥

-- on these vdevs the space maps under a group's root call allocated just what it leads to; with no root there are none
abbrev pub HasMaps : List VdevSpace → Contents → ℕ → Option Block → PlainPool → Type 0
HasMaps spaces stored group (Some root) pool = (is : SpellsPool stored group root pool) × HasItsMaps spaces is
HasMaps spaces stored group None pool = Unit {0}

-- so it is of a kept group; one that isn't there has none
abbrev pub KeptHasMaps : List VdevSpace → Contents → ℕ → Option KeptGroup → Option PlainPool → Type 0
KeptHasMaps spaces stored group (Some kept) (Some pool) = HasMaps spaces stored group kept.root pool
KeptHasMaps spaces stored group (Some kept) None = Unit {0}
KeptHasMaps spaces stored group None pool = Unit {0}

-- What a plan begins with: the space maps under the last root leave free what is unused, and the root leads to each of its blocks once
-- and has all their sectors in use. With no root no sector is in use.
abbrev pub BeginsWithMaps : List VdevSpace → Contents → ℕ → Option Block → PlainPool → Type 0
BeginsWithMaps spaces stored group (Some root) pool = (is : SpellsPool stored group root pool) × HasMapsBy spaces filled is × StandsOnce spaces is
BeginsWithMaps spaces stored group None pool = UseNothing spaces filled

-- and what it leaves: once these blocks are given back the space maps under the root leave free what is unused with the plan
abbrev pub LeavesMaps : List VdevSpace → List Block → Contents → ℕ → Block → PlainPool → Type 0
LeavesMaps spaces gone stored group root pool = (is : SpellsPool stored group root pool) × HasMapsBehind spaces gone is

-- Each kept group leads to blocks, to none of them twice, and no other block is stored. Each of their sectors is in use, or was
-- released by a later group. What is in use is in a block that the committed group leads to, and what was released was so by that
-- group or an earlier one. Each kept group's space maps call allocated just what it leads to.
pub record StoresReach (spaces : List VdevSpace) (stored : Contents) (kept : Kept) (pools : ℕ → Option PlainPool) : Type 0 where
  pub reach : ℕ → List Block
  pub leads : (group : ℕ) → KeptLeadsTo stored group (group_at kept group) (pools group) (reach group)
  pub once : (group : ℕ) → AreDistinct (reach group)
  pub only : (block : Block) (bytes : List ℕ) → stored block ≡ Some bytes → (group : ℕ) × Contains (reach group) block
  pub held : AreHeld spaces filled kept.committed reach
  pub accounted : AreInBlocks spaces filled (reach kept.committed)
  pub released : WereReleasedBy spaces filled kept.committed
  pub mapped : (group : ℕ) → KeptHasMaps spaces stored group (group_at kept group) (pools group)

-- A group that is planned leads to blocks, to none of them twice, and beside what is stored no other block is planned. All their
-- sectors are in use, and no others; those of what the groups before lead to are held for these. No later group released a sector.
-- Its space maps call allocated just what it leads to.
pub record PlansReach (spaces : List VdevSpace) (before : ℕ → List Block) (stored planned : Contents) (group : ℕ) (after : KeptGroup) (pool : PlainPool)
    : Type 0 where
  pub reach : List Block
  pub leads : LeadsTo planned group after.root pool reach
  pub once : AreDistinct reach
  pub only : (block : Block) (bytes : List ℕ) → planned block ≡ Some bytes → Contains reach block ⊎ (stored block ≡ Some bytes)
  pub held : AreHeld spaces planned_marks group before
  pub in_use : AreInUse spaces planned_marks reach
  pub accounted : AreInBlocks spaces planned_marks reach
  pub released : WereReleasedBy spaces planned_marks group
  pub mapped : HasMaps spaces planned group after.root pool

-- where a group is planned, what its root leads to, and what is in use for it
abbrev pub IsReachOfPlan : List VdevSpace → (ℕ → List Block) → Contents → Contents → Option Planned → View → Type 0
IsReachOfPlan spaces before stored planned None v = Unit {0}
IsReachOfPlan spaces before stored planned (Some plan) v = PlansReach spaces before stored planned (suc v.committed) plan.after (pool_after v)

-- uberblocks of this stamp name the configuration of each kept group
abbrev pub AreStamped : Stamp → Kept → Type 0
AreStamped stamp kept = (group : ℕ) (it : KeptGroup) → group_at kept group ≡ Some it → IsStampOf (config_view it.config.value) stamp.claim stamp

-- each block taken with the bytes that it was written with
pub record HasBlocks (s : State) (v : View) : Type 0 where
  pub stored : Contents
  pub planned : Contents
  pub plans : Plans s.store stored planned
  pub kept : (group : ℕ) → SpellsKept stored group (group_at s.kept group) (kept_pool v group)
  pub plan : IsPlanOf s planned s.planned v
  pub reached : StoresReach s.store.spaces stored s.kept (kept_pool v)
  pub plan_reached : IsReachOfPlan s.store.spaces reached.reach stored planned s.planned v

-- The state is what the view says of it: the vdevs, the disks that are out or stale, the committed group,
-- the volumes that each kept group's root spells, and what is left of a plan.
pub record Backs (s : State) (v : View) : Type 0 where
  pub vdevs : v.vdevs ≡ vdevs_of s.store.spaces
  -- its commits end in uberblock slots
  pub slots : v.slots ≡ true
  pub out : (disk : ℕ) → v.out disk ≡ is_out s.store.out disk
  pub stale : (disk birth : ℕ) → v.stale disk birth ≡ is_stale s.store.spans.stale disk birth
  pub committed : s.kept.committed ≡ v.committed
  pub stamped : AreStamped s.stamp s.kept
  pub blocks : HasBlocks s v
