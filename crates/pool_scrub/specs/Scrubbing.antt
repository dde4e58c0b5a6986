-- Pools that were scrubbed on disks that were handed in.
use Rattle.std.specs.Prelude.{◌≡◌, ◌⊎◌, List, length, Contains}
use Rattle.block_pointer.specs.declared.block.Block.{Block}
use Rattle.block_store.specs.Places.{shapes_of}
use Rattle.block_store.specs.Store.{outs_from}
use Rattle.meta_objset.specs.declared.stale_spans.StaleSpan.{StaleSpan}
use Rattle.model_disk.specs.Joint.{Disks}
use Rattle.model_disk.specs.declared.disk.Disk as disk
use Rattle.pool_open.specs.Again.{IsCoreAgain, IsNoCoreAgain}
use Rattle.pool_open.specs.CoreState.{CoreState, config_of, disks_of, spans_of}
use Rattle.pool_open.specs.Finding.{AreBack}
use Rattle.pool_open.specs.Opens.{IsOpenedOn, OpenRefuses, refusal_of}
use Rattle.pool_open.specs.declared.handed_in.NotOpened.{NotOpened}
use Rattle.pool_open.specs.declared.handed_in.NotOpened.TheVariants.{NotFound, Refused}
use Rattle.pool_open.specs.declared.handed_in.OpenedFrom.{OpenedFrom}
use Rattle.pool_open.specs.declared.refusal.Refusal.{Refusal}
use Rattle.pool_open.specs.declared.refusal.Refusal.TheVariants.{NoMemory}
use Rattle.stale_disks.specs.Rules.{AreSpansWithout, guids_in, stale_groups}
use Rattle.uberblock_ring.specs.declared.uberblock.Uberblock.{Uberblock}
use Rattle.vdev_label.specs.Plain.{config_view}
use Rattle.vdev_label.specs.declared.label.Config.{Config}
use Rattle.pool_scrub.specs.Counting.{AreWhole}
use Rattle.pool_scrub.specs.Healing.{IsHealed, IsUnhealed}
use Rattle.pool_scrub.specs.Walking.{IsUnwalked, IsWalkedOver}
use Rattle.pool_scrub.specs.declared.healing.Healed.{Healed}
use Rattle.pool_scrub.specs.declared.scrubbing.Looked.{Looked}
use Rattle.pool_scrub.specs.declared.scrubbing.ScrubCounts.{ScrubCounts}
use Rattle.pool_scrub.specs.declared.walking.PoolLayout.{PoolLayout}

-- how the disks of the core are read
pub record IsLayoutOf (core : CoreState) (layout : PoolLayout) : Type 0 where
  pub shapes : layout.shapes.items ≡ shapes_of core.commit.store.spaces
  pub out : layout.out.items ≡ core.commit.store.out
  pub stale : layout.stale.items ≡ stale_groups (spans_of core) (guids_in (config_view (config_of core)))

-- All blocks that the uberblock's root leads to were looked at and mended, on the disks that aren't out.
pub record IsLooked (old : Disks) (layout : PoolLayout) (uberblock : Uberblock) (new : Disks) (looked : Looked) : Type 0 where
  pub blocks : List Block
  pub mid : Disks
  pub walked : IsWalkedOver old layout uberblock.root uberblock.group blocks mid
  pub healed : IsHealed layout.shapes.items blocks (outs_from 0 layout.out.items) mid new looked.healed
  pub whole : AreWhole layout.out.items looked.healed.left.items looked.healed.unflushed.items looked.whole.items

-- Their blocks were found, and then not looked at, or not all mended; or memory ran out behind that.
pub record IsUnmended (old : Disks) (layout : PoolLayout) (uberblock : Uberblock) (new : Disks) (refusal : Refusal) : Type 0 where
  pub blocks : List Block
  pub mid : Disks
  pub walked : IsWalkedOver old layout uberblock.root uberblock.group blocks mid
  pub why : IsUnhealed layout.shapes.items blocks (outs_from 0 layout.out.items) mid new refusal
      ⊎ ((refusal ≡ NoMemory) × ((healed : Healed) × IsHealed layout.shapes.items blocks (outs_from 0 layout.out.items) mid new healed))

-- They were not looked at, or not all: either they were not found, and nothing was written; or nothing but right columns was.
abbrev pub IsUnlooked : Disks → PoolLayout → Uberblock → Disks → Refusal → Type 0
IsUnlooked old layout uberblock new refusal =
    IsUnwalked old layout uberblock.root uberblock.group refusal new ⊎ IsUnmended old layout uberblock new refusal

-- the spans of whole disks are gone, and no others
abbrev pub ClearsWhole : Config → Looked → List StaleSpan → List StaleSpan → Type 0
ClearsWhole config looked before after = AreSpansWithout (guids_in (config_view config)) looked.whole.items before after

-- no disk has two spans
abbrev pub IsOneForEach : List StaleSpan → Type 0
IsOneForEach spans = (span other : StaleSpan) → Contains spans span → Contains spans other → span.disk ≡ other.disk → span ≡ other

-- The core was begun anew over the disks, and knows no span of a whole disk.
pub record IsBegunAgain (mid : Disks) (layout : PoolLayout) (uberblock : Uberblock) (config : Config) (known : List StaleSpan) (looked : Looked)
    (core : CoreState) : Type 0 where
  pub again : IsCoreAgain mid layout.shapes.items layout.out.items uberblock config (spans_of core) core
  pub cleared : ClearsWhole config looked known (spans_of core)
  pub once : IsOneForEach known

-- It was not, by the spans that it would have known; or memory ran out before that.
abbrev pub IsNotBegunAgain : Disks → PoolLayout → Uberblock → Config → List StaleSpan → Looked → Disks → Refusal → Type 0
IsNotBegunAgain mid layout uberblock config known looked new refusal =
    ((refusal ≡ NoMemory) × (new ≡ mid))
    ⊎ ((spans : List StaleSpan) × ClearsWhole config looked known spans
    × IsNoCoreAgain mid layout.shapes.items layout.out.items uberblock config spans new refusal)

-- The blocks of the core's last group were looked at and mended on its disks, and it was begun anew.
pub record IsScrubbedOver (before : CoreState) (uberblock : Uberblock) (core : CoreState) (counts : ScrubCounts) : Type 0 where
  pub layout : PoolLayout
  pub is_layout : IsLayoutOf before layout
  pub looked : Looked
  pub mid : Disks
  pub looked_is : IsLooked (disks_of before) layout uberblock mid looked
  pub begun : IsBegunAgain mid layout uberblock (config_of before) (spans_of before) looked core
  pub group : counts.group ≡ uberblock.group
  pub findings : counts.findings ≡ length looked.healed.found.items
  pub left : counts.left ≡ length looked.healed.left.items

-- All were looked at; then the core was not begun anew.
pub record IsLookedAlone (before : CoreState) (layout : PoolLayout) (uberblock : Uberblock) (new : Disks) (refusal : Refusal) : Type 0 where
  pub looked : Looked
  pub mid : Disks
  pub looked_is : IsLooked (disks_of before) layout uberblock mid looked
  pub why : IsNotBegunAgain mid layout uberblock (config_of before) (spans_of before) looked new refusal

-- They were not looked at, or not all; or the core was not begun anew; or memory ran out before that.
abbrev pub IsNotScrubbedOver : CoreState → Uberblock → Disks → Refusal → Type 0
IsNotScrubbedOver before uberblock new refusal =
    ((refusal ≡ NoMemory) × (new ≡ disks_of before))
    ⊎ ((layout : PoolLayout) × IsLayoutOf before layout
    × (IsUnlooked (disks_of before) layout uberblock new refusal ⊎ IsLookedAlone before layout uberblock new refusal))

module _ {D : Type 0} where
  -- The pool was opened on these disks, and scrubbed over them.
  pub record IsScrubbed (g : disk.Ghosts D) (disks : List D) (uberblock : Uberblock) (core : CoreState) (from : OpenedFrom D) (counts : ScrubCounts) : Type 0 where
    pub before : CoreState
    pub opened : IsOpenedOn g disks 0 uberblock before from
    pub over : IsScrubbedOver before uberblock core counts

  -- the disks that come back of an open that was refused
  abbrev pub back_of : NotOpened D → List D
  back_of (NotFound refusal back) = back.items
  back_of (Refused refusal back) = back.items

  -- the pool is not opened, for this cause, and these disks come back
  abbrev pub IsNotOpened : disk.Ghosts D → List D → Refusal → List D → Type 0
  IsNotOpened g disks refusal back = (failed : NotOpened D) × OpenRefuses g disks 0 failed × (refusal ≡ refusal_of failed) × (back ≡ back_of failed)

  -- It was opened, and then not scrubbed, and its disks come back in the order handed in.
  pub record IsNotScrubbed (g : disk.Ghosts D) (disks : List D) (refusal : Refusal) (back : List D) : Type 0 where
    pub uberblock : Uberblock
    pub before : CoreState
    pub from : OpenedFrom D
    pub opened : IsOpenedOn g disks 0 uberblock before from
    pub new : Disks
    pub over : IsNotScrubbedOver before uberblock new refusal
    pub given : AreBack g new from.handed back

  -- why a pool is not scrubbed
  abbrev pub ScrubRefuses : disk.Ghosts D → List D → Refusal → List D → Type 0
  ScrubRefuses g disks refusal back = IsNotOpened g disks refusal back ⊎ IsNotScrubbed g disks refusal back
