-- Pools that disks lead to, whatever stop they come from.
use Rattle.std.specs.Prelude.{ℕ, ◌≡◌, ◌⊎◌, Bool, List, [], length}
use Rattle.model_disk.specs.Joint.{Disks, content}
use Rattle.raidz_io.specs.Reads.{IsHonestSince}
use Rattle.block_store.specs.Blocks.{Contents}
use Rattle.block_store.specs.Store.{is_out}
use Rattle.block_store.specs.declared.shape.VdevShape.{VdevShape}
use Rattle.pool_core.specs.Mapped.{HasItsMapsOver}
use Rattle.pool_core.specs.Pools.{SpellsPool}
use Rattle.pool_core.specs.Represents.{Represents}
use Rattle.pool_core.specs.Reopened.{IsConfiguredUnder}
use Rattle.pool_core.specs.Slots.{IsStampOf}
use Rattle.pool_core.specs.Spans.{HaveNoSpans, NoneIsStale}
use Rattle.pool_core.specs.State.{CoreState, config_of, disks_of}
use Rattle.pool_model.specs.Pools.{PlainPool}
use Rattle.pool_model.specs.View.{none_stale, opened_as}
use Rattle.pool_slots.specs.Opens.{CanOpen, IsClaimOf}
use Rattle.pool_slots.specs.Possible.{Possible, IsInReach, Trees, TreeStands}
use Rattle.pool_slots.specs.Slots.{StayOut}
use Rattle.uberblock_ring.specs.declared.uberblock.Uberblock.{Uberblock}
use Rattle.volume_rules.specs.NowMoves.{IsMadeBy}
use Rattle.pool_open.specs.Held.{FewLieOver, HoldOver}
use Rattle.pool_open.specs.Words.{stamp_of, vdevs_in}
use Rattle.vdev_label.specs.Plain.{config_view}

-- the root below the uberblock has the configuration that the uberblock names
abbrev pub IsConfiguredFor : Uberblock → Contents → PlainPool → Type 0
IsConfiguredFor u stored pool = IsConfiguredUnder (stamp_of u) stored u.group u.root pool

-- the uberblock names the configuration that the core keeps
abbrev pub NamesConfigOf : Uberblock → CoreState → Type 0
NamesConfigOf u core = IsStampOf (config_view (config_of core)) u.claim (stamp_of u)

-- The tree below the uberblock's root is that of the pool, and has its space maps, no stale spans, and the configuration that the uberblock names: where
-- it stands on as many disks, or on those of them that aren't away, the blocks that spell the pool may be read.
pub record IsTreeOf (trees : Trees) (starts : List (List ℕ)) (shapes : List VdevShape) (out : List Bool) (u : Uberblock) (pool : PlainPool) : Type 0 where
  pub stored : Contents
  pub spells : SpellsPool stored u.group u.root pool
  pub untouched : spells.stale ≡ []
  pub mapped : HasItsMapsOver shapes spells
  pub configured : IsConfiguredFor u stored pool
  pub made : IsMadeBy u.group pool
  pub held : (disks : Disks) (away : List Bool) → length disks.starts ≡ length starts → length away ≡ length out → StayOut out away
      → TreeStands trees away (content disks) u.root → HoldOver disks shapes away [] stored

-- a core represents the pool of the group that was taken, and knows of no stale spans
pub record IsOpenedFor (p : Possible) (pools : Uberblock → PlainPool) (shapes : List VdevShape) (out : List Bool) (rewind : ℕ) (claimed : Uberblock) (core : CoreState) : Type 0 where
  pub claim : IsClaimOf p rewind claimed
  pub represents : Represents core (opened_as (vdevs_in shapes) (is_out out) none_stale claim.taken.group (pools claim.taken))
  pub fresh : NoneIsStale core.commit
  pub untouched : HaveNoSpans core.commit

-- Whatever the disks in use lead to, if each uberblock that an open may come to has the tree of its pool, the claimed one names the configuration
-- that the core keeps, and all answers were true, or those of labels and slots were and few disks lied as blocks were read behind them: what is claimed is
-- one of the possible ones, or so many groups below one, and its pool is what the core represents.
abbrev pub OpensPossible : Disks → Disks → Disks → List VdevShape → List Bool → ℕ → Uberblock → CoreState → Type 0
OpensPossible old surveyed read shapes later rewind claimed core =
    (trees : Trees) (p : Possible) (pools : Uberblock → PlainPool) → CanOpen trees later old p
    → ((u : Uberblock) → IsInReach p u → IsTreeOf trees old.starts shapes later u (pools u)) → NamesConfigOf claimed core
    → IsHonestSince old (disks_of core) ⊎ (IsHonestSince old surveyed × FewLieOver surveyed read shapes later [])
    → IsOpenedFor p pools shapes later rewind claimed core
