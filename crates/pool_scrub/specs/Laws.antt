-- What a pool goes on with behind a scrub.
use Rattle.std.specs.Prelude.{ℕ, ◌≡◌, ◌⊎◌, ◌<◌, Bool, true, false, Some, List, [], length, Contains}
use Rattle.block_pointer.specs.declared.block.Block.{Block}
use Rattle.block_store.specs.Blocks.{Contents}
use Rattle.block_store.specs.Store.{is_out, is_stale, outs_from}
use Rattle.dataset_snapshots.specs.Reach.{reach_of}
use Rattle.model_disk.specs.Joint.{Disks, content}
use Rattle.model_disk.specs.declared.disk.Disk as disk
use Rattle.sha2.specs.Sha256.{sha256}
use Rattle.raidz_io.specs.declared.vdev.Extent.{Extent}
use Rattle.raidz_io.specs.Reads.{GivesTruly, IsHonestSince, OnlyReads}
use Rattle.raidz_io.specs.Stands.{ExtentStands}
use Rattle.pool_model.specs.Pools.{PlainPool}
use Rattle.pool_model.specs.View.{opened_as}
use Rattle.pool_open.specs.CoreState.{CoreState, disks_of}
use Rattle.pool_open.specs.Held.{HoldOver, TellOver}
use Rattle.pool_open.specs.Mapped.{SpellsWithMaps}
use Rattle.pool_open.specs.Represents.{Represents}
use Rattle.pool_open.specs.Trees.{IsConfiguredFor, NamesConfigOf}
use Rattle.pool_open.specs.Words.{vdevs_in}
use Rattle.pool_open.specs.declared.handed_in.OpenedFrom.{OpenedFrom}
use Rattle.scrub_resilver.specs.Copies.{IsCopyOn}
use Rattle.scrub_resilver.specs.Laws.{AreKnown, AreTold, ChosenAreOwnThroughout}
use Rattle.scrub_resilver.specs.Mending.{GoesOn}
use Rattle.scrub_resilver.specs.declared.fault.Finding.{Finding}
use Rattle.uberblock_ring.specs.declared.uberblock.Uberblock.{Uberblock}
use Rattle.volume_rules.specs.NowMoves.{IsMadeBy}
use Rattle.pool_scrub.specs.Scrubbing.{IsScrubbed, IsScrubbedOver}
use Rattle.pool_scrub.specs.declared.healing.Healed.{Healed}
use Rattle.pool_scrub.specs.declared.scrubbing.ScrubCounts.{ScrubCounts}
use Rattle.pool_scrub.specs.declared.walking.PoolLayout.{PoolLayout}

-- nothing is left to be mended but of disks that are out, and no flush failed
pub record IsCleanEnd (out : List Bool) (healed : Healed) : Type 0 where
  pub left : (one : Finding) → Contains healed.left.items one → is_out out one.disk ≡ true
  pub flushed : healed.unflushed.items ≡ []

-- The disks of the core have the blocks of a pool, which the uberblock's root leads to, but for those of groups that disks missed.
pub record HasPoolOn (before : CoreState) (layout : PoolLayout) (u : Uberblock) (stored : Contents) (pool : PlainPool) : Type 0 where
  pub held : HoldOver (disks_of before) layout.shapes.items layout.out.items layout.stale.items stored
  pub spells : SpellsWithMaps stored layout.shapes.items u.group u.root pool
  pub reached : (block : Block) (bytes : List ℕ) → stored block ≡ Some bytes → Contains (reach_of spells.0) block
  pub configured : IsConfiguredFor u stored pool
  pub named : NamesConfigOf u before
  pub made : IsMadeBy u.group pool

-- What the disks have of these blocks, but for those that are out, is known, so that no write failed there; and no other bytes that stand of one of
-- them on those disks happen to have its digest.
pub record StandAlone (disks : Disks) (layout : PoolLayout) (stored : Contents) : Type 0 where
  pub known : AreKnown layout.shapes.items disks (outs_from 0 layout.out.items) stored
  pub alone : (block : Block) (bytes others : List ℕ) (i : ℕ) (extent : Extent) → stored block ≡ Some bytes → IsCopyOn layout.shapes.items block i extent
      → ExtentStands (content disks) (outs_from 0 layout.out.items) extent others → sha256 others ≡ block.checksum → others ≡ bytes

-- Their digests tell these blocks, of what the disks that aren't out have of them: as the scrub begins, and as it ends.
pub record AreToldThroughout (before behind : Disks) (layout : PoolLayout) (stored : Contents) : Type 0 where
  pub first : AreTold layout.shapes.items before (outs_from 0 layout.out.items) stored
  pub last : AreTold layout.shapes.items behind (outs_from 0 layout.out.items) stored

-- What disks answer in a scrub tells the blocks, though some lie. As the blocks are found, and as the core is begun anew, few lie, if any. As they are looked at
-- and mended any disk may; but of no block could other bytes with its digest be chosen of what was read between two writes, no write fails, and each disk that
-- missed groups before, and has every block again, gave what stood there as all was looked at last.
pub record TellThroughout (before : CoreState) (u : Uberblock) (core : CoreState) (counts : ScrubCounts) (is : IsScrubbedOver before u core counts) (stored : Contents)
    : Type 0 where
  pub walk : TellOver (disks_of before) is.looked_is.mid is.layout.shapes.items is.layout.out.items is.layout.stale.items
  pub chosen : ChosenAreOwnThroughout is.layout.shapes.items is.looked_is.mid is.mid stored
  pub known : AreKnown is.layout.shapes.items is.mid (outs_from 0 is.layout.out.items) stored
  pub truly : (from : Disks) → GoesOn is.looked_is.mid from → OnlyReads from is.mid → (disk birth : ℕ) → is_stale is.layout.stale.items disk birth ≡ true
      → is_out is.looked.whole.items disk ≡ true → GivesTruly from is.mid disk
  pub again : TellOver is.mid (disks_of core) is.layout.shapes.items is.layout.out.items core.commit.store.spans.stale

-- no disk misses a group that has every block again
abbrev pub NoWholeIsStale : List Bool → CoreState → Type 0
NoWholeIsStale whole core = (disk birth : ℕ) → is_out whole disk ≡ true → is_stale core.commit.store.spans.stale disk birth ≡ false

-- no disk that is there misses a group
abbrev pub NonePresentIsStale : List Bool → CoreState → Type 0
NonePresentIsStale out core =
    (disk birth : ℕ) → disk < length out → is_out out disk ≡ false → is_stale core.commit.store.spans.stale disk birth ≡ false

-- Where a scrub ends clean, over disks with a pool that answer truly, the core represents that pool, and no disk that is there misses a group. It is
-- enough that no other bytes of a block which stand on all disks that aren't out have its digest.
abbrev pub CleanScrubsGoOnWhole : Type 0
CleanScrubsGoOnWhole =
    (before core : CoreState) (u : Uberblock) (counts : ScrubCounts) (stored : Contents) (pool : PlainPool) → (is : IsScrubbedOver before u core counts)
    → IsCleanEnd is.layout.out.items is.looked.healed → HasPoolOn before is.layout u stored pool
    → StandAlone is.mid is.layout stored → IsHonestSince (disks_of before) (disks_of core)
    → Represents core (opened_as (vdevs_in is.layout.shapes.items) (is_out is.layout.out.items) (is_stale core.commit.store.spans.stale) u.group pool)
    × NonePresentIsStale is.layout.out.items core

module _ {D : Type 0} where
  -- Behind a scrub of disks with a pool the core represents that pool, whatever is left to be mended: where the disks answer truly, and digests tell its blocks
  -- by what stands; or where some disks lie, and what they answer tells. A disk that has every block again is read for each, whichever groups it missed before;
  -- another one for each group that it didn't miss.
  abbrev pub ScrubsGoOn : disk.Ghosts D → Type 0
  ScrubsGoOn g =
      (disks : List D) (u : Uberblock) (core : CoreState) (from : OpenedFrom D) (counts : ScrubCounts) (stored : Contents) (pool : PlainPool)
      → (is : IsScrubbed g disks u core from counts) → HasPoolOn is.before is.over.layout u stored pool
      → (AreToldThroughout (disks_of is.before) is.over.mid is.over.layout stored × IsHonestSince (disks_of is.before) (disks_of core))
      ⊎ TellThroughout is.before u core counts is.over stored
      → Represents core (opened_as (vdevs_in is.over.layout.shapes.items) (is_out is.over.layout.out.items) (is_stale core.commit.store.spans.stale) u.group pool)
      × NoWholeIsStale is.over.looked.whole.items core
