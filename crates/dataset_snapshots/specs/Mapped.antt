-- The space maps under a root.
use Rattle.std.specs.Prelude.{ℕ, ◌≡◌, ◌≢◌, List, ◌∷◌, length, All}
use Rattle.block_pointer.specs.declared.block.Block.{Block}
use Rattle.block_pointer.specs.Copies.{dvas}
use Rattle.block_store.specs.Blocks.{Contents, AreDistinct}
use Rattle.block_store.specs.Opened.{AreBlocksApart}
use Rattle.block_store.specs.Places.{Marks, planned, shapes_of}
use Rattle.block_store.specs.declared.shape.VdevShape.{VdevShape}
use Rattle.block_store.specs.Releases.{AreAllInUse, AreReleased, copies_of_all}
use Rattle.block_store.specs.Spaces.{VdevSpace}
use Rattle.objset.specs.Within.{blocks_of_set}
use Rattle.pool_maps.specs.Maps.{AreMapsOf}
use Rattle.pool_maps.specs.Reached.{AreMapsFor, AreThere}
use Rattle.pool_model.specs.Pools.{PlainPool}
use Rattle.dataset_snapshots.specs.Pools.{SpellsPool}
use Rattle.dataset_snapshots.specs.Reach.{reach_of, volume_blocks_of}

-- The root and the blocks of the meta object set have three copies, and no block of a volume has.
pub record AreCopied {stored : Contents} {birth : ℕ} {root : Block} {pool : PlainPool} (is : SpellsPool stored birth root pool)
    : Type 0 where
  pub meta : All (λ block. length (dvas block.copies) ≡ 3) (root ∷ blocks_of_set is.set is.own is.blocks)
  pub others : All (λ block. length (dvas block.copies) ≢ 3) (volume_blocks_of is)

-- The root leads to each of its blocks once, and no two of them share a sector. Of each metaslab before a meta region the space maps under
-- it call allocated just what it leads to.
pub record HasItsMaps (spaces : List VdevSpace) {stored : Contents} {birth : ℕ} {root : Block} {pool : PlainPool}
    (is : SpellsPool stored birth root pool) : Type 0 where
  pub copied : AreCopied is
  pub once : AreDistinct (reach_of is)
  pub apart : AreBlocksApart (reach_of is)
  pub maps : AreMapsFor is.objects spaces (reach_of is)

-- so it is on all vdevs of these shapes
abbrev pub HasItsMapsOver : List VdevShape → {stored : Contents} {birth : ℕ} {root : Block} {pool : PlainPool}
    → SpellsPool stored birth root pool → Type 0
HasItsMapsOver shapes is = (spaces : List VdevSpace) → shapes_of spaces ≡ shapes → HasItsMaps spaces is

-- the root spells the pool, and has its maps on all vdevs of these shapes
abbrev pub SpellsWithMaps : Contents → List VdevShape → ℕ → Block → PlainPool → Type 0
SpellsWithMaps stored shapes birth root pool = (is : SpellsPool stored birth root pool) × HasItsMapsOver shapes is

-- the space maps under the root leave free what these marks leave unused
pub record HasMapsBy (spaces : List VdevSpace) (marks : Marks) {stored : Contents} {birth : ℕ} {root : Block} {pool : PlainPool}
    (is : SpellsPool stored birth root pool) : Type 0 where
  pub copied : AreCopied is
  pub maps : AreMapsOf is.objects spaces marks

-- so they do with the plan, once these blocks are given back
pub record HasMapsBehind (spaces : List VdevSpace) (gone : List Block) {stored : Contents} {birth : ℕ} {root : Block} {pool : PlainPool}
    (is : SpellsPool stored birth root pool) : Type 0 where
  pub copied : AreCopied is
  pub maps : (after : List VdevSpace) (group : ℕ) → AreReleased spaces (copies_of_all gone) group after
      → AreMapsOf is.objects after planned × AreThere after planned

-- the root leads to each of its blocks once, and the plan has all their sectors in use
pub record StandsOnce (spaces : List VdevSpace) {stored : Contents} {birth : ℕ} {root : Block} {pool : PlainPool}
    (is : SpellsPool stored birth root pool) : Type 0 where
  pub once : AreDistinct (reach_of is)
  pub in_use : AreAllInUse spaces (reach_of is)
