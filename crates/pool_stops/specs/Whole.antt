-- Trees of pools that are whole.
use Rattle.std.specs.Prelude.{ℕ, ◌≡◌, ◌<◌, Bool, List, AllPairs, Contains}
use Rattle.block_pointer.specs.Copies.{dvas}
use Rattle.block_pointer.specs.declared.block.Block.{Block}
use Rattle.block_store.specs.Places.{ArePlacesApart, ArePlacesIn, shapes_of}
use Rattle.block_store.specs.Releases.{CopyAt, copies_of_all}
use Rattle.block_store.specs.Spaces.{VdevSpace}
use Rattle.block_store.specs.declared.shape.VdevShape.{VdevShape}
use Rattle.pool_create.specs.Reach.{reach_of}
use Rattle.dnode_tree.specs.Rewriting.{AreDistinct}
use Rattle.pool_model.specs.Pools.{PlainPool}
use Rattle.pool_create.specs.Trees.{IsTreeOf}
use Rattle.pool_slots.specs.Possible.{Trees}
use Rattle.uberblock_ring.specs.declared.uberblock.Uberblock.{Uberblock}

-- no sector is in both copies
abbrev pub AreCopiesApart : CopyAt → CopyAt → Type 0
AreCopiesApart copy other = ArePlacesApart copy.place other.place

-- The copies of these blocks have sectors, lie in places of the pool, and no two of them share a sector.
pub record LieApart (shapes : List VdevShape) (blocks : List Block) : Type 0 where
  pub some : (block : Block) → Contains blocks block → 0 < block.property.sectors
  pub places : (spaces : List VdevSpace) → shapes_of spaces ≡ shapes → (block : Block) → Contains blocks block
      → ArePlacesIn spaces block.property.sectors (dvas block.copies)
  pub apart : AllPairs AreCopiesApart (copies_of_all blocks)

-- the root of the tree leads to each of its blocks once, and they lie apart
pub record IsWholeTree {trees : Trees} {starts : List (List ℕ)} {shapes : List VdevShape} {out : List Bool} {u : Uberblock} {pool : PlainPool}
    (tree : IsTreeOf trees starts shapes out u pool) : Type 0 where
  pub once : AreDistinct (reach_of tree.spells)
  pub apart : LieApart shapes (reach_of tree.spells)
