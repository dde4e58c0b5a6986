-- What follows from these definitions for those who have objects.
use Rattle.std.specs.Prelude.{ℕ, ◌≡◌, ◌^◌, ◌<◌, ◌≤◌, ◌⊎◌, ◌↔◌, List, Option, Some, Contains, AllPairs}
use Rattle.block_pointer.specs.declared.block.Block.{Block}
use Rattle.block_store.specs.Blocks.{Contents, Extends}
use Rattle.dnode.specs.declared.object_set.ObjectSet.{ObjectSet}
use Rattle.objset.specs.declared.node_writes.SetRewrite.{SetRewrite}
use Rattle.dnode_tree.specs.Rewriting.{AreDistinct}
use Rattle.objset.specs.declared.changes.ObjectChange.{ObjectChange}
use Rattle.objset.specs.declared.changes.SetCopies.{SetCopies}
use Rattle.objset.specs.Changes.{AreChanged}
use Rattle.objset.specs.Objects.{Object, AreObjects}

-- The objects stay what they are where the blocks of the dnodes and those of each object stay known, whatever becomes of others, and
-- also where a later birth is asked.
abbrev pub ObjectsStandOnTheirBlocks : Type 0
ObjectsStandOnTheirBlocks =
    (old new : Contents) (bound birth : ℕ) (set : ObjectSet) (objects : ℕ → Option Object) (own : List Block) (blocks : ℕ → List Block) → bound ≤ birth
    → ((block : Block) (bytes : List ℕ) → Contains own block ⊎ ((number : ℕ) × Contains (blocks number) block) → old block ≡ Some bytes → new block ≡ Some bytes)
    → AreObjects old bound set objects own blocks → AreObjects new birth set objects own blocks

-- a set has each block once: none is there twice among those of its dnodes or of one object, and none in two of these
pub record HasEachOnce (own : List Block) (blocks : ℕ → List Block) : Type 0 where
  pub own_once : AreDistinct own
  pub each_once : (number : ℕ) → AreDistinct (blocks number)
  pub own_apart : (number : ℕ) (block : Block) → Contains own block → ¬ Contains (blocks number) block
  pub apart : (number other : ℕ) (block : Block) → Contains (blocks number) block → Contains (blocks other) block → number ≡ other

-- the block is one of the dnodes or of an object
abbrev pub IsOfSet : List Block → (ℕ → List Block) → Block → Type 0
IsOfSet own blocks block = Contains own block ⊎ ((number : ℕ) × Contains (blocks number) block)

-- Where a set has each block once, so has the set after changes, and the blocks that they name as replaced are those that the set before has
-- and the set after hasn't, each once.
abbrev pub ReplacedOfSetsAreFreed : Type 0
ReplacedOfSetsAreFreed =
    (copies : SetCopies) (stored planned later : Contents) (bound birth : ℕ) (set : ObjectSet) (done : SetRewrite) (changes : List ObjectChange) (objects new_objects : ℕ → Option Object) (own : List Block) (before : ℕ → List Block)
    → AreObjects stored bound set objects own before → Extends stored planned → HasEachOnce own before → AllPairs (λ change later. change.number < later.number) changes
    → (changed : AreChanged copies planned later birth done changes new_objects own before)
    → HasEachOnce changed.own_after changed.after
    × ((block : Block) → Contains done.replaced.items block ↔ (IsOfSet own before block × ¬ IsOfSet changed.own_after changed.after block))
    × AreDistinct done.replaced.items

-- A set has one object at each number and one list of blocks of each, whatever births are asked.
abbrev pub ObjectsAreOne : Type 0
ObjectsAreOne =
    (stored : Contents) (birth later : ℕ) (set : ObjectSet) (objects others : ℕ → Option Object) (own more : List Block) (blocks lists : ℕ → List Block) → set.dnodes.highest < 128 ^ 5
    → AreObjects stored birth set objects own blocks → AreObjects stored later set others more lists → (objects ≡ others) × (own ≡ more) × (blocks ≡ lists)
