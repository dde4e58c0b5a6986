-- Why writes of dnodes are refused, whether or not the object of the dnodes is whole.
use Rattle.std.specs.Prelude.{ℕ, ◌≡◌, ◌⊎◌, ◌/◌, List, Any, Contains}
use Rattle.block_store.specs.declared.refusal.Refusal.{Refusal}
use Rattle.block_store.specs.declared.refusal.Refusal.TheVariants.{BadPointer}
use Rattle.block_store.specs.Steps.{OnlyReadsAndPlans, OnlyReadsBlocks}
use Rattle.block_store.specs.Store.{Store}
use Rattle.dnode.specs.declared.object_set.ObjectSet.{ObjectSet}
use Rattle.dnode_tree.specs.Refused.{IsWayOverfull}
use Rattle.dnode_tree.specs.Ways.{IsRefused}
use Rattle.objset.specs.declared.node_writes.NodeWrite.{NodeWrite}
use Rattle.objset.specs.NodesFound.{IsNodeRefused}

-- A block of dnodes that are written was refused, behind reads and blocks that were planned: it
-- could not be read, or the way to it has a fill count that can't be.
pub record IsNodeWriteRefused (old new : Store) (missing : List ℕ) (set : ObjectSet) (birth : ℕ)
    (numbers : List ℕ) (refusal : Refusal) : Type 0 where
  -- a number in a block that one of these stands in
  pub number : ℕ
  pub is_one : Any (λ other. other / 32 ≡ number / 32) numbers
  pub mid : Store
  pub before : OnlyReadsAndPlans old mid missing
  pub why : IsNodeRefused mid new missing set birth number refusal
      ⊎ ((refusal ≡ BadPointer) × IsWayOverfull mid.spaces set.dnodes birth (number / 32))

-- The block of a dnode that is written was not read, behind other reads. Only the crate's own
-- functions say it.
pub record IsBlockUnread (old new : Store) (missing : List ℕ) (set : ObjectSet) (birth : ℕ)
    (writes : List NodeWrite) (refusal : Refusal) : Type 0 where
  pub write : NodeWrite
  pub is_one : Contains writes write
  pub mid : Store
  pub before : OnlyReadsBlocks old mid missing
  pub why : IsRefused mid new missing set.dnodes birth (write.number / 32) refusal
