use Rattle.std.proofs.Common.{◌≡◌, ◌≢◌, ◌≤◌, ℕ, All, List, Option, take}
use Rattle.block_pointer.specs.declared.block.Block.{Block}
use Rattle.block_store.specs.Blocks.{Contents}
use Rattle.block_store.specs.Steps.{OnlyReadsBlocks, AnswersTell}
use Rattle.block_store.specs.Store.{Holds}
use Rattle.dataset_groups.specs.Chains.{Reading}
use Rattle.dataset_groups.specs.ChainStanding.{HasChains}
use Rattle.dataset_groups.specs.Names.{reach_by}
use Rattle.dead_list.specs.Datasets.{Free, Pool}
use Rattle.objset.specs.Objects.{Object, AreObjects}
use Rattle.dataset_snapshots.specs.Reach.{AreRowsWalked}
use Rattle.dataset_snapshots.proofs.walks.walk_rows.Given as goal

-- the datasets of the rows so far
abbrev pub invariant-loop-row : goal.invariant-loop-row
invariant-loop-row g l = record {
  reads : OnlyReadsBlocks l.fn.store l.store l.missing;
  fewer : l.left ≤ l.fn.left;
  walked : AreRowsWalked l.fn.store.spaces l.set l.birth (take l.row-index l.rows) l.fn.left l.left l.found.items;
  value : (stored : Contents) (objects : ℕ → Option Object) (own : List Block) (blocks : ℕ → List Block) (pool : Pool) (readings : ℕ → Reading) → Holds l.fn.store stored
      → AreObjects stored l.birth l.set objects own blocks → HasChains stored l.birth objects pool readings → All (λ row. (pool.datasets row.object).kind ≢ Free) l.rows
      → AnswersTell l.fn.store l.store l.missing → l.found.items ≡ reach_by pool (take l.row-index l.rows);
}
