use Rattle.std.proofs.Common.{◌≡◌, ◌↔◌, ◌++◌, [], ℕ, List, Option, take}
use Rattle.std.specs.Prelude.{IsTrue}
use Rattle.block_pointer.specs.declared.block.Block.{Block}
use Rattle.block_store.specs.Blocks.{Contents}
use Rattle.block_store.specs.Steps.{AnswersTell, OnlyReadsBlocks}
use Rattle.block_store.specs.Store.{Holds}
use Rattle.dataset_destroys.specs.Chains.{Reading}
use Rattle.dataset_destroys.specs.States.{AreOfOneSet, birth_of, set_of}
use Rattle.dead_list.specs.Datasets.{Pool}
use Rattle.objset.specs.Objects.{AreObjects, Object}
use Rattle.pool_model.specs.Pools.{MayBeDestroyed, PlainPool, all_destroyed}
use Rattle.dataset_groups.specs.Destroys.{AreDestroyed, DestroysAll}
use Rattle.dataset_groups.specs.Groups.{SpellsGroup}
use Rattle.dataset_groups.proofs.DestroyedLists.{IsOneThere}
use Rattle.dataset_groups.proofs.datasets.GroupDatasets.destroy_all.Given as goal

-- the names so far are destroyed
abbrev pub invariant-loop-name : goal.invariant-loop-name
invariant-loop-name g l = record {
  reads : OnlyReadsBlocks l.fn.store l.store [];
  one_set : AreOfOneSet l.fn.self.changes l.self.changes;
  value : (stored : Contents) (objects : ℕ → Option Object) (own : List Block) (blocks : ℕ → List Block) (pool : Pool) (readings : ℕ → Reading) (plain : PlainPool) → Holds l.fn.store stored
      → AreObjects stored (birth_of l.fn.self.changes) (set_of l.fn.self.changes) objects own blocks → AnswersTell l.fn.store l.store []
      → SpellsGroup stored l.group objects l.fn.self pool readings plain → MayBeDestroyed (take l.name-index l.names) plain
      → (gone : List Block) × (l.freed.items ≡ l.fn.freed.items ++ gone)
      × AreDestroyed l.group objects stored l.fn.self l.self pool readings (all_destroyed (take l.name-index l.names) plain) gone;
  behind : (gone : List Block) × (l.freed.items ≡ l.fn.freed.items ++ gone);
  renamed : IsTrue l.renamed ↔ IsOneThere l.fn.self (take l.name-index l.names);
  which : DestroysAll l.fn.self l.self (take l.name-index l.names);
}
