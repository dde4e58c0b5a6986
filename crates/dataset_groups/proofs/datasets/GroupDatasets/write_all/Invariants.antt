use Rattle.std.proofs.Common.{◌≡◌, ◌≤◌, ◌++◌, [], ℕ, List, Option}
use Rattle.std.specs.Prelude.{All}
use Rattle.std.specs.VecDeque.{deque_len}
use Rattle.block_pointer.specs.declared.block.Block.{Block}
use Rattle.block_store.specs.Blocks.{Contents}
use Rattle.block_store.specs.Plans.{Plans}
use Rattle.block_store.specs.Steps.{OnlyReadsAndPlans, AnswersTell}
use Rattle.dataset_destroys.specs.Chains.{Reading}
use Rattle.dataset_destroys.specs.States.{AreOfOneSet, birth_of, set_of}
use Rattle.dead_list.specs.Datasets.{Pool}
use Rattle.objset.specs.Objects.{Object, AreObjects}
use Rattle.pool_model.specs.declared.item.Write.{Write}
use Rattle.pool_model.specs.Pools.{PlainPool}
use Rattle.dataset_groups.specs.declared.writing.WrittenHead.{WrittenHead}
use Rattle.dataset_groups.specs.Demands.{HasHeadDemands, HavePlacesFor}
use Rattle.dataset_groups.specs.Groups.{SpellsGroup}
use Rattle.dataset_groups.specs.Touched.{TouchesHeads}
use Rattle.dataset_groups.specs.Writing.{AreWritten, FitsHead, numbers_of}
use Rattle.dataset_groups.proofs.HeadsWritten.{AreWrittenSoFar}
use Rattle.dataset_groups.proofs.datasets.GroupDatasets.write_all.Given as goal

-- a front of the heads is planned, and what is left follows it
abbrev pub invariant-writing : goal.invariant-writing
invariant-writing g l = record {
  steps : OnlyReadsAndPlans l.fn.store l.store [];
  directory : l.self.directory ≡ l.fn.self.directory;
  next : l.self.next ≡ l.fn.self.next;
  bounds : l.self.bounds ≡ l.fn.self.bounds;
  one_set : AreOfOneSet l.fn.self.changes l.self.changes;
  behind : (gone : List Block) × (l.freed.items ≡ l.fn.freed.items ++ gone);
  fits : All FitsHead l.left.items;
  front : (done : List WrittenHead) × (done ++ l.left.items ≡ l.fn.written.items)
      × TouchesHeads l.fn.self.changes l.self.changes (numbers_of done)
      × HavePlacesFor l.fn.store l.store (HasHeadDemands l.fn.store.spaces l.group) done
      × ((stored planned : Contents) (bound : ℕ) (objects : ℕ → Option Object) (own : List Block) (blocks : ℕ → List Block) (pool : Pool) (readings : ℕ → Reading) (plain : PlainPool) (writes : List Write)
      → Plans l.fn.store stored planned → AreObjects stored (birth_of l.fn.self.changes) (set_of l.fn.self.changes) objects own blocks → AnswersTell l.fn.store l.store [] → bound ≤ l.group
      → SpellsGroup planned l.group objects l.fn.self pool readings plain → AreWritten stored bound pool readings l.fn.self.directory writes l.fn.written.items
      → AreWrittenSoFar l.store stored planned l.group objects l.fn.self l.self pool readings writes done l.fn.freed.items l.freed.items);
}

abbrev pub decreases-writing : goal.decreases-writing
decreases-writing g l = deque_len l.left
