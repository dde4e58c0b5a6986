use Rattle.std.proofs.Common.{◌≡◌, ℕ, ◌+◌, ◌*◌, ◌≤◌, ◌<◌, [], List, Option, length, take}
use Rattle.std.specs.Prelude.{fold}
use Rattle.block_pointer.specs.declared.block.Block.{Block}
use Rattle.block_store.specs.Blocks.{Contents, Extends}
use Rattle.block_store.specs.Plans.{Plans}
use Rattle.block_store.specs.Steps.{OnlyReadsAndPlans, AnswersTell}
use Rattle.dataset_destroys.specs.Chains.{Reading}
use Rattle.dataset_destroys.specs.States.{AreOfOneSet, birth_of, set_of}
use Rattle.dead_list.specs.Datasets.{Pool}
use Rattle.objset.specs.Objects.{AreObjects, Object}
use Rattle.pool_model.specs.Pools.{PlainPool, changed}
use Rattle.dataset_groups.specs.Actions.{AreActed}
use Rattle.dataset_groups.specs.Demands.{MakesAll}
use Rattle.dataset_groups.specs.Groups.{SpellsGroup}
use Rattle.dataset_groups.specs.NewVolumes.{numbers_end}
use Rattle.dataset_groups.proofs.datasets.GroupDatasets.act_all.Given as goal

-- the actions so far are done
abbrev pub invariant-loop-action : goal.invariant-loop-action
invariant-loop-action g l = record {
  steps : OnlyReadsAndPlans l.fn.store l.store [];
  behind : 4 < l.self.next;
  end : l.self.bounds.end ≤ numbers_end;
  within : l.fn.self.next ≤ l.fn.self.bounds.end → l.self.next ≤ l.fn.self.bounds.end;
  bounds : l.self.bounds ≡ l.fn.self.bounds;
  next : (l.fn.self.next ≤ l.self.next) × (l.self.next ≤ l.fn.self.next + 2 * l.action-index);
  within_list : l.action-index ≤ length l.actions;
  idle : l.self.next ≡ l.fn.self.next → l.self ≡ l.fn.self;
  one_set : AreOfOneSet l.fn.self.changes l.self.changes;
  value : (stored planned : Contents) → Plans l.fn.store stored planned → AnswersTell l.fn.store l.store []
      → (later : Contents) × Plans l.store stored later × Extends planned later
      × ((objects : ℕ → Option Object) (own : List Block) (blocks : ℕ → List Block) (pool : Pool) (readings : ℕ → Reading) (plain : PlainPool)
      → AreObjects stored (birth_of l.fn.self.changes) (set_of l.fn.self.changes) objects own blocks → SpellsGroup planned l.group objects l.fn.self pool readings plain
      → AreActed l.group objects planned later l.fn.self l.self pool (fold (λ p a. changed l.group p a.change) plain (take l.action-index l.actions)));
  made : MakesAll l.fn.store l.store l.group l.fn.self l.self (take l.action-index l.actions);
}
