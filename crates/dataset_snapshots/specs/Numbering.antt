-- Numbers that are taken again.
use Rattle.std.specs.Prelude.{[], ℕ, ◌≡◌, ◌<◌, ◌≤◌, List, Option, None}
use Rattle.block_pointer.specs.declared.block.Block.{Block}
use Rattle.block_store.specs.Blocks.{Contents}
use Rattle.block_store.specs.Steps.{AnswersTell}
use Rattle.block_store.specs.Store.{Holds, Store}
use Rattle.dnode.specs.declared.object_set.ObjectSet.{ObjectSet}
use Rattle.objset.specs.Objects.{AreObjects, Object}

-- over disks whose answers tell: the set has no object of a number from the first on, before the end
abbrev pub AreUnused : Store → Store → ObjectSet → ℕ → ℕ → ℕ → Type 0
AreUnused before after set birth first end =
    (stored : Contents) (objects : ℕ → Option Object) (own : List Block) (blocks : ℕ → List Block)
    → Holds before stored → AreObjects stored birth set objects own blocks
    → AnswersTell before after [] → (number : ℕ) → first ≤ number → number < end
    → objects number ≡ None
