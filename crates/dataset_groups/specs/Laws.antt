-- What follows from these definitions.
use Rattle.std.specs.Prelude.{ℕ, ◌≤◌, Option}
use Rattle.block_store.specs.Blocks.{Contents}
use Rattle.dataset_destroys.specs.Chains.{Reading}
use Rattle.dataset_destroys.specs.ChainStanding.{HasChains}
pub use Rattle.dataset_destroys.specs.Laws.{LossesOfDestroys}
use Rattle.dead_list.specs.Datasets.{Pool, group_before}
use Rattle.objset.specs.Objects.{Object}

-- the snapshot before a dataset is of no later group
abbrev pub GroupsBeforeAreOlder : Type 0
GroupsBeforeAreOlder =
    (stored : Contents) (group : ℕ) (objects : ℕ → Option Object) (pool : Pool) (readings : ℕ → Reading)
    → HasChains stored group objects pool readings → (number : ℕ) → group_before pool.datasets number ≤ group
