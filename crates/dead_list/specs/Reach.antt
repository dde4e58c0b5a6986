-- All blocks that datasets reach, each in the dataset that it was born in.
use Rattle.std.specs.Prelude.{ℕ, ◌≢◌, ◌↔◌, List, Contains, AllPairs, filter, flat_map, nat_lt}
use Rattle.block_pointer.specs.declared.block.Block.{Block}
use Rattle.dead_list.specs.Blocks.{AreDistinct}
use Rattle.dead_list.specs.Datasets.{Datasets, Pool, IsReached, group_before, nothing}
use Rattle.dead_list.specs.Sound.{IsSound}

-- those that were born after a group
abbrev pub born_after : ℕ → List Block → List Block
born_after group blocks = filter (λ block. nat_lt group block.birth) blocks

-- the blocks of a dataset that were born after the snapshot before it
abbrev pub own_of : Datasets → ℕ → List Block
own_of datasets m = born_after (group_before datasets m) (datasets m).blocks

-- these are the numbers of all datasets, each once
pub record AreNumbersOf (datasets : Datasets) (numbers : List ℕ) : Type 0 where
  pub each : (m : ℕ) → datasets m ≢ nothing → Contains numbers m
  pub once : AllPairs (λ m later. m ≢ later) numbers

-- the own blocks of each of them
abbrev pub reach_of : Datasets → List ℕ → List Block
reach_of datasets numbers = flat_map (own_of datasets) numbers

-- Of a sound pool these are the blocks that some dataset reaches, each once.
abbrev pub ReachHasEachOnce : Type 0
ReachHasEachOnce =
    (pool : Pool) (numbers : List ℕ) → IsSound pool → AreNumbersOf pool.datasets numbers
    → AreDistinct (reach_of pool.datasets numbers)
    × ((block : Block) → Contains (reach_of pool.datasets numbers) block ↔ IsReached pool.datasets block)
