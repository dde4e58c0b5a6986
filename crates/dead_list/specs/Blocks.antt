-- Lists of blocks, whose order says nothing.
use Rattle.std.specs.Prelude.{ℕ, ◌≢◌, ◌⊎◌, ◌<◌, ◌≤◌, ◌++◌, List, All, Contains, IsPermutation}
use Rattle.std.specs.List.{AllPairs}
use Rattle.block_pointer.specs.declared.block.Block.{Block}

-- no block is there twice
abbrev pub AreDistinct : List Block → Type 0
AreDistinct blocks = AllPairs (λ block later. block ≢ later) blocks

-- the blocks of a list that others hasn't, each once
pub record IsDifference (blocks others only : List Block) : Type 0 where
  pub each : (block : Block) → Contains blocks block → Contains others block ⊎ Contains only block
  pub from : (block : Block) → Contains only block → Contains blocks block × ¬ Contains others block
  pub once : AreDistinct only

-- the blocks of a list that were born after a group, and the others
pub record IsSplit (group : ℕ) (blocks after until : List Block) : Type 0 where
  pub parts : IsPermutation blocks (after ++ until)
  pub after_are : All (λ block. group < block.birth) after
  pub until_are : All (λ block. block.birth ≤ group) until
