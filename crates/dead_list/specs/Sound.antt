-- Datasets that fit one another.
use Rattle.std.specs.Prelude.{ℕ, ◌≡◌, ◌⊎◌, ◌<◌, ◌≤◌, Contains}
use Rattle.block_pointer.specs.declared.block.Block.{Block}
use Rattle.dead_list.specs.Blocks.{AreDistinct, IsDifference}
use Rattle.dead_list.specs.Datasets.{Kind, Free, Head, Snapshot, Dataset, Pool, IsBornIn, nothing}

-- the last group in which a block of a dataset of this kind may have been born
abbrev pub until_kind : ℕ → Kind → ℕ → ℕ
until_kind group Free made = group
until_kind group Head made = group
until_kind group Snapshot made = made

-- the last group in which a block of this dataset may have been born
abbrev pub until : ℕ → Dataset → ℕ
until group x = until_kind group x.kind x.group

-- a dataset fits the snapshot before it
pub record Fits (group : ℕ) (x before : Dataset) : Type 0 where
  pub made : before.group ≤ until group x
  pub past : until group x ≤ group
  pub born : (block : Block) → Contains x.blocks block → block.birth ≤ until group x
  pub once : AreDistinct x.blocks
  -- what was born by the group of the snapshot before, that one reaches too
  pub shared : (block : Block) → Contains x.blocks block → block.birth ≤ before.group → Contains before.blocks block
  -- the dead blocks are those of the snapshot before that aren't reached any more
  pub dead : IsDifference before.blocks x.blocks x.dead

-- all datasets of the pool fit one another, in chains that end
pub record IsSound (pool : Pool) : Type 0 where
  pub none : pool.datasets 0 ≡ nothing
  -- the rank of each dataset is above that of the snapshot before it
  pub rank : ℕ → ℕ
  pub linked : (m : ℕ) → ((pool.datasets m).before ≡ 0)
      ⊎ (((pool.datasets (pool.datasets m).before).kind ≡ Snapshot) × (rank (pool.datasets m).before < rank m))
  pub fits : (m : ℕ) → Fits pool.group (pool.datasets m) (pool.datasets (pool.datasets m).before)
  -- a block is born in one dataset
  pub one : (m n : ℕ) (block : Block) → IsBornIn pool.datasets m block → IsBornIn pool.datasets n block → m ≡ n
  -- what comes after a snapshot names it as the one before
  pub followed : (m : ℕ) → (pool.datasets m).kind ≡ Snapshot → (pool.datasets (pool.next m)).before ≡ m

-- a pool without datasets
abbrev pub IsEmpty : Pool → Type 0
IsEmpty pool = (m : ℕ) → pool.datasets m ≡ nothing
