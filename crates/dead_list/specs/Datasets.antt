-- The datasets of a pool, each with the snapshot before it.
use Rattle.std.specs.Prelude.{ℕ, ◌<◌, ◌==◌, ◌&&◌, cond, List, [], Contains, ◌↔◌}
use Rattle.block_pointer.specs.declared.block.Block.{Block}
use Rattle.dead_list.specs.Blocks.{AreDistinct}

-- what a number stands for: no dataset, a volume or clone that is written to, or what one was when a snapshot was taken
pub data Kind : Type 0 where
  Free : Kind
  Head : Kind
  Snapshot : Kind

-- a volume, clone or snapshot with its blocks, or what stands at a number that is free
pub record Dataset : Type 0 where
  pub kind : Kind
  pub group : ℕ  -- the group that it was made in
  pub before : ℕ  -- the number of the snapshot before it, of a clone its origin at first; 0 where there is none
  pub blocks : List Block  -- the blocks that it reaches
  pub dead : List Block  -- the blocks of the snapshot before it that it doesn't reach any more

-- what stands where there is no dataset
abbrev pub nothing : Dataset
nothing = record { kind = Free; group = 0; before = 0; blocks = []; dead = [] }

-- what each number stands for
abbrev pub Datasets : Type 0
Datasets = ℕ → Dataset

-- the datasets as they are in a group, and what comes after each snapshot
pub record Pool : Type 0 where
  pub group : ℕ  -- the group in which datasets change
  pub datasets : Datasets
  pub next : ℕ → ℕ  -- of each snapshot what comes after it in its chain: the next snapshot, or the head

-- some dataset reaches the block
abbrev pub IsReached : Datasets → Block → Type 0
IsReached datasets block = (m : ℕ) × Contains (datasets m).blocks block

-- what is freed is what was reached and isn't any more, each block once
pub record AreFreed (old new : Datasets) (freed : List Block) : Type 0 where
  pub which : (block : Block) → Contains freed block ↔ (IsReached old block × ¬ IsReached new block)
  pub once : AreDistinct freed

-- the group of the snapshot before a dataset, or 0
abbrev pub group_before : Datasets → ℕ → ℕ
group_before datasets m = (datasets (datasets m).before).group

-- a dataset reaches a block that was born after the snapshot before it
abbrev pub IsBornIn : Datasets → ℕ → Block → Type 0
IsBornIn datasets m block = Contains (datasets m).blocks block × (group_before datasets m < block.birth)

-- the same with something else at one number
abbrev pub updated : {X : Type 0} → (ℕ → X) → ℕ → X → ℕ → X
updated all n one m = cond (m == n) one (all m)

-- what comes after each snapshot, once something at a number stands where something else came after the one before
abbrev pub passed : (ℕ → ℕ) → ℕ → ℕ → ℕ → ℕ → ℕ
passed next before from to m = cond (m == before && next before == from) to (next m)
