-- What is done with datasets, when it may be done, and what it frees.
use Rattle.std.specs.Prelude.{ℕ, suc, ◌≡◌, ◌≢◌, ◌⊎◌, ◌<◌, ◌++◌, List, [], Contains, IsPermutation}
use Rattle.block_pointer.specs.declared.block.Block.{Block}
use Rattle.dead_list.specs.Blocks.{AreDistinct, IsDifference, IsSplit}
use Rattle.dead_list.specs.Datasets.{Head, Snapshot, Dataset, Datasets, Pool, IsReached, group_before, nothing, updated, passed}

-- one thing that is done with datasets; they are named by their numbers
pub data Operation : Type 0 where
  NextGroup : Operation
  -- a number stands for a new volume without blocks
  Create : ℕ → Operation
  -- these blocks leave a head, and these enter it
  Overwrite : ℕ → List Block → List Block → Operation
  -- a snapshot of a head, with a number for it
  TakeSnapshot : ℕ → ℕ → Operation
  -- a clone of a snapshot, with a number for it
  MakeClone : ℕ → ℕ → Operation
  DestroyHead : ℕ → Operation
  DestroySnapshot : ℕ → Operation

-- ---- when it may be done

-- the number stands for no dataset, and may stand for one
abbrev pub IsUnused : Datasets → ℕ → Type 0
IsUnused datasets n = (n ≢ 0) × (datasets n ≡ nothing)

-- the number stands for a volume or clone that is written to
abbrev pub IsHead : Datasets → ℕ → Type 0
IsHead datasets head = (datasets head).kind ≡ Head

-- the number stands for a snapshot
abbrev pub IsSnapshot : Datasets → ℕ → Type 0
IsSnapshot datasets snapshot = (datasets snapshot).kind ≡ Snapshot

-- the snapshot before a head is of an earlier group, so it may be written
abbrev pub IsWritable : Pool → ℕ → Type 0
IsWritable pool head = group_before pool.datasets head < pool.group

-- blocks were born in this group, and no dataset reaches them yet
abbrev pub AreNew : Pool → List Block → Type 0
AreNew pool blocks = (block : Block) → Contains blocks block → (block.birth ≡ pool.group) × ¬ IsReached pool.datasets block

-- no snapshot before a head is its own: there is none, or it is the head's origin
abbrev pub HasNoSnapshots : Pool → ℕ → Type 0
HasNoSnapshots pool head = ((pool.datasets head).before ≡ 0) ⊎ (pool.next (pool.datasets head).before ≢ head)

-- of a snapshot only what comes after it names it as the one before
abbrev pub HasNoClones : Pool → ℕ → Type 0
HasNoClones pool snapshot = (m : ℕ) → (pool.datasets m).before ≡ snapshot → m ≡ pool.next snapshot

-- the operation may be done in this pool
abbrev pub MayDo : Pool → Operation → Type 0
MayDo pool NextGroup = Unit {0}
MayDo pool (Create n) = IsUnused pool.datasets n
MayDo pool (Overwrite head left entered) = IsHead pool.datasets head × IsWritable pool head × AreNew pool entered
MayDo pool (TakeSnapshot head n) = IsHead pool.datasets head × IsUnused pool.datasets n
MayDo pool (MakeClone snapshot n) = IsSnapshot pool.datasets snapshot × IsUnused pool.datasets n
MayDo pool (DestroyHead head) = IsHead pool.datasets head × HasNoSnapshots pool head
MayDo pool (DestroySnapshot snapshot) = IsSnapshot pool.datasets snapshot × HasNoClones pool snapshot

-- ---- what it makes of the pool

-- a pool with another dataset at a number
abbrev pub with_dataset : Pool → ℕ → Dataset → Pool
with_dataset pool n dataset = record pool { datasets = updated pool.datasets n dataset }

-- a volume without blocks, made in the pool's group
abbrev pub new_volume : Pool → Dataset
new_volume pool = record { kind = Head; group = pool.group; before = 0; blocks = []; dead = [] }

-- a clone reaches what its origin does
abbrev pub clone_of : Pool → ℕ → Dataset
clone_of pool snapshot = record { kind = Head; group = pool.group; before = snapshot; blocks = (pool.datasets snapshot).blocks; dead = [] }

-- a snapshot of a head takes over its dead list
abbrev pub snapshot_of : ℕ → Dataset → Dataset
snapshot_of group head = record head { kind = Snapshot; group = group }

-- the head once the snapshot stands before it
abbrev pub head_after : ℕ → Dataset → Dataset
head_after n head = record head { before = n; dead = [] }

-- the pool once a snapshot of the head is taken, with that number for it
abbrev pub with_snapshot : Pool → ℕ → ℕ → Pool
with_snapshot pool head n = record pool {
  datasets = updated (updated pool.datasets n (snapshot_of pool.group (pool.datasets head))) head (head_after n (pool.datasets head));
  next = passed (updated pool.next n head) (pool.datasets head).before head n;
}

-- what came after a snapshot stands behind the one before that, with these dead blocks, and the snapshot is no more
abbrev pub without_snapshot : Pool → ℕ → List Block → Pool
without_snapshot pool snapshot dead =
    let next = pool.next snapshot in
    let before = (pool.datasets snapshot).before in
    record pool {
      datasets = updated (updated pool.datasets next (record (pool.datasets next) { before = before; dead = dead })) snapshot nothing;
      next = passed pool.next before snapshot next;
    }

-- Of the blocks that leave a head those are freed that were born after the snapshot before it; the others join its dead list.
pub record IsOverwritten (old : Pool) (head : ℕ) (left entered freed : List Block) (new : Pool) : Type 0 where
  pub blocks : List Block
  pub dead : List Block
  pub older : List Block
  pub leave : IsDifference (old.datasets head).blocks blocks left
  pub enter : IsDifference blocks (old.datasets head).blocks entered
  pub once : AreDistinct blocks
  pub split : IsSplit (group_before old.datasets head) left freed older
  pub dead_are : IsPermutation ((old.datasets head).dead ++ older) dead
  pub new_is : new ≡ with_dataset old head (record (old.datasets head) { blocks = blocks; dead = dead })

-- A head gives back what was born after the snapshot before it.
pub record IsHeadDestroyed (old : Pool) (head : ℕ) (freed : List Block) (new : Pool) : Type 0 where
  pub older : List Block
  pub split : IsSplit (group_before old.datasets head) (old.datasets head).blocks freed older
  pub new_is : new ≡ with_dataset old head nothing

-- Of the dead blocks of what comes after a snapshot those are freed that were born after the snapshot before it; the others and the
-- snapshot's own become those of what comes after it.
pub record IsSnapshotDestroyed (old : Pool) (snapshot : ℕ) (freed : List Block) (new : Pool) : Type 0 where
  pub dead : List Block
  pub older : List Block
  pub split : IsSplit (group_before old.datasets snapshot) (old.datasets (old.next snapshot)).dead freed older
  pub dead_are : IsPermutation (older ++ (old.datasets snapshot).dead) dead
  pub new_is : new ≡ without_snapshot old snapshot dead

-- a pool becomes another by an operation, which frees these blocks
abbrev pub Makes : Pool → Operation → List Block → Pool → Type 0
Makes old NextGroup freed new = (freed ≡ []) × (new ≡ record old { group = suc old.group })
Makes old (Create n) freed new = (freed ≡ []) × (new ≡ with_dataset old n (new_volume old))
Makes old (Overwrite head left entered) freed new = IsOverwritten old head left entered freed new
Makes old (TakeSnapshot head n) freed new = (freed ≡ []) × (new ≡ with_snapshot old head n)
Makes old (MakeClone snapshot n) freed new = (freed ≡ []) × (new ≡ with_dataset old n (clone_of old snapshot))
Makes old (DestroyHead head) freed new = IsHeadDestroyed old head freed new
Makes old (DestroySnapshot snapshot) freed new = IsSnapshotDestroyed old snapshot freed new
