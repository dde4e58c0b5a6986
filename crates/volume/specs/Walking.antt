-- All blocks of a volume, of which so many may be read.
use Rattle.std.specs.Prelude.{ℕ, suc, ◌≡◌, ◌≢◌, ◌⊎◌, List, ◌∷◌}
use Rattle.block_pointer.specs.declared.block.Block.{Block}
use Rattle.block_store.specs.declared.refusal.Refusal.{Refusal}
use Rattle.block_store.specs.declared.refusal.Refusal.TheVariants.{NoMemory, BadPointer}
use Rattle.block_store.specs.Spaces.{VdevSpace}
use Rattle.block_store.specs.Steps.{OnlyReadsBlocks}
use Rattle.block_store.specs.Store.{Store}
use Rattle.dnode.specs.declared.object_set.ObjectSet.{ObjectSet}
use Rattle.dnode.specs.declared.object_set.ObjectSetKind.TheVariants as kinds
use Rattle.objset.specs.Sets.{IsSetFound, IsSetRefused}
use Rattle.dnode_tree.specs.Rewriting.{AreDistinct}
use Rattle.objset.specs.Within.{blocks_of_objects, blocks_of_set, reads_of, IsSetWalked, IsSetWalkRefused}
use Rattle.volume.specs.declared.volume.VolumeSet.{VolumeSet}
use Rattle.volume.specs.Volume.{block_of}

-- all blocks of a volume: that of the object set, and then those of the set
abbrev pub blocks_of_volume : Block → ObjectSet → List Block → (ℕ → List Block) → List Block
blocks_of_volume block set own blocks = block ∷ blocks_of_set set own blocks

-- how many of them are read: that of the object set, and those of the set that are read
abbrev pub reads_of_volume : ObjectSet → List Block → (ℕ → List Block) → ℕ
reads_of_volume set own blocks = suc (reads_of own (blocks_of_objects set blocks))

-- the object set was read, and is of a volume
abbrev pub IsSetThere : List VdevSpace → VolumeSet → ℕ → ObjectSet → Type 0
IsSetThere spaces volume birth set =
    IsSetFound spaces birth (block_of volume) set × (set.kind ≡ kinds.Volume)

-- it was read, and is of something else
abbrev pub IsOtherSet : List VdevSpace → VolumeSet → ℕ → Type 0
IsOtherSet spaces volume birth =
    (set : ObjectSet) × IsSetFound spaces birth (block_of volume) set × (set.kind ≢ kinds.Volume)

-- the block of the object set was read, and behind it the blocks of the set were walked, each once,
-- by so many reads
pub record IsVolumeWalked (spaces : List VdevSpace) (volume : VolumeSet) (birth before after : ℕ)
    (found : List Block) : Type 0 where
  pub set : ObjectSet
  pub is_set : IsSetThere spaces volume birth set
  pub left : ℕ
  pub count : before ≡ suc left
  pub below : List Block
  pub walked : IsSetWalked spaces set (block_of volume).birth left after below
  pub once : AreDistinct below
  pub are : found ≡ block_of volume ∷ below

-- why the object set was not read: none was left to be read, or it was refused, or it is of
-- something else
abbrev pub IsSetMissed : Store → Store → List ℕ → VolumeSet → ℕ → ℕ → Refusal → Type 0
IsSetMissed old new missing volume birth before refusal =
    ((refusal ≡ BadPointer) × (before ≡ 0))
    ⊎ (IsSetRefused old new missing birth (block_of volume) refusal
    ⊎ ((refusal ≡ BadPointer) × IsOtherSet old.spaces volume birth))

-- the object set was read, and the walk over its blocks was refused
pub record IsSetUnwalked (old new : Store) (missing : List ℕ) (volume : VolumeSet)
    (birth before after : ℕ) (refusal : Refusal) : Type 0 where
  pub set : ObjectSet
  pub is_set : IsSetThere old.spaces volume birth set
  pub left : ℕ
  pub count : before ≡ suc left
  pub mid : Store
  pub first : OnlyReadsBlocks old mid missing
  pub why : IsSetWalkRefused mid new missing set (block_of volume).birth left after refusal

-- why a volume was not walked, by what was left before and after: its object set was not read, or
-- was not walked
abbrev pub IsVolumeWalkRefused :
    Store → Store → List ℕ → VolumeSet → ℕ → ℕ → ℕ → Refusal → Type 0
IsVolumeWalkRefused old new missing volume birth before after refusal =
    (refusal ≡ NoMemory)
    ⊎ (IsSetMissed old new missing volume birth before refusal
    ⊎ IsSetUnwalked old new missing volume birth before after refusal)
