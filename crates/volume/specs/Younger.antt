-- The blocks of a volume that were born after a transaction group, of which so many may be read.
use Rattle.std.specs.Prelude.{ℕ, suc, ◌≡◌, ◌⊎◌, ◌≤◌, ◌<◌, List, [], ◌∷◌}
use Rattle.block_pointer.specs.declared.block.Block.{Block}
use Rattle.block_store.specs.declared.refusal.Refusal.{Refusal}
use Rattle.block_store.specs.declared.refusal.Refusal.TheVariants.{NoMemory}
use Rattle.block_store.specs.Spaces.{VdevSpace}
use Rattle.block_store.specs.Steps.{OnlyReadsBlocks}
use Rattle.block_store.specs.Store.{Store}
use Rattle.dnode.specs.declared.object_set.ObjectSet.{ObjectSet}
use Rattle.dnode_tree.specs.Rewriting.{AreDistinct}
use Rattle.objset.specs.Younger.{IsYoungerSetRefused, IsYoungerSetWalked}
use Rattle.volume.specs.declared.volume.VolumeSet.{VolumeSet}
use Rattle.volume.specs.Volume.{block_of}
use Rattle.volume.specs.Walking.{IsSetMissed, IsSetThere}

-- the block of the object set is younger and was read, and behind it the younger blocks of the set were walked, each once, by so many
-- reads
pub record IsYoungerBelow (since : ℕ) (spaces : List VdevSpace) (volume : VolumeSet) (birth before after : ℕ) (found : List Block)
    : Type 0 where
  pub younger : since < (block_of volume).birth
  pub set : ObjectSet
  pub is_set : IsSetThere spaces volume birth set
  pub left : ℕ
  pub count : before ≡ suc left
  pub below : List Block
  pub walked : IsYoungerSetWalked since spaces set (block_of volume).birth left after below
  pub once : AreDistinct below
  pub are : found ≡ block_of volume ∷ below

-- so it was, or the block of the object set is older, and nothing was read
abbrev pub IsYoungerVolumeWalked : ℕ → List VdevSpace → VolumeSet → ℕ → ℕ → ℕ → List Block → Type 0
IsYoungerVolumeWalked since spaces volume birth before after found =
    (((block_of volume).birth ≤ since) × (before ≡ after) × (found ≡ []))
    ⊎ IsYoungerBelow since spaces volume birth before after found

-- the object set was read, and the walk over its younger blocks was refused
pub record IsYoungerSetUnwalked (since : ℕ) (old new : Store) (missing : List ℕ) (volume : VolumeSet) (birth before after : ℕ)
    (refusal : Refusal) : Type 0 where
  pub set : ObjectSet
  pub is_set : IsSetThere old.spaces volume birth set
  pub left : ℕ
  pub count : before ≡ suc left
  pub mid : Store
  pub first : OnlyReadsBlocks old mid missing
  pub why : IsYoungerSetRefused since mid new missing set (block_of volume).birth left after refusal

-- why the younger blocks of a volume were not walked, by what was left before and after: its object set was not read, or was not walked
abbrev pub IsYoungerVolumeRefused : ℕ → Store → Store → List ℕ → VolumeSet → ℕ → ℕ → ℕ → Refusal → Type 0
IsYoungerVolumeRefused since old new missing volume birth before after refusal =
    (refusal ≡ NoMemory)
    ⊎ ((since < (block_of volume).birth) × (IsSetMissed old new missing volume birth before refusal
    ⊎ IsYoungerSetUnwalked since old new missing volume birth before after refusal))
