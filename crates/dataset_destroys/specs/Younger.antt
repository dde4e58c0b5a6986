-- Why the younger blocks of a volume are not found.
use Rattle.std.specs.Prelude.{ℕ, suc, ◌≡◌, ◌≢◌, ◌⊎◌, []}
use Rattle.block_pointer.specs.declared.block.Block.{Block}
use Rattle.block_store.specs.Steps.{OnlyReadsBlocks}
use Rattle.block_store.specs.Store.{Store}
use Rattle.block_store.specs.declared.refusal.Refusal.{Refusal}
use Rattle.block_store.specs.declared.refusal.Refusal.TheVariants.{NoMemory, BadPointer}
use Rattle.dnode.specs.declared.object_set.ObjectSet.{ObjectSet}
use Rattle.dnode.specs.declared.object_set.ObjectSetKind.TheVariants as sets
use Rattle.objset.specs.Sets.{IsSetFound, IsSetRefused}
use Rattle.objset.specs.Younger.{IsYoungerSetRefused}

-- the object set was not read: no block was left to be read, or it was refused, or it is of something else
abbrev pub IsTreeMissed : Store → Store → ℕ → Block → ℕ → Refusal → Type 0
IsTreeMissed old new birth block before refusal =
    ((refusal ≡ BadPointer) × (before ≡ 0))
    ⊎ (IsSetRefused old new [] birth block refusal
    ⊎ ((refusal ≡ BadPointer) × ((set : ObjectSet) × IsSetFound old.spaces birth block set × (set.kind ≢ sets.Volume))))

-- the object set was read, and the walk over its younger blocks was refused
pub record IsTreeUnwalked (since : ℕ) (old new : Store) (birth : ℕ) (block : Block) (before after : ℕ) (refusal : Refusal) : Type 0 where
  pub set : ObjectSet
  pub is_set : IsSetFound old.spaces birth block set
  pub kind : set.kind ≡ sets.Volume
  pub left : ℕ
  pub count : before ≡ suc left
  pub mid : Store
  pub first : OnlyReadsBlocks old mid []
  pub why : IsYoungerSetRefused since mid new [] set block.birth left after refusal

-- why the younger blocks of a volume were not found, by what was left before and after
abbrev pub IsTreeRefused : ℕ → Store → Store → ℕ → Block → ℕ → ℕ → Refusal → Type 0
IsTreeRefused since old new birth block before after refusal =
    (refusal ≡ NoMemory)
    ⊎ (IsTreeMissed old new birth block before refusal
    ⊎ IsTreeUnwalked since old new birth block before after refusal)
