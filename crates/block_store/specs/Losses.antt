-- Blocks that could not be read for lack of disks.
use Rattle.std.specs.Prelude.{ℕ, ◌≡◌, ◌⊎◌, ◌++◌, List}
use Rattle.block_pointer.specs.declared.block.Block.{Block}
use Rattle.block_store.specs.declared.refusal.Refusal.{Refusal}
use Rattle.block_store.specs.declared.refusal.Refusal.TheVariants.{NoMemory, DiskFault}
use Rattle.block_store.specs.Reading.{IsLastFault}
use Rattle.block_store.specs.Steps.{OnlyReadsAndPlans, LossIsTolerable}
use Rattle.block_store.specs.Store.{Store, outs}

-- there is not enough memory, or a block could not be read for lack of disks
abbrev pub IsForLoss : Refusal → Type 0
IsForLoss refusal = (refusal ≡ NoMemory) ⊎ (refusal ≡ DiskFault)

-- Behind reads and plans of blocks one block was read last, and could not be: of its last copy more columns are lost than its vdev
-- has parities.
pub record IsBlockLost (old new : Store) (missing : List ℕ) : Type 0 where
  pub block : Block
  pub mid : Store
  pub before : OnlyReadsAndPlans old mid missing
  pub fault : IsLastFault mid new (outs mid ++ missing) block DiskFault

-- where a block is lost, for some birth a vdev lacks more disks than it has parities
abbrev pub LossesAreNotTolerable : Type 0
LossesAreNotTolerable = (old new : Store) (missing : List ℕ) → IsBlockLost old new missing → ¬ LossIsTolerable old new missing
