-- What follows from these definitions.
use Rattle.std.specs.Prelude.{ℕ, ◌≡◌, []}
use Rattle.block_store.specs.Losses.{IsBlockLost}
use Rattle.block_store.specs.Store.{Store}
use Rattle.block_store.specs.declared.refusal.Refusal.{Refusal}
use Rattle.block_store.specs.declared.refusal.Refusal.TheVariants.{DiskFault}
use Rattle.dataset_chains.specs.DatasetChanges.{DatasetChanges}
use Rattle.dataset_destroys.specs.Destroying.{IsDatasetKept}

-- Where a dataset is not destroyed for a fault of disks a block is lost.
abbrev pub LossesOfDestroys : Type 0
LossesOfDestroys =
    (old new : Store) (changes far : DatasetChanges) (number group left_before left_after : ℕ) (refusal : Refusal)
    → IsDatasetKept old new changes far number group left_before left_after refusal → refusal ≡ DiskFault
    → IsBlockLost old new []
