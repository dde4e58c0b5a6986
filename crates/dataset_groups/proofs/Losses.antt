-- Where a dataset is not destroyed for a fault of disks, a block is lost.
pub use Rattle.dataset_destroys.proofs.Losses.{losses_of_destroys}
