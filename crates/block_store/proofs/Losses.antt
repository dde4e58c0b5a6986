-- Blocks that are lost.
use Rattle.std.proofs.Common.{ℕ, zero, suc, ◌≡◌, ◌⊎◌, inl, inr, ◌-◌, List, ◌++◌, length, sym, subst}
use Rattle.model_disk.specs.Joint.{Disks}
use Rattle.block_pointer.specs.declared.block.Block.{Block}
use Rattle.block_pointer.specs.Copies.{dvas}
use Rattle.raidz_io.specs.declared.vdev.Extent.{Extent}
use Rattle.raidz_io.specs.Reads.{OnlyReads, FewAreNotMore, MoreAreLost, absent_since}
use Rattle.raidz_io.proofs.Calls.{OnlyReads-none}
use Rattle.block_store.specs.declared.refusal.Refusal.{Refusal}
use Rattle.block_store.specs.declared.refusal.Refusal.TheVariants.{NoMemory, BadPointer, DiskFault}
use Rattle.block_store.specs.Spaces.{VdevSpace}
use Rattle.block_store.specs.Losses.{IsBlockLost, LossesAreNotTolerable}
use Rattle.block_store.specs.Reading.{IsFailedCopy, HaveFailed, IsLastFault}
use Rattle.block_store.specs.Steps.{OnlyReadsBlocks, OnlyReadsAndPlans, LossIsTolerable}
use Rattle.block_store.specs.Store.{Store, outs, missed}
use Rattle.block_store.proofs.ReadingLost.{absent_earlier, few_lost}
use Rattle.block_store.proofs.ReadingSteps.{reads_on}
use Rattle.block_store.proofs.Steps.{steps_none, steps_read, steps_on, few_after}

-- a block that could not be read at once is lost
pub lost_now : (old new : Store) (missing : List ℕ) (block : Block) (refusal : Refusal) → IsLastFault old new (outs old ++ missing) block refusal
    → refusal ≡ DiskFault → IsBlockLost old new missing
lost_now old new missing block refusal fault is = record {
  block = block;
  mid = old;
  before = steps_none old missing;
  fault = subst (λ (cause : Refusal). IsLastFault old new (outs old ++ missing) block cause) is fault;
}

-- a read that was refused, whatever it has against the pointer
pub read_lost : (old new : Store) (missing : List ℕ) (block : Block) (Bad : Type 0) (refusal : Refusal)
    → (refusal ≡ NoMemory) ⊎ (((refusal ≡ BadPointer) × Bad) ⊎ IsLastFault old new (outs old ++ missing) block refusal)
    → refusal ≡ DiskFault → IsBlockLost old new missing
read_lost old new missing block Bad refusal (inl memory) is = absurd (cc)
read_lost old new missing block Bad refusal (inr (inl (bad, why))) is = absurd (cc)
read_lost old new missing block Bad refusal (inr (inr fault)) is = lost_now old new missing block refusal fault is

-- so it is behind reads and plans, and behind reads
pub lost_later : (old mid new : Store) (missing : List ℕ) → OnlyReadsAndPlans old mid missing → IsBlockLost mid new missing → IsBlockLost old new missing
lost_later old mid new missing steps loss =
    record { block = loss.block; mid = loss.mid; before = steps_on old mid loss.mid missing steps loss.before; fault = loss.fault }

pub lost_behind_reads : (old mid new : Store) (missing : List ℕ) → OnlyReadsBlocks old mid missing → IsBlockLost mid new missing → IsBlockLost old new missing
lost_behind_reads old mid new missing reads loss = lost_later old mid new missing (steps_read old mid missing reads) loss

-- copies that failed were only read
failed_reads : (spaces : List VdevSpace) (absent : List ℕ) (block : Block) (n : ℕ) (old new : Disks) → HaveFailed spaces absent block n old new → OnlyReads old new
failed_reads spaces absent block zero old new same = subst (λ (disks : Disks). OnlyReads old disks) (sym same) (OnlyReads-none old)
failed_reads spaces absent block (suc n) old new (mid, earlier, refusal, last) =
    reads_on old mid new (failed_reads spaces absent block n old mid earlier) last.reads

more_are_lost : (spaces : List VdevSpace) (absent : List ℕ) (block : Block) (i : ℕ) (old new : Disks) → (failed : IsFailedCopy spaces absent block i old new DiskFault)
    → MoreAreLost failed.extent (absent_since old new absent)
more_are_lost spaces absent block i old new failed = elim failed.cause [ inl (is, more) ↦ more | inr (is, none) ↦ absurd (cc) ]

not_tolerable_now : FewAreNotMore → (old new : Store) (missing : List ℕ) (block : Block) → IsLastFault old new (outs old ++ missing) block DiskFault
    → ¬ LossIsTolerable old new missing
not_tolerable_now law old new missing block fault tolerable =
    let absent : List ℕ = (outs old ++ missing) ++ missed old block.birth in
    let n : ℕ = length (dvas block.copies) - 1 in
    let extent : Extent = fault.last.extent in
    let at = fault.last.is_copy.extent_is in
    let before : OnlyReads old.disks fault.mid = failed_reads old.spaces absent block n old.disks fault.mid fault.earlier in
    let few = few_lost at.space.shape.vdev extent (absent_since old.disks new.disks absent) (absent_since fault.mid new.disks absent) at.vdev
    (λ disk held. absent_earlier old.disks fault.mid new.disks absent disk before held) (tolerable block.birth fault.last.is_copy.place.vdev at.space at.found) in
    law extent (absent_since fault.mid new.disks absent) few (more_are_lost old.spaces absent block n fault.mid new.disks fault.last)

pub not_tolerable : FewAreNotMore → LossesAreNotTolerable
not_tolerable law old new missing loss tolerable =
    not_tolerable_now law loss.mid new missing loss.block loss.fault
    (few_after old loss.mid new missing loss.before.reads loss.before.out loss.before.stale loss.before.shapes tolerable)
