-- Copies that are read one after the other.
use Rattle.std.proofs.Common.{ℕ, suc, ◌≡◌, ◌⊎◌, inl, inr, ◌+◌, Result, Ok, Err, subst, List, [], ◌∷◌, ◌++◌, Vec, Global, refl, ap, ◌∙◌, sym, append_assoc, arith}
use Rattle.model_disk.specs.Joint.{JointCall, Disks}
use Rattle.block_pointer.specs.declared.block.Block.{Block}
use Rattle.raidz_io.specs.Reads.{AreReads, OnlyReads, AreUntouched}
use Rattle.raidz_io.proofs.Calls.{OnlyReads-none}
use Rattle.block_store.specs.declared.refusal.Refusal.{Refusal}
use Rattle.block_store.specs.declared.refusal.Refusal.TheVariants.{NoMemory, DiskFault, BadDigest}
use Rattle.block_store.specs.Spaces.{VdevSpace}
use Rattle.block_store.specs.Reading.{IsFault, IsFailedCopy, HaveFailed, IsCopyRead, IsReadUpTo}
use Rattle.block_store.specs.Store.{Store}

are_reads_too : (newer calls : List JointCall) → AreReads newer → AreReads calls → AreReads (newer ++ calls)
are_reads_too [] calls are are' = are'
are_reads_too (made ∷ newer) calls are are' = (are.0, are_reads_too newer calls are.1 are')

pub reads_on : (old mid new : Disks) → OnlyReads old mid → OnlyReads mid new → OnlyReads old new
reads_on old mid new first second = record {
  starts = second.starts ∙ first.starts;
  newer = second.newer ++ first.newer;
  calls = second.calls ∙ ap (λ calls. second.newer ++ calls) first.calls ∙ sym (append_assoc second.newer first.newer old.calls);
  are_reads = are_reads_too second.newer first.newer second.are_reads first.are_reads;
}

pub untouched_on : (absent : List ℕ) (old mid new : Disks) → AreUntouched absent old mid → AreUntouched absent mid new → AreUntouched absent old new
untouched_on absent old mid new first second disk held = second disk held ∙ first disk held

-- only the disks are others
pub rest_on : (old mid new : Store) → mid ≡ record old { disks = mid.disks } → new ≡ record mid { disks = new.disks } → new ≡ record old { disks = new.disks }
rest_on old mid new first second = second ∙ ap (λ (s : Store). record s { disks = new.disks }) first

-- a copy that was not read failed
pub failed_by : (spaces : List VdevSpace) (absent : List ℕ) (block : Block) (i : ℕ) (old new : Disks) (refusal : Refusal)
    → (refusal ≡ DiskFault) ⊎ (refusal ≡ BadDigest) → IsCopyRead spaces absent block i old new (Err refusal)
    → IsFailedCopy spaces absent block i old new refusal
failed_by spaces absent block i old new refusal fault read = record {
  extent = read.extent;
  is_copy = read.is_copy;
  reads = read.reads;
  cause = elim read.refused [
    | inl none ↦ absurd (not_for_memory fault none)
    | inr cause ↦ cause
  ];
}
  where
    not_for_memory : (refusal ≡ DiskFault) ⊎ (refusal ≡ BadDigest) → ¬ (refusal ≡ NoMemory)
    not_for_memory (inl is) none = absurd (cc)
    not_for_memory (inr is) none = absurd (cc)

-- and one more has failed
one_more_failed : (spaces : List VdevSpace) (absent : List ℕ) (block : Block) (i : ℕ) (old mid new : Disks) (result : Result (Vec ℕ Global) Refusal)
    → IsFault result → HaveFailed spaces absent block i old mid → IsCopyRead spaces absent block i mid new result
    → HaveFailed spaces absent block (suc i) old new
one_more_failed spaces absent block i old mid new (Ok bytes) fault earlier read = absurd fault
one_more_failed spaces absent block i old mid new (Err refusal) fault earlier read =
    (mid, earlier, refusal, failed_by spaces absent block i mid new refusal fault read)

-- the first copy was read
pub first_read : (spaces : List VdevSpace) (absent : List ℕ) (block : Block) (old new : Disks) (result : Result (Vec ℕ Global) Refusal)
    → IsCopyRead spaces absent block 0 old new result → IsReadUpTo spaces absent block 1 old new result
first_read spaces absent block old new result read = record {
  i = 0;
  below = omega arith;
  mid = old;
  before = OnlyReads-none old;
  untouched = λ disk held. refl;
  earlier = refl;
  read = read;
  last = λ fault. refl;
}

-- the next is not read
pub ends_here : (spaces : List VdevSpace) (absent : List ℕ) (block : Block) (n : ℕ) (old new : Disks) (result : Result (Vec ℕ Global) Refusal)
    → ¬ IsFault result → IsReadUpTo spaces absent block n old new result → IsReadUpTo spaces absent block (n + 1) old new result
ends_here spaces absent block n old new result no_fault up_to = record {
  i = up_to.i;
  below = omega (arith, up_to.below);
  mid = up_to.mid;
  before = up_to.before;
  untouched = up_to.untouched;
  earlier = up_to.earlier;
  read = up_to.read;
  last = λ fault. absurd (no_fault fault);
}

-- the next is read too
pub next_read : (spaces : List VdevSpace) (absent : List ℕ) (block : Block) (n : ℕ) (old mid new : Disks) (before result : Result (Vec ℕ Global) Refusal)
    → IsFault before → IsReadUpTo spaces absent block n old mid before → IsCopyRead spaces absent block n mid new result
    → IsReadUpTo spaces absent block (n + 1) old new result
next_read spaces absent block n old mid new before result fault up_to read = record {
  i = n;
  below = omega arith;
  mid = mid;
  before = reads_on old up_to.mid mid up_to.before up_to.read.reads;
  untouched = untouched_on absent old up_to.mid mid up_to.untouched up_to.read.untouched;
  earlier = subst (λ count. HaveFailed spaces absent block count old mid) (up_to.last fault)
      (one_more_failed spaces absent block up_to.i old up_to.mid mid before fault up_to.earlier up_to.read);
  read = read;
  last = λ again. omega arith;
}
