-- Slots that are read one after the other.
use Rattle.std.proofs.Common.{◌≡◌, ◌<◌, ◌≤◌, ◌∙◌, ℕ, zero, suc, List, [], ◌∷◌, ◌++◌, length, refl, sym, ap, subst, inl, inr, arith}
use Rattle.std.specs.Prelude.{Option, None, Result, Ok, Err, IsErrAnd, Vec, nat_lt, if◌then◌else◌}
use Rattle.std.proofs.lemmas.Bool.{cases_lt, lt-ltb, le-ltb}
use Rattle.std.proofs.Math.ListN.{set}
use Rattle.std.proofs.lemmas.List.{get_or-set_same, get_or-set_other}
use Rattle.model_disk.specs.Call.{Read, FailedRead}
use Rattle.model_disk.specs.declared.disk.DiskError.{DiskError}
use Rattle.model_disk.specs.Joint.{JointCall, Disks, on, bytes_of}
use Rattle.uberblock_ring.specs.Place.{nth_slot_at}
use Rattle.uberblock_ring.specs.Reads.{size_of, slot_reads, HasRead, HasFailedAt, ReadsSlot, ReadsSlots}
use Rattle.std.specs.declared.alloc.Global.{Global}
use Rattle.uberblock_ring.specs.declared.refusal.Refusal.{Refusal}
use Rattle.uberblock_ring.specs.declared.refusal.Refusal.TheVariants.{NoUberblock, DiskFault, NoMemory}
use Rattle.uberblock_ring.specs.declared.uberblock.Uberblock.{Uberblock}

-- what each read gave, with one more
abbrev also : (ℕ → List ℕ) → ℕ → List ℕ → ℕ → List ℕ
also bytes n more i = if nat_lt i n then bytes i else more

also_at : (bytes : ℕ → List ℕ) (n : ℕ) (more : List ℕ) → also bytes n more n ≡ more
also_at bytes n more = rw (le-ltb n n (omega arith)) refl

also_below : (bytes : ℕ → List ℕ) (n : ℕ) (more : List ℕ) (i : ℕ) → i < n → also bytes n more i ≡ bytes i
also_below bytes n more i below = rw (lt-ltb i n below) refl

-- reads before it are as they were
same_reads : (which size : ℕ) (bytes : ℕ → List ℕ) (n : ℕ) (more : List ℕ) (k : ℕ) → k ≤ n → slot_reads which size (also bytes n more) k ≡ slot_reads which size bytes k
same_reads which size bytes n more zero few = refl
same_reads which size bytes n more (suc k) few =
    ap (λ (b : List ℕ). on which (Read (nth_slot_at size k) b) ∷ slot_reads which size (also bytes n more) k) (also_below bytes n more k (omega (arith, few)))
    ∙ ap (λ (cs : List JointCall). on which (Read (nth_slot_at size k) (bytes k)) ∷ cs) (same_reads which size bytes n more k (omega (arith, few)))

pub none_read : (old : Disks) (which : ℕ) (found : List (Option Uberblock)) → HasRead old old which 0 found
none_read old which found = record { bytes = λ i. []; calls = refl; each = λ i below. absurd (omega arith) }

size_same : (old mid : Disks) (which : ℕ) → mid.starts ≡ old.starts → size_of mid which ≡ size_of old which
size_same old mid which starts = ap (λ (disks : List (List ℕ)). length (bytes_of disks which)) starts

-- one slot more was read
pub one_more : (old mid new : Disks) (which n next : ℕ) (found : List (Option Uberblock)) (read : Option Uberblock) → HasRead old mid which n found → mid.starts ≡ old.starts
    → n < length found → ReadsSlot mid new which n (Ok read) → suc n ≡ next → HasRead old new which next (set found n read)
one_more old mid new which n next found read so_far starts there (bytes, calls, is) count =
    let size = size_of old which in
    let before : mid.calls ≡ slot_reads which size (also so_far.bytes n bytes) n ++ old.calls =
    so_far.calls ∙ ap (λ (cs : List JointCall). cs ++ old.calls) (sym (same_reads which size so_far.bytes n bytes n (omega arith))) in
    let place : on which (Read (nth_slot_at (size_of mid which) n) bytes) ≡ on which (Read (nth_slot_at size n) (also so_far.bytes n bytes n)) =
    ap (λ (s : ℕ). on which (Read (nth_slot_at s n) bytes)) (size_same old mid which starts) ∙ ap (λ (b : List ℕ). on which (Read (nth_slot_at size n) b)) (sym (also_at so_far.bytes n bytes)) in
    subst (λ (k : ℕ). HasRead old new which k (set found n read)) count record {
      bytes = also so_far.bytes n bytes;
      calls = calls ∙ ap (λ (c : JointCall). c ∷ mid.calls) place ∙ ap (λ (cs : List JointCall). on which (Read (nth_slot_at size n) (also so_far.bytes n bytes n)) ∷ cs) before;
      each = λ i below. elim (cases_lt i n) [
        | inl less ↦ rw (also_below so_far.bytes n bytes i less, get_or-set_other found n i read None (λ e. absurd (omega arith))) (so_far.each i less)
        | inr more ↦ let same : i ≡ n = omega arith in rw (same, also_at so_far.bytes n bytes, get_or-set_same found n read None there) is
      ];
    }

-- the read of the next slot failed
pub one_failed : (old mid new : Disks) (which n : ℕ) (found : List (Option Uberblock)) (fault : DiskError) → HasRead old mid which n found → mid.starts ≡ old.starts
    → ReadsSlot mid new which n (Err fault) → HasFailedAt old new which n
one_failed old mid new which n found fault so_far starts calls = record {
  bytes = so_far.bytes;
  calls = calls ∙ ap (λ (s : ℕ). on which (FailedRead (nth_slot_at s n) 1024) ∷ mid.calls) (size_same old mid which starts)
      ∙ ap (λ (cs : List JointCall). on which (FailedRead (nth_slot_at (size_of old which) n) 1024) ∷ cs) so_far.calls;
}

-- so none was read further
pub stops_there : (old new : Disks) (which n : ℕ) (result : Result (Vec (Option Uberblock) Global) Refusal) → IsErrAnd result (λ refusal. refusal ≡ DiskFault) → n < 512
    → HasFailedAt old new which n → ReadsSlots old new which result
stops_there old new which n (Ok found) is below failed = absurd is
stops_there old new which n (Err DiskFault) is below failed = (n, below, failed)
stops_there old new which n (Err NoMemory) is below failed = absurd cc
stops_there old new which n (Err NoUberblock) is below failed = absurd cc
