-- What is unflushed in a run.
use Rattle.std.proofs.Common.{◌≡◌, ◌⊎◌, inl, inr, ◌∙◌, ℕ, Bool, true, false, ◌||◌, List, [], ◌∷◌, ◌++◌, length, All, refl, sym, ap, arith}
use Rattle.std.proofs.lemmas.List.Elements.{All-tail}
use Rattle.model_disk.specs.Call.{Call, Read, FailedRead, Wrote, FailedWrite, Flushed, FailedFlush}
use Rattle.model_disk.specs.Contents.{covers, is_dirty}
use Rattle.model_disk.specs.Joint.{Disks, calls_on}
use Rattle.model_disk.specs.Runs.{WritesOnly, Makes, IsSettled}
use Rattle.model_disk.proofs.RunLemmas.{calls_on-append, writes_on}

-- a write that may be made has the byte in its range
pub record IsCovered (may : ℕ → List ℕ → Type 0) (i : ℕ) : Type 0 where
  pub at : ℕ
  pub bytes : List ℕ
  pub write : may at bytes
  pub inside : covers at (length bytes) i ≡ true

either_true : (a b : Bool) → (a || b) ≡ true → (a ≡ true) ⊎ (b ≡ true)
either_true true b either = inl refl
either_true false b either = inr either

-- a byte is unflushed after a run that it was before, or that the run wrote
covered_or_before : (may : ℕ → List ℕ → Type 0) (newer calls : List Call) (i : ℕ) → All (WritesOnly may) newer → is_dirty (newer ++ calls) i ≡ true → IsCovered may i ⊎ (is_dirty calls i ≡ true)
covered_or_before may [] calls i are dirty = inr dirty
covered_or_before may (Read at bytes ∷ newer) calls i are dirty = covered_or_before may newer calls i (All-tail (WritesOnly may) (Read at bytes) newer are) dirty
covered_or_before may (FailedRead at n ∷ newer) calls i are dirty = covered_or_before may newer calls i (All-tail (WritesOnly may) (FailedRead at n) newer are) dirty
covered_or_before may (Wrote at bytes ∷ newer) calls i are dirty =
    elim (either_true (covers at (length bytes) i) (is_dirty (newer ++ calls) i) dirty) [
      | inl inside ↦ inl (record { at = at; bytes = bytes; write = are 0 (Wrote at bytes) (omega arith); inside = inside })
      | inr before ↦ covered_or_before may newer calls i (All-tail (WritesOnly may) (Wrote at bytes) newer are) before
    ]
covered_or_before may (FailedWrite at bytes ∷ newer) calls i are dirty =
    elim (either_true (covers at (length bytes) i) (is_dirty (newer ++ calls) i) dirty) [
      | inl inside ↦ inl (record { at = at; bytes = bytes; write = are 0 (FailedWrite at bytes) (omega arith); inside = inside })
      | inr before ↦ covered_or_before may newer calls i (All-tail (WritesOnly may) (FailedWrite at bytes) newer are) before
    ]
covered_or_before may (Flushed ∷ newer) calls i are dirty = absurd cc
covered_or_before may (FailedFlush ∷ newer) calls i are dirty = covered_or_before may newer calls i (All-tail (WritesOnly may) FailedFlush newer are) dirty

-- where the disk was settled before the run, the run wrote it
pub unflushed_is_written : (may : ℕ → ℕ → List ℕ → Type 0) (old new : Disks) (which i : ℕ) → Makes may old new → IsSettled (calls_on which old.calls) → is_dirty (calls_on which new.calls) i ≡ true
    → IsCovered (may which) i
unflushed_is_written may old new which i makes settled dirty =
    let is : calls_on which new.calls ≡ calls_on which makes.newer ++ calls_on which old.calls = ap (calls_on which) makes.calls ∙ calls_on-append which makes.newer old.calls in
    let now : is_dirty (calls_on which makes.newer ++ calls_on which old.calls) i ≡ true = sym (ap (λ (them : List Call). is_dirty them i) is) ∙ dirty in
    elim (covered_or_before (may which) (calls_on which makes.newer) (calls_on which old.calls) i (writes_on may which makes.newer makes.writes) now) [
      | inl covered ↦ covered
      | inr before ↦ let e : true ≡ false = sym before ∙ settled i in absurd cc
    ]
