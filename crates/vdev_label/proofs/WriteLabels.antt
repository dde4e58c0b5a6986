-- What a write of an area leaves.
use Rattle.std.proofs.Common.{◌≡◌, ◌≢◌, ◌⊎◌, inl, inr, ◌≤◌, ◌<◌, ◌∷◌, ℕ, ◌+◌, List, length}
use Rattle.std.specs.Prelude.{Result, Ok, Err, OnOk}
use Rattle.model_disk.proofs.ContentsLemmas.{covers-outside}
use Rattle.model_disk.proofs.LawLemmas.{written_bytes_stand, other_bytes_stay}
use Rattle.model_disk.specs.Call.{Wrote, FailedWrite, write_call}
use Rattle.model_disk.specs.Joint.{Disks, on, content, Stands}
use Rattle.vdev_label.specs.declared.refusal.Refusal.{Refusal}

pub written_stands : (r : Result (Unit {0}) Refusal) (old new : Disks) (which at : ℕ) (bytes : List ℕ) → new.starts ≡ old.starts
    → new.calls ≡ on which (write_call r at bytes) ∷ old.calls → OnOk r (Stands new which at bytes)
written_stands (Ok _) old new which at bytes starts calls = written_bytes_stand old new which at bytes starts calls
written_stands (Err refusal) old new which at bytes starts calls = tt

-- it changes no other byte
pub written_keeps : (r : Result (Unit {0}) Refusal) (old new : Disks) (which at : ℕ) (bytes : List ℕ) → new.starts ≡ old.starts
    → new.calls ≡ on which (write_call r at bytes) ∷ old.calls
    → (other i : ℕ) → (other ≢ which) ⊎ ((i < at) ⊎ (at + length bytes ≤ i)) → content new other i ≡ content old other i
written_keeps (Ok _) old new which at bytes starts calls other i (inl apart) = other_bytes_stay old new which (Wrote at bytes) starts calls other i (inl apart)
written_keeps (Ok _) old new which at bytes starts calls other i (inr out) =
    other_bytes_stay old new which (Wrote at bytes) starts calls other i (inr (covers-outside at (length bytes) i out))
written_keeps (Err refusal) old new which at bytes starts calls other i (inl apart) =
    other_bytes_stay old new which (FailedWrite at bytes) starts calls other i (inl apart)
written_keeps (Err refusal) old new which at bytes starts calls other i (inr out) =
    other_bytes_stay old new which (FailedWrite at bytes) starts calls other i (inr (covers-outside at (length bytes) i out))
