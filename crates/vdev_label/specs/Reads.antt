-- What reading or writing a label asks of the disks, and answers.
use Rattle.std.specs.Prelude.{◌≡◌, ◌≢◌, ◌⊎◌, ◌≤◌, ◌<◌, ◌+◌, ◌∷◌, ℕ, List, length, Result, Ok, Err}
use Rattle.model_disk.specs.Call.{Read, FailedRead, Wrote, FailedWrite}
use Rattle.model_disk.specs.Joint.{Disks, on, bytes_of, content}
use Rattle.vdev_label.specs.Area.{Spells, IsCause}
use Rattle.vdev_label.specs.Place.{area_at}
use Rattle.vdev_label.specs.Plain.{label_view}
use Rattle.vdev_label.specs.declared.label.Label.{Label}
use Rattle.vdev_label.specs.declared.refusal.Refusal.{Refusal}
use Rattle.vdev_label.specs.declared.refusal.Refusal.TheVariants.{NoMemory, DiskFault, BadLabel}

-- where the area of the label is on that disk
abbrev pub place_of : Disks → ℕ → ℕ → ℕ
place_of disks which number = area_at (length (bytes_of disks.starts which)) number

-- one read of the area, which gave these bytes
abbrev pub ReadsArea : Disks → Disks → ℕ → ℕ → List ℕ → Type 0
ReadsArea old new which number area = (length area ≡ 114688) × (new.calls ≡ on which (Read (place_of old which number) area) ∷ old.calls)

-- the label of the area that was read, or what is wrong with it; or the one read failed; or memory ran out, before the read or after it
abbrev pub ReadsLabel : Disks → Disks → ℕ → ℕ → Result Label Refusal → Type 0
ReadsLabel old new which number (Ok label) = (area : List ℕ) × ReadsArea old new which number area × Spells area (label_view label)
ReadsLabel old new which number (Err (BadLabel it)) = (area : List ℕ) × ReadsArea old new which number area × IsCause area (BadLabel it)
ReadsLabel old new which number (Err DiskFault) = new.calls ≡ on which (FailedRead (place_of old which number) 114688) ∷ old.calls
ReadsLabel old new which number (Err NoMemory) = (new.calls ≡ old.calls) ⊎ ((area : List ℕ) × ReadsArea old new which number area)

-- one write of this area, or memory ran out before it
abbrev pub WritesArea : Disks → Disks → ℕ → ℕ → List ℕ → Result (Unit {0}) Refusal → Type 0
WritesArea old new which number area (Ok _) = new.calls ≡ on which (Wrote (place_of old which number) area) ∷ old.calls
WritesArea old new which number area (Err NoMemory) = new.calls ≡ old.calls
WritesArea old new which number area (Err DiskFault) = new.calls ≡ on which (FailedWrite (place_of old which number) area) ∷ old.calls
WritesArea old new which number area (Err (BadLabel it)) = ⊥

-- no byte outside that area changed
abbrev pub KeepsElsewhere : Disks → Disks → ℕ → ℕ → Type 0
KeepsElsewhere old new which number =
    (other i : ℕ) → (other ≢ which) ⊎ (i < place_of old which number) ⊎ (place_of old which number + 114688 ≤ i) → content new other i ≡ content old other i
