-- What follows from these definitions for those who call disks.
use Rattle.std.specs.Prelude.{◌≡◌, ◌≢◌, ◌⊎◌, ◌≤◌, ℕ, false, List, ◌∷◌, ◌++◌, length, slice_get, Some}
use Rattle.std.specs.List.{list_any}
use Rattle.model_disk.specs.Call.{Call, Read, Wrote, FailedWrite, Flushed}
use Rattle.model_disk.specs.Contents.{byte_at, touches, MayLeave}
use Rattle.model_disk.specs.Honest.{HonestSince}
use Rattle.model_disk.specs.Joint.{JointCall, Disks, on, content, Stands, AreHonestSince}

-- what was written stands
abbrev pub WrittenBytesStand : Type 0
WrittenBytesStand =
    (old new : Disks) (which at : ℕ) (bytes : List ℕ) → new.starts ≡ old.starts → new.calls ≡ on which (Wrote at bytes) ∷ old.calls
    → Stands new which at bytes

-- a call, whatever it answered, changes no byte outside a write's range on its disk
abbrev pub OtherBytesStay : Type 0
OtherBytesStay =
    (old new : Disks) (which : ℕ) (call : Call) → new.starts ≡ old.starts → new.calls ≡ on which call ∷ old.calls
    → (other i : ℕ) → (other ≢ which) ⊎ (touches call i ≡ false) → content new other i ≡ content old other i

-- an honest read of bytes that stand gives them
abbrev pub HonestReadsGive : Type 0
HonestReadsGive =
    (old new : Disks) (which at : ℕ) (buffer bytes : List ℕ) → new.starts ≡ old.starts → new.calls ≡ on which (Read at buffer) ∷ old.calls
    → AreHonestSince (length old.calls) new.starts new.calls → length buffer ≡ length bytes → Stands old which at bytes → buffer ≡ bytes

-- each part of an honest run is honest
abbrev pub PartsAreHonest : Type 0
PartsAreHonest =
    (starts : List (List ℕ)) (first later : ℕ) (newer calls : List JointCall) → first ≤ later → AreHonestSince first starts (newer ++ calls)
    → AreHonestSince later starts calls

-- the same of one disk's calls
abbrev pub PartsOfOneAreHonest : Type 0
PartsOfOneAreHonest =
    (start : List ℕ) (first later : ℕ) (newer calls : List Call) → first ≤ later → HonestSince first start (newer ++ calls)
    → HonestSince later start calls

-- A crash leaves each byte that was known at a flush that succeeded, and that no write had in its range since.
abbrev pub FlushedBytesStay : Type 0
FlushedBytesStay =
    (start : List ℕ) (newer calls : List Call) (image : List ℕ) → MayLeave start (newer ++ Flushed ∷ calls) image
    → (i value : ℕ) → list_any (λ call. touches call i) newer ≡ false → byte_at start calls i ≡ Some value → slice_get image i ≡ Some value

-- a crash leaves a disk that was never written as it was at first
abbrev pub UnwrittenDisksStay : Type 0
UnwrittenDisksStay =
    (start : List ℕ) (calls : List Call) (image : List ℕ) → ((i : ℕ) → list_any (λ call. touches call i) calls ≡ false)
    → MayLeave start calls image → image ≡ start

-- What a crash may leave before a write, it may leave after it, and after its answer it is the same whatever the answer was:
-- so a crash while a write runs leaves no more than one after it.
abbrev pub WritesAddImages : Type 0
WritesAddImages =
    (start : List ℕ) (calls : List Call) (at : ℕ) (bytes image : List ℕ)
    → (MayLeave start calls image → MayLeave start (Wrote at bytes ∷ calls) image)
    × (MayLeave start (Wrote at bytes ∷ calls) image → MayLeave start (FailedWrite at bytes ∷ calls) image)
    × (MayLeave start (FailedWrite at bytes ∷ calls) image → MayLeave start (Wrote at bytes ∷ calls) image)
