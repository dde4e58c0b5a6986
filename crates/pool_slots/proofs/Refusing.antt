-- What the phases of a commit in steps refuse.
use Rattle.std.proofs.Common.{◌≡◌, inl, inr, ◌≤◌, ◌<◌, ◌∙◌, ℕ, ◌+◌, true, List, ◌∷◌, length, refl, ap, arith}
use Rattle.uberblock_ring.specs.declared.uberblock.Uberblock.{Uberblock}
use Rattle.uberblock_ring.specs.Slot.{slot_number}
use Rattle.model_disk.specs.Call.{Call, Read, FailedRead, Wrote, FailedWrite, Flushed, FailedFlush}
use Rattle.model_disk.specs.Contents.{covers, touches, is_dirty}
use Rattle.model_disk.specs.Joint.{Disks, bytes_of, calls_on}
use Rattle.model_disk.proofs.JointLemmas.{calls_on-same}
use Rattle.pool_slots.specs.Slots.{IsSlot, slot_at}
use Rattle.pool_slots.specs.PhaseLaws.{WroteLast, WrongWritesAreRefused}
use Rattle.pool_slots.proofs.FreeWrites.{slot_not_off, some_and_none, covered_range}
use Rattle.pool_slots.proofs.PhaseSteps.{unflushed_is_free, unflushed_is_slots}
use Rattle.pool_slots.proofs.Places.{slots_apart}
use Rattle.pool_slots.proofs.Writing.{slot_number_small}

-- what a call has just written is unflushed
just_written : (call : Call) (calls : List Call) (i : ℕ) → touches call i ≡ true → is_dirty (call ∷ calls) i ≡ true
just_written (Read at bytes) calls i wrote = absurd cc
just_written (FailedRead at n) calls i wrote = absurd cc
just_written (Wrote at bytes) calls i wrote = rw wrote refl
just_written (FailedWrite at bytes) calls i wrote = rw wrote refl
just_written Flushed calls i wrote = absurd cc
just_written FailedFlush calls i wrote = absurd cc

last_is_unflushed : (disks : Disks) (which i : ℕ) → (last : WroteLast disks which i) → is_dirty (calls_on which disks.calls) i ≡ true
last_is_unflushed disks which i last =
    let is : calls_on which disks.calls ≡ last.call ∷ calls_on which last.earlier = ap (calls_on which) last.is ∙ calls_on-same which last.call last.earlier in
    ap (λ (them : List Call). is_dirty them i) is ∙ just_written last.call (calls_on which last.earlier) i last.wrote

-- byte i of another slot is in none of the uberblock's slots
other_slot : (size label slot i label' : ℕ) (u : Uberblock) → 1048576 ≤ size → IsSlot label slot → label' < 4 → ¬ (slot ≡ slot_number u.group) → i < 1024
    → ¬ (covers (slot_at size label' (slot_number u.group)) 1024 (slot_at size label slot + i) ≡ true)
other_slot size label slot i label' u room is is' other inside covered =
    let range = covered_range (slot_at size label' (slot_number u.group)) 1024 (slot_at size label slot + i) covered in
    elim (slots_apart size label slot label' (slot_number u.group) (omega (arith, room)) is (record { is_label = is'; in_ring = slot_number_small u })) [
      | inl same ↦ other same.1
      | inr (inl before) ↦ omega (arith, before, range.0, inside)
      | inr (inr after) ↦ omega (arith, after, range.1)
    ]

pub wrong_writes_are_refused : WrongWritesAreRefused
wrong_writes_are_refused =
    record {
      slot_too_early = λ trees out disks last before which label slot i used is inside wrote it.
          slot_not_off (length (bytes_of disks.starts which)) label slot i is inside
          (unflushed_is_free trees out disks last before it which _ used (last_is_unflushed disks which _ wrote)).off_slots;
      over_a_tree = λ trees out disks last before v which i value used reached is wrote it.
          some_and_none (trees v.root which i) value is ((unflushed_is_free trees out disks last before it which i used (last_is_unflushed disks which i wrote)).off_trees v reached);
      other_slot = λ trees out disks last before u which label slot i used is inside apart room wrote it.
          let size = length (bytes_of disks.starts which) in
          let found = unflushed_is_slots trees out disks last before u it which (slot_at size label slot + i) used (last_is_unflushed disks which (slot_at size label slot + i) wrote) in
          other_slot size label slot i found.label u room is found.is_label apart inside found.inside;
    }
