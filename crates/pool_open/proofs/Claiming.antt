-- The writes of a claim lie beside blocks.
use Rattle.std.proofs.Common.{◌≡◌, ◌⊎◌, inl, inr, ℕ, zero, suc, ◌+◌, ◌≤◌, ◌<◌, Bool, List, [], ◌∷◌, length, ap, ◌∙◌, arith}
use Rattle.model_disk.specs.Contents.{covers}
use Rattle.model_disk.specs.Joint.{bytes_of}
use Rattle.model_disk.specs.Runs.{IsOff}
use Rattle.model_disk.proofs.RunLemmas.{off_content}
use Rattle.model_disk.proofs.ContentsLemmas.{covers-outside}
use Rattle.block_store.specs.Elsewhere.{IsForBlocks}
use Rattle.block_store.specs.Spaces.{VdevSpace}
use Rattle.pool_core.specs.Slots.{LabelsLieAside}
use Rattle.pool_slots.specs.Labels.{IsClaimWrite, IsLabelWrite, area_place}
use Rattle.pool_slots.specs.Slots.{InUse, IsSlot, slot_at}
use Rattle.pool_slots.specs.Writes.{IsSlotWrite, in_use}
use Rattle.pool_slots.proofs.LabelAreas.{area_len}
use Rattle.pool_slots.proofs.Places.{length-spelled, range_off_slot}
use Rattle.pool_slots.proofs.Writing.{slot_number_small}
use Rattle.uberblock_ring.specs.Slot.{slot_number}
use Rattle.uberblock_ring.specs.Uberblock.{Fits}
use Rattle.uberblock_ring.specs.declared.uberblock.Uberblock.{Uberblock}
use Rattle.vdev_label.specs.Place.{label_at}
use Rattle.pool_open.specs.Claims.{ClaimsSpareBlocks}

-- a byte lies in front of a range, behind it, or in it
sides : (at n i : ℕ) → (i < at) ⊎ ((at + n ≤ i) ⊎ ((at ≤ i) × (i < at + n)))
sides at n i = grind arith

-- a byte that is for blocks lies in no label
off_label : (spaces : List VdevSpace) (starts : List (List ℕ)) (disk i number : ℕ) → LabelsLieAside starts spaces → disk < length starts → IsForBlocks spaces disk i → number < 4
    → (i < label_at (length (bytes_of starts disk)) number) ⊎ (label_at (length (bytes_of starts disk)) number + 262144 ≤ i)
off_label spaces starts disk i number lie there is low =
    elim (sides (label_at (length (bytes_of starts disk)) number) 262144 i) [
      | inl before ↦ inl before
      | inr (inl after) ↦ inr after
      | inr (inr inside) ↦ absurd ((lie disk there).1 number low i inside.0 inside.1 is)
    ]

-- so no slot has it
off_slot : (spaces : List VdevSpace) (starts : List (List ℕ)) (u : Uberblock) (out : List Bool) (disk i : ℕ) → LabelsLieAside starts spaces → disk < length starts → IsForBlocks spaces disk i
    → Fits u → IsOff (IsSlotWrite starts u (in_use out) disk) i
off_slot spaces starts u out disk i lie there is fits at bytes write =
    let size = length (bytes_of starts disk) in
    let slot : IsSlot write.label (slot_number u.group) = record { is_label = write.is_label; in_ring = slot_number_small u } in
    let aside = off_label spaces starts disk i write.label lie there is write.is_label in
    let apart : (i + 1 ≤ slot_at size write.label (slot_number u.group)) ⊎ (slot_at size write.label (slot_number u.group) + 1024 ≤ i) =
    range_off_slot size i 1 write.label (slot_number u.group) (elim aside [ inl before ↦ inl (omega (arith, before)) | inr after ↦ inr after ]) slot in
    ap (λ (place : ℕ). covers place (length bytes) i) write.place
    ∙ ap (λ (n : ℕ). covers (slot_at size write.label (slot_number u.group)) n i) (ap length write.spells ∙ length-spelled u fits)
    ∙ covers-outside (slot_at size write.label (slot_number u.group)) 1024 i (elim apart [ inl before ↦ inl (omega (arith, before)) | inr after ↦ inr after ])

-- a label's area is in the label
area_in_label : (size number : ℕ) → (label_at size number ≤ area_place size number) × (area_place size number + 114688 ≤ label_at size number + 262144)
unfolding area_place
area_in_label size number = (omega arith, omega arith)

-- and so no label's area has the byte
off_area : (spaces : List VdevSpace) (starts : List (List ℕ)) (u : Uberblock) (out : List Bool) (disk i : ℕ) → LabelsLieAside starts spaces → disk < length starts → IsForBlocks spaces disk i
    → IsOff (IsLabelWrite starts out u disk) i
off_area spaces starts u out disk i lie there is at bytes write =
    let size = length (bytes_of starts disk) in
    let aside = off_label spaces starts disk i write.number lie there is write.is_label in
    let inside = area_in_label size write.number in
    ap (λ (place : ℕ). covers place (length bytes) i) write.place
    ∙ ap (λ (n : ℕ). covers (area_place size write.number) n i) (ap length write.inscribed_as.spells ∙ area_len write.label write.inscribed_as.valid)
    ∙ covers-outside (area_place size write.number) 114688 i
    (elim aside [ inl before ↦ inl (omega (arith, before, inside.0)) | inr after ↦ inr (omega (arith, after, inside.1)) ])

-- no write of a claim has it
off_claim : (spaces : List VdevSpace) (starts : List (List ℕ)) (u : Uberblock) (out : List Bool) (disk i : ℕ) → LabelsLieAside starts spaces → disk < length starts → IsForBlocks spaces disk i
    → Fits u → IsOff (IsClaimWrite starts out u disk) i
off_claim spaces starts u out disk i lie there is fits at bytes (inl write) = off_slot spaces starts u out disk i lie there is fits at bytes write
off_claim spaces starts u out disk i lie there is fits at bytes (inr write) = off_area spaces starts u out disk i lie there is at bytes write

-- a disk in use is there
used_there : (out : List Bool) (disk : ℕ) → InUse out disk → disk < length out
used_there [] disk used = absurd (cc)
used_there (flag ∷ out) zero used = omega arith
used_there (flag ∷ out) (suc disk) used = omega (arith, used_there out disk used)

-- what is not there has no write
off_absent : (starts : List (List ℕ)) (u : Uberblock) (out : List Bool) (disk i : ℕ) → length out ≡ length starts → length starts ≤ disk → IsOff (IsClaimWrite starts out u disk) i
off_absent starts u out disk i count behind at bytes (inl write) = absurd (omega (arith, count, behind, used_there out disk write.picked))
off_absent starts u out disk i count behind at bytes (inr write) = absurd (omega (arith, count, behind, used_there out disk write.used))

there_or_not : (disk n : ℕ) → (disk < n) ⊎ (n ≤ disk)
there_or_not disk n = grind arith

pub claims_spare_blocks : ClaimsSpareBlocks
claims_spare_blocks spaces out u old new lie count fits made disk i is =
    off_content (IsClaimWrite old.starts out u) old new disk i made.makes
    (elim (there_or_not disk (length old.starts)) [
      | inl there ↦ off_claim spaces old.starts u out disk i lie there is fits
      | inr behind ↦ off_absent old.starts u out disk i count behind
    ])
