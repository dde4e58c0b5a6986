-- Writes of free bytes, and writes on disks in use.
use Rattle.std.proofs.Common.{◌≡◌, ◌⊎◌, inl, inr, ◌<◌, ◌≤◌, ◌∙◌, ℕ, ◌+◌, Bool, true, false, List, length, Option, Some, None, refl, sym, ap, arith}
use Rattle.std.proofs.lemmas.Bool.Decides.{nat_tests}
use Rattle.uberblock_ring.specs.declared.uberblock.Uberblock.{Uberblock}
use Rattle.model_disk.specs.Contents.{covers}
use Rattle.model_disk.specs.Joint.{Disks, bytes_of}
use Rattle.model_disk.specs.Runs.{Makes, IsOff}
use Rattle.model_disk.proofs.ContentsLemmas.{covers-inside}
use Rattle.model_disk.proofs.RunLemmas.{Makes-wider}
use Rattle.vdev_label.specs.Place.{label_at}
use Rattle.pool_slots.specs.Slots.{AreThere, InUse, HaveLabels, slot_at, IsSlot, StayOut}
use Rattle.pool_slots.specs.Possible.{IsInReach, Trees}
use Rattle.pool_slots.specs.Commits.{AreOffLabels, only_last}
use Rattle.pool_slots.specs.Labels.{area_place}
use Rattle.pool_slots.specs.Phases.{if_used, IsOffSlots, IsRelabel, free_writes, slot_writes}
use Rattle.pool_slots.proofs.LabelWrites.{area_in_label, area_off_slot}

-- ---- on disks in use

pub used_off : (out : List Bool) (may : ℕ → ℕ → List ℕ → Type 0) (which i : ℕ) → InUse out which → IsOff (may which) i → IsOff (if_used out may which) i
used_off out may which i used off at bytes write = off at bytes (write used)

pub used_makes : (out : List Bool) (may : ℕ → ℕ → List ℕ → Type 0) (old new : Disks) → Makes may old new → Makes (if_used out may) old new
used_makes out may old new makes = Makes-wider may (if_used out may) old new (λ which at bytes is used. is) makes

-- ---- free bytes

not_true : (b : Bool) → ¬ (b ≡ true) → b ≡ false
not_true true none = absurd (none refl)
not_true false none = refl

pub some_and_none : (o : Option ℕ) (value : ℕ) → o ≡ Some value → o ≡ None → ⊥
some_and_none o value is none = let e : Some value ≡ None = sym is ∙ none in cc

none_there : (o : Option ℕ) → ((value : ℕ) → ¬ (o ≡ Some value)) → o ≡ None
none_there None none = refl
none_there (Some value) none = absurd (none value refl)

pub covered_range : (at n i : ℕ) → covers at n i ≡ true → (at ≤ i) × (i < at + n)
covered_range at n i covered = grind (arith, nat_tests)

-- no byte of a slot is off the slots
pub slot_not_off : (size label slot i : ℕ) → IsSlot label slot → i < 1024 → ¬ IsOffSlots size (slot_at size label slot + i)
slot_not_off size label slot i is inside off = elim (off label slot is) [ inl before ↦ omega (arith, before) | inr after ↦ omega (arith, after, inside) ]

pub free_off_slots : (trees : Trees) (out : List Bool) (starts : List (List ℕ)) (last : Uberblock) (before : List Uberblock) (which label slot i : ℕ) → InUse out which → IsSlot label slot → i < 1024
    → IsOff (free_writes trees out starts last before which) (slot_at (length (bytes_of starts which)) label slot + i)
free_off_slots trees out starts last before which label slot i used is inside at bytes write =
    let size = length (bytes_of starts which) in
    not_true (covers at (length bytes) (slot_at size label slot + i)) (λ covered. slot_not_off size label slot i is inside (write used (slot_at size label slot + i) covered).off_slots)

pub free_off_trees : (trees : Trees) (out : List Bool) (starts : List (List ℕ)) (last : Uberblock) (before : List Uberblock) (v : Uberblock) (which i value : ℕ) → IsInReach (only_last last before) v
    → InUse out which → trees v.root which i ≡ Some value → IsOff (free_writes trees out starts last before which) i
free_off_trees trees out starts last before v which i value reached used is at bytes write =
    not_true (covers at (length bytes) i) (λ covered. some_and_none (trees v.root which i) value is ((write used i covered).off_trees v reached))

pub no_free_slot : (trees : Trees) (out : List Bool) (starts : List (List ℕ)) (last : Uberblock) (before : List Uberblock) (which label slot : ℕ) (bytes : List ℕ) → InUse out which → IsSlot label slot
    → 0 < length bytes → ¬ free_writes trees out starts last before which (slot_at (length (bytes_of starts which)) label slot) bytes
no_free_slot trees out starts last before which label slot bytes used is some write =
    let size = length (bytes_of starts which) in
    slot_not_off size label slot 0 is (omega arith) (write used (slot_at size label slot + 0) (covers-inside (slot_at size label slot) (length bytes) 0 some)).off_slots

-- ---- what is free with fewer disks, and with a plan

pub free_writes_fewer : (trees : Trees) (out later : List Bool) (starts : List (List ℕ)) (last : Uberblock) (before : List Uberblock) → StayOut out later → (old new : Disks)
    → Makes (free_writes trees out starts last before) old new → Makes (free_writes trees later starts last before) old new
free_writes_fewer trees out later starts last before stay old new makes =
    Makes-wider (free_writes trees out starts last before) (free_writes trees later starts last before) old new (λ which at bytes write used. write (stay which used)) makes

pub slot_writes_fewer : (out later : List Bool) (starts : List (List ℕ)) (u : Uberblock) → StayOut out later → (old new : Disks)
    → Makes (slot_writes out starts u) old new → Makes (slot_writes later starts u) old new
slot_writes_fewer out later starts u stay old new makes =
    Makes-wider (slot_writes out starts u) (slot_writes later starts u) old new (λ which at bytes write used.
    let it = write (stay which used) in
    record { label = it.label; is_label = it.is_label; picked = used; place = it.place; spells = it.spells }) makes

-- ---- labels that are written anew

area_no_label : (size number i : ℕ) → (area_place size number ≤ i) × (i < area_place size number + 114688) → ¬ ((i < label_at size number) ⊎ (label_at size number + 262144 ≤ i))
area_no_label size number i inside (inl before) = omega (arith, before, inside.0, (area_in_label size number).0)
area_no_label size number i inside (inr after) = omega (arith, after, inside.1, (area_in_label size number).1)

area_off : (size number i : ℕ) → 1048576 ≤ size → number < 4 → (area_place size number ≤ i) × (i < area_place size number + 114688) → IsOffSlots size i
area_off size number i room is_label inside label slot is =
    elim (area_off_slot size number label slot (omega (arith, room)) is_label is) [ inl before ↦ inl (omega (arith, before, inside.1)) | inr after ↦ inr (omega (arith, after, inside.0)) ]

pub relabel_is_free : (trees : Trees) (out : List Bool) (starts : List (List ℕ)) (last : Uberblock) (before : List Uberblock) → AreThere out starts → HaveLabels starts → AreOffLabels trees out starts
    → (which at : ℕ) (bytes : List ℕ) → if_used out (IsRelabel starts) which at bytes → free_writes trees out starts last before which at bytes
relabel_is_free trees out starts last before there room off which at bytes write used i covered =
    let it = write used in
    let size = length (bytes_of starts which) in
    let here : covers (area_place size it.number) 114688 i ≡ true =
    sym (ap (λ (place : ℕ). covers place (length bytes) i) it.place ∙ ap (λ (n : ℕ). covers (area_place size it.number) n i) it.whole) ∙ covered in
    let inside = covered_range (area_place size it.number) 114688 i here in
    record {
      off_slots = area_off size it.number i (room which (there which used)) it.is_label inside;
      off_trees = λ v reached. none_there (trees v.root which i) (λ value is. area_no_label size it.number i inside (off v.root which i value used is it.number it.is_label));
    }
