-- Where slots lie.
use Rattle.std.proofs.Common.{◌≡◌, ◌⊎◌, inl, inr, ◌<◌, ◌≤◌, ℕ, ◌+◌, ◌*◌, ◌∷◌, [], ◌++◌, length, false, ap, arith}
use Rattle.std.proofs.lemmas.Bool.Decides.{nat_tests}
use Rattle.std.proofs.lemmas.List.{length-append}
use Rattle.words.specs.Words.{word_bytes}
use Rattle.words.proofs.WordLemmas.{length-word_bytes}
use Rattle.words.proofs.SealLemmas.{length-sealed}
use Rattle.block_pointer.specs.declared.pointer.BlockPtr.TheVariants as pointers
use Rattle.block_pointer.specs.Pointer.{spelling}
use Rattle.uberblock_ring.specs.declared.uberblock.Uberblock.{Uberblock}
use Rattle.uberblock_ring.specs.Uberblock.{Fits, head_words}
use Rattle.uberblock_ring.specs.Slot.{front_bytes}
use Rattle.uberblock_ring.proofs.Fronts.{length-pointer_that_fits, no_bytes}
use Rattle.model_disk.specs.Contents.{covers}
use Rattle.vdev_label.specs.Place.{label_at}
use Rattle.pool_slots.specs.Slots.{spelled, slot_at, IsSlot, IsOffLabels}

pub labels_apart : (size i j : ℕ) → 4 * 262144 ≤ size → i < j → j < 4 → label_at size i + 262144 ≤ label_at size j
labels_apart size i j room below last = grind (arith, nat_tests)

pub label_within : (size i : ℕ) → 4 * 262144 ≤ size → i < 4 → label_at size i + 262144 ≤ size
label_within size i room last = grind (arith, nat_tests)

pub slot_within : (size label slot : ℕ) → 4 * 262144 ≤ size → IsSlot label slot → slot_at size label slot + 1024 ≤ size
unfolding slot_at
slot_within size label slot room is = omega (arith, label_within size label room is.is_label, is.in_ring)

compared : (i j : ℕ) → (i < j) ⊎ (j < i) ⊎ (i ≡ j)
compared i j = grind arith

pub same_or_not : (i j : ℕ) → (i ≡ j) ⊎ (¬ (i ≡ j))
same_or_not i j = grind arith

-- two slots are one, or share no byte
pub slots_apart : (size label slot label' slot' : ℕ) → 4 * 262144 ≤ size → IsSlot label slot → IsSlot label' slot'
    → ((label ≡ label') × (slot ≡ slot')) ⊎ ((slot_at size label slot + 1024 ≤ slot_at size label' slot') ⊎ (slot_at size label' slot' + 1024 ≤ slot_at size label slot))
unfolding slot_at
slots_apart size label slot label' slot' room is is' =
    elim (compared label label') [
      | inl below ↦ inr (inl (omega (arith, labels_apart size label label' room below is'.is_label, is.in_ring)))
      | inr (inl above) ↦ inr (inr (omega (arith, labels_apart size label' label room above is.is_label, is'.in_ring)))
      | inr (inr same) ↦ elim (compared slot slot') [
        | inl below ↦ inr (inl (omega (arith, ap (label_at size) same)))
        | inr (inl above) ↦ inr (inr (omega (arith, ap (label_at size) same)))
        | inr (inr also) ↦ inl (same, also)
      ]
    ]

-- apart ranges
pub apart_covers : (to n at m : ℕ) → (to + n ≤ at) ⊎ (at + m ≤ to) → (i : ℕ) → i < m → covers to n (at + i) ≡ false
apart_covers to n at m (inl before) i below = grind arith
apart_covers to n at m (inr after) i below = grind arith

length-front : (u : Uberblock) → Fits u → length (front_bytes u) ≡ 984
length-front u fits =
    let head = word_bytes (head_words u) in
    let root = spelling (pointers.Block u.root) in
    let claim = word_bytes (u.claim ∷ []) in
    omega (
      arith,
      length-append head (root ++ (claim ++ (u.config_digest ++ no_bytes))),
      length-append root (claim ++ (u.config_digest ++ no_bytes)),
      length-append claim (u.config_digest ++ no_bytes),
      length-append u.config_digest no_bytes,
      length-word_bytes (head_words u),
      length-pointer_that_fits u fits,
      length-word_bytes (u.claim ∷ []),
      fits.config_digest,
    )

pub length-spelled : (u : Uberblock) → Fits u → length (spelled u) ≡ 1024
unfolding spelled
length-spelled u fits = omega (arith, length-sealed (front_bytes u), length-front u fits)

-- ---- off labels

slot_in_label : (size label slot : ℕ) → IsSlot label slot → (label_at size label ≤ slot_at size label slot) × (slot_at size label slot + 1024 ≤ label_at size label + 262144)
unfolding slot_at
slot_in_label size label slot is = (omega arith, omega (arith, is.in_ring))

-- what is off labels is off their slots
pub off_slot : (size i label slot : ℕ) → IsOffLabels size i → IsSlot label slot → (i < slot_at size label slot) ⊎ (slot_at size label slot + 1024 ≤ i)
off_slot size i label slot off is =
    let in_label = slot_in_label size label slot is in
    elim (off label is.is_label) [ inl before ↦ inl (omega (arith, before, in_label.0)) | inr after ↦ inr (omega (arith, after, in_label.1)) ]

pub range_off_slot : (size at n label slot : ℕ) → (at + n ≤ label_at size label) ⊎ (label_at size label + 262144 ≤ at) → IsSlot label slot
    → (at + n ≤ slot_at size label slot) ⊎ (slot_at size label slot + 1024 ≤ at)
range_off_slot size at n label slot sides is =
    let in_label = slot_in_label size label slot is in
    elim sides [ inl before ↦ inl (omega (arith, before, in_label.0)) | inr after ↦ inr (omega (arith, after, in_label.1)) ]
