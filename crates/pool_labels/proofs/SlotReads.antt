-- What reads of slots tell.
use Rattle.std.proofs.Common.{◌≡◌, inl, inr, ◌<◌, ◌≤◌, ◌∙◌, ℕ, zero, suc, ◌+◌, ◌*◌, ◌/◌, ◌%◌, List, ◌∷◌, length, get_or, Option, Some, None, Ok, Err, refl, sym, ap, subst, arith}
use Rattle.std.specs.Prelude.{Vec}
use Rattle.std.specs.declared.alloc.Global.{Global}
use Rattle.std.proofs.lemmas.Bool.{cases_lt}
use Rattle.std.proofs.lemmas.List.{get_or_past, length-append}
use Rattle.uberblock_ring.specs.Place.{nth_slot_at}
use Rattle.uberblock_ring.specs.Ranking.{Has}
use Rattle.uberblock_ring.specs.Reads.{IsReading, ReadsSlots, size_of, slot_reads}
use Rattle.uberblock_ring.specs.Slot.{SpellsSlot}
use Rattle.uberblock_ring.specs.declared.refusal.Refusal.{Refusal as RingRefusal}
use Rattle.uberblock_ring.specs.declared.refusal.Refusal.TheVariants as ring
use Rattle.uberblock_ring.specs.declared.uberblock.Uberblock.{Uberblock}
use Rattle.model_disk.specs.Call.{FailedRead}
use Rattle.model_disk.specs.Joint.{Disks, on, content}
use Rattle.model_disk.proofs.LawLemmas.{same_bytes}
use Rattle.pool_slots.specs.OpenRefusals.{of_ring}
use Rattle.pool_slots.specs.Reads.{OnlyReads, is_fault}
use Rattle.pool_slots.specs.Slots.{is_disk, spelled, slot_at, IsSlot, Shows}
use Rattle.pool_slots.proofs.Places.{length-spelled}
use Rattle.pool_slots.proofs.ReadRuns.{reads_wider}
use Rattle.pool_slots.proofs.Reading.{AreRead, IsRead, are_read, read_is, slots_not_read}
use Rattle.pool_slots.proofs.Same.{spelled_is}
use Rattle.pool_labels.specs.Scans.{AreReadSlots, IsSlotLost, MakesAtMost}

within : (found : List (Option Uberblock)) (k : ℕ) (u : Uberblock) → Has found k u → k < length found
within found k u has =
    elim (cases_lt k (length found)) [
      | inl less ↦ less
      | inr more ↦ let e : None ≡ Some u = sym (get_or_past found k None more) ∙ has in absurd cc
    ]

says_it : (slot : ℕ) (bytes : List ℕ) (o : Option Uberblock) (v : Uberblock) → IsReading slot bytes o → SpellsSlot slot bytes v → o ≡ Some v
says_it slot bytes None v says spells = absurd (says v spells)
says_it slot bytes (Some u) v says spells = ap (λ (w : Uberblock). Some w) (sym (says.1 v spells))

shown_spells : (held : ℕ → Option ℕ) (place slot : ℕ) (bytes : List ℕ) (u : Uberblock) → IsRead held place bytes → Shows held place slot u → SpellsSlot slot bytes u
shown_spells held place slot bytes u read shows =
    let len : length (spelled u) ≡ 1024 = length-spelled u shows.fits in
    let is : bytes ≡ spelled u = same_bytes bytes (spelled u) (omega (arith, read.len, len)) (λ i below. sym (read.same i (omega (arith, below, len))) ∙ shows.bytes i below) in
    (shows.fits, shows.number, is ∙ sym (spelled_is u))

numbered : (label slot : ℕ) → slot < 128 → ((label * 128 + slot) / 128 ≡ label) × ((label * 128 + slot) % 128 ≡ slot)
numbered label slot below = (omega (arith, below), omega (arith, below))

-- what a slot shows was found in it
shown_has : (old : Disks) (which : ℕ) (found : List (Option Uberblock)) (label slot : ℕ) (v : Uberblock) → AreRead old which found → IsSlot label slot
    → Shows (content old which) (slot_at (size_of old which) label slot) slot v → Has found (label * 128 + slot) v
shown_has old which found label slot v are is shows =
    let k = label * 128 + slot in
    let below : k < 512 = omega (arith, is.is_label, is.in_ring) in
    let at = numbered label slot is.in_ring in
    let P : ℕ → Type 0 = λ l. Shows (content old which) (slot_at (size_of old which) l slot) slot v in
    let Q : ℕ → Type 0 = λ s. Shows (content old which) (slot_at (size_of old which) (k / 128) s) s v in
    let here : Shows (content old which) (slot_at (size_of old which) (k / 128) (k % 128)) (k % 128) v = subst Q (sym at.1) (subst P (sym at.0) shows) in
    says_it (k % 128) (are.bytes k) (get_or found k None) v (are.says k below)
    (shown_spells (content old which) (slot_at (size_of old which) (k / 128) (k % 128)) (k % 128) (are.bytes k) v (are.read k below) here)

-- ---- the slots of a disk

pub slots_scanned : (old new : Disks) (which : ℕ) (found : Vec (Option Uberblock) Global) → 1048576 ≤ size_of old which → new.starts ≡ old.starts → ReadsSlots old new which (Ok found)
    → AreReadSlots old new which found.items
slots_scanned old new which found room starts it =
    record {
      fits = λ k u has.
          let below : k < 512 = omega (arith, within found.items k u has, it.0) in
          let P : Option Uberblock → Type 0 = IsReading (k % 128) (it.1.bytes k) in
          (subst P has (it.1.each k below).1).0.0;
      each = λ k u has known honest. read_is old which found.items k u (are_read old new which found.items room starts it.0 it.1 known honest) has;
      all = λ known honest u shown. (
        shown.label * 128 + shown.slot,
        shown_has old which found.items shown.label shown.slot u (are_read old new which found.items room starts it.0 it.1 known honest) shown.is_slot shown.shows,
      );
    }

pub slots_lost : (old new : Disks) (which : ℕ) → ReadsSlots old new which (Err ring.DiskFault) → IsSlotLost old new which
slots_lost old new which it =
    let size = size_of old which in
    let call = on which (FailedRead (nth_slot_at size it.0) 1024) in
    record {
      number = it.0;
      is_slot = it.1;
      made = record { newer = call ∷ slot_reads which size it.2.bytes it.0; calls = it.2.calls; has = (0, omega arith, refl) };
    }

pub only_slots : (old new : Disks) (which : ℕ) (cause : RingRefusal) → new.starts ≡ old.starts → ReadsSlots old new which (Err cause)
    → OnlyReads (is_disk which) (λ w. Unit {0}) old new
only_slots old new which cause starts it =
    reads_wider (is_disk which) (is_disk which) (is_fault (of_ring which cause)) (λ w. Unit {0}) old new (λ w here. here) (λ w fault. tt) (slots_not_read old new which cause starts it)

-- ---- how often

counted : (which size : ℕ) (bytes : ℕ → List ℕ) (n : ℕ) → length (slot_reads which size bytes n) ≡ n
counted which size bytes zero = refl
counted which size bytes (suc n) = ap (λ m. suc m) (counted which size bytes n)

pub slots_few : (old new : Disks) (which : ℕ) → ReadsSlots old new which (Err ring.DiskFault) → MakesAtMost 512 old new
slots_few old new which it =
    let reads = slot_reads which (size_of old which) it.2.bytes it.0 in
    omega (arith, it.1, ap length it.2.calls, length-append reads old.calls, counted which (size_of old which) it.2.bytes it.0)
