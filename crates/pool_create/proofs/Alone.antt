-- Disks that show one uberblock and no other.
use Rattle.std.proofs.Common.{◌≡◌, inl, inr, ◌<◌, ◌≤◌, ◌∙◌, ℕ, ◌+◌, ◌*◌, ◌/◌, ◌%◌, List, length, get_or, Option, Some, None, Ok, Err, refl, sym, ap, subst, arith}
use Rattle.std.specs.Prelude.{Vec}
use Rattle.std.specs.declared.alloc.Global.{Global}
use Rattle.std.proofs.lemmas.Bool.{cases_lt}
use Rattle.std.proofs.lemmas.List.{get_or_past}
use Rattle.model_disk.specs.Joint.{Disks, content}
use Rattle.model_disk.specs.Runs.{Makes, no_write}
use Rattle.model_disk.proofs.LawLemmas.{same_bytes}
use Rattle.model_disk.proofs.RunLemmas.{Makes-none}
use Rattle.pool_format.specs.Blank.{IsToldOf, isnt}
use Rattle.pool_format.proofs.Blanks.{told_more, told_since}
use Rattle.pool_open.specs.declared.refusal.Refusal.{Refusal}
use Rattle.pool_slots.specs.Slots.{IsSlot, Shows, slot_at, spelled}
use Rattle.pool_slots.proofs.Failing.{fails_later}
use Rattle.pool_slots.proofs.Places.{length-spelled}
use Rattle.pool_slots.proofs.Reading.{AreRead, IsRead, are_read, read_is, slots_refused}
use Rattle.pool_slots.proofs.Same.{spelled_is}
use Rattle.uberblock_ring.specs.Ranking.{Has}
use Rattle.uberblock_ring.specs.Reads.{IsReading, ReadsSlots, size_of}
use Rattle.uberblock_ring.specs.Slot.{SpellsSlot}
use Rattle.uberblock_ring.specs.Uberblock.{Fits}
use Rattle.uberblock_ring.specs.declared.refusal.Refusal.{Refusal as RingRefusal}
use Rattle.uberblock_ring.specs.declared.refusal.Refusal.TheVariants as ring
use Rattle.uberblock_ring.specs.declared.uberblock.Uberblock.{Uberblock}
use Rattle.pool_create.specs.Alone.{AreReadAlone, HaveAlone, IsReadAlone, IsRefusedAlone, IsRefusedOn, ShowsAlone, of_ring}

-- ---- what slots have and show

spells_shown : (held : ℕ → Option ℕ) (place slot : ℕ) (bytes : List ℕ) (u : Uberblock) → IsRead held place bytes → Shows held place slot u → SpellsSlot slot bytes u
spells_shown held place slot bytes u read shows =
    let len : length (spelled u) ≡ 1024 = length-spelled u shows.fits in
    let is : bytes ≡ spelled u = same_bytes bytes (spelled u) (omega (arith, read.len, len)) (λ i below. sym (read.same i (omega (arith, below, len))) ∙ shows.bytes i below) in
    (shows.fits, shows.number, is ∙ sym (spelled_is u))

says_it : (slot : ℕ) (bytes : List ℕ) (o : Option Uberblock) (v : Uberblock) → IsReading slot bytes o → SpellsSlot slot bytes v → o ≡ Some v
says_it slot bytes None v says spells = absurd (says v spells)
says_it slot bytes (Some u) v says spells = ap (λ (w : Uberblock). Some w) (sym (says.1 v spells))

numbered : (label slot : ℕ) → slot < 128 → ((label * 128 + slot) / 128 ≡ label) × ((label * 128 + slot) % 128 ≡ slot)
numbered label slot below = (omega (arith, below), omega (arith, below))

-- what a slot shows was found in it
shown_found : (old : Disks) (which : ℕ) (found : List (Option Uberblock)) (label slot : ℕ) (v : Uberblock) → AreRead old which found → IsSlot label slot
    → Shows (content old which) (slot_at (size_of old which) label slot) slot v → Has found (label * 128 + slot) v
shown_found old which found label slot v are is shows =
    let k = label * 128 + slot in
    let below : k < 512 = omega (arith, is.is_label, is.in_ring) in
    let at = numbered label slot is.in_ring in
    let P : ℕ → Type 0 = λ l. Shows (content old which) (slot_at (size_of old which) l slot) slot v in
    let Q : ℕ → Type 0 = λ s. Shows (content old which) (slot_at (size_of old which) (k / 128) s) s v in
    let here : Shows (content old which) (slot_at (size_of old which) (k / 128) (k % 128)) (k % 128) v = subst Q (sym at.1) (subst P (sym at.0) shows) in
    says_it (k % 128) (are.bytes k) (get_or found k None) v (are.says k below)
    (spells_shown (content old which) (slot_at (size_of old which) (k / 128) (k % 128)) (k % 128) (are.bytes k) v (are.read k below) here)

-- slots of which one is had alone show it alone
alone_shown : (old : Disks) (which : ℕ) (found : List (Option Uberblock)) (u : Uberblock) → AreRead old which found → HaveAlone found u → ShowsAlone u (size_of old which) (content old which)
alone_shown old which found u are have = record {
  only = λ label slot v is shows. have.only (label * 128 + slot) v (shown_found old which found label slot v are is shows);
  on = (read_is old which found have.number u are have.there).on;
}

-- and those that show it alone have it alone
shown_alone : (old : Disks) (which : ℕ) (found : List (Option Uberblock)) (u : Uberblock) → AreRead old which found → ShowsAlone u (size_of old which) (content old which) → HaveAlone found u
shown_alone old which found u are shows = record {
  only = λ i v has. let on = (read_is old which found i v are has).on in shows.only on.label on.slot v on.is_slot on.shows;
  number = shows.on.label * 128 + shows.on.slot;
  there = shown_found old which found shows.on.label shows.on.slot u are shows.on.is_slot shows.on.shows;
}

-- ---- one disk

within : (found : List (Option Uberblock)) (k : ℕ) (u : Uberblock) → Has found k u → k < length found
within found k u has =
    elim (cases_lt k (length found)) [
      | inl less ↦ less
      | inr more ↦ let e : None ≡ Some u = sym (get_or_past found k None more) ∙ has in absurd cc
    ]

says_fits : (slot : ℕ) (bytes : List ℕ) (o : Option Uberblock) (u : Uberblock) → IsReading slot bytes o → o ≡ Some u → Fits u
says_fits slot bytes o u says is = let P : Option Uberblock → Type 0 = IsReading slot bytes in (subst P is says).0.0

pub read_alone : (old new : Disks) (which : ℕ) (found : Vec (Option Uberblock) Global) (u : Uberblock) → 1048576 ≤ size_of old which → new.starts ≡ old.starts
    → ReadsSlots old new which (Ok found) → HaveAlone found.items u → IsReadAlone u old new which
read_alone old new which found u room starts it have =
    let k = have.number in
    let below : k < 512 = omega (arith, within found.items k u have.there, it.0) in (
      says_fits (k % 128) (it.1.bytes k) (get_or found.items k None) u (it.1.each k below).1 have.there,
      λ known honest. alone_shown old which found.items u (are_read old new which found.items room starts it.0 it.1 known honest) have,
    )

pub read_crowded : (old new : Disks) (which : ℕ) (found : Vec (Option Uberblock) Global) (u : Uberblock) → 1048576 ≤ size_of old which → new.starts ≡ old.starts
    → ReadsSlots old new which (Ok found) → ¬ HaveAlone found.items u → IsToldOf (isnt (ShowsAlone u)) old new which
read_crowded old new which found u room starts it none = λ known honest shows.
    none (shown_alone old which found.items u (are_read old new which found.items room starts it.0 it.1 known honest) shows)

pub not_read : (old new : Disks) (which : ℕ) (u : Uberblock) (cause : RingRefusal) → ReadsSlots old new which (Err cause) → IsRefusedOn u old new which (of_ring cause)
not_read old new which u ring.NoMemory it = inl refl
not_read old new which u ring.DiskFault it = inr (inl (refl, slots_refused old new which ring.DiskFault it))
not_read old new which u ring.NoUberblock it = absurd it

-- ---- all disks

pub none_made : (disks : Disks) → Makes no_write disks disks
none_made disks = Makes-none no_write disks

-- the disks below this number
pub record AreAloneTo (u : Uberblock) (first loop : Disks) (n : ℕ) : Type 0 where
  pub only : Makes no_write first loop
  pub alone : (which : ℕ) → which < n → IsReadAlone u first loop which

alone_more : (u : Uberblock) (first loop new : Disks) (which : ℕ) → Makes no_write loop new → IsReadAlone u first loop which → IsReadAlone u first new which
alone_more u first loop new which makes it = (it.0, told_more (ShowsAlone u) first loop new which makes it.1)

alone_since : (u : Uberblock) (first loop new : Disks) (which : ℕ) → Makes no_write first loop → IsReadAlone u loop new which → IsReadAlone u first new which
alone_since u first loop new which makes it = (it.0, told_since (ShowsAlone u) first loop new which makes it.1)

-- one disk more
pub alone_next : (u : Uberblock) (first loop new : Disks) (n k : ℕ) → AreAloneTo u first loop n → Makes no_write loop new → IsReadAlone u loop new n → k < n + 1 → IsReadAlone u first new k
alone_next u first loop new n k before makes here below =
    elim (cases_lt k n) [
      | inl less ↦ alone_more u first loop new k makes (before.alone k less)
      | inr last ↦
          let same : n ≡ k = omega (arith, last, below) in
          let P : ℕ → Type 0 = λ w. IsReadAlone u first new w in
          subst P same (alone_since u first loop new n before.only here)
    ]

-- why a disk is refused after reads of others
pub refused_since : (u : Uberblock) (first loop new : Disks) (which : ℕ) (refusal : Refusal) → Makes no_write first loop → IsRefusedOn u loop new which refusal → IsRefusedOn u first new which refusal
refused_since u first loop new which refusal makes (inl memory) = inl memory
refused_since u first loop new which refusal makes (inr (inl fault)) = inr (inl (fault.0, fails_later no_write first loop new makes which fault.1))
refused_since u first loop new which refusal makes (inr (inr crowded)) = inr (inr (crowded.0, told_since (isnt (ShowsAlone u)) first loop new which makes crowded.1))

pub all_refused_since : (u : Uberblock) (first loop new : Disks) (refusal : Refusal) → Makes no_write first loop → IsRefusedAlone u loop new refusal → IsRefusedAlone u first new refusal
all_refused_since u first loop new refusal makes it =
    let P : List (List ℕ) → Type 0 = λ starts. it.0 < length starts in
    (it.0, subst P makes.starts it.1, refused_since u first loop new it.0 refusal makes it.2)

pub all_alone_since : (u : Uberblock) (first loop new : Disks) → Makes no_write first loop → AreReadAlone u loop new → AreReadAlone u first new
all_alone_since u first loop new makes all which below =
    let P : List (List ℕ) → Type 0 = λ starts. which < length starts in
    alone_since u first loop new which makes (all which (subst P (sym makes.starts) below))

pub all_alone_more : (u : Uberblock) (first loop new : Disks) → Makes no_write loop new → AreReadAlone u first loop → AreReadAlone u first new
all_alone_more u first loop new makes all which below = alone_more u first loop new which makes (all which below)
