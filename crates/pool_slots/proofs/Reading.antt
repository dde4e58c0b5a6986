-- What reads of slots tell.
use Rattle.std.proofs.Common.{◌≡◌, inl, inr, ◌<◌, ◌≤◌, ◌∙◌, ℕ, zero, suc, ◌+◌, ◌*◌, ◌/◌, ◌%◌, List, [], ◌∷◌, ◌++◌, length, slice_get, get_or, Option, Some, None, All, Ok, Err, IfSome, IfNone, refl, sym, ap, subst, arith}
use Rattle.std.specs.Prelude.{Vec}
use Rattle.std.specs.declared.alloc.Global.{Global}
use Rattle.std.proofs.lemmas.Bool.{cases_lt}
use Rattle.std.proofs.lemmas.List.{length-append, get_or_past}
use Rattle.std.proofs.lemmas.List.Elements.{All-nil, All-cons}
use Rattle.uberblock_ring.specs.Place.{nth_slot_at}
use Rattle.uberblock_ring.specs.Ranking.{Has, IsRewound}
use Rattle.uberblock_ring.specs.Reads.{slot_reads, size_of, HasRead, HasFailedAt, IsReading, ReadsSlots}
use Rattle.uberblock_ring.specs.Slot.{SpellsSlot}
use Rattle.uberblock_ring.specs.Uberblock.{Fits}
use Rattle.uberblock_ring.specs.declared.refusal.Refusal.{Refusal as RingRefusal}
use Rattle.uberblock_ring.specs.declared.refusal.Refusal.TheVariants as ring
use Rattle.uberblock_ring.specs.declared.uberblock.Uberblock.{Uberblock}
use Rattle.model_disk.specs.Call.{Read, FailedRead}
use Rattle.model_disk.specs.Joint.{JointCall, Disks, on, content, AreHonestSince}
use Rattle.model_disk.specs.Runs.{Makes, no_write}
use Rattle.pool_slots.proofs.Failing.{fails_now, fails_later}
use Rattle.pool_slots.specs.Failures.{HasFailedOn}
use Rattle.model_disk.proofs.LawLemmas.{same_bytes}
use Rattle.pool_slots.specs.OpenRefusals.{of_ring}
use Rattle.pool_slots.specs.Opens.{IsKnown, HasHighest, IsHighest, IsReadOn, IsBareOn, FindsOn, FindsRewoundOn}
use Rattle.pool_slots.specs.Reads.{IsReadOf, OnlyReads, nowhere, is_fault}
use Rattle.pool_slots.specs.Slots.{is_disk, spelled, slot_at, IsSlot, Shows}
use Rattle.pool_slots.specs.declared.found.Found.{Found}
use Rattle.pool_slots.specs.declared.refusal.Refusal.TheVariants.{DiskFault}
use Rattle.pool_slots.proofs.Phases.{none_same}
use Rattle.pool_slots.proofs.ReadRuns.{reads_made}
use Rattle.pool_slots.proofs.Places.{length-spelled, slot_within}
use Rattle.pool_slots.proofs.Same.{spelled_is, slot_at_is}

-- ---- what was read

slots_are_read : (faulty : ℕ → Type 0) (which size : ℕ) (bytes : ℕ → List ℕ) (n : ℕ) → All (IsReadOf (is_disk which) faulty) (slot_reads which size bytes n)
slots_are_read faulty which size bytes zero = All-nil (IsReadOf (is_disk which) faulty)
slots_are_read faulty which size bytes (suc n) =
    All-cons (IsReadOf (is_disk which) faulty) (on which (Read (nth_slot_at size n) (bytes n))) (slot_reads which size bytes n) (refl, tt) (slots_are_read faulty which size bytes n)

reads_run : (faulty : ℕ → Type 0) (old new : Disks) (which : ℕ) (bytes : ℕ → List ℕ) (n : ℕ) → new.starts ≡ old.starts → new.calls ≡ slot_reads which (size_of old which) bytes n ++ old.calls
    → OnlyReads (is_disk which) faulty old new
reads_run faulty old new which bytes n starts calls =
    record { starts = starts; newer = slot_reads which (size_of old which) bytes n; calls = calls; reads = slots_are_read faulty which (size_of old which) bytes n }

failed_run : (old new : Disks) (which n : ℕ) → new.starts ≡ old.starts → HasFailedAt old new which n → OnlyReads (is_disk which) (is_fault (DiskFault which)) old new
failed_run old new which n starts failed =
    let size = size_of old which in
    let call = FailedRead (nth_slot_at size n) 1024 in
    let P : JointCall → Type 0 = IsReadOf (is_disk which) (is_fault (DiskFault which)) in
    record {
      starts = starts;
      newer = on which call ∷ slot_reads which size failed.bytes n;
      calls = failed.calls;
      reads = All-cons P (on which call) (slot_reads which size failed.bytes n) (refl, refl) (slots_are_read (is_fault (DiskFault which)) which size failed.bytes n);
    }

pub slots_read : (old new : Disks) (which : ℕ) (found : Vec (Option Uberblock) Global) → new.starts ≡ old.starts → ReadsSlots old new which (Ok found) → OnlyReads (is_disk which) nowhere old new
slots_read old new which found starts it = reads_run nowhere old new which it.1.bytes 512 starts it.1.calls

pub slots_not_read : (old new : Disks) (which : ℕ) (cause : RingRefusal) → new.starts ≡ old.starts → ReadsSlots old new which (Err cause)
    → OnlyReads (is_disk which) (is_fault (of_ring which cause)) old new
slots_not_read old new which ring.DiskFault starts it = failed_run old new which it.0 starts it.2
slots_not_read old new which ring.NoMemory starts it = reads_run nowhere old new which (λ i. []) 0 starts it
slots_not_read old new which ring.NoUberblock starts it = absurd it

fault_seen : (old new : Disks) (which n : ℕ) → HasFailedAt old new which n → HasFailedOn old new which
fault_seen old new which n failed =
    let size = size_of old which in
    let mid : Disks = record { starts = old.starts; calls = slot_reads which size failed.bytes n ++ old.calls } in
    fails_later no_write old mid new (reads_made (reads_run nowhere old mid which failed.bytes n refl refl)) which
    (fails_now mid new which (FailedRead (nth_slot_at size n) 1024) failed.calls refl)

-- why the slots of a disk are not read
pub slots_refused : (old new : Disks) (which : ℕ) (cause : RingRefusal) → ReadsSlots old new which (Err cause) → FindsOn old new which (Err (of_ring which cause))
slots_refused old new which ring.DiskFault it = fault_seen old new which it.0 it.2
slots_refused old new which ring.NoMemory it = tt
slots_refused old new which ring.NoUberblock it = absurd it

-- ---- what they give

pub longer : (old new : Disks) (may : ℕ → ℕ → List ℕ → Type 0) → Makes may old new → length old.calls ≤ length new.calls
longer old new may makes = omega (arith, ap length makes.calls, length-append makes.newer old.calls)

read_agrees : (old : Disks) (which : ℕ) (bytes : ℕ → List ℕ) (n : ℕ) → AreHonestSince (length old.calls) old.starts (slot_reads which (size_of old which) bytes (suc n) ++ old.calls)
    → (i value : ℕ) → i < length (bytes n) → content old which (nth_slot_at (size_of old which) n + i) ≡ Some value → slice_get (bytes n) i ≡ Some value
read_agrees old which bytes n honest i value below known =
    let size = size_of old which in
    let mid : Disks = record { starts = old.starts; calls = slot_reads which size bytes n ++ old.calls } in
    let makes = reads_made (reads_run nowhere old mid which bytes n refl refl) in
    honest.0 (longer old mid no_write makes) i value below (none_same old mid which (nth_slot_at size n + i) makes ∙ known)

reads_agree : (old : Disks) (which : ℕ) (bytes : ℕ → List ℕ) (n : ℕ) → AreHonestSince (length old.calls) old.starts (slot_reads which (size_of old which) bytes n ++ old.calls)
    → (k : ℕ) → k < n → (i value : ℕ) → i < length (bytes k) → content old which (nth_slot_at (size_of old which) k + i) ≡ Some value → slice_get (bytes k) i ≡ Some value
reads_agree old which bytes zero honest k below i value inside known = absurd (omega (arith, below))
reads_agree old which bytes (suc n) honest k below i value inside known =
    elim (cases_lt k n) [
      | inl earlier ↦ reads_agree old which bytes n honest.1 k earlier i value inside known
      | inr last ↦
          let same : n ≡ k = omega (arith, below, last) in
          let P : ℕ → Type 0 = λ m. (j v : ℕ) → j < length (bytes m) → content old which (nth_slot_at (size_of old which) m + j) ≡ Some v → slice_get (bytes m) j ≡ Some v in
          subst P same (read_agrees old which bytes n honest) i value inside known
    ]

-- a slot and the bytes that were read of it
pub record IsRead (held : ℕ → Option ℕ) (place : ℕ) (bytes : List ℕ) : Type 0 where
  pub len : length bytes ≡ 1024
  pub same : (i : ℕ) → i < 1024 → held (place + i) ≡ slice_get bytes i

spells_shown : (held : ℕ → Option ℕ) (place slot : ℕ) (bytes : List ℕ) (u : Uberblock) → IsRead held place bytes → Shows held place slot u → SpellsSlot slot bytes u
spells_shown held place slot bytes u read shows =
    let len : length (spelled u) ≡ 1024 = length-spelled u shows.fits in
    let is : bytes ≡ spelled u = same_bytes bytes (spelled u) (omega (arith, read.len, len)) (λ i below. sym (read.same i (omega (arith, below, len))) ∙ shows.bytes i below) in
    (shows.fits, shows.number, is ∙ sym (spelled_is u))

shows_spelled : (held : ℕ → Option ℕ) (place slot : ℕ) (bytes : List ℕ) (u : Uberblock) → IsRead held place bytes → SpellsSlot slot bytes u → Shows held place slot u
shows_spelled held place slot bytes u read spells =
    let len : length (spelled u) ≡ 1024 = length-spelled u spells.0 in
    record {
      fits = spells.0;
      number = spells.1;
      bytes = λ i below. read.same i (omega (arith, below, len)) ∙ ap (λ (b : List ℕ). slice_get b i) (spells.2 ∙ spelled_is u);
    }

some_same : (a : Option ℕ) (value : ℕ) (b : Option ℕ) → a ≡ Some value → b ≡ Some value → a ≡ b
some_same a value b is also = is ∙ sym also

pub slot_of_number : (k : ℕ) → k < 512 → IsSlot (k / 128) (k % 128)
slot_of_number k below = record { is_label = omega (arith, below); in_ring = omega arith }

-- the slot of that number, as it was read
pub record AreRead (old : Disks) (which : ℕ) (found : List (Option Uberblock)) : Type 0 where
  pub count : length found ≡ 512
  pub bytes : ℕ → List ℕ
  pub read : (k : ℕ) → k < 512 → IsRead (content old which) (slot_at (size_of old which) (k / 128) (k % 128)) (bytes k)
  pub says : (k : ℕ) → k < 512 → IsReading (k % 128) (bytes k) (get_or found k None)

pub are_read : (old new : Disks) (which : ℕ) (found : List (Option Uberblock)) → 1048576 ≤ size_of old which → new.starts ≡ old.starts → length found ≡ 512 → HasRead old new which 512 found
    → IsKnown old which → AreHonestSince (length old.calls) new.starts new.calls → AreRead old which found
are_read old new which found room starts count it known honest =
    let size = size_of old which in
    let P : List (List ℕ) → Type 0 = λ them. AreHonestSince (length old.calls) them new.calls in
    let Q : List JointCall → Type 0 = AreHonestSince (length old.calls) old.starts in
    let honest' : AreHonestSince (length old.calls) old.starts (slot_reads which size it.bytes 512 ++ old.calls) = subst Q it.calls (subst P starts honest) in
    record {
      count = count;
      bytes = it.bytes;
      read = λ k below. record {
        len = (it.each k below).0;
        same = λ i inside.
            let is = slot_of_number k below in
            let here = slot_at size (k / 128) (k % 128) + i in
            let there = known here (omega (arith, inside, slot_within size (k / 128) (k % 128) (omega (arith, room)) is)) in
            let R : ℕ → Type 0 = λ n. content old which (n + i) ≡ Some there.0 in
            some_same (content old which here) there.0 (slice_get (it.bytes k) i) there.1
            (reads_agree old which it.bytes 512 honest' k below i there.0 (omega (arith, inside, (it.each k below).0)) (subst R (sym (slot_at_is size (k / 128) (k % 128))) there.1));
      };
      says = λ k below. (it.each k below).1;
    }

says_some : (slot : ℕ) (bytes : List ℕ) (o : Option Uberblock) (u : Uberblock) → IsReading slot bytes o → o ≡ Some u
    → SpellsSlot slot bytes u × ((v : Uberblock) → SpellsSlot slot bytes v → v ≡ u)
says_some slot bytes o u says is = let P : Option Uberblock → Type 0 = IsReading slot bytes in subst P is says

says_it : (slot : ℕ) (bytes : List ℕ) (o : Option Uberblock) (v : Uberblock) → IsReading slot bytes o → SpellsSlot slot bytes v → o ≡ Some v
says_it slot bytes None v says spells = absurd (says v spells)
says_it slot bytes (Some u) v says spells = ap (λ (w : Uberblock). Some w) (sym (says.1 v spells))

within : (found : List (Option Uberblock)) (k : ℕ) (u : Uberblock) → Has found k u → k < length found
within found k u has =
    elim (cases_lt k (length found)) [
      | inl less ↦ less
      | inr more ↦ let e : None ≡ Some u = sym (get_or_past found k None more) ∙ has in absurd cc
    ]

numbered : (label slot : ℕ) → slot < 128 → ((label * 128 + slot) / 128 ≡ label) × ((label * 128 + slot) % 128 ≡ slot)
numbered label slot below = (omega (arith, below), omega (arith, below))

-- what a slot shows was found in it
shown_found : (old : Disks) (which : ℕ) (found : List (Option Uberblock)) (label slot : ℕ) (v : Uberblock) → AreRead old which found → IsSlot label slot
    → Shows (content old which) (slot_at (size_of old which) label slot) slot v → Has found (label * 128 + slot) v
shown_found old which found label slot v are is shows =
    let k = label * 128 + slot in
    let below : k < 512 = omega (arith, is.is_label, is.in_ring) in
    let at = numbered label slot is.in_ring in
    let P : ℕ → Type 0 = λ l. Shows (content old which) (slot_at (size_of old which) l slot) slot v in
    let Q : ℕ → Type 0 = λ s. Shows (content old which) (slot_at (size_of old which) (k / 128) s) s v in
    let here : Shows (content old which) (slot_at (size_of old which) (k / 128) (k % 128)) (k % 128) v = subst Q (sym at.1) (subst P (sym at.0) shows) in
    says_it (k % 128) (are.bytes k) (get_or found k None) v (are.says k below)
    (spells_shown (content old which) (slot_at (size_of old which) (k / 128) (k % 128)) (k % 128) (are.bytes k) v (are.read k below) here)

pub highest_is : (old : Disks) (which : ℕ) (slots : List (Option Uberblock)) (found : Found) → AreRead old which slots → HasHighest slots found
    → IsHighest (size_of old which) (content old which) found
highest_is old which slots found are it =
    let k = it.number in
    let below : k < 512 = omega (arith, within slots k found.uberblock it.has, are.count) in
    let says = says_some (k % 128) (are.bytes k) (get_or slots k None) found.uberblock (are.says k below) it.has in
    let place = slot_at (size_of old which) (k / 128) (k % 128) in
    record {
      label = k / 128;
      slot = k % 128;
      is_slot = slot_of_number k below;
      shows = shows_spelled (content old which) place (k % 128) (are.bytes k) found.uberblock (are.read k below) says.0;
      alone = λ v shown. says.1 v (spells_shown (content old which) place (k % 128) (are.bytes k) v (are.read k below) shown);
      half = it.half;
      greatest = λ label slot is v shown. it.greatest (label * 128 + slot) v (shown_found old which slots label slot v are is shown);
    }

pub bare_is : (old : Disks) (which : ℕ) (slots : List (Option Uberblock)) → AreRead old which slots → ((k : ℕ) (u : Uberblock) → ¬ Has slots k u)
    → IsBareOn (size_of old which) (content old which)
bare_is old which slots are none label slot is u shown = none (label * 128 + slot) u (shown_found old which slots label slot u are is shown)

-- what was found has a spelling
pub found_fits : (old new : Disks) (which : ℕ) (slots : List (Option Uberblock)) (found : Found) → length slots ≡ 512 → HasRead old new which 512 slots → HasHighest slots found → Fits found.uberblock
found_fits old new which slots found count read it =
    let k = it.number in
    let below : k < 512 = omega (arith, within slots k found.uberblock it.has, count) in
    (says_some (k % 128) (read.bytes k) (get_or slots k None) found.uberblock (read.each k below).1 it.has).0.0

-- what is found in the slots, or that nothing is
pub finds_highest : (old new : Disks) (which : ℕ) (slots : Vec (Option Uberblock) Global) (found : Option Found) → 1048576 ≤ size_of old which → new.starts ≡ old.starts
    → ReadsSlots old new which (Ok slots) → IfSome found (HasHighest slots.items) → IfNone found ((k : ℕ) (u : Uberblock) → ¬ Has slots.items k u) → FindsOn old new which (Ok found)
finds_highest old new which slots None room starts it some none = λ known honest. bare_is old which slots.items (are_read old new which slots.items room starts it.0 it.1 known honest) none
finds_highest old new which slots (Some found) room starts it some none = (
  found_fits old new which slots.items found it.0 it.1 some,
  λ known honest. highest_is old which slots.items found (are_read old new which slots.items room starts it.0 it.1 known honest) some,
)

-- ---- going back

-- why they are not
pub slots_refused_back : (old new : Disks) (which : ℕ) (from : Uberblock) (groups : ℕ) (cause : RingRefusal) → ReadsSlots old new which (Err cause)
    → FindsRewoundOn from groups old new which (Err (of_ring which cause))
slots_refused_back old new which from groups ring.DiskFault it = fault_seen old new which it.0 it.2
slots_refused_back old new which from groups ring.NoMemory it = tt
slots_refused_back old new which from groups ring.NoUberblock it = absurd it

-- what was found in a slot is shown, and no other
pub read_is : (old : Disks) (which : ℕ) (slots : List (Option Uberblock)) (k : ℕ) (u : Uberblock) → AreRead old which slots → Has slots k u → IsReadOn (size_of old which) (content old which) u
read_is old which slots k u are has =
    let below : k < 512 = omega (arith, within slots k u has, are.count) in
    let says = says_some (k % 128) (are.bytes k) (get_or slots k None) u (are.says k below) has in
    let place = slot_at (size_of old which) (k / 128) (k % 128) in
    record {
      on = record {
        label = k / 128;
        slot = k % 128;
        is_slot = slot_of_number k below;
        shows = shows_spelled (content old which) place (k % 128) (are.bytes k) u (are.read k below) says.0;
      };
      alone = λ v shown. says.1 v (spells_shown (content old which) place (k % 128) (are.bytes k) v (are.read k below) shown);
    }

pub finds_rewound : (old new : Disks) (which : ℕ) (slots : Vec (Option Uberblock) Global) (from : Uberblock) (groups : ℕ) (found : Option Uberblock) → 1048576 ≤ size_of old which
    → new.starts ≡ old.starts → ReadsSlots old new which (Ok slots) → IfSome found (IsRewound from groups) → IfSome found (λ u. (i : ℕ) × Has slots.items i u)
    → IfNone found ((i : ℕ) (u : Uberblock) → Has slots.items i u → ¬ IsRewound from groups u) → FindsRewoundOn from groups old new which (Ok found)
finds_rewound old new which slots from groups None room starts it some there none = λ v known honest shown.
    none (shown.label * 128 + shown.slot) v (shown_found old which slots.items shown.label shown.slot v (are_read old new which slots.items room starts it.0 it.1 known honest) shown.is_slot shown.shows)
finds_rewound old new which slots from groups (Some u) room starts it some there none =
    let below : there.0 < 512 = omega (arith, within slots.items there.0 u there.1, it.0) in (
      some,
      (says_some (there.0 % 128) (it.1.bytes there.0) (get_or slots.items there.0 None) u (it.1.each there.0 below).1 there.1).0.0,
      λ known honest. read_is old which slots.items there.0 u (are_read old new which slots.items room starts it.0 it.1 known honest) there.1,
    )
