-- What was scanned, in parts of a run of reads.
use Rattle.std.proofs.Common.{◌≡◌, ◌⊎◌, inl, inr, ◌≤◌, ◌∙◌, ℕ, zero, suc, ◌+◌, ◌&&◌, Bool, true, false, nat_le, if◌then◌else◌, List, [], ◌∷◌, ◌++◌, length, Option, Contains, refl, sym, ap, subst, arith}
use Rattle.std.proofs.lemmas.Bool.Decides.{nat_tests}
use Rattle.std.proofs.lemmas.List.{append_assoc, length-append}
use Rattle.std.proofs.lemmas.List.Elements.{Contains-append_left, Contains-append_right, Contains-append_cases}
use Rattle.model_disk.specs.Call.{Call, FailedRead, is_failed}
use Rattle.model_disk.specs.Joint.{JointCall, Disks, on, bytes_of, content, failed_since, AreHonestSince}
use Rattle.model_disk.specs.Runs.{Makes, no_write}
use Rattle.model_disk.proofs.FailureLemmas.{failed_first, kept_through}
use Rattle.uberblock_ring.specs.Place.{nth_slot_at}
use Rattle.uberblock_ring.specs.declared.uberblock.Uberblock.{Uberblock}
use Rattle.vdev_label.specs.Plain.{label_view}
use Rattle.pool_slots.specs.Failures.{HasFailedOn}
use Rattle.pool_slots.specs.Labels.{area_place}
use Rattle.pool_slots.specs.Opens.{IsShownOn, IsReadOn}
use Rattle.pool_slots.specs.Slots.{slot_at}
use Rattle.pool_slots.proofs.Finding.{known_on, honest_before, honest_since}
use Rattle.pool_slots.proofs.LabelScans.{label_same}
use Rattle.pool_slots.proofs.OneDisk.{shows_same}
use Rattle.pool_slots.proofs.Phases.{none_same}
use Rattle.pool_slots.proofs.Reading.{longer}
use Rattle.pool_labels.specs.Scans.{HasMade, IsReadingOf, IsSoundReading, IsScannedLabel, IsSlotLost, IsScannedSlot, HasAllSlots}
use Rattle.pool_labels.specs.declared.scanned.Reading.{Reading}
use Rattle.pool_labels.specs.declared.scanned.Reading.TheVariants.{Valid, Bad, Unreadable}
use Rattle.pool_labels.specs.declared.scanned.ScannedLabel.{ScannedLabel}

-- ---- calls that were made

made_more : (first loop new : Disks) (made : JointCall) → Makes no_write loop new → HasMade first loop made → HasMade first new made
made_more first loop new made makes it =
    record {
      newer = makes.newer ++ it.newer;
      calls = makes.calls ∙ ap (λ (rest : List JointCall). makes.newer ++ rest) it.calls ∙ sym (append_assoc makes.newer it.newer first.calls);
      has = Contains-append_right makes.newer it.newer made it.has;
    }

made_since : (first loop new : Disks) (made : JointCall) → Makes no_write first loop → HasMade loop new made → HasMade first new made
made_since first loop new made makes it =
    record {
      newer = it.newer ++ makes.newer;
      calls = it.calls ∙ ap (λ (rest : List JointCall). it.newer ++ rest) makes.calls ∙ sym (append_assoc it.newer makes.newer first.calls);
      has = Contains-append_left it.newer makes.newer made it.has;
    }

contains_failed : (n : ℕ) (newer calls : List JointCall) (which : ℕ) (call : Call) → n ≤ length calls → Contains newer (on which call) → is_failed call ≡ true
    → Contains (failed_since n (newer ++ calls)) which
contains_failed n [] calls which call le (k, below, is) failed = absurd (omega (arith, below))
contains_failed n (made ∷ newer) calls which call le (zero, below, is) failed =
    let P : JointCall → Type 0 = λ it. Contains (failed_since n (it ∷ (newer ++ calls))) which in
    subst P (sym is) (failed_first n which call (newer ++ calls) (omega (arith, le, length-append newer calls)) failed)
contains_failed n (made ∷ newer) calls which call le (suc k, below, is) failed =
    kept_through n (made ∷ []) (newer ++ calls) which (contains_failed n newer calls which call le (k, omega (arith, below), is) failed)

-- a call that failed was made, so the disk failed
pub made_failed : (old new : Disks) (which : ℕ) (call : Call) → HasMade old new (on which call) → is_failed call ≡ true → HasFailedOn old new which
made_failed old new which call it failed =
    let P : List JointCall → Type 0 = λ them. Contains (failed_since (length old.calls) them) which in
    subst P (sym it.calls) (contains_failed (length old.calls) it.newer old.calls which call (omega arith) it.has failed)

test_le : (a b : ℕ) → a ≤ b → nat_le a b ≡ true
test_le a b le = grind (arith, nat_tests)

one_is : (which disk : ℕ) → Contains (which ∷ []) disk → which ≡ disk
one_is which disk (zero, below, is) = is
one_is which disk (suc i, below, is) = absurd (omega (arith, below))

fail_case : (Q : ℕ → Type 0) (test failed : Bool) (which : ℕ) (xs : List ℕ) (disk : ℕ) → (failed ≡ true → Q which) → (Contains xs disk → Q disk)
    → Contains (if test && failed then which ∷ xs else xs) disk → Q disk
fail_case Q true true which xs disk this rest has = elim (Contains-append_cases (which ∷ []) xs disk has) [
  | inl one ↦ subst Q (one_is which disk one) (this refl)
  | inr more ↦ rest more
]
fail_case Q true false which xs disk this rest has = rest has
fail_case Q false failed which xs disk this rest has = rest has

-- it failed in the first part of a run, or in the second
failed_split : (n : ℕ) (newer mid : List JointCall) (disk : ℕ) → Contains (failed_since n (newer ++ mid)) disk
    → Contains (failed_since n mid) disk ⊎ Contains (failed_since (length mid) (newer ++ mid)) disk
failed_split n [] mid disk has = inl has
failed_split n (made ∷ newer) mid disk has =
    let Q : ℕ → Type 0 = λ d. Contains (failed_since n mid) d ⊎ Contains (failed_since (length mid) (made ∷ (newer ++ mid))) d in
    fail_case Q (nat_le n (length (newer ++ mid))) (is_failed made.call) made.which (failed_since n (newer ++ mid)) disk
    (λ failed. inr (failed_first (length mid) made.which made.call (newer ++ mid) (omega (arith, length-append newer mid)) failed))
    (λ more. elim (failed_split n newer mid disk more) [ inl before ↦ inl before | inr later ↦ inr (kept_through (length mid) (made ∷ []) (newer ++ mid) disk later) ])
    has

pub failed_where : (first loop new : Disks) (disk : ℕ) → Makes no_write loop new → HasFailedOn first new disk → HasFailedOn first loop disk ⊎ HasFailedOn loop new disk
failed_where first loop new disk makes failed =
    let P : List JointCall → Type 0 = λ them. Contains (failed_since (length first.calls) them) disk in
    let Q : List JointCall → Type 0 = λ them. Contains (failed_since (length first.calls) loop.calls) disk ⊎ Contains (failed_since (length loop.calls) them) disk in
    subst Q (sym makes.calls) (failed_split (length first.calls) makes.newer loop.calls disk (subst P makes.calls failed))

pub failed_more : (first loop new : Disks) (disk : ℕ) → Makes no_write loop new → HasFailedOn first loop disk → HasFailedOn first new disk
failed_more first loop new disk makes failed =
    let P : List JointCall → Type 0 = λ them. Contains (failed_since (length first.calls) them) disk in
    subst P (sym makes.calls) (kept_through (length first.calls) makes.newer loop.calls disk failed)

-- ---- labels

reading_same : (size number : ℕ) (held held' : ℕ → Option ℕ) (r : Reading) → ((i : ℕ) → held' i ≡ held i) → IsReadingOf size held number r → IsReadingOf size held' number r
reading_same size number held held' (Valid label) same it = (
  label_same size number held held' (label_view label) same it.0,
  λ l shown. it.1 l (label_same size number held' held l (λ i. sym (same i)) shown),
)
reading_same size number held held' (Bad b) same it =
    record {
      area = it.area;
      len = it.len;
      bytes = λ i below. same (area_place size number + i) ∙ it.bytes i below;
      breach = it.breach;
      none = λ l shown. it.none l (label_same size number held' held l (λ i. sym (same i)) shown);
    }
reading_same size number held held' Unreadable same it = tt

sound_more : (first loop new : Disks) (which number : ℕ) (r : Reading) → Makes no_write loop new → IsSoundReading first loop which number r → IsSoundReading first new which number r
sound_more first loop new which number (Valid label) makes it = it
sound_more first loop new which number (Bad b) makes it = tt
sound_more first loop new which number Unreadable makes it = made_more first loop new (on which (FailedRead (area_place (length (bytes_of first.starts which)) number) 114688)) makes it

sound_since : (first loop new : Disks) (which number : ℕ) (r : Reading) → Makes no_write first loop → IsSoundReading loop new which number r → IsSoundReading first new which number r
sound_since first loop new which number (Valid label) makes it = it
sound_since first loop new which number (Bad b) makes it = tt
sound_since first loop new which number Unreadable makes it =
    let P : List (List ℕ) → Type 0 = λ starts. HasMade first new (on which (FailedRead (area_place (length (bytes_of starts which)) number) 114688)) in
    subst P makes.starts (made_since first loop new (on which (FailedRead (area_place (length (bytes_of loop.starts which)) number) 114688)) makes it)

pub label_more : (first loop new : Disks) (s : ScannedLabel) → Makes no_write loop new → IsScannedLabel first loop s → IsScannedLabel first new s
label_more first loop new s makes it =
    record {
      is_label = it.is_label;
      sound = sound_more first loop new s.disk s.number s.reading makes it.sound;
      says = λ known honest. it.says known (honest_before (length first.calls) no_write loop new makes honest);
    }

later_honest : (first loop new : Disks) → Makes no_write first loop → AreHonestSince (length first.calls) new.starts new.calls → AreHonestSince (length loop.calls) new.starts new.calls
later_honest first loop new makes honest = honest_since (length first.calls) (length loop.calls) new (longer first loop no_write makes) honest

pub label_since : (first loop new : Disks) (s : ScannedLabel) → Makes no_write first loop → IsScannedLabel loop new s → IsScannedLabel first new s
label_since first loop new s makes it =
    record {
      is_label = it.is_label;
      sound = sound_since first loop new s.disk s.number s.reading makes it.sound;
      says = λ known honest.
          let P : List (List ℕ) → Type 0 = λ starts. IsReadingOf (length (bytes_of starts s.disk)) (content first s.disk) s.number s.reading in
          subst P makes.starts (reading_same (length (bytes_of loop.starts s.disk)) s.number (content loop s.disk) (content first s.disk) s.reading (λ i. sym (none_same first loop s.disk i makes))
          (it.says (known_on first loop s.disk makes known) (later_honest first loop new makes honest)));
    }

-- ---- slots

shown_same : (size : ℕ) (held held' : ℕ → Option ℕ) (u : Uberblock) → ((i : ℕ) → held' i ≡ held i) → IsShownOn size held u → IsShownOn size held' u
shown_same size held held' u same it =
    record {
      label = it.label;
      slot = it.slot;
      is_slot = it.is_slot;
      shows = shows_same held held' (slot_at size it.label it.slot) it.slot u (λ i below. same (slot_at size it.label it.slot + i)) it.shows;
    }

read_same : (size : ℕ) (held held' : ℕ → Option ℕ) (u : Uberblock) → ((i : ℕ) → held' i ≡ held i) → IsReadOn size held u → IsReadOn size held' u
unfolding shown_same
read_same size held held' u same it =
    let place = slot_at size it.on.label it.on.slot in
    record {
      on = shown_same size held held' u same it.on;
      alone = λ v shows. it.alone v (shows_same held' held place it.on.slot v (λ i below. sym (same (place + i))) shows);
    }

pub slot_more : (first loop new : Disks) (labels : List ScannedLabel) (u : Uberblock) → Makes no_write loop new → IsScannedSlot first loop labels u → IsScannedSlot first new labels u
slot_more first loop new labels u makes it =
    record { fits = it.fits; which = it.which; labeled = it.labeled; says = λ known honest. it.says known (honest_before (length first.calls) no_write loop new makes honest) }

pub slot_since : (first loop new : Disks) (labels : List ScannedLabel) (u : Uberblock) → Makes no_write first loop → IsScannedSlot loop new labels u → IsScannedSlot first new labels u
slot_since first loop new labels u makes it =
    record {
      fits = it.fits;
      which = it.which;
      labeled = it.labeled;
      says = λ known honest.
          let P : List (List ℕ) → Type 0 = λ starts. IsReadOn (length (bytes_of starts it.which)) (content first it.which) u in
          subst P makes.starts (read_same (length (bytes_of loop.starts it.which)) (content loop it.which) (content first it.which) u (λ i. sym (none_same first loop it.which i makes))
          (it.says (known_on first loop it.which makes known) (later_honest first loop new makes honest)));
    }

pub lost_more : (first loop new : Disks) (which : ℕ) → Makes no_write loop new → IsSlotLost first loop which → IsSlotLost first new which
lost_more first loop new which makes it =
    record {
      number = it.number;
      is_slot = it.is_slot;
      made = made_more first loop new (on which (FailedRead (nth_slot_at (length (bytes_of first.starts which)) it.number) 1024)) makes it.made;
    }

pub lost_since : (first loop new : Disks) (which : ℕ) → Makes no_write first loop → IsSlotLost loop new which → IsSlotLost first new which
lost_since first loop new which makes it =
    let P : List (List ℕ) → Type 0 = λ starts. HasMade first new (on which (FailedRead (nth_slot_at (length (bytes_of starts which)) it.number) 1024)) in
    record {
      number = it.number;
      is_slot = it.is_slot;
      made = subst P makes.starts (made_since first loop new (on which (FailedRead (nth_slot_at (length (bytes_of loop.starts which)) it.number) 1024)) makes it.made);
    }

pub all_more : (first loop new : Disks) (slots : List (Option Uberblock)) (which : ℕ) → Makes no_write loop new → HasAllSlots first loop slots which → HasAllSlots first new slots which
all_more first loop new slots which makes it = λ known honest u shown. it known (honest_before (length first.calls) no_write loop new makes honest) u shown

pub all_since : (first loop new : Disks) (slots : List (Option Uberblock)) (which : ℕ) → Makes no_write first loop → HasAllSlots loop new slots which → HasAllSlots first new slots which
all_since first loop new slots which makes it = λ known honest u shown.
    let P : List (List ℕ) → Type 0 = λ starts. IsShownOn (length (bytes_of starts which)) (content loop which) u in
    it (known_on first loop which makes known) (later_honest first loop new makes honest) u
    (subst P (sym makes.starts) (shown_same (length (bytes_of first.starts which)) (content first which) (content loop which) u (λ i. none_same first loop which i makes) shown))
