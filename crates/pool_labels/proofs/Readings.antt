-- What reads of labels tell.
use Rattle.std.proofs.Common.{◌≡◌, ◌<◌, ◌≤◌, ◌∙◌, ℕ, ◌+◌, List, [], ◌∷◌, length, slice_get, Option, Some, Ok, Err, refl, sym, subst, arith}
use Rattle.model_disk.specs.Call.{FailedRead}
use Rattle.model_disk.specs.Joint.{JointCall, Disks, on, bytes_of, content, AreHonestSince}
use Rattle.model_disk.proofs.LawLemmas.{same_bytes}
use Rattle.vdev_label.specs.Plain.{PlainLabel}
use Rattle.vdev_label.specs.Place.{area_at}
use Rattle.vdev_label.specs.Reads.{ReadsArea, ReadsLabel}
use Rattle.vdev_label.specs.declared.label.Label.{Label}
use Rattle.vdev_label.specs.declared.refusal.Breach.{Breach}
use Rattle.vdev_label.specs.declared.refusal.Refusal.{Refusal as LabelRefusal}
use Rattle.vdev_label.specs.declared.refusal.Refusal.TheVariants as label
use Rattle.pool_slots.specs.Labels.{IsLabelShown, area_place, inscribed}
use Rattle.pool_slots.specs.OpenRefusals.{of_label}
use Rattle.pool_slots.specs.Opens.{IsKnown}
use Rattle.pool_slots.specs.Reads.{OnlyReads, is_fault}
use Rattle.pool_slots.specs.Slots.{is_disk}
use Rattle.pool_slots.proofs.LabelAreas.{area_len, area_place_is, area_within, no_label, label_not_read, label_shown}
use Rattle.pool_slots.proofs.ReadRuns.{reads_wider}
use Rattle.pool_labels.specs.Scans.{HasMade, IsBroken, IsScannedLabel}
use Rattle.pool_labels.specs.declared.scanned.Reading.TheVariants.{Valid, Bad, Unreadable}

-- the bytes that were read
area_same : (old new : Disks) (which number : ℕ) (area : List ℕ) → 1048576 ≤ length (bytes_of old.starts which) → number < 4 → new.starts ≡ old.starts → ReadsArea old new which number area
    → IsKnown old which → AreHonestSince (length old.calls) new.starts new.calls
    → (i : ℕ) → i < 114688 → content old which (area_place (length (bytes_of old.starts which)) number + i) ≡ slice_get area i
area_same old new which number area room is starts it known honest i below =
    let size = length (bytes_of old.starts which) in
    let P : List (List ℕ) → Type 0 = λ them. AreHonestSince (length old.calls) them new.calls in
    let Q : List JointCall → Type 0 = AreHonestSince (length old.calls) old.starts in
    let true_answer = (subst Q it.1 (subst P starts honest)).0 (omega arith) in
    let there = known (area_place size number + i) (omega (arith, below, area_within size number room is)) in
    let R : ℕ → Type 0 = λ n. content old which (n + i) ≡ Some there.0 in
    there.1 ∙ sym (true_answer i there.0 (omega (arith, below, it.0)) (subst R (sym (area_place_is size number)) there.1))

-- what shows there has the bytes that were read
shown_area : (held : ℕ → Option ℕ) (size number : ℕ) (area : List ℕ) (l : PlainLabel) → length area ≡ 114688 → ((i : ℕ) → i < 114688 → held (area_place size number + i) ≡ slice_get area i)
    → IsLabelShown size held number l → area ≡ inscribed l
shown_area held size number area l len same shown =
    same_bytes area (inscribed l) (len ∙ sym (area_len l shown.valid)) (λ i below. let inside : i < 114688 = omega (arith, below, len, area_len l shown.valid) in sym (same i inside) ∙ shown.bytes i inside)

broken_area : (old new : Disks) (which number : ℕ) (it : Breach) → 1048576 ≤ length (bytes_of old.starts which) → number < 4 → new.starts ≡ old.starts
    → ReadsLabel old new which number (Err (label.BadLabel it)) → IsKnown old which → AreHonestSince (length old.calls) new.starts new.calls
    → IsBroken (length (bytes_of old.starts which)) (content old which) number it
broken_area old new which number it room is starts reads known honest =
    let size = length (bytes_of old.starts which) in
    let same = area_same old new which number reads.0 room is starts reads.1 known honest in
    record {
      area = reads.0;
      len = reads.1.0;
      bytes = same;
      breach = reads.2;
      none = λ l shown. no_label reads.0 it l reads.2 shown.valid reads.1.0 (shown_area (content old which) size number reads.0 l reads.1.0 same shown);
    }

-- ---- one label

pub scanned_valid : (old new : Disks) (which number : ℕ) (found : Label) → 1048576 ≤ length (bytes_of old.starts which) → number < 4 → new.starts ≡ old.starts
    → ReadsLabel old new which number (Ok found) → IsScannedLabel old new (record { disk = which; number = number; reading = Valid found })
scanned_valid old new which number found room is starts it =
    record {
      is_label = is;
      sound = record { in_range = it.2.in_range; room = it.2.room };
      says = λ known honest. label_shown old new which number found room is starts it known honest;
    }

pub scanned_bad : (old new : Disks) (which number : ℕ) (it : Breach) → 1048576 ≤ length (bytes_of old.starts which) → number < 4 → new.starts ≡ old.starts
    → ReadsLabel old new which number (Err (label.BadLabel it)) → IsScannedLabel old new (record { disk = which; number = number; reading = Bad it })
scanned_bad old new which number it room is starts reads =
    record { is_label = is; sound = tt; says = λ known honest. broken_area old new which number it room is starts reads known honest }

pub scanned_unread : (old new : Disks) (which number : ℕ) → number < 4 → ReadsLabel old new which number (Err label.DiskFault)
    → IsScannedLabel old new (record { disk = which; number = number; reading = Unreadable })
scanned_unread old new which number is it =
    let size = length (bytes_of old.starts which) in
    let P : ℕ → Type 0 = λ place. HasMade old new (on which (FailedRead place 114688)) in
    record {
      is_label = is;
      sound = subst P (area_place_is size number) (record { newer = on which (FailedRead (area_at size number) 114688) ∷ []; calls = it; has = (0, omega arith, refl) });
      says = λ known honest. tt;
    }

pub only_label : (old new : Disks) (which number : ℕ) (cause : LabelRefusal) (faulty : ℕ → Type 0) → new.starts ≡ old.starts → ReadsLabel old new which number (Err cause)
    → ((w : ℕ) → is_fault (of_label which cause) w → faulty w) → OnlyReads (is_disk which) faulty old new
only_label old new which number cause faulty starts it more =
    reads_wider (is_disk which) (is_disk which) (is_fault (of_label which cause)) faulty old new (λ w here. here) more (label_not_read old new which number cause starts it)
