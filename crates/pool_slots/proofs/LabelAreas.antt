-- The areas of labels, and what reads of them tell.
use Rattle.std.proofs.Common.{◌≡◌, inl, inr, ◌<◌, ◌≤◌, ◌∙◌, ℕ, ◌+◌, ◌-◌, List, [], ◌∷◌, length, slice_get, take, drop, Option, Some, Ok, Err, refl, sym, ap, subst, arith}
use Rattle.std.specs.Prelude.{replicate}
use Rattle.std.proofs.lemmas.List.Elements.{All-nil, All-cons}
use Rattle.nvlist.specs.Grammar.{spelling}
use Rattle.nvlist.specs.Plain.{PlainList}
use Rattle.nvlist.proofs.Fronts.{front_read}
use Rattle.words.specs.Seal.{sealed, seal_word}
use Rattle.words.proofs.SealLemmas.{seal_parts}
use Rattle.model_disk.specs.Call.{Call, Read, FailedRead}
use Rattle.model_disk.specs.Joint.{JointCall, Disks, on, bytes_of, content, AreHonestSince}
use Rattle.pool_slots.proofs.Failing.{fails_now}
use Rattle.model_disk.proofs.LawLemmas.{same_bytes}
use Rattle.vdev_label.specs.Area.{HasRoom, Spells, IsBreach, front_of, area_of}
use Rattle.vdev_label.specs.Pairs.{label_pairs}
use Rattle.vdev_label.specs.Place.{area_at}
use Rattle.vdev_label.specs.Plain.{PlainLabel, label_view}
use Rattle.vdev_label.specs.Reads.{ReadsArea, ReadsLabel}
use Rattle.vdev_label.specs.declared.label.Label.{Label}
use Rattle.vdev_label.specs.declared.refusal.Breach.{Breach}
use Rattle.vdev_label.specs.declared.refusal.Breach.TheVariants as breach
use Rattle.vdev_label.specs.declared.refusal.Refusal.{Refusal as LabelRefusal}
use Rattle.vdev_label.specs.declared.refusal.Refusal.TheVariants as label
use Rattle.vdev_label.proofs.Fronts.{area_length}
use Rattle.vdev_label.proofs.Unique.{label_same}
use Rattle.pool_slots.specs.LabelReads.{ReadsShown, unread_as}
use Rattle.pool_slots.specs.Labels.{IsLabelShown, IsValid, Keeps, area_place, inscribed}
use Rattle.pool_slots.specs.Opens.{IsKnown}
use Rattle.pool_slots.specs.OpenRefusals.{of_label}
use Rattle.pool_slots.specs.Reads.{IsReadCall, IsReadOf, OnlyReads, nowhere, is_fault, IsFaultOf}
use Rattle.pool_slots.specs.Slots.{is_disk}
use Rattle.pool_slots.specs.declared.refusal.Refusal.TheVariants.{DiskFault}
use Rattle.pool_slots.specs.declared.labeled.Shown.{Shown}
use Rattle.pool_slots.proofs.Places.{label_within}

pub area_len : (l : PlainLabel) → IsValid l → length (inscribed l) ≡ 114688
unfolding inscribed
area_len l valid = area_length (label_pairs l) valid.room

pub inscribed_is : (l : PlainLabel) → area_of l ≡ inscribed l
unfolding inscribed
inscribed_is l = refl

pub area_place_is : (size number : ℕ) → area_at size number ≡ area_place size number
unfolding area_place
area_place_is size number = refl

pub area_within : (size number : ℕ) → 1048576 ≤ size → number < 4 → area_place size number + 114688 ≤ size
unfolding area_place
area_within size number room is = omega (arith, label_within size number room is)

-- ---- one area, one label

first_same : {A B : Type 0} (x y : A × B) → Some x ≡ Some y → x.0 ≡ y.0
first_same {A} {B} x y e = let same : x ≡ y = cc in ap (λ (it : A × B). it.0) same

same_fronts : (a b : PlainList) → HasRoom a → HasRoom b → front_of a ≡ front_of b → a ≡ b
same_fronts a b room also e =
    let first = front_read (front_of a) a (replicate (114648 - length (spelling a)) 0) room.fits refl in
    let second = front_read (front_of a) b (replicate (114648 - length (spelling b)) 0) also.fits e in
    first_same (a, replicate (114648 - length (spelling a)) 0) (b, replicate (114648 - length (spelling b)) 0) (sym first ∙ second)

same_seals : (area front other : List ℕ) → area ≡ sealed front → area ≡ sealed other → front ≡ other
same_seals area front other e also = sym (seal_parts area front e).front_is ∙ (seal_parts area other also).front_is

pub same_areas : (l m : PlainLabel) → IsValid l → IsValid m → inscribed l ≡ inscribed m → l ≡ m
unfolding inscribed
same_areas l m valid also e =
    label_same l m (same_fronts (label_pairs l) (label_pairs m) valid.room also.room
    (same_seals (area_of l) (front_of (label_pairs l)) (front_of (label_pairs m)) refl e))

-- an area with something wrong is no label's
breach_case : (area : List ℕ) (it : Breach) (l : PlainLabel) → IsBreach area it → IsValid l → length area ≡ 114688 → area ≡ sealed (front_of (label_pairs l)) → ⊥
breach_case area breach.Tail l bad valid len e =
    let P : ℕ → Type 0 = λ n. take 8 (drop n area) ≡ seal_word in
    let place : length area - 40 ≡ 114648 = omega (arith, len) in
    bad (subst P place (seal_parts area (front_of (label_pairs l)) e).word_is)
breach_case area breach.Digest l bad valid len e = bad.1 (front_of (label_pairs l)) e
breach_case area breach.List l bad valid len e = bad.2 (label_pairs l) valid.room (same_seals area bad.0 (front_of (label_pairs l)) bad.1 e)
breach_case area breach.Pairs l bad valid len e =
    bad.3 l valid.in_range (same_fronts bad.0 (label_pairs l) bad.1 valid.room (same_seals area (front_of bad.0) (front_of (label_pairs l)) bad.2 e))

pub no_label : (area : List ℕ) (it : Breach) (l : PlainLabel) → IsBreach area it → IsValid l → length area ≡ 114688 → area ≡ inscribed l → ⊥
unfolding inscribed
no_label area it l bad valid len e = breach_case area it l bad valid len e

-- ---- one read

one_read : (faulty : ℕ → Type 0) (old new : Disks) (which : ℕ) (call : Call) → new.starts ≡ old.starts → new.calls ≡ on which call ∷ old.calls → IsReadCall (faulty which) call
    → OnlyReads (is_disk which) faulty old new
one_read faulty old new which call starts calls read =
    let P : JointCall → Type 0 = IsReadOf (is_disk which) faulty in
    record { starts = starts; newer = on which call ∷ []; calls = calls; reads = All-cons P (on which call) [] (refl, read) (All-nil P) }

none_read : (faulty : ℕ → Type 0) (old new : Disks) (which : ℕ) → new.starts ≡ old.starts → new.calls ≡ old.calls → OnlyReads (is_disk which) faulty old new
none_read faulty old new which starts calls = record { starts = starts; newer = []; calls = calls; reads = All-nil (IsReadOf (is_disk which) faulty) }

pub label_read : (old new : Disks) (which number : ℕ) (found : Label) → new.starts ≡ old.starts → ReadsLabel old new which number (Ok found) → OnlyReads (is_disk which) nowhere old new
label_read old new which number found starts it = one_read nowhere old new which (Read (area_at (length (bytes_of old.starts which)) number) it.0) starts it.1.1 tt

-- where none was
pub label_not_read : (old new : Disks) (which number : ℕ) (cause : LabelRefusal) → new.starts ≡ old.starts → ReadsLabel old new which number (Err cause)
    → OnlyReads (is_disk which) (is_fault (of_label which cause)) old new
label_not_read old new which number label.NoMemory starts (inl none) = none_read nowhere old new which starts none
label_not_read old new which number label.NoMemory starts (inr it) = one_read nowhere old new which (Read (area_at (length (bytes_of old.starts which)) number) it.0) starts it.1.1 tt
label_not_read old new which number label.DiskFault starts it =
    one_read (is_fault (DiskFault which)) old new which (FailedRead (area_at (length (bytes_of old.starts which)) number) 114688) starts it refl
label_not_read old new which number (label.BadLabel b) starts it = one_read nowhere old new which (Read (area_at (length (bytes_of old.starts which)) number) it.0) starts it.1.1 tt

pub shown_not_read : (old new : Disks) (which number : ℕ) (cause : LabelRefusal) → new.starts ≡ old.starts → ReadsLabel old new which number (Err cause)
    → OnlyReads (is_disk which) (IsFaultOf (unread_as which cause)) old new
shown_not_read old new which number label.NoMemory starts it = label_not_read old new which number label.NoMemory starts it
shown_not_read old new which number label.DiskFault starts it = label_not_read old new which number label.DiskFault starts it
shown_not_read old new which number (label.BadLabel b) starts it = label_not_read old new which number (label.BadLabel b) starts it

-- the bytes that were read
read_same : (old new : Disks) (which number : ℕ) (area : List ℕ) → 1048576 ≤ length (bytes_of old.starts which) → number < 4 → new.starts ≡ old.starts → ReadsArea old new which number area
    → IsKnown old which → AreHonestSince (length old.calls) new.starts new.calls
    → (i : ℕ) → i < 114688 → content old which (area_place (length (bytes_of old.starts which)) number + i) ≡ slice_get area i
read_same old new which number area room is starts it known honest i below =
    let size = length (bytes_of old.starts which) in
    let P : List (List ℕ) → Type 0 = λ them. AreHonestSince (length old.calls) them new.calls in
    let Q : List JointCall → Type 0 = AreHonestSince (length old.calls) old.starts in
    let true_answer = (subst Q it.1 (subst P starts honest)).0 (omega arith) in
    let there = known (area_place size number + i) (omega (arith, below, area_within size number room is)) in
    let R : ℕ → Type 0 = λ n. content old which (n + i) ≡ Some there.0 in
    there.1 ∙ sym (true_answer i there.0 (omega (arith, below, it.0)) (subst R (sym (area_place_is size number)) there.1))

-- what shows there has the bytes that were read
shown_read : (held : ℕ → Option ℕ) (size number : ℕ) (area : List ℕ) (l : PlainLabel) → length area ≡ 114688 → ((i : ℕ) → i < 114688 → held (area_place size number + i) ≡ slice_get area i)
    → IsLabelShown size held number l → area ≡ inscribed l
shown_read held size number area l len same shown =
    same_bytes area (inscribed l) (len ∙ sym (area_len l shown.valid)) (λ i below. let inside : i < 114688 = omega (arith, below, len, area_len l shown.valid) in sym (same i inside) ∙ shown.bytes i inside)

read_shows : (held : ℕ → Option ℕ) (size number : ℕ) (area : List ℕ) (l : PlainLabel) → number < 4 → Spells area l → ((i : ℕ) → i < 114688 → held (area_place size number + i) ≡ slice_get area i)
    → IsLabelShown size held number l
read_shows held size number area l is spells same =
    record {
      is_label = is;
      valid = record { in_range = spells.in_range; room = spells.room };
      bytes = λ i below. same i below ∙ ap (λ (them : List ℕ). slice_get them i) (spells.bytes ∙ inscribed_is l);
    }

-- a label that was read is shown, and no other
pub label_shown : (old new : Disks) (which number : ℕ) (found : Label) → 1048576 ≤ length (bytes_of old.starts which) → number < 4 → new.starts ≡ old.starts
    → ReadsLabel old new which number (Ok found) → IsKnown old which → AreHonestSince (length old.calls) new.starts new.calls
    → IsLabelShown (length (bytes_of old.starts which)) (content old which) number (label_view found)
    × ((l : PlainLabel) → IsLabelShown (length (bytes_of old.starts which)) (content old which) number l → l ≡ label_view found)
label_shown old new which number found room is starts it known honest =
    let size = length (bytes_of old.starts which) in
    let same = read_same old new which number it.0 room is starts it.1 known honest in
    let here = read_shows (content old which) size number it.0 (label_view found) is it.2 same in (
      here,
      λ l shown. same_areas l (label_view found) shown.valid here.valid
          (sym (shown_read (content old which) size number it.0 l it.1.0 same shown) ∙ it.2.bytes ∙ inscribed_is (label_view found)),
    )

keeps_same : (l m : PlainLabel) (s : Shown) → l ≡ m → Keeps m s → Keeps l s
keeps_same l m s e keeps = let P : PlainLabel → Type 0 = λ it. Keeps it s in subst P (sym e) keeps

pub reads_some : (old new : Disks) (which number : ℕ) (found : Label) (s : Shown) → 1048576 ≤ length (bytes_of old.starts which) → number < 4 → new.starts ≡ old.starts
    → ReadsLabel old new which number (Ok found) → Keeps (label_view found) s → ReadsShown old new which number (Ok (Some s))
reads_some old new which number found s room is starts it keeps = λ known honest.
    let there = label_shown old new which number found room is starts it known honest in
    ((label_view found, there.0, keeps), λ l shown. keeps_same l (label_view found) s (there.1 l shown) keeps)

pub reads_other : (old new : Disks) (which number : ℕ) (cause : LabelRefusal) → 1048576 ≤ length (bytes_of old.starts which) → number < 4 → new.starts ≡ old.starts
    → ReadsLabel old new which number (Err cause) → ReadsShown old new which number (unread_as which cause)
reads_other old new which number label.NoMemory room is starts it = tt
reads_other old new which number label.DiskFault room is starts it =
    fails_now old new which (FailedRead (area_at (length (bytes_of old.starts which)) number) 114688) it refl
reads_other old new which number (label.BadLabel b) room is starts it = λ known honest l shown.
    no_label it.0 b l it.2 shown.valid it.1.0
    (shown_read (content old which) (length (bytes_of old.starts which)) number it.0 l it.1.0 (read_same old new which number it.0 room is starts it.1 known honest) shown)
