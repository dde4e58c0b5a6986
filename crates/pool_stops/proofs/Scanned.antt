-- What is scanned of a pool's own disks that were handed in.
use Rattle.std.proofs.Common.{ℕ, zero, suc, ◌≡◌, ◌⊎◌, inl, inr, ⊎_elim, ◌+◌, ◌*◌, ◌<◌, ◌≤◌, Bool, true, false, ◌&&◌, nat_le, if◌then◌else◌, List, [], ◌∷◌, length, map, slice_get, Option, Some, AllPairs, Contains, refl, sym, ap, subst, ◌∙◌, arith}
use Rattle.std.specs.Prelude.{◌/◌, ◌^◌, option_map}
use Rattle.std.proofs.lemmas.Bool.Decides.{nat_tests}
use Rattle.std.proofs.lemmas.List.Elements.{Contains-append_cases, Contains-append_left, Contains-append_right}
use Rattle.std.proofs.lemmas.Option.{get_or_from_slice_get, slice_get-map, slice_get_within}
use Rattle.model_disk.specs.Call.{FailedRead}
use Rattle.model_disk.specs.Joint.{Disks, bytes_of, content}
use Rattle.raidz_io.proofs.Written.{slice_get_some}
use Rattle.block_store.specs.Config.{IsAllowedSize, size_of}
use Rattle.block_store.specs.Opened.{LieOn}
use Rattle.block_store.specs.declared.shape.VdevShape.{VdevShape}
use Rattle.uberblock_ring.specs.Place.{nth_slot_at}
use Rattle.uberblock_ring.specs.Ranking.{Has}
use Rattle.uberblock_ring.specs.declared.uberblock.Uberblock.{Uberblock}
use Rattle.vdev_label.specs.Config.{guids}
use Rattle.vdev_label.specs.Limits.{IsAllowed}
use Rattle.vdev_label.specs.Plain.{PlainLabel, PlainVdev, label_view}
use Rattle.vdev_label.specs.declared.label.Label.{Label}
use Rattle.pool_labels.specs.Choices.{IsValidAt, IsValidReading}
use Rattle.pool_labels.specs.Scans.{HasAllSlots, IsLabeled, IsReadingOf, IsScanOf, IsScannedLabel, IsSlotLost, IsSoundReading, four_of, place_of, places_to}
use Rattle.pool_labels.specs.Sizes.{is_allowed_size}
use Rattle.pool_labels.specs.declared.scanned.Reading.{Reading}
use Rattle.pool_labels.specs.declared.scanned.Reading.TheVariants.{Valid, Bad, Unreadable}
use Rattle.pool_labels.specs.declared.scanned.Scan.{Scan}
use Rattle.pool_labels.specs.declared.scanned.ScannedLabel.{ScannedLabel}
use Rattle.pool_labels.proofs.Lists.{all_at, at_contains, contains_at}
use Rattle.pool_labels.proofs.ScanRuns.{made_failed}
use Rattle.pool_create.specs.OpenStops.{fresh}
use Rattle.pool_create.proofs.OpenOnce.{Differ, pairs_append, pairs_back, pairs_cross, pairs_front, pairs_none, pairs_tail, there_later}
use Rattle.pool_slots.specs.Labels.{IsLabelShown, area_place}
use Rattle.pool_slots.specs.Opens.{IsKnown, IsRead, IsReadOn, IsShownOn}
use Rattle.pool_format.specs.declared.labeling.PoolIdentity.{PoolIdentity}
use Rattle.pool_stops.specs.Unhindered.{AnswerTruly}
use Rattle.pool_stops.specs.Handed.{AreHolding, AreSomeHandedIn, away_in}
use Rattle.pool_stops.specs.Own.{AreDisksOf, IsOwn, disk_guids}
use Rattle.pool_stops.proofs.Handed.{as_handed, as_own, child_at, handed_known, size_handed, used_at}
use Rattle.pool_stops.proofs.Lists.{found_in_map}

-- ---- lists, and sizes

inside_or : (disk end : ℕ) → (disk < end) ⊎ (end ≤ disk)
inside_or disk end = grind arith

-- each disk is of an allowed size
pub allowed_from : (starts : List (List ℕ)) (first : ℕ) (shapes : List VdevShape) (disk : ℕ) → LieOn starts first shapes → first ≤ disk → disk < length starts
    → IsAllowedSize (size_of starts disk)
allowed_from starts first [] disk lie from below = absurd (omega (arith, lie, from, below))
allowed_from starts first (shape ∷ shapes) disk lie from below = ⊎_elim
    (λ (inside : disk < first + shape.vdev.geometry.children). lie.1.sizes disk (omega (arith, lie.0, from)) (omega (arith, lie.0, inside)))
    (λ (behind : first + shape.vdev.geometry.children ≤ disk). allowed_from starts (first + shape.vdev.geometry.children) shapes disk lie.2 behind below)
    (inside_or disk (first + shape.vdev.geometry.children))

-- ---- the places of labels

four_have : (disk number : ℕ) → number < 4 → Contains (four_of disk) (disk, number)
four_have disk zero low = (0, omega arith, refl)
four_have disk (suc zero) low = (1, omega arith, refl)
four_have disk (suc (suc zero)) low = (2, omega arith, refl)
four_have disk (suc (suc (suc zero))) low = (3, omega arith, refl)
four_have disk (suc (suc (suc (suc n)))) low = absurd (omega (arith, low))

in_four : (disk : ℕ) (x : ℕ × ℕ) → Contains (four_of disk) x → x.0 ≡ disk
in_four disk x (zero, below, is) = sym (ap (λ (y : ℕ × ℕ). y.0) is)
in_four disk x (suc zero, below, is) = sym (ap (λ (y : ℕ × ℕ). y.0) is)
in_four disk x (suc (suc zero), below, is) = sym (ap (λ (y : ℕ × ℕ). y.0) is)
in_four disk x (suc (suc (suc zero)), below, is) = sym (ap (λ (y : ℕ × ℕ). y.0) is)
in_four disk x (suc (suc (suc (suc n))), below, is) = absurd (omega (arith, below))

pub in_part : (allowed : Bool) (disk : ℕ) (x : ℕ × ℕ) → Contains (if allowed then four_of disk else []) x → x.0 ≡ disk
in_part true disk x has = in_four disk x has
in_part false disk x has = absurd (omega (arith, has.1))

below_places : (starts : List (List ℕ)) (n : ℕ) (x : ℕ × ℕ) → Contains (places_to starts n) x → x.0 < n
below_places starts zero x has = absurd (omega (arith, has.1))
below_places starts (suc n) x has =
    let last : List (ℕ × ℕ) = if is_allowed_size (length (bytes_of starts n)) then four_of n else [] in
    elim (Contains-append_cases (places_to starts n) last x has) [
      | inl before ↦ omega (arith, below_places starts n x before)
      | inr there ↦ omega (arith, in_part (is_allowed_size (length (bytes_of starts n))) n x there)
    ]

test_le : (a b : ℕ) → a ≤ b → nat_le a b ≡ true
test_le a b le = grind (arith, nat_tests)

last_or : (disk n : ℕ) → disk < suc n → (disk < n) ⊎ (disk ≡ n)
last_or disk n below = grind arith

-- allowed by the store, allowed by the scan
allowed_size : (size : ℕ) → IsAllowedSize size → is_allowed_size size ≡ true
allowed_size size is =
    let low : nat_le 8388608 (size / 262144 * 262144) ≡ true = test_le 8388608 (size / 262144 * 262144) is.least in
    let high : nat_le (size / 262144 * 262144) (2 ^ 43) ≡ true = test_le (size / 262144 * 262144) (2 ^ 43) is.most in
    λ i. low i && high i

has_places : (starts : List (List ℕ)) (n disk number : ℕ) → disk < n → IsAllowedSize (size_of starts disk) → number < 4 → Contains (places_to starts n) (disk, number)
has_places starts zero disk number below allowed low = absurd (omega (arith, below))
has_places starts (suc n) disk number below allowed low =
    let part : ℕ → List (ℕ × ℕ) = λ m. if is_allowed_size (length (bytes_of starts m)) then four_of m else [] in
    elim (last_or disk n below) [
      | inl before ↦ Contains-append_left (places_to starts n) (part n) (disk, number) (has_places starts n disk number before allowed low)
      | inr same ↦
          let mine : Contains (part disk) (disk, number) =
          subst (λ b. Contains (if b then four_of disk else []) (disk, number)) (sym (allowed_size (size_of starts disk) allowed)) (four_have disk number low) in
          Contains-append_right (places_to starts n) (part n) (disk, number) (subst (λ m. Contains (part m) (disk, number)) same mine)
    ]

-- ---- what was read of labels

-- the disks that were handed in were scanned, truly
pub record IsHanded (pool : PoolIdentity) (vdevs : List PlainVdev) (shapes : List VdevShape) (out : List Bool) (images handed : List (List ℕ)) (order : List (Option ℕ))
    (old new : Disks) (scan : Scan) : Type 0 where
  pub are : AreDisksOf pool vdevs shapes out (fresh images)
  pub is : AreSomeHandedIn images handed order
  pub holding : AreHolding handed old
  pub truly : AnswerTruly old new
  pub read : IsScanOf old new scan

-- a label that shows something was read as that, where no read failed
read_case : (old new : Disks) (disk number : ℕ) (l : PlainLabel) (reading : Reading) → AnswerTruly old new → IsSoundReading old new disk number reading
    → IsReadingOf (length (bytes_of old.starts disk)) (content old disk) number reading
    → IsLabelShown (length (bytes_of old.starts disk)) (content old disk) number l → (label : Label) × (reading ≡ Valid label) × (l ≡ label_view label)
read_case old new disk number l (Valid label) truly sound says shown = (label, refl, says.1 l shown)
read_case old new disk number l (Bad it) truly sound says shown = absurd (says.none l shown)
read_case old new disk number l Unreadable truly sound says shown =
    absurd (truly.none_failed disk (made_failed old new disk (FailedRead (area_place (length (bytes_of old.starts disk)) number) 114688) sound refl))

-- a label that says it is of the disk that is its pool's
pub record IsOwnAt (pool : PoolIdentity) (vdevs : List PlainVdev) (order : List (Option ℕ)) (place : ℕ) (label : Label) : Type 0 where
  pub child : ℕ
  pub at : slice_get order child ≡ Some (Some place)
  pub guid : ℕ
  pub named : slice_get (disk_guids vdevs) child ≡ Some guid
  pub own : IsOwn pool vdevs guid (label_view label)

module _ {pool : PoolIdentity} {vdevs : List PlainVdev} {shapes : List VdevShape} {out : List Bool} {images handed : List (List ℕ)} {order : List (Option ℕ)}
    {old new : Disks} {scan : Scan} where
  pub allowed_of : IsHanded pool vdevs shapes out images handed order old new scan → (child : ℕ) → child < length images → IsAllowedSize (size_of images child)
  allowed_of it child below = allowed_from images 0 shapes child it.are.there.may.lie (omega arith) below

  -- its disk was handed in
  pub scanned_below : IsHanded pool vdevs shapes out images handed order old new scan → (i : ℕ) (s : ScannedLabel) → slice_get scan.labels.items i ≡ Some s
      → s.disk < length handed
  scanned_below it i s at =
      let has : Contains (map place_of scan.labels.items) (place_of s) = contains_at (map place_of scan.labels.items) i (place_of s) (slice_get-map place_of scan.labels.items i ∙ ap (option_map place_of) at) in
      let here : Contains (places_to old.starts (length old.starts)) (place_of s) = subst (λ xs. Contains xs (place_of s)) it.read.places has in
      omega (arith, below_places old.starts (length old.starts) (place_of s) here, it.holding.shown.count)

  -- what a valid one shows
  pub valid_shown : IsHanded pool vdevs shapes out images handed order old new scan → (i : ℕ) (s : ScannedLabel) (label : Label)
      → slice_get scan.labels.items i ≡ Some s → s.reading ≡ Valid label
      → (child : ℕ) × (slice_get order child ≡ Some (Some s.disk)) × (child < length images)
      × IsLabelShown (length (bytes_of images child)) (content (fresh images) child) s.number (label_view label)
  valid_shown it i s label at valid =
      let c = child_at images handed order s.disk it.is (scanned_below it i s at) in
      let read : IsScannedLabel old new s = all_at (IsScannedLabel old new) scan.labels.items i s it.read.labels at in
      let known : IsKnown old s.disk = handed_known images handed order old c.0 s.disk it.is it.holding c.1 in
      let says = subst (λ r. IsReadingOf (length (bytes_of old.starts s.disk)) (content old s.disk) s.number r) valid (read.says known it.truly.honest) in (
        c.0,
        c.1,
        omega (arith, slice_get_within order c.0 (Some s.disk) c.1, it.is.count),
        as_own (λ size held. IsLabelShown size held s.number (label_view label)) images handed order old c.0 s.disk it.is it.holding c.1 says.0,
      )

  -- it is the pool's own
  pub own_at : IsHanded pool vdevs shapes out images handed order old new scan → (i : ℕ) (s : ScannedLabel) (label : Label)
      → slice_get scan.labels.items i ≡ Some s → s.reading ≡ Valid label → IsOwnAt pool vdevs order s.disk label
  own_at it i s label at valid =
      let seen = valid_shown it i s label at valid in
      let guid = slice_get_some (disk_guids vdevs) seen.0 (omega (arith, seen.2, it.are.own.count)) in
      record {
        child = seen.0;
        at = seen.1;
        guid = guid.0;
        named = guid.1;
        own = it.are.own.each seen.0 guid.0 guid.1 s.number (label_view label) seen.3;
      }

  -- the label of a disk is among those that were read
  pub label_read : IsHanded pool vdevs shapes out images handed order old new scan → (child place number : ℕ) → slice_get order child ≡ Some (Some place)
      → IsAllowedSize (size_of images child) → number < 4
      → (i : ℕ) × (s : ScannedLabel) × (slice_get scan.labels.items i ≡ Some s) × (s.disk ≡ place) × (s.number ≡ number)
  label_read it child place number at allowed low =
      let same : length (bytes_of old.starts place) ≡ length (bytes_of images child) = size_handed images handed order old child place it.is it.holding at in
      let below : place < length old.starts = omega (arith, (it.is.each child place at).0, it.holding.shown.count) in
      let has = has_places old.starts (length old.starts) place number below (subst (λ (n : ℕ). IsAllowedSize n) (sym same) allowed) low in
      let found = at_contains (map place_of scan.labels.items) (place, number) (subst (λ xs. Contains xs (place, number)) (sym it.read.places) has) in
      let s = found_in_map place_of scan.labels.items found.0 (place, number) found.1 in
      (found.0, s.0, s.1, ap (λ (x : ℕ × ℕ). x.0) s.2, ap (λ (x : ℕ × ℕ). x.1) s.2)

  -- and where it shows one that is what was read
  pub shown_read : IsHanded pool vdevs shapes out images handed order old new scan → (child place number : ℕ) (l : PlainLabel) → slice_get order child ≡ Some (Some place)
      → IsAllowedSize (size_of images child) → IsLabelShown (length (bytes_of images child)) (content (fresh images) child) number l
      → (i : ℕ) × (s : ScannedLabel) × (label : Label) × IsValidAt scan.labels.items i s label × (s.disk ≡ place) × (l ≡ label_view label)
  shown_read it child place number l at allowed shown =
      let there = label_read it child place number at allowed shown.is_label in
      let s : ScannedLabel = there.1 in
      let read : IsScannedLabel old new s = all_at (IsScannedLabel old new) scan.labels.items there.0 s it.read.labels there.2 in
      let known : IsKnown old s.disk = subst (λ n. IsKnown old n) (sym there.3) (handed_known images handed order old child place it.is it.holding at) in
      let mine = as_handed (λ size held. IsLabelShown size held number l) images handed order old child place it.is it.holding at shown in
      let here : IsLabelShown (length (bytes_of old.starts s.disk)) (content old s.disk) s.number l =
      subst (λ n. IsLabelShown (length (bytes_of old.starts s.disk)) (content old s.disk) n l) (sym there.4)
      (subst (λ d. IsLabelShown (length (bytes_of old.starts d)) (content old d) number l) (sym there.3) mine) in
      let it' = read_case old new s.disk s.number l s.reading it.truly read.sound (read.says known it.truly.honest) here in
      (there.0, s, it'.0, record { at = there.2; valid = it'.1 }, there.3, it'.2)

  -- ---- disks and their slots

  -- the place of a disk has a valid label
  pub is_labeled : IsHanded pool vdevs shapes out images handed order old new scan → (child place : ℕ) → slice_get order child ≡ Some (Some place)
      → IsAllowedSize (size_of images child) → IsLabeled scan.labels.items place
  is_labeled it child place at allowed =
      let shown = it.are.own.labeled child (omega (arith, slice_get_within order child (Some place) at, it.is.count)) in
      let read = shown_read it child place shown.0 shown.1 at allowed shown.2 in
      record {
        s = read.1;
        has = contains_at scan.labels.items read.0 read.1 read.3.at;
        valid = (read.4, subst IsValidReading (sym read.3.valid) tt);
      }

  -- whatever a slot of the disk shows was read
  pub slot_read : IsHanded pool vdevs shapes out images handed order old new scan → (child place : ℕ) (u : Uberblock) → slice_get order child ≡ Some (Some place)
      → IsAllowedSize (size_of images child) → IsShownOn (length (bytes_of images child)) (content (fresh images) child) u
      → (i : ℕ) × Has scan.slots.items i u
  slot_read it child place u at allowed shown = ⊎_elim
      (λ (lost : IsSlotLost old new place).
      absurd (it.truly.none_failed place (made_failed old new place (FailedRead (nth_slot_at (length (bytes_of old.starts place)) lost.number) 1024) lost.made refl)))
      (λ (all : HasAllSlots old new scan.slots.items place).
      all (handed_known images handed order old child place it.is it.holding at) it.truly.honest u
      (as_handed (λ size held. IsShownOn size held u) images handed order old child place it.is it.holding at shown))
      (it.read.slots.all place (is_labeled it child place at allowed))

  -- and whatever was read is shown by a disk that is there
  pub read_shown : IsHanded pool vdevs shapes out images handed order old new scan → (i : ℕ) (u : Uberblock) → Has scan.slots.items i u
      → IsRead (away_in order) (fresh images) u
  read_shown it i u has =
      let slot = it.read.slots.each i u has in
      let s = at_contains scan.labels.items slot.labeled.s slot.labeled.has in
      let below : slot.which < length handed = subst (λ n. n < length handed) slot.labeled.valid.0 (scanned_below it s.0 slot.labeled.s s.1) in
      let c = child_at images handed order slot.which it.is below in
      let known = handed_known images handed order old c.0 slot.which it.is it.holding c.1 in
      record {
        which = c.0;
        used = used_at order c.0 slot.which c.1;
        on = as_own (λ size held. IsReadOn size held u) images handed order old c.0 slot.which it.is it.holding c.1 (slot.says known it.truly.honest);
      }

-- ---- guids of disks

ordered : (i j : ℕ) → (i < j) ⊎ ((j < i) ⊎ (i ≡ j))
ordered i j = grind arith

among_guids : (vdevs : List PlainVdev) (guid : ℕ) → Contains (disk_guids vdevs) guid → Contains (guids vdevs) guid
among_guids [] guid has = absurd (omega (arith, has.1))
among_guids (v ∷ vdevs) guid has = elim (Contains-append_cases v.children (disk_guids vdevs) guid has) [
  | inl mine ↦ Contains-append_left (v.guid ∷ v.children) (guids vdevs) guid (there_later v.guid v.children guid mine)
  | inr rest ↦ Contains-append_right (v.guid ∷ v.children) (guids vdevs) guid (among_guids vdevs guid rest)
]

apart_at : (xs : List ℕ) (a b x : ℕ) → AllPairs Differ xs → a < b → slice_get xs a ≡ Some x → slice_get xs b ≡ Some x → ⊥
apart_at xs a b x apart before first second =
    apart a b x before (slice_get_within xs b x second) (get_or_from_slice_get xs a x x first ∙ sym (get_or_from_slice_get xs b x x second))

differ_guids : (vdevs : List PlainVdev) → AllPairs Differ (guids vdevs) → AllPairs Differ (disk_guids vdevs)
differ_guids [] apart = pairs_none Differ
differ_guids (v ∷ vdevs) apart =
    let front = pairs_tail Differ v.guid v.children (pairs_front Differ (v.guid ∷ v.children) (guids vdevs) apart) in
    let back = differ_guids vdevs (pairs_back Differ (v.guid ∷ v.children) (guids vdevs) apart) in
    pairs_append Differ v.children (disk_guids vdevs) front back (λ x y has has'.
    pairs_cross Differ (v.guid ∷ v.children) (guids vdevs) x y apart (there_later v.guid v.children x has) (among_guids vdevs y has'))

-- two disks have two guids
pub one_disk : (pool : ℕ) (vdevs : List PlainVdev) (a b guid : ℕ) → IsAllowed pool vdevs → slice_get (disk_guids vdevs) a ≡ Some guid
    → slice_get (disk_guids vdevs) b ≡ Some guid → a ≡ b
one_disk pool vdevs a b guid allowed first second =
    let apart = differ_guids vdevs (pairs_tail Differ pool (guids vdevs) allowed.distinct) in
    ⊎_elim
    (λ (before : a < b). absurd (apart_at (disk_guids vdevs) a b guid apart before first second))
    (λ other. ⊎_elim
    (λ (behind : b < a). absurd (apart_at (disk_guids vdevs) b a guid apart behind second first))
    (λ same. same) other)
    (ordered a b)
