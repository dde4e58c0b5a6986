-- The labels of one disk, one after the other.
use Rattle.std.proofs.Common.{◌≡◌, ◌∙◌, ℕ, zero, suc, List, [], ◌∷◌, ◌++◌, map, All, refl, ap, arith}
use Rattle.std.proofs.lemmas.List.{map-append}
use Rattle.std.proofs.lemmas.List.Elements.{All-nil, All-push, All-weaker, Contains-append_left, Contains-push}
use Rattle.model_disk.specs.Joint.{Disks}
use Rattle.pool_slots.specs.Reads.{OnlyReads}
use Rattle.pool_slots.specs.Slots.{is_disk}
use Rattle.pool_slots.proofs.ReadRuns.{reads_made, reads_more, reads_none, reads_wider}
use Rattle.pool_labels.specs.Scans.{HasUnreadable, IsScannedLabel, MakesAtMost, ScansLabel, place_of}
use Rattle.pool_labels.specs.declared.scanned.Reading.TheVariants.{Unreadable}
use Rattle.pool_labels.specs.declared.scanned.ScannedLabel.{ScannedLabel}
use Rattle.pool_labels.proofs.ScanRuns.{label_more, label_since}

abbrev pub numbers_to : ℕ → ℕ → List (ℕ × ℕ)
numbers_to which zero = []
numbers_to which (suc n) = numbers_to which n ++ (which, n) ∷ []

pub record FourTo (first now : Disks) (which n : ℕ) (labels : List ScannedLabel) : Type 0 where
  pub only : OnlyReads (is_disk which) (λ w. HasUnreadable labels) first now
  pub places : map place_of labels ≡ numbers_to which n
  pub disks : All (λ s. s.disk ≡ which) labels
  pub all : All (IsScannedLabel first now) labels
  pub few : MakesAtMost n first now

pub four_none : (first : Disks) (which : ℕ) → FourTo first first which 0 []
four_none first which =
    record { only = reads_none (is_disk which) (λ w. HasUnreadable []) first; places = refl; disks = All-nil (λ s. s.disk ≡ which); all = All-nil (IsScannedLabel first first); few = omega arith }

unread_more : (labels : List ScannedLabel) (s : ScannedLabel) → HasUnreadable labels → HasUnreadable (labels ++ s ∷ [])
unread_more labels s it = record { s = it.s; has = Contains-append_left labels (s ∷ []) it.s it.has; unread = it.unread }

pair_same : (s : ScannedLabel) (which n : ℕ) → s.disk ≡ which → s.number ≡ n → place_of s ≡ (which, n)
pair_same s which n d e = cc

pub four_next : (first loop new : Disks) (which n : ℕ) (labels : List ScannedLabel) (s : ScannedLabel) → FourTo first loop which n labels
    → OnlyReads (is_disk which) (λ w. s.reading ≡ Unreadable) loop new → ScansLabel loop new which n s → MakesAtMost 1 loop new
    → FourTo first new which (suc n) (labels ++ s ∷ [])
four_next first loop new which n labels s to run it one =
    let makes = reads_made run in
    let before = reads_made to.only in
    let faulty : ℕ → Type 0 = λ w. HasUnreadable (labels ++ s ∷ []) in
    record {
      only = reads_more (is_disk which) faulty first loop new
          (reads_wider (is_disk which) (is_disk which) (λ w. HasUnreadable labels) faulty first loop (λ w here. here) (λ w fault. unread_more labels s fault) to.only)
          (reads_wider (is_disk which) (is_disk which) (λ w. s.reading ≡ Unreadable) faulty loop new (λ w here. here)
          (λ w fault. record { s = s; has = Contains-push labels s; unread = fault }) run);
      places = map-append place_of labels (s ∷ []) ∙ ap (λ (xs : List (ℕ × ℕ)). xs ++ place_of s ∷ []) to.places
          ∙ ap (λ (p : ℕ × ℕ). numbers_to which n ++ p ∷ []) (pair_same s which n it.0 it.1);
      disks = All-push (λ t. t.disk ≡ which) labels s to.disks it.0;
      all = All-push (IsScannedLabel first new) labels s (All-weaker (IsScannedLabel first loop) (IsScannedLabel first new) (λ t. label_more first loop new t makes) labels to.all)
          (label_since first loop new s before it.2);
      few = omega (arith, to.few, one);
    }
