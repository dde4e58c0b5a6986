-- Valid labels among those that were read.
use Rattle.std.proofs.Common.{◌≡◌, inl, inr, ◌<◌, ◌≤◌, ◌∙◌, ℕ, ◌+◌, List, length, slice_get, get_or, map, Option, Some, None, refl, sym, ap, subst, arith}
use Rattle.std.specs.Prelude.{option_map}
use Rattle.std.proofs.lemmas.Bool.{cases_lt}
use Rattle.std.proofs.lemmas.Option.{slice_get_within, slice_get-map}
use Rattle.vdev_label.specs.declared.label.Label.{Label}
use Rattle.vdev_label.specs.declared.refusal.Breach.{Breach}
use Rattle.vdev_label.specs.declared.refusal.Breach.TheVariants as breach
use Rattle.pool_labels.specs.Choices.{HasValid, IsBadAt, IsBreachOf, IsFirstBad, IsValidAt, IsValidReading}
use Rattle.pool_labels.specs.declared.scanned.Reading.{Reading}
use Rattle.pool_labels.specs.declared.scanned.Reading.TheVariants.{Valid, Bad, Unreadable}
use Rattle.pool_labels.specs.declared.scanned.ScannedLabel.{ScannedLabel}
use Rattle.pool_labels.proofs.Lists.{NoneTo, here, none_all, same_at}

valid_by : (labels : List ScannedLabel) (i : ℕ) (s : ScannedLabel) (r : Reading) → slice_get labels i ≡ Some s → s.reading ≡ r → IsValidReading r → HasValid labels
valid_by labels i s (Valid l) at is it = record { i = i; s = s; l = l; at = record { at = at; valid = is } }
valid_by labels i s (Bad b) at is it = absurd it
valid_by labels i s Unreadable at is it = absurd it

pub has_valid_at : (labels : List ScannedLabel) (i : ℕ) (s : ScannedLabel) → slice_get labels i ≡ Some s → IsValidReading s.reading → HasValid labels
has_valid_at labels i s at it = valid_by labels i s s.reading at refl it

pub none_valid : (labels : List ScannedLabel) (n : ℕ) → length labels ≤ n → NoneTo (λ s. IsValidReading s.reading) labels n → HasValid labels → ⊥
none_valid labels n le none it =
    let P : Reading → Type 0 = IsValidReading in
    none_all (λ s. IsValidReading s.reading) labels n le none it.i it.s it.at.at (subst P (sym it.at.valid) tt)

-- ---- what is wrong

no_breach : (r : Reading) (b : Breach) (o : Option Breach) → IsBreachOf r o → o ≡ None → r ≡ Bad b → ⊥
no_breach r b o it none is =
    let P : Reading → Type 0 = λ x. IsBreachOf x o in
    let some : o ≡ Some b = subst P is it in
    cc

pub bad_more : (labels : List ScannedLabel) (n : ℕ) (item : ScannedLabel) (o : Option Breach) → ((j : ℕ) (other : Breach) → j < n → ¬ IsBadAt labels j other) → n < length labels
    → item ≡ get_or labels n item → IsBreachOf item.reading o → o ≡ None → (j : ℕ) (other : Breach) → j < n + 1 → ¬ IsBadAt labels j other
bad_more labels n item o before below is of none j other less = λ bad.
    elim (cases_lt j n) [
      | inl earlier ↦ before j other earlier bad
      | inr later ↦
          let same : bad.s ≡ item = same_at labels j n bad.s item (omega (arith, less, later)) bad.at (here labels n item below is) in
          let P : ScannedLabel → Type 0 = λ s. s.reading ≡ Bad other in
          no_breach item.reading other o of none (subst P same bad.bad)
    ]

breach_by : (r : Reading) (b : Breach) (o : Option Breach) → IsBreachOf r o → o ≡ Some b → r ≡ Bad b
breach_by (Valid l) b o it is = absurd (let none : o ≡ None = it in cc)
breach_by (Bad c) b o it is = let some : o ≡ Some c = it in cc
breach_by Unreadable b o it is = absurd (let none : o ≡ None = it in cc)

pub bad_first : (labels : List ScannedLabel) (n : ℕ) (item : ScannedLabel) (o : Option Breach) (b : Breach) → ((j : ℕ) (other : Breach) → j < n → ¬ IsBadAt labels j other) → n < length labels
    → item ≡ get_or labels n item → IsBreachOf item.reading o → o ≡ Some b → IsFirstBad labels b
bad_first labels n item o b before below is of some =
    inl (n, record { s = item; at = here labels n item below is; bad = breach_by item.reading b o of some }, before)

pub bad_none : (labels : List ScannedLabel) (n : ℕ) → length labels ≤ n → ((j : ℕ) (other : Breach) → j < n → ¬ IsBadAt labels j other) → IsFirstBad labels breach.Tail
bad_none labels n le none = inr (refl, λ j other. λ bad. none j other (omega (arith, le, slice_get_within labels j bad.s bad.at)) bad)

-- ---- one label

pub one_label : (labels : List ScannedLabel) (i : ℕ) (s t : ScannedLabel) (l m : Label) → IsValidAt labels i s l → IsValidAt labels i t m → l ≡ m
one_label labels i s t l m first second =
    let same : s ≡ t = same_at labels i i s t refl first.at second.at in
    let P : ScannedLabel → Type 0 = λ x. x.reading ≡ Valid l in
    let both : Valid l ≡ Valid m = sym (subst P same first.valid) ∙ second.valid in
    cc

-- ---- lists of values

pub map_at : {A B : Type 0} (f : A → B) (xs : List A) (i : ℕ) (x : A) → slice_get xs i ≡ Some x → slice_get (map f xs) i ≡ Some (f x)
map_at f xs i x e = slice_get-map f xs i ∙ ap (option_map f) e
