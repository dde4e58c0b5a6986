-- A disk that is in use again.
use Rattle.std.proofs.Common.{ℕ, zero, suc, ◌≡◌, ◌+◌, ◌<◌, ◌≤◌, Option, None, List, [], ◌∷◌, ◌++◌, length, take, refl, ap, ◌∙◌, arith}
use Rattle.std.specs.Prelude.{replicate, slice_index_or, slice_set}
use Rattle.std.proofs.lemmas.List.{get_or-set_same, get_or-set_other}
use Rattle.disk_set.specs.declared.stale.GroupSpan.{GroupSpan}
use Rattle.disk_set.specs.Outs.{Spans, is_in, is_stale, MissedThese}

abbrev none_of : ℕ → List (Option GroupSpan)
none_of count = replicate count None

none_more : (count i : ℕ) → slice_index_or (none_of count) i None ≡ None
none_more zero i = refl
none_more (suc count) zero = refl
none_more (suc count) (suc i) = none_more count i

-- a list that is filled up says the same of each disk
pub filled_up : (stale : List (Option GroupSpan)) (n count i : ℕ) → length stale ≤ n → slice_index_or (take n stale ++ replicate count None) i None ≡ slice_index_or stale i None
filled_up [] zero count i le = none_more count i
filled_up [] (suc n) count i le = none_more count i
filled_up (span ∷ rest) zero count i le = absurd (omega (arith, le))
filled_up (span ∷ rest) (suc n) count zero le = refl
filled_up (span ∷ rest) (suc n) count (suc i) le = filled_up rest n count i (omega (arith, le))

pub set_missed : (old : Spans) (filled : List (Option GroupSpan)) (disk : ℕ) (missed : Option GroupSpan) (new : Spans)
    → ((i : ℕ) → slice_index_or filled i None ≡ slice_index_or old.stale i None) → disk < length filled
    → new.since ≡ old.since → new.group ≡ old.group → new.stale ≡ slice_set filled disk missed → MissedThese old disk missed new
set_missed old filled disk missed new same within since group stale = record {
  since = since;
  group = group;
  this = λ birth.
      ap (λ (them : List (Option GroupSpan)). is_stale them disk birth) stale
      ∙ ap (λ (it : Option GroupSpan). is_in it birth) (get_or-set_same filled disk missed None within);
  others = λ other birth differ.
      ap (λ (them : List (Option GroupSpan)). is_stale them other birth) stale
      ∙ ap (λ (it : Option GroupSpan). is_in it birth) (get_or-set_other filled disk other missed None differ ∙ same other);
}
