-- Released runs in the order of their places.
use Rattle.std.proofs.Common.{◌≡◌, ℕ, zero, suc, ◌+◌, ◌<◌, ◌≤◌, ◌⊎◌, inl, inr, Bool, true, false, Some, None, List, [], ◌∷◌, ◌++◌, length, get_or, take, drop, refl, arith}
use Rattle.std.specs.Prelude.{Option, All, ◌≢◌}
use Rattle.std.proofs.lemmas.Bool.{cases_lt}
use Rattle.space_map.specs.declared.entry.Run.{Run}
use Rattle.space_map.specs.Sectors.{names}
use Rattle.space_map.proofs.RunLemmas.{named, is_named}
use Rattle.metaslab.specs.declared.settling.Release.{Release}
use Rattle.metaslab.specs.Released.{released_by, kept, AreInOrder}
use Rattle.metaslab.proofs.Holding.{cases, first_alone, others}

-- ---- the order

pub order_from : (a b : ℕ) (rs : List Release) → a ≤ b → AreInOrder b rs → AreInOrder a rs
order_from a b [] less order = tt
order_from a b (r ∷ rs) less order = (omega (arith, order.0), order.1)

pub order_kept : (due : ℕ → Bool) (from : ℕ) (rs : List Release) → AreInOrder from rs → AreInOrder from (kept due rs)
order_kept due from [] order = tt
order_kept due from (r ∷ rs) order =
    let rest = order_kept due (r.run.start + r.run.len) rs order.1 in
    elim (cases (due r.group)) [
      | inl now ↦ rw now (order_from from (r.run.start + r.run.len) (kept due rs) (omega (arith, order.0)) rest)
      | inr later ↦ rw later (order.0, rest)
    ]

starts_from : (from : ℕ) (rs : List Release) (j : ℕ) (d : Release) → AreInOrder from rs → j < length rs → from ≤ (get_or rs j d).run.start
starts_from from [] j d order below = absurd (omega arith)
starts_from from (r ∷ rs) zero d order below = order.0
starts_from from (r ∷ rs) (suc j) d order below = let later = starts_from (r.run.start + r.run.len) rs j d order.1 (omega arith) in omega (arith, order.0)

pub released_in_order : (from : ℕ) (rs : List Release) → AreInOrder from rs → (i j : ℕ) (d : Release) → i ≤ j → j < length rs → (get_or rs i d).run.start ≤ (get_or rs j d).run.start
released_in_order from [] order i j d le below = absurd (omega arith)
released_in_order from (r ∷ rs) order zero zero d le below = omega arith
released_in_order from (r ∷ rs) order zero (suc j) d le below = let later = starts_from (r.run.start + r.run.len) rs j d order.1 (omega arith) in omega arith
released_in_order from (r ∷ rs) order (suc i) zero d le below = absurd (omega arith)
released_in_order from (r ∷ rs) order (suc i) (suc j) d le below = released_in_order (r.run.start + r.run.len) rs order.1 i j d (omega arith) (omega arith)

ends_first : (from : ℕ) (rs : List Release) (i j : ℕ) (d : Release) → AreInOrder from rs → i < j → j < length rs → (get_or rs i d).run.start + (get_or rs i d).run.len ≤ (get_or rs j d).run.start
ends_first from [] i j d order less below = absurd (omega arith)
ends_first from (r ∷ rs) i zero d order less below = absurd (omega arith)
ends_first from (r ∷ rs) zero (suc j) d order less below = starts_from (r.run.start + r.run.len) rs j d order.1 (omega arith)
ends_first from (r ∷ rs) (suc i) (suc j) d order less below = ends_first (r.run.start + r.run.len) rs i j d order.1 (omega arith) (omega arith)

-- ---- which of them has a sector

pub not_named_by : (rs : List Release) (s i : ℕ) (d : Release) → released_by rs s ≡ None → i < length rs → names (get_or rs i d).run s ≡ false
not_named_by [] s i d none below = absurd (omega arith)
not_named_by (r ∷ rs) s zero d none below = first_alone r rs s none
not_named_by (r ∷ rs) s (suc i) d none below = not_named_by rs s i d (others r rs s None (first_alone r rs s none) none) (omega arith)

named_by : (rs : List Release) (s m : ℕ) (d : Release) → released_by rs s ≡ Some m → (i : ℕ) × (i < length rs) × (names (get_or rs i d).run s ≡ true)
named_by [] s m d is = absurd cc
named_by (r ∷ rs) s m d is =
    elim (cases (names r.run s)) [
      | inl here ↦ (0, omega arith, here)
      | inr other ↦ let at = named_by rs s m d (others r rs s (Some m) other is) in let below = at.1 in (suc at.0, omega arith, at.2)
    ]

none_or_some : (o : Option ℕ) → (o ≡ None) ⊎ ((m : ℕ) × (o ≡ Some m))
none_or_some None = inl refl
none_or_some (Some m) = inr (m, refl)

pub is_released : (rs : List Release) (s i : ℕ) (d : Release) → i < length rs → names (get_or rs i d).run s ≡ true → released_by rs s ≢ None
is_released rs s i d below is = λ none. let out = not_named_by rs s i d none below in absurd cc

later_shares : (rs : List Release) (count i : ℕ) (run : Run) (d : Release) → AreInOrder 0 rs → All (λ (r : Release). 0 < r.run.len) rs
    → ((k : ℕ) → k < count → (get_or rs k d).run.start < run.start + run.len) → count ≤ length rs → i + 1 < count
    → ((k : ℕ) → k + 1 ≡ count → (s : ℕ) → names run s ≡ true → names (get_or rs k d).run s ≡ false) → (s : ℕ)
    → ((get_or rs i d).run.start ≤ s) × (s < (get_or rs i d).run.start + (get_or rs i d).run.len) → (run.start ≤ s) × (s < run.start + run.len) → ⊥
later_shares rs zero i run d order some front few early last s has in_run = omega arith
later_shares rs (suc n) i run d order some front few early last s has in_run =
    let other = (get_or rs n d).run in
    let ends = ends_first 0 rs i n d order (omega arith) (omega arith) in
    let starts = front n (omega arith) in
    let inside = has.1 in
    let from = in_run.0 in
    let long = some n d (omega arith) in
    let of_other = is_named other other.start (omega arith) (omega arith) in
    let of_run = is_named run other.start (omega arith) starts in
    let out = last n (omega arith) other.start of_run in
    absurd cc

-- the runs up to a number start no later than a run ends, and the rest behind it: where the last of them doesn't share a sector with it none does
pub none_released : (rs : List Release) (count : ℕ) (run : Run) (d : Release) → AreInOrder 0 rs → All (λ (r : Release). 0 < r.run.len) rs
    → ((k : ℕ) → k < count → (get_or rs k d).run.start < run.start + run.len) → ((k : ℕ) → count ≤ k → k < length rs → run.start + run.len ≤ (get_or rs k d).run.start) → count ≤ length rs
    → ((k : ℕ) → k + 1 ≡ count → (s : ℕ) → names run s ≡ true → names (get_or rs k d).run s ≡ false) → (s : ℕ) → names run s ≡ true → released_by rs s ≡ None
none_released rs count run d order some front back few last s of_run =
    elim (none_or_some (released_by rs s)) [
      | inl none ↦ none
      | inr (m, is) ↦
          let at = named_by rs s m d is in
          let has = named (get_or rs at.0 d).run s at.2 in
          let in_run = named run s of_run in
          elim (cases_lt at.0 count) [
            | inr behind ↦ let later = back at.0 behind at.1 in absurd (omega (arith, has.0, in_run.1))
            | inl within ↦ elim (cases_lt (at.0 + 1) count) [
              | inl early ↦ absurd (later_shares rs count at.0 run d order some front few early last s has in_run)
              | inr final ↦ let out = last at.0 (omega arith) s of_run in let is_in = at.2 in absurd cc
            ]
          ]
    ]

-- ---- one more

order_inserted : (from : ℕ) (rs : List Release) (i : ℕ) (r d : Release) → AreInOrder from rs → from ≤ r.run.start
    → ((k : ℕ) → k < i → k < length rs → (get_or rs k d).run.start + (get_or rs k d).run.len ≤ r.run.start)
    → ((k : ℕ) → i ≤ k → k < length rs → r.run.start + r.run.len ≤ (get_or rs k d).run.start) → AreInOrder from (take i rs ++ r ∷ drop i rs)
order_inserted from [] zero r d order low front behind = (low, tt)
order_inserted from [] (suc i) r d order low front behind = (low, tt)
order_inserted from (q ∷ rs) zero r d order low front behind = (low, (behind 0 (omega arith) (omega arith), order.1))
order_inserted from (q ∷ rs) (suc i) r d order low front behind = (
  order.0,
  order_inserted (q.run.start + q.run.len) rs i r d order.1 (front 0 (omega arith) (omega arith)) (λ k less below. front (suc k) (omega arith) (omega arith)) (λ k from below. behind (suc k) (omega arith) (omega arith)),
)

-- a run comes behind those that start no later, none of which has a sector of it
pub inserted : (rs : List Release) (i : ℕ) (r d : Release) → AreInOrder 0 rs → All (λ (it : Release). 0 < it.run.len) rs → 0 < r.run.len
    → ((k : ℕ) → k < i → k < length rs → (get_or rs k d).run.start ≤ r.run.start) → ((k : ℕ) → i ≤ k → k < length rs → r.run.start < (get_or rs k d).run.start)
    → ((s : ℕ) → names r.run s ≡ true → released_by rs s ≡ None) → AreInOrder 0 (take i rs ++ r ∷ drop i rs)
inserted rs i r d order each some front behind apart =
    order_inserted 0 rs i r d order (omega arith)
    (λ k less below.
    let low = front k less below in
    elim (cases_lt r.run.start ((get_or rs k d).run.start + (get_or rs k d).run.len)) [
      | inl inside ↦
          let is_in = is_named (get_or rs k d).run r.run.start low inside in
          let out = not_named_by rs r.run.start k d (apart r.run.start (is_named r.run r.run.start (omega arith) (omega arith))) below in
          absurd cc
      | inr past ↦ past
    ])
    (λ k from below.
    let late = behind k from below in
    let long = each k d below in
    elim (cases_lt (get_or rs k d).run.start (r.run.start + r.run.len)) [
      | inl inside ↦
          let start = (get_or rs k d).run.start in
          let is_in = is_named (get_or rs k d).run start (omega arith) (omega arith) in
          let out = not_named_by rs start k d (apart start (is_named r.run start (omega arith) inside)) below in
          absurd cc
      | inr past ↦ past
    ])
