-- Runs as long as they can be: those of a list that ascends, and what becomes of them where a run is taken or given.
use Rattle.std.proofs.Common.{ℕ, zero, suc, ◌≡◌, ◌≢◌, ◌⊎◌, inl, inr, ◌+◌, ◌<◌, ◌≤◌, Bool, true, false, List, [], ◌∷◌, length, get_or, refl, sym, ap, subst, ◌∙◌, arith}
use Rattle.std.proofs.lemmas.Bool.{cases_lt}
use Rattle.space_map.specs.declared.entry.Run.{Run}
use Rattle.space_map.specs.Sectors.{names, contains, AreBetween}
use Rattle.space_map.proofs.RunLemmas.{none_before, named, is_named, is_before, is_past}
use Rattle.metaslab.specs.Fits.{IsWhole}
use Rattle.metaslab.proofs.Holding.{cases}

-- ---- of a list of runs

-- a sector behind the first run and the next is in the others or in none
behind_first : (r : Run) (rs : List Run) (s : ℕ) → r.start + r.len ≤ s → contains (r ∷ rs) s ≡ contains rs s
behind_first r rs s past = rw (is_past r s past) refl

first_is_whole : (from to : ℕ) (r : Run) (rs : List Run) → AreBetween from to (r ∷ rs) → IsWhole (contains (r ∷ rs)) r.start r.len
first_is_whole from to r rs between = record {
  some = between.1;
  each = λ s low high. rw (is_named r s low high) refl;
  before = λ s next. rw (is_before r s (omega arith)) (none_before (r.start + r.len + 1) to s rs between.2 (omega arith));
  behind = rw (is_past r (r.start + r.len) (omega arith)) (none_before (r.start + r.len + 1) to (r.start + r.len) rs between.2 (omega arith));
}

later_is_whole : (r : Run) (rs : List Run) (start len : ℕ) → r.start + r.len + 1 ≤ start → IsWhole (contains rs) start len → IsWhole (contains (r ∷ rs)) start len
later_is_whole r rs start len later whole = record {
  some = whole.some;
  each = λ s low high. behind_first r rs s (omega arith) ∙ whole.each s low high;
  before = λ s next. behind_first r rs s (omega arith) ∙ whole.before s next;
  behind = behind_first r rs (start + len) (omega arith) ∙ whole.behind;
}

starts_after : (from to : ℕ) (rs : List Run) (i : ℕ) (d : Run) → AreBetween from to rs → i < length rs → from ≤ (get_or rs i d).start
starts_after from to [] i d between below = absurd (omega arith)
starts_after from to (r ∷ rs) zero d between below = between.0
starts_after from to (r ∷ rs) (suc i) d between below = let later = starts_after (r.start + r.len + 1) to rs i d between.2 (omega arith) in omega arith

pub whole_at_index : (from to : ℕ) (rs : List Run) (i : ℕ) (d : Run) → AreBetween from to rs → i < length rs → IsWhole (contains rs) (get_or rs i d).start (get_or rs i d).len
whole_at_index from to [] i d between below = absurd (omega arith)
whole_at_index from to (r ∷ rs) zero d between below = first_is_whole from to r rs between
whole_at_index from to (r ∷ rs) (suc i) d between below =
    later_is_whole r rs (get_or rs i d).start (get_or rs i d).len (starts_after (r.start + r.len + 1) to rs i d between.2 (omega arith)) (whole_at_index (r.start + r.len + 1) to rs i d between.2 (omega arith))

-- runs that share a sector are one
pub one_start : (set : ℕ → Bool) (p l q k s : ℕ) → IsWhole set p l → IsWhole set q k → p ≤ s → s < p + l → q ≤ s → s < q + k → p ≤ q
one_start set zero l q k s one other in_low in_high to_low to_high = omega arith
one_start set (suc p) l q k s one other in_low in_high to_low to_high =
    elim (cases_lt q (suc p)) [
      | inl below ↦ let out = one.before p (omega arith) in let inside = other.each p (omega arith) (omega arith) in absurd cc
      | inr from ↦ from
    ]

pub one_end : (set : ℕ → Bool) (p l q k s : ℕ) → IsWhole set p l → IsWhole set q k → p ≤ s → s < p + l → q ≤ s → s < q + k → p + l ≤ q + k
one_end set p l q k s one other in_low in_high to_low to_high =
    elim (cases_lt (q + k) (p + l)) [
      | inl below ↦ let out = other.behind in let inside = one.each (q + k) (omega arith) below in absurd cc
      | inr from ↦ from
    ]

-- a run as long as it can be is one of those of the list
pub record IsAt (rs : List Run) (start len : ℕ) : Type 0 where
  pub index : ℕ
  pub below : index < length rs
  pub is : (d : Run) → get_or rs index d ≡ record { start = start; len = len }

pub same_run : (r : Run) (start len : ℕ) → r.start ≡ start → r.len ≡ len → r ≡ record { start = start; len = len }
same_run r start len here long = ap (λ (x : ℕ). record { start = x; len = r.len }) here ∙ ap (λ (y : ℕ). record { start = start; len = y }) long

pub whole_is_at : (from to : ℕ) (rs : List Run) (start len : ℕ) → AreBetween from to rs → IsWhole (contains rs) start len → IsAt rs start len
whole_is_at from to [] start len between whole = let some = whole.some in let no : false ≡ true = whole.each start (omega arith) (omega arith) in absurd cc
whole_is_at from to (r ∷ rs) start len between whole =
    let some = whole.some in
    let first = first_is_whole from to r rs between in
    elim (cases (names r start)) [
      | inl here ↦
          let inside = named r start here in
          let start_low = one_start (contains (r ∷ rs)) r.start r.len start len start first whole inside.0 inside.1 (omega arith) (omega arith) in
          let start_high = one_start (contains (r ∷ rs)) start len r.start r.len start whole first (omega arith) (omega arith) inside.0 inside.1 in
          let end_low = one_end (contains (r ∷ rs)) r.start r.len start len start first whole inside.0 inside.1 (omega arith) (omega arith) in
          let end_high = one_end (contains (r ∷ rs)) start len r.start r.len start whole first (omega arith) (omega arith) inside.0 inside.1 in
          record { index = 0; below = omega arith; is = λ d. same_run r start len (omega arith) (omega arith) }
      | inr other ↦
          let is_in = whole.each start (omega arith) (omega arith) in
          let inside : contains rs start ≡ true = rw other at is_in in
          let later : r.start + r.len + 1 ≤ start =
          elim (cases_lt start (r.start + r.len + 1)) [
            | inl early ↦ let out = none_before (r.start + r.len + 1) to start rs between.2 early in absurd cc
            | inr late ↦ late
          ] in
          let rest : IsWhole (contains rs) start len = record {
            some = some;
            each = λ s low high. sym (behind_first r rs s (omega arith)) ∙ whole.each s low high;
            before = λ s next. sym (behind_first r rs s (omega arith)) ∙ whole.before s next;
            behind = sym (behind_first r rs (start + len) (omega arith)) ∙ whole.behind;
          } in
          let at = whole_is_at (r.start + r.len + 1) to rs start len between.2 rest in
          let fewer = at.below in
          record { index = suc at.index; below = omega arith; is = at.is }
    ]

-- a sector of the runs is one of one of them
pub has_index : (rs : List Run) (s : ℕ) (d : Run) → contains rs s ≡ true → (i : ℕ) × (i < length rs) × (names (get_or rs i d) s ≡ true)
has_index [] s d is = absurd cc
has_index (r ∷ rs) s d is =
    elim (cases (names r s)) [
      | inl here ↦ (0, omega arith, here)
      | inr other ↦ let rest : contains rs s ≡ true = rw other at is in let at = has_index rs s d rest in let below = at.1 in (suc at.0, omega arith, at.2)
    ]

ends_first : (from to : ℕ) (rs : List Run) (i j : ℕ) (d : Run) → AreBetween from to rs → i < j → j < length rs → (get_or rs i d).start + (get_or rs i d).len < (get_or rs j d).start
ends_first from to [] i j d between order below = absurd (omega arith)
ends_first from to (r ∷ rs) i zero d between order below = absurd (omega arith)
ends_first from to (r ∷ rs) zero (suc j) d between order below = let later = starts_after (r.start + r.len + 1) to rs j d between.2 (omega arith) in omega arith
ends_first from to (r ∷ rs) (suc i) (suc j) d between order below = ends_first (r.start + r.len + 1) to rs i j d between.2 (omega arith) (omega arith)

past_early : (to : ℕ) (rs : List Run) (count i s : ℕ) (d : Run) → AreBetween 0 to rs → ((k : ℕ) → k < count → (get_or rs k d).start ≤ s) → count ≤ length rs → i + 1 < count
    → ((get_or rs i d).start ≤ s) × (s < (get_or rs i d).start + (get_or rs i d).len) → ⊥
past_early to rs zero i s d between front few early has = omega arith
past_early to rs (suc n) i s d between front few early has =
    let ends = ends_first 0 to rs i n d between (omega arith) (omega arith) in
    let starts = front n (omega arith) in
    let inside = has.1 in
    omega arith

-- the runs up to a number start no later than a sector, and the rest behind it: none but the last of them can have it
pub none_has : (to : ℕ) (rs : List Run) (count s : ℕ) (d : Run) → AreBetween 0 to rs
    → ((k : ℕ) → k < count → (get_or rs k d).start ≤ s) → ((k : ℕ) → count ≤ k → k < length rs → s < (get_or rs k d).start) → count ≤ length rs
    → ((k : ℕ) → k + 1 ≡ count → names (get_or rs k d) s ≡ false) → contains rs s ≡ false
none_has to rs count s d between front back few last =
    elim (cases (contains rs s)) [
      | inr out ↦ out
      | inl inside ↦
          let at = has_index rs s d inside in
          let i = at.0 in
          let below = at.1 in
          let has = named (get_or rs i d) s at.2 in
          elim (cases_lt i count) [
            | inr behind ↦ let later = back i behind below in absurd (omega arith)
            | inl within ↦ elim (cases_lt (i + 1) count) [
              | inl early ↦ absurd (past_early to rs count i s d between front few early has)
              | inr final ↦ let out = last i (omega arith) in let is_in = at.2 in absurd cc
            ]
          ]
    ]

pub is_in_one : (rs : List Run) (i s : ℕ) (d : Run) → i < length rs → names (get_or rs i d) s ≡ true → contains rs s ≡ true
is_in_one [] i s d below is = absurd (omega arith)
is_in_one (r ∷ rs) zero s d below is = rw is refl
is_in_one (r ∷ rs) (suc i) s d below is = let rest = is_in_one rs i s d (omega arith) is in elim (cases (names r s)) [ inl here ↦ rw here refl | inr other ↦ rw other rest ]

later_shares : (to : ℕ) (rs : List Run) (count i : ℕ) (run d : Run) → AreBetween 0 to rs → ((k : ℕ) → k < count → (get_or rs k d).start < run.start + run.len) → count ≤ length rs → i + 1 < count
    → ((k : ℕ) → k + 1 ≡ count → (s : ℕ) → names run s ≡ true → names (get_or rs k d) s ≡ false) → (s : ℕ)
    → ((get_or rs i d).start ≤ s) × (s < (get_or rs i d).start + (get_or rs i d).len) → (run.start ≤ s) × (s < run.start + run.len) → ⊥
later_shares to rs zero i run d between front few early last s has in_run = omega arith
later_shares to rs (suc n) i run d between front few early last s has in_run =
    let other = get_or rs n d in
    let ends = ends_first 0 to rs i n d between (omega arith) (omega arith) in
    let starts = front n (omega arith) in
    let inside = has.1 in
    let from = in_run.0 in
    let whole = whole_at_index 0 to rs n d between (omega arith) in
    let some = whole.some in
    let of_other = is_named other other.start (omega arith) (omega arith) in
    let of_run = is_named run other.start (omega arith) starts in
    let out = last n (omega arith) other.start of_run in
    absurd cc

-- the runs up to a number start no later than a run ends, and the rest behind it: where the last of them doesn't share a sector with it none does
pub none_shares : (to : ℕ) (rs : List Run) (count : ℕ) (run d : Run) → AreBetween 0 to rs
    → ((k : ℕ) → k < count → (get_or rs k d).start < run.start + run.len) → ((k : ℕ) → count ≤ k → k < length rs → run.start + run.len ≤ (get_or rs k d).start) → count ≤ length rs
    → ((k : ℕ) → k + 1 ≡ count → (s : ℕ) → names run s ≡ true → names (get_or rs k d) s ≡ false) → (s : ℕ) → names run s ≡ true → contains rs s ≡ false
none_shares to rs count run d between front back few last s of_run =
    elim (cases (contains rs s)) [
      | inr out ↦ out
      | inl inside ↦
          let at = has_index rs s d inside in
          let has = named (get_or rs at.0 d) s at.2 in
          let in_run = named run s of_run in
          elim (cases_lt at.0 count) [
            | inr behind ↦ let later = back at.0 behind at.1 in absurd (omega (arith, has.0, in_run.1))
            | inl within ↦ elim (cases_lt (at.0 + 1) count) [
              | inl early ↦ absurd (later_shares to rs count at.0 run d between front few early last s has in_run)
              | inr final ↦ let out = last at.0 (omega arith) s of_run in let is_in = at.2 in absurd cc
            ]
          ]
    ]

-- ---- where a run is taken out of one, or given back to it

-- a run lies in one as long as it can be, and the small set lacks just that run of the big one
pub record IsCut (big small : ℕ → Bool) (p l a m : ℕ) : Type 0 where
  pub whole : IsWhole big p l
  pub low : p ≤ a
  pub high : a + m ≤ p + l
  pub some : 0 < m
  pub inside : (s : ℕ) → a ≤ s → s < a + m → small s ≡ false
  pub before : (s : ℕ) → s < a → small s ≡ big s
  pub behind : (s : ℕ) → a + m ≤ s → small s ≡ big s

-- what becomes of the one: the part before the run and that behind it
pub left_part : (big small : ℕ → Bool) (p l a m : ℕ) → IsCut big small p l a m → p < a → (k : ℕ) → p + k ≡ a → IsWhole small p k
left_part big small p l a m cut some k is =
    let low = cut.low in
    let high = cut.high in
    let many = cut.some in record {
      some = omega arith;
      each = λ s from to. cut.before s (omega arith) ∙ cut.whole.each s from (omega arith);
      before = λ s next. cut.before s (omega arith) ∙ cut.whole.before s next;
      behind = cut.inside (p + k) (omega arith) (omega arith);
    }

pub right_part : (big small : ℕ → Bool) (p l a m : ℕ) → IsCut big small p l a m → a + m < p + l → (k : ℕ) → a + m + k ≡ p + l → IsWhole small (a + m) k
right_part big small p l a m cut some k is =
    let low = cut.low in
    let high = cut.high in
    let many = cut.some in record {
      some = omega arith;
      each = λ s from to. cut.behind s from ∙ cut.whole.each s (omega arith) (omega arith);
      before = λ s next. cut.inside s (omega arith) (omega arith);
      behind = cut.behind (a + m + k) (omega arith) ∙ subst (λ (e : ℕ). big e ≡ false) (sym is) cut.whole.behind;
    }

-- every other one stays
pub others_stay : (big small : ℕ → Bool) (p l a m q k : ℕ) → IsCut big small p l a m → IsWhole big q k → q ≢ p → IsWhole small q k
others_stay big small p l a m q k cut whole differ =
    let low = cut.low in
    let high = cut.high in
    let many = cut.some in
    let some = whole.some in
    let apart : (s : ℕ) → q ≤ s → s < q + k → (s < a) ⊎ (a + m ≤ s) =
    λ s from to. elim (cases_lt s a) [
      | inl before ↦ inl before
      | inr not_before ↦ elim (cases_lt s (a + m)) [
        | inl inside ↦
            let one = one_start big p l q k s cut.whole whole (omega arith) (omega arith) from to in
            let other = one_start big q k p l s whole cut.whole from to (omega arith) (omega arith) in
            absurd (differ (omega arith))
        | inr behind ↦ inr behind
      ]
    ] in
    let still : (s : ℕ) → big s ≡ false → small s ≡ false =
    λ s out. elim (cases_lt s a) [
      | inl before ↦ cut.before s before ∙ out
      | inr not_before ↦ elim (cases_lt s (a + m)) [ inl inside ↦ cut.inside s not_before inside | inr behind ↦ cut.behind s behind ∙ out ]
    ] in record {
      some = some;
      each = λ s from to. elim (apart s from to) [ inl before ↦ cut.before s before ∙ whole.each s from to | inr behind ↦ cut.behind s behind ∙ whole.each s from to ];
      before = λ s next. still s (whole.before s next);
      behind = still (q + k) whole.behind;
    }

has_before : (big small : ℕ → Bool) (p l a m q k : ℕ) → IsCut big small p l a m → IsWhole small q k → q + k ≡ a → p < q → q ≤ p
has_before big small p l a m zero k cut whole is after = omega arith
has_before big small p l a m (suc q) k cut whole is after =
    let low = cut.low in
    let high = cut.high in
    let many = cut.some in
    let some = whole.some in
    let out : big q ≡ false = sym (cut.before q (omega arith)) ∙ whole.before q (omega arith) in
    let is_in = cut.whole.each q (omega arith) (omega arith) in
    absurd cc

begins_before : (big small : ℕ → Bool) (p l a m q k : ℕ) → IsCut big small p l a m → IsWhole small q k → q + k ≡ a → q < p → p ≤ q
begins_before big small zero l a m q k cut whole is first = omega arith
begins_before big small (suc p) l a m q k cut whole is first =
    let low = cut.low in
    let high = cut.high in
    let many = cut.some in
    let some = whole.some in
    let out = cut.whole.before p (omega arith) in
    let is_in : big p ≡ true = sym (cut.before p (omega arith)) ∙ whole.each p (omega arith) (omega arith) in
    absurd cc

-- a run of the small set that ends where the cut begins is the part before it
starts_there : (big small : ℕ → Bool) (p l a m q k : ℕ) → IsCut big small p l a m → IsWhole small q k → q + k ≡ a → q ≡ p
starts_there big small p l a m q k cut whole is =
    let low = cut.low in
    let high = cut.high in
    let many = cut.some in
    let some = whole.some in
    let not_after : q ≤ p =
    elim (cases_lt p q) [
      | inl after ↦ has_before big small p l a m q k cut whole is after
      | inr upto ↦ upto
    ] in
    let not_before : p ≤ q =
    elim (cases_lt q p) [
      | inl first ↦ begins_before big small p l a m q k cut whole is first
      | inr from ↦ from
    ] in
    omega arith

ends_there : (big small : ℕ → Bool) (p l a m q k : ℕ) → IsCut big small p l a m → IsWhole small q k → q + k ≡ a → p + k ≡ a
ends_there big small p l a m q k cut whole is = let same = starts_there big small p l a m q k cut whole is in omega arith

-- and there are no further ones
pub parts_or_others : (big small : ℕ → Bool) (p l a m q k : ℕ) → IsCut big small p l a m → IsWhole small q k
    → (IsWhole big q k × (q ≢ p)) ⊎ (((q ≡ p) × (p + k ≡ a)) ⊎ ((q ≡ a + m) × (a + m + k ≡ p + l)))
parts_or_others big small p l a m q k cut whole =
    let low = cut.low in
    let high = cut.high in
    let many = cut.some in
    let some = whole.some in
    elim (cases_lt q a) [
      | inl first ↦
          let to_start : q + k ≤ a =
          elim (cases_lt a (q + k)) [
            | inl inside ↦ let out = cut.inside a (omega arith) (omega arith) in let is_in = whole.each a (omega arith) inside in absurd cc
            | inr short ↦ short
          ] in
          elim (cases_lt (q + k) a) [
            | inl apart ↦
                let behind : big (q + k) ≡ false = sym (cut.before (q + k) apart) ∙ whole.behind in
                inl (
                  record {
                    some = some;
                    each = λ s from to. sym (cut.before s (omega arith)) ∙ whole.each s from to;
                    before = λ s next. sym (cut.before s (omega arith)) ∙ whole.before s next;
                    behind = behind;
                  },
                  λ same. let is_in = cut.whole.each (q + k) (omega arith) (omega arith) in absurd cc,
                )
            | inr up_to ↦ inr (inl (starts_there big small p l a m q k cut whole (omega arith), ends_there big small p l a m q k cut whole (omega arith)))
          ]
      | inr later ↦
          let past : a + m ≤ q =
          elim (cases_lt q (a + m)) [
            | inl inside ↦ let out = cut.inside q later inside in let is_in = whole.each q (omega arith) (omega arith) in absurd cc
            | inr past ↦ past
          ] in
          let behind : big (q + k) ≡ false = sym (cut.behind (q + k) (omega arith)) ∙ whole.behind in
          elim (cases_lt (a + m) q) [
            | inl apart ↦
                inl (
                  record {
                    some = some;
                    each = λ s from to. sym (cut.behind s (omega arith)) ∙ whole.each s from to;
                    before = λ s next. sym (cut.behind s (omega arith)) ∙ whole.before s next;
                    behind = behind;
                  },
                  λ same. omega arith,
                )
            | inr at ↦
                let enough : p + l ≤ q + k =
                elim (cases_lt (q + k) (p + l)) [
                  | inl short ↦ let is_in = cut.whole.each (q + k) (omega arith) short in absurd cc
                  | inr long ↦ long
                ] in
                let no_more : q + k ≤ p + l =
                elim (cases_lt (p + l) (q + k)) [
                  | inl long ↦
                      let is_in : big (p + l) ≡ true = sym (cut.behind (p + l) high) ∙ whole.each (p + l) (omega arith) long in
                      let out = cut.whole.behind in
                      absurd cc
                  | inr short ↦ short
                ] in
                inr (inr (omega arith, omega arith))
          ]
    ]
