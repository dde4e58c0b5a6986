-- Directories with a name more or less.
use Rattle.std.proofs.Common.{◌≡◌, ◌≢◌, ◌⊎◌, ℕ, zero, suc, ◌+◌, ◌<◌, ◌≤◌, List, [], ◌∷◌, ◌++◌, length, take, drop, get_or, All, AllPairs, Contains, inl, inr, refl, sym, ap, subst, ◌∙◌, add-one, arith}
use Rattle.std.specs.Cmp.Lexicographic.{slice_cmp}
use Rattle.std.specs.declared.cmp.Ordering.{Ordering}
use Rattle.std.specs.declared.cmp.Ordering.TheVariants.{Less, Equal, Greater}
use Rattle.std.specs.FinMap.{nat_cmp-IsAntisymmetric, slice_cmp-IsAntisymmetric}
use Rattle.std.specs.List.{insert, remove}
use Rattle.std.specs.Ordering.{nat_cmp, ordering_reverse}
use Rattle.std.proofs.lemmas.Cmp.{nat_list_cmp_total}
use Rattle.std.proofs.lemmas.List.{take-append-drop, drop_more, length-drop, get_or-drop}
use Rattle.std.proofs.lemmas.List.Elements.{All-cons, All-head, All-tail, All-nil, All-append, All-take, All-drop, All-weaker, All-contains, Contains-append_left, Contains-append_right, Contains-append_cases}
use Rattle.std.proofs.lemmas.List.Kept.{AllPairs-cons}
use Rattle.std.proofs.lemmas.List.Quantifiers.{all_pairs_remove}
use Rattle.meta_objset.specs.declared.directory.DirectoryRow.{DirectoryRow}
use Rattle.meta_objset.specs.Directory.{FitsRow, IsDirectory, IsPlacedAmong, LacksName, IsWith, IsWithout}
use Rattle.meta_objset.specs.Names.{IsBefore}
use Rattle.meta_objset.proofs.Rows.{Before, in_front}

pub pairs_head : {X : Type 0} (R : X → X → Type 0) (x : X) (xs : List X) → AllPairs R (x ∷ xs) → All (R x) xs
pairs_head R x xs pairs k d low = pairs 0 (suc k) d (omega arith) (omega (arith, low))

pub pairs_tail : {X : Type 0} (R : X → X → Type 0) (x : X) (xs : List X) → AllPairs R (x ∷ xs) → AllPairs R xs
pairs_tail R x xs pairs i j d lt low = pairs (suc i) (suc j) d (omega (arith, lt)) (omega (arith, low))

pub all_left : {X : Type 0} (P : X → Type 0) (xs ys : List X) → All P (xs ++ ys) → All P xs
all_left P [] ys all = All-nil P
all_left P (x ∷ xs) ys all = All-cons P x xs (All-head P x (xs ++ ys) all) (all_left P xs ys (All-tail P x (xs ++ ys) all))

pub all_right : {X : Type 0} (P : X → Type 0) (xs ys : List X) → All P (xs ++ ys) → All P ys
all_right P [] ys all = all
all_right P (x ∷ xs) ys all = all_right P xs ys (All-tail P x (xs ++ ys) all)

-- one more between two parts of a list
pub pairs_between : {X : Type 0} (R : X → X → Type 0) (xs ys : List X) (x : X) → AllPairs R (xs ++ ys) → All (λ before. R before x) xs → All (R x) ys → AllPairs R (xs ++ x ∷ ys)
pairs_between R [] ys x pairs before behind = AllPairs-cons R x ys behind pairs
pairs_between R (first ∷ xs) ys x pairs before behind =
    let rest = pairs_head R first (xs ++ ys) pairs in
    AllPairs-cons R first (xs ++ x ∷ ys)
    (All-append (R first) xs (x ∷ ys) (all_left (R first) xs ys rest)
    (All-cons (R first) x ys (All-head (λ before. R before x) first xs before) (all_right (R first) xs ys rest)))
    (pairs_between R xs ys x (pairs_tail R first (xs ++ ys) pairs) (All-tail (λ before. R before x) first xs before) behind)

-- what stands behind an element in the list
pub pairs_behind : {X : Type 0} (R : X → X → Type 0) (xs ys : List X) (x : X) → AllPairs R (xs ++ x ∷ ys) → All (R x) ys
pairs_behind R [] ys x pairs = pairs_head R x ys pairs
pairs_behind R (first ∷ xs) ys x pairs = pairs_behind R xs ys x (pairs_tail R first (xs ++ x ∷ ys) pairs)

is_one : {X : Type 0} (x other : X) → Contains (x ∷ []) other → x ≡ other
is_one x other (zero, low, is) = is
is_one x other (suc k, low, is) = absurd (omega (arith, low))

-- what is in a list with one more in the middle
pub in_middle : {X : Type 0} (xs ys : List X) (x other : X) → Contains (xs ++ x ∷ ys) other → Contains (xs ++ ys) other ⊎ (x ≡ other)
in_middle xs ys x other held =
    elim (Contains-append_cases xs (x ∷ ys) other held) [
      | inl front ↦ inl (Contains-append_left xs ys other front)
      | inr rest ↦
          elim (Contains-append_cases (x ∷ []) ys other rest) [
            | inl one ↦ inr (is_one x other one)
            | inr back ↦ inl (Contains-append_right xs ys other back)
          ]
    ]

pub still_in : {X : Type 0} (xs ys : List X) (x other : X) → Contains (xs ++ ys) other → Contains (xs ++ x ∷ ys) other
still_in xs ys x other held =
    elim (Contains-append_cases xs ys other held) [
      | inl front ↦ Contains-append_left xs (x ∷ ys) other front
      | inr back ↦ Contains-append_right xs (x ∷ ys) other (Contains-append_right (x ∷ []) ys other back)
    ]

pub the_middle : {X : Type 0} (xs ys : List X) (x : X) → Contains (xs ++ x ∷ ys) x
the_middle xs ys x = Contains-append_right xs (x ∷ ys) x (0, omega arith, refl)

-- names before and behind each other differ
pub apart : (name other : List ℕ) → IsBefore name other → name ≢ other
apart name other before same =
    let twice : slice_cmp nat_cmp other other ≡ Less = subst (λ n. slice_cmp nat_cmp n other ≡ Less) same before in
    let back : slice_cmp nat_cmp other other ≡ ordering_reverse Less = nat_list_cmp_total.antisymm other other ∙ ap ordering_reverse twice in
    let clash : Less ≡ Greater = sym twice ∙ back in
    cc

-- a name that is not before another, and not the same, is behind it
is_behind : (name other : List ℕ) → ¬ IsBefore name other → name ≢ other → IsBefore other name
is_behind name other not differ = by_order (slice_cmp nat_cmp name other) refl
  where
    by_order : (order : Ordering) → slice_cmp nat_cmp name other ≡ order → IsBefore other name
    by_order Less is = absurd (not is)
    by_order Equal is = absurd (differ (slice_cmp-IsAntisymmetric nat_cmp-IsAntisymmetric name other is))
    by_order Greater is = nat_list_cmp_total.antisymm other name ∙ ap ordering_reverse is

pairs_drop : (rows : List DirectoryRow) (n i j : ℕ) (d : DirectoryRow) → i < j → j < length (drop n rows) → AllPairs Before rows → Before (get_or (drop n rows) i d) (get_or (drop n rows) j d)
pairs_drop rows n i j d lt low pairs =
    subst (λ (other : DirectoryRow). Before other (get_or (drop n rows) j d)) (sym (get_or-drop n rows i d))
    (subst (λ (other : DirectoryRow). Before (get_or rows (n + i) d) other) (sym (get_or-drop n rows j d)) (pairs (n + i) (n + j) d (omega (arith, lt)) (omega (arith, low, length-drop n rows))))

-- a row that is put where its name belongs
module _ (rows : List DirectoryRow) (row : DirectoryRow) (at : ℕ) (is : IsDirectory rows) (lacks : LacksName rows row.name) (before : All (λ other. Before other row) (take at rows))
    (behind : (other : DirectoryRow) → at < length rows → ¬ IsBefore (get_or rows at other).name row.name) where
  parts : take at rows ++ drop at rows ≡ rows
  parts = take-append-drop at rows

  behind_it : (rest : List DirectoryRow) → drop at rows ≡ rest → All (Before row) rest
  behind_it [] same = All-nil (Before row)
  behind_it (first ∷ rest) same =
      let left : at < length rows = omega (arith, ap length same, length-drop at rows) in
      let cut : drop at rows ≡ get_or rows at row ∷ drop (at + 1) rows = drop_more rows at row left in
      let first_is : get_or rows at row ≡ first = let both : get_or rows at row ∷ drop (at + 1) rows ≡ first ∷ rest = sym cut ∙ same in cc in
      let next : Before row first = subst (λ (other : DirectoryRow). Before row other) first_is
      (is_behind (get_or rows at row).name row.name (behind row left) (lacks at row left)) in
      let order : AllPairs Before (first ∷ rest) = subst (AllPairs Before) same (λ i j d lt low. pairs_drop rows at i j d lt low is.order) in
      All-cons (Before row) first rest next
      (All-weaker (Before first) (Before row) (λ later after. nat_list_cmp_total.trans row.name first.name later.name next after) rest (pairs_head Before first rest order))

  pub with_row : FitsRow row → IsDirectory (insert rows at row)
  with_row fits = record {
    each = All-append FitsRow (take at rows) (row ∷ drop at rows) (All-take FitsRow at rows is.each) (All-cons FitsRow row (drop at rows) fits (All-drop FitsRow at rows is.each));
    order = pairs_between Before (take at rows) (drop at rows) row (subst (AllPairs Before) (sym parts) is.order) before (behind_it (drop at rows) refl);
  }

  pub row_placed : at ≤ length rows → IsPlacedAmong rows row (insert rows at row)
  row_placed within = record { at = at; within = within; front = before; behind = behind_it (drop at rows) refl; placed = refl }

pub row_added : (rows : List DirectoryRow) (row : DirectoryRow) (at : ℕ) → IsWith rows row (insert rows at row)
row_added rows row at other = (
  λ held. elim (in_middle (take at rows) (drop at rows) row other held) [
    | inl there ↦ inl (subst (λ all. Contains all other) (take-append-drop at rows) there)
    | inr one ↦ inr (sym one)
  ],
  λ either. elim either [
    | inl there ↦ still_in (take at rows) (drop at rows) row other (subst (λ all. Contains all other) (sym (take-append-drop at rows)) there)
    | inr one ↦ subst (λ (r : DirectoryRow). Contains (insert rows at row) r) (sym one) (the_middle (take at rows) (drop at rows) row)
  ],
)

-- a row is taken out
module _ (rows : List DirectoryRow) (at : ℕ) (row : DirectoryRow) (low : at < length rows) (is : IsDirectory rows) (here : get_or rows at row ≡ row) where
  whole : rows ≡ take at rows ++ row ∷ drop (suc at) rows
  whole =
      sym (take-append-drop at rows)
      ∙ ap (λ (rest : List DirectoryRow). take at rows ++ rest) (drop_more rows at row low ∙ ap (λ (first : DirectoryRow). first ∷ drop (at + 1) rows) here ∙ ap (λ n. row ∷ drop n rows) (add-one at))

  order_is : AllPairs Before (take at rows ++ row ∷ drop (suc at) rows)
  order_is = subst (AllPairs Before) whole is.order

  pub without_row : IsDirectory (remove rows at)
  without_row = record {
    each = All-append FitsRow (take at rows) (drop (suc at) rows) (All-take FitsRow at rows is.each) (All-drop FitsRow (suc at) rows is.each);
    order = all_pairs_remove Before rows at low is.order;
  }

  others_apart : (other : DirectoryRow) → Contains (remove rows at) other → other.name ≢ row.name
  others_apart other held =
      elim (Contains-append_cases (take at rows) (drop (suc at) rows) other held) [
        | inl front ↦ apart other.name row.name (All-contains (λ before. Before before row) (take at rows) other (in_front (take at rows) (drop (suc at) rows) row order_is) front)
        | inr back ↦ λ same. apart row.name other.name (All-contains (Before row) (drop (suc at) rows) other (pairs_behind Before (take at rows) (drop (suc at) rows) row order_is) back) (sym same)
      ]

  pub row_taken : IsWithout rows row.name (remove rows at)
  row_taken other = (
    λ held. (subst (λ all. Contains all other) (sym whole) (still_in (take at rows) (drop (suc at) rows) row other held), others_apart other held),
    λ (held, differ). elim (in_middle (take at rows) (drop (suc at) rows) row other (subst (λ all. Contains all other) whole held)) [
      | inl there ↦ there
      | inr one ↦ absurd (differ (ap (λ (r : DirectoryRow). r.name) (sym one)))
    ],
  )

  pub row_there : Contains rows row
  row_there = subst (λ all. Contains all row) (sym whole) (the_middle (take at rows) (drop (suc at) rows) row)
