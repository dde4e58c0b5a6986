-- Rows, and the volumes that they name, but for those of a name.
use Rattle.std.proofs.Common.{◌≡◌, ◌≢◌, ℕ, Bool, true, false, true≢false, List, [], ◌∷◌, Option, Some, None, AllPairs, Contains, inl, inr, refl, sym, ap, subst, ◌∙◌}
use Rattle.std.specs.Prelude.{IfSome, cond, filter, not}
use Rattle.std.specs.Cmp.Lexicographic.{slice_cmp}
use Rattle.std.specs.declared.cmp.Ordering.TheVariants.{Greater, Less}
use Rattle.std.specs.List.{AllZip}
use Rattle.std.specs.Ordering.{nat_cmp, ordering_reverse}
use Rattle.std.proofs.lemmas.Cmp.{nat_list_cmp_total}
use Rattle.std.proofs.lemmas.List.Elements.{All-contains}
use Rattle.std.proofs.lemmas.List.Kept.{AllPairs-filter}
use Rattle.meta_objset.proofs.Edits.{apart, pairs_head, pairs_tail}
use Rattle.meta_objset.proofs.Rows.{Before}
use Rattle.meta_objset.specs.declared.directory.DirectoryRow.{DirectoryRow}
use Rattle.meta_objset.specs.Directory.{IsDirectory, IsWithout, LacksName}
use Rattle.meta_objset.specs.Names.{IsBefore, IsNamed}
use Rattle.pool_model.specs.declared.volume.PlainVolume.{PlainVolume}
use Rattle.pool_model.specs.Names.{same}
use Rattle.pool_model.proofs.Places.{is_same, same_is}
use Rattle.dataset_groups.proofs.ListParts.{first_or_later, is_first, is_later, nothing_in}
use Rattle.dataset_groups.proofs.Rows.{names_same, padded_same}

-- ---- what passes a test

passes_first : {X : Type 0} (p : X → Bool) (b : Bool) (y : X) (ys : List X) (x : X) → p y ≡ b → p x ≡ true → (Contains ys x → Contains (filter p ys) x) → Contains (y ∷ ys) x
    → Contains (cond b (y ∷ filter p ys) (filter p ys)) x
passes_first p true y ys x e on rest held = elim (first_or_later y x ys held) [
  | inl same ↦ subst (Contains (y ∷ filter p ys)) same (is_first y (filter p ys))
  | inr later ↦ is_later y x (filter p ys) (rest later)
]
passes_first p false y ys x e on rest held = elim (first_or_later y x ys held) [
  | inl same ↦ absurd (true≢false (sym on ∙ ap p (sym same) ∙ e))
  | inr later ↦ rest later
]

pub passes : {X : Type 0} (p : X → Bool) (xs : List X) (x : X) → p x ≡ true → Contains xs x → Contains (filter p xs) x
passes p [] x on held = absurd (nothing_in x held)
passes p (y ∷ ys) x on held = passes_first p (p y) y ys x refl on (passes p ys x on) held

passed_first : {X : Type 0} (p : X → Bool) (b : Bool) (y : X) (ys : List X) (x : X) → p y ≡ b → (Contains (filter p ys) x → Contains ys x × (p x ≡ true))
    → Contains (cond b (y ∷ filter p ys) (filter p ys)) x → Contains (y ∷ ys) x × (p x ≡ true)
passed_first p true y ys x e rest held = elim (first_or_later y x (filter p ys) held) [
  | inl same ↦ (subst (Contains (y ∷ ys)) same (is_first y ys), ap p (sym same) ∙ e)
  | inr later ↦ let was = rest later in (is_later y x ys was.0, was.1)
]
passed_first p false y ys x e rest held = let was = rest held in (is_later y x ys was.0, was.1)

pub passed : {X : Type 0} (p : X → Bool) (xs : List X) (x : X) → Contains (filter p xs) x → Contains xs x × (p x ≡ true)
passed p [] x held = absurd (nothing_in x held)
passed p (y ∷ ys) x held = passed_first p (p y) y ys x refl (passed p ys x) held

-- what passes it in two lists whose elements go together
zip_first : (R : DirectoryRow → PlainVolume → Type 0) (b c : Bool) (row : DirectoryRow) (volume : PlainVolume) (rows : List DirectoryRow) (volumes : List PlainVolume) → b ≡ c → R row volume
    → AllZip R rows volumes → AllZip R (cond b (row ∷ rows) rows) (cond c (volume ∷ volumes) volumes)
zip_first R true true row volume rows volumes agree is rest = (is, rest)
zip_first R false false row volume rows volumes agree is rest = rest
zip_first R true false row volume rows volumes agree is rest = absurd (true≢false agree)
zip_first R false true row volume rows volumes agree is rest = absurd (true≢false (sym agree))

zip_filter : (R : DirectoryRow → PlainVolume → Type 0) (p : DirectoryRow → Bool) (q : PlainVolume → Bool) → ((row : DirectoryRow) (volume : PlainVolume) → R row volume → p row ≡ q volume)
    → (rows : List DirectoryRow) (volumes : List PlainVolume) → AllZip R rows volumes → AllZip R (filter p rows) (filter q volumes)
zip_filter R p q agree [] [] all = all
zip_filter R p q agree [] (volume ∷ volumes) all = absurd all
zip_filter R p q agree (row ∷ rows) [] all = absurd all
zip_filter R p q agree (row ∷ rows) (volume ∷ volumes) all =
    zip_first R (p row) (q volume) row volume (filter p rows) (filter q volumes) (agree row volume all.0) all.0 (zip_filter R p q agree rows volumes all.1)

-- ---- names

-- whether a row, or a volume, has another name
abbrev pub keeps_row : List ℕ → DirectoryRow → Bool
keeps_row padded row = not (same row.name padded)

abbrev pub keeps_volume : List ℕ → PlainVolume → Bool
keeps_volume name volume = not (same volume.name name)

other_kept : (a b : List ℕ) → a ≢ b → not (same a b) ≡ true
other_kept a b differ = by_test (same a b) refl
  where
    by_test : (t : Bool) → same a b ≡ t → not t ≡ true
    by_test true e = absurd (differ (same_is a b e))
    by_test false e = refl

kept_other : (a b : List ℕ) → not (same a b) ≡ true → a ≢ b
kept_other a b on e = true≢false (sym on ∙ ap not (is_same a b e))

alike : (a b : Bool) → (a ≡ true → b ≡ true) → (b ≡ true → a ≡ true) → a ≡ b
alike true b into back = sym (into refl)
alike false true into back = back refl
alike false false into back = refl

-- a row and its volume both do
keep_alike : (padded name : List ℕ) → IsNamed padded name → (row : DirectoryRow) (volume : PlainVolume) → IsNamed row.name volume.name → keeps_row padded row ≡ keeps_volume name volume
keep_alike padded name named row volume is =
    ap not (alike (same row.name padded) (same volume.name name)
    (λ e. is_same volume.name name (names_same row.name volume.name name is (subst (λ (p : List ℕ). IsNamed p name) (sym (same_is row.name padded e)) named)))
    (λ e. is_same row.name padded (padded_same row.name padded volume.name name is named (same_is volume.name name e))))

-- ---- rows that ascend

not_both : (name other : List ℕ) → IsBefore name other → IsBefore other name → ⊥
not_both name other one two =
    let back : slice_cmp nat_cmp name other ≡ ordering_reverse Less = nat_list_cmp_total.antisymm name other ∙ ap ordering_reverse two in
    let clash : Less ≡ Greater = sym one ∙ back in
    cc

-- a name stands in one row
pub one_named : (rows : List DirectoryRow) (row other : DirectoryRow) → AllPairs Before rows → Contains rows row → Contains rows other → row.name ≡ other.name → row ≡ other
one_named [] row other up held also e = absurd (nothing_in row held)
one_named (first ∷ rows) row other up held also e =
    let differ : (r : DirectoryRow) → Contains rows r → first.name ≢ r.name = λ r there. apart first.name r.name (All-contains (Before first) rows r (pairs_head Before first rows up) there) in
    elim (first_or_later first row rows held) [
      | inl one ↦ elim (first_or_later first other rows also) [
        | inl two ↦ sym one ∙ two
        | inr later ↦ absurd (differ other later (ap (λ (r : DirectoryRow). r.name) one ∙ e))
      ]
      | inr later ↦ elim (first_or_later first other rows also) [
        | inl two ↦ absurd (differ row later (ap (λ (r : DirectoryRow). r.name) two ∙ sym e))
        | inr behind ↦ one_named rows row other (pairs_tail Before first rows up) later behind e
      ]
    ]

first_same : (x y : DirectoryRow) (xs ys : List DirectoryRow) → AllPairs Before (x ∷ xs) → AllPairs Before (y ∷ ys) → Contains (y ∷ ys) x → Contains (x ∷ xs) y → x ≡ y
first_same x y xs ys up also into back = elim (first_or_later y x ys into) [
  | inl one ↦ sym one
  | inr later ↦ elim (first_or_later x y xs back) [
    | inl two ↦ two
    | inr behind ↦
        absurd (not_both x.name y.name (All-contains (Before x) xs y (pairs_head Before x xs up) behind) (All-contains (Before y) ys x (pairs_head Before y ys also) later))
  ]
]

tail_into : (x y : DirectoryRow) (xs ys : List DirectoryRow) → x ≡ y → AllPairs Before (x ∷ xs) → ((r : DirectoryRow) → Contains (x ∷ xs) r → Contains (y ∷ ys) r) → (r : DirectoryRow) → Contains xs r
    → Contains ys r
tail_into x y xs ys e up into r held = elim (first_or_later y r ys (into r (is_later x r xs held))) [
  | inr later ↦ later
  | inl first ↦ absurd (apart x.name r.name (All-contains (Before x) xs r (pairs_head Before x xs up) held) (ap (λ (d : DirectoryRow). d.name) (e ∙ first)))
]

-- they are told by which they are
one_order : (xs ys : List DirectoryRow) → AllPairs Before xs → AllPairs Before ys → ((r : DirectoryRow) → Contains xs r → Contains ys r) → ((r : DirectoryRow) → Contains ys r → Contains xs r)
    → xs ≡ ys
one_order [] [] up also into back = refl
one_order [] (y ∷ ys) up also into back = absurd (nothing_in y (back y (is_first y ys)))
one_order (x ∷ xs) [] up also into back = absurd (nothing_in x (into x (is_first x xs)))
one_order (x ∷ xs) (y ∷ ys) up also into back =
    let e : x ≡ y = first_same x y xs ys up also (into x (is_first x xs)) (back y (is_first y ys)) in
    let rest : xs ≡ ys =
    one_order xs ys (pairs_tail Before x xs up) (pairs_tail Before y ys also) (tail_into x y xs ys e up into) (tail_into y x ys xs (sym e) also back) in
    λ i. e i ∷ rest i

-- those that are left are those of other names, in their order
pub left_are : (rows left : List DirectoryRow) (padded : List ℕ) → IsDirectory rows → IsDirectory left → IsWithout rows padded left → left ≡ filter (keeps_row padded) rows
left_are rows left padded up also are =
    one_order left (filter (keeps_row padded) rows) also.order (AllPairs-filter Before (keeps_row padded) rows up.order)
    (λ r held. let it = (are r).0 held in passes (keeps_row padded) rows r (other_kept r.name padded it.1) it.0)
    (λ r held. let it = passed (keeps_row padded) rows r held in (are r).1 (it.0, kept_other r.name padded it.1))

-- and they name the volumes of other names
pub zip_left : (R : DirectoryRow → PlainVolume → Type 0) → ((row : DirectoryRow) (volume : PlainVolume) → R row volume → IsNamed row.name volume.name) → (rows left : List DirectoryRow)
    (volumes : List PlainVolume) (padded name : List ℕ) → IsDirectory rows → IsDirectory left → IsWithout rows padded left → IsNamed padded name → AllZip R rows volumes
    → AllZip R left (filter (keeps_volume name) volumes)
zip_left R name_of rows left volumes padded name up also are named all =
    subst (λ (rs : List DirectoryRow). AllZip R rs (filter (keeps_volume name) volumes)) (sym (left_are rows left padded up also are))
    (zip_filter R (keeps_row padded) (keeps_volume name) (λ row volume is. keep_alike padded name named row volume (name_of row volume is)) rows volumes all)

-- ---- a name that is taken out

-- where it isn't there the rows stay
pub taken_out : (rows left : List DirectoryRow) (padded : List ℕ) (found : Option ℕ)
    → IfSome found (λ object. Contains rows (record { name = padded; object = object }) × IsWithout rows padded left)
    → (found ≡ None → LacksName rows padded × (left ≡ rows)) → IsWithout rows padded left
taken_out rows left padded (Some object) removed none = removed.1
taken_out rows left padded None removed none =
    let same = none refl in
    subst (IsWithout rows padded) (sym same.1)
    (λ row. (λ held. (held, All-contains (λ (other : DirectoryRow). other.name ≢ padded) rows row same.0 held), λ was. was.0))
