-- Rows in the order of their keys, each key once, and edits of them.
use Rattle.std.proofs.Common.{◌≡◌, ◌≢◌, ◌⊎◌, ◌↔◌, ℕ, suc, ◌+◌, ◌-◌, ◌*◌, ◌<◌, List, [], ◌∷◌, ◌++◌, length, take, drop, get_or, set, All, AllPairs, Contains, inl, inr, refl, sym, ap, subst, ◌∙◌, add-one, arith}
use Rattle.std.specs.List.{flat_map, insert, remove}
use Rattle.std.proofs.Math.ListN.{get_or-append}
use Rattle.std.proofs.Math.Seq.{get_or-append_seam}
use Rattle.std.proofs.lemmas.Bool.{cases_lt}
use Rattle.std.proofs.lemmas.List.{set_at, take-append-drop, drop_more, length-append, length-drop, length-take-le, get_or-drop}
use Rattle.std.proofs.lemmas.List.Elements.{All-cons, All-nil, All-append, All-take, All-drop, All-weaker, All-contains, All-from_get_or, Contains-append_cases}
use Rattle.std.proofs.lemmas.List.Quantifiers.{all_pairs_remove, all_pairs_push}
use Rattle.meta_objset.proofs.Edits.{pairs_head, pairs_between, pairs_behind, in_middle, still_in, the_middle}
use Rattle.meta_objset.proofs.InOrder.{AreRead, first_left}

-- one key stands before another, or they are the same
pub record IsOrder {K : Type 0} (Lt : K → K → Type 0) : Type 0 where
  pub apart : (a b : K) → Lt a b → a ≢ b
  pub behind : (a b : K) → ¬ Lt a b → a ≢ b → Lt b a
  pub through : (a b c : K) → Lt a b → Lt b c → Lt a c

-- the key of a row stands before that of another
abbrev pub ByKey : (X K : Type 0) → (X → K) → (K → K → Type 0) → X → X → Type 0
ByKey X K key Lt row later = Lt (key row) (key later)

-- rows that fit, in order
pub record AreOrdered {X : Type 0} (Fits : X → Type 0) (Before : X → X → Type 0) (rows : List X) : Type 0 where
  pub each : All Fits rows
  pub order : AllPairs Before rows

-- a row behind others stands behind each of them
pub in_front : {X : Type 0} (Before : X → X → Type 0) (rows others : List X) (row : X) → AllPairs Before (rows ++ row ∷ others) → All (λ before. Before before row) rows
in_front {X} Before rows others row order =
    All-from_get_or (λ before. Before before row) rows row
    (λ k lt. subst (λ (before : X). Before before row) (get_or-append rows (row ∷ others) row k lt)
    (subst (λ (later : X). Before (get_or (rows ++ row ∷ others) k row) later) (get_or-append_seam rows row others row)
    (order k (length rows) row lt (omega (arith, length-append rows (row ∷ others))))))

-- what stands behind the last row stands behind each
pub behind_each : {X : Type 0} (Before : X → X → Type 0) → ((a b c : X) → Before a b → Before b c → Before a c) → (rows : List X) (last row : X) → AllPairs Before rows → 0 < length rows
    → get_or rows (length rows - 1) last ≡ last → Before last row → All (λ before. Before before row) rows
behind_each {X} Before through rows last row order some is behind =
    All-from_get_or (λ before. Before before row) rows last
    (λ k lt. elim (cases_lt k (length rows - 1)) [
      | inl before ↦ through (get_or rows k last) last row (subst (λ (later : X). Before (get_or rows k last) later) is (order k (length rows - 1) last before (omega (arith, some)))) behind
      | inr most ↦ let at : length rows - 1 ≡ k = omega (arith, most, lt) in subst (λ (before : X). Before before row) (sym is ∙ ap (λ n. get_or rows n last) at) behind
    ])

pub pushed_order : {X : Type 0} (Before : X → X → Type 0) (rows : List X) (row : X) → AllPairs Before rows → All (λ before. Before before row) rows → AllPairs Before (rows ++ row ∷ [])
pushed_order Before rows row order behind = all_pairs_push Before rows row order (λ k d lt. behind k d lt)

-- the rows read so far
pub record AreReadInOrder {X : Type 0} (spelling : X → List ℕ) (Fits : X → Type 0) (Before : X → X → Type 0) (bytes rest : List ℕ) (rows : List X) : Type 0 where
  pub read : AreRead spelling Fits bytes rest rows
  pub order : AllPairs Before rows

-- a row that stands at the front of what is left stands behind those that were read, in any list of rows in order
pub next_is_behind : {X : Type 0} (spelling : X → List ℕ) (Fits : X → Type 0) (Before : X → X → Type 0) (bytes rest more : List ℕ) (rows : List X) (row : X) → AreRead spelling Fits bytes rest rows
    → 0 < length rest → ((other : X) (behind : List ℕ) → Fits other → rest ≡ spelling other ++ behind → (row ≡ other) × (more ≡ behind)) → (whole : List X) → All Fits whole → AllPairs Before whole
    → bytes ≡ flat_map spelling whole → All (λ before. Before before row) rows
next_is_behind {X} spelling Fits Before bytes rest more rows row so_far some one whole each order spelled =
    let known = so_far.only whole each spelled in
    let first = first_left spelling Fits rest known.0 some known.1 known.3 in
    let same = one first.0 (flat_map spelling first.1) first.3 first.4 in
    let back : whole ≡ rows ++ row ∷ first.1 = known.2 ∙ ap (λ (left : List X). rows ++ left) (first.2 ∙ ap (λ (r : X). r ∷ first.1) (sym same.0)) in
    in_front Before rows first.1 row (subst (AllPairs Before) back order)

-- rows of 32 bytes
pub rows_of_32 : {X : Type 0} (spelling : X → List ℕ) (rows : List X) → ((row : X) → length (spelling row) ≡ 32) → length (flat_map spelling rows) ≡ 32 * length rows
rows_of_32 spelling [] len = refl
rows_of_32 spelling (row ∷ rows) len =
    let rest = rows_of_32 spelling rows len in
    omega (arith, length-append (spelling row) (flat_map spelling rows), len row, rest)

-- no rows have no bytes
pub none_left : {X : Type 0} (spelling : X → List ℕ) (left : List X) (rest : List ℕ) → ((row : X) → length (spelling row) ≡ 32) → rest ≡ flat_map spelling left → length rest ≡ 0 → left ≡ []
none_left spelling [] rest len e none = refl
none_left spelling (row ∷ rows) rest len e none = absurd (omega (arith, ap length e, none, length-append (spelling row) (flat_map spelling rows), len row))

-- the rows before, with this one for its key
abbrev pub IsSet : {X K : Type 0} → (X → K) → List X → X → List X → Type 0
IsSet {X} key before row after = (other : X) → Contains after other ↔ ((Contains before other × (key other ≢ key row)) ⊎ (other ≡ row))

-- the rows before, without the one of that key
abbrev pub IsTaken : {X K : Type 0} → (X → K) → List X → K → List X → Type 0
IsTaken {X} key before k after = (other : X) → Contains after other ↔ (Contains before other × (key other ≢ k))

-- a row that is put where its key belongs
module _ {X K : Type 0} (key : X → K) (Lt : K → K → Type 0) (is : IsOrder Lt) (Fits : X → Type 0) (rows : List X) (row : X) (at : ℕ) (ordered : AreOrdered Fits (ByKey X K key Lt) rows)
    (lacks : All (λ other. key other ≢ key row) rows) (before : All (λ other. Lt (key other) (key row)) (take at rows))
    (behind : (other : X) → at < length rows → ¬ Lt (key (get_or rows at other)) (key row)) where
  pairs_drop : (n : ℕ) → AllPairs (ByKey X K key Lt) (drop n rows)
  pairs_drop n i j d lt low =
      subst (λ (other : X). ByKey X K key Lt other (get_or (drop n rows) j d)) (sym (get_or-drop n rows i d))
      (subst (λ (other : X). ByKey X K key Lt (get_or rows (n + i) d) other) (sym (get_or-drop n rows j d)) (ordered.order (n + i) (n + j) d (omega (arith, lt)) (omega (arith, low, length-drop n rows))))

  behind_it : (rest : List X) → drop at rows ≡ rest → All (ByKey X K key Lt row) rest
  behind_it [] same = All-nil (ByKey X K key Lt row)
  behind_it (first ∷ rest) same =
      let left : at < length rows = omega (arith, ap length same, length-drop at rows) in
      let cut : drop at rows ≡ get_or rows at row ∷ drop (at + 1) rows = drop_more rows at row left in
      let first_is : get_or rows at row ≡ first = let both : get_or rows at row ∷ drop (at + 1) rows ≡ first ∷ rest = sym cut ∙ same in cc in
      let next : ByKey X K key Lt row first = subst (λ (other : X). ByKey X K key Lt row other) first_is (is.behind (key (get_or rows at row)) (key row) (behind row left) (lacks at row left)) in
      let order : AllPairs (ByKey X K key Lt) (first ∷ rest) = subst (AllPairs (ByKey X K key Lt)) same (pairs_drop at) in
      All-cons (ByKey X K key Lt row) first rest next (All-weaker (ByKey X K key Lt first) (ByKey X K key Lt row) (λ later after. is.through (key row) (key first) (key later) next after) rest (pairs_head (ByKey X K key Lt) first rest order))

  pub inserted_ordered : Fits row → AreOrdered Fits (ByKey X K key Lt) (insert rows at row)
  inserted_ordered fits = record {
    each = All-append Fits (take at rows) (row ∷ drop at rows) (All-take Fits at rows ordered.each) (All-cons Fits row (drop at rows) fits (All-drop Fits at rows ordered.each));
    order = pairs_between (ByKey X K key Lt) (take at rows) (drop at rows) row (subst (AllPairs (ByKey X K key Lt)) (sym (take-append-drop at rows)) ordered.order) before (behind_it (drop at rows) refl);
  }

pub inserted_set : {X K : Type 0} (key : X → K) (rows : List X) (row : X) (at : ℕ) → All (λ other. key other ≢ key row) rows → IsSet key rows row (insert rows at row)
inserted_set {X} key rows row at lacks other = (
  λ held. elim (in_middle (take at rows) (drop at rows) row other held) [
    | inl there ↦ let in_rows = subst (λ all. Contains all other) (take-append-drop at rows) there in inl (in_rows, All-contains (λ (o : X). key o ≢ key row) rows other lacks in_rows)
    | inr one ↦ inr (sym one)
  ],
  λ either. elim either [
    | inl there ↦ still_in (take at rows) (drop at rows) row other (subst (λ all. Contains all other) (sym (take-append-drop at rows)) there.0)
    | inr one ↦ subst (λ (r : X). Contains (insert rows at row) r) (sym one) (the_middle (take at rows) (drop at rows) row)
  ],
)

-- a row is taken out, or another of its key put in its place
module _ {X K : Type 0} (key : X → K) (Lt : K → K → Type 0) (is : IsOrder Lt) (Fits : X → Type 0) (rows : List X) (at : ℕ) (old : X) (ordered : AreOrdered Fits (ByKey X K key Lt) rows)
    (low : at < length rows) (here : get_or rows at old ≡ old) where
  whole : rows ≡ take at rows ++ old ∷ drop (suc at) rows
  whole =
      sym (take-append-drop at rows)
      ∙ ap (λ (rest : List X). take at rows ++ rest) (drop_more rows at old low ∙ ap (λ (first : X). first ∷ drop (at + 1) rows) here ∙ ap (λ n. old ∷ drop n rows) (add-one at))

  order_is : AllPairs (ByKey X K key Lt) (take at rows ++ old ∷ drop (suc at) rows)
  order_is = subst (AllPairs (ByKey X K key Lt)) whole ordered.order

  front : All (λ other. ByKey X K key Lt other old) (take at rows)
  front = in_front (ByKey X K key Lt) (take at rows) (drop (suc at) rows) old order_is

  back : All (ByKey X K key Lt old) (drop (suc at) rows)
  back = pairs_behind (ByKey X K key Lt) (take at rows) (drop (suc at) rows) old order_is

  pub taken_ordered : AreOrdered Fits (ByKey X K key Lt) (remove rows at)
  taken_ordered = record {
    each = All-append Fits (take at rows) (drop (suc at) rows) (All-take Fits at rows ordered.each) (All-drop Fits (suc at) rows ordered.each);
    order = all_pairs_remove (ByKey X K key Lt) rows at low ordered.order;
  }

  others_apart : (other : X) → Contains (remove rows at) other → key other ≢ key old
  others_apart other held =
      elim (Contains-append_cases (take at rows) (drop (suc at) rows) other held) [
        | inl first ↦ is.apart (key other) (key old) (All-contains (λ before. ByKey X K key Lt before old) (take at rows) other front first)
        | inr last ↦ λ same. is.apart (key old) (key other) (All-contains (ByKey X K key Lt old) (drop (suc at) rows) other back last) (sym same)
      ]

  pub is_taken : IsTaken key rows (key old) (remove rows at)
  is_taken other = (
    λ held. (subst (λ all. Contains all other) (sym whole) (still_in (take at rows) (drop (suc at) rows) old other held), others_apart other held),
    λ (held, differ). elim (in_middle (take at rows) (drop (suc at) rows) old other (subst (λ all. Contains all other) whole held)) [
      | inl there ↦ there
      | inr one ↦ absurd (differ (ap key (sym one)))
    ],
  )

  pub old_there : Contains rows old
  old_there = subst (λ all. Contains all old) (sym whole) (the_middle (take at rows) (drop (suc at) rows) old)

  put_is : (row : X) → set rows at row ≡ take at rows ++ row ∷ drop (suc at) rows
  put_is row = ap (λ all. set all at row) whole ∙ set_at (take at rows) old (drop (suc at) rows) row at (length-take-le at rows (omega (arith, low)))

  pub put_ordered : (row : X) → Fits row → key old ≡ key row → AreOrdered Fits (ByKey X K key Lt) (set rows at row)
  put_ordered row fits same =
      subst (AreOrdered Fits (ByKey X K key Lt)) (sym (put_is row))
      (record {
        each = All-append Fits (take at rows) (row ∷ drop (suc at) rows) (All-take Fits at rows ordered.each) (All-cons Fits row (drop (suc at) rows) fits (All-drop Fits (suc at) rows ordered.each));
        order = pairs_between (ByKey X K key Lt) (take at rows) (drop (suc at) rows) row taken_ordered.order (subst (λ (k : K). All (λ other. Lt (key other) k) (take at rows)) same front)
            (subst (λ (k : K). All (λ other. Lt k (key other)) (drop (suc at) rows)) same back);
      })

  pub put_set : (row : X) → key old ≡ key row → IsSet key rows row (set rows at row)
  put_set row same = subst (IsSet key rows row) (sym (put_is row)) each
    where
      each : IsSet key rows row (take at rows ++ row ∷ drop (suc at) rows)
      each other = (
        λ held. elim (in_middle (take at rows) (drop (suc at) rows) row other held) [
          | inl there ↦ let known = (is_taken other).0 there in inl (known.0, subst (λ (k : K). key other ≢ k) same known.1)
          | inr one ↦ inr (sym one)
        ],
        λ either. elim either [
          | inl there ↦ still_in (take at rows) (drop (suc at) rows) row other ((is_taken other).1 (there.0, subst (λ (k : K). key other ≢ k) (sym same) there.1))
          | inr one ↦ subst (λ (r : X). Contains (take at rows ++ row ∷ drop (suc at) rows) r) (sym one) (the_middle (take at rows) (drop (suc at) rows) row)
        ],
      )
