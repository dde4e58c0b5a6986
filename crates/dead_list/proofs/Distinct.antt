-- Lists without an element twice.
use Rattle.std.proofs.Common.{ℕ, ◌≡◌, ◌≢◌, ◌<◌, ◌+◌, ◌-◌, inl, inr, List, [], ◌++◌, get_or, set, length, Contains, refl, sym, ap, ◌∙◌, subst, arith}
use Rattle.std.specs.Prelude.{IsPermutation}
use Rattle.std.specs.List.{AllPairs, swap}
use Rattle.std.proofs.lemmas.Bool.{cases_lt, cases_eq}
use Rattle.std.proofs.lemmas.List.{get_or-append-add, get_or_append_left, get_or-set_same, get_or-set_other, length-append, length-set}
use Rattle.std.proofs.lemmas.List.Edits.{swap_is, length-swap}
use Rattle.std.proofs.lemmas.List.Elements.{Contains-get_or}
use Rattle.std.proofs.lemmas.List.Sorted.{IsPermutation-keeps}

module _ {X : Type 0} where
  abbrev pub Distinct : List X → Type 0
  Distinct xs = AllPairs (λ x later. x ≢ later) xs

  pub distinct_none : Distinct []
  distinct_none i j d before within = absurd (omega (arith, within))

  apart : (xs : List X) → Distinct xs → (i j : ℕ) (d : X) → i ≢ j → i < length xs → j < length xs → get_or xs i d ≢ get_or xs j d
  apart xs h i j d ne low high e = elim (cases_lt i j) [
    | inl less ↦ h i j d less high e
    | inr more ↦ h j i d (omega (arith, more, ne)) low (sym e)
  ]

  pub distinct_left : (xs ys : List X) → Distinct (xs ++ ys) → Distinct xs
  distinct_left xs ys h i j d before within e =
      let low : i < length xs = omega (arith, before, within) in
      h i j d before (omega (arith, within, length-append xs ys)) (get_or_append_left xs ys d i low ∙ e ∙ sym (get_or_append_left xs ys d j within))

  pub distinct_right : (xs ys : List X) → Distinct (xs ++ ys) → Distinct ys
  distinct_right xs ys h i j d before within e =
      h (length xs + i) (length xs + j) d (omega (arith, before)) (omega (arith, within, length-append xs ys)) (get_or-append-add xs ys i d ∙ e ∙ sym (get_or-append-add xs ys j d))

  -- two lists with nothing in common
  pub distinct_both : (xs ys : List X) → Distinct xs → Distinct ys → ((x : X) → Contains xs x → ¬ Contains ys x) → Distinct (xs ++ ys)
  distinct_both xs ys first second none i j d before within e =
      let long = length-append xs ys in
      elim (cases_lt j (length xs)) [
        | inl low ↦ first i j d before low (sym (get_or_append_left xs ys d i (omega (arith, before, low))) ∙ e ∙ get_or_append_left xs ys d j low)
        | inr past ↦
            let there : length xs + (j - length xs) ≡ j = omega (arith, past) in
            let at : get_or (xs ++ ys) j d ≡ get_or ys (j - length xs) d = ap (λ k. get_or (xs ++ ys) k d) (sym there) ∙ get_or-append-add xs ys (j - length xs) d in
            let inside : j - length xs < length ys = omega (arith, past, within, long) in
            elim (cases_lt i (length xs)) [
              | inl low ↦ none (get_or xs i d) (Contains-get_or xs i d low)
                  (subst (Contains ys) (sym at ∙ sym e ∙ get_or_append_left xs ys d i low) (Contains-get_or ys (j - length xs) d inside))
              | inr high ↦
                  let here : length xs + (i - length xs) ≡ i = omega (arith, high) in
                  second (i - length xs) (j - length xs) d (omega (arith, before, high)) inside
                  (sym (get_or-append-add xs ys (i - length xs) d) ∙ ap (λ k. get_or (xs ++ ys) k d) here ∙ e ∙ at)
            ]
      ]

  -- where an element of a list stood before two were exchanged
  record IsMoved (xs : List X) (a b k from : ℕ) : Type 0 where
    pub within : from < length xs
    pub reads : (d : X) → get_or (swap xs a b) k d ≡ get_or xs from d
    pub last : k ≡ b → from ≡ a
    pub first : k ≢ b → k ≡ a → from ≡ b
    pub other : k ≢ b → k ≢ a → from ≡ k

  moved : (xs : List X) (a b k : ℕ) → a < length xs → b < length xs → k < length xs → (from : ℕ) × IsMoved xs a b k from
  moved xs a b k p q r =
      elim (cases_eq k b) [
        | inl e ↦ (
          a,
          record {
            within = p;
            reads = λ d. ap (λ l. get_or l k d) (sym (swap_is xs a b d p q)) ∙ ap (λ n. get_or (set (set xs a (get_or xs b d)) b (get_or xs a d)) n d) e ∙ get_or-set_same (set xs a (get_or xs b d)) b (get_or xs a d) d (omega (arith, q, length-set xs a (get_or xs b d)));
            last = λ f. refl;
            first = λ ne f. absurd (ne e);
            other = λ ne f. absurd (ne e);
          },
        )
        | inr nb ↦ elim (cases_eq k a) [
          | inl e ↦ (
            b,
            record {
              within = q;
              reads = λ d. ap (λ l. get_or l k d) (sym (swap_is xs a b d p q)) ∙ get_or-set_other (set xs a (get_or xs b d)) b k (get_or xs a d) d nb ∙ ap (λ n. get_or (set xs a (get_or xs b d)) n d) e ∙ get_or-set_same xs a (get_or xs b d) d p;
              last = λ f. absurd (nb f);
              first = λ ne f. refl;
              other = λ ne na. absurd (na e);
            },
          )
          | inr na ↦ (
            k,
            record {
              within = r;
              reads = λ d. ap (λ l. get_or l k d) (sym (swap_is xs a b d p q)) ∙ get_or-set_other (set xs a (get_or xs b d)) b k (get_or xs a d) d nb ∙ get_or-set_other xs a k (get_or xs b d) d na;
              last = λ f. absurd (nb f);
              first = λ ne f. absurd (na f);
              other = λ ne na. refl;
            },
          )
        ]
      ]

  other_places : (xs : List X) (a b i j : ℕ) → i < j → (one : (from : ℕ) × IsMoved xs a b i from) → (two : (from : ℕ) × IsMoved xs a b j from) → one.0 ≢ two.0
  other_places xs a b i j before one two e =
      elim (cases_eq i b) [
        | inl ib ↦ elim (cases_eq j a) [
          | inl ja ↦ omega (arith, before, ib, ja, one.1.last ib, two.1.first (omega (arith, before, ib)) ja, e)
          | inr na ↦ omega (arith, before, ib, na, one.1.last ib, two.1.other (omega (arith, before, ib)) na, e)
        ]
        | inr nib ↦ elim (cases_eq j b) [
          | inl jb ↦ elim (cases_eq i a) [
            | inl ia ↦ omega (arith, before, jb, ia, two.1.last jb, one.1.first nib ia, e)
            | inr na ↦ omega (arith, before, jb, na, two.1.last jb, one.1.other nib na, e)
          ]
          | inr njb ↦ elim (cases_eq i a) [
            | inl ia ↦ omega (arith, before, njb, ia, one.1.first nib ia, two.1.other njb (omega (arith, before, ia)), e)
            | inr na ↦ elim (cases_eq j a) [
              | inl ja ↦ omega (arith, before, nib, ja, two.1.first njb ja, one.1.other nib na, e)
              | inr nja ↦ omega (arith, before, two.1.other njb nja, one.1.other nib na, e)
            ]
          ]
        ]
      ]

  distinct_swapped : (xs : List X) (a b : ℕ) → a < length xs → b < length xs → Distinct xs → Distinct (swap xs a b)
  distinct_swapped xs a b p q h i j d before within e =
      let long = length-swap xs a b in
      let one = moved xs a b i p q (omega (arith, before, within, long)) in
      let two = moved xs a b j p q (omega (arith, within, long)) in
      apart xs h one.0 two.0 d (other_places xs a b i j before one two) one.1.within two.1.within (sym (one.1.reads d) ∙ e ∙ two.1.reads d)

  pub distinct_permuted : (xs ys : List X) → IsPermutation xs ys → Distinct xs → Distinct ys
  distinct_permuted xs ys moved h = IsPermutation-keeps xs Distinct h (λ l a b p q k. distinct_swapped l a b p q k) ys moved
