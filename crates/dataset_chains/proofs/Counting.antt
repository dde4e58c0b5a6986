-- The clones of snapshots are counted.
use Rattle.std.proofs.Common.{◌≡◌, ◌≢◌, ◌↔◌, ◌+◌, ◌==◌, if◌then◌else◌, ℕ, List, [], ◌∷◌, ◌++◌, length, get_or, map, Contains, inl, inr, refl, sym, ap, subst, ◌∙◌, arith}
use Rattle.std.specs.Prelude.{AllPairs}
use Rattle.std.proofs.lemmas.Bool.{cases_eq, cond-true, cond-false, eq-eqb, ne_eqb}
use Rattle.std.proofs.lemmas.List.{length-map, get_or-map, length_push}
use Rattle.std.proofs.lemmas.List.Elements.{Contains-get_or, Contains-push, Contains-push_cases, Contains-append_left}
use Rattle.std.proofs.lemmas.List.Quantifiers.{all_pairs_push}
use Rattle.raidz_io.proofs.Agree.{Contains-map_cases}
use Rattle.raidz_io.proofs.Rebuilt.{Contains-map}
use Rattle.dead_list.specs.Datasets.{Pool}
use Rattle.dataset_chains.specs.Chains.{HasCloneCount}

-- a number names the snapshot as the one before, and doesn't come after it in its chain
abbrev pub IsCloneOf : Pool → ℕ → ℕ → Type 0
IsCloneOf pool s m = ((pool.datasets m).before ≡ s) × (m ≢ pool.next s)

module _ (pool is : Pool) (s : ℕ) where
  -- with the same clones the count is the same
  pub count_stays : (count : ℕ) → ((m : ℕ) → IsCloneOf is s m ↔ IsCloneOf pool s m) → HasCloneCount pool s count → HasCloneCount is s count
  count_stays count same has = (
    has.0,
    record {
      which = λ m. (λ held. (same m).1 ((has.1.which m).0 held), λ there. (has.1.which m).1 ((same m).0 there));
      once = has.1.once;
    },
    has.2,
  )

  -- with one clone more it is more by one
  pub count_more : (count n : ℕ) → ¬ IsCloneOf pool s n → IsCloneOf is s n → ((m : ℕ) → m ≢ n → IsCloneOf is s m ↔ IsCloneOf pool s m) → HasCloneCount pool s count → HasCloneCount is s (count + 1)
  count_more count n new here same has = (
    has.0 ++ n ∷ [],
    record {
      which = λ m. (
        λ held. elim (Contains-push_cases has.0 n m held) [
          | inl there ↦
              let was = (has.1.which m).0 there in
              (same m (λ e. new (subst (λ (k : ℕ). IsCloneOf pool s k) e was))).1 was
          | inr e ↦ subst (λ (k : ℕ). IsCloneOf is s k) e here
        ],
        λ there. elim (cases_eq m n) [
          | inl e ↦ subst (λ (k : ℕ). Contains (has.0 ++ n ∷ []) k) (sym e) (Contains-push has.0 n)
          | inr ne ↦ Contains-append_left has.0 (n ∷ []) m ((has.1.which m).1 ((same m ne).0 there))
        ],
      );
      once = all_pairs_push (λ clone later. clone ≢ later) has.0 n has.1.once
          (λ k d below e. new ((has.1.which n).0 (subst (Contains has.0) e (Contains-get_or has.0 k d below))));
    },
    omega (arith, has.2, length_push has.0 n),
  )

  -- one clone gives way to another
  module _ (h n : ℕ) where
    instead : ℕ → ℕ
    instead k = if k == h then n else k

    instead_h : instead h ≡ n
    unfolding instead
    instead_h = cond-true _ _ _ (eq-eqb h h refl)

    instead_other : (k : ℕ) → k ≢ h → instead k ≡ k
    unfolding instead
    instead_other k ne = cond-false _ _ _ (ne_eqb k h ne)

    one_instead : (xs : List ℕ) → ¬ Contains xs n → (x y : ℕ) → Contains xs x → Contains xs y → x ≢ y → instead x ≢ instead y
    one_instead xs none x y hx hy ne e = elim (cases_eq x h) [
      | inl xh ↦ elim (cases_eq y h) [
        | inl yh ↦ ne (xh ∙ sym yh)
        | inr nyh ↦ none (subst (Contains xs) (sym (instead_other y nyh) ∙ sym e ∙ ap instead xh ∙ instead_h) hy)
      ]
      | inr nxh ↦ elim (cases_eq y h) [
        | inl yh ↦ none (subst (Contains xs) (sym (instead_other x nxh) ∙ e ∙ ap instead yh ∙ instead_h) hx)
        | inr nyh ↦ ne (sym (instead_other x nxh) ∙ e ∙ instead_other y nyh)
      ]
    ]

    once_instead : (xs : List ℕ) → ¬ Contains xs n → AllPairs (λ clone later. clone ≢ later) xs → AllPairs (λ clone later. clone ≢ later) (map instead xs)
    once_instead xs none once i j d before within e =
        let high : length (map instead xs) ≡ length xs = length-map xs instead in
        one_instead xs none (get_or xs i d) (get_or xs j d) (Contains-get_or xs i d (omega (arith, before, within, high))) (Contains-get_or xs j d (omega (arith, within, high)))
        (once i j d before (omega (arith, within, high)))
        (sym (get_or-map instead xs i d d (omega (arith, before, within, high))) ∙ e ∙ get_or-map instead xs j d d (omega (arith, within, high)))

    pub count_passes : (count : ℕ) → IsCloneOf pool s h → ¬ IsCloneOf pool s n → IsCloneOf is s n → ¬ IsCloneOf is s h
        → ((m : ℕ) → m ≢ h → m ≢ n → IsCloneOf is s m ↔ IsCloneOf pool s m) → HasCloneCount pool s count → HasCloneCount is s count
    count_passes count was new here gone same has = (
      map instead has.0,
      record {
        which = λ m. (
          λ held.
              let from = Contains-map_cases instead has.0 m held in
              elim (cases_eq from.0 h) [
                | inl e ↦ subst (λ (k : ℕ). IsCloneOf is s k) (sym instead_h ∙ ap instead (sym e) ∙ from.2) here
                | inr ne ↦
                    let is_m : from.0 ≡ m = sym (instead_other from.0 ne) ∙ from.2 in
                    let there = subst (λ (k : ℕ). IsCloneOf pool s k) is_m ((has.1.which from.0).0 from.1) in
                    (same m (λ e. ne (is_m ∙ e)) (λ e. new (subst (λ (k : ℕ). IsCloneOf pool s k) e there))).1 there
              ],
          λ there. elim (cases_eq m n) [
            | inl e ↦ subst (Contains (map instead has.0)) (instead_h ∙ sym e) (Contains-map instead has.0 h ((has.1.which h).1 was))
            | inr ne ↦
                let nh : m ≢ h = λ e. gone (subst (λ (k : ℕ). IsCloneOf is s k) e there) in
                subst (Contains (map instead has.0)) (instead_other m nh) (Contains-map instead has.0 m ((has.1.which m).1 ((same m nh ne).0 there)))
          ],
        );
        once = once_instead has.0 (λ held. new ((has.1.which n).0 held)) has.1.once;
      },
      has.2 ∙ sym (length-map has.0 instead),
    )

-- nothing is counted where there are none
pub count_none : (is : Pool) (s : ℕ) → ((m : ℕ) → ¬ IsCloneOf is s m) → HasCloneCount is s 0
count_none is s none = (
  [],
  record { which = λ m. (λ held. absurd (omega (arith, held.1)), λ there. absurd (none m there)); once = λ i j d before within e. absurd (omega (arith, within)) },
  refl,
)
