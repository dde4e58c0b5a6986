-- The labels up to one of them.
use Rattle.std.proofs.Common.{◌≡◌, ◌⊎◌, inl, inr, ◌<◌, ◌≤◌, ◌↔◌, ◌∙◌, ℕ, zero, suc, ◌+◌, Bool, true, false, IsTrue, List, length, get_or, Option, Some, None, IfNone, IfSome, refl, sym, ap, subst, arith}
use Rattle.std.proofs.lemmas.Bool.{cases_lt}
use Rattle.std.proofs.lemmas.List.{get_or_past}
use Rattle.pool_slots.specs.Shown.{At, HasBeside, IsBetter, IsBlank, IsClaimLabel, IsFirstLeast, IsGreatest, IsGreatestOf, IsLeast, IsLabeledOf, IsLowest, IsSource, IsSpare, IsSummary, NoneHas, claim_of, has_claim, has_config}
use Rattle.pool_slots.specs.declared.labeled.Labeled.{Labeled}
use Rattle.pool_slots.specs.declared.labeled.Shown.{Shown}

-- none of the first n labels but this one has it
abbrev pub NoneBeside : List (Option Shown) → ℕ → ℕ → (Shown → Type 0) → Type 0
NoneBeside shown n k P = (j : ℕ) (s : Shown) → j < n → At shown j s → ¬ (j ≡ k) → ¬ P s

-- none of the first n numbers has it
abbrev pub NoneUpTo : ℕ → (ℕ → Type 0) → Type 0
NoneUpTo n P = (j : ℕ) → j < n → ¬ P j

-- no label is behind the last
pub within : (shown : List (Option Shown)) (k : ℕ) (s : Shown) → At shown k s → k < length shown
within shown k s at =
    elim (cases_lt k (length shown)) [
      | inl less ↦ less
      | inr more ↦ let e : None ≡ Some s = sym (get_or_past shown k None more) ∙ at in absurd cc
    ]

-- the best of the first n labels with this configuration
abbrev pub SourceOf : ℕ → List (Option Shown) → List ℕ → Option (ℕ × ℕ) → Type 0
SourceOf n shown digest None = (j : ℕ) (t : Shown) → j < n → At shown j t → ¬ has_config digest t
SourceOf n shown digest (Some (k, claim)) =
    (k < n) × (s : Shown) × At shown k s × has_config digest s × (s.claim ≡ claim)
    × ((j : ℕ) (t : Shown) → j < n → At shown j t → has_config digest t → (t.claim ≤ claim) × (j < k → t.claim < claim))

same_some : (s t : Shown) → Some s ≡ Some t → s ≡ t
same_some s t e = cc

-- two labels of one number are one
same_at : (shown : List (Option Shown)) (j k : ℕ) (t s : Shown) → j ≡ k → At shown j t → At shown k s → t ≡ s
same_at shown j k t s e here at = let P : ℕ → Type 0 = λ n. At shown n t in same_some t s (sym (subst P e here) ∙ at)

claim_same : (t s : Shown) → t ≡ s → t.claim ≡ s.claim
claim_same t s e = ap (λ (x : Shown). x.claim) e

pair_same : (a b : ℕ × ℕ) → Some a ≡ Some b → a.1 ≡ b.1
pair_same a b e = let same : a ≡ b = cc in ap (λ (it : ℕ × ℕ). it.1) same

-- ---- the next label

pub source_taken : (n : ℕ) (shown : List (Option Shown)) (digest : List ℕ) (best : Option (ℕ × ℕ)) (s : Shown) → SourceOf n shown digest best → At shown n s → IsBetter best digest s
    → SourceOf (n + 1) shown digest (Some (n, s.claim))
source_taken n shown digest None s before at better = (
  omega arith,
  s,
  at,
  better.config,
  refl,
  λ j t below here has. elim (cases_lt j n) [
    | inl earlier ↦ absurd (before j t earlier here has)
    | inr last ↦ let e : j ≡ n = omega (arith, below, last) in (omega (arith, claim_same t s (same_at shown j n t s e here at)), λ less. absurd (omega (arith, less, e)))
  ],
)
source_taken n shown digest (Some (k, claim)) s before at better =
    let less : claim < s.claim = better.above (k, claim) refl in (
      omega arith,
      s,
      at,
      better.config,
      refl,
      λ j t below here has. elim (cases_lt j n) [
        | inl earlier ↦ let it = (before.5 j t earlier here has).0 in (omega (arith, it, less), λ inside. omega (arith, it, less))
        | inr last ↦ let e : j ≡ n = omega (arith, below, last) in (omega (arith, claim_same t s (same_at shown j n t s e here at)), λ inside. absurd (omega (arith, inside, e)))
      ],
    )

first_better : (digest : List ℕ) (s : Shown) → has_config digest s → IsBetter None digest s
first_better digest s config = record { config = config; above = λ b none. absurd cc }

later_better : (digest : List ℕ) (k claim : ℕ) (s : Shown) → has_config digest s → claim < s.claim → IsBetter (Some (k, claim)) digest s
later_better digest k claim s config more = record { config = config; above = λ b is. omega (arith, more, pair_same (k, claim) b is) }

-- one that is no better is not taken
pub source_left : (n : ℕ) (shown : List (Option Shown)) (digest : List ℕ) (best : Option (ℕ × ℕ)) → SourceOf n shown digest best → ((s : Shown) → At shown n s → ¬ IsBetter best digest s)
    → SourceOf (n + 1) shown digest best
source_left n shown digest None before no_better = λ j t below here has.
    elim (cases_lt j n) [
      | inl earlier ↦ before j t earlier here has
      | inr last ↦
          let e : j ≡ n = omega (arith, below, last) in
          let P : ℕ → Type 0 = λ m. At shown m t in
          no_better t (subst P e here) (first_better digest t has)
    ]
source_left n shown digest (Some (k, claim)) before no_better = (
  omega (arith, before.0),
  before.1,
  before.2,
  before.3,
  before.4,
  λ j t below here has. elim (cases_lt j n) [
    | inl earlier ↦ before.5 j t earlier here has
    | inr last ↦
        let e : j ≡ n = omega (arith, below, last) in
        let P : ℕ → Type 0 = λ m. At shown m t in
        elim (cases_lt claim t.claim) [
          | inl more ↦ absurd (no_better t (subst P e here) (later_better digest k claim t has more))
          | inr most ↦ (omega (arith, most), λ inside. absurd (omega (arith, inside, e, before.0)))
        ]
  ],
)

pub not_shown : (shown : List (Option Shown)) (n : ℕ) → get_or shown n None ≡ None → (s : Shown) → ¬ At shown n s
not_shown shown n blank s at = let e : None ≡ Some s = sym blank ∙ at in cc

-- ---- at the end

pub source_is : (n : ℕ) (shown : List (Option Shown)) (digest : List ℕ) (k claim : ℕ) → length shown ≤ n → SourceOf n shown digest (Some (k, claim)) → IsSource shown digest k
source_is n shown digest k claim all it =
    record {
      s = it.1;
      at = it.2;
      config = it.3;
      greatest = λ j t at has. let found = it.5 j t (omega (arith, within shown j t at)) at has in (omega (arith, found.0, it.4), λ less. omega (arith, found.1 less, it.4));
    }

pub no_source : (n : ℕ) (shown : List (Option Shown)) (digest : List ℕ) → length shown ≤ n → SourceOf n shown digest None → (k : ℕ) (s : Shown) → At shown k s → ¬ has_config digest s
no_source n shown digest all it k s at = it k s (omega (arith, within shown k s at)) at

pub whatever : (r : Option ℕ) (P : Type 0) → P → IfNone r P
whatever None P p = p
whatever (Some i) P p = tt

pub none_at : (n : ℕ) (shown : List (Option Shown)) → length shown ≤ n → ((k : ℕ) (s : Shown) → k < n → ¬ At shown k s) → (k : ℕ) (s : Shown) → ¬ At shown k s
none_at n shown all none k s at = none k s (omega (arith, within shown k s at)) at

-- some label shows something, and so has a configuration
pub some_config : (shown : List (Option Shown)) (s : Shown) → ((k : ℕ) × At shown k s) → NoneHas shown s.config_digest → ⊥
some_config shown s there none = none there.0 s there.1 refl

pub other_some : (shown : List (Option Shown)) (digest : List ℕ) (r : Option Labeled) → NoneHas shown digest → IfSome r (IsSummary shown) → IfSome r (IsLabeledOf shown digest)
other_some shown digest None none it = tt
other_some shown digest (Some labeled) none it = record { summary = it; config = inr none }

pub other_none : (shown : List (Option Shown)) (s : Shown) (r : Option Labeled) → ((k : ℕ) × At shown k s) → IfNone r (NoneHas shown s.config_digest) → IfNone r ((k : ℕ) (t : Shown) → ¬ At shown k t)
other_none shown s None there none = absurd (some_config shown s there none)
other_none shown s (Some labeled) there none = tt

pub none_spare : (n : ℕ) (shown : List (Option Shown)) (claim : ℕ) → length shown ≤ n → NoneUpTo n (IsSpare shown claim) → (k : ℕ) → ¬ IsSpare shown claim k
none_spare n shown claim all none k it = none k (omega (arith, within shown k it.s it.at)) it

-- a label that shows something
shown_there : (shown : List (Option Shown)) (k : ℕ) (o : Option Shown) → get_or shown k None ≡ o → ¬ (o ≡ None) → (s : Shown) × (o ≡ Some s)
shown_there shown k None is some = absurd (some refl)
shown_there shown k (Some s) is some = (s, refl)

claim_is : (shown : List (Option Shown)) (k : ℕ) (s : Shown) → At shown k s → claim_of (get_or shown k None) ≡ s.claim
claim_is shown k s at = ap claim_of at

-- where none shows nothing
pub least_is : (shown : List (Option Shown)) (k : ℕ) → ((j : ℕ) → ¬ IsBlank shown j) → k < length shown → IsFirstLeast shown (length shown) k → IsLowest (IsLeast shown) k
least_is shown k none inside it =
    let here = shown_there shown k (get_or shown k None) refl (λ blank. none k (inside, blank)) in (
      record {
        s = here.0;
        at = here.1;
        least = λ j t at. omega (arith, it.least j (within shown j t at), claim_is shown j t at, claim_is shown k here.0 here.1);
      },
      λ j below lower. omega (arith, it.first j below, lower.least k here.0 here.1, claim_is shown j lower.s lower.at, claim_is shown k here.0 here.1),
    )

pub chosen_least : (shown : List (Option Shown)) (claim k : ℕ) → ((j : ℕ) → ¬ IsBlank shown j) → ((j : ℕ) → ¬ IsSpare shown claim j) → k < length shown → IsFirstLeast shown (length shown) k
    → IsClaimLabel shown claim k
chosen_least shown claim k none spare inside it = inr (inr (none, spare, least_is shown k none inside it))

-- the greatest claim, where some label shows one
pub greatest_is : (shown : List (Option Shown)) (claim k : ℕ) (s : Shown) → At shown k s → IsGreatestOf shown (length shown) claim → IsGreatest shown claim
greatest_is shown claim k s at it =
    let all : (j : ℕ) (t : Shown) → At shown j t → t.claim ≤ claim = λ j t here. omega (arith, it.greatest j (within shown j t here), claim_is shown j t here) in
    elim it.is [
      | inl bare ↦ record { k = k; s = s; at = at; is = omega (arith, bare, all k s at); greatest = all }
      | inr some ↦ elim (cases_lt 0 claim) [
        | inl more ↦
            let there = shown_there shown some.0 (get_or shown some.0 None) refl (λ blank. omega (arith, more, some.2, ap claim_of blank)) in
            record { k = some.0; s = there.0; at = there.1; is = omega (arith, some.2, claim_is shown some.0 there.0 there.1); greatest = all }
        | inr least ↦ record { k = k; s = s; at = at; is = omega (arith, least, all k s at); greatest = all }
      ]
    ]

pub claim_label_within : (shown : List (Option Shown)) (claim k : ℕ) → IsClaimLabel shown claim k → k < length shown
claim_label_within shown claim k (inl blank) = blank.0.0
claim_label_within shown claim k (inr (inl spare)) = within shown k spare.1.0.s spare.1.0.at
claim_label_within shown claim k (inr (inr least)) = within shown k least.2.0.s least.2.0.at

-- ---- the claim label loses nothing

same_or_not : (i j : ℕ) → (i ≡ j) ⊎ (¬ (i ≡ j))
same_or_not i j = grind arith

-- 0 or 1, whichever is another
abbrev other_of : ℕ → ℕ
other_of zero = 1
other_of (suc k) = 0

other_small : (k : ℕ) → other_of k < 2
other_small zero = omega arith
other_small (suc k) = omega arith

other_not : (k : ℕ) → ¬ (other_of k ≡ k)
other_not zero = λ e. absurd (omega (arith, e))
other_not (suc k) = λ e. absurd (omega (arith, e))

-- beside the claim label another shows the greatest claim
pub kept_beside : (shown : List (Option Shown)) (claim k : ℕ) → 2 ≤ length shown → IsGreatest shown claim → IsClaimLabel shown claim k → HasBeside shown k (has_claim claim)
kept_beside shown claim k two greatest (inl blank) =
    record {
      j = greatest.k;
      s = greatest.s;
      at = greatest.at;
      other = λ same. let P : ℕ → Type 0 = λ n. At shown n greatest.s in let e : None ≡ Some greatest.s = sym blank.0.1 ∙ subst P same greatest.at in cc;
      has = greatest.is;
    }
kept_beside shown claim k two greatest (inr (inl spare)) = spare.1.0.claimed
kept_beside shown claim k two greatest (inr (inr last)) =
    elim (same_or_not greatest.k k) [
      | inl same ↦
          let j = other_of k in
          let there = shown_there shown j (get_or shown j None) refl (λ blank. last.0 j (omega (arith, two, other_small k), blank)) in
          let P : ℕ → Type 0 = λ n. At shown n greatest.s in
          let is = same_some last.2.0.s greatest.s (sym last.2.0.at ∙ subst P same greatest.at) in
          record {
            j = j;
            s = there.0;
            at = there.1;
            other = other_not k;
            has = omega (arith, last.2.0.least j there.0 there.1, greatest.greatest j there.0 there.1, claim_same last.2.0.s greatest.s is, greatest.is);
          }
      | inr other ↦ record { j = greatest.k; s = greatest.s; at = greatest.at; other = other; has = greatest.is }
    ]

-- two labels that show one configuration: the others do without one of them
spare_of_two : (shown : List (Option Shown)) (claim j k : ℕ) (s t : Shown) → IsGreatest shown claim → At shown j s → At shown k t → ¬ (j ≡ k) → s.config_digest ≡ t.config_digest
    → ((n : ℕ) → ¬ IsSpare shown claim n) → ⊥
spare_of_two shown claim j k s t greatest at also other same none =
    elim (same_or_not greatest.k j) [
      | inl first ↦ none k (record {
        s = t;
        at = also;
        claimed = record { j = greatest.k; s = greatest.s; at = greatest.at; other = λ second. other (sym first ∙ second); has = greatest.is };
        configured = record { j = j; s = s; at = at; other = other; has = same };
      })
      | inr not_first ↦ none j (record {
        s = s;
        at = at;
        claimed = record { j = greatest.k; s = greatest.s; at = greatest.at; other = not_first; has = greatest.is };
        configured = record { j = k; s = t; at = also; other = λ e. other (sym e); has = sym same };
      })
    ]

-- a label shows nothing, or two show one configuration
pub record HasTwo (shown : List (Option Shown)) : Type 0 where
  pub j : ℕ
  pub k : ℕ
  pub s : Shown
  pub t : Shown
  pub at : At shown j s
  pub also : At shown k t
  pub other : ¬ (j ≡ k)
  pub same : s.config_digest ≡ t.config_digest

-- then beside the claim label another shows the configuration that is taken
pub config_beside : (shown : List (Option Shown)) (it : Labeled) → IsSummary shown it → ((k : ℕ) × IsBlank shown k) ⊎ HasTwo shown → HasBeside shown it.first (has_config it.config_digest)
config_beside shown it summary two =
    let source = summary.source in
    let taken : ¬ (it.source ≡ it.first) → HasBeside shown it.first (has_config it.config_digest) = λ other. record { j = it.source; s = source.s; at = source.at; other = other; has = source.config } in
    elim (same_or_not it.source it.first) [
      | inr other ↦ taken other
      | inl same ↦ elim summary.first [
        | inl blank ↦
            let P : ℕ → Type 0 = λ n. At shown n source.s in
            let e : None ≡ Some source.s = sym blank.0.1 ∙ subst P same source.at in
            absurd cc
        | inr (inl spare) ↦
            let mine = spare.1.0 in
            let one : source.s ≡ mine.s = same_at shown it.source it.first source.s mine.s same source.at mine.at in
            let beside = mine.configured in
            record { j = beside.j; s = beside.s; at = beside.at; other = beside.other; has = beside.has ∙ ap (λ (x : Shown). x.config_digest) (sym one) ∙ source.config }
        | inr (inr last) ↦ elim two [
          | inl blank ↦ absurd (last.0 blank.0 blank.1)
          | inr both ↦ absurd (spare_of_two shown it.claim both.j both.k both.s both.t summary.greatest both.at both.also both.other both.same last.1)
        ]
      ]
    ]

-- the next label, by whether it is taken
pub source_next : (n : ℕ) (shown : List (Option Shown)) (digest : List ℕ) (best : Option (ℕ × ℕ)) (s : Shown) (test : Bool) → SourceOf n shown digest best → At shown n s
    → (IsTrue test ↔ IsBetter best digest s) → (test ≡ true → SourceOf (n + 1) shown digest (Some (n, s.claim))) × (test ≡ false → SourceOf (n + 1) shown digest best)
source_next n shown digest best s true before at test = (λ yes. source_taken n shown digest best s before at (test.0 refl), λ no. absurd cc)
source_next n shown digest best s false before at test = (
  λ yes. absurd cc,
  λ no. source_left n shown digest best before (λ t here better.
      let P : Shown → Type 0 = IsBetter best digest in
      let e : false ≡ true = test.1 (subst P (same_at shown n n t s refl here at) better) in
      absurd cc),
)
