-- The latest of labels.
use Rattle.std.proofs.Common.{◌≡◌, ◌⊎◌, inl, inr, ◌<◌, ◌≤◌, ◌∙◌, ℕ, zero, suc, List, [], ◌∷◌, ◌++◌, length, slice_get, get_or, Option, Some, None, IfSome, IfNone, refl, sym, subst, arith}
use Rattle.std.proofs.lemmas.Bool.{cases_lt}
use Rattle.std.proofs.lemmas.List.{get_or_past, length-append}
use Rattle.std.proofs.lemmas.Option.{slice_get_within}
use Rattle.vdev_label.specs.Pairs.{state_number}
use Rattle.vdev_label.specs.declared.label.Label.{Label}
use Rattle.pool_labels.specs.Choices.{IsAbove, IsLater, IsValidAt, SourceIs, of_config}
use Rattle.pool_labels.specs.Ranks.{AreRanks, AtRank, IsLatest, IsLatestBelow, IsLaterOf, IsLaterRank, IsRank, NoneAt, NoneBelow, RankIs}
use Rattle.pool_labels.specs.declared.scanned.Reading.{Reading}
use Rattle.pool_labels.specs.declared.scanned.Reading.TheVariants.{Valid, Bad, Unreadable}
use Rattle.pool_labels.specs.declared.scanned.ScannedLabel.{ScannedLabel}
use Rattle.pool_labels.specs.declared.sources.Rank.{Rank}
use Rattle.pool_labels.proofs.Lists.{same_at}

-- ---- the order

above_itself : (a b c : ℕ) → IsAbove a b c a b c → ⊥
above_itself a b c it = elim it [ inl claim ↦ omega (arith, claim) | inr more ↦ elim more [ inl group ↦ omega (arith, group.1) | inr state ↦ omega (arith, state.2) ] ]

above_same : (a b c d e f a' b' c' d' e' f' : ℕ) → a ≡ a' → b ≡ b' → c ≡ c' → d ≡ d' → e ≡ e' → f ≡ f' → IsAbove a b c d e f → IsAbove a' b' c' d' e' f'
above_same a b c d e f a' b' c' d' e' f' p q r s t u it =
    elim it [
      | inl claim ↦ inl (omega (arith, claim))
      | inr more ↦ elim more [ inl group ↦ inr (inl (omega (arith, group.0), omega (arith, group.1))) | inr state ↦ inr (inr (omega (arith, state.0), omega (arith, state.1), omega (arith, state.2))) ]
    ]

-- one is above another, or it is as late, or below it
above_cases : (a b c d e f : ℕ) → IsAbove a b c d e f ⊎ (IsAbove d e f a b c ⊎ ((a ≡ d) × (b ≡ e) × (c ≡ f)))
above_cases a b c d e f =
    elim (cases_lt d a) [
      | inl claim ↦ inl (inl claim)
      | inr up ↦ elim (cases_lt a d) [
        | inl claim ↦ inr (inl (inl claim))
        | inr down ↦ let same : a ≡ d = omega (arith, up, down) in elim (cases_lt e b) [
          | inl group ↦ inl (inr (inl (sym same, group)))
          | inr up' ↦ elim (cases_lt b e) [
            | inl group ↦ inr (inl (inr (inl (same, group))))
            | inr down' ↦ let also : b ≡ e = omega (arith, up', down') in elim (cases_lt f c) [
              | inl state ↦ inl (inr (inr (sym same, sym also, state)))
              | inr up'' ↦ elim (cases_lt c f) [
                | inl state ↦ inr (inl (inr (inr (same, also, state))))
                | inr down'' ↦ inr (inr (same, also, omega (arith, up'', down'')))
              ]
            ]
          ]
        ]
      ]
    ]

above_through : (a b c d e f g h i : ℕ) → IsAbove a b c d e f → IsAbove d e f g h i → IsAbove a b c g h i
above_through a b c d e f g h i first second =
    elim first [
      | inl claim ↦ elim second [ inl less ↦ inl (omega (arith, claim, less)) | inr more ↦ elim more [ inl group ↦ inl (omega (arith, claim, group.0)) | inr state ↦ inl (omega (arith, claim, state.0)) ] ]
      | inr more ↦ elim more [
        | inl group ↦ elim second [
          | inl less ↦ inl (omega (arith, group.0, less))
          | inr then ↦ elim then [
            | inl g' ↦ inr (inl (omega (arith, group.0, g'.0), omega (arith, group.1, g'.1)))
            | inr s' ↦ inr (inl (omega (arith, group.0, s'.0), omega (arith, group.1, s'.1)))
          ]
        ]
        | inr state ↦ elim second [
          | inl less ↦ inl (omega (arith, state.0, less))
          | inr then ↦ elim then [
            | inl g' ↦ inr (inl (omega (arith, state.0, g'.0), omega (arith, state.1, g'.1)))
            | inr s' ↦ inr (inr (omega (arith, state.0, s'.0), omega (arith, state.1, s'.1), omega (arith, state.2, s'.2)))
          ]
        ]
      ]
    ]

later_through : (r s t : Rank) → IsLaterRank r s → IsLaterRank s t → IsLaterRank r t
later_through r s t first second = above_through r.claim r.group r.state s.claim s.group s.state t.claim t.group t.state first second

-- what is above one is above all that isn't above that one
later_than : (r s t : Rank) → IsLaterRank r s → ¬ IsLaterRank t s → IsLaterRank r t
later_than r s t later not =
    elim (above_cases r.claim r.group r.state t.claim t.group t.state) [
      | inl above ↦ above
      | inr other ↦ elim other [
        | inl below ↦ absurd (not (later_through t r s below later))
        | inr same ↦ absurd (not (above_same r.claim r.group r.state s.claim s.group s.state t.claim t.group t.state s.claim s.group s.state same.0 same.1 same.2 refl refl refl later))
      ]
    ]

-- ---- the latest of ranks

rank_at : (ranks : List (Option Rank)) (j : ℕ) (r : Rank) → AtRank ranks j r → j < length ranks
rank_at ranks j r at =
    elim (cases_lt j (length ranks)) [
      | inl less ↦ less
      | inr more ↦ let e : None ≡ Some r = sym (get_or_past ranks j None more) ∙ at in absurd cc
    ]

one_rank : (ranks : List (Option Rank)) (j n : ℕ) (t r : Rank) → j ≡ n → AtRank ranks j t → AtRank ranks n r → t ≡ r
one_rank ranks j n t r e at there =
    let P : ℕ → Type 0 = λ k. AtRank ranks k t in
    let both : Some t ≡ Some r = sym (subst P e at) ∙ there in
    cc

-- of the first so many
abbrev pub LatestOf : ℕ → List (Option Rank) → Option (ℕ × Rank) → Type 0
LatestOf n ranks None = NoneBelow n ranks
LatestOf n ranks (Some (i, r)) = (i < n) × IsLatestBelow n ranks i r

next_is : (n : ℕ) (ranks : List (Option Rank)) (r : Rank) → AtRank ranks n r → ((j : ℕ) (t : Rank) → j < n → AtRank ranks j t → (¬ IsLaterRank t r) × IsLaterRank r t)
    → LatestOf (suc n) ranks (Some (n, r))
next_is n ranks r at before = (
  omega arith,
  record {
    at = at;
    latest = λ j t below there. elim (cases_lt j n) [
      | inl less ↦ let it = before j t less there in (it.0, λ _. it.1)
      | inr last ↦
          let P : Rank → Type 0 = λ x. ¬ IsLaterRank x r in
          let same = one_rank ranks j n t r (omega (arith, below, last)) there at in
          (subst P (sym same) (above_itself r.claim r.group r.state), λ less. absurd (omega (arith, less, last)))
    ];
  },
)

pub latest_next : (n : ℕ) (ranks : List (Option Rank)) (best : Option (ℕ × Rank)) (r : Rank) (it : ℕ × Rank) → LatestOf n ranks best → AtRank ranks n r → IsLaterOf best (n, r) it
    → LatestOf (suc n) ranks (Some it)
latest_next n ranks None r it to at is =
    let P : ℕ × Rank → Type 0 = λ x. LatestOf (suc n) ranks (Some x) in
    subst P (sym is) (next_is n ranks r at (λ j t less there. absurd (to j t less there)))
latest_next n ranks (Some (i, s)) r it to at (inl is) =
    let P : ℕ × Rank → Type 0 = λ x. LatestOf (suc n) ranks (Some x) in
    subst P (sym is.0)
    (next_is n ranks r at (λ j t less there.
    let old = to.1.latest j t less there in
    (λ later. old.0 (later_through t r s later is.1), later_than r s t is.1 old.0)))
latest_next n ranks (Some (i, s)) r it to at (inr is) =
    let P : ℕ × Rank → Type 0 = λ x. LatestOf (suc n) ranks (Some x) in
    subst P (sym is.0) (
      omega (arith, to.0),
      record {
        at = to.1.at;
        latest = λ j t below there. elim (cases_lt j n) [
          | inl less ↦ to.1.latest j t less there
          | inr last ↦
              let Q : Rank → Type 0 = λ x. ¬ IsLaterRank x s in
              (subst Q (sym (one_rank ranks j n t r (omega (arith, below, last)) there at)) is.1, λ less. absurd (omega (arith, less, last, to.0)))
        ];
      },
    )

not_at : (ranks : List (Option Rank)) (j n : ℕ) (t : Rank) → j ≡ n → get_or ranks n None ≡ None → AtRank ranks j t → ⊥
not_at ranks j n t e none at =
    let P : ℕ → Type 0 = λ k. AtRank ranks k t in
    let both : None ≡ Some t = sym none ∙ subst P e at in
    cc

pub latest_skips : (n : ℕ) (ranks : List (Option Rank)) (best : Option (ℕ × Rank)) → LatestOf n ranks best → get_or ranks n None ≡ None → LatestOf (suc n) ranks best
latest_skips n ranks None to none = λ j t below there. elim (cases_lt j n) [
  | inl less ↦ to j t less there
  | inr last ↦ not_at ranks j n t (omega (arith, below, last)) none there
]
latest_skips n ranks (Some (i, s)) to none = (
  omega (arith, to.0),
  record {
    at = to.1.at;
    latest = λ j t below there. elim (cases_lt j n) [
      | inl less ↦ to.1.latest j t less there
      | inr last ↦ absurd (not_at ranks j n t (omega (arith, below, last)) none there)
    ];
  },
)

pub latest_of_all : (n : ℕ) (ranks : List (Option Rank)) (i : ℕ) (r : Rank) → length ranks ≤ n → LatestOf n ranks (Some (i, r)) → IsLatest ranks i
latest_of_all n ranks i r le to = (r, record { at = to.1.at; latest = λ j t below there. to.1.latest j t (omega (arith, below, le)) there })

pub none_of_all : (n : ℕ) (ranks : List (Option Rank)) → length ranks ≤ n → LatestOf n ranks None → NoneAt ranks
none_of_all n ranks le to = λ j t below. to j t (omega (arith, below, le))

-- ---- the ranks of labels

pub record RanksTo (digest : List ℕ) (labels : List ScannedLabel) (n : ℕ) (ranks : List (Option Rank)) : Type 0 where
  pub count : length ranks ≡ n
  pub each : (i : ℕ) (s : ScannedLabel) → i < n → slice_get labels i ≡ Some s → RankIs digest s.reading (get_or ranks i None)

get_or_pushed : (xs : List (Option Rank)) (y : Option Rank) (k : ℕ) → k < length xs → get_or (xs ++ y ∷ []) k None ≡ get_or xs k None
get_or_pushed [] y k below = absurd (omega (arith, below))
get_or_pushed (x ∷ xs) y zero below = refl
get_or_pushed (x ∷ xs) y (suc k) below = get_or_pushed xs y k (omega (arith, below))

get_or_last : (xs : List (Option Rank)) (y : Option Rank) → get_or (xs ++ y ∷ []) (length xs) None ≡ y
get_or_last [] y = refl
get_or_last (x ∷ xs) y = get_or_last xs y

pub ranks_next : (digest : List ℕ) (labels : List ScannedLabel) (n : ℕ) (ranks : List (Option Rank)) (s : ScannedLabel) (rank : Option Rank) → RanksTo digest labels n ranks
    → slice_get labels n ≡ Some s → RankIs digest s.reading rank → RanksTo digest labels (suc n) (ranks ++ rank ∷ [])
ranks_next digest labels n ranks s rank to at is =
    record {
      count = length-append ranks (rank ∷ []) ∙ omega (arith, to.count);
      each = λ i t below there.
          let P : Option Rank → Type 0 = RankIs digest t.reading in
          elim (cases_lt i n) [
            | inl less ↦ subst P (sym (get_or_pushed ranks rank i (omega (arith, less, to.count)))) (to.each i t less there)
            | inr last ↦
                let same : i ≡ n = omega (arith, below, last) in
                let Q : ScannedLabel → Type 0 = λ x. RankIs digest x.reading rank in
                let R : ℕ → Type 0 = λ k. RankIs digest t.reading (get_or (ranks ++ rank ∷ []) k None) in
                subst R (to.count ∙ sym same) (subst P (sym (get_or_last ranks rank)) (subst Q (same_at labels n i s t (sym same) at there) is))
          ];
    }

pub ranks_done : (digest : List ℕ) (labels : List ScannedLabel) (n : ℕ) (ranks : List (Option Rank)) → n ≡ length labels → RanksTo digest labels n ranks → AreRanks digest labels ranks
ranks_done digest labels n ranks e to = record { count = to.count ∙ e; each = λ i s at. to.each i s (omega (arith, e, slice_get_within labels i s at)) at }

rank_valid : (digest : List ℕ) (reading : Reading) (rank : Rank) → RankIs digest reading (Some rank) → (l : Label) × (reading ≡ Valid l) × IsRank digest l (Some rank)
rank_valid digest (Valid l) rank it = (l, refl, it)
rank_valid digest (Bad b) rank it = absurd (let e : Some rank ≡ None = it in cc)
rank_valid digest Unreadable rank it = absurd (let e : Some rank ≡ None = it in cc)

config_rank : (digest : List ℕ) (l : Label) (o : Option Rank) → IsRank digest l o → of_config digest l → (r : Rank) × (o ≡ Some r) × IsRank digest l (Some r)
config_rank digest l None it config = absurd (it config)
config_rank digest l (Some r) it config = (r, refl, it)

slice_get_some : (xs : List ScannedLabel) (i : ℕ) → i < length xs → (x : ScannedLabel) × (slice_get xs i ≡ Some x)
slice_get_some [] i below = absurd (omega (arith, below))
slice_get_some (x ∷ xs) zero below = (x, refl)
slice_get_some (x ∷ xs) (suc i) below = slice_get_some xs i (omega (arith, below))

rank_of_valid : (digest : List ℕ) (labels : List ScannedLabel) (ranks : List (Option Rank)) (j : ℕ) (t : ScannedLabel) (m : Label) → AreRanks digest labels ranks → IsValidAt labels j t m
    → of_config digest m → (r : Rank) × AtRank ranks j r × IsRank digest m (Some r)
rank_of_valid digest labels ranks j t m are at config =
    let P : Reading → Type 0 = λ x. RankIs digest x (get_or ranks j None) in
    config_rank digest m (get_or ranks j None) (subst P at.valid (are.each j t at.at)) config

later_labels : (digest : List ℕ) (l m : Label) (r t : Rank) → IsRank digest l (Some r) → IsRank digest m (Some t) → IsLaterRank r t → IsLater l m
later_labels digest l m r t is also later =
    above_same r.claim r.group r.state t.claim t.group t.state l.claim l.group (state_number l.state) m.claim m.group (state_number m.state) is.1 is.2 is.3 also.1 also.2 also.3 later

later_ranks : (digest : List ℕ) (l m : Label) (r t : Rank) → IsRank digest l (Some r) → IsRank digest m (Some t) → IsLater l m → IsLaterRank r t
later_ranks digest l m r t is also later =
    above_same l.claim l.group (state_number l.state) m.claim m.group (state_number m.state) r.claim r.group r.state t.claim t.group t.state (sym is.1) (sym is.2) (sym is.3) (sym also.1) (sym also.2) (sym also.3)
    later

pub source_some : (digest : List ℕ) (labels : List ScannedLabel) (ranks : List (Option Rank)) (i : ℕ) → AreRanks digest labels ranks → IsLatest ranks i → SourceIs labels digest (Some i)
source_some digest labels ranks i are it =
    let r = it.0 in
    let found = slice_get_some labels i (omega (arith, rank_at ranks i r it.1.at, are.count)) in
    let s = found.0 in
    let P : Option Rank → Type 0 = RankIs digest s.reading in
    let valid = rank_valid digest s.reading r (subst P it.1.at (are.each i s found.1)) in
    let l = valid.0 in (
      s,
      l,
      record {
        at = record { at = found.1; valid = valid.1 };
        config = valid.2.0;
        latest = λ j t m at config.
            let rank = rank_of_valid digest labels ranks j t m are at config in
            let old = it.1.latest j rank.0 (rank_at ranks j rank.0 rank.1) rank.1 in (
              λ later. old.0 (later_ranks digest m l rank.0 r rank.2 valid.2 later),
              λ less. later_labels digest l m r rank.0 valid.2 rank.2 (old.1 less),
            );
      },
    )

pub source_none : (digest : List ℕ) (labels : List ScannedLabel) (ranks : List (Option Rank)) → AreRanks digest labels ranks → NoneAt ranks → SourceIs labels digest None
source_none digest labels ranks are none = λ i s l at config.
    let rank = rank_of_valid digest labels ranks i s l are at config in
    none i rank.0 (rank_at ranks i rank.0 rank.1) rank.1

pub source_is : (digest : List ℕ) (labels : List ScannedLabel) (ranks : List (Option Rank)) (o : Option ℕ) → AreRanks digest labels ranks → IfSome o (IsLatest ranks) → IfNone o (NoneAt ranks)
    → SourceIs labels digest o
source_is digest labels ranks None are some none = source_none digest labels ranks are none
source_is digest labels ranks (Some i) are some none = source_some digest labels ranks i are some
