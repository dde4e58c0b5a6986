-- What becomes of a pool's chains and clones where a snapshot is taken.
use Rattle.std.proofs.Common.{◌≡◌, ◌≢◌, ◌==◌, if◌then◌else◌, ℕ, inl, inr, refl, sym, ap, subst, ◌∙◌}
use Rattle.std.proofs.lemmas.Bool.{cases_eq, cond-true, cond-false, eq-eqb, ne_eqb}
use Rattle.dead_list.specs.Datasets.{Free, Head, Snapshot, Dataset, Pool, passed, updated}
use Rattle.dead_list.specs.Operations.{IsHead, IsUnused, head_after, snapshot_of, with_snapshot}
use Rattle.dead_list.specs.Sound.{IsSound}
use Rattle.dead_list.proofs.Climbing.{not_behind}
use Rattle.dead_list.proofs.Updates.{same_at, other_at, passed_at, passed_not}
use Rattle.dataset_chains.specs.Chains.{HasCloneCount}
use Rattle.dataset_chains.proofs.Counting.{IsCloneOf, count_none, count_passes, count_stays}

passed_here : (next : ℕ → ℕ) (before from to : ℕ) → passed next before from to before ≡ (if next before == from then to else next before)
passed_here next before from to = elim (cases_eq (next before) from) [
  | inl e ↦ passed_at next before from to before refl e ∙ sym (cond-true _ to (next before) (eq-eqb (next before) from e))
  | inr ne ↦ passed_not next before from to before (λ _. ne) ∙ sym (cond-false _ to (next before) (ne_eqb (next before) from ne))
]

module _ (pool : Pool) (sound : IsSound pool) (h n : ℕ) (head : IsHead pool.datasets h) (unused : IsUnused pool.datasets n) where
  abbrev pub before : ℕ
  before = (pool.datasets h).before

  abbrev pub is : Pool
  is = with_snapshot pool h n

  abbrev pub taken : Dataset
  taken = snapshot_of pool.group (pool.datasets h)

  abbrev pub behind : Dataset
  behind = head_after n (pool.datasets h)

  pub apart : n ≢ h
  apart e = let clash : Head ≡ Free = sym head ∙ sym (ap (λ (k : ℕ). (pool.datasets k).kind) e) ∙ ap (λ (x : Dataset). x.kind) unused.1 in cc

  pub some_head : h ≢ 0
  some_head e = let clash : Head ≡ Free = sym head ∙ ap (λ (k : ℕ). (pool.datasets k).kind) e ∙ ap (λ (x : Dataset). x.kind) sound.none in cc

  pub none_behind_n : (m : ℕ) → (pool.datasets m).before ≢ n
  none_behind_n m = not_behind pool sound n m unused.0 (λ e. let f : (pool.datasets n).kind ≡ Free = ap (λ (x : Dataset). x.kind) unused.1 in cc)

  pub none_behind_h : (m : ℕ) → (pool.datasets m).before ≢ h
  none_behind_h m = not_behind pool sound h m some_head (λ e. let f : (pool.datasets h).kind ≡ Head = head in cc)

  pub at_n : is.datasets n ≡ taken
  at_n = other_at (updated pool.datasets n taken) h behind n apart ∙ same_at pool.datasets n taken

  pub at_h : is.datasets h ≡ behind
  at_h = same_at (updated pool.datasets n taken) h behind

  pub at_other : (m : ℕ) → m ≢ h → m ≢ n → is.datasets m ≡ pool.datasets m
  at_other m nh nn = other_at (updated pool.datasets n taken) h behind m nh ∙ other_at pool.datasets n taken m nn

  abbrev nexts : ℕ → ℕ
  nexts = updated pool.next n h

  pub next_other : (m : ℕ) → m ≢ n → m ≢ before → is.next m ≡ pool.next m
  next_other m nn nb = passed_not nexts before h n m (λ e. absurd (nb e)) ∙ other_at pool.next n h m nn

  pub next_n : is.next n ≡ h
  next_n = passed_not nexts before h n n (λ e. absurd (none_behind_n h (sym e))) ∙ same_at pool.next n h

  next_at : nexts before ≡ pool.next before
  next_at = other_at pool.next n h before (none_behind_n h)

  pub next_before : is.next before ≡ (if pool.next before == h then n else pool.next before)
  next_before = passed_here nexts before h n ∙ ap (λ (k : ℕ). if k == h then n else k) next_at

  free_before : (pool.datasets n).before ≡ 0
  free_before = ap (λ (x : Dataset). x.before) unused.1

  at_n_before : (is.datasets n).before ≡ before
  at_n_before = ap (λ (x : Dataset). x.before) at_n

  at_h_before : (is.datasets h).before ≡ n
  at_h_before = ap (λ (x : Dataset). x.before) at_h

  -- what neither is new nor the one before has the same clones
  pub count_beside : (m count : ℕ) → m ≢ 0 → m ≢ n → m ≢ before → HasCloneCount pool m count → HasCloneCount is m count
  count_beside m count some nn nb has = count_stays pool is m count (λ k. elim (cases_eq k h) [
    | inl e ↦ (
      λ there. absurd (nn (sym there.0 ∙ ap (λ (j : ℕ). (is.datasets j).before) e ∙ at_h_before)),
      λ there. absurd (nb (sym there.0 ∙ ap (λ (j : ℕ). (pool.datasets j).before) e)),
    )
    | inr kh ↦ elim (cases_eq k n) [
      | inl e ↦ (
        λ there. absurd (nb (sym there.0 ∙ ap (λ (j : ℕ). (is.datasets j).before) e ∙ at_n_before)),
        λ there. absurd (some (sym there.0 ∙ ap (λ (j : ℕ). (pool.datasets j).before) e ∙ free_before)),
      )
      | inr kn ↦
          let same : (is.datasets k).before ≡ (pool.datasets k).before = ap (λ (x : Dataset). x.before) (at_other k kh kn) in
          let next = next_other m nn nb in
          (λ there. (sym same ∙ there.0, λ e. there.1 (e ∙ sym next)), λ there. (same ∙ there.0, λ e. there.1 (e ∙ next)))
    ]
  ]) has

  -- the new one has none
  pub count_new : HasCloneCount is n 0
  count_new = count_none is n (λ k there. elim (cases_eq k h) [
    | inl e ↦ there.1 (e ∙ sym next_n)
    | inr kh ↦ elim (cases_eq k n) [
      | inl e ↦ none_behind_n h (sym at_n_before ∙ sym (ap (λ (j : ℕ). (is.datasets j).before) e) ∙ there.0)
      | inr kn ↦ none_behind_n k (sym (ap (λ (x : Dataset). x.before) (at_other k kh kn)) ∙ there.0)
    ]
  ])

  module _ (some : before ≢ 0) where
    before_kind : (pool.datasets before).kind ≡ Snapshot
    before_kind = elim (sound.linked h) [
      | inl first ↦ absurd (some first)
      | inr link ↦ link.0
    ]

    not_new : n ≢ before
    not_new e = none_behind_n h (sym e)

    no_clone_n : ¬ IsCloneOf pool before n
    no_clone_n there = some (sym there.0 ∙ free_before)

    no_clone_h : ¬ IsCloneOf is before h
    no_clone_h there = not_new (sym at_h_before ∙ there.0)

    -- the head came next, and the new one does
    count_first : (count : ℕ) → pool.next before ≡ h → HasCloneCount pool before count → HasCloneCount is before count
    count_first count first has =
        let next : is.next before ≡ n = passed_at nexts before h n before refl (next_at ∙ first) in
        count_stays pool is before count (λ k. elim (cases_eq k h) [
          | inl e ↦ (λ there. absurd (no_clone_h (subst (IsCloneOf is before) e there)), λ there. absurd (there.1 (e ∙ sym first)))
          | inr kh ↦ elim (cases_eq k n) [
            | inl e ↦ (λ there. absurd (there.1 (e ∙ sym next)), λ there. absurd (no_clone_n (subst (IsCloneOf pool before) e there)))
            | inr kn ↦
                let same : (is.datasets k).before ≡ (pool.datasets k).before = ap (λ (x : Dataset). x.before) (at_other k kh kn) in
                (λ there. (sym same ∙ there.0, λ e. kh (e ∙ first)), λ there. (same ∙ there.0, λ e. kn (e ∙ next)))
          ]
        ]) has

    -- the head was a clone, and gives way to the new one
    count_clone : (count : ℕ) → pool.next before ≢ h → HasCloneCount pool before count → HasCloneCount is before count
    count_clone count other has =
        let next : is.next before ≡ pool.next before = passed_not nexts before h n before (λ _ e. other (sym next_at ∙ e)) ∙ next_at in
        count_passes pool is before h n count (refl, λ e. other (sym e)) no_clone_n
        (at_n_before, λ e. some (sym (sound.followed before before_kind) ∙ sym (ap (λ (k : ℕ). (pool.datasets k).before) (e ∙ next)) ∙ free_before))
        no_clone_h
        (λ k kh kn.
        let same : (is.datasets k).before ≡ (pool.datasets k).before = ap (λ (x : Dataset). x.before) (at_other k kh kn) in
        (λ there. (sym same ∙ there.0, λ e. there.1 (e ∙ sym next)), λ there. (same ∙ there.0, λ e. there.1 (e ∙ next))))
        has

    pub count_before : (count : ℕ) → HasCloneCount pool before count → HasCloneCount is before count
    count_before count has = elim (cases_eq (pool.next before) h) [
      | inl first ↦ count_first count first has
      | inr other ↦ count_clone count other has
    ]
