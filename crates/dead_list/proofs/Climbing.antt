-- Where the blocks of a dataset were born.
use Rattle.std.proofs.Common.{ℕ, zero, suc, ◌≡◌, ◌≢◌, ◌<◌, ◌⊎◌, inl, inr, Contains, sym, ap, ◌∙◌, subst, arith}
use Rattle.std.proofs.lemmas.Bool.{cases_lt}
use Rattle.block_pointer.specs.declared.block.Block.{Block}
use Rattle.dead_list.specs.Datasets.{Snapshot, Dataset, Datasets, Pool, IsBornIn, group_before, nothing}
use Rattle.dead_list.specs.Sound.{IsSound}
use Rattle.dead_list.proofs.Parts.{none_in}

pub none_reached : {A : Type 0} (x : Dataset) (b : Block) → x ≡ nothing → Contains x.blocks b → A
none_reached x b e h = none_in b (subst (λ (y : Dataset). Contains y.blocks b) e h)

-- a dataset behind one reaches a block
pub record IsBehind (s : Datasets) (n : ℕ) (b : Block) : Type 0 where
  pub at : ℕ
  pub before : (s at).before ≡ n
  pub reaches : Contains (s at).blocks b

-- a block was born in a dataset, which is this one or one that some dataset right behind it shares the block with
pub record HasOrigin (s : Datasets) (m : ℕ) (b : Block) : Type 0 where
  pub from : ℕ
  pub born : IsBornIn s from b
  pub shared : (m ≡ from) ⊎ IsBehind s from b

module _ (pool : Pool) (sound : IsSound pool) where
  climb : (b : Block) (fuel m : ℕ) → sound.rank m < fuel → Contains (pool.datasets m).blocks b → HasOrigin pool.datasets m b
  climb b zero m low held = absurd (omega (arith, low))
  climb b (suc fuel) m low held = elim (cases_lt (group_before pool.datasets m) b.birth) [
    | inl later ↦ record { from = m; born = (held, later); shared = inl (λ i. m) }
    | inr early ↦ elim (sound.linked m) [
      | inl first ↦ none_reached (pool.datasets (pool.datasets m).before) b (ap pool.datasets first ∙ sound.none) ((sound.fits m).shared b held early)
      | inr link ↦
          let o = climb b fuel (pool.datasets m).before (omega (arith, low, link.1)) ((sound.fits m).shared b held early) in
          record {
            from = o.from;
            born = o.born;
            shared = elim o.shared [
              | inl e ↦ inr (record { at = m; before = e; reaches = held })
              | inr behind ↦ inr behind
            ];
          }
    ]
  ]

  -- where nothing behind the dataset that a block was born in reaches it, no other dataset does
  pub only_there : (b : Block) (n m : ℕ) → IsBornIn pool.datasets n b → (IsBehind pool.datasets n b → ⊥) → Contains (pool.datasets m).blocks b → m ≡ n
  only_there b n m born none held =
      let o = climb b (suc (sound.rank m)) m (omega arith) held in
      let same : o.from ≡ n = sound.one o.from n b o.born born in
      elim o.shared [
        | inl e ↦ e ∙ same
        | inr behind ↦ absurd (none (subst (λ k. IsBehind pool.datasets k b) same behind))
      ]

  -- nothing is behind what is no snapshot
  pub not_behind : (n m : ℕ) → n ≢ 0 → (pool.datasets n).kind ≢ Snapshot → (pool.datasets m).before ≢ n
  not_behind n m some kind e = elim (sound.linked m) [
    | inl first ↦ some (sym e ∙ first)
    | inr link ↦ kind (subst (λ k. (pool.datasets k).kind ≡ Snapshot) e link.0)
  ]
