-- What becomes of a pool where a head is destroyed.
use Rattle.std.proofs.Common.{ℕ, ◌≡◌, ◌≢◌, ◌<◌, ◌⊎◌, inl, inr, List, Contains, sym, ap, ◌∙◌, subst}
use Rattle.std.proofs.lemmas.Bool.{cases_eq}
use Rattle.block_pointer.specs.declared.block.Block.{Block}
use Rattle.dead_list.specs.Blocks.{IsSplit}
use Rattle.dead_list.specs.Datasets.{Head, Snapshot, Dataset, Pool, IsReached, IsBornIn, AreFreed, group_before, nothing, updated}
use Rattle.dead_list.specs.Operations.{HasNoSnapshots, with_dataset}
use Rattle.dead_list.specs.Sound.{IsSound, Fits}
use Rattle.dead_list.proofs.Climbing.{not_behind, only_there}
use Rattle.dead_list.proofs.Fitting.{fits_nothing, not_none, reached_other}
use Rattle.dead_list.proofs.Parts.{none_in, split_cases, split_after, split_once}
use Rattle.dead_list.proofs.Updates.{other_at, at_each}

module _ (pool : Pool) (sound : IsSound pool) (h : ℕ) (head : (pool.datasets h).kind ≡ Head) where
  some : h ≢ 0
  some = not_none pool sound h (λ e. cc)

  no_snapshot : (pool.datasets h).kind ≢ Snapshot
  no_snapshot e = cc

  none_behind : (m : ℕ) → (pool.datasets m).before ≢ h
  none_behind m = not_behind pool sound h m some no_snapshot

  gone_fits : (m : ℕ) → Fits pool.group (updated pool.datasets h nothing m) (updated pool.datasets h nothing (updated pool.datasets h nothing m).before)
  gone_fits = at_each pool.datasets h nothing (λ m x. Fits pool.group x (updated pool.datasets h nothing x.before))
      (subst (λ p. Fits pool.group nothing p) (sym (other_at pool.datasets h nothing 0 (λ e. some (sym e)) ∙ sound.none)) (fits_nothing pool.group))
      (λ m ne. subst (λ p. Fits pool.group (pool.datasets m) p) (sym (other_at pool.datasets h nothing (pool.datasets m).before (none_behind m))) (sound.fits m))

  gone_linked : (m : ℕ) → ((updated pool.datasets h nothing m).before ≡ 0)
      ⊎ (((updated pool.datasets h nothing (updated pool.datasets h nothing m).before).kind ≡ Snapshot) × (sound.rank (updated pool.datasets h nothing m).before < sound.rank m))
  gone_linked = at_each pool.datasets h nothing (λ m x. (x.before ≡ 0) ⊎ (((updated pool.datasets h nothing x.before).kind ≡ Snapshot) × (sound.rank x.before < sound.rank m)))
      (inl (λ i. 0))
      (λ m ne. elim (sound.linked m) [
        | inl first ↦ inl first
        | inr link ↦ inr (ap (λ (x : Dataset). x.kind) (other_at pool.datasets h nothing (pool.datasets m).before (none_behind m)) ∙ link.0, link.1)
      ])

  born_before : (m : ℕ) (b : Block) → IsBornIn (updated pool.datasets h nothing) m b → IsBornIn pool.datasets m b
  born_before m b = at_each pool.datasets h nothing (λ m x. Contains x.blocks b × ((updated pool.datasets h nothing x.before).group < b.birth) → IsBornIn pool.datasets m b)
      (λ born. none_in b born.0)
      (λ m ne born. (born.0, subst (λ (x : Dataset). x.group < b.birth) (other_at pool.datasets h nothing (pool.datasets m).before (none_behind m)) born.1)) m

  pub head_gone : HasNoSnapshots pool h → IsSound (with_dataset pool h nothing)
  head_gone last = record {
    none = other_at pool.datasets h nothing 0 (λ e. some (sym e)) ∙ sound.none;
    rank = sound.rank;
    linked = gone_linked;
    fits = gone_fits;
    one = λ m n b first second. sound.one m n b (born_before m b first) (born_before n b second);
    followed = at_each pool.datasets h nothing (λ m x. x.kind ≡ Snapshot → (updated pool.datasets h nothing (pool.next m)).before ≡ m)
        (λ e. absurd (cc))
        (λ m ne kind. subst (λ (x : Dataset). x.before ≡ m) (sym (other_at pool.datasets h nothing (pool.next m) (λ e. elim last [
          | inl first ↦ not_none pool sound m (λ free. cc) (sym (sound.followed m kind) ∙ ap (λ n. (pool.datasets n).before) e ∙ first)
          | inr other ↦ other (ap pool.next (sym (ap (λ n. (pool.datasets n).before) e) ∙ sound.followed m kind) ∙ e)
        ]))) (sound.followed m kind));
  }

  module _ (freed older : List Block) (split : IsSplit (group_before pool.datasets h) (pool.datasets h).blocks freed older) where
    gone_to : (b : Block) → Contains freed b → IsReached pool.datasets b × ¬ IsReached (updated pool.datasets h nothing) b
    gone_to b held =
        let was = split_after (group_before pool.datasets h) (pool.datasets h).blocks freed older split b held in (
          (h, was.1),
          λ (m, now). at_each pool.datasets h nothing (λ k x. Contains x.blocks b → ⊥) (λ none. none_in b none)
              (λ k ne here. ne (only_there pool sound b h k (was.1, was.0) (λ behind. none_behind behind.at behind.before) here)) m now,
        )

    gone_from : (b : Block) → IsReached pool.datasets b × ¬ IsReached (updated pool.datasets h nothing) b → Contains freed b
    gone_from b ((m, was), now) = elim (cases_eq m h) [
      | inr ne ↦ absurd (now (reached_other pool.datasets h nothing m b ne was))
      | inl e ↦
          let here : Contains (pool.datasets h).blocks b = subst (λ k. Contains (pool.datasets k).blocks b) e was in
          elim (split_cases (group_before pool.datasets h) (pool.datasets h).blocks freed older split b here) [
            | inl later ↦ later.1
            | inr early ↦ absurd (now (reached_other pool.datasets h nothing (pool.datasets h).before b (none_behind h) ((sound.fits h).shared b here early.0)))
          ]
    ]

    pub head_freed : AreFreed pool.datasets (updated pool.datasets h nothing) freed
    head_freed = record {
      which = λ b. (gone_to b, gone_from b);
      once = (split_once (group_before pool.datasets h) (pool.datasets h).blocks freed older split (sound.fits h).once).0;
    }
