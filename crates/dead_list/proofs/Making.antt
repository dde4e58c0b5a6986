-- What becomes of a pool where a volume or a clone is made, or the next group begins.
use Rattle.std.proofs.Common.{ℕ, suc, ◌≡◌, ◌≢◌, ◌<◌, ◌≤◌, ◌⊎◌, inl, inr, [], Contains, refl, sym, ap, ◌∙◌, subst, arith}
use Rattle.std.proofs.lemmas.Bool.{cases_eq}
use Rattle.block_pointer.specs.declared.block.Block.{Block}
use Rattle.dead_list.specs.Datasets.{Kind, Free, Head, Snapshot, Dataset, Pool, IsBornIn, AreFreed, nothing, updated}
use Rattle.dead_list.specs.Operations.{with_dataset, new_volume, clone_of}
use Rattle.dead_list.specs.Sound.{IsSound, IsEmpty, Fits, until, until_kind}
use Rattle.dead_list.proofs.Climbing.{none_reached, not_behind}
use Rattle.dead_list.proofs.Distinct.{distinct_none}
use Rattle.dead_list.proofs.Fitting.{fits_nothing, freed_none, until_snapshot, not_none, reached_other}
use Rattle.dead_list.proofs.Parts.{none_in, difference_none, difference_same}
use Rattle.dead_list.proofs.Updates.{same_at, other_at, at_each}

module _ (pool : Pool) (sound : IsSound pool) (n : ℕ) (some : n ≢ 0) (free : pool.datasets n ≡ nothing) where
  no_snapshot : (pool.datasets n).kind ≢ Snapshot
  no_snapshot e = let f : (pool.datasets n).kind ≡ Free = ap (λ (x : Dataset). x.kind) free in cc

  none_behind : (m : ℕ) → (pool.datasets m).before ≢ n
  none_behind m = not_behind pool sound n m some no_snapshot

  -- what comes after a snapshot isn't free
  not_next : (m : ℕ) → (pool.datasets m).kind ≡ Snapshot → pool.next m ≢ n
  not_next m kind e = not_none pool sound m (λ free. cc) (sym (sound.followed m kind) ∙ ap (λ k. (pool.datasets k).before) e ∙ ap (λ (x : Dataset). x.before) free)

  -- nothing is freed where a number without a dataset gets one
  pub made_freed : (d : Dataset) → AreFreed pool.datasets (updated pool.datasets n d) []
  made_freed d = freed_none pool.datasets (updated pool.datasets n d) (λ b (m, was). elim (cases_eq m n) [
    | inl e ↦ none_reached (pool.datasets m) b (ap pool.datasets e ∙ free) was
    | inr ne ↦ reached_other pool.datasets n d m b ne was
  ])

  module _ (d : Dataset) (rank : ℕ) (kind : d.kind ≡ Head) (behind : d.before ≢ n) (fits : Fits pool.group d (pool.datasets d.before))
      (link : (d.before ≡ 0) ⊎ (((pool.datasets d.before).kind ≡ Snapshot) × (sound.rank d.before < rank)))
      (shares : (b : Block) → Contains d.blocks b → b.birth ≤ (pool.datasets d.before).group) where
    at_before : updated pool.datasets n d d.before ≡ pool.datasets d.before
    at_before = other_at pool.datasets n d d.before behind

    other_before : (m : ℕ) → updated pool.datasets n d (pool.datasets m).before ≡ pool.datasets (pool.datasets m).before
    other_before m = other_at pool.datasets n d (pool.datasets m).before (none_behind m)

    made_fits : (m : ℕ) → Fits pool.group (updated pool.datasets n d m) (updated pool.datasets n d (updated pool.datasets n d m).before)
    made_fits = at_each pool.datasets n d (λ m x. Fits pool.group x (updated pool.datasets n d x.before))
        (subst (λ p. Fits pool.group d p) (sym at_before) fits)
        (λ m ne. subst (λ p. Fits pool.group (pool.datasets m) p) (sym (other_before m)) (sound.fits m))

    made_linked : (m : ℕ) → ((updated pool.datasets n d m).before ≡ 0)
        ⊎ (((updated pool.datasets n d (updated pool.datasets n d m).before).kind ≡ Snapshot) × (updated sound.rank n rank (updated pool.datasets n d m).before < updated sound.rank n rank m))
    made_linked = at_each pool.datasets n d (λ m x. (x.before ≡ 0) ⊎ (((updated pool.datasets n d x.before).kind ≡ Snapshot) × (updated sound.rank n rank x.before < updated sound.rank n rank m)))
        (elim link [
          | inl first ↦ inl first
          | inr there ↦ inr (ap (λ (x : Dataset). x.kind) at_before ∙ there.0, omega (arith, there.1, same_at sound.rank n rank, other_at sound.rank n rank d.before behind))
        ])
        (λ m ne. elim (sound.linked m) [
          | inl first ↦ inl first
          | inr there ↦ inr (ap (λ (x : Dataset). x.kind) (other_before m) ∙ there.0, omega (arith, there.1, other_at sound.rank n rank m ne, other_at sound.rank n rank (pool.datasets m).before (none_behind m)))
        ])

    born_before : (m : ℕ) (b : Block) → IsBornIn (updated pool.datasets n d) m b → IsBornIn pool.datasets m b
    born_before m b = at_each pool.datasets n d (λ m x. Contains x.blocks b × ((updated pool.datasets n d x.before).group < b.birth) → IsBornIn pool.datasets m b)
        (λ born. let early = shares b born.0 in let same = ap (λ (x : Dataset). x.group) at_before in absurd (omega (arith, early, same, born.1)))
        (λ m ne born. (born.0, subst (λ (x : Dataset). x.group < b.birth) (other_before m) born.1)) m

    pub head_made : IsSound (with_dataset pool n d)
    head_made = record {
      none = other_at pool.datasets n d 0 (λ e. some (sym e)) ∙ sound.none;
      rank = updated sound.rank n rank;
      linked = made_linked;
      fits = made_fits;
      one = λ m k b first second. sound.one m k b (born_before m b first) (born_before k b second);
      followed = at_each pool.datasets n d (λ m x. x.kind ≡ Snapshot → (updated pool.datasets n d (pool.next m)).before ≡ m)
          (λ e. absurd (cc))
          (λ m ne kind. subst (λ (x : Dataset). x.before ≡ m) (sym (other_at pool.datasets n d (pool.next m) (not_next m kind))) (sound.followed m kind));
    }

  -- a volume, at first without blocks
  pub volume_made : IsSound (with_dataset pool n (new_volume pool))
  volume_made = head_made (new_volume pool) 0 refl (λ e. some (sym e))
      (subst (λ p. Fits pool.group (new_volume pool) p) (sym sound.none) (record {
        made = omega arith;
        past = omega arith;
        born = λ b h. none_in b h;
        once = distinct_none;
        shared = λ b h e. h;
        dead = difference_none;
      }))
      (inl refl)
      (λ b h. none_in b h)

  -- a clone reaches what its origin does
  pub clone_made : (origin : ℕ) → (pool.datasets origin).kind ≡ Snapshot → IsSound (with_dataset pool n (clone_of pool origin))
  clone_made origin kind =
      let ne : origin ≢ n = λ e. no_snapshot (subst (λ k. (pool.datasets k).kind ≡ Snapshot) e kind) in
      let until_is = until_snapshot pool.group (pool.datasets origin) kind in
      let past : (pool.datasets origin).group ≤ pool.group = omega (arith, until_is, (sound.fits origin).past) in
      head_made (clone_of pool origin) (suc (sound.rank origin)) refl ne
      (record {
        made = past;
        past = omega arith;
        born = λ b h. omega (arith, past, until_is, (sound.fits origin).born b h);
        once = (sound.fits origin).once;
        shared = λ b h e. h;
        dead = difference_same (pool.datasets origin).blocks;
      })
      (inr (kind, omega arith))
      (λ b h. omega (arith, until_is, (sound.fits origin).born b h))

-- the empty pool
pub sound_empty : (pool : Pool) → IsEmpty pool → IsSound pool
sound_empty pool none = record {
  none = none 0;
  rank = λ m. 0;
  linked = λ m. inl (ap (λ (x : Dataset). x.before) (none m));
  fits = λ m. subst (λ (x : Dataset). Fits pool.group x (pool.datasets x.before)) (sym (none m)) (subst (λ p. Fits pool.group nothing p) (sym (none 0)) (fits_nothing pool.group));
  one = λ m n b first second. none_reached (pool.datasets m) b (none m) first.0;
  followed = λ m kind. let free : (pool.datasets m).kind ≡ Free = ap (λ (x : Dataset). x.kind) (none m) in absurd (cc);
}

fits_later : (group : ℕ) (x before : Dataset) → Fits group x before → Fits (suc group) x before
fits_later group x before f =
    let less : until group x ≤ until (suc group) x = later_kind x.kind in
    record {
      made = omega (arith, f.made, less);
      past = past_kind x.kind f.past;
      born = λ b h. omega (arith, f.born b h, less);
      once = f.once;
      shared = f.shared;
      dead = f.dead;
    }
  where
    later_kind : (k : Kind) → until_kind group k x.group ≤ until_kind (suc group) k x.group
    later_kind Free = omega arith
    later_kind Head = omega arith
    later_kind Snapshot = omega arith

    past_kind : (k : Kind) → until_kind group k x.group ≤ group → until_kind (suc group) k x.group ≤ suc group
    past_kind Free h = omega arith
    past_kind Head h = omega arith
    past_kind Snapshot h = omega (arith, h)

-- the next group
pub sound_later : (pool : Pool) → IsSound pool → IsSound (record pool { group = suc pool.group })
sound_later pool sound = record {
  none = sound.none;
  rank = sound.rank;
  linked = sound.linked;
  fits = λ m. fits_later pool.group (pool.datasets m) (pool.datasets (pool.datasets m).before) (sound.fits m);
  one = sound.one;
  followed = sound.followed;
}
