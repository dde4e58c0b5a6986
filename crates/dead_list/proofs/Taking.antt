-- What becomes of a pool where a snapshot is taken.
use Rattle.std.proofs.Common.{ℕ, suc, ◌≡◌, ◌≢◌, ◌<◌, ◌⊎◌, inl, inr, [], Contains, refl, sym, ap, ◌∙◌, subst, arith}
use Rattle.std.proofs.lemmas.Bool.{cases_eq}
use Rattle.block_pointer.specs.declared.block.Block.{Block}
use Rattle.dead_list.specs.Datasets.{Free, Head, Snapshot, Dataset, Datasets, Pool, IsReached, IsBornIn, AreFreed, nothing, updated}
use Rattle.dead_list.specs.Operations.{snapshot_of, head_after, with_snapshot}
use Rattle.dead_list.specs.Sound.{IsSound, Fits, until}
use Rattle.dead_list.proofs.Climbing.{none_reached, not_behind}
use Rattle.dead_list.proofs.Fitting.{freed_none, until_head, not_none}
use Rattle.dead_list.proofs.Parts.{difference_same}
use Rattle.dead_list.proofs.Updates.{same_at, other_at, at_each, passed_not, passed_at}

module _ (pool : Pool) (sound : IsSound pool) (h : ℕ) (head : (pool.datasets h).kind ≡ Head) (n : ℕ) (some : n ≢ 0) (free : pool.datasets n ≡ nothing) where
  abbrev s : Datasets
  s = pool.datasets

  abbrev taken : Datasets
  taken = (with_snapshot pool h n).datasets

  abbrev the_snapshot : Dataset
  the_snapshot = snapshot_of pool.group (pool.datasets h)

  abbrev the_head : Dataset
  the_head = head_after n (pool.datasets h)

  free_kind : (s n).kind ≡ Free
  free_kind = ap (λ (x : Dataset). x.kind) free

  apart : n ≢ h
  apart e = let f : (pool.datasets h).kind ≡ Free = subst (λ k. (pool.datasets k).kind ≡ Free) e free_kind in cc

  some_head : h ≢ 0
  some_head = not_none pool sound h (λ e. cc)

  not_behind_n : (m : ℕ) → (s m).before ≢ n
  not_behind_n m = not_behind pool sound n m some (λ e. let f : (pool.datasets n).kind ≡ Free = free_kind in cc)

  not_behind_h : (m : ℕ) → (s m).before ≢ h
  not_behind_h m = not_behind pool sound h m some_head (λ e. cc)

  not_next : (m : ℕ) → (s m).kind ≡ Snapshot → pool.next m ≢ n
  not_next m kind e = not_none pool sound m (λ free. cc) (sym (sound.followed m kind) ∙ ap (λ k. (pool.datasets k).before) e ∙ ap (λ (x : Dataset). x.before) free)

  at_n : taken n ≡ the_snapshot
  at_n = other_at (updated pool.datasets n the_snapshot) h the_head n apart ∙ same_at pool.datasets n the_snapshot

  at_h : taken h ≡ the_head
  at_h = same_at (updated pool.datasets n the_snapshot) h the_head

  at_other : (m : ℕ) → m ≢ h → m ≢ n → taken m ≡ s m
  at_other m nh nn = other_at (updated pool.datasets n the_snapshot) h the_head m nh ∙ other_at pool.datasets n the_snapshot m nn

  before_same : (m : ℕ) → taken (s m).before ≡ s (s m).before
  before_same m = at_other (s m).before (not_behind_h m) (not_behind_n m)

  -- what holds of the snapshot, of the head and of the others holds of each
  each_of : (P : ℕ → Dataset → Type 0) → P n the_snapshot → P h the_head → ((m : ℕ) → m ≢ h → m ≢ n → P m (s m)) → (m : ℕ) → P m (taken m)
  each_of P snapshot here there = at_each (updated pool.datasets n the_snapshot) h the_head P here
      (λ m nh. at_each pool.datasets n the_snapshot (λ m x. m ≢ h → P m x) (λ nh. snapshot) (λ m nn nh. there m nh nn) m nh)

  rank : ℕ → ℕ
  rank = updated (updated sound.rank n (sound.rank h)) h (suc (sound.rank h))

  rank_n : rank n ≡ sound.rank h
  unfolding rank
  rank_n = other_at (updated sound.rank n (sound.rank h)) h (suc (sound.rank h)) n apart ∙ same_at sound.rank n (sound.rank h)

  rank_h : rank h ≡ suc (sound.rank h)
  unfolding rank
  rank_h = same_at (updated sound.rank n (sound.rank h)) h (suc (sound.rank h))

  rank_other : (m : ℕ) → m ≢ h → m ≢ n → rank m ≡ sound.rank m
  unfolding rank
  rank_other m nh nn = other_at (updated sound.rank n (sound.rank h)) h (suc (sound.rank h)) m nh ∙ other_at sound.rank n (sound.rank h) m nn

  rank_before : (m : ℕ) → rank (s m).before ≡ sound.rank (s m).before
  rank_before m = rank_other (s m).before (not_behind_h m) (not_behind_n m)

  past_head : until pool.group (s h) ≡ pool.group
  past_head = until_head pool.group (pool.datasets h) head

  fits_snapshot : Fits pool.group the_snapshot (s (s h).before)
  fits_snapshot = record {
    made = omega (arith, (sound.fits h).made, past_head);
    past = omega arith;
    born = λ b held. omega (arith, (sound.fits h).born b held, past_head);
    once = (sound.fits h).once;
    shared = (sound.fits h).shared;
    dead = (sound.fits h).dead;
  }

  fits_head : Fits pool.group the_head the_snapshot
  fits_head = record {
    made = omega (arith, past_head);
    past = (sound.fits h).past;
    born = (sound.fits h).born;
    once = (sound.fits h).once;
    shared = λ b held early. held;
    dead = difference_same (pool.datasets h).blocks;
  }

  taken_fits : (m : ℕ) → Fits pool.group (taken m) (taken (taken m).before)
  taken_fits = each_of (λ m x. Fits pool.group x (taken x.before))
      (subst (λ p. Fits pool.group the_snapshot p) (sym (before_same h)) fits_snapshot)
      (subst (λ p. Fits pool.group the_head p) (sym at_n) fits_head)
      (λ m nh nn. subst (λ p. Fits pool.group (s m) p) (sym (before_same m)) (sound.fits m))

  -- a dataset that has kept its place, if its rank is the one of this number before
  link_of : (m k : ℕ) → rank k ≡ sound.rank m → ((s m).before ≡ 0) ⊎ (((taken (s m).before).kind ≡ Snapshot) × (rank (s m).before < rank k))
  link_of m k same = elim (sound.linked m) [
    | inl first ↦ inl first
    | inr link ↦ inr (ap (λ (x : Dataset). x.kind) (before_same m) ∙ link.0, omega (arith, link.1, same, rank_before m))
  ]

  taken_linked : (m : ℕ) → ((taken m).before ≡ 0) ⊎ (((taken (taken m).before).kind ≡ Snapshot) × (rank (taken m).before < rank m))
  taken_linked = each_of (λ m x. (x.before ≡ 0) ⊎ (((taken x.before).kind ≡ Snapshot) × (rank x.before < rank m)))
      (link_of h n rank_n)
      (inr (ap (λ (x : Dataset). x.kind) at_n, omega (arith, rank_n, rank_h)))
      (λ m nh nn. link_of m m (rank_other m nh nn))

  -- what is born in the snapshot was born in the head
  BornBefore : ℕ → Block → Type 0
  BornBefore m b = ((m ≡ n) × IsBornIn s h b) ⊎ ((m ≢ h) × IsBornIn s m b)

  born_before : (m : ℕ) (b : Block) → IsBornIn taken m b → BornBefore m b
  unfolding BornBefore
  born_before m b = each_of (λ m x. Contains x.blocks b × ((taken x.before).group < b.birth) → BornBefore m b)
      (λ born. inl (refl, (born.0, subst (λ (x : Dataset). x.group < b.birth) (before_same h) born.1)))
      (λ born.
      let same : (taken n).group ≡ pool.group = ap (λ (x : Dataset). x.group) at_n in
      absurd (omega (arith, same, born.1, (sound.fits h).born b born.0, past_head)))
      (λ m nh nn born. inr (nh, (born.0, subst (λ (x : Dataset). x.group < b.birth) (before_same m) born.1))) m

  taken_one : (m k : ℕ) (b : Block) → IsBornIn taken m b → IsBornIn taken k b → m ≡ k
  unfolding BornBefore
  taken_one m k b first second = elim (born_before m b first) [
    | inl new ↦ elim (born_before k b second) [
      | inl also ↦ new.0 ∙ sym also.0
      | inr other ↦ absurd (other.0 (sound.one k h b other.1 new.1))
    ]
    | inr was ↦ elim (born_before k b second) [
      | inl new ↦ absurd (was.0 (sound.one m h b was.1 new.1))
      | inr other ↦ sound.one m k b was.1 other.1
    ]
  ]

  abbrev nexts : ℕ → ℕ
  nexts = (with_snapshot pool h n).next

  after_snapshot : (taken (nexts n)).before ≡ n
  after_snapshot = ap (λ k. (taken k).before) (passed_not (updated pool.next n h) (s h).before h n n (λ e. absurd (not_behind_n h (sym e))) ∙ same_at pool.next n h) ∙ ap (λ (x : Dataset). x.before) at_h

  after_other : (m : ℕ) → m ≢ n → m ≢ h → (s m).kind ≡ Snapshot → (taken (nexts m)).before ≡ m
  after_other m nn nh kind = elim (cases_eq (pool.next m) h) [
    | inl e ↦
        let is : (s h).before ≡ m = ap (λ k. (s k).before) (sym e) ∙ sound.followed m kind in
        ap (λ k. (taken k).before) (passed_at (updated pool.next n h) (s h).before h n m (sym is) (ap (updated pool.next n h) is ∙ other_at pool.next n h m nn ∙ e)) ∙ ap (λ (x : Dataset). x.before) at_n ∙ is
    | inr ne ↦
        ap (λ k. (taken k).before) (passed_not (updated pool.next n h) (s h).before h n m (λ is same. ne (sym (other_at pool.next n h m nn) ∙ ap (updated pool.next n h) is ∙ same)) ∙ other_at pool.next n h m nn)
        ∙ ap (λ (x : Dataset). x.before) (at_other (pool.next m) ne (not_next m kind)) ∙ sound.followed m kind
  ]

  pub snapshot_taken : IsSound (with_snapshot pool h n)
  snapshot_taken = record {
    none = at_other 0 (λ e. some_head (sym e)) (λ e. some (sym e)) ∙ sound.none;
    rank = rank;
    linked = taken_linked;
    fits = taken_fits;
    one = taken_one;
    followed = each_of (λ m x. x.kind ≡ Snapshot → (taken (nexts m)).before ≡ m)
        (λ kind. after_snapshot)
        (λ e. absurd (cc))
        (λ m nh nn kind. after_other m nn nh kind);
  }

  -- the head reaches what it reached, and nothing is freed
  pub taken_freed : AreFreed pool.datasets (with_snapshot pool h n).datasets []
  taken_freed = freed_none pool.datasets (with_snapshot pool h n).datasets (λ b (m, was). elim (cases_eq m h) [
    | inl e ↦ (h, subst (λ (x : Dataset). Contains x.blocks b) (sym at_h) (subst (λ k. Contains (s k).blocks b) e was))
    | inr nh ↦ elim (cases_eq m n) [
      | inl e ↦ none_reached (s m) b (ap s e ∙ free) was
      | inr nn ↦ (m, subst (λ (x : Dataset). Contains x.blocks b) (sym (at_other m nh nn)) was)
    ]
  ])

  pub taken_back : (b : Block) → IsReached (with_snapshot pool h n).datasets b → IsReached pool.datasets b
  taken_back b (m, now) = each_of (λ m x. Contains x.blocks b → IsReached s b) (λ here. (h, here)) (λ here. (h, here)) (λ m nh nn there. (m, there)) m now
