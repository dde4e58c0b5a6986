-- What becomes of a pool where a snapshot is destroyed.
use Rattle.std.proofs.Common.{ℕ, ◌≡◌, ◌≢◌, ◌<◌, ◌≤◌, ◌⊎◌, inl, inr, List, Contains, refl, sym, ap, ◌∙◌, subst, arith}
use Rattle.std.proofs.lemmas.Bool.{cases_lt, cases_eq}
use Rattle.block_pointer.specs.declared.block.Block.{Block}
use Rattle.dead_list.specs.Blocks.{IsDifference}
use Rattle.dead_list.specs.Datasets.{Snapshot, Dataset, Datasets, Pool, IsReached, IsBornIn, AreFreed, nothing, updated}
use Rattle.dead_list.specs.Operations.{HasNoClones, IsSnapshotDestroyed, without_snapshot}
use Rattle.dead_list.specs.Sound.{IsSound, Fits, until}
use Rattle.dead_list.proofs.Climbing.{none_reached, only_there}
use Rattle.dead_list.proofs.Fitting.{fits_nothing, fits_behind, until_snapshot, not_none, before_born, before_other}
use Rattle.dead_list.proofs.Parts.{none_in, split_cases, split_after, split_until, split_once, joined_cases, joined_left, joined_right, joined_once}
use Rattle.dead_list.proofs.Updates.{same_at, other_at, at_each, passed_not, passed_at}

module _ (pool : Pool) (sound : IsSound pool) (d : ℕ) (kind : (pool.datasets d).kind ≡ Snapshot) (only : HasNoClones pool d)
    (freed : List Block) (new : Pool) (is : IsSnapshotDestroyed pool d freed new) where
  abbrev s : Datasets
  s = pool.datasets

  -- what comes after it, and the one before it
  abbrev n : ℕ
  n = pool.next d

  abbrev p : ℕ
  p = (pool.datasets d).before

  abbrev follower : Dataset
  follower = record (pool.datasets n) { before = p; dead = is.dead }

  abbrev removed : Datasets
  removed = (without_snapshot pool d is.dead).datasets

  some : d ≢ 0
  some = not_none pool sound d (λ e. cc)

  behind : (s n).before ≡ d
  behind = sound.followed d kind

  apart : n ≢ d
  apart e = before_other pool sound d some (sym (ap (λ k. (s k).before) e) ∙ behind)

  some_next : n ≢ 0
  some_next e = some (sym behind ∙ ap (λ k. (s k).before) e ∙ ap (λ (x : Dataset). x.before) sound.none)

  before_d : p ≢ d
  before_d = before_other pool sound d some

  -- the rank of the follower is the greater one
  ranked : sound.rank d < sound.rank n
  ranked = elim (sound.linked n) [
    | inl first ↦ absurd (some (sym behind ∙ first))
    | inr link ↦ subst (λ k. sound.rank k < sound.rank n) behind link.1
  ]

  before_next : p ≢ n
  before_next e = elim (sound.linked d) [
    | inl first ↦ some_next (sym e ∙ first)
    | inr link ↦ let low : sound.rank n < sound.rank d = subst (λ k. sound.rank k < sound.rank d) e link.1 in omega (arith, low, ranked)
  ]

  at_d : removed d ≡ nothing
  at_d = same_at (updated s n follower) d nothing

  at_next : removed n ≡ follower
  at_next = other_at (updated s n follower) d nothing n apart ∙ same_at s n follower

  at_other : (m : ℕ) → m ≢ d → m ≢ n → removed m ≡ s m
  at_other m nd nn = other_at (updated s n follower) d nothing m nd ∙ other_at s n follower m nn

  before_same : removed p ≡ s p
  before_same = at_other p before_d before_next

  -- what holds of nothing, of the follower and of the others holds of each
  each_of : (P : ℕ → Dataset → Type 0) → P d nothing → P n follower → ((m : ℕ) → m ≢ d → m ≢ n → P m (s m)) → (m : ℕ) → P m (removed m)
  each_of P none here there = at_each (updated s n follower) d nothing P none
      (λ m nd. at_each s n follower (λ m x. m ≢ d → P m x) (λ nd. here) (λ m nn nd. there m nd nn) m nd)

  -- the follower's snapshot before was this one
  follows : Fits pool.group (s n) (s d)
  follows = subst (λ k. Fits pool.group (s n) (s k)) behind (sound.fits n)

  snapshot_group : until pool.group (s d) ≡ (s d).group
  snapshot_group = until_snapshot pool.group (pool.datasets d) kind

  low_group : (b : Block) → Contains (s p).blocks b → b.birth ≤ (s d).group
  low_group b there = omega (arith, before_born pool sound d b there, (sound.fits d).made, snapshot_group)

  dead_are : IsDifference (s p).blocks (s n).blocks is.dead
  dead_are = record {
    each = λ b there. elim ((sound.fits d).dead.each b there) [
      | inr dead ↦ inr (joined_right is.older (s d).dead is.dead is.dead_are b dead)
      | inl here ↦ elim (follows.dead.each b here) [
        | inl still ↦ inl still
        | inr gone ↦ elim (split_cases (s p).group (s n).dead freed is.older is.split b gone) [
          | inl young ↦ absurd (omega (arith, young.0, before_born pool sound d b there))
          | inr old ↦ inr (joined_left is.older (s d).dead is.dead is.dead_are b old.1)
        ]
      ]
    ];
    from = λ b dead. elim (joined_cases is.older (s d).dead is.dead is.dead_are b dead) [
      | inl old ↦
          let (early, gone) = split_until (s p).group (s n).dead freed is.older is.split b old in
          let (here, not_next) = follows.dead.from b gone in
          ((sound.fits d).shared b here early, not_next)
      | inr was ↦
          let (there, not_here) = (sound.fits d).dead.from b was in
          (there, λ now. not_here (follows.shared b now (low_group b there)))
    ];
    once = joined_once is.older (s d).dead is.dead is.dead_are (split_once (s p).group (s n).dead freed is.older is.split follows.dead.once).1 (sound.fits d).dead.once
        (λ b old was. ((sound.fits d).dead.from b was).1 (follows.dead.from b (split_until (s p).group (s n).dead freed is.older is.split b old).1).0);
  }

  fits_next : Fits pool.group follower (s p)
  fits_next = record {
    made = omega (arith, (sound.fits d).made, snapshot_group, follows.made);
    past = follows.past;
    born = follows.born;
    once = follows.once;
    shared = λ b held early. (sound.fits d).shared b (follows.shared b held (omega (arith, early, (sound.fits d).made, snapshot_group))) early;
    dead = dead_are;
  }

  -- another one fits what is before it now
  fits_other : (m : ℕ) → m ≢ d → m ≢ n → Fits pool.group (s m) (removed (s m).before)
  fits_other m nd nn = elim (cases_eq (s m).before n) [
    | inl e ↦ subst (λ x. Fits pool.group (s m) x) (sym (ap removed e ∙ at_next))
        (fits_behind pool.group (s m) (s n) (subst (λ k. Fits pool.group (s m) (s k)) e (sound.fits m)) p is.dead)
    | inr ne ↦ subst (λ x. Fits pool.group (s m) x) (sym (at_other (s m).before (λ e. nn (only m e)) ne)) (sound.fits m)
  ]

  removed_fits : (m : ℕ) → Fits pool.group (removed m) (removed (removed m).before)
  removed_fits = each_of (λ m x. Fits pool.group x (removed x.before))
      (subst (λ x. Fits pool.group nothing x) (sym (at_other 0 (λ e. some (sym e)) (λ e. some_next (sym e)) ∙ sound.none)) (fits_nothing pool.group))
      (subst (λ x. Fits pool.group follower x) (sym before_same) fits_next)
      fits_other

  -- the kind and the group of what stands before another one stay
  kind_before : (m : ℕ) → m ≢ n → ((removed (s m).before).kind ≡ (s (s m).before).kind) × ((removed (s m).before).group ≡ (s (s m).before).group)
  kind_before m nn = elim (cases_eq (s m).before n) [
    | inl e ↦ (ap (λ k. (removed k).kind) e ∙ ap (λ (x : Dataset). x.kind) at_next ∙ ap (λ k. (s k).kind) (sym e), ap (λ k. (removed k).group) e ∙ ap (λ (x : Dataset). x.group) at_next ∙ ap (λ k. (s k).group) (sym e))
    | inr ne ↦ let same = at_other (s m).before (λ e. nn (only m e)) ne in (ap (λ (x : Dataset). x.kind) same, ap (λ (x : Dataset). x.group) same)
  ]

  removed_linked : (m : ℕ) → ((removed m).before ≡ 0) ⊎ (((removed (removed m).before).kind ≡ Snapshot) × (sound.rank (removed m).before < sound.rank m))
  removed_linked = each_of (λ m x. (x.before ≡ 0) ⊎ (((removed x.before).kind ≡ Snapshot) × (sound.rank x.before < sound.rank m)))
      (inl (λ i. 0))
      (elim (sound.linked d) [
        | inl first ↦ inl first
        | inr link ↦ inr (ap (λ (x : Dataset). x.kind) before_same ∙ link.0, omega (arith, link.1, ranked))
      ])
      (λ m nd nn. elim (sound.linked m) [
        | inl first ↦ inl first
        | inr link ↦ inr ((kind_before m nn).0 ∙ link.0, link.1)
      ])

  -- what is born in the follower was born in it or in the snapshot
  BornBefore : ℕ → Block → Type 0
  BornBefore m b = ((m ≡ n) × (IsBornIn s n b ⊎ IsBornIn s d b)) ⊎ ((m ≢ d) × IsBornIn s m b)

  born_before : (m : ℕ) (b : Block) → IsBornIn removed m b → BornBefore m b
  unfolding BornBefore
  born_before m b = each_of (λ m x. Contains x.blocks b × ((removed x.before).group < b.birth) → BornBefore m b)
      (λ born. none_in b born.0)
      (λ born. inl (
        refl,
        elim (cases_lt (s d).group b.birth) [
          | inl much ↦ inl (born.0, subst (λ k. (s k).group < b.birth) (sym behind) much)
          | inr early ↦ inr (follows.shared b born.0 early, subst (λ (x : Dataset). x.group < b.birth) before_same born.1)
        ],
      ))
      (λ m nd nn born. inr (nd, (born.0, let same = (kind_before m nn).1 in omega (arith, same, born.1)))) m

  removed_one : (m k : ℕ) (b : Block) → IsBornIn removed m b → IsBornIn removed k b → m ≡ k
  unfolding BornBefore
  removed_one m k b first second = elim (born_before m b first) [
    | inl new ↦ elim (born_before k b second) [
      | inl also ↦ new.0 ∙ sym also.0
      | inr other ↦ elim new.1 [
        | inl here ↦ new.0 ∙ sound.one n k b here other.1
        | inr there ↦ absurd (other.0 (sound.one k d b other.1 there))
      ]
    ]
    | inr was ↦ elim (born_before k b second) [
      | inl new ↦ elim new.1 [
        | inl here ↦ sound.one m n b was.1 here ∙ sym new.0
        | inr there ↦ absurd (was.0 (sound.one m d b was.1 there))
      ]
      | inr other ↦ sound.one m k b was.1 other.1
    ]
  ]

  abbrev nexts : ℕ → ℕ
  nexts = (without_snapshot pool d is.dead).next

  after_next : (s n).kind ≡ Snapshot → (removed (nexts n)).before ≡ n
  after_next snapshot =
      let after = sound.followed n snapshot in
      ap (λ k. (removed k).before) (passed_not pool.next p d n n (λ e. absurd (before_next (sym e))))
      ∙ ap (λ (x : Dataset). x.before) (at_other (pool.next n) (λ e. before_next (sym (ap (λ k. (s k).before) e) ∙ after)) (λ e. apart (sym after ∙ ap (λ k. (s k).before) e ∙ behind))) ∙ after

  after_other : (m : ℕ) → m ≢ d → m ≢ n → (s m).kind ≡ Snapshot → (removed (nexts m)).before ≡ m
  after_other m nd nn snapshot =
      let after = sound.followed m snapshot in
      elim (cases_eq (pool.next m) d) [
        | inl e ↦
            let before : p ≡ m = ap (λ k. (s k).before) (sym e) ∙ after in
            ap (λ k. (removed k).before) (passed_at pool.next p d n m (sym before) (ap pool.next before ∙ e)) ∙ ap (λ (x : Dataset). x.before) at_next ∙ before
        | inr ne ↦
            ap (λ k. (removed k).before) (passed_not pool.next p d n m (λ before same. ne (ap pool.next before ∙ same)))
            ∙ ap (λ (x : Dataset). x.before) (at_other (pool.next m) ne (λ e. nd (sym after ∙ ap (λ k. (s k).before) e ∙ behind))) ∙ after
      ]

  pub snapshot_removed : IsSound (without_snapshot pool d is.dead)
  snapshot_removed = record {
    none = at_other 0 (λ e. some (sym e)) (λ e. some_next (sym e)) ∙ sound.none;
    rank = sound.rank;
    linked = removed_linked;
    fits = removed_fits;
    one = removed_one;
    followed = each_of (λ m x. x.kind ≡ Snapshot → (removed (nexts m)).before ≡ m) (λ e. absurd (cc)) after_next after_other;
  }

  -- other datasets reach what they reached
  blocks_same : (m : ℕ) → m ≢ d → (removed m).blocks ≡ (s m).blocks
  blocks_same m nd = elim (cases_eq m n) [
    | inl e ↦ ap (λ (k : ℕ). (removed k).blocks) e ∙ ap (λ (x : Dataset). x.blocks) at_next ∙ ap (λ (k : ℕ). (s k).blocks) (sym e)
    | inr nn ↦ ap (λ (x : Dataset). x.blocks) (at_other m nd nn)
  ]

  still : (m : ℕ) (b : Block) → m ≢ d → Contains (s m).blocks b → IsReached removed b
  still m b nd was = (m, subst (λ blocks. Contains blocks b) (sym (blocks_same m nd)) was)

  removed_to : (b : Block) → Contains freed b → IsReached s b × ¬ IsReached removed b
  removed_to b held =
      let (young, gone) = split_after (s p).group (s n).dead freed is.older is.split b held in
      let (was, not_next) = follows.dead.from b gone in (
        (d, was),
        λ (m, now). elim (cases_eq m d) [
          | inl e ↦ none_reached (removed m) b (ap removed e ∙ at_d) now
          | inr nd ↦ nd (only_there pool sound b d m (was, young)
              (λ it. not_next (subst (λ k. Contains (s k).blocks b) (only it.at it.before) it.reaches))
              (subst (λ blocks. Contains blocks b) (blocks_same m nd) now))
        ],
      )

  removed_from : (b : Block) → IsReached s b × ¬ IsReached removed b → Contains freed b
  removed_from b ((m, was), now) = elim (cases_eq m d) [
    | inr nd ↦ absurd (now (still m b nd was))
    | inl e ↦
        let here : Contains (s d).blocks b = subst (λ k. Contains (s k).blocks b) e was in
        elim (follows.dead.each b here) [
          | inl kept ↦ absurd (now (still n b apart kept))
          | inr gone ↦ elim (split_cases (s p).group (s n).dead freed is.older is.split b gone) [
            | inl young ↦ young.1
            | inr old ↦ absurd (now (still p b before_d ((sound.fits d).shared b here old.0)))
          ]
        ]
  ]

  pub removed_freed : AreFreed pool.datasets (without_snapshot pool d is.dead).datasets freed
  removed_freed = record {
    which = λ b. (removed_to b, removed_from b);
    once = (split_once (s p).group (s n).dead freed is.older is.split follows.dead.once).0;
  }

  pub removed_back : (b : Block) → IsReached (without_snapshot pool d is.dead).datasets b → IsReached pool.datasets b
  removed_back b (m, now) = each_of (λ m x. Contains x.blocks b → IsReached s b) (λ none. none_in b none) (λ here. (n, here)) (λ m nd nn there. (m, there)) m now
