-- A pool with a dataset less.
use Rattle.std.proofs.Common.{◌≡◌, ◌≢◌, ◌≤◌, ℕ, List, inl, inr, refl, sym, ap, subst, ◌∙◌, arith}
use Rattle.std.proofs.lemmas.Bool.{cases_eq}
use Rattle.block_pointer.specs.declared.block.Block.{Block}
use Rattle.dataset_destroys.specs.Destroying.{IsDestroyed, operation_of}
use Rattle.dead_list.specs.Datasets.{Dataset, Datasets, Free, Head, Kind, Pool, group_before, nothing, updated}
use Rattle.dead_list.specs.Datasets.{Snapshot as ASnapshot}
use Rattle.dead_list.specs.Operations.{Makes, with_dataset, without_snapshot}
use Rattle.dead_list.specs.Sound.{IsSound, until_kind}
use Rattle.dead_list.proofs.Updates.{at_each, other_at, same_at}

-- The dataset is gone. The others keep what they are, and what is before each is of no later group than what was.
pub record IsOneLess (pool after : Pool) (n : ℕ) : Type 0 where
  pub gone : after.datasets n ≡ nothing
  pub group : after.group ≡ pool.group
  pub kinds : (m : ℕ) → m ≢ n → (after.datasets m).kind ≡ (pool.datasets m).kind
  pub groups : (m : ℕ) → m ≢ n → (after.datasets m).group ≡ (pool.datasets m).group
  pub blocks : (m : ℕ) → m ≢ n → (after.datasets m).blocks ≡ (pool.datasets m).blocks
  pub before : (m : ℕ) → m ≢ n → group_before after.datasets m ≤ group_before pool.datasets m

-- a head
less_head : (pool : Pool) (n : ℕ) → IsOneLess pool (with_dataset pool n nothing) n
less_head pool n =
    let s : Datasets = pool.datasets in
    let made : Datasets = (with_dataset pool n nothing).datasets in
    let other : (m : ℕ) → m ≢ n → made m ≡ s m = λ m ne. other_at s n nothing m ne in
    let most : (k : ℕ) → (made k).group ≤ (s k).group = at_each s n nothing (λ k (d : Dataset). d.group ≤ (s k).group) (omega arith) (λ k ne. omega arith) in
    record {
      gone = same_at s n nothing;
      group = refl;
      kinds = λ m ne. ap (λ (d : Dataset). d.kind) (other m ne);
      groups = λ m ne. ap (λ (d : Dataset). d.group) (other m ne);
      blocks = λ m ne. ap (λ (d : Dataset). d.blocks) (other m ne);
      before = λ m ne.
          let at : group_before made m ≡ (made (s m).before).group = ap (λ (d : Dataset). (made d.before).group) (other m ne) in
          omega (arith, at, most (s m).before);
    }

-- a snapshot: what came after it stands behind what was before it
module _ (pool : Pool) (sound : IsSound pool) (n : ℕ) (is : (pool.datasets n).kind ≡ ASnapshot) (dead : List Block) where
  abbrev s : Datasets
  s = pool.datasets

  -- what came after it, and what was before it
  abbrev x : ℕ
  x = pool.next n

  abbrev p : ℕ
  p = (s n).before

  abbrev behind : Dataset
  behind = record (s x) { before = p; dead = dead }

  abbrev mid : Datasets
  mid = updated s x behind

  abbrev made : Datasets
  made = (without_snapshot pool n dead).datasets

  other : (m : ℕ) → m ≢ n → made m ≡ mid m
  other m ne = other_at mid n nothing m ne

  mid_kinds : (m : ℕ) → (mid m).kind ≡ (s m).kind
  mid_kinds = at_each s x behind (λ k (d : Dataset). d.kind ≡ (s k).kind) refl (λ k ne. refl)

  mid_groups : (m : ℕ) → (mid m).group ≡ (s m).group
  mid_groups = at_each s x behind (λ k (d : Dataset). d.group ≡ (s k).group) refl (λ k ne. refl)

  mid_blocks : (m : ℕ) → (mid m).blocks ≡ (s m).blocks
  mid_blocks = at_each s x behind (λ k (d : Dataset). d.blocks ≡ (s k).blocks) refl (λ k ne. refl)

  most : (k : ℕ) → (made k).group ≤ (s k).group
  most = at_each mid n nothing (λ k (d : Dataset). d.group ≤ (s k).group) (omega arith) (λ k ne. omega (arith, mid_groups k))

  -- what was before the snapshot is of no later group
  older : (s p).group ≤ (s n).group
  older =
      let until : until_kind pool.group (s n).kind (s n).group ≡ (s n).group = ap (λ kind. until_kind pool.group kind (s n).group) is in
      let made_by = (sound.fits n).made in
      omega (arith, until, made_by)

  before_less : (m : ℕ) → m ≢ n → group_before made m ≤ group_before s m
  before_less m ne = elim (cases_eq m x) [
    | inl e ↦
        let at : group_before made m ≡ (made p).group = ap (λ (d : Dataset). (made d.before).group) (other m ne ∙ ap mid e ∙ same_at s x behind) in
        let was : group_before s m ≡ (s n).group = ap (λ k. group_before s k) e ∙ ap (λ k. (s k).group) (sound.followed n is) in
        omega (arith, at, was, most p, older)
    | inr apart ↦
        let at : group_before made m ≡ (made (s m).before).group = ap (λ (d : Dataset). (made d.before).group) (other m ne ∙ other_at s x behind m apart) in
        omega (arith, at, most (s m).before)
  ]

  less_snapshot : IsOneLess pool (without_snapshot pool n dead) n
  less_snapshot = record {
    gone = same_at mid n nothing;
    group = refl;
    kinds = λ m ne. ap (λ (d : Dataset). d.kind) (other m ne) ∙ mid_kinds m;
    groups = λ m ne. ap (λ (d : Dataset). d.group) (other m ne) ∙ mid_groups m;
    blocks = λ m ne. ap (λ (d : Dataset). d.blocks) (other m ne) ∙ mid_blocks m;
    before = before_less;
  }

less_by : (pool after : Pool) (n : ℕ) (gone : List Block) (kind : Kind) → (pool.datasets n).kind ≡ kind → IsSound pool → Makes pool (operation_of kind n) gone after → IsOneLess pool after n
less_by pool after n gone Free is sound made = subst (λ (p : Pool). IsOneLess pool p n) (sym made.new_is) (less_head pool n)
less_by pool after n gone Head is sound made = subst (λ (p : Pool). IsOneLess pool p n) (sym made.new_is) (less_head pool n)
less_by pool after n gone ASnapshot is sound made = subst (λ (p : Pool). IsOneLess pool p n) (sym made.new_is) (less_snapshot pool sound n is made.dead)

-- so it is once a dataset is destroyed
pub one_less : (pool after : Pool) (n : ℕ) (gone : List Block) → IsSound pool → IsDestroyed pool n gone after → IsOneLess pool after n
one_less pool after n gone sound made = less_by pool after n gone (pool.datasets n).kind refl sound made
