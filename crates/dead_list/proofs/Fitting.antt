-- Datasets that fit those before them.
use Rattle.std.proofs.Common.{ℕ, ◌≡◌, ◌≢◌, ◌<◌, ◌≤◌, inl, inr, [], List, Contains, sym, ap, ◌∙◌, subst, arith}
use Rattle.block_pointer.specs.declared.block.Block.{Block}
use Rattle.dead_list.specs.Datasets.{Free, Head, Snapshot, Dataset, Datasets, Pool, IsReached, AreFreed, group_before, nothing, updated}
use Rattle.dead_list.specs.Sound.{IsSound, Fits, until, until_kind}
use Rattle.dead_list.proofs.Climbing.{none_reached}
use Rattle.dead_list.proofs.Distinct.{distinct_none}
use Rattle.dead_list.proofs.Parts.{none_in, difference_none}
use Rattle.dead_list.proofs.Updates.{same_at, other_at}

-- no dataset fits nothing before it
pub fits_nothing : (group : ℕ) → Fits group nothing nothing
fits_nothing group = record {
  made = omega arith;
  past = omega arith;
  born = λ b h. none_in b h;
  once = distinct_none;
  shared = λ b h e. h;
  dead = difference_none;
}

pub until_head : (group : ℕ) (x : Dataset) → x.kind ≡ Head → until group x ≡ group
until_head group x e = ap (λ k. until_kind group k x.group) e

pub until_snapshot : (group : ℕ) (x : Dataset) → x.kind ≡ Snapshot → until group x ≡ x.group
until_snapshot group x e = ap (λ k. until_kind group k x.group) e

-- with another one before it that is as good
pub fits_behind : (group : ℕ) (x before : Dataset) → Fits group x before → (n : ℕ) (dead : List Block) → Fits group x (record before { before = n; dead = dead })
fits_behind group x before f n dead = record {
  made = f.made;
  past = f.past;
  born = f.born;
  once = f.once;
  shared = f.shared;
  dead = f.dead;
}

-- nothing is freed where all that was reached still is
pub freed_none : (old new : Datasets) → ((b : Block) → IsReached old b → IsReached new b) → AreFreed old new []
freed_none old new still = record {
  which = λ b. ((λ h. none_in b h), (λ (was, now). absurd (now (still b was))));
  once = distinct_none;
}

pub reached_other : (s : Datasets) (n : ℕ) (d : Dataset) (m : ℕ) (b : Block) → m ≢ n → Contains (s m).blocks b → IsReached (updated s n d) b
reached_other s n d m b ne h = (m, subst (λ (x : Dataset). Contains x.blocks b) (sym (other_at s n d m ne)) h)

pub reached_here : (s : Datasets) (n : ℕ) (d : Dataset) (b : Block) → Contains d.blocks b → IsReached (updated s n d) b
reached_here s n d b h = (n, subst (λ (x : Dataset). Contains x.blocks b) (sym (same_at s n d)) h)

module _ (pool : Pool) (sound : IsSound pool) where
  -- what isn't free isn't number 0
  pub not_none : (n : ℕ) → (pool.datasets n).kind ≢ Free → n ≢ 0
  not_none n some e = some (ap (λ k. (pool.datasets k).kind) e ∙ ap (λ (x : Dataset). x.kind) sound.none)

  -- what the snapshot before reaches was born by its group
  pub before_born : (m : ℕ) (b : Block) → Contains (pool.datasets (pool.datasets m).before).blocks b → b.birth ≤ group_before pool.datasets m
  before_born m b h = elim (sound.linked m) [
    | inl first ↦ none_reached (pool.datasets (pool.datasets m).before) b (ap pool.datasets first ∙ sound.none) h
    | inr link ↦ let e = until_snapshot pool.group (pool.datasets (pool.datasets m).before) link.0 in omega (arith, e, (sound.fits (pool.datasets m).before).born b h)
  ]

  -- the snapshot before is another one
  pub before_other : (m : ℕ) → m ≢ 0 → (pool.datasets m).before ≢ m
  before_other m some e = elim (sound.linked m) [
    | inl first ↦ some (sym e ∙ first)
    | inr link ↦ let low : sound.rank m < sound.rank m = subst (λ k. sound.rank k < sound.rank m) e link.1 in omega (arith, low)
  ]
