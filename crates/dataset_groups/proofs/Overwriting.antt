-- A pool of which one head is overwritten.
use Rattle.std.proofs.Common.{◌≡◌, ◌≢◌, ◌⊎◌, ℕ, ◌≤◌, List, ◌++◌, Contains, inl, inr, refl, sym, ap, subst, ◌∙◌}
use Rattle.std.proofs.lemmas.Bool.{cases_eq}
use Rattle.std.proofs.lemmas.List.Elements.{All-contains, Contains-append_cases, Contains-append_left}
use Rattle.std.proofs.lemmas.List.Sorted.{Contains-permutation, IsPermutation-sym}
use Rattle.block_pointer.specs.declared.block.Block.{Block}
use Rattle.dead_list.specs.Datasets.{Dataset, Head, Pool, Snapshot, IsReached, group_before}
use Rattle.dead_list.specs.Operations.{IsHead, Makes, Overwrite}
use Rattle.dead_list.specs.Sound.{IsSound}
use Rattle.dead_list.proofs.Climbing.{not_behind}
use Rattle.dead_list.proofs.Updates.{other_at, same_at}

-- what a dataset is but for its blocks
pub record HasSameShape (old new : Dataset) : Type 0 where
  pub kind : new.kind ≡ old.kind
  pub group : new.group ≡ old.group
  pub before : new.before ≡ old.before

abbrev pub HaveSameShapes : Pool → Pool → Type 0
HaveSameShapes old new = (m : ℕ) → HasSameShape (old.datasets m) (new.datasets m)

pub shapes_none : (pool : Pool) → HaveSameShapes pool pool
shapes_none pool m = record { kind = refl; group = refl; before = refl }

pub shapes_on : (old mid new : Pool) → HaveSameShapes old mid → HaveSameShapes mid new → HaveSameShapes old new
shapes_on old mid new one two m =
    record { kind = (two m).kind ∙ (one m).kind; group = (two m).group ∙ (one m).group; before = (two m).before ∙ (one m).before }

-- so the snapshot before each is of the same group
pub same_group_before : (old new : Pool) → HaveSameShapes old new → (m : ℕ) → group_before new.datasets m ≡ group_before old.datasets m
same_group_before old new same m = ap (λ k. (new.datasets k).group) (same m).before ∙ (same (old.datasets m).before).group

module _ (pool : Pool) (n : ℕ) (left entered gone : List Block) (after : Pool) (made : Makes pool (Overwrite n left entered) gone after) where
  abbrev overwritten : Dataset
  overwritten = record (pool.datasets n) { blocks = made.blocks; dead = made.dead }

  pub others_same : (m : ℕ) → m ≢ n → after.datasets m ≡ pool.datasets m
  others_same m ne = ap (λ (p : Pool). p.datasets m) made.new_is ∙ other_at pool.datasets n overwritten m ne

  there : after.datasets n ≡ overwritten
  there = ap (λ (p : Pool). p.datasets n) made.new_is ∙ same_at pool.datasets n overwritten

  pub shapes_same : HaveSameShapes pool after
  shapes_same m = elim (cases_eq m n) [
    | inl e ↦
        subst (λ k. HasSameShape (pool.datasets k) (after.datasets k)) (sym e)
        (subst (HasSameShape (pool.datasets n)) (sym there) (record { kind = refl; group = refl; before = refl }))
    | inr ne ↦ subst (HasSameShape (pool.datasets m)) (sym (others_same m ne)) (record { kind = refl; group = refl; before = refl })
  ]

  -- what is freed was the head's
  pub freed_was : (b : Block) → Contains gone b → Contains (pool.datasets n).blocks b
  freed_was b held =
      (made.leave.from b (Contains-permutation (gone ++ made.older) left b (IsPermutation-sym left (gone ++ made.older) made.split.parts) (Contains-append_left gone made.older b held))).0

  -- what entered is reached
  pub entered_reached : (b : Block) → Contains entered b → IsReached after.datasets b
  entered_reached b held = (n, subst (λ (x : Dataset). Contains x.blocks b) (sym there) (made.enter.from b held).0)

  module _ (sound : IsSound pool) (head : IsHead pool.datasets n) where
    not_none : n ≢ 0
    not_none e = let wrong : Head ≡ _ = sym head ∙ ap (λ k. (pool.datasets k).kind) e ∙ ap (λ (x : Dataset). x.kind) sound.none in cc

    not_snapshot : (pool.datasets n).kind ≢ Snapshot
    not_snapshot e = let wrong : Head ≡ Snapshot = sym head ∙ e in cc

    before_other : (pool.datasets n).before ≢ n
    before_other = not_behind pool sound n n not_none not_snapshot

    -- what was reached is so still, or is freed
    pub kept_or_freed : (b : Block) → IsReached pool.datasets b → IsReached after.datasets b ⊎ Contains gone b
    kept_or_freed b (m, held) = elim (cases_eq m n) [
      | inr ne ↦ inl (m, subst (λ (x : Dataset). Contains x.blocks b) (sym (others_same m ne)) held)
      | inl e ↦
          let here : Contains (pool.datasets n).blocks b = subst (λ k. Contains (pool.datasets k).blocks b) e held in
          elim (made.leave.each b here) [
            | inl still ↦ inl (n, subst (λ (x : Dataset). Contains x.blocks b) (sym there) still)
            | inr away ↦ elim (Contains-append_cases gone made.older b (Contains-permutation left (gone ++ made.older) b made.split.parts away)) [
              | inl freed ↦ inr freed
              | inr old ↦
                  let early = All-contains (λ (c : Block). c.birth ≤ group_before pool.datasets n) made.older b made.split.until_are old in
                  let behind : Contains (pool.datasets (pool.datasets n).before).blocks b = (sound.fits n).shared b here early in
                  inl ((pool.datasets n).before, subst (λ (x : Dataset). Contains x.blocks b) (sym (others_same (pool.datasets n).before before_other)) behind)
            ]
          ]
    ]
