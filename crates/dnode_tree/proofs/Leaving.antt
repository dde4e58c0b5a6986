-- The blocks of one list that another hasn't, one after the other.
use Rattle.std.proofs.Common.{Bool, MatchBool, true, false, not, ◌≡◌, ◌≢◌, ◌↔◌, ◌⊎◌, ℕ, zero, suc, ◌+◌, ◌<◌, List, [], ◌∷◌, ◌++◌, length, take, get_or, Contains, inl, inr, refl, sym, ap, ◌∙◌, subst, arith}
use Rattle.std.specs.List.{list_any}
use Rattle.std.specs.List.Sorted.{IsPermutation}
use Rattle.std.proofs.lemmas.List.Sorted.{IsPermutation-sym, Contains-permutation}
use Rattle.std.proofs.lemmas.Map.Views.{Contains-from_any, list_any-from_Contains}
use Rattle.std.proofs.lemmas.List.{take_more}
use Rattle.std.proofs.lemmas.List.Elements.{Contains-append_left, Contains-append_right, Contains-append_cases, Contains-push, Contains-push_cases, Contains-get_or}
use Rattle.std.proofs.lemmas.List.Quantifiers.{all_pairs_push}
use Rattle.block_pointer.specs.declared.block.Block.{Block}
use Rattle.block_pointer.specs.contracts.block.BlockPartialEq.TheImpl as block_eq
use Rattle.dnode_tree.proofs.SameBlocks.{same_is, blocks_compare}
use Rattle.dnode_tree.specs.Freeing.{AreOnlyIn}

-- the others and the blocks so far were seen, and those that the others haven't are left
pub record IsLeaving (blocks others seen left : List Block) : Type 0 where
  pub has : (block : Block) → Contains seen block ↔ (Contains others block ⊎ Contains blocks block)
  pub left_are : AreOnlyIn blocks others left

nothing_in : (block : Block) → Contains [] block → ⊥
nothing_in block held = omega (arith, held.1)

pub leaving_begins : (others seen : List Block) → ((block : Block) → Contains seen block ↔ Contains others block) → IsLeaving [] others seen []
leaving_begins others seen same = record {
  has = λ block. (
    λ held. inl ((same block).0 held),
    λ held. elim held [
      | inl there ↦ (same block).1 there
      | inr here ↦ absurd (nothing_in block here)
    ],
  );
  left_are = record {
    which = λ block. (λ held. absurd (nothing_in block held), λ (held, others_not). held);
    once = λ i j d less low. absurd (omega (arith, low));
  };
}

module _ (blocks others seen later left : List Block) (block : Block) (so_far : IsLeaving blocks others seen left)
    (added : (other : Block) → Contains later other ↔ ((other ≡ block) ⊎ Contains seen other)) where
  has_more : (other : Block) → Contains later other ↔ (Contains others other ⊎ Contains (blocks ++ block ∷ []) other)
  has_more other = (
    λ held. elim ((added other).0 held) [
      | inl is ↦ inr (subst (λ b. Contains (blocks ++ block ∷ []) b) (sym is) (Contains-push blocks block))
      | inr before ↦
          elim ((so_far.has other).0 before) [
            | inl there ↦ inl there
            | inr here ↦ inr (Contains-append_left blocks (block ∷ []) other here)
          ]
    ],
    λ held. elim held [
      | inl there ↦ (added other).1 (inr ((so_far.has other).1 (inl there)))
      | inr here ↦
          elim (Contains-push_cases blocks block other here) [
            | inl sooner ↦ (added other).1 (inr ((so_far.has other).1 (inr sooner)))
            | inr is ↦ (added other).1 (inl (sym is))
          ]
    ],
  )

  leaves_new : ¬ Contains seen block → IsLeaving (blocks ++ block ∷ []) others later (left ++ block ∷ [])
  leaves_new is_new = record {
    has = has_more;
    left_are = record {
      which = λ other. (
        λ held. elim (Contains-push_cases left block other held) [
          | inl sooner ↦ let both = (so_far.left_are.which other).0 sooner in (Contains-append_left blocks (block ∷ []) other both.0, both.1)
          | inr is ↦ (
            subst (λ b. Contains (blocks ++ block ∷ []) b) is (Contains-push blocks block),
            λ among. is_new ((so_far.has block).1 (inl (subst (λ b. Contains others b) (sym is) among))),
          )
        ],
        λ (held, others_not). elim (Contains-push_cases blocks block other held) [
          | inl sooner ↦ Contains-append_left left (block ∷ []) other ((so_far.left_are.which other).1 (sooner, others_not))
          | inr is ↦ subst (λ b. Contains (left ++ block ∷ []) b) is (Contains-push left block)
        ],
      );
      once = all_pairs_push (λ one other. one ≢ other) left block so_far.left_are.once
          (λ k d low same. is_new ((so_far.has block).1 (inr (subst (λ b. Contains blocks b) same ((so_far.left_are.which (get_or left k d)).0 (Contains-get_or left k d low)).0))));
    };
  }

  leaves_known : Contains seen block → IsLeaving (blocks ++ block ∷ []) others later left
  leaves_known known = record {
    has = has_more;
    left_are = record {
      which = λ other. (
        λ held. (let both = (so_far.left_are.which other).0 held in (Contains-append_left blocks (block ∷ []) other both.0, both.1)),
        λ (held, others_not). elim (Contains-push_cases blocks block other held) [
          | inl sooner ↦ (so_far.left_are.which other).1 (sooner, others_not)
          | inr is ↦
              elim ((so_far.has block).0 known) [
                | inl there ↦ absurd (others_not (subst (λ b. Contains others b) is there))
                | inr here ↦ (so_far.left_are.which other).1 (subst (λ b. Contains blocks b) is here, others_not)
              ]
        ],
      );
      once = so_far.left_are.once;
    };
  }

-- one block more of a list
module _ (blocks : List Block) (n : ℕ) (block other : Block) (low : n < length blocks) (is : block ≡ get_or blocks n other) where
  taken : take n blocks ++ block ∷ [] ≡ take (n + 1) blocks
  taken = ap (λ b. take n blocks ++ b ∷ []) is ∙ sym (take_more blocks n other low)

  module _ (others seen later left : List Block) (so_far : IsLeaving (take n blocks) others seen left)
      (added : (that : Block) → Contains later that ↔ ((that ≡ block) ⊎ Contains seen that)) where
    pub leaving_new : ¬ Contains seen block → IsLeaving (take (n + 1) blocks) others later (left ++ block ∷ [])
    leaving_new is_new =
        subst (λ bs. IsLeaving bs others later (left ++ block ∷ [])) taken (leaves_new (take n blocks) others seen later left block so_far added is_new)

    pub leaving_known : Contains seen block → IsLeaving (take (n + 1) blocks) others later left
    leaving_known known = subst (λ bs. IsLeaving bs others later left) taken (leaves_known (take n blocks) others seen later left block so_far added known)

  pub set_more : (keys later : List Block) → ((that : Block) → Contains keys that ↔ Contains (take n blocks) that)
      → ((that : Block) → Contains later that ↔ ((that ≡ block) ⊎ Contains keys that)) → (that : Block) → Contains later that ↔ Contains (take (n + 1) blocks) that
  set_more keys later same added that = (
    λ held. subst (λ bs. Contains bs that) taken (elim ((added that).0 held) [
      | inl here ↦ subst (λ b. Contains (take n blocks ++ block ∷ []) b) (sym here) (Contains-push (take n blocks) block)
      | inr sooner ↦ Contains-append_left (take n blocks) (block ∷ []) that ((same that).0 sooner)
    ]),
    λ held. elim (Contains-push_cases (take n blocks) block that (subst (λ bs. Contains bs that) (sym taken) held)) [
      | inl sooner ↦ (added that).1 (inr ((same that).1 sooner))
      | inr here ↦ (added that).1 (inl (sym here))
    ],
  )

-- a block is added to a set
is_known : (keys : List Block) (block : Block) → false ≡ not (list_any ((block_eq.ghosts).eq block) keys) → Contains keys block
is_known keys block is = Contains-from_any same_is block keys (by_cases (list_any ((block_eq.ghosts).eq block) keys) refl)
  where
    by_cases : (found : Bool) → list_any ((block_eq.ghosts).eq block) keys ≡ found → list_any ((block_eq.ghosts).eq block) keys ≡ true
    by_cases true found = found
    by_cases false found = absurd (let clash : false ≡ not false = is ∙ ap not found in cc)

only_one : (x y : Block) → Contains (x ∷ []) y → x ≡ y
only_one x y (zero, low, is) = is
only_one x y (suc k, low, is) = absurd (omega (arith, low))

pub is_new : (keys : List Block) (block : Block) (added : Bool) → added ≡ not (list_any ((block_eq.ghosts).eq block) keys) → MatchBool added (¬ Contains keys block) (Contains keys block)
is_new keys block true is = λ held.
    let known : list_any ((block_eq.ghosts).eq block) keys ≡ true = list_any-from_Contains blocks_compare block keys held in
    let clash : true ≡ not true = is ∙ ap not known in
    absurd (cc)
is_new keys block false is = is_known keys block is

pub keys_more : (keys later : List Block) (block : Block) (added : Bool) → added ≡ not (list_any ((block_eq.ghosts).eq block) keys)
    → MatchBool added (IsPermutation (block ∷ keys) later) (later ≡ keys) → (other : Block) → Contains later other ↔ ((other ≡ block) ⊎ Contains keys other)
keys_more keys later block true is moved other = (
  λ held. (elim (Contains-append_cases (block ∷ []) keys other (Contains-permutation later (block ∷ keys) other (IsPermutation-sym (block ∷ keys) later moved) held)) [
    | inl this ↦ inl (sym (only_one block other this))
    | inr sooner ↦ inr sooner
  ]),
  λ held. elim held [
    | inl same ↦ Contains-permutation (block ∷ keys) later other moved (0, omega arith, sym same)
    | inr sooner ↦ Contains-permutation (block ∷ keys) later other moved (Contains-append_right (block ∷ []) keys other sooner)
  ],
)
keys_more keys later block false is same other = (
  λ held. inr (subst (λ all. Contains all other) same held),
  λ held. subst (λ all. Contains all other) (sym same) (elim held [
    | inl here ↦ subst (λ b. Contains keys b) (sym here) (is_known keys block is)
    | inr sooner ↦ sooner
  ]),
)
