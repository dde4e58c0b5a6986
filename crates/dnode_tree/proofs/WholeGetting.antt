-- Several data blocks of a whole tree: those behind the highest id are none.
use Rattle.std.proofs.Common.{◌≡◌, ℕ, ◌+◌, ◌-◌, ◌^◌, ◌<◌, ◌≤◌, ◌⊎◌, List, [], ◌∷◌, ◌++◌, length, take, drop, get_or, Option, None, All, Vec, Contains, inl, inr, refl, ap, sym, ◌∙◌, subst, arith}
use Rattle.std.specs.declared.alloc.Global.{Global}
use Rattle.std.specs.List.{AllZip}
use Rattle.std.specs.List.Sorted.{IsStrictlyIncreasing}
use Rattle.std.specs.Prelude.{replicate}
use Rattle.std.proofs.lemmas.List.{take-append-drop}
use Rattle.std.proofs.lemmas.List.Elements.{All-head, All-take, All-contains, Contains-append_left}
use Rattle.block_pointer.specs.declared.block.Block.{Block}
use Rattle.block_store.specs.declared.refusal.Refusal.{Refusal}
use Rattle.block_store.specs.declared.refusal.Refusal.TheVariants.{NoMemory}
use Rattle.block_store.specs.Blocks.{Contents}
use Rattle.block_store.specs.Steps.{AnswersTell}
use Rattle.block_store.specs.Store.{Store, Holds}
use Rattle.dnode.specs.declared.node.ObjectNode.{ObjectNode}
use Rattle.dnode.specs.Levels.{levels_of}
use Rattle.dnode_tree.specs.Many.{FoundBlocks, AreAsIn, AreFound, AreIdsBetween, HaveAdded, IsOneRefused, IsOneRefusedIn}
use Rattle.dnode_tree.specs.PartsRefused.{reached_part}
use Rattle.dnode_tree.specs.Subtree.{IsSubtree}
use Rattle.dnode_tree.specs.Tree.{property_of, IsTree}
use Rattle.dnode_tree.specs.Ways.{reached, root_of, bytes_of, IsFound, IsFoundBelow, IsRefusedBelow}
use Rattle.dnode_tree.proofs.Getting.{child_at, zip_append, zip_weaker, zip_none, increasing_taken, behind_all}

-- ids up to the highest, and those behind it
module _ (ids within behind : List ℕ) (n highest : ℕ) (within_is : within ≡ take n ids) (behind_is : behind ≡ drop n ids) where
  pub whole_split : ids ≡ within ++ behind
  whole_split = sym (ap (λ front. front ++ behind) within_is ∙ ap (λ back. take n ids ++ back) behind_is ∙ take-append-drop n ids)

  pub within_once : IsStrictlyIncreasing ids → IsStrictlyIncreasing within
  within_once once = subst IsStrictlyIncreasing (sym within_is) (increasing_taken ids n once)

  pub within_between : (levels : ℕ) → highest < 128 ^ (levels - 1) → All (λ id. id < highest + 1) (take n ids) → AreIdsBetween 0 (0 + 128 ^ (levels - 1)) within
  within_between levels enough before = subst (λ xs. AreIdsBetween 0 (0 + 128 ^ (levels - 1)) xs) (sym within_is)
      (λ k d low. let one = before k d low in (omega arith, omega (arith, one, enough)))

  pub within_highest : All (λ id. id < highest + 1) (take n ids) → All (λ id. id ≤ highest) within
  within_highest before = subst (λ xs. All (λ id. id ≤ highest) xs) (sym within_is) (λ k d low. let one = before k d low in omega (arith, one))

  pub behind_highest : IsStrictlyIncreasing ids → (n < length ids → highest + 1 ≤ get_or ids n 0) → All (λ id. highest < id) behind
  behind_highest once later = subst (λ xs. All (λ id. highest < id) xs) (sym behind_is)
      (λ k d low. let one : highest + 1 ≤ get_or (drop n ids) k d = behind_all ids n (highest + 1) once later k d low in omega (arith, one))

  -- no id is up to the highest
  pub none_within : All (λ id. highest < id) ids → All (λ id. id < highest + 1) (take n ids) → within ≡ []
  none_within far before = within_is ∙ nothing (take n ids) (All-take (λ id. highest < id) n ids far) before
    where
      nothing : (xs : List ℕ) → All (λ id. highest < id) xs → All (λ id. id < highest + 1) xs → xs ≡ []
      nothing [] above under = refl
      nothing (x ∷ xs) above under = absurd (omega (arith, All-head (λ id. highest < id) x xs above, All-head (λ id. id < highest + 1) x xs under))

  module _ (old new : Store) (missing : List ℕ) (node : ObjectNode) (birth level : ℕ) (empty between after : FoundBlocks) (level_is : level ≡ levels_of node.highest - 1) (highest_is : highest ≡ node.highest)
      (nothing : empty ≡ []) (step : HaveAdded old new missing node (child_at level node.pointer birth) 0 within empty between)
      (rest : after ≡ between ++ replicate (length behind) None) where
    after_is : step.more ++ replicate (length behind) None ≡ after
    after_is = sym (rest ∙ ap (λ front. front ++ replicate (length behind) None) (step.added ∙ ap (λ front. front ++ step.more) nothing))

    pub many_found : All (λ id. id ≤ highest) within → All (λ id. highest < id) behind → AreFound old.spaces node birth ids after
    many_found low far =
        let P : ℕ → Option (Vec ℕ Global) → Type 0 = λ id block. IsFound old.spaces node birth id (bytes_of block) in
        let front : AllZip P within step.more =
        zip_weaker (λ id. id ≤ highest) (λ id (block : Option (Vec ℕ Global)). IsFoundBelow old.spaces (property_of node) (reached_part (child_at level node.pointer birth)) (id - 0) (bytes_of block)) P within step.more
        (λ id block le there.
        let here : id - 0 ≡ id = omega arith in
        inr (
          omega (arith, le, highest_is),
          subst (λ i. IsFoundBelow old.spaces (property_of node) (root_of node birth) i (bytes_of block)) here
              (subst (λ l. IsFoundBelow old.spaces (property_of node) (reached l node.pointer birth) (id - 0) (bytes_of block)) level_is there),
        )) low step.found in
        let back : AllZip P behind (replicate (length behind) None) =
        zip_none (λ id. highest < id) P None behind (λ id lt. inl (omega (arith, lt, highest_is), refl)) far in
        subst (λ xs. AreFound old.spaces node birth xs after) (sym whole_split)
        (subst (λ all. AllZip P (within ++ behind) all) after_is (zip_append P within behind step.more (replicate (length behind) None) front back))

    pub many_as_in : All (λ id. highest < id) behind → (stored : Contents) (array : ℕ → Option (List ℕ)) (blocks : List Block) → Holds old stored
        → IsTree stored birth node array blocks → AnswersTell old new missing → AreAsIn array ids after
    many_as_in far stored array blocks held tree tell =
        let P : ℕ → Option (Vec ℕ Global) → Type 0 = λ id block. bytes_of block ≡ array id in
        let front : AllZip P within step.more = step.value stored array blocks held
        (subst (λ l. IsSubtree stored (property_of node) l 0 birth node.pointer array blocks) (sym level_is) tree.root) tell in
        let back : AllZip P behind (replicate (length behind) None) =
        zip_none (λ id. highest < id) P None behind (λ id lt. sym (tree.behind id (omega (arith, lt, highest_is)))) far in
        subst (λ xs. AreAsIn array xs after) (sym whole_split)
        (subst (λ all. AllZip P (within ++ behind) all) after_is (zip_append P within behind step.more (replicate (length behind) None) front back))

  pub many_refused : (old new : Store) (missing : List ℕ) (node : ObjectNode) (birth level : ℕ) (refusal : Refusal) → level ≡ levels_of node.highest - 1 → highest ≡ node.highest
      → All (λ id. id ≤ highest) within → IsOneRefusedIn old new missing node (child_at level node.pointer birth) 0 within refusal
      → (refusal ≡ NoMemory) ⊎ IsOneRefused old new missing node birth ids refusal
  many_refused old new missing node birth level refusal level_is highest_is low (inl memory) = inl memory
  many_refused old new missing node birth level refusal level_is highest_is low (inr (id, held, why)) =
      let here : id - 0 ≡ id = omega arith in
      inr (
        id,
        subst (λ xs. Contains xs id) (sym whole_split) (Contains-append_left within behind id held),
        omega (arith, All-contains (λ i. i ≤ highest) within id low held, highest_is),
        subst (λ i. IsRefusedBelow old new missing (property_of node) (root_of node birth) i refusal) here
            (subst (λ l. IsRefusedBelow old new missing (property_of node) (reached l node.pointer birth) (id - 0) refusal) level_is why),
      )
