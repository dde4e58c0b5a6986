-- The objects of a set, and the trees of their nodes.
use Rattle.std.proofs.Common.{◌≡◌, ℕ, zero, suc, ◌+◌, ◌<◌, ◌≤◌, List, [], ◌∷◌, ◌++◌, length, get_or, Option, Contains, refl, sym, ap, subst, arith, inl, inr}
use Rattle.std.specs.List.{flat_map, range_with_len}
use Rattle.std.proofs.lemmas.List.Elements.{Contains-append_cases}
use Rattle.block_pointer.specs.declared.block.Block.{Block}
use Rattle.block_store.specs.Blocks.{Contents}
use Rattle.dnode.specs.declared.object_set.ObjectSet.{ObjectSet}
use Rattle.objset.specs.declared.node_walks.FoundNode.{FoundNode}
use Rattle.dnode_tree.proofs.Exchanging.{both_once}
use Rattle.dnode_tree.proofs.SameBlocks.{once_counted, distinct_counted}
use Rattle.dnode_tree.specs.Rewriting.{AreDistinct}
use Rattle.dnode_tree.specs.Tree.{IsTree}
use Rattle.objset.specs.Laws.{HasEachOnce}
use Rattle.objset.specs.Within.{blocks_of_set}

-- each node has a tree of these blocks
abbrev pub HaveTrees : Contents → List FoundNode → List (List Block) → Type 0
HaveTrees stored [] [] = Unit {0}
HaveTrees stored [] (part ∷ parts) = ⊥
HaveTrees stored (it ∷ list) [] = ⊥
HaveTrees stored (it ∷ list) (part ∷ parts) = ((array : ℕ → Option (List ℕ)) × IsTree stored it.birth it.node array part) × HaveTrees stored list parts

pub tree_at : (stored : Contents) (list : List FoundNode) (parts : List (List Block)) (k : ℕ) (it other : FoundNode) → HaveTrees stored list parts → k < length list → it ≡ get_or list k other
    → ((array : ℕ → Option (List ℕ)) × IsTree stored it.birth it.node array (get_or parts k [])) × (k < length parts)
tree_at stored [] parts k it other have low is = absurd (omega (arith, low))
tree_at stored (first ∷ list) [] k it other have low is = absurd have
tree_at stored (first ∷ list) (part ∷ parts) zero it other have low is =
    (subst (λ (one : FoundNode). (array : ℕ → Option (List ℕ)) × IsTree stored one.birth one.node array part) (sym is) have.0, omega arith)
tree_at stored (first ∷ list) (part ∷ parts) (suc k) it other have low is =
    let there = tree_at stored list parts k it other have.1 (omega (arith, low)) is in (there.0, omega (arith, there.1))

pub as_many : (stored : Contents) (list : List FoundNode) (parts : List (List Block)) → HaveTrees stored list parts → length parts ≡ length list
as_many stored [] [] have = refl
as_many stored [] (part ∷ parts) have = absurd have
as_many stored (it ∷ list) [] have = absurd have
as_many stored (it ∷ list) (part ∷ parts) have = ap suc (as_many stored list parts have.1)

-- ---- each block once

apart_distinct : (xs ys : List Block) → AreDistinct xs → AreDistinct ys → ((block : Block) → Contains xs block → ¬ Contains ys block) → AreDistinct (xs ++ ys)
apart_distinct xs ys one two apart = distinct_counted (xs ++ ys) (λ block. both_once block xs ys (once_counted block xs one) (once_counted block ys two) (apart block))

pub in_range : (blocks : ℕ → List Block) (block : Block) (first count : ℕ) → Contains (flat_map blocks (range_with_len first count)) block
    → (number : ℕ) × (first ≤ number) × Contains (blocks number) block
in_range blocks block first zero held = absurd (omega (arith, held.1))
in_range blocks block first (suc count) held =
    elim (Contains-append_cases (blocks first) (flat_map blocks (range_with_len (first + 1) count)) block held) [
      | inl here ↦ (first, omega arith, here)
      | inr later ↦ let there = in_range blocks block (first + 1) count later in (there.0, omega (arith, there.1), there.2)
    ]

objects_once : (own : List Block) (blocks : ℕ → List Block) (first count : ℕ) → HasEachOnce own blocks → AreDistinct (flat_map blocks (range_with_len first count))
objects_once own blocks first zero once = λ i j d less low. absurd (omega (arith, low))
objects_once own blocks first (suc count) once =
    apart_distinct (blocks first) (flat_map blocks (range_with_len (first + 1) count)) (once.each_once first) (objects_once own blocks (first + 1) count once)
    (λ block here later. let there = in_range blocks block (first + 1) count later in
    let same : first ≡ there.0 = once.apart first there.0 block here there.2 in omega (arith, same, there.1))

pub whole_once : (set : ObjectSet) (own : List Block) (blocks : ℕ → List Block) → HasEachOnce own blocks → AreDistinct (blocks_of_set set own blocks)
whole_once set own blocks once =
    apart_distinct own (flat_map blocks (range_with_len 0 set.objects)) once.own_once (objects_once own blocks 0 set.objects once)
    (λ block here later. let there = in_range blocks block 0 set.objects later in once.own_apart there.0 block here there.2)
