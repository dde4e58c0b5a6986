-- A tree stands on its blocks.
use Rattle.std.proofs.Common.{◌≡◌, ℕ, zero, suc, ◌+◌, ◌-◌, ◌*◌, ◌^◌, ◌<◌, ◌≤◌, List, [], ◌∷◌, length, Option, Some, None, Contains, get_or, inl, inr, refl, sym, subst, arith}
use Rattle.std.proofs.lemmas.List.Elements.{Contains-append_left, Contains-append_right, Contains-append_cases}
use Rattle.block_pointer.specs.declared.block.Block.{Block}
use Rattle.block_pointer.specs.declared.pointer.BlockPtr.{BlockPtr}
use Rattle.block_pointer.specs.declared.pointer.BlockPtr.TheVariants.{Hole, Block as At}
use Rattle.block_pointer.specs.declared.property.Property.{Property}
use Rattle.dnode.specs.Levels.{levels_of}
use Rattle.block_store.specs.Blocks.{Contents}
use Rattle.dnode_tree.proofs.Holes.{empty_part}
use Rattle.dnode_tree.specs.Laws.{TreesStandOnTheirBlocks, BlocksOfTreesAreKnown, HolesAreTrees}
use Rattle.dnode_tree.specs.Subtree.{IsSubtree, joined}
use Rattle.dnode_tree.specs.Tree.{property_of}

pub in_joined : (parts : List (List Block)) (k : ℕ) (block : Block) → k < length parts → Contains (get_or parts k []) block → Contains (joined parts) block
in_joined [] k block low held = absurd (omega (arith, low))
in_joined (part ∷ parts) zero block low held = Contains-append_left part (joined parts) block held
in_joined (part ∷ parts) (suc k) block low held = Contains-append_right part (joined parts) block (in_joined parts k block (omega (arith, low)) held)

pub out_of_joined : (parts : List (List Block)) (block : Block) → Contains (joined parts) block → (k : ℕ) × (k < length parts) × Contains (get_or parts k []) block
out_of_joined [] block held = absurd (omega (arith, held.1))
out_of_joined (part ∷ parts) block held =
    elim (Contains-append_cases part (joined parts) block held) [
      | inl first ↦ (0, omega arith, first)
      | inr later ↦ let there = out_of_joined parts block later in (suc there.0, omega (arith, there.1), there.2)
    ]

pub first_in : (block : Block) (rest : List Block) → Contains (block ∷ rest) block
first_in block rest = (0, omega arith, refl)

pub only_one : (x y : Block) → Contains (x ∷ []) y → x ≡ y
only_one x y (zero, low, is) = is
only_one x y (suc k, low, is) = absurd (omega (arith, low))

subtree_stands : (old new : Contents) (property : ℕ → Property) (level first birth : ℕ) (pointer : BlockPtr) (array : ℕ → Option (List ℕ)) (blocks : List Block)
    → ((block : Block) (bytes : List ℕ) → Contains blocks block → old block ≡ Some bytes → new block ≡ Some bytes)
    → IsSubtree old property level first birth pointer array blocks → IsSubtree new property level first birth pointer array blocks
subtree_stands old new property zero first birth Hole array blocks keeps part = part
subtree_stands old new property zero first birth (At block) array blocks keeps part = (
  part.0,
  record { asks = part.1.asks; known = keeps block part.0 (subst (λ all. Contains all block) (sym part.3) (first_in block [])) part.1.known; fill = part.1.fill },
  part.2,
  part.3,
)
subtree_stands old new property (suc level) first birth Hole array blocks keeps part = part
subtree_stands old new property (suc level) first birth (At block) array blocks keeps part = record {
  asks = part.asks;
  bytes = part.bytes;
  known = keeps block part.bytes (subst (λ all. Contains all block) (sym part.blocks_are) (first_in block (joined part.parts))) part.known;
  pointers = part.pointers;
  spelled = part.spelled;
  fill = part.fill;
  parts = part.parts;
  count = part.count;
  below = λ k low. subtree_stands old new property level (first + k * 128 ^ level) block.birth (get_or part.pointers k Hole) array (get_or part.parts k [])
      (λ other bytes held known. keeps other bytes (subst (λ all. Contains all other) (sym part.blocks_are)
      (Contains-append_right (block ∷ []) (joined part.parts) other (in_joined part.parts k other (omega (arith, low, part.count)) held))) known)
      (part.below k low);
  blocks_are = part.blocks_are;
}

pub trees_stand : TreesStandOnTheirBlocks
trees_stand old new birth node array blocks keeps tree =
    record { root = subtree_stands old new (property_of node) _ 0 birth node.pointer array blocks keeps tree.root; behind = tree.behind }

pub blocks_known : (stored : Contents) (property : ℕ → Property) (level first birth : ℕ) (pointer : BlockPtr) (array : ℕ → Option (List ℕ)) (blocks : List Block)
    → IsSubtree stored property level first birth pointer array blocks → (block : Block) → Contains blocks block → (block.birth ≤ birth) × (bytes : List ℕ) × (stored block ≡ Some bytes)
blocks_known stored property zero first birth Hole array blocks part other held =
    let none : Contains [] other = subst (λ all. Contains all other) part.1 held in absurd (omega (arith, none.1))
blocks_known stored property zero first birth (At block) array blocks part other held =
    let one : block ≡ other = only_one block other (subst (λ all. Contains all other) part.3 held) in
    subst (λ b. (b.birth ≤ birth) × (bytes : List ℕ) × (stored b ≡ Some bytes)) one (part.1.asks.birth, part.0, part.1.known)
blocks_known stored property (suc level) first birth Hole array blocks part other held =
    let none : Contains [] other = subst (λ all. Contains all other) part.1 held in absurd (omega (arith, none.1))
blocks_known stored property (suc level) first birth (At block) array blocks part other held =
    elim (Contains-append_cases (block ∷ []) (joined part.parts) other (subst (λ all. Contains all other) part.blocks_are held)) [
      | inl own ↦ subst (λ b. (b.birth ≤ birth) × (bytes : List ℕ) × (stored b ≡ Some bytes)) (only_one block other own) (part.asks.birth, part.bytes, part.known)
      | inr below ↦
          let there = out_of_joined part.parts other below in
          let low : there.0 < 128 = omega (arith, there.1, part.count) in
          let known = blocks_known stored property level (first + there.0 * 128 ^ level) block.birth (get_or part.pointers there.0 Hole) array (get_or part.parts there.0 []) (part.below there.0 low) other there.2 in
          (omega (arith, known.0, part.asks.birth), known.1, known.2)
    ]

pub tree_blocks_known : BlocksOfTreesAreKnown
tree_blocks_known stored birth node array blocks tree block held = blocks_known stored (property_of node) _ 0 birth node.pointer array blocks tree.root block held

pub empty_trees : HolesAreTrees
empty_trees stored birth node is =
    record {
      root = subst (λ pointer. IsSubtree stored (property_of node) (levels_of node.highest - 1) 0 birth pointer (λ id. None) []) (sym is)
          (empty_part stored (property_of node) (levels_of node.highest - 1) 0 birth (λ id. None) (λ id from under. refl));
      behind = λ id past. refl;
    }
