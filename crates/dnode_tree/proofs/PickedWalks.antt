-- What a walk over picked blocks finds is picked.
use Rattle.std.proofs.Common.{All, ◌≡◌, ℕ, zero, suc, ◌-◌, ◌<◌, Bool, true, false, cond, List, [], ◌∷◌, get_or, Contains, inl, inr, refl, subst, arith}
use Rattle.std.specs.Prelude.{nat_lt}
use Rattle.std.proofs.lemmas.Bool.Decides.{nat_tests}
use Rattle.std.proofs.lemmas.List.Elements.{Contains-append_cases, Contains-get_or}
use Rattle.block_pointer.specs.declared.block.Block.{Block}
use Rattle.block_pointer.specs.declared.pointer.BlockPtr.{BlockPtr}
use Rattle.block_pointer.specs.declared.pointer.BlockPtr.TheVariants.{Hole, Block as At}
use Rattle.block_pointer.specs.declared.property.Property.{Property}
use Rattle.block_store.specs.Spaces.{VdevSpace}
use Rattle.dnode.specs.declared.node.ObjectNode.{ObjectNode}
use Rattle.dnode.specs.Levels.{levels_of}
use Rattle.dnode_tree.specs.Subtree.{joined}
use Rattle.dnode_tree.specs.Tree.{property_of}
use Rattle.dnode_tree.specs.Younger.{is_younger, seen, IsWalkedWhere, AreWalkedWhere}
use Rattle.dnode_tree.proofs.Standing.{out_of_joined, only_one}

-- a block that is seen is picked
seen_is_picked : (picks : Block → Bool) (pointer : BlockPtr) (block : Block) → seen picks pointer ≡ At block → picks block ≡ true
seen_is_picked picks Hole block is = absurd cc
seen_is_picked picks (At other) block is = told (picks other) refl is
  where
    told : (b : Bool) → picks other ≡ b → cond b (At other) Hole ≡ At block → picks block ≡ true
    told true passes is = let same : other ≡ block = cc in subst (λ x. picks x ≡ true) same passes
    told false fails is = absurd cc

walked_are : (picks : Block → Bool) (spaces : List VdevSpace) (property : ℕ → Property) (level birth : ℕ) (root : BlockPtr) (blocks : List Block)
    → ((block : Block) → root ≡ At block → picks block ≡ true) → IsWalkedWhere picks spaces property level birth root blocks
    → (other : Block) → Contains blocks other → picks other ≡ true
walked_are picks spaces property zero birth Hole blocks own walked other held =
    let none : Contains [] other = subst (λ all. Contains all other) walked held in absurd (omega (arith, none.1))
walked_are picks spaces property zero birth (At block) blocks own walked other held =
    subst (λ b. picks b ≡ true) (only_one block other (subst (λ all. Contains all other) walked.1 held)) (own block refl)
walked_are picks spaces property (suc level) birth Hole blocks own walked other held =
    let none : Contains [] other = subst (λ all. Contains all other) walked held in absurd (omega (arith, none.1))
walked_are picks spaces property (suc level) birth (At block) blocks own walked other held =
    elim (Contains-append_cases (block ∷ []) (joined walked.1) other (subst (λ all. Contains all other) walked.5 held)) [
      | inl here ↦ subst (λ b. picks b ≡ true) (only_one block other here) (own block refl)
      | inr below ↦
          let there = out_of_joined walked.1 other below in
          walked_are picks spaces property level block.birth (seen picks (get_or walked.0 there.0 Hole)) (get_or walked.1 there.0 [])
          (seen_is_picked picks (get_or walked.0 there.0 Hole)) (walked.4 there.0 (omega (arith, there.1, walked.3))) other there.2
    ]

after : (since birth : ℕ) → nat_lt since birth ≡ true → since < birth
after since birth test = grind (arith, nat_tests)

pub walked_younger : (since : ℕ) (spaces : List VdevSpace) (node : ObjectNode) (birth : ℕ) (blocks : List Block) → AreWalkedWhere (is_younger since) spaces node birth blocks
    → All (λ block. since < block.birth) blocks
walked_younger since spaces node birth blocks walked = λ k other low.
    after since (get_or blocks k other).birth
    (walked_are (is_younger since) spaces (property_of node) (levels_of node.highest - 1) birth (seen (is_younger since) node.pointer) blocks
    (seen_is_picked (is_younger since) node.pointer) walked (get_or blocks k other) (Contains-get_or blocks k other low))
