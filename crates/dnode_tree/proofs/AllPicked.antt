-- Walks that pick each block that has a spelling: they are walks over all blocks.
use Rattle.std.proofs.Common.{◌≡◌, ℕ, zero, suc, ◌-◌, ◌/◌, ◌%◌, ◌*◌, ◌+◌, ◌^◌, ◌<◌, Bool, true, cond, List, [], ◌∷◌, get_or, Option, None, Contains, inl, inr, refl, ap, subst, arith}
use Rattle.std.specs.Prelude.{nat_lt}
use Rattle.std.specs.List.{AllByRecursion}
use Rattle.std.proofs.lemmas.Bool.Decides.{nat_tests}
use Rattle.std.proofs.lemmas.List.Elements.{Contains-append_cases}
use Rattle.block_pointer.specs.declared.block.Block.{Block}
use Rattle.block_pointer.specs.declared.pointer.BlockPtr.{BlockPtr}
use Rattle.block_pointer.specs.declared.pointer.BlockPtr.TheVariants.{Hole, Block as At}
use Rattle.block_pointer.specs.declared.property.Property.{Property}
use Rattle.block_pointer.specs.Pointer.{Fits}
use Rattle.block_store.specs.declared.refusal.Refusal.{Refusal}
use Rattle.block_store.specs.Spaces.{VdevSpace}
use Rattle.block_store.specs.Blocks.{Contents}
use Rattle.block_store.specs.Store.{Store}
use Rattle.dnode.specs.declared.node.ObjectNode.{ObjectNode}
use Rattle.dnode.specs.Indirect.{FitsPointer}
use Rattle.dnode.specs.Levels.{levels_of}
use Rattle.dnode_tree.specs.Subtree.{IsSubtree, joined}
use Rattle.dnode_tree.specs.Tree.{property_of, IsTree}
use Rattle.dnode_tree.specs.Ways.{Reached, reached, ComesTo, IsWalked, AreWalked, IsWalkRefused}
use Rattle.dnode_tree.specs.Within.{IsWithinRefused}
use Rattle.dnode_tree.specs.Younger.{is_younger, younger, is_picked, seen, IsWalkedWhere, AreWalkedWhere, ComesWhere, IsRefusedWhere, IsWithinRefusedWhere}
use Rattle.dnode_tree.proofs.Picking.{all_picked}
use Rattle.dnode_tree.proofs.Standing.{out_of_joined, only_one}

-- each pointer that has a spelling is seen as it is
abbrev pub SeesAll : (Block → Bool) → Type 0
SeesAll picks = (pointer : BlockPtr) → Fits pointer → seen picks pointer ≡ pointer

-- where all blocks are looked for
pub seen_as_it_is : (pointer : BlockPtr) → seen (is_picked None) pointer ≡ pointer
seen_as_it_is Hole = refl
seen_as_it_is (At block) = refl

pub sees_all : SeesAll (is_picked None)
sees_all pointer fits = seen_as_it_is pointer

-- and where those are that were born after group 0: each block was
pub born_after : (n : ℕ) → 0 < n → nat_lt 0 n ≡ true
born_after n some = grind (arith, nat_tests)

pub sees_born : SeesAll (is_younger 0)
sees_born Hole fits = refl
sees_born (At block) fits = ap (λ test. cond test (At block) Hole) (born_after block.birth fits.born)

fits_at : (pointers : List BlockPtr) (k : ℕ) → AllByRecursion FitsPointer pointers → Fits (get_or pointers k Hole)
fits_at [] k each = tt
fits_at (pointer ∷ rest) zero each = each.0.0
fits_at (pointer ∷ rest) (suc k) each = fits_at rest k each.1

module _ (picks : Block → Bool) (sees : SeesAll picks) where
  walked_all : (spaces : List VdevSpace) (property : ℕ → Property) (level birth : ℕ) (pointer : BlockPtr) (blocks : List Block)
      → IsWalkedWhere picks spaces property level birth pointer blocks → IsWalked spaces property level birth pointer blocks
  walked_all spaces property zero birth Hole blocks walked = walked
  walked_all spaces property zero birth (At block) blocks walked = walked
  walked_all spaces property (suc level) birth Hole blocks walked = walked
  walked_all spaces property (suc level) birth (At block) blocks walked = (
    walked.0,
    walked.1,
    walked.2,
    walked.3,
    λ k low. subst (λ p. IsWalked spaces property level block.birth p (get_or walked.1 k [])) (sees (get_or walked.0 k Hole) (fits_at walked.0 k walked.2.spelled.0.each))
        (walked_all spaces property level block.birth (seen picks (get_or walked.0 k Hole)) (get_or walked.1 k []) (walked.4 k low)),
    walked.5,
  )

  comes_all : (spaces : List VdevSpace) (property : ℕ → Property) (level birth : ℕ) (pointer : BlockPtr) (place : ℕ) (there : Reached)
      → ComesWhere picks spaces property level birth pointer place there → ComesTo spaces property level birth pointer place there
  comes_all spaces property zero birth pointer place there comes = comes
  comes_all spaces property (suc level) birth pointer place there (inl at_once) = inl at_once
  comes_all spaces property (suc level) birth pointer place there (inr (block, pointers, is, read, below)) =
      let k : ℕ = place / 128 ^ level in
      inr (
        block,
        pointers,
        is,
        read,
        subst (λ p. ComesTo spaces property level block.birth p (place % 128 ^ level) there) (sees (get_or pointers k Hole) (fits_at pointers k read.spelled.0.each))
            (comes_all spaces property level block.birth (seen picks (get_or pointers k Hole)) (place % 128 ^ level) there below),
      )

  pub all_walked : (spaces : List VdevSpace) (node : ObjectNode) (birth : ℕ) (blocks : List Block) → seen picks node.pointer ≡ node.pointer
      → AreWalkedWhere picks spaces node birth blocks → AreWalked spaces node birth blocks
  all_walked spaces node birth blocks root walked =
      subst (λ p. IsWalked spaces (property_of node) (levels_of node.highest - 1) birth p blocks) root
      (walked_all spaces (property_of node) (levels_of node.highest - 1) birth (seen picks node.pointer) blocks walked)

  pub all_refused : (old new : Store) (missing : List ℕ) (property : ℕ → Property) (level birth : ℕ) (pointer : BlockPtr) (refusal : Refusal) → seen picks pointer ≡ pointer
      → IsRefusedWhere picks old new missing property (reached level pointer birth) refusal → IsWalkRefused old new missing property (reached level pointer birth) refusal
  all_refused old new missing property level birth pointer refusal root why = (
    why.place,
    why.low,
    record {
      there = why.there;
      leads = subst (λ p. ComesTo old.spaces property level birth p why.place why.there) root
          (comes_all old.spaces property level birth (seen picks pointer) why.place why.there why.leads);
      fault = why.fault;
    },
  )

  pub within_refused : (old new : Store) (missing : List ℕ) (node : ObjectNode) (birth left : ℕ) (refusal : Refusal) → seen picks node.pointer ≡ node.pointer
      → IsWithinRefusedWhere picks old new missing node birth left refusal → IsWithinRefused old new missing node birth left refusal
  within_refused old new missing node birth left refusal root (inl why) = inl (all_refused old new missing (property_of node) _ birth node.pointer refusal root why)
  within_refused old new missing node birth left refusal root (inr (bad, inl none)) = inr (bad, inl none)
  within_refused old new missing node birth left refusal root (inr (bad, inr (blocks, walked, twice))) =
      inr (bad, inr (blocks, all_walked old.spaces node birth blocks root walked, twice))

-- ---- the blocks of a tree were all born after group 0

part_born : (stored : Contents) (property : ℕ → Property) (level first birth : ℕ) (pointer : BlockPtr) (array : ℕ → Option (List ℕ)) (blocks : List Block) → Fits pointer
    → IsSubtree stored property level first birth pointer array blocks → (other : Block) → Contains blocks other → 0 < other.birth
part_born stored property zero first birth Hole array blocks fits part other held =
    let none : Contains [] other = subst (λ all. Contains all other) part.1 held in absurd (omega (arith, none.1))
part_born stored property zero first birth (At block) array blocks fits part other held =
    subst (λ b. 0 < b.birth) (only_one block other (subst (λ all. Contains all other) part.3 held)) fits.born
part_born stored property (suc level) first birth Hole array blocks fits part other held =
    let none : Contains [] other = subst (λ all. Contains all other) part.1 held in absurd (omega (arith, none.1))
part_born stored property (suc level) first birth (At block) array blocks fits part other held =
    elim (Contains-append_cases (block ∷ []) (joined part.parts) other (subst (λ all. Contains all other) part.blocks_are held)) [
      | inl own ↦ subst (λ b. 0 < b.birth) (only_one block other own) fits.born
      | inr below ↦
          let there = out_of_joined part.parts other below in
          part_born stored property level (first + there.0 * 128 ^ level) block.birth (get_or part.pointers there.0 Hole) array (get_or part.parts there.0 [])
          (fits_at part.pointers there.0 part.spelled.0.each) (part.below there.0 (omega (arith, there.1, part.count))) other there.2
    ]

pub tree_born : (stored : Contents) (birth : ℕ) (node : ObjectNode) (array : ℕ → Option (List ℕ)) (blocks : List Block) → Fits node.pointer
    → IsTree stored birth node array blocks → (block : Block) → Contains blocks block → 0 < block.birth
tree_born stored birth node array blocks fits tree block held = part_born stored (property_of node) _ 0 birth node.pointer array blocks fits tree.root block held

-- so all of them are younger than that
pub all_younger : (blocks : List Block) → ((block : Block) → Contains blocks block → 0 < block.birth) → younger 0 blocks ≡ blocks
all_younger blocks born = all_picked (is_younger 0) blocks (λ block held. born_after block.birth (born block held))
