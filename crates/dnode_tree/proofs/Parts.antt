-- A part of a tree and the parts below its root.
use Rattle.std.proofs.Common.{◌≡◌, ℕ, zero, suc, ◌+◌, ◌*◌, ◌/◌, ◌%◌, ◌^◌, ◌<◌, List, [], ◌∷◌, length, get_or, Option, Some, ap, sym, ◌∙◌, subst, arith}
use Rattle.std.proofs.lemmas.List.{get_or_default}
use Rattle.std.proofs.Math.Nat.{div-lt_iff_lt-mul}
use Rattle.block_pointer.specs.declared.block.Block.{Block}
use Rattle.block_pointer.specs.declared.pointer.BlockPtr.{BlockPtr}
use Rattle.block_pointer.specs.declared.pointer.BlockPtr.TheVariants.{Hole, Block as At}
use Rattle.block_pointer.specs.declared.property.Property.{Property}
use Rattle.block_store.specs.Blocks.{Contents}
use Rattle.dnode_tree.proofs.Spans.{span_up}
use Rattle.dnode_tree.specs.Subtree.{asked_of, IsData, IsIndirect, IsEmpty, IsSubtree}

-- a part behind a hole
pub hole_part : (stored : Contents) (property : ℕ → Property) (level first birth : ℕ) (pointer : BlockPtr) (array : ℕ → Option (List ℕ)) (blocks : List Block)
    → pointer ≡ Hole → IsSubtree stored property level first birth pointer array blocks → IsEmpty level first array × (blocks ≡ [])
hole_part stored property level first birth pointer array blocks is part = at_hole level (subst (λ p. IsSubtree stored property level first birth p array blocks) is part)
  where
    at_hole : (n : ℕ) → IsSubtree stored property n first birth Hole array blocks → IsEmpty n first array × (blocks ≡ [])
    at_hole zero part = part
    at_hole (suc n) part = part

-- what a part is behind a block, at level 0 and above
module _ (stored : Contents) (property : ℕ → Property) (level next first birth : ℕ) (pointer : BlockPtr) (block : Block) (array : ℕ → Option (List ℕ)) (blocks : List Block) where
  pub data_part : level ≡ 0 → pointer ≡ At block → IsSubtree stored property level first birth pointer array blocks
      → (bytes : List ℕ) × IsData stored (asked_of (property level) birth) block bytes × (array first ≡ Some bytes) × (blocks ≡ block ∷ [])
  data_part e is part =
      let there : IsSubtree stored property 0 first birth (At block) array blocks =
      subst (λ n. IsSubtree stored property n first birth (At block) array blocks) e (subst (λ p. IsSubtree stored property level first birth p array blocks) is part) in
      subst (λ n. (bytes : List ℕ) × IsData stored (asked_of (property n) birth) block bytes × (array first ≡ Some bytes) × (blocks ≡ block ∷ [])) (sym e) there

  pub indirect_part : level ≡ suc next → pointer ≡ At block → IsSubtree stored property level first birth pointer array blocks
      → IsIndirect stored (asked_of (property level) birth) block
      (λ k child part. IsSubtree stored property next (first + k * 128 ^ next) block.birth child array part) blocks
  indirect_part e is part =
      let there : IsSubtree stored property (suc next) first birth (At block) array blocks =
      subst (λ n. IsSubtree stored property n first birth (At block) array blocks) e (subst (λ p. IsSubtree stored property level first birth p array blocks) is part) in
      subst (λ n. IsIndirect stored (asked_of (property n) birth) block
      (λ k child part. IsSubtree stored property next (first + k * 128 ^ next) block.birth child array part) blocks) (sym e) there

  -- the part below the root that a pointer leads to
  pub child_part : (found : List BlockPtr) (child : BlockPtr) (k : ℕ) → (e : level ≡ suc next) (is : pointer ≡ At block)
      (part : IsSubtree stored property level first birth pointer array blocks)
      → found ≡ (indirect_part e is part).pointers → child ≡ get_or found k child → k < 128
      → (below : List Block) × IsSubtree stored property next (first + k * 128 ^ next) block.birth child array below
  child_part found child k e is part found_is child_is low =
      let there = indirect_part e is part in
      let room : k < length there.pointers = rw there.spelled.0.count low in
      let same : child ≡ get_or there.pointers k Hole = child_is ∙ ap (λ pointers. get_or pointers k child) found_is ∙ get_or_default there.pointers k child Hole room in
      (get_or there.parts k [], subst (λ p. IsSubtree stored property next (first + k * 128 ^ next) block.birth p array (get_or there.parts k [])) (sym same) (there.below k low))

-- the place of the child, and the place in it
pub child_low : (level next size place : ℕ) → level ≡ suc next → size ≡ 128 ^ next → 0 < size → place < 128 ^ level → place / size < 128
child_low level next size place e is some low =
    let room : place < 128 * size = omega (arith, low, span_up level next e, is) in (div-lt_iff_lt-mul some).1 room

pub child_place : (first size span place : ℕ) → size ≡ span → 0 < size → (first + place / size * span) + place % size ≡ first + place
child_place first size span place e some =
    let P : ℕ → Type 0 = λ n. (first + place / size * n) + place % size ≡ first + place in subst P e (omega arith)
