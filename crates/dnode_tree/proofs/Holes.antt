-- Holes as parts of a tree.
use Rattle.std.proofs.Common.{◌≡◌, ℕ, zero, suc, ◌+◌, ◌*◌, ◌^◌, List, [], length, replicate, get_or, Option, refl, sym, ap, ◌∙◌, subst, arith}
use Rattle.block_pointer.specs.declared.block.Block.{Block}
use Rattle.block_pointer.specs.declared.pointer.BlockPtr.{BlockPtr}
use Rattle.block_pointer.specs.declared.pointer.BlockPtr.TheVariants.{Hole}
use Rattle.block_pointer.specs.declared.property.Property.{Property}
use Rattle.block_store.specs.Blocks.{Contents}
use Rattle.dnode_tree.proofs.Kept.{part_end}
use Rattle.dnode_tree.proofs.Spans.{span_up}
use Rattle.dnode_tree.specs.Subtree.{IsEmpty, IsSubtree, AreParts, joined}

pub empty_part : (stored : Contents) (property : ℕ → Property) (level first birth : ℕ) (array : ℕ → Option (List ℕ)) → IsEmpty level first array → IsSubtree stored property level first birth Hole array []
empty_part stored property zero first birth array empty = (empty, refl)
empty_part stored property (suc level) first birth array empty = (empty, refl)

pub same_at : {X : Type 0} (count k : ℕ) (x : X) → get_or (replicate count x) k x ≡ x
same_at zero k x = refl
same_at (suc count) zero x = refl
same_at (suc count) (suc k) x = same_at count k x

pub length_same : {X : Type 0} (count : ℕ) (x : X) → length (replicate count x) ≡ count
length_same zero x = refl
length_same (suc count) x = ap suc (length_same count x)

pub joined_nothing : (count : ℕ) → joined (replicate count []) ≡ []
joined_nothing zero = refl
joined_nothing (suc count) = joined_nothing count

-- a hole has 128 holes below it
pub hole_parts : (stored : Contents) (property : ℕ → Property) (level next first birth : ℕ) (pointers : List BlockPtr) (array : ℕ → Option (List ℕ)) → level ≡ suc next → IsEmpty level first array
    → pointers ≡ replicate 128 Hole → (parts : List (List Block)) × AreParts stored property next first birth pointers array parts × (joined parts ≡ [])
hole_parts stored property level next first birth pointers array e empty are = (
  replicate 128 [],
  record {
    pointer_count = ap length are ∙ length_same 128 Hole;
    count = length_same {X = List Block} 128 [];
    each = λ k low.
        subst (λ p. IsSubtree stored property next (first + k * 128 ^ next) birth p array (get_or (replicate 128 []) k [])) (sym (ap (λ ps. get_or ps k Hole) are ∙ same_at 128 k Hole))
        (subst (λ part. IsSubtree stored property next (first + k * 128 ^ next) birth Hole array part) (sym (same_at 128 k []))
        (empty_part stored property next (first + k * 128 ^ next) birth array
        (λ id from before. empty id (omega (arith, from)) (omega (arith, before, part_end k (128 ^ next) low, span_up level next e)))));
  },
  joined_nothing 128,
)
