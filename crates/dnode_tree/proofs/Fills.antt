-- How many data blocks a part of a tree has.
use Rattle.std.proofs.Common.{◌≡◌, ℕ, zero, suc, ◌+◌, ◌*◌, ◌^◌, ◌<◌, ◌≤◌, List, [], ◌∷◌, length, Option, get_or, set, refl, arith}
use Rattle.std.proofs.lemmas.List.Sums.{sum_by-cons}
use Rattle.block_pointer.specs.declared.block.Block.{Block}
use Rattle.block_pointer.specs.declared.pointer.BlockPtr.{BlockPtr}
use Rattle.block_pointer.specs.declared.pointer.BlockPtr.TheVariants.{Hole, Block as At}
use Rattle.block_pointer.specs.declared.property.Property.{Property}
use Rattle.dnode.specs.Indirect.{fill_of, total_fill}
use Rattle.block_store.specs.Blocks.{Contents}
use Rattle.dnode_tree.proofs.Spans.{span_up, span_positive, span_fits}
use Rattle.dnode_tree.specs.Subtree.{IsSubtree}

total_fill-cons : (p : BlockPtr) (ps : List BlockPtr) → total_fill (p ∷ ps) ≡ fill_of p + total_fill ps
total_fill-cons p ps = sum_by-cons fill_of p ps

pub total_bound : (pointers : List BlockPtr) (bound : ℕ) → ((k : ℕ) → k < length pointers → fill_of (get_or pointers k Hole) ≤ bound) → total_fill pointers ≤ length pointers * bound
total_bound [] bound each = omega arith
total_bound (p ∷ ps) bound each =
    let rest = total_bound ps bound (λ k low. each (suc k) (omega (arith, low))) in
    let first : fill_of p ≤ bound = each 0 (omega arith) in
    let products : suc (length ps) * bound ≡ bound + length ps * bound = omega arith in
    omega (arith, rest, first, total_fill-cons p ps, products)

-- no more than it has places for
pub fill_bound : (stored : Contents) (property : ℕ → Property) (level first birth : ℕ) (pointer : BlockPtr) (array : ℕ → Option (List ℕ)) (blocks : List Block)
    → IsSubtree stored property level first birth pointer array blocks → fill_of pointer ≤ 128 ^ level
fill_bound stored property zero first birth Hole array blocks part = omega arith
fill_bound stored property zero first birth (At block) array blocks part = omega (arith, part.1.fill, span_positive 0)
fill_bound stored property (suc level) first birth Hole array blocks part = omega arith
fill_bound stored property (suc level) first birth (At block) array blocks part =
    let all : total_fill part.pointers ≤ length part.pointers * 128 ^ level = total_bound part.pointers (128 ^ level)
    (λ k low. fill_bound stored property level (first + k * 128 ^ level) block.birth (get_or part.pointers k Hole) array (get_or part.parts k [])
    (part.below k (omega (arith, low, part.spelled.0.count)))) in
    let wide : total_fill part.pointers ≤ 128 * 128 ^ level = rw part.spelled.0.count at all in
    omega (arith, wide, part.fill, span_up (suc level) level refl)

-- the pointers of parts have a sum
pub total_fits : (pointers : List BlockPtr) (level : ℕ) → length pointers ≡ 128 → level < 5 → ((k : ℕ) → k < 128 → fill_of (get_or pointers k Hole) ≤ 128 ^ level) → total_fill pointers < 2 ^ 64
total_fits pointers level count low each =
    let all : total_fill pointers ≤ length pointers * 128 ^ level = total_bound pointers (128 ^ level) (λ k below. each k (omega (arith, below, count))) in
    let wide : total_fill pointers ≤ 128 * 128 ^ level = rw count at all in
    omega (arith, wide, span_up (suc level) level refl, span_fits (suc level) (omega arith))

-- a pointer that was set counts
pub total_set : (pointers : List BlockPtr) (k : ℕ) (pointer : BlockPtr) → k < length pointers → fill_of pointer ≤ total_fill (set pointers k pointer)
total_set [] k pointer low = absurd (omega (arith, low))
total_set (p ∷ ps) zero pointer low = omega (arith, total_fill-cons pointer ps)
total_set (p ∷ ps) (suc k) pointer low = let rest = total_set ps k pointer (omega (arith, low)) in omega (arith, rest, total_fill-cons p (set ps k pointer))
