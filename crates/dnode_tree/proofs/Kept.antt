-- A part of a tree keeps its meaning where more is known, a later birth is asked, and the array is the same where the part stands.
use Rattle.std.proofs.Common.{◌≡◌, ℕ, zero, suc, ◌+◌, ◌*◌, ◌^◌, ◌<◌, ◌≤◌, List, [], Option, get_or, refl, sym, ◌∙◌, arith}
use Rattle.std.proofs.Math.Nat.{mul-le-mul_right}
use Rattle.block_pointer.specs.declared.block.Block.{Block}
use Rattle.block_pointer.specs.declared.pointer.BlockPtr.{BlockPtr}
use Rattle.block_pointer.specs.declared.pointer.BlockPtr.TheVariants.{Hole, Block as At}
use Rattle.block_pointer.specs.declared.property.Property.{Property}
use Rattle.block_store.specs.Blocks.{Contents, Extends}
use Rattle.dnode_tree.proofs.Spans.{span_up, span_positive}
use Rattle.dnode_tree.specs.Subtree.{IsSubtree}

-- a part below a root stands before the root's end
pub part_end : (k span : ℕ) → k < 128 → k * span + span ≤ 128 * span
part_end k span low =
    let up : k + 1 ≤ 128 = omega (arith, low) in omega (arith, mul-le-mul_right span up)

pub subtree_as : (old new : Contents) → Extends old new → (property : ℕ → Property) (level first birth later : ℕ) (pointer : BlockPtr) (array other : ℕ → Option (List ℕ)) (blocks : List Block)
    → birth ≤ later → ((id : ℕ) → first ≤ id → id < first + 128 ^ level → array id ≡ other id)
    → IsSubtree old property level first birth pointer array blocks → IsSubtree new property level first later pointer other blocks
subtree_as old new kept property zero first birth later Hole array other blocks le same part =
    (λ id low high. sym (same id low high) ∙ part.0 id low high, part.1)
subtree_as old new kept property zero first birth later (At block) array other blocks le same part = (
  part.0,
  record {
    asks = record { property = part.1.asks.property; birth = omega (arith, part.1.asks.birth, le) };
    known = kept block part.0 part.1.known;
    fill = part.1.fill;
  },
  sym (same first (omega arith) (omega (arith, span_positive 0))) ∙ part.2,
  part.3,
)
subtree_as old new kept property (suc level) first birth later Hole array other blocks le same part =
    (λ id low high. sym (same id low high) ∙ part.0 id low high, part.1)
subtree_as old new kept property (suc level) first birth later (At block) array other blocks le same part = record {
  asks = record { property = part.asks.property; birth = omega (arith, part.asks.birth, le) };
  bytes = part.bytes;
  known = kept block part.bytes part.known;
  pointers = part.pointers;
  spelled = part.spelled;
  fill = part.fill;
  parts = part.parts;
  count = part.count;
  below = λ k low. subtree_as old new kept property level (first + k * 128 ^ level) block.birth block.birth (get_or part.pointers k Hole) array other (get_or part.parts k []) (omega arith)
      (λ id from before. same id (omega (arith, from)) (omega (arith, before, part_end k (128 ^ level) low, span_up (suc level) level refl)))
      (part.below k low);
  blocks_are = part.blocks_are;
}
