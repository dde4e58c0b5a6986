-- A tree reads as one array, and has one list of blocks.
use Rattle.std.proofs.Common.{◌≡◌, ℕ, zero, suc, ◌+◌, ◌-◌, ◌*◌, ◌/◌, ◌^◌, ◌<◌, ◌≤◌, List, [], ◌∷◌, get_or, Option, Some, inl, inr, refl, sym, ap, ◌∙◌, subst, arith}
use Rattle.std.proofs.Math.Nat.{div-lt_iff_lt-mul}
use Rattle.std.proofs.lemmas.Bool.{cases_lt}
use Rattle.std.proofs.lemmas.List.{ext_get_or}
use Rattle.block_pointer.specs.declared.block.Block.{Block}
use Rattle.block_pointer.specs.declared.pointer.BlockPtr.{BlockPtr}
use Rattle.block_pointer.specs.declared.pointer.BlockPtr.TheVariants.{Hole, Block as At}
use Rattle.block_pointer.specs.declared.property.Property.{Property}
use Rattle.block_store.specs.Blocks.{Contents}
use Rattle.dnode_tree.proofs.Ages.{height_has, in_part, same_bytes}
use Rattle.dnode_tree.proofs.Spans.{span_positive, span_up}
use Rattle.dnode_tree.proofs.Spellings.{spelled_once}
use Rattle.dnode_tree.specs.Laws.{TreesReadAsOne}
use Rattle.dnode_tree.specs.Subtree.{IsSubtree, joined}
use Rattle.dnode_tree.specs.Tree.{property_of}

-- the arrays have the same data blocks of a part
abbrev AreSameIn : ℕ → ℕ → (ℕ → Option (List ℕ)) → (ℕ → Option (List ℕ)) → Type 0
AreSameIn level first array other = (id : ℕ) → first ≤ id → id < first + 128 ^ level → array id ≡ other id

-- where they have them of each part below a root, they have them all
parts_same : (level first : ℕ) (array other : ℕ → Option (List ℕ)) → ((k : ℕ) → k < 128 → AreSameIn level (first + k * 128 ^ level) array other) → AreSameIn (suc level) first array other
parts_same level first array other each id from under =
    let room : id - first < 128 * 128 ^ level = omega (arith, from, under, span_up (suc level) level refl) in
    let low : (id - first) / 128 ^ level < 128 = (div-lt_iff_lt-mul (span_positive level)).1 room in
    let place = in_part first id (128 ^ level) from (span_positive level) in
    each ((id - first) / 128 ^ level) low id place.0 place.1

part_reads_as_one : (stored : Contents) (property : ℕ → Property) (level first birth later : ℕ) (pointer : BlockPtr) (array other : ℕ → Option (List ℕ)) (blocks others : List Block)
    → IsSubtree stored property level first birth pointer array blocks → IsSubtree stored property level first later pointer other others
    → AreSameIn level first array other × (blocks ≡ others)
part_reads_as_one stored property zero first birth later Hole array other blocks others one two =
    (λ id from under. one.0 id from under ∙ sym (two.0 id from under), one.1 ∙ sym two.1)
part_reads_as_one stored property zero first birth later (At block) array other blocks others one two =
    let bytes = same_bytes (stored block) (stored block) one.0 two.0 refl one.1.known two.1.known in (
      λ id from under.
          let is : first ≡ id = omega (arith, from, under) in
          subst (λ n. array n ≡ other n) is (one.2 ∙ ap Some bytes ∙ sym two.2),
      one.3 ∙ sym two.3,
    )
part_reads_as_one stored property (suc level) first birth later Hole array other blocks others one two =
    (λ id from under. one.0 id from under ∙ sym (two.0 id from under), one.1 ∙ sym two.1)
part_reads_as_one stored property (suc level) first birth later (At block) array other blocks others one two =
    let pointers = spelled_once one.bytes two.bytes one.pointers two.pointers (same_bytes (stored block) (stored block) one.bytes two.bytes refl one.known two.known) one.spelled two.spelled in
    let each : (k : ℕ) → k < 128 → AreSameIn level (first + k * 128 ^ level) array other × (get_or one.parts k [] ≡ get_or two.parts k []) =
    λ k low. part_reads_as_one stored property level (first + k * 128 ^ level) block.birth block.birth (get_or two.pointers k Hole) array other (get_or one.parts k []) (get_or two.parts k [])
    (subst (λ ps. IsSubtree stored property level (first + k * 128 ^ level) block.birth (get_or ps k Hole) array (get_or one.parts k [])) pointers (one.below k low)) (two.below k low) in
    let parts : one.parts ≡ two.parts = ext_get_or [] one.parts two.parts (one.count ∙ sym two.count) (λ k low. (each k (omega (arith, low, one.count))).1) in (
      parts_same level first array other (λ k low. (each k low).0),
      one.blocks_are ∙ ap (λ parts. block ∷ joined parts) parts ∙ sym two.blocks_are,
    )

pub trees_read_as_one : TreesReadAsOne
trees_read_as_one stored birth later node array other blocks others room one two =
    let same = part_reads_as_one stored (property_of node) _ 0 birth later node.pointer array other blocks others one.root two.root in
    let each : (id : ℕ) → array id ≡ other id = λ id. elim (cases_lt node.highest id) [
      | inl past ↦ one.behind id past ∙ sym (two.behind id past)
      | inr within ↦ same.0 id (omega arith) (omega (arith, within, height_has node.highest room))
    ] in
    (λ i id. each id i, same.1)
