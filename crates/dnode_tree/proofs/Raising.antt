-- A tree becomes higher.
use Rattle.std.proofs.Common.{◌≡◌, ℕ, zero, suc, ◌+◌, ◌*◌, ◌^◌, ◌<◌, ◌≤◌, lit<, List, [], ◌∷◌, ◌++◌, length, replicate, get_or, set, Option, Some, None, inl, inr, refl, sym, ap, ◌∙◌, subst, arith, append-nil, add-one, get_or-set_other}
use Rattle.std.proofs.lemmas.List.{length-set}
use Rattle.std.proofs.Math.Nat.{mul-le-mul_right, pow-le-pow_right}
use Rattle.block_pointer.specs.declared.block.Block.{Block}
use Rattle.block_pointer.specs.declared.pointer.BlockPtr.{BlockPtr}
use Rattle.block_pointer.specs.declared.pointer.BlockPtr.TheVariants.{Hole, Block as At}
use Rattle.block_pointer.specs.declared.property.Property.{Property}
use Rattle.block_store.specs.Blocks.{Contents, Extends}
use Rattle.dnode_tree.specs.declared.writes.BlockWrite.{BlockWrite}
use Rattle.dnode_tree.specs.declared.writes.CopyCounts.{CopyCounts}
use Rattle.dnode_tree.proofs.Exchanging.{nothing_exchanged}
use Rattle.dnode_tree.proofs.Holes.{empty_part, same_at, length_same, joined_nothing}
use Rattle.dnode_tree.proofs.Kept.{subtree_as}
use Rattle.dnode_tree.proofs.Spans.{span_up}
use Rattle.dnode_tree.specs.Births.{AreBirths}
use Rattle.dnode_tree.specs.PartsRewritten.{Ages, HasWrites, IsPartRewritten, AreRewrittenTo, AreRewritten}
use Rattle.dnode_tree.proofs.Parts.{hole_part}
use Rattle.std.proofs.lemmas.Bool.{cases_lt}
use Rattle.dnode_tree.proofs.Births.{births_at_hole}
use Rattle.dnode_tree.specs.Rewriting.{IsExchanged}
use Rattle.dnode_tree.specs.Subtree.{IsSubtree, joined}
use Rattle.dnode_tree.specs.Writes.{written}

-- where nothing is written, the tree stays
pub root_stays : {ages : Option Ages} {copies : CopyCounts} (stored planned : Contents) (property : ℕ → Property) (level first birth : ℕ) (pointer : BlockPtr) (array : ℕ → Option (List ℕ)) (blocks noted : List Block) (writes : List BlockWrite)
    → Extends stored planned → writes ≡ [] → IsSubtree stored property level first birth pointer array blocks
    → ((told : Ages) → ages ≡ Some told → AreBirths planned level first pointer told.new)
    → IsPartRewritten ages copies planned planned property level first birth pointer (written writes array) blocks noted noted
root_stays stored planned property level first birth pointer array blocks noted writes kept none part renewed = record {
  kept = λ block bytes known. known;
  blocks = blocks;
  part = subtree_as stored planned kept property level first birth birth pointer array (written writes array) blocks (omega arith) (λ id from under. sym (ap (λ ws. written ws array id) none)) part;
  gone = [];
  noted_are = sym (append-nil noted);
  exchanged = nothing_exchanged birth planned blocks;
  renewed = renewed;
}

module _ {ages : Option Ages} {copies : CopyCounts} (stored planned now : Contents) (property : ℕ → Property) (level birth : ℕ) (root : BlockPtr) (pointers : List BlockPtr) (array new_array : ℕ → Option (List ℕ)) (before noted noted_now : List Block)
    (pointers_are : pointers ≡ set (replicate 128 Hole) 0 root) (behind : (id : ℕ) → 128 ^ level ≤ id → array id ≡ None)
    (part : IsPartRewritten ages copies planned now property level 0 birth root new_array before noted noted_now) where
  pointer_at : (j : ℕ) → 0 < j → get_or pointers j Hole ≡ Hole
  pointer_at j more =
      ap (λ ps. get_or ps j Hole) pointers_are ∙ get_or-set_other (replicate 128 Hole) 0 j root Hole (λ same. absurd (omega (arith, same, more))) ∙ same_at 128 j Hole

  blocks_behind : (j : ℕ) → 0 < j → get_or (before ∷ replicate 127 []) j [] ≡ []
  blocks_behind zero more = absurd (omega (arith, more))
  blocks_behind (suc j) more = same_at 127 j []

  -- the old tree is the first part below a new root, and the others are holes
  pub raising_begins : AreRewrittenTo ages copies stored planned now property level 0 birth birth pointers array new_array (before ∷ replicate 127 []) (part.blocks ∷ []) 1 noted noted_now
  raising_begins = record {
    kept = part.kept;
    pointer_count = ap length pointers_are ∙ length-set (replicate 128 Hole) 0 root ∙ length_same 128 Hole;
    count = ap suc (length_same {X = List Block} 127 []);
    count_done = refl;
    done = λ j low.
        let none : j ≡ 0 = omega (arith, low) in
        let begin : 0 ≡ 0 + j * 128 ^ level = omega (arith, ap (λ n. n * 128 ^ level) none) in
        let here : root ≡ get_or pointers j Hole = sym (ap (λ n. get_or pointers n Hole) none ∙ ap (λ ps. get_or ps 0 Hole) pointers_are) in
        let its : part.blocks ≡ get_or (part.blocks ∷ []) j [] = sym (ap (λ n. get_or (part.blocks ∷ []) n []) none) in
        subst (λ blocks. IsSubtree now property level (0 + j * 128 ^ level) birth (get_or pointers j Hole) new_array blocks) its
        (subst (λ p. IsSubtree now property level (0 + j * 128 ^ level) birth p new_array part.blocks) here
        (subst (λ n. IsSubtree now property level n birth root new_array part.blocks) begin part.part));
    left = λ j from low.
        let more : 0 < j = omega (arith, from) in
        let high : 1 * 128 ^ level ≤ j * 128 ^ level = mul-le-mul_right (128 ^ level) from in
        subst (λ p. IsSubtree stored property level (0 + j * 128 ^ level) birth p array (get_or (before ∷ replicate 127 []) j [])) (sym (pointer_at j more))
        (subst (λ blocks. IsSubtree stored property level (0 + j * 128 ^ level) birth Hole array blocks) (sym (blocks_behind j more))
        (empty_part stored property level (0 + j * 128 ^ level) birth array (λ id above under. behind id (omega (arith, above, high)))));
    gone = part.gone;
    noted_are = part.noted_are;
    exchanged =
        subst (λ blocks. IsExchanged copies birth planned now blocks (part.blocks ++ []) part.gone) (sym (append-nil before))
        (subst (λ blocks. IsExchanged copies birth planned now before blocks part.gone) (sym (append-nil part.blocks)) part.exchanged);
    renewed = λ told told_is j low.
        let none : j ≡ 0 = omega (arith, low) in
        let begin : 0 ≡ 0 + j * 128 ^ level = omega (arith, ap (λ n. n * 128 ^ level) none) in
        let here : root ≡ get_or pointers j Hole = sym (ap (λ n. get_or pointers n Hole) none ∙ ap (λ ps. get_or ps 0 Hole) pointers_are) in
        subst (λ p. AreBirths now level (0 + j * 128 ^ level) p told.new) here
        (subst (λ n. AreBirths now level n root told.new) begin (part.renewed told told_is));
    aged = λ told told_is j from low.
        let more : 0 < j = omega (arith, from) in
        subst (λ p. AreBirths stored level (0 + j * 128 ^ level) p told.old) (sym (pointer_at j more)) (births_at_hole stored level (0 + j * 128 ^ level) told.old);
  }

-- and the new root is that of the tree
pub raised : {ages : Option Ages} {copies : CopyCounts} (planned later : Contents) (property : ℕ → Property) (level birth : ℕ) (block : Block) (new_array : ℕ → Option (List ℕ)) (before noted noted_later : List Block)
    → AreRewritten ages copies planned later property level 0 birth block new_array (before ∷ replicate 127 []) noted noted_later
    → IsPartRewritten ages copies planned later property (level + 1) 0 birth (At block) new_array before noted noted_later
raised {ages = ages} {copies = copies} planned later property level birth block new_array before noted noted_later done = record {
  kept = done.kept;
  blocks = block ∷ joined done.after;
  part = subst (λ n. IsSubtree later property n 0 birth (At block) new_array (block ∷ joined done.after)) (sym (add-one level)) done.part;
  gone = done.gone;
  noted_are = done.noted_are;
  exchanged = subst (λ blocks. IsExchanged copies birth planned later blocks (block ∷ joined done.after) done.gone) (ap (λ blocks. before ++ blocks) (joined_nothing 127) ∙ append-nil before) done.exchanged;
  renewed = λ told told_is. subst (λ n. AreBirths later n 0 (At block) told.new) (sym (add-one level)) (done.renewed told told_is);
}

-- a hole stays one, where nothing is written
pub hole_raised : {ages : Option Ages} {copies : CopyCounts} (planned now : Contents) (property : ℕ → Property) (level birth : ℕ) (root : BlockPtr) (array new_array : ℕ → Option (List ℕ)) (before noted noted_now : List Block) (writes : List BlockWrite)
    → root ≡ Hole → writes ≡ [] → ((id : ℕ) → 128 ^ level ≤ id → array id ≡ None) → HasWrites new_array array writes (128 ^ level) (128 * 128 ^ level)
    → IsPartRewritten ages copies planned now property level 0 birth root new_array before noted noted_now
    → IsPartRewritten ages copies planned now property (level + 1) 0 birth Hole new_array before noted noted_now
hole_raised planned now property level birth root array new_array before noted noted_now writes is none behind has part =
    let empty = hole_part now property level 0 birth root new_array part.blocks is part.part in
    record {
      kept = part.kept;
      blocks = part.blocks;
      part = subst (λ n. IsSubtree now property n 0 birth Hole new_array part.blocks) (sym (add-one level)) (
        λ id from under. elim (cases_lt id (128 ^ level)) [
          | inl sooner ↦ empty.0 id from (omega (arith, sooner))
          | inr later ↦
              has id later (omega (arith, under, span_up (suc level) level refl)) ∙ ap (λ ws. written ws array id) none ∙ behind id later
        ],
        empty.1,
      );
      gone = part.gone;
      noted_are = part.noted_are;
      exchanged = part.exchanged;
      renewed = λ told told_is. births_at_hole now (level + 1) 0 told.new;
    }

-- a tree of at most six levels has places for ids below 128^5
pub six_levels : (level : ℕ) → level < 5 → 128 * 128 ^ level ≤ 128 ^ 5
six_levels level low =
    let up : 128 ^ suc level ≤ 128 ^ 5 = (let fits : suc level ≤ 5 = omega (arith, low) in pow-le-pow_right (lit< tt) fits) in omega (arith, up, span_up (suc level) level refl)
