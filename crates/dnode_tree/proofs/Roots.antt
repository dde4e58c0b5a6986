-- The new root of a part of a tree.
use Rattle.std.proofs.Common.{◌≡◌, ℕ, suc, ◌*◌, List, [], ◌∷◌, ◌++◌, length, Option, Some, refl, sym, ap, ◌∙◌, subst, arith, append_assoc, append-nil}
use Rattle.std.specs.List.{AllByRecursion}
use Rattle.block_pointer.specs.declared.block.Block.{Block}
use Rattle.block_pointer.specs.declared.pointer.BlockPtr.{BlockPtr}
use Rattle.block_pointer.specs.declared.pointer.BlockPtr.TheVariants.{Hole, Block as At}
use Rattle.block_pointer.specs.declared.property.Property.{Property}
use Rattle.block_pointer.specs.Copies.{dvas}
use Rattle.block_pointer.specs.Pointer.{spelling}
use Rattle.dnode.specs.Indirect.{SpellsIndirect, FitsPointer, indirect_bytes}
use Rattle.block_store.specs.Blocks.{Contents, Adds}
use Rattle.block_store.specs.Reading.{Asks}
use Rattle.dnode_tree.proofs.Exchanging.{nothing_exchanged, block_added, front_gone}
use Rattle.dnode_tree.specs.declared.writes.CopyCounts.{CopyCounts}
use Rattle.dnode_tree.specs.Births.{AreBirths}
use Rattle.dnode_tree.specs.PartsRewritten.{Ages, IsPartRewritten, AreRewritten}
use Rattle.dnode_tree.specs.Rewriting.{IsExchanged}
use Rattle.dnode_tree.specs.Subtree.{asked_of, IsSubtree, blocks_at, joined}
use Rattle.dnode_tree.specs.Writes.{copies_at}
use Rattle.std.proofs.Common.{length-append}

-- an indirect block has 16,384 bytes
bytes_of : (pointers : List BlockPtr) → AllByRecursion FitsPointer pointers → length (indirect_bytes pointers) ≡ length pointers * 128
bytes_of [] each = refl
bytes_of (p ∷ ps) each =
    let rest = bytes_of ps each.1 in
    omega (arith, rest, each.0.1, length-append (spelling p) (indirect_bytes ps))

pub indirect_length : (bytes : List ℕ) (pointers : List BlockPtr) → SpellsIndirect bytes pointers → length bytes ≡ 32 * 512
indirect_length bytes pointers spells = omega (arith, ap length spells.1, bytes_of pointers spells.0.each, spells.0.count)

leaf_blocks : (stored : Contents) (property : ℕ → Property) (first birth : ℕ) (pointer : BlockPtr) (array : ℕ → Option (List ℕ)) (blocks : List Block)
    → IsSubtree stored property 0 first birth pointer array blocks → blocks ≡ blocks_at pointer
leaf_blocks stored property first birth Hole array blocks part = part.1
leaf_blocks stored property first birth (At block) array blocks part = part.3

-- a data block has a new one in its place
pub leaf_rewritten : {ages : Option Ages} {copies : CopyCounts} (stored planned later : Contents) (property : ℕ → Property) (level first bound birth : ℕ) (pointer : BlockPtr) (array new_array : ℕ → Option (List ℕ)) (blocks noted noted_later : List Block)
    (block : Block) (bytes : List ℕ) → level ≡ 0 → IsSubtree stored property level first bound pointer array blocks → noted_later ≡ noted ++ blocks_at pointer
    → Adds planned later block bytes → Asks (asked_of (property 0) birth) block → block.fill ≡ 1 → block.birth ≡ birth → length (dvas block.copies) ≡ copies_at copies block.property.level → new_array first ≡ Some bytes
    → ((told : Ages) → ages ≡ Some told → told.new level first ≡ birth)
    → IsPartRewritten ages copies planned later property level first birth (At block) new_array blocks noted noted_later
leaf_rewritten {ages = ages} {copies = copies} stored planned later property level first bound birth pointer array new_array blocks noted noted_later block bytes e part noted_are adds asks filled born copied is renewed = record {
  kept = adds.kept;
  blocks = block ∷ [];
  part = subst (λ n. IsSubtree later property n first birth (At block) new_array (block ∷ [])) (sym e)
      (bytes, record { asks = asks; known = adds.added; fill = filled }, is, refl);
  gone = blocks_at pointer;
  noted_are = noted_are;
  exchanged =
      let were : blocks ≡ blocks_at pointer = leaf_blocks stored property first bound pointer array blocks (subst (λ n. IsSubtree stored property n first bound pointer array blocks) e part) in
      subst (λ before. IsExchanged copies birth planned later before (block ∷ []) (blocks_at pointer)) (append-nil (blocks_at pointer) ∙ sym were)
      (subst (λ gone. IsExchanged copies birth planned later (blocks_at pointer ++ []) (block ∷ []) gone) (append-nil (blocks_at pointer))
      (front_gone birth planned later [] (block ∷ []) [] (blocks_at pointer)
      (block_added birth planned planned later [] [] [] block bytes (λ other known there. there) (nothing_exchanged birth planned []) adds born copied)));
  renewed = λ told told_is.
      let here : told.new 0 first ≡ block.birth = ap (λ n. told.new n first) (sym e) ∙ renewed told told_is ∙ sym born in
      subst (λ n. AreBirths later n first (At block) told.new) (sym e) here;
}

-- and so has a part
pub part_has_root : {ages : Option Ages} {copies : CopyCounts} (planned later : Contents) (property : ℕ → Property) (level next first birth : ℕ) (block : Block) (pointer : BlockPtr) (new_array : ℕ → Option (List ℕ)) (before : List (List Block))
    (blocks noted noted_mid noted_later : List Block) → level ≡ suc next → blocks ≡ blocks_at pointer ++ joined before → noted_mid ≡ noted ++ blocks_at pointer
    → AreRewritten ages copies planned later property next first birth block new_array before noted_mid noted_later
    → IsPartRewritten ages copies planned later property level first birth (At block) new_array blocks noted noted_later
part_has_root {ages = ages} {copies = copies} planned later property level next first birth block pointer new_array before blocks noted noted_mid noted_later e were noted_are done = record {
  kept = done.kept;
  blocks = block ∷ joined done.after;
  part = subst (λ n. IsSubtree later property n first birth (At block) new_array (block ∷ joined done.after)) (sym e) done.part;
  gone = blocks_at pointer ++ done.gone;
  noted_are = done.noted_are ∙ ap (λ blocks. blocks ++ done.gone) noted_are ∙ append_assoc noted (blocks_at pointer) done.gone;
  exchanged = subst (λ blocks. IsExchanged copies birth planned later blocks (block ∷ joined done.after) (blocks_at pointer ++ done.gone)) (sym were)
      (front_gone birth planned later (joined before) (block ∷ joined done.after) done.gone (blocks_at pointer) done.exchanged);
  renewed = λ told told_is. subst (λ n. AreBirths later n first (At block) told.new) (sym e) (done.renewed told told_is);
}
