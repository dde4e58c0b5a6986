-- The walk over the parts below the root of a part of a tree.
use Rattle.std.proofs.Common.{◌≡◌, ℕ, suc, ◌+◌, ◌*◌, ◌^◌, ◌<◌, ◌≤◌, List, [], ◌∷◌, ◌++◌, length, take, get_or, Option, ap, sym, ◌∙◌, subst, arith, append_assoc, append-nil}
use Rattle.std.proofs.lemmas.List.{take_all, take_more, get_or_default}
use Rattle.std.proofs.lemmas.List.Concat.{flat_map-append}
use Rattle.block_pointer.specs.declared.block.Block.{Block}
use Rattle.block_pointer.specs.declared.pointer.BlockPtr.{BlockPtr}
use Rattle.block_pointer.specs.declared.pointer.BlockPtr.TheVariants.{Hole, Block as At}
use Rattle.block_pointer.specs.declared.property.Property.{Property}
use Rattle.block_store.specs.Blocks.{Contents}
use Rattle.block_store.specs.Store.{Store, Holds}
use Rattle.dnode.specs.declared.node.ObjectNode.{ObjectNode}
use Rattle.block_store.specs.Steps.{OnlyReadsBlocks, AnswersTell}
use Rattle.dnode_tree.specs.Subtree.{IsSubtree, AreParts, joined}
use Rattle.dnode_tree.specs.Tree.{property_of}
use Rattle.block_store.proofs.Steps.{reads_none, reads_on}
use Rattle.dnode_tree.proofs.FurtherReads.{told_before, told_after}
use Rattle.dnode_tree.proofs.Parts.{indirect_part}

pub joined-take_more : (parts : List (List Block)) (i : ℕ) → i < length parts → joined (take i parts) ++ get_or parts i [] ≡ joined (take (i + 1) parts)
joined-take_more parts i low =
    sym (ap joined (take_more parts i [] low)
    ∙ flat_map-append (λ part. part) (take i parts) (get_or parts i [] ∷ [])
    ∙ ap (λ blocks. joined (take i parts) ++ blocks) (append-nil (get_or parts i [])))

-- the parts below the root, by the pointers that were read
pub parts_below : (stored : Contents) (property : ℕ → Property) (level next first birth : ℕ) (pointer : BlockPtr) (block : Block) (array : ℕ → Option (List ℕ)) (blocks : List Block)
    (found : List BlockPtr) (e : level ≡ suc next) (is : pointer ≡ At block) (part : IsSubtree stored property level first birth pointer array blocks)
    → found ≡ (indirect_part stored property level next first birth pointer block array blocks e is part).pointers
    → AreParts stored property next first block.birth found array (indirect_part stored property level next first birth pointer block array blocks e is part).parts
parts_below stored property level next first birth pointer block array blocks found e is part found_is =
    let there = indirect_part stored property level next first birth pointer block array blocks e is part in
    record {
      pointer_count = ap length found_is ∙ there.spelled.0.count;
      count = there.count;
      each = λ k low. subst (λ pointers. IsSubtree stored property next (first + k * 128 ^ next) block.birth (get_or pointers k Hole) array (get_or there.parts k []))
          (sym found_is) (there.below k low);
    }

-- the part behind one of them
pub part_at : (stored : Contents) (property : ℕ → Property) (next first birth : ℕ) (pointers : List BlockPtr) (array : ℕ → Option (List ℕ)) (parts : List (List Block))
    (k : ℕ) (child other : BlockPtr) → AreParts stored property next first birth pointers array parts → k < length pointers → child ≡ get_or pointers k other
    → IsSubtree stored property next (first + k * 128 ^ next) birth child array (get_or parts k [])
part_at stored property next first birth pointers array parts k child other are low is =
    let below : k < 128 = omega (arith, low, are.pointer_count) in
    subst (λ p. IsSubtree stored property next (first + k * 128 ^ next) birth p array (get_or parts k []))
    (sym (is ∙ get_or_default pointers k other Hole low)) (are.each k below)

-- the blocks of the first n parts were added to the earlier ones
pub record IsCollecting (mid now : Store) (missing : List ℕ) (node : ObjectNode) (next birth : ℕ) (pointers : List BlockPtr) (n : ℕ) (earlier found : List Block) : Type 0 where
  pub reads : OnlyReadsBlocks mid now missing
  pub so_far : (stored : Contents) (first : ℕ) (array : ℕ → Option (List ℕ)) (parts : List (List Block)) → Holds mid stored
      → AreParts stored (property_of node) next first birth pointers array parts → AnswersTell mid now missing → found ≡ earlier ++ joined (take n parts)

pub collecting_begins : (mid : Store) (missing : List ℕ) (node : ObjectNode) (next birth : ℕ) (pointers : List BlockPtr) (earlier : List Block)
    → IsCollecting mid mid missing node next birth pointers 0 earlier earlier
collecting_begins mid missing node next birth pointers earlier =
    record { reads = reads_none mid missing; so_far = λ stored first array parts held are tell. sym (append-nil earlier) }

pub collecting_goes_on : (mid now after : Store) (missing : List ℕ) (node : ObjectNode) (next birth : ℕ) (pointers : List BlockPtr) (child other : BlockPtr) (n : ℕ) (earlier found more : List Block)
    → IsCollecting mid now missing node next birth pointers n earlier found → n < length pointers → child ≡ get_or pointers n other
    → OnlyReadsBlocks now after missing
    → ((stored : Contents) (first : ℕ) (array : ℕ → Option (List ℕ)) (blocks : List Block) → Holds now stored
    → IsSubtree stored (property_of node) next first birth child array blocks → AnswersTell now after missing → more ≡ found ++ blocks)
    → IsCollecting mid after missing node next birth pointers (n + 1) earlier more
collecting_goes_on mid now after missing node next birth pointers child other n earlier found more done low is reads step = record {
  reads = reads_on mid now after missing done.reads reads;
  so_far = λ stored first array parts held are tell.
      let room : n < length parts = omega (arith, low, are.pointer_count, are.count) in
      step stored (first + n * 128 ^ next) array (get_or parts n []) (done.reads.keeps stored held)
      (part_at stored (property_of node) next first birth pointers array parts n child other are low is)
      (told_after mid now after missing done.reads reads tell)
      ∙ ap (λ blocks. blocks ++ get_or parts n []) (done.so_far stored first array parts held are (told_before mid now after missing done.reads reads tell))
      ∙ append_assoc earlier (joined (take n parts)) (get_or parts n [])
      ∙ ap (λ blocks. earlier ++ blocks) (joined-take_more parts n room);
}

pub collected_all : (mid now : Store) (missing : List ℕ) (node : ObjectNode) (next birth : ℕ) (pointers : List BlockPtr) (n : ℕ) (before earlier found blocks : List Block) (block : Block)
    → IsCollecting mid now missing node next birth pointers n earlier found → length pointers ≤ n → earlier ≡ before ++ block ∷ []
    → (stored : Contents) (first : ℕ) (array : ℕ → Option (List ℕ)) (parts : List (List Block)) → Holds mid stored
    → AreParts stored (property_of node) next first birth pointers array parts → AnswersTell mid now missing → blocks ≡ block ∷ joined parts
    → found ≡ before ++ blocks
collected_all mid now missing node next birth pointers n before earlier found blocks block done all earlier_is stored first array parts held are tell blocks_are =
    let past : length parts ≤ n = omega (arith, all, are.pointer_count, are.count) in
    done.so_far stored first array parts held are tell
    ∙ ap (λ taken. earlier ++ joined taken) (take_all n parts past)
    ∙ ap (λ blocks. blocks ++ joined parts) earlier_is
    ∙ append_assoc before (block ∷ []) (joined parts)
    ∙ ap (λ blocks. before ++ blocks) (sym blocks_are)
