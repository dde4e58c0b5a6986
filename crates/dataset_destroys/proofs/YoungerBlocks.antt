-- The younger blocks of a volume.
use Rattle.std.proofs.Common.{◌≡◌, ℕ, zero, suc, ◌+◌, ◌<◌, ◌≤◌, true, false, List, [], ◌∷◌, ◌++◌, length, Option, Some, None, Contains, sym, ◌∙◌, subst, inl, inr, arith}
use Rattle.std.specs.Prelude.{nat_lt}
use Rattle.std.specs.List.{flat_map, range_with_len}
use Rattle.std.proofs.lemmas.Bool.Decides.{nat_tests}
use Rattle.std.proofs.lemmas.List.{length-append}
use Rattle.std.proofs.lemmas.List.Elements.{Contains-append_cases}
use Rattle.std.proofs.lemmas.List.Sums.{count_by-le-length, length-filter}
use Rattle.block_pointer.specs.declared.block.Block.{Block}
use Rattle.block_store.specs.Blocks.{Contents}
use Rattle.dnode.specs.declared.dnode.Dnode.{Dnode}
use Rattle.dnode.specs.declared.dnode.Dnode.TheVariants.{Free, Object as Node}
use Rattle.dnode.specs.declared.object_set.ObjectSet.{ObjectSet}
use Rattle.dnode.specs.ObjectSet.{FitsObjectSet}
use Rattle.objset.specs.Sets.{IsSetBlock}
use Rattle.dnode_tree.proofs.Picking.{none_picked, passed_over, picked_first}
use Rattle.dnode_tree.proofs.Standing.{tree_blocks_known}
use Rattle.dnode_tree.specs.Rewriting.{AreDistinct}
use Rattle.dnode_tree.specs.Within.{indirect_count}
use Rattle.dnode_tree.specs.Younger.{is_younger, younger}
use Rattle.objset.proofs.Kept.{within_set}
use Rattle.objset.specs.Laws.{HasEachOnce}
use Rattle.objset.specs.Objects.{Object, IsObject, AreObjects}
use Rattle.objset.specs.Within.{blocks_of_objects, blocks_of_set, reads_of}
use Rattle.volume.specs.Volume.{IsVolume}
use Rattle.volume.specs.Walking.{blocks_of_volume}
use Rattle.dataset_destroys.proofs.BlocksOnce.{back_once, set_once}

-- ---- births

in_range : (blocks : ℕ → List Block) (block : Block) (first count : ℕ) → Contains (flat_map blocks (range_with_len first count)) block → (number : ℕ) × Contains (blocks number) block
in_range blocks block first zero held = absurd (omega (arith, held.1))
in_range blocks block first (suc count) held =
    elim (Contains-append_cases (blocks first) (flat_map blocks (range_with_len (first + 1) count)) block held) [
      | inl here ↦ (first, here)
      | inr later ↦ in_range blocks block (first + 1) count later
    ]

object_born : (stored : Contents) (birth : ℕ) (node : Dnode) (object : Option Object) (blocks : List Block) (block : Block) → IsObject stored birth node object blocks → Contains blocks block → block.birth ≤ birth
object_born stored birth Free object blocks block is held = absurd (let there : Contains [] block = subst (λ bs. Contains bs block) is.1 held in omega (arith, there.1))
object_born stored birth (Node node) None blocks block is held = absurd is
object_born stored birth (Node node) (Some object) blocks block is held = (tree_blocks_known stored birth node object.array blocks is.3 block held).0

set_born : (stored : Contents) (birth : ℕ) (set : ObjectSet) (objects : ℕ → Option Object) (own : List Block) (blocks : ℕ → List Block) (block : Block) → FitsObjectSet set
    → AreObjects stored birth set objects own blocks → Contains (blocks_of_set set own blocks) block → block.birth ≤ birth
set_born stored birth set objects own blocks block fits are held =
    elim (Contains-append_cases own (flat_map blocks (range_with_len 0 set.objects)) block held) [
      | inl here ↦ (tree_blocks_known stored birth set.dnodes are.dnodes.array own are.dnodes.tree block here).0
      | inr later ↦
          let there = in_range blocks block 0 set.objects later in
          object_born stored birth (are.nodes there.0) (objects there.0) (blocks there.0) block (within_set stored birth set objects own blocks fits are there.0) there.1
    ]

-- ---- those of a volume

older : (since birth : ℕ) → birth ≤ since → nat_lt since birth ≡ false
older since birth le = grind (arith, nat_tests)

later : (since birth : ℕ) → since < birth → nat_lt since birth ≡ true
later since birth lt = grind (arith, nat_tests)

-- all are older where that of the object set is
pub none_younger : (since : ℕ) (stored : Contents) (bound size block_size : ℕ) (array : List ℕ) (block : Block) (is : IsVolume stored bound block size block_size array) → block.birth ≤ since
    → younger since (blocks_of_volume block is.set is.has.own is.has.blocks) ≡ []
none_younger since stored bound size block_size array block is le =
    passed_over (is_younger since) block (blocks_of_set is.set is.has.own is.has.blocks) (older since block.birth le)
    ∙ none_picked (is_younger since) (blocks_of_set is.set is.has.own is.has.blocks) (λ other held.
    older since other.birth (let born = set_born stored block.birth is.set is.has.objects is.has.own is.has.blocks other is.is_set.spelled.0 is.has.are held in omega (arith, born, le)))

-- else that one comes first
pub first_younger : (since : ℕ) (block : Block) (set : ObjectSet) (own : List Block) (blocks : ℕ → List Block) → since < block.birth
    → block ∷ younger since (blocks_of_set set own blocks) ≡ younger since (blocks_of_volume block set own blocks)
first_younger since block set own blocks lt = sym (picked_first (is_younger since) block (blocks_of_set set own blocks) (later since block.birth lt))

-- ---- how many are read

shorter : (since : ℕ) (blocks : List Block) → length (younger since blocks) ≤ length blocks
shorter since blocks = omega (arith, length-filter (is_younger since) blocks, count_by-le-length (is_younger since) blocks)

pub few_reads : (since left : ℕ) (block : Block) (set : ObjectSet) (own : List Block) (blocks : ℕ → List Block) → length (blocks_of_volume block set own blocks) ≤ suc left
    → reads_of (younger since own) (younger since (blocks_of_objects set blocks)) ≤ left
few_reads since left block set own blocks enough =
    let below : List Block = blocks_of_objects set blocks in
    let indirect : indirect_count (younger since below) ≤ length (younger since below) = count_by-le-length _ (younger since below) in
    let sum : length (own ++ below) ≡ length own + length below = length-append own below in
    omega (arith, enough, indirect, sum, shorter since own, shorter since below)

-- a volume that has each block once has each once in its set
pub volume_once : (stored : Contents) (birth : ℕ) (block : Block) (set : ObjectSet) (objects : ℕ → Option Object) (own : List Block) (blocks : ℕ → List Block) → AreObjects stored birth set objects own blocks
    → AreDistinct (blocks_of_volume block set own blocks) → HasEachOnce own blocks
volume_once stored birth block set objects own blocks are once =
    set_once stored birth set objects own blocks are (back_once (block ∷ []) (blocks_of_set set own blocks) once)

-- a set's block may be asked later
pub set_later : (stored : Contents) (bound birth : ℕ) (block : Block) (set : ObjectSet) → bound ≤ birth → IsSetBlock stored bound block set → IsSetBlock stored birth block set
set_later stored bound birth block set le is =
    record { asks = record { property = is.asks.property; birth = let early = is.asks.birth in omega arith }; bytes = is.bytes; known = is.known; spelled = is.spelled }
