-- The blocks of the tables of a whole set have 4,096 bytes.
use Rattle.std.proofs.Common.{◌≡◌, ℕ, zero, suc, ◌+◌, ◌-◌, ◌*◌, ◌/◌, ◌%◌, ◌^◌, ◌<◌, ◌≤◌, List, [], length, get_or, Option, Some, None, inl, inr, refl, sym, ap, subst, ◌∙◌, arith}
use Rattle.std.proofs.Math.Nat.{div-lt_iff_lt-mul}
use Rattle.std.proofs.lemmas.Bool.{cases_lt}
use Rattle.block_pointer.specs.declared.block.Block.{Block}
use Rattle.block_pointer.specs.declared.pointer.BlockPtr.{BlockPtr}
use Rattle.block_pointer.specs.declared.pointer.BlockPtr.TheVariants.{Hole, Block as At}
use Rattle.block_pointer.specs.declared.property.Property.{Property}
use Rattle.block_store.specs.Blocks.{Contents, IsWrittenAs}
use Rattle.block_store.specs.Store.{Store, Holds}
use Rattle.dnode.specs.declared.dnode.Dnode.{Dnode}
use Rattle.dnode.specs.declared.dnode.Dnode.TheVariants.{Free, Object as Node}
use Rattle.dnode.specs.declared.node.ObjectNode.{ObjectNode}
use Rattle.dnode.specs.declared.object_set.ObjectSet.{ObjectSet}
use Rattle.objset.specs.Nodes.{IsNodeIn, birth_of}
use Rattle.dnode_tree.proofs.Ages.{height_has, in_part}
use Rattle.dnode_tree.proofs.Spans.{span_positive, span_up}
use Rattle.dnode_tree.specs.Subtree.{IsSubtree}
use Rattle.dnode_tree.specs.Tree.{property_of, IsTree}
use Rattle.objset.specs.Objects.{Object, IsObject, AreObjects}
use Rattle.object_table.specs.declared.kind.TableKind.{TableKind}
use Rattle.object_table.specs.Ends.{AreEndsOfSome}
use Rattle.object_table.specs.Tables.{HasTable, HasWholeBlocks, bytes_to}
use Rattle.object_table.proofs.WholeArrays.{bytes_len, first_of, last_of}

-- each block that is known has the size that its pointer tells
abbrev AreWrittenAs : Contents → Type 0
AreWrittenAs stored = (block : Block) (bytes : List ℕ) → stored block ≡ Some bytes → IsWrittenAs block bytes

none_some : {X : Type 0} (found : Option X) (x : X) → found ≡ None → found ≡ Some x → ⊥
none_some found x none some = let clash : Some x ≡ None = sym some ∙ none in cc

some_once : {X : Type 0} (found : Option X) (x y : X) → found ≡ Some x → found ≡ Some y → x ≡ y
some_once found x y one two = let e : Some x ≡ Some y = sym one ∙ two in cc

part_sizes : (stored : Contents) (property : ℕ → Property) (level first birth : ℕ) (pointer : BlockPtr) (array : ℕ → Option (List ℕ)) (blocks : List Block) → AreWrittenAs stored
    → IsSubtree stored property level first birth pointer array blocks → (id : ℕ) → first ≤ id → id < first + 128 ^ level → (bytes : List ℕ) → array id ≡ Some bytes
    → length bytes ≡ (property 0).sectors * 512
part_sizes stored property zero first birth Hole array blocks known part id from under bytes is = absurd (none_some (array id) bytes (part.0 id from under) is)
part_sizes stored property zero first birth (At block) array blocks known part id from under bytes is =
    let at : first ≡ id = omega (arith, from, under) in
    let same : bytes ≡ part.0 = some_once (array id) bytes part.0 is (subst (λ n. array n ≡ Some part.0) at part.2) in
    ap length same ∙ (known block part.0 part.1.known).size ∙ ap (λ (p : Property). p.sectors * 512) part.1.asks.property
part_sizes stored property (suc level) first birth Hole array blocks known part id from under bytes is = absurd (none_some (array id) bytes (part.0 id from under) is)
part_sizes stored property (suc level) first birth (At block) array blocks known part id from under bytes is =
    let room : id - first < 128 * 128 ^ level = omega (arith, from, under, span_up (suc level) level refl) in
    let k : ℕ = (id - first) / 128 ^ level in
    let low : k < 128 = (div-lt_iff_lt-mul (span_positive level)).1 room in
    let place = in_part first id (128 ^ level) from (span_positive level) in
    part_sizes stored property level (first + k * 128 ^ level) block.birth (get_or part.pointers k Hole) array (get_or part.parts k []) known (part.below k low) id place.0 place.1 bytes is

tree_sizes : (stored : Contents) (birth : ℕ) (node : ObjectNode) (array : ℕ → Option (List ℕ)) (blocks : List Block) → AreWrittenAs stored → node.highest < 128 ^ 5
    → IsTree stored birth node array blocks → (id : ℕ) (bytes : List ℕ) → array id ≡ Some bytes → length bytes ≡ node.data_sectors * 512
tree_sizes stored birth node array blocks known room tree id bytes is = elim (cases_lt node.highest id) [
  | inl past ↦ absurd (none_some (array id) bytes (tree.behind id past) is)
  | inr within ↦
      part_sizes stored (property_of node) _ 0 birth node.pointer array blocks known tree.root id (omega arith) (omega (arith, within, height_has node.highest room)) bytes is
]

-- a dnode in use has a highest block id that a tree has places for
highest_low : (cell : Option (List ℕ)) (place : ℕ) (node : ObjectNode) → IsNodeIn cell place (Node node) → node.highest < 128 ^ 5
highest_low None place node is = absurd (let clash : Node node ≡ Free = is in cc)
highest_low (Some bytes) place node is = is.0.0.highest

object_sizes : (stored : Contents) (birth : ℕ) (cell : Option (List ℕ)) (place : ℕ) (dnode : Dnode) (object : Option Object) (there : Object) (blocks : List Block) → AreWrittenAs stored
    → IsNodeIn cell place dnode → IsObject stored birth dnode object blocks → object ≡ Some there → there.data_sectors ≡ 8 → HasWholeBlocks there.array
object_sizes stored birth cell place Free object there blocks known in_cell is at sectors = absurd (none_some object there is.0 at)
object_sizes stored birth cell place (Node node) None there blocks known in_cell is at sectors = absurd is
object_sizes stored birth cell place (Node node) (Some object) there blocks known in_cell is at sectors =
    let same : object ≡ there = let e : Some object ≡ Some there = at in cc in
    λ id bytes found.
    tree_sizes stored birth node object.array blocks known (highest_low cell place node in_cell) is.3 id bytes (ap (λ (o : Object). o.array id) same ∙ found)
    ∙ ap (λ n. n * 512) (sym is.1 ∙ ap (λ (o : Object). o.data_sectors) same ∙ sectors)

-- so those of a table's object have 4,096 bytes
pub whole_blocks : (store : Store) (stored : Contents) (birth : ℕ) (set : ObjectSet) (objects : ℕ → Option Object) (own : List Block) (blocks : ℕ → List Block) (number : ℕ) (there : Object)
    → Holds store stored → AreObjects stored birth set objects own blocks → objects number ≡ Some there → there.data_sectors ≡ 8 → HasWholeBlocks there.array
whole_blocks store stored birth set objects own blocks number there held are is sectors =
    object_sizes stored (birth_of are.dnodes.births number) (are.dnodes.array (number / 32)) (number % 32) (are.nodes number) (objects number) there (blocks number) held.blocks
    (are.dnodes.each number) (are.each number) is sectors

-- the first and the last block of a table are those of some table
pub ends_of_table : (kind : TableKind) (object : Option Object) (rows first last : List ℕ) (has : HasTable kind object rows) → HasWholeBlocks has.there.array → has.there.array 0 ≡ Some first
    → has.there.array has.there.highest ≡ Some last → AreEndsOfSome kind.rows has.there.highest has.table.spelled.count first last
ends_of_table kind object rows first last has whole first_is last_is = record {
  rows = rows;
  are_rows = has.table.spelled.are_rows;
  bytes = bytes_to has.there.array (has.there.highest + 1);
  spelled = has.table.spelled;
  size = bytes_len has.there.array (has.there.highest + 1) whole (λ id lt. has.table.no_hole id (omega (arith, lt)));
  first_is = first_of has.there.array first has.there.highest whole first_is;
  last_is = last_of has.there.array last has.there.highest whole (λ id le. has.table.no_hole id le) last_is;
}
