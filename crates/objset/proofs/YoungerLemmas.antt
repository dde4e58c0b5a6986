-- The objects of a set, and the younger blocks of the trees of their nodes.
use Rattle.std.proofs.Common.{All, ◌≡◌, ◌≢◌, ℕ, zero, suc, ◌+◌, ◌/◌, ◌%◌, ◌<◌, ◌≤◌, Bool, true, false, cond, List, [], ◌∷◌, ◌++◌, length, take, get_or, Option, Some, None, Contains, refl, sym, ap, ◌∙◌, subst, arith, inl, inr}
use Rattle.std.specs.Prelude.{filter, nat_lt}
use Rattle.std.specs.List.{flat_map, range_with_len}
use Rattle.std.proofs.lemmas.Bool.Decides.{nat_tests}
use Rattle.std.proofs.lemmas.List.{take_all, length-map, get_or-map}
use Rattle.std.proofs.lemmas.List.Elements.{filter-append}
use Rattle.std.proofs.lemmas.List.Kept.{AllPairs-filter}
use Rattle.block_pointer.specs.declared.block.Block.{Block}
use Rattle.block_store.specs.Blocks.{Contents}
use Rattle.block_store.specs.declared.refusal.Refusal.{Refusal}
use Rattle.block_store.specs.Spaces.{VdevSpace}
use Rattle.block_store.specs.Steps.{OnlyReadsBlocks}
use Rattle.block_store.specs.Store.{Store}
use Rattle.dnode.specs.declared.dnode.Dnode.{Dnode}
use Rattle.dnode.specs.declared.dnode.Dnode.TheVariants.{Free, Object as Node}
use Rattle.dnode.specs.declared.node.ObjectNode.{ObjectNode}
use Rattle.dnode.specs.declared.object_set.ObjectSet.{ObjectSet}
use Rattle.dnode.specs.Node.{FitsNode}
use Rattle.dnode.specs.ObjectSet.{FitsObjectSet}
use Rattle.objset.specs.declared.node_walks.FoundNode.{FoundNode}
use Rattle.objset.specs.Nodes.{IsNodeIn, birth_of}
use Rattle.objset.specs.NodesWithin.{used, objects_from, objects_of, IsNodeOfOne}
use Rattle.objset.specs.NodesYounger.{younger_nodes}
use Rattle.objset.proofs.Objects.{node_fits}
use Rattle.objset.proofs.YoungerNodes.{all_refused as all_nodes_refused}
use Rattle.dnode_tree.proofs.AllPicked.{sees_born, all_walked, within_refused, tree_born, all_younger}
use Rattle.dnode_tree.proofs.Collecting.{joined-take_more}
use Rattle.dnode_tree.proofs.Enough.{counted_within}
use Rattle.dnode_tree.proofs.Picking.{picked_parts, none_picked}
use Rattle.dnode_tree.proofs.Standing.{tree_blocks_known}
use Rattle.dnode_tree.specs.Rewriting.{AreDistinct}
use Rattle.dnode_tree.specs.Subtree.{joined}
use Rattle.dnode_tree.specs.Tree.{IsTree}
use Rattle.dnode_tree.specs.Within.{indirect_count}
use Rattle.dnode_tree.specs.Younger.{is_younger, younger, AreWalkedWhere, IsWithinRefusedWhere}
use Rattle.objset.proofs.WithinLemmas.{HaveTrees, tree_at, as_many, in_range}
use Rattle.objset.specs.Laws.{HasEachOnce}
use Rattle.objset.specs.Objects.{Object, IsObject, AreObjects}
use Rattle.objset.specs.Within.{blocks_of_objects, blocks_of_set, reads_of, IsSetWalked, IsSetWalkRefused}
use Rattle.objset.specs.Younger.{IsYoungerSetWalked, IsYoungerObjectRefused, IsYoungerSetRefused}

pub younger_once : (since : ℕ) (blocks : List Block) → AreDistinct blocks → AreDistinct (younger since blocks)
younger_once since blocks once = AllPairs-filter (λ (block later : Block). block ≢ later) (is_younger since) blocks once

-- the younger blocks of each part
abbrev pub younger_parts : ℕ → List (List Block) → List (List Block)
younger_parts since parts = picked_parts (is_younger since) parts

-- The nodes have trees, whose younger blocks are all that the objects have, each part those of one object.
pub record HaveYoungerParts (since : ℕ) (stored : Contents) (list : List FoundNode) (blocks : ℕ → List Block) (first count : ℕ) : Type 0 where
  pub parts : List (List Block)
  pub trees : HaveTrees stored list parts
  pub all : joined (younger_parts since parts) ≡ younger since (flat_map blocks (range_with_len first count))
  pub of : (k : ℕ) → k < length parts → (number : ℕ) × (get_or parts k [] ≡ blocks number)

not_younger : (since birth older : ℕ) → nat_lt since birth ≡ false → older ≤ birth → nat_lt since older ≡ false
not_younger since birth older test within = grind (arith, nat_tests)

-- an object whose dnode's block is not younger has no younger block
none_younger : (since : ℕ) (stored : Contents) (birth : ℕ) (node : ObjectNode) (array : ℕ → Option (List ℕ)) (blocks : List Block) → nat_lt since birth ≡ false
    → IsTree stored birth node array blocks → younger since blocks ≡ []
none_younger since stored birth node array blocks test tree =
    none_picked (is_younger since) blocks (λ block held. not_younger since birth block.birth test (tree_blocks_known stored birth node array blocks tree block held).0)

one_part : (since : ℕ) (stored : Contents) (birth first count : ℕ) (dnode : Dnode) (object : Option Object) (list : List FoundNode) (blocks : ℕ → List Block)
    → IsObject stored birth dnode object (blocks first) → HaveYoungerParts since stored list blocks (first + 1) count
    → HaveYoungerParts since stored (younger_nodes since (used dnode birth) ++ list) blocks first (suc count)
one_part since stored birth first count Free object list blocks is rest = record {
  parts = rest.parts;
  trees = rest.trees;
  all = rest.all ∙ ap (λ front. younger since (front ++ flat_map blocks (range_with_len (first + 1) count))) (sym is.1);
  of = rest.of;
}
one_part since stored birth first count (Node node) None list blocks is rest = absurd is
one_part since stored birth first count (Node node) (Some object) list blocks is rest = told (nat_lt since birth) refl
  where
    it : FoundNode
    it = record { node = node; birth = birth }

    each : (k : ℕ) → k < length (blocks first ∷ rest.parts) → (number : ℕ) × (get_or (blocks first ∷ rest.parts) k [] ≡ blocks number)
    each zero low = (first, refl)
    each (suc k) low = rest.of k (omega (arith, low))

    sum : younger since (blocks first) ++ younger since (flat_map blocks (range_with_len (first + 1) count)) ≡ younger since (flat_map blocks (range_with_len first (suc count)))
    sum = sym (filter-append (is_younger since) (blocks first) (flat_map blocks (range_with_len (first + 1) count)))

    told : (b : Bool) → nat_lt since birth ≡ b → HaveYoungerParts since stored (cond b (record { node = node; birth = birth } ∷ []) [] ++ list) blocks first (suc count)
    told true test = record {
      parts = blocks first ∷ rest.parts;
      trees = ((object.array, is.3), rest.trees);
      all = ap (λ back. younger since (blocks first) ++ back) rest.all ∙ sum;
      of = each;
    }
    told false test = record {
      parts = rest.parts;
      trees = rest.trees;
      all = rest.all
          ∙ ap (λ front. front ++ younger since (flat_map blocks (range_with_len (first + 1) count))) (sym (none_younger since stored birth node object.array (blocks first) test is.3))
          ∙ sum;
      of = rest.of;
    }

all_parts : (since : ℕ) (stored : Contents) (nodes : ℕ → Dnode) (births : ℕ → ℕ → ℕ) (objects : ℕ → Option Object) (blocks : ℕ → List Block) (first count : ℕ)
    → ((number : ℕ) → IsObject stored (birth_of births number) (nodes number) (objects number) (blocks number))
    → HaveYoungerParts since stored (younger_nodes since (objects_from nodes births first count)) blocks first count
all_parts since stored nodes births objects blocks first zero each = record { parts = []; trees = tt; all = refl; of = λ k low. absurd (omega (arith, low)) }
all_parts since stored nodes births objects blocks first (suc count) each =
    subst (λ list. HaveYoungerParts since stored list blocks first (suc count))
    (sym (filter-append (λ (it : FoundNode). nat_lt since it.birth) (used (nodes first) (birth_of births first)) (objects_from nodes births (first + 1) count)))
    (one_part since stored (birth_of births first) first count (nodes first) (objects first) (younger_nodes since (objects_from nodes births (first + 1) count)) blocks (each first)
    (all_parts since stored nodes births objects blocks (first + 1) count each))

-- ---- the walk over the objects

pub parts_there : (since : ℕ) (stored : Contents) (birth : ℕ) (set : ObjectSet) (objects : ℕ → Option Object) (own : List Block) (blocks : ℕ → List Block) (items : List FoundNode)
    → (are : AreObjects stored birth set objects own blocks) → items ≡ younger_nodes since (objects_of set are.nodes are.dnodes.births) → HaveYoungerParts since stored items blocks 0 set.objects
parts_there since stored birth set objects own blocks items are is =
    subst (λ list. HaveYoungerParts since stored list blocks 0 set.objects) (sym is) (all_parts since stored are.nodes are.dnodes.births objects blocks 0 set.objects are.each)

-- all that was found is all that there is
pub found_all : (since : ℕ) (stored : Contents) (birth : ℕ) (set : ObjectSet) (objects : ℕ → Option Object) (own : List Block) (blocks : ℕ → List Block) (first below found : List Block) (items : List FoundNode) (k : ℕ)
    → (are : AreObjects stored birth set objects own blocks) → found ≡ first ++ below → first ≡ younger since own → items ≡ younger_nodes since (objects_of set are.nodes are.dnodes.births) → length items ≤ k
    → ((parts : List (List Block)) → HaveTrees stored items parts → below ≡ joined (take k (younger_parts since parts))) → found ≡ younger since (blocks_of_set set own blocks)
found_all since stored birth set objects own blocks first below found items k are found_is first_is items_are past below_is =
    let there = parts_there since stored birth set objects own blocks items are items_are in
    let all : length (younger_parts since there.parts) ≤ k = omega (arith, as_many stored items there.parts there.trees, past, length-map there.parts (filter (is_younger since))) in
    found_is ∙ ap (λ front. front ++ below) first_is
    ∙ ap (λ back. younger since own ++ back) (below_is there.parts there.trees ∙ ap joined (take_all k (younger_parts since there.parts) all) ∙ there.all)
    ∙ sym (filter-append (is_younger since) own (blocks_of_objects set blocks))

-- the blocks of the next object
pub next_part : (since : ℕ) (stored : Contents) (items : List FoundNode) (parts : List (List Block)) (k : ℕ) (it other : FoundNode) (below more : List Block) → k < length items → it ≡ get_or items k other
    → HaveTrees stored items parts → below ≡ joined (take k (younger_parts since parts))
    → ((array : ℕ → Option (List ℕ)) (blocks : List Block) → IsTree stored it.birth it.node array blocks → more ≡ younger since blocks)
    → below ++ more ≡ joined (take (k + 1) (younger_parts since parts))
next_part since stored items parts k it other below more low is have below_is told =
    let there = tree_at stored items parts k it other have low is in
    let whole : List (List Block) = younger_parts since parts in
    let here : get_or whole k [] ≡ younger since (get_or parts k []) = get_or-map (filter (is_younger since)) parts k [] [] there.1 in
    ap (λ front. front ++ more) below_is
    ∙ ap (λ back. joined (take k whole) ++ back) (told there.0.0 (get_or parts k []) there.0.1 ∙ sym here)
    ∙ joined-take_more whole k (omega (arith, there.1, length-map parts (filter (is_younger since))))

-- why the next object is refused, where as many are left as all objects need
pub next_refused : (since : ℕ) (stored : Contents) (set : ObjectSet) (own first : List Block) (blocks : ℕ → List Block) (items : List FoundNode) (k : ℕ) (it other : FoundNode) (below : List Block) (all mid now : ℕ) (Loss : Type 0)
    → k < length items → it ≡ get_or items k other → (parts : HaveYoungerParts since stored items blocks 0 set.objects) → below ≡ joined (take k (younger_parts since parts.parts)) → HasEachOnce own blocks
    → first ≡ younger since own → all ≡ mid + length first → mid ≡ now + indirect_count below → reads_of (younger since own) (younger since (blocks_of_objects set blocks)) ≤ all
    → ((array : ℕ → Option (List ℕ)) (blocks : List Block) → IsTree stored it.birth it.node array blocks → AreDistinct (younger since blocks) → indirect_count (younger since blocks) ≤ now → Loss) → Loss
next_refused since stored set own first blocks items k it other below all mid now Loss low is parts below_is once first_is before counted enough told =
    let there = tree_at stored items parts.parts k it other parts.trees low is in
    let (number, same) = parts.of k there.1 in
    let young : List (List Block) = younger_parts since parts.parts in
    let here : get_or young k [] ≡ younger since (get_or parts.parts k []) = get_or-map (filter (is_younger since)) parts.parts k [] [] there.1 in
    let part = counted_within young k (omega (arith, there.1, length-map parts.parts (filter (is_younger since)))) in
    let one : indirect_count (get_or young k []) ≡ indirect_count (younger since (get_or parts.parts k [])) = ap indirect_count here in
    let whole : indirect_count (joined young) ≡ indirect_count (younger since (blocks_of_objects set blocks)) = ap indirect_count parts.all in
    let some : indirect_count below ≡ indirect_count (joined (take k young)) = ap indirect_count below_is in
    let long : length first ≡ length (younger since own) = ap length first_is in
    told there.0.0 (get_or parts.parts k []) there.0.1
    (younger_once since (get_or parts.parts k []) (subst (λ bs. AreDistinct bs) (sym same) (once.each_once number)))
    (omega (arith, part, one, whole, some, long, before, counted, enough))

pub object_refused : (since : ℕ) (old mid new : Store) (missing : List ℕ) (set : ObjectSet) (birth left : ℕ) (refusal : Refusal) (own : List Block) (nodes items : List FoundNode) (k : ℕ) (it other : FoundNode)
    → items ≡ nodes → AreWalkedWhere (is_younger since) old.spaces set.dnodes birth own → All (IsNodeOfOne old.spaces own) nodes → k < length items → it ≡ get_or items k other
    → OnlyReadsBlocks old mid missing → IsWithinRefusedWhere (is_younger since) mid new missing it.node it.birth left refusal → IsYoungerObjectRefused since old new missing set birth left refusal
object_refused since old mid new missing set birth left refusal own nodes items k it other same walked from low is before why = record {
  own = own;
  walked = walked;
  it = it;
  from = subst (IsNodeOfOne old.spaces own) (sym is) (subst (All (IsNodeOfOne old.spaces own)) (sym same) from k other low);
  mid = mid;
  before = before;
  why = why;
}

-- ---- all blocks of a set were born after group 0

in_block : (found : Option (List ℕ)) (place : ℕ) (node : ObjectNode) → IsNodeIn found place (Node node) → FitsNode node
in_block None place node is = absurd cc
in_block (Some bytes) place node is = node_fits bytes place (Node node) node refl is

object_born : (stored : Contents) (birth : ℕ) (dnode : Dnode) (object : Option Object) (blocks : List Block) (found : Option (List ℕ)) (place : ℕ) → IsNodeIn found place dnode
    → IsObject stored birth dnode object blocks → (block : Block) → Contains blocks block → 0 < block.birth
object_born stored birth Free object blocks found place there is block held =
    let none : Contains [] block = subst (λ all. Contains all block) is.1 held in absurd (omega (arith, none.1))
object_born stored birth (Node node) None blocks found place there is block held = absurd is
object_born stored birth (Node node) (Some object) blocks found place there is block held =
    tree_born stored birth node object.array blocks (in_block found place node there).1 is.3 block held

module _ (stored : Contents) (birth : ℕ) (set : ObjectSet) (objects : ℕ → Option Object) (own : List Block) (blocks : ℕ → List Block) (fits : FitsObjectSet set)
    (are : AreObjects stored birth set objects own blocks) where
  own_born : (block : Block) → Contains own block → 0 < block.birth
  own_born block held = tree_born stored birth set.dnodes are.dnodes.array own fits.0.1 are.dnodes.tree block held

  objects_born : (block : Block) → Contains (blocks_of_objects set blocks) block → 0 < block.birth
  objects_born block held =
      let there = in_range blocks block 0 set.objects held in
      object_born stored (birth_of are.dnodes.births there.0) (are.nodes there.0) (objects there.0) (blocks there.0) (are.dnodes.array (there.0 / 32)) (there.0 % 32)
      (are.dnodes.each there.0) (are.each there.0) block there.2

  pub own_younger : younger 0 own ≡ own
  own_younger = all_younger own own_born

  pub objects_younger : younger 0 (blocks_of_objects set blocks) ≡ blocks_of_objects set blocks
  objects_younger = all_younger (blocks_of_objects set blocks) objects_born

  pub set_younger : younger 0 (blocks_of_set set own blocks) ≡ blocks_of_set set own blocks
  set_younger = filter-append (is_younger 0) own (blocks_of_objects set blocks) ∙ ap (λ front. front ++ younger 0 (blocks_of_objects set blocks)) own_younger
      ∙ ap (λ back. own ++ back) objects_younger

-- ---- walks since group 0 are those over all blocks

pub all_set_walked : (spaces : List VdevSpace) (set : ObjectSet) (birth before after : ℕ) (found : List Block) → FitsObjectSet set
    → IsYoungerSetWalked 0 spaces set birth before after found → IsSetWalked spaces set birth before after found
all_set_walked spaces set birth before after found fits there = record {
  own = there.own;
  below = there.below;
  are = there.are;
  walked = all_walked (is_younger 0) sees_born spaces set.dnodes birth there.own (sees_born set.dnodes.pointer fits.0.1) there.walked;
  count = there.count;
}

pub all_set_refused : (old new : Store) (missing : List ℕ) (set : ObjectSet) (birth before after : ℕ) (refusal : Refusal) → FitsObjectSet set
    → IsYoungerSetRefused 0 old new missing set birth before after refusal → IsSetWalkRefused old new missing set birth before after refusal
all_set_refused old new missing set birth before after refusal fits (inl memory) = inl memory
all_set_refused old new missing set birth before after refusal fits (inr (inl nodes)) = inr (inl (all_nodes_refused old new missing set birth after refusal fits nodes))
all_set_refused old new missing set birth before after refusal fits (inr (inr (inl why))) = inr (inr (inl (record {
  own = why.own;
  walked = all_walked (is_younger 0) sees_born old.spaces set.dnodes birth why.own (sees_born set.dnodes.pointer fits.0.1) why.walked;
  it = why.it;
  from = why.from;
  mid = why.mid;
  before = why.before;
  why = within_refused (is_younger 0) sees_born why.mid new missing why.it.node why.it.birth after refusal
      (sees_born why.it.node.pointer (in_block (Some why.from.from.bytes) why.from.from.at.place why.it.node why.from.from.at.is_in).1) why.why;
})))
all_set_refused old new missing set birth before after refusal fits (inr (inr (inr (bad, twice)))) =
    inr (inr (inr (bad, record { found = twice.found; walked = all_set_walked old.spaces set birth before after twice.found fits twice.walked; twice = twice.twice })))
