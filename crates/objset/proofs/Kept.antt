-- Objects stay what they are where more is known and a later birth is asked.
use Rattle.std.proofs.Common.{◌≡◌, ◌≢◌, ℕ, ◌/◌, ◌%◌, ◌≤◌, arith, List, [], Option, Some, None, Contains, inl, inr, refl, sym, ◌∙◌, subst}
use Rattle.std.specs.Prelude.{IsSomeAnd}
use Rattle.block_pointer.specs.declared.block.Block.{Block}
use Rattle.block_store.specs.Blocks.{Contents, Extends}
use Rattle.dnode.specs.declared.dnode.Dnode.{Dnode}
use Rattle.dnode.specs.declared.dnode.Dnode.TheVariants.{Free, Object as Node}
use Rattle.dnode.specs.declared.node.ObjectNode.{ObjectNode}
use Rattle.dnode.specs.declared.object_set.ObjectSet.{ObjectSet}
use Rattle.objset.specs.Nodes.{HasNodes, IsNodeIn, birth_of}
use Rattle.dnode.specs.ObjectSet.{FitsObjectSet}
use Rattle.dnode_tree.proofs.Ages.{births_stand, births_within}
use Rattle.dnode_tree.proofs.Standing.{trees_stand}
use Rattle.dnode_tree.proofs.WholeTree.{tree_later}
use Rattle.dnode_tree.specs.Tree.{IsTree}
use Rattle.objset.specs.Laws.{ObjectsStandOnTheirBlocks}
use Rattle.objset.specs.Objects.{Object, IsObject, AreObjects}

object_stands : (old new : Contents) (bound birth : ℕ) (node : Dnode) (object : Option Object) (blocks : List Block)
    → ((block : Block) (bytes : List ℕ) → Contains blocks block → old block ≡ Some bytes → new block ≡ Some bytes) → bound ≤ birth
    → IsObject old bound node object blocks → IsObject new birth node object blocks
object_stands old new bound birth Free object blocks keeps le is = is
object_stands old new bound birth (Node node) None blocks keeps le is = is
object_stands old new bound birth (Node node) (Some object) blocks keeps le is =
    (is.0, is.1, is.2, tree_later new bound birth node object.array blocks le (trees_stand old new bound node object.array blocks keeps is.3))

pub object_kept : (old new : Contents) (bound birth : ℕ) (node : Dnode) (object : Option Object) (blocks : List Block) → Extends old new → bound ≤ birth
    → IsObject old bound node object blocks → IsObject new birth node object blocks
object_kept old new bound birth node object blocks kept le is = object_stands old new bound birth node object blocks (λ block bytes held known. kept block bytes known) le is

pub nodes_later : (stored : Contents) (bound birth : ℕ) (set : ObjectSet) (nodes : ℕ → Dnode) (own : List Block) → bound ≤ birth
    → HasNodes stored bound set nodes own → HasNodes stored birth set nodes own
nodes_later stored bound birth set nodes own le has = record {
  array = has.array;
  tree = tree_later stored bound birth set.dnodes has.array own le has.tree;
  births = has.births;
  born = has.born;
  each = has.each;
  first = has.first;
  behind = has.behind;
}

-- with the same births
pub births_of_later : (stored : Contents) (bound birth : ℕ) (set : ObjectSet) (nodes : ℕ → Dnode) (own : List Block) (le : bound ≤ birth) (has : HasNodes stored bound set nodes own) (number : ℕ) → birth_of (nodes_later stored bound birth set nodes own le has).births number ≡ birth_of has.births number
unfolding nodes_later
births_of_later stored bound birth set nodes own le has number = refl

pub objects_stand : ObjectsStandOnTheirBlocks
objects_stand old new bound birth set objects own blocks le keeps are = record {
  nodes = are.nodes;
  dnodes = record {
    array = are.dnodes.array;
    tree = tree_later new bound birth set.dnodes are.dnodes.array own le
        (trees_stand old new bound set.dnodes are.dnodes.array own (λ block bytes held known. keeps block bytes (inl held) known) are.dnodes.tree);
    births = are.dnodes.births;
    born = births_stand old new bound set.dnodes are.dnodes.array own are.dnodes.births (λ block bytes held known. keeps block bytes (inl held) known) are.dnodes.tree are.dnodes.born;
    each = are.dnodes.each;
    first = are.dnodes.first;
    behind = are.dnodes.behind;
  };
  each = λ number. object_stands old new (birth_of are.dnodes.births number) (birth_of are.dnodes.births number) (are.nodes number) (objects number) (blocks number)
      (λ block bytes held known. keeps block bytes (inr (number, held)) known) (omega arith) (are.each number);
}

-- the birth of its dnode's block is within the set's
by_block : (stored : Contents) (birth bound : ℕ) (node : Dnode) (object : Option Object) (blocks : List Block) (cell : Option (List ℕ)) (place : ℕ) → IsNodeIn cell place node
    → (cell ≢ None → birth ≤ bound) → IsObject stored birth node object blocks → IsObject stored bound node object blocks
by_block stored birth bound Free object blocks cell place has le is = is
by_block stored birth bound (Node node) object blocks None place has le is = absurd (let clash : Node node ≡ Free = has in cc)
by_block stored birth bound (Node node) object blocks (Some bytes) place has le is =
    object_kept stored stored birth bound (Node node) object blocks (λ block bytes known. known) (le (λ same. let clash : Some bytes ≡ None = same in cc)) is

pub within_set : (stored : Contents) (bound : ℕ) (set : ObjectSet) (objects : ℕ → Option Object) (own : List Block) (blocks : ℕ → List Block) → FitsObjectSet set
    → (are : AreObjects stored bound set objects own blocks) (number : ℕ) → IsObject stored bound (are.nodes number) (objects number) (blocks number)
within_set stored bound set objects own blocks fits are number =
    by_block stored (birth_of are.dnodes.births number) bound (are.nodes number) (objects number) (blocks number) (are.dnodes.array (number / 32)) (number % 32) (are.dnodes.each number)
    (births_within stored bound set.dnodes are.dnodes.array own are.dnodes.births fits.0.0.highest are.dnodes.tree are.dnodes.born (number / 32)) (are.each number)

-- the same object by equal names
pub object_as : (stored : Contents) (birth : ℕ) (node other : Dnode) (object object_too : Option Object) (blocks blocks_too : List Block) → node ≡ other → object ≡ object_too → blocks ≡ blocks_too
    → IsObject stored birth node object blocks → IsObject stored birth other object_too blocks_too
object_as stored birth node other object object_too blocks blocks_too same_node same_object same_blocks is =
    subst (λ n. IsObject stored birth n object_too blocks_too) same_node
    (subst (λ o. IsObject stored birth node o blocks_too) same_object
    (subst (λ bs. IsObject stored birth node object bs) same_blocks is))

pub no_object : (stored : Contents) (birth : ℕ) (found node : Dnode) (object : Option Object) (blocks : List Block) → found ≡ node → found ≡ Free → IsObject stored birth node object blocks
    → (object ≡ None) × (blocks ≡ [])
no_object stored birth found node object blocks same is there = subst (λ n. IsObject stored birth n object blocks) (sym same ∙ is) there

pub used : (found : Dnode) (node : ObjectNode) → found ≡ Node node → found ≢ Free
used found node is free = let clash : Node node ≡ Free = sym is ∙ free in cc

-- what a dnode in use is the dnode of
pub record HasTree (stored : Contents) (birth : ℕ) (node : ObjectNode) (object : Option Object) (blocks : List Block) : Type 0 where
  pub there : Object
  pub is : object ≡ Some there
  pub object_type : there.object_type ≡ node.object_type
  pub data_sectors : there.data_sectors ≡ node.data_sectors
  pub highest : there.highest ≡ node.highest
  pub tree : IsTree stored birth node there.array blocks

has_tree : (stored : Contents) (birth : ℕ) (node : ObjectNode) (object : Option Object) (blocks : List Block) → IsObject stored birth (Node node) object blocks → HasTree stored birth node object blocks
has_tree stored birth node None blocks is = absurd is
has_tree stored birth node (Some object) blocks is = record { there = object; is = refl; object_type = is.0; data_sectors = is.1; highest = is.2; tree = is.3 }

pub object_there : (stored : Contents) (birth : ℕ) (found dnode : Dnode) (node : ObjectNode) (object : Option Object) (blocks : List Block) → found ≡ dnode → found ≡ Node node
    → IsObject stored birth dnode object blocks → HasTree stored birth node object blocks
object_there stored birth found dnode node object blocks same is there = has_tree stored birth node object blocks (subst (λ n. IsObject stored birth n object blocks) (sym same ∙ is) there)

pub some_and : {T : Type 0} (found : Option T) (x : T) (P : T → Type 0) → found ≡ Some x → P x → IsSomeAnd found P
some_and found x P is there = subst (λ o. IsSomeAnd o P) (sym is) there
