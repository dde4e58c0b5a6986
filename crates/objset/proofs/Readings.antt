-- A set has one object at each number, with one list of blocks.
use Rattle.std.proofs.Common.{◌≡◌, ℕ, ◌/◌, ◌%◌, ◌^◌, ◌<◌, List, Option, Some, None, sym, ap, subst, ◌∙◌}
use Rattle.block_pointer.specs.declared.block.Block.{Block}
use Rattle.block_store.specs.Blocks.{Contents}
use Rattle.dnode.specs.declared.dnode.Dnode.{Dnode}
use Rattle.dnode.specs.declared.dnode.Dnode.TheVariants.{Free, Object as Node}
use Rattle.dnode.specs.declared.node.ObjectNode.{ObjectNode}
use Rattle.objset.proofs.NodeReadings.{nodes_read_as_one}
use Rattle.objset.specs.Nodes.{IsNodeIn, birth_of}
use Rattle.dnode_tree.proofs.Readings.{trees_read_as_one}
use Rattle.objset.specs.Laws.{ObjectsAreOne}
use Rattle.objset.specs.Objects.{Object, IsObject}

-- a dnode in use has a highest block id that a tree has places for
highest_low : (cell : Option (List ℕ)) (place : ℕ) (node : ObjectNode) → IsNodeIn cell place (Node node) → node.highest < 128 ^ 5
highest_low None place node is = absurd (let clash : Node node ≡ Free = is in cc)
highest_low (Some bytes) place node is = is.0.0.highest

object_is_one : (stored : Contents) (birth later : ℕ) (cell : Option (List ℕ)) (place : ℕ) (dnode : Dnode) (object other : Option Object) (blocks more : List Block) → IsNodeIn cell place dnode
    → IsObject stored birth dnode object blocks → IsObject stored later dnode other more → (object ≡ other) × (blocks ≡ more)
object_is_one stored birth later cell place Free object other blocks more is one two = (one.0 ∙ sym two.0, one.1 ∙ sym two.1)
object_is_one stored birth later cell place (Node node) None other blocks more is one two = absurd one
object_is_one stored birth later cell place (Node node) (Some object) None blocks more is one two = absurd two
object_is_one stored birth later cell place (Node node) (Some object) (Some other) blocks more is one two =
    let object_type : object.object_type ≡ other.object_type = one.0 ∙ sym two.0 in
    let data_sectors : object.data_sectors ≡ other.data_sectors = one.1 ∙ sym two.1 in
    let highest : object.highest ≡ other.highest = one.2 ∙ sym two.2 in
    let tree = trees_read_as_one stored birth later node object.array other.array blocks more (highest_low cell place node is) one.3 two.3 in
    let array = tree.0 in
    let same : object ≡ other = λ i. record { object_type = object_type i; data_sectors = data_sectors i; highest = highest i; array = array i } in
    (ap Some same, tree.1)

pub objects_are_one : ObjectsAreOne
objects_are_one stored birth later set objects others own more blocks lists room one two =
    let same = nodes_read_as_one stored birth later set one.nodes two.nodes own more room one.dnodes two.dnodes in
    let each : (number : ℕ) → (objects number ≡ others number) × (blocks number ≡ lists number) = λ number.
    object_is_one stored (birth_of one.dnodes.births number) (birth_of two.dnodes.births number) (two.dnodes.array (number / 32)) (number % 32) (two.nodes number)
    (objects number) (others number) (blocks number) (lists number) (two.dnodes.each number)
    (subst (λ nodes. IsObject stored (birth_of one.dnodes.births number) (nodes number) (objects number) (blocks number)) same.0 (one.each number)) (two.each number) in
    (λ i number. (each number).0 i, same.1, λ i number. (each number).1 i)
