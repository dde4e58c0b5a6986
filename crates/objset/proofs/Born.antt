-- What a dnode or a set leads to was born by the birth of the block that it stands in.
use Rattle.std.proofs.Common.{◌≡◌, ◌≢◌, ℕ, zero, suc, List, Option, Some, None, ◌≤◌, subst, sym, arith}
use Rattle.block_pointer.specs.declared.block.Block.{Block}
use Rattle.block_pointer.specs.declared.pointer.BlockPtr.{BlockPtr}
use Rattle.block_pointer.specs.declared.pointer.BlockPtr.TheVariants.{Hole, Block as At}
use Rattle.block_pointer.specs.declared.property.Property.{Property}
use Rattle.block_store.specs.Blocks.{Contents}
use Rattle.dnode.specs.declared.dnode.Dnode.{Dnode}
use Rattle.dnode.specs.declared.dnode.Dnode.TheVariants.{Free, Object as Node}
use Rattle.dnode.specs.declared.object_set.ObjectSet.{ObjectSet}
use Rattle.dnode_tree.specs.Subtree.{IsSubtree}
use Rattle.dnode_tree.specs.Tree.{property_of}
use Rattle.objset.specs.Found.{IsBornBy, IsDnodeBornBy}
use Rattle.objset.specs.Objects.{Object, IsObject, AreObjects}

pub root_born : (stored : Contents) (property : ℕ → Property) (level first birth : ℕ) (pointer : BlockPtr) (array : ℕ → Option (List ℕ)) (blocks : List Block)
    → IsSubtree stored property level first birth pointer array blocks → IsBornBy birth pointer
root_born stored property level first birth Hole array blocks part = tt
root_born stored property zero first birth (At block) array blocks part = part.1.asks.birth
root_born stored property (suc level) first birth (At block) array blocks part = part.asks.birth

pub born_later : (birth later : ℕ) (pointer : BlockPtr) → birth ≤ later → IsBornBy birth pointer → IsBornBy later pointer
born_later birth later Hole le born = tt
born_later birth later (At block) le born = omega (arith, born, le)

pub set_born : (stored : Contents) (bound before : ℕ) (set : ObjectSet) (objects : ℕ → Option Object) (own : List Block) (blocks : ℕ → List Block)
    → AreObjects stored bound set objects own blocks → bound ≤ before → IsBornBy before set.dnodes.pointer
set_born stored bound before set objects own blocks are le =
    born_later bound before set.dnodes.pointer le (root_born stored (property_of set.dnodes) _ 0 bound set.dnodes.pointer are.dnodes.array own are.dnodes.tree.root)

pub object_born : (stored : Contents) (birth : ℕ) (dnode : Dnode) (object : Option Object) (blocks : List Block) → IsObject stored birth dnode object blocks → IsDnodeBornBy birth dnode
object_born stored birth Free object blocks is = tt
object_born stored birth (Node node) None blocks is = absurd is
object_born stored birth (Node node) (Some object) blocks is = root_born stored (property_of node) _ 0 birth node.pointer object.array blocks is.3.root

-- the dnode that was read is one of a sound set, and is free or has the birth of its block
pub found_born : (stored : Contents) (birth block_birth : ℕ) (dnode found : Dnode) (object : Option Object) (blocks : List Block) → found ≡ dnode
    → IsObject stored birth dnode object blocks → (found ≢ Free → block_birth ≡ birth) → IsDnodeBornBy block_birth found
found_born stored birth block_birth dnode Free object blocks same is born = tt
found_born stored birth block_birth dnode (Node node) object blocks same is born =
    let at = born (λ free. cc) in
    subst (λ b. IsDnodeBornBy b (Node node)) (sym at) (subst (λ d. IsDnodeBornBy birth d) (sym same) (object_born stored birth dnode object blocks is))
