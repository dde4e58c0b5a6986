-- Shapes of objects.
use Rattle.std.proofs.Common.{◌≡◌, ℕ, ◌^◌, ◌<◌, List, Option, Some, None, refl, subst}
use Rattle.std.specs.Prelude.{IfSome}
use Rattle.block_pointer.specs.declared.block.Block.{Block}
use Rattle.block_store.specs.Blocks.{Contents}
use Rattle.dnode.specs.Dnode.{FitsDnode}
use Rattle.dnode.specs.declared.dnode.Dnode.{Dnode}
use Rattle.dnode.specs.declared.dnode.Dnode.TheVariants.{Free, Object as Node}
use Rattle.objset.specs.declared.shape.ObjectShape.{ObjectShape}
use Rattle.objset.specs.Objects.{Object, EndsAt, IsObject}
use Rattle.objset.specs.Shapes.{shape_of_dnode, HasShape}

-- an object has the shape of its dnode
pub has_shape : (stored : Contents) (birth : ℕ) (dnode : Dnode) (object : Option Object) (blocks : List Block) → IsObject stored birth dnode object blocks → HasShape object (shape_of_dnode dnode)
has_shape stored birth Free None blocks is = tt
has_shape stored birth Free (Some object) blocks is = let clash : Some object ≡ None = is.0 in absurd cc
has_shape stored birth (Node node) None blocks is = absurd is
has_shape stored birth (Node node) (Some object) blocks is = (is.0, is.1, is.2, λ id above. is.3.behind id (subst (λ highest. highest < id) is.2 above))

pub highest_fits : (dnode : Dnode) → FitsDnode dnode → IfSome (shape_of_dnode dnode) (λ shape. shape.highest < 128 ^ 5)
highest_fits Free fits = tt
highest_fits (Node node) fits = fits.0.highest

-- the object that has a shape
pub record IsShaped (object : Option Object) (shape : ObjectShape) : Type 0 where
  pub there : Object
  pub is : object ≡ Some there
  pub object_type : there.object_type ≡ shape.object_type
  pub sectors : there.data_sectors ≡ shape.data_sectors
  pub highest : there.highest ≡ shape.highest
  pub ends : EndsAt there

pub shaped : (object : Option Object) (shape : ObjectShape) → HasShape object (Some shape) → IsShaped object shape
shaped None shape has = absurd has
shaped (Some there) shape has = record { there = there; is = refl; object_type = has.0; sectors = has.1; highest = has.2; ends = has.3 }

-- what has no shape is no object
pub unshaped : (object : Option Object) (there : Object) → HasShape object None → object ≡ Some there → ⊥
unshaped None there has is = let clash : None ≡ Some there = is in cc
unshaped (Some object) there has is = has
