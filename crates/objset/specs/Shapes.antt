-- Objects by their shapes.
use Rattle.std.specs.Prelude.{ℕ, ◌≡◌, Option, Some, None, List}
use Rattle.block_store.specs.Spaces.{VdevSpace}
use Rattle.dnode.specs.declared.dnode.Dnode.{Dnode}
use Rattle.dnode.specs.declared.dnode.Dnode.TheVariants.{Free, Object as Node}
use Rattle.dnode.specs.declared.object_set.ObjectSet.{ObjectSet}
use Rattle.objset.specs.NodesFound.{found_dnode, IsNodeFound}
use Rattle.objset.specs.declared.shape.ObjectShape.{ObjectShape}
use Rattle.objset.specs.Objects.{Object, EndsAt}

-- the shape of the object that a dnode is in use for
abbrev pub shape_of_dnode : Dnode → Option ObjectShape
shape_of_dnode Free = None
shape_of_dnode (Node node) = Some (record { object_type = node.object_type; data_sectors = node.data_sectors; highest = node.highest })

-- An object has this type, this block size and this highest block id, and reads as nothing behind it. No object has no shape.
abbrev pub HasShape : Option Object → Option ObjectShape → Type 0
HasShape None None = Unit {0}
HasShape None (Some shape) = ⊥
HasShape (Some object) None = ⊥
HasShape (Some object) (Some shape) =
    (object.object_type ≡ shape.object_type) × (object.data_sectors ≡ shape.data_sectors) × (object.highest ≡ shape.highest) × EndsAt object

-- the shape is that of the dnode that was read
abbrev pub IsShapeFound : List VdevSpace → ObjectSet → ℕ → ℕ → Option ObjectShape → Type 0
IsShapeFound spaces set birth number found =
    (dnode : Dnode) × (block_birth : ℕ) × IsNodeFound spaces set birth number (found_dnode dnode block_birth) × (found ≡ shape_of_dnode dnode)
