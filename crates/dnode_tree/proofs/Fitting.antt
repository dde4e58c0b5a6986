-- Blocks that are planned have a spelling.
use Rattle.std.proofs.Common.{ℕ, ◌≡◌, ◌*◌, ◌/◌, ◌^◌, ◌<◌, ◌≤◌, List, [], ◌∷◌, ◌++◌, zero, suc, arith, lit<, ap, cond}
use Rattle.std.specs.List.{AllByRecursion}
use Rattle.std.proofs.lemmas.Bool.{ne_eqb}
use Rattle.std.proofs.Math.Nat.{mul-le-mul, pow-le-pow_right, div-lt_iff_lt-mul, div-mul-le_self, one-le-pow}
use Rattle.block_pointer.specs.declared.dva.Dva.{Dva}
use Rattle.block_pointer.specs.Dva.{FitsDva}
use Rattle.raidz_map.specs.Layout.{asize}
use Rattle.raidz_map.specs.declared.geometry.Geometry.{Geometry}
use Rattle.block_pointer.specs.Property.{FitsProperty}
use Rattle.dnode.specs.declared.node.ObjectNode.{ObjectNode}
use Rattle.dnode.specs.Node.{IsNode}
use Rattle.block_store.specs.declared.shape.VdevShape.{VdevShape}
use Rattle.block_store.specs.Spaces.{VdevSpace}
use Rattle.block_store.specs.Places.{AreChosen}
use Rattle.dnode_tree.specs.Tree.{property_of}
use Rattle.block_store.specs.Shapes.{vdev_sectors, metaslab_sectors, IsPlace}

asize_some : (g : Geometry) (s : ℕ) → 0 < s → 0 < asize g s
asize_some g s some = omega arith

vdev_bound : (children sectors : ℕ) → children ≤ 32 → sectors < 2 ^ 34 → children * sectors ≤ 32 * 2 ^ 34
vdev_bound children sectors few small = let below : sectors ≤ 2 ^ 34 = omega arith in mul-le-mul few below

before_end : (offset size all : ℕ) → 0 < size → offset / size < all / size → offset < all
before_end offset size all some low =
    let room : offset < all / size * size = (div-lt_iff_lt-mul some).0 low in omega (arith, room, div-mul-le_self all size)

pow-pos : (shift : ℕ) → 0 < 2 ^ shift
pow-pos shift = one-le-pow shift 2 (lit< tt)

place_fits : (shape : VdevShape) (sectors : ℕ) (place : Dva) → 0 < sectors → place.vdev < 2 ^ 32 → IsPlace shape sectors place → FitsDva place
place_fits shape sectors place some short is =
    let few : metaslab_sectors shape ≤ 2 ^ 20 = pow-le-pow_right (omega arith) shape.most_shift in
    let end : vdev_sectors shape ≤ 32 * 2 ^ 34 = vdev_bound _ _ shape.vdev.geometry.most_children shape.most_sectors in
    let within : place.offset < vdev_sectors shape = before_end place.offset (metaslab_sectors shape) (vdev_sectors shape) (pow-pos shape.metaslab_shift) is.metaslab in
    record {
      vdev = short;
      offset = omega (arith, within, end);
      used = omega (arith, is.allocated, asize_some shape.vdev.geometry sectors some);
      allocated = omega (arith, is.one, few);
    }

pub chosen_fit : (spaces : List VdevSpace) (taken : List Dva) (sectors copies : ℕ) (places : List Dva) (after : List VdevSpace) → 0 < sectors
    → AllByRecursion (λ place. place.vdev < 2 ^ 32) places → AreChosen spaces taken sectors copies places after → AllByRecursion FitsDva places
chosen_fit spaces taken sectors copies [] after some short chosen = tt
chosen_fit spaces taken sectors copies (place ∷ places) after some short chosen = (
  place_fits chosen.0.space.shape sectors place some short.0 chosen.0.free.is_place,
  chosen_fit chosen.1 (taken ++ place ∷ []) sectors copies places after some short.1 chosen.3,
)

-- indirect blocks have 32 sectors
pub indirect_sectors : (node : ObjectNode) (level : ℕ) → (property_of node (suc level)).sectors ≡ 32
indirect_sectors node level = ap (λ is_data. cond is_data node.data_sectors 32) (ne_eqb (suc level) 0 (λ same. absurd (omega (arith, same))))

pub property_fits : (node : ObjectNode) (level : ℕ) → IsNode node → level < 6 → FitsProperty (property_of node level)
property_fits node zero is low =
    record { level = omega arith; object_type = is.object_type; not_empty = is.not_empty; sectors = omega (arith, is.sectors) }
property_fits node (suc level) is low =
    let sectors = indirect_sectors node level in
    record { level = omega arith; object_type = is.object_type; not_empty = omega (arith, sectors); sectors = omega (arith, sectors) }
