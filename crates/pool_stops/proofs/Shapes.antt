-- Vdevs that take the same disks by one configuration have one shape.
use Rattle.std.proofs.Common.{ℕ, ◌≡◌, ◌+◌, ◌<◌, ◌≤◌, List, [], ◌∷◌, length, refl, sym, ◌∙◌}
use Rattle.std.specs.Prelude.{◌^◌}
use Rattle.std.proofs.Math.Bridge.{le_prop}
use Rattle.std.proofs.Math.Nat.{ℕ_set}
use mathlib.Core.HLevel.{is_prop→PathP}
use Rattle.raidz_map.specs.declared.geometry.Geometry.{Geometry}
use Rattle.block_store.specs.declared.shape.VdevShape.{VdevShape}
use Rattle.pool_create.specs.Shapes.{AreShapesOf, IsShapeOf}
use Rattle.vdev_label.specs.Plain.{PlainVdev}

same_geometry : (a b : Geometry) → a.children ≡ b.children → a.parity ≡ b.parity → a.sector_shift ≡ b.sector_shift → a ≡ b
same_geometry a b children parity shift = λ i. record {
  children = children i;
  parity = parity i;
  sector_shift = shift i;
  has_parity = is_prop→PathP (λ j. 1 ≤ parity j) (λ j. le_prop) a.has_parity b.has_parity i;
  most_parity = is_prop→PathP (λ j. parity j ≤ 2) (λ j. le_prop) a.most_parity b.most_parity i;
  has_data = is_prop→PathP (λ j. parity j < children j) (λ j. le_prop) a.has_data b.has_data i;
  most_children = is_prop→PathP (λ j. children j ≤ 32) (λ j. le_prop) a.most_children b.most_children i;
  sector_size = is_prop→PathP (λ j. shift j ≡ 9) (λ j. ℕ_set (shift j) 9) a.sector_size b.sector_size i;
}

same_shape : (v : PlainVdev) (first : ℕ) (a b : VdevShape) → IsShapeOf v first a → IsShapeOf v first b → a ≡ b
same_shape v first a b one other =
    let geometry = same_geometry a.vdev.geometry b.vdev.geometry (one.children ∙ sym other.children) (one.parity ∙ sym other.parity)
    (a.vdev.geometry.sector_size ∙ sym b.vdev.geometry.sector_size) in
    let disk : a.vdev.first ≡ b.vdev.first = one.first_is ∙ sym other.first_is in
    let sectors : a.child_sectors ≡ b.child_sectors = one.sectors ∙ sym other.sectors in
    let meta : a.meta_slabs ≡ b.meta_slabs = one.meta ∙ sym other.meta in
    let shift : a.metaslab_shift ≡ b.metaslab_shift = one.shift ∙ sym other.shift in
    λ i. record {
      vdev = record { geometry = geometry i; first = disk i };
      child_sectors = sectors i;
      metaslab_shift = shift i;
      meta_slabs = meta i;
      most_sectors = is_prop→PathP (λ j. sectors j < 2 ^ 34) (λ j. le_prop) a.most_sectors b.most_sectors i;
      least_shift = is_prop→PathP (λ j. 12 ≤ shift j) (λ j. le_prop) a.least_shift b.least_shift i;
      most_shift = is_prop→PathP (λ j. shift j ≤ 20) (λ j. le_prop) a.most_shift b.most_shift i;
      most_meta = is_prop→PathP (λ j. meta j < 2 ^ 64) (λ j. le_prop) a.most_meta b.most_meta i;
    }

pub same_shapes : (vdevs : List PlainVdev) (first : ℕ) (shapes others : List VdevShape) → AreShapesOf vdevs first shapes → AreShapesOf vdevs first others → shapes ≡ others
same_shapes [] first [] [] are also = refl
same_shapes [] first [] (other ∷ others) are also = absurd also
same_shapes [] first (shape ∷ shapes) others are also = absurd are
same_shapes (v ∷ vdevs) first [] others are also = absurd are
same_shapes (v ∷ vdevs) first (shape ∷ shapes) [] are also = absurd also
same_shapes (v ∷ vdevs) first (shape ∷ shapes) (other ∷ others) are also =
    let head = same_shape v first shape other are.0 also.0 in
    let tail = same_shapes vdevs (first + length v.children) shapes others are.1 also.1 in
    λ i. head i ∷ tail i
