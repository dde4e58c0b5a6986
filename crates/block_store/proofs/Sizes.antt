-- Sizes of metaslabs and of what lies in them.
use Rattle.std.proofs.Common.{ℕ, ◌≡◌, ◌+◌, ◌*◌, ◌/◌, ◌%◌, ◌^◌, ◌<◌, ◌≤◌, ap, ◌∙◌, arith}
use Rattle.std.proofs.Math.Nat.{pow-le-pow_right}
use Rattle.std.proofs.lemmas.Nat.{div-mul-add, mod-mul-add}
use Rattle.block_pointer.specs.declared.dva.Dva.{Dva}
use Rattle.raidz_map.specs.declared.geometry.Geometry.{Geometry}
use Rattle.raidz_map.specs.Layout.{asize}
use Rattle.block_store.specs.declared.shape.VdevShape.{VdevShape}
use Rattle.block_store.specs.Shapes.{metaslab_sectors, metaslabs, metaslab_of, sector_of, IsPlace}

-- a metaslab has at most 2^20 sectors
pub slab_bound : (shift : ℕ) → shift ≤ 20 → 2 ^ shift ≤ 2 ^ 20
slab_bound shift few = pow-le-pow_right (omega arith) few

-- a block takes up some sectors
pub asize_some : (g : Geometry) (s : ℕ) → 0 < s → 0 < asize g s
asize_some g s some = omega arith

-- a place in a metaslab that starts at one of its sectors
pub is_place_at : (shape : VdevShape) (sectors metaslab start : ℕ) (place : Dva) → 0 < sectors → metaslab < metaslabs shape
    → start + asize shape.vdev.geometry sectors ≤ metaslab_sectors shape → place.offset ≡ metaslab * metaslab_sectors shape + start
    → place.allocated ≡ asize shape.vdev.geometry sectors
    → IsPlace shape sectors place × (metaslab_of shape place ≡ metaslab) × (sector_of shape place ≡ start)
is_place_at shape sectors metaslab start place some there room offset allocated =
    let size : ℕ = metaslab_sectors shape in
    let within : start < size = omega (arith, asize_some shape.vdev.geometry sectors some, room) in
    let which : metaslab_of shape place ≡ metaslab = ap (λ n. n / size) offset ∙ div-mul-add metaslab size start within in
    let where_in : sector_of shape place ≡ start = ap (λ n. n % size) offset ∙ mod-mul-add metaslab size start within in
    (record { allocated = allocated; metaslab = rw which there; one = omega (arith, where_in, allocated, room) }, which, where_in)
