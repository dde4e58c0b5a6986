-- The bytes of an extent lie in the sectors that are for blocks.
use Rattle.std.proofs.Common.{ℕ, ◌≡◌, ◌+◌, ◌-◌, ◌*◌, ◌/◌, ◌%◌, ◌<◌, ◌≤◌, sym, ap, subst, refl, ◌∙◌, arith}
use Rattle.std.proofs.Math.Nat.{div-lt_iff_lt-mul}
use Rattle.std.proofs.lemmas.Nat.{mod_below}
use Rattle.raidz_map.specs.Layout.{Place, asize}
use Rattle.raidz_io.specs.declared.vdev.Extent.{Extent}
use Rattle.raidz_io.specs.declared.vdev.Vdev.{Vdev}
use Rattle.raidz_io.specs.Elsewhere.{IsOfExtent}
use Rattle.raidz_io.specs.Places.{offset_of_sector}
use Rattle.raidz_io.proofs.Written.{same_some}
use Rattle.block_store.specs.Spaces.{VdevSpace}
use Rattle.block_store.specs.Elsewhere.{BlocksLieInSectors}
use Rattle.block_store.specs.Shapes.{vdev_sectors, metaslab_sectors, IsPlace}
use Rattle.block_store.proofs.Taking.{ends_before}

-- byte i of the disk is in the first sectors of a vdev's disks
pub record IsInVdev (vdev : Vdev) (sectors disk i : ℕ) : Type 0 where
  pub first : vdev.first ≤ disk
  pub last : disk < vdev.first + vdev.geometry.children
  pub from : offset_of_sector 0 ≤ i
  pub before : i < offset_of_sector sectors

-- a byte of a column is in a sector of it
some_sector : (n i start : ℕ) → start ≤ i → i < start + n * 512 → 0 < n
some_sector n i start from before = omega arith

in_vdev : (extent : Extent) (sectors disk i : ℕ) → extent.start + asize extent.vdev.geometry extent.sectors ≤ extent.vdev.geometry.children * sectors
    → IsOfExtent extent disk i → IsInVdev extent.vdev sectors disk i
in_vdev extent sectors disk i within of =
    let c : ℕ = extent.vdev.geometry.children in
    let some : 0 < c = omega (arith, extent.vdev.geometry.has_data) in
    let filled : 0 < of.column.sectors = some_sector of.column.sectors i (of.column.sector * 512 + 0x400000) of.from_first of.before_end in
    let end : Place = record { child = of.column.child; sector = of.column.sector + of.column.sectors - 1 } in
    let held = (of.is_column end).0 (record { same_child = refl; from_first = omega arith; before_end = omega arith }) in
    let t : ℕ = held.0 in
    let child : t % c ≡ of.column.child = ap (λ (place : Place). place.child) held.2 in
    let sector : t / c ≡ of.column.sector + of.column.sectors - 1 = ap (λ (place : Place). place.sector) held.2 in
    let last : t < sectors * c = omega (arith, within, held.1.before_end) in
    let row : t / c < sectors = (div-lt_iff_lt-mul some).1 last in
    record {
      first = omega (arith, of.which);
      last = omega (arith, of.which, child, mod_below t c some);
      from = omega (arith, of.from_first);
      before = omega (arith, of.before_end, sector, row, filled);
    }

pub lie_in_sectors : BlocksLieInSectors
lie_in_sectors spaces sectors place extent disk i is_in at of =
    let same : is_in.space ≡ at.space = same_some is_in.space at.space (sym is_in.found ∙ at.found) in
    let lies : IsPlace at.space.shape sectors place = subst (λ (s : VdevSpace). IsPlace s.shape sectors place) same is_in.is_place in
    let within : place.offset + place.allocated ≤ vdev_sectors at.space.shape =
    ends_before place.offset (vdev_sectors at.space.shape) place.allocated (metaslab_sectors at.space.shape) lies.metaslab lies.one in
    let fits : extent.start + asize extent.vdev.geometry extent.sectors ≤ extent.vdev.geometry.children * at.space.shape.child_sectors =
    rw (at.vdev, at.start, at.sectors_are) (omega (arith, within, lies.allocated)) in
    let there : IsInVdev at.space.shape.vdev at.space.shape.child_sectors disk i =
    subst (λ (vdev : Vdev). IsInVdev vdev at.space.shape.child_sectors disk i) at.vdev (in_vdev extent at.space.shape.child_sectors disk i fits of) in
    record {
      v = place.vdev;
      space = at.space;
      found = at.found;
      first = there.first;
      last = there.last;
      from = there.from;
      before = there.before;
    }
