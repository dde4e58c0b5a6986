-- An extent is told by its vdev, its start and its size.
use Rattle.std.proofs.Common.{ℕ, ◌≡◌, ◌<◌, List, sym, ap, subst, ◌∙◌}
use Rattle.std.proofs.Math.Bridge.{le_prop}
use Rattle.block_pointer.specs.declared.dva.Dva.{Dva}
use Rattle.raidz_io.specs.declared.vdev.Vdev.{Vdev}
use Rattle.raidz_io.specs.declared.vdev.Extent.{Extent}
use Rattle.raidz_io.proofs.Written.{same_some}
use Rattle.block_store.specs.Spaces.{VdevSpace}
use Rattle.block_store.specs.Places.{IsExtentAt}

of_parts : Vdev → ℕ → (sectors : ℕ) → 0 < sectors → Extent
of_parts vdev start sectors some = record { vdev = vdev; start = start; sectors = sectors; some = some }

pub same_extent : (extent other : Extent) → extent.vdev ≡ other.vdev → extent.start ≡ other.start → extent.sectors ≡ other.sectors → extent ≡ other
unfolding of_parts
same_extent extent other vdev start sectors =
    let P : ℕ → Type 0 = λ n. (some : 0 < n) → extent ≡ of_parts extent.vdev extent.start n some in
    let Q : ℕ → Type 0 = λ n. extent ≡ of_parts extent.vdev n other.sectors other.some in
    let R : Vdev → Type 0 = λ v. extent ≡ of_parts v other.start other.sectors other.some in
    let at : extent ≡ of_parts extent.vdev extent.start other.sectors other.some =
    subst P sectors (λ some. ap (of_parts extent.vdev extent.start extent.sectors) (le_prop extent.some some)) other.some in
    subst R vdev (subst Q start at)

-- a place has one extent
pub one_extent : (spaces : List VdevSpace) (sectors : ℕ) (place : Dva) (extent other : Extent) → IsExtentAt spaces sectors place extent
    → IsExtentAt spaces sectors place other → extent ≡ other
one_extent spaces sectors place extent other at at' =
    let same : at.space ≡ at'.space = same_some at.space at'.space (sym at.found ∙ at'.found) in
    same_extent extent other (at.vdev ∙ ap (λ (s : VdevSpace). s.shape.vdev) same ∙ sym at'.vdev) (at.start ∙ sym at'.start) (at.sectors_are ∙ sym at'.sectors_are)
