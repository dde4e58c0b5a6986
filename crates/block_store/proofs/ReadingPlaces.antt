-- The extents of copies are on the disks.
use Rattle.std.proofs.Common.{ℕ, ◌≡◌, ◌+◌, ◌<◌, ◌≤◌, Some, None, List, length, refl, sym, ap, subst, ◌∙◌, get_or, arith}
use Rattle.std.proofs.lemmas.Option.{get_or_from_slice_get, slice_get_read, slice_get_past}
use Rattle.std.specs.List.{slice_get}
use Rattle.block_pointer.specs.declared.dva.Dva.{Dva}
use Rattle.raidz_io.specs.declared.vdev.Extent.{Extent}
use Rattle.raidz_io.specs.Places.{HasRoom, CanHold, IsOnDisks, ExtentFits}
use Rattle.raidz_io.proofs.Written.{same_some}
use Rattle.block_store.specs.Spaces.{VdevSpace}
use Rattle.block_store.specs.Places.{IsPlaceIn, IsPlaceFor, IsExtentAt}
use Rattle.block_store.specs.Shapes.{vdev_sectors, metaslab_sectors, metaslab_of, IsPlace, IsInRegion}
use Rattle.block_store.specs.Store.{Store, IsStore}
use Rattle.block_store.proofs.Taking.{ends_before}

pub place_fits : ExtentFits → (store : Store) (sectors : ℕ) (place : Dva) (extent : Extent) → IsStore store → IsPlaceIn store.spaces sectors place
    → IsExtentAt store.spaces sectors place extent → CanHold extent × IsOnDisks extent store.disks.starts
place_fits law store sectors place extent is is_in at =
    let same : is_in.space ≡ at.space = same_some is_in.space at.space (sym is_in.found ∙ at.found) in
    let lies : IsPlace at.space.shape sectors place = subst (λ (s : VdevSpace). IsPlace s.shape sectors place) same is_in.is_place in
    let room : HasRoom at.space.shape.vdev at.space.shape.child_sectors store.disks.starts = is.laid_out.room place.vdev at.space at.found in
    let within : place.offset + place.allocated ≤ vdev_sectors at.space.shape =
    ends_before place.offset (vdev_sectors at.space.shape) place.allocated (metaslab_sectors at.space.shape) lies.metaslab lies.one in
    law extent at.space.shape.child_sectors store.disks.starts (rw at.vdev room)
    (rw (at.vdev, at.start, at.sectors_are) (omega (arith, within, lies.allocated)))

-- the extent of a place, by what was found in the vdevs
pub extent_found : (store : Store) (spaces : List VdevSpace) (sectors : ℕ) (place : Dva) (extent : Extent) (space : VdevSpace) → spaces ≡ store.spaces
    → space ≡ get_or spaces place.vdev space → IsPlaceIn store.spaces sectors place → extent.vdev ≡ space.shape.vdev → extent.start ≡ place.offset
    → extent.sectors ≡ sectors → IsExtentAt store.spaces sectors place extent
extent_found store spaces sectors place extent space view is is_in vdev start sectors_are =
    let same : space ≡ is_in.space = is ∙ get_or_from_slice_get spaces place.vdev is_in.space space (rw view is_in.found) in
    record {
      space = is_in.space;
      found = is_in.found;
      vdev = vdev ∙ ap (λ (s : VdevSpace). s.shape.vdev) same;
      start = start;
      sectors_are = sectors_are;
    }

-- whether a place is in the vdevs, by the one that was found
pub in_place : (spaces : List VdevSpace) (sectors : ℕ) (place : Dva) (space : VdevSpace) → place.vdev < length spaces → space ≡ get_or spaces place.vdev space
    → (IsPlace space.shape sectors place → IsPlaceIn spaces sectors place) × (IsPlaceIn spaces sectors place → IsPlace space.shape sectors place)
in_place spaces sectors place space below is =
    let found : slice_get spaces place.vdev ≡ Some space = slice_get_read spaces (length spaces) place.vdev space refl below is in (
      λ lies. record { space = space; found = found; is_place = lies },
      λ is_in.
          let same : is_in.space ≡ space = same_some is_in.space space (sym is_in.found ∙ found) in
          subst (λ (s : VdevSpace). IsPlace s.shape sectors place) same is_in.is_place,
    )

pub in_none : (spaces : List VdevSpace) (sectors : ℕ) (place : Dva) → length spaces ≤ place.vdev → ¬ IsPlaceIn spaces sectors place
in_none spaces sectors place past is_in =
    absurd (let no : Some is_in.space ≡ None = sym is_in.found ∙ slice_get_past spaces place.vdev past in cc)

-- and whether it is also in the region for blocks of so many copies
pub in_place_for : (spaces : List VdevSpace) (sectors copies : ℕ) (place : Dva) (space : VdevSpace) → place.vdev < length spaces → space ≡ get_or spaces place.vdev space
    → (IsPlace space.shape sectors place × IsInRegion space.shape copies (metaslab_of space.shape place) → IsPlaceFor spaces sectors copies place)
    × (IsPlaceFor spaces sectors copies place → IsPlace space.shape sectors place × IsInRegion space.shape copies (metaslab_of space.shape place))
in_place_for spaces sectors copies place space below is =
    let found : slice_get spaces place.vdev ≡ Some space = slice_get_read spaces (length spaces) place.vdev space refl below is in (
      λ both. record { is_in = record { space = space; found = found; is_place = both.0 }; region = both.1 },
      λ is_for.
          let same : is_for.is_in.space ≡ space = same_some is_for.is_in.space space (sym is_for.is_in.found ∙ found) in (
            subst (λ (s : VdevSpace). IsPlace s.shape sectors place) same is_for.is_in.is_place,
            subst (λ (s : VdevSpace). IsInRegion s.shape copies (metaslab_of s.shape place)) same is_for.region,
          ),
    )
