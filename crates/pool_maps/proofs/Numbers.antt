-- How many numbers of objects the maps take.
use Rattle.std.proofs.Common.{◌≡◌, ℕ, zero, suc, ◌+◌, ◌<◌, ◌≤◌, List, [], ◌∷◌, length, Option, Some, None, refl, sym, ap, ◌∙◌, arith}
use Rattle.std.specs.List.{slice_get}
use Rattle.std.specs.Option.{option_map}
use Rattle.std.proofs.lemmas.Option.{same_Some}
use Rattle.block_store.specs.Shapes.{first_meta}
use Rattle.block_store.specs.Spaces.{VdevSpace}
use Rattle.block_store.specs.declared.shape.VdevShape.{VdevShape}
use Rattle.pool_maps.specs.Numbers.{LacksNumbers, map_places}
use Rattle.pool_maps.specs.Plans.{numbers_end}

-- how many metaslabs of the first vdevs may have a map
abbrev pub places_before : List VdevSpace → ℕ → ℕ
places_before [] vdev = 0
places_before (space ∷ spaces) zero = 0
places_before (space ∷ spaces) (suc vdev) = first_meta space.shape + places_before spaces vdev

pub none_before : (spaces : List VdevSpace) → places_before spaces 0 ≡ 0
none_before [] = refl
none_before (space ∷ spaces) = refl

pub vdev_there : (spaces : List VdevSpace) (vdev : ℕ) → vdev < length spaces → (space : VdevSpace) × (slice_get spaces vdev ≡ Some space)
vdev_there [] vdev low = absurd (omega (arith, low))
vdev_there (space ∷ spaces) zero low = (space, refl)
vdev_there (space ∷ spaces) (suc vdev) low = vdev_there spaces vdev (omega (arith, low))

pub before_next : (spaces : List VdevSpace) (vdev : ℕ) (space : VdevSpace) → slice_get spaces vdev ≡ Some space → places_before spaces (suc vdev) ≡ places_before spaces vdev + first_meta space.shape
before_next [] vdev space there = let clash : None ≡ Some space = there in absurd cc
before_next (first ∷ spaces) zero space there =
    let same = ap (λ (s : VdevSpace). first_meta s.shape) (same_Some first space there) in
    omega (arith, same, none_before spaces)
before_next (first ∷ spaces) (suc vdev) space there = omega (arith, before_next spaces vdev space there)

pub before_all : (spaces : List VdevSpace) (vdev : ℕ) → places_before spaces vdev ≤ map_places spaces
before_all [] vdev = omega arith
before_all (space ∷ spaces) zero = omega arith
before_all (space ∷ spaces) (suc vdev) = omega (arith, before_all spaces vdev)

-- where a vdev lacks numbers, all vdevs do
pub lacks_numbers : (spaces : List VdevSpace) (vdev : ℕ) (space : VdevSpace) (next now : ℕ) → slice_get spaces vdev ≡ Some space → now ≤ next + places_before spaces vdev
    → numbers_end < now + first_meta space.shape → LacksNumbers spaces next
lacks_numbers spaces vdev space next now there so_far few = omega (arith, before_next spaces vdev space there, before_all spaces (suc vdev), so_far, few)

-- the metaslabs of a vdev that may have a map
pub places_of : (spaces : List VdevSpace) (vdev : ℕ) (shape : VdevShape) (space : VdevSpace) → option_map (λ (s : VdevSpace). s.shape) (slice_get spaces vdev) ≡ Some shape
    → slice_get spaces vdev ≡ Some space → first_meta space.shape ≡ first_meta shape
places_of spaces vdev shape space is found = ap first_meta (same_Some space.shape shape (sym (ap (option_map (λ (s : VdevSpace). s.shape)) found) ∙ is))

-- the numbers that one more vdev takes
pub one_more_vdev : (spaces : List VdevSpace) (vdev : ℕ) (space : VdevSpace) (next now new : ℕ) → slice_get spaces vdev ≡ Some space → now ≤ next + places_before spaces vdev
    → new ≤ now + first_meta space.shape → new ≤ next + places_before spaces (vdev + 1)
one_more_vdev spaces vdev space next now new there so_far more =
    let at : places_before spaces (vdev + 1) ≡ places_before spaces (suc vdev) = (let same : vdev + 1 ≡ suc vdev = omega arith in ap (places_before spaces) same) in
    omega (arith, before_next spaces vdev space there, at, so_far, more)
