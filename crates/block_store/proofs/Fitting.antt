-- A new block has a spelling.
use Rattle.std.proofs.Common.{ℕ, zero, suc, ◌≡◌, ◌+◌, ◌*◌, ◌/◌, ◌%◌, ◌^◌, ◌<◌, ◌≤◌, Some, List, [], ◌∷◌, length, All, Fits, w8, Result, Ok, Err, OnErr, refl, sym, ap, ◌∙◌, arith, mul-le-mul_right, mul-le-mul}
use Rattle.std.specs.List.{AllByRecursion, slice_get}
use Rattle.std.specs.Prelude.{slice_index_or}
use Rattle.std.proofs.lemmas.Nat.{div-add-mod'}
use Rattle.std.proofs.lemmas.Option.{slice_get_within}
use Rattle.std.proofs.Math.Nat.{div-mul-le_self}
use Rattle.block_pointer.specs.declared.copies.Copies.{Copies}
use Rattle.block_pointer.specs.declared.dva.Dva.{Dva}
use Rattle.block_pointer.specs.Copies.{dvas, FitsCopies}
use Rattle.block_pointer.specs.Dva.{FitsDva}
use Rattle.block_store.specs.declared.shape.VdevShape.{VdevShape}
use Rattle.block_store.specs.Spaces.{VdevSpace}
use Rattle.block_store.specs.Places.{IsLaidOut, IsPlaceIn, TookSome}
use Rattle.block_store.specs.Shapes.{vdev_sectors, metaslab_sectors, metaslabs}
use Rattle.block_store.specs.Store.{Store}
use Rattle.block_store.proofs.Adding.{OnlyTook}
use Rattle.block_store.proofs.Sizes.{asize_some, slab_bound}

all_by_recursion : {X : Type 0} (P : X → Type 0) (xs : List X) → ((i : ℕ) (x : X) → slice_get xs i ≡ Some x → P x) → AllByRecursion P xs
all_by_recursion P [] each = tt
all_by_recursion P (x ∷ xs) each = (each zero x refl, all_by_recursion P xs (λ i y at. each (suc i) y at))

-- a vdev has less than 2^39 sectors
few_sectors : (shape : VdevShape) → vdev_sectors shape ≤ 32 * 2 ^ 34
few_sectors shape =
    let few : shape.child_sectors ≤ 2 ^ 34 = omega (arith, shape.most_sectors) in
    mul-le-mul shape.vdev.geometry.most_children few

fits_dva : (spaces : List VdevSpace) (starts : List (List ℕ)) (sectors : ℕ) (place : Dva) → 0 < sectors → IsLaidOut starts spaces → IsPlaceIn spaces sectors place → FitsDva place
fits_dva spaces starts sectors place some laid is =
    let shape : VdevShape = is.space.shape in
    let size : ℕ = metaslab_sectors shape in
    let slab : size ≤ 2 ^ 20 = slab_bound shape.metaslab_shift shape.most_shift in
    let split : place.offset / size * size + place.offset % size ≡ place.offset = div-add-mod' place.offset size in
    let next : suc (place.offset / size) * size ≤ metaslabs shape * size = mul-le-mul_right size is.is_place.metaslab in
    let all : metaslabs shape * size ≤ vdev_sectors shape = div-mul-le_self (vdev_sectors shape) size in
    let few : vdev_sectors shape ≤ 32 * 2 ^ 34 = few_sectors shape in
    record {
      vdev = omega (arith, slice_get_within spaces place.vdev is.space is.found, laid.few);
      offset = omega (arith, split, next, all, few, is.is_place.one);
      used = omega (arith, is.is_place.allocated, asize_some shape.vdev.geometry sectors some);
      allocated = omega (arith, is.is_place.one, slab);
    }

pub fits_copies : (spaces : List VdevSpace) (starts : List (List ℕ)) (sectors : ℕ) (places : List Dva) (copies : Copies) → 0 < sectors → IsLaidOut starts spaces
    → ((i : ℕ) (place : Dva) → slice_get places i ≡ Some place → IsPlaceIn spaces sectors place) → dvas copies ≡ places → FitsCopies copies
fits_copies spaces starts sectors places copies some laid are_in same =
    all_by_recursion FitsDva (dvas copies) (λ i place at. fits_dva spaces starts sectors place some laid (are_in i place (ap (λ xs. slice_get xs i) (sym same) ∙ at)))

pub on_err : {T E : Type 0} (result : Result T E) (P : Type 0) → P → OnErr result P
on_err (Ok x) P is = tt
on_err (Err e) P is = is

-- some were taken
pub took_some : (old new : Store) (sectors copies : ℕ) → new.disks ≡ old.disks → new.out ≡ old.out → new.spans ≡ old.spans → new.due ≡ old.due
    → TookSome old.spaces sectors copies new.spaces → (places : List Dva) × OnlyTook old new sectors copies places
took_some old new sectors copies disks out spans due (places, few, chosen) =
    (places, record { disks = disks; out = out; spans = spans; due = due; chosen = chosen })

-- bytes are below 256
pub bytes_fit : (bytes : List ℕ) → ((i : ℕ) → Fits w8 (slice_index_or bytes i 0)) → All (λ byte. byte < 256) bytes
bytes_fit bytes fits k d within = omega (arith, fits k, any_default bytes k within)
  where
    any_default : (them : List ℕ) (i : ℕ) → i < length them → slice_index_or them i d ≡ slice_index_or them i 0
    any_default [] i within' = absurd (omega arith)
    any_default (x ∷ them) zero within' = refl
    any_default (x ∷ them) (suc i) within' = any_default them i (omega arith)
