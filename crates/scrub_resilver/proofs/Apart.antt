-- Blocks that lie apart share no byte.
use Rattle.std.proofs.Common.{ℕ, zero, suc, ◌≡◌, ◌≢◌, ◌⊎◌, inl, inr, ◌<◌, ◌≤◌, ◌+◌, Some, List, [], ◌∷◌, Contains, refl, sym, ap, subst, ◌∙◌, arith}
use Rattle.std.specs.List.{slice_get}
use Rattle.std.specs.Prelude.{slice_index_or}
use Rattle.std.proofs.lemmas.Bool.{cases_lt}
use Rattle.std.proofs.lemmas.Option.{slice_get_within}
use Rattle.block_pointer.specs.declared.dva.Dva.{Dva}
use Rattle.block_pointer.specs.Copies.{dvas}
use Rattle.block_store.specs.Opened.{LieOn}
use Rattle.block_store.specs.Places.{ArePlacesApart}
use Rattle.block_store.specs.declared.shape.VdevShape.{VdevShape}
use Rattle.raidz_io.specs.Elsewhere.{ApartExtentsShareNoByte, OtherVdevsShareNoByte, ShareNoByte}
use Rattle.raidz_io.specs.declared.vdev.Extent.{Extent}
use Rattle.raidz_io.specs.declared.vdev.Vdev.{Vdev}
use Rattle.raidz_map.specs.Extent.{AreApart}
use Rattle.raidz_map.specs.Layout.{asize}
use Rattle.scrub_resilver.specs.Copies.{IsExtentOn}
use Rattle.scrub_resilver.specs.Laws.{ApartBlocksShareNoByte}
use Rattle.scrub_resilver.proofs.Stood.{same_some}

-- ---- vdevs

from_first : (starts : List (List ℕ)) (first : ℕ) (shapes : List VdevShape) (v : ℕ) (shape : VdevShape) → LieOn starts first shapes → slice_get shapes v ≡ Some shape
    → first ≤ shape.vdev.first
from_first starts first [] v shape lie at = absurd (cc)
from_first starts first (s ∷ shapes) zero shape (is, fits, rest) at =
    omega (arith, is, ap (λ (x : VdevShape). x.vdev.first) (same_some s shape at))
from_first starts first (s ∷ shapes) (suc v) shape (is, fits, rest) at =
    let behind = from_first starts (first + s.vdev.geometry.children) shapes v shape rest at in
    omega (arith, behind)

-- an earlier vdev ends before a later one begins
earlier_ends : (starts : List (List ℕ)) (first : ℕ) (shapes : List VdevShape) (v w : ℕ) (shape later : VdevShape) → LieOn starts first shapes → v < w
    → slice_get shapes v ≡ Some shape → slice_get shapes w ≡ Some later → shape.vdev.first + shape.vdev.geometry.children ≤ later.vdev.first
earlier_ends starts first [] v w shape later lie before at at' = absurd (cc)
earlier_ends starts first (s ∷ shapes) v zero shape later lie before at at' = absurd (omega (arith, before))
earlier_ends starts first (s ∷ shapes) zero (suc w) shape later (is, fits, rest) before at at' =
    let behind = from_first starts (first + s.vdev.geometry.children) shapes w later rest at' in
    let same : s ≡ shape = same_some s shape at in
    omega (arith, behind, is, ap (λ (x : VdevShape). x.vdev.first) same, ap (λ (x : VdevShape). x.vdev.geometry.children) same)
earlier_ends starts first (s ∷ shapes) (suc v) (suc w) shape later (is, fits, rest) before at at' =
    earlier_ends starts (first + s.vdev.geometry.children) shapes v w shape later rest (omega (arith, before)) at at'

-- ---- extents

share_no_byte : ApartExtentsShareNoByte → OtherVdevsShareNoByte → (starts : List (List ℕ)) (shapes : List VdevShape) (n m : ℕ) (place behind : Dva) (extent other : Extent)
    → LieOn starts 0 shapes → (at : IsExtentOn shapes n place extent) → (at' : IsExtentOn shapes m behind other)
    → place.allocated ≡ asize at.shape.vdev.geometry n → behind.allocated ≡ asize at'.shape.vdev.geometry m → ArePlacesApart place behind → ShareNoByte extent other
share_no_byte law law' starts shapes n m place behind extent other lie at at' size size' they =
    elim (cases_lt place.vdev behind.vdev) [
      | inl less ↦
          law' extent other (rw (at.vdev, at'.vdev) (inl (earlier_ends starts 0 shapes place.vdev behind.vdev at.shape at'.shape lie less at.found at'.found)))
      | inr not_less ↦ elim (cases_lt behind.vdev place.vdev) [
        | inl less ↦
            law' extent other (rw (at.vdev, at'.vdev) (inr (earlier_ends starts 0 shapes behind.vdev place.vdev at'.shape at.shape lie less at'.found at.found)))
        | inr neither ↦
            let same_number : place.vdev ≡ behind.vdev = omega (arith, not_less, neither) in
            let same_shape : at.shape ≡ at'.shape = same_some at.shape at'.shape (sym at.found ∙ ap (λ v. slice_get shapes v) same_number ∙ at'.found) in
            let same : extent.vdev ≡ other.vdev = at.vdev ∙ ap (λ (s : VdevShape). s.vdev) same_shape ∙ sym at'.vdev in
            let one : place.allocated ≡ asize extent.vdev.geometry extent.sectors =
            size ∙ ap (λ (v : Vdev). asize v.geometry n) (sym at.vdev) ∙ ap (λ k. asize extent.vdev.geometry k) (sym at.sectors_are) in
            let two : behind.allocated ≡ asize extent.vdev.geometry other.sectors =
            size' ∙ ap (λ (v : Vdev). asize v.geometry m) (sym at'.vdev ∙ sym same) ∙ ap (λ k. asize extent.vdev.geometry k) (sym at'.sectors_are) in
            let apart : AreApart extent.vdev.geometry extent.start extent.sectors other.start other.sectors = elim they [
              | inl differ ↦ absurd (differ same_number)
              | inr (inl before) ↦ inl (omega (arith, before, at.start, at'.start, one))
              | inr (inr after) ↦ inr (omega (arith, after, at.start, at'.start, two))
            ] in
            law extent other same apart
      ]
    ]

element_at : (places : List Dva) (i : ℕ) (place : Dva) → slice_get places i ≡ Some place → slice_index_or places i place ≡ place
element_at [] i place at = absurd (cc)
element_at (first ∷ places) zero place at = same_some first place at
element_at (first ∷ places) (suc i) place at = element_at places i place at

contained_at : (places : List Dva) (i : ℕ) (place : Dva) → slice_get places i ≡ Some place → Contains places place
contained_at places i place at = (i, slice_get_within places i place at, element_at places i place at)

pub apart_share_no_byte : ApartExtentsShareNoByte → OtherVdevsShareNoByte → ApartBlocksShareNoByte
apart_share_no_byte law law' starts shapes blocks lie apart sized block other i k extent behind held held' copy copy' =
    elim (apart block other i k copy.place copy'.place held held' copy.is_copy copy'.is_copy) [
      | inl same ↦ inl same
      | inr they ↦
          let at = copy.extent_is in
          let at' = copy'.extent_is in
          inr (share_no_byte law law' starts shapes block.property.sectors other.property.sectors copy.place copy'.place extent behind lie at at'
          (sized block copy.place at.shape held (contained_at (dvas block.copies) i copy.place copy.is_copy) at.found)
          (sized other copy'.place at'.shape held' (contained_at (dvas other.copies) k copy'.place copy'.is_copy) at'.found) they)
    ]
