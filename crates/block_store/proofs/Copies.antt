-- Copies that lie apart.
use Rattle.std.proofs.Common.{ℕ, ◌≡◌, ◌≢◌, ◌⊎◌, inl, inr, ◌+◌, ◌≤◌, Some, List, sym, ap, ◌∙◌, arith}
use Rattle.std.proofs.lemmas.Bool.{cases_lt}
use Rattle.std.specs.List.{slice_get}
use Rattle.block_pointer.specs.declared.block.Block.{Block}
use Rattle.block_pointer.specs.declared.dva.Dva.{Dva}
use Rattle.raidz_map.specs.Layout.{asize}
use Rattle.raidz_map.specs.Extent.{AreApart}
use Rattle.raidz_io.specs.declared.vdev.Vdev.{Vdev}
use Rattle.raidz_io.specs.declared.vdev.Extent.{Extent}
use Rattle.raidz_io.specs.Elsewhere.{ApartExtentsShareNoByte, OtherVdevsShareNoByte, ShareNoByte}
use Rattle.raidz_io.proofs.Written.{same_some}
use Rattle.block_store.specs.Spaces.{VdevSpace}
use Rattle.block_store.specs.Blocks.{Contents}
use Rattle.block_store.specs.Places.{Marks, IsLaidOut, IsTaken, IsCopy, IsExtentAt, ArePlacesApart}
use Rattle.block_store.specs.Store.{ArePlaced}

-- two vdevs of the store have no disk in common
pub apart_vdevs : (starts : List (List ℕ)) (spaces : List VdevSpace) (v other : ℕ) (space behind : VdevSpace) → IsLaidOut starts spaces → v ≢ other
    → slice_get spaces v ≡ Some space → slice_get spaces other ≡ Some behind
    → (space.shape.vdev.first + space.shape.vdev.geometry.children ≤ behind.shape.vdev.first)
    ⊎ (behind.shape.vdev.first + behind.shape.vdev.geometry.children ≤ space.shape.vdev.first)
apart_vdevs starts spaces v other space behind laid differ found found' =
    elim (cases_lt v other) [
      | inl less ↦ inl (laid.apart v other space behind less found found')
      | inr not_less ↦ inr (laid.apart other v behind space (omega (arith, not_less, differ)) found' found)
    ]

-- where the place of an extent is taken, its vdev is that of the place
pub record LiesAt (spaces : List VdevSpace) (place : Dva) (extent : Extent) : Type 0 where
  pub space : VdevSpace
  pub found : slice_get spaces place.vdev ≡ Some space
  pub vdev : extent.vdev ≡ space.shape.vdev
  pub start : extent.start ≡ place.offset
  pub allocated : place.allocated ≡ asize extent.vdev.geometry extent.sectors

pub lies_at : (spaces : List VdevSpace) (marks : Marks) (sectors : ℕ) (place : Dva) (extent : Extent) → IsTaken spaces marks sectors place
    → IsExtentAt spaces sectors place extent → LiesAt spaces place extent
lies_at spaces marks sectors place extent taken at =
    let same : taken.space ≡ at.space = same_some taken.space at.space (sym taken.found ∙ at.found) in
    let vdev : taken.space.shape.vdev ≡ extent.vdev = ap (λ (s : VdevSpace). s.shape.vdev) same ∙ sym at.vdev in
    record {
      space = at.space;
      found = at.found;
      vdev = at.vdev;
      start = at.start;
      allocated = taken.is_place.allocated ∙ ap (λ (v : Vdev). asize v.geometry sectors) vdev ∙ ap (λ n. asize extent.vdev.geometry n) (sym at.sectors_are);
    }

-- extents at places that are apart share no byte
pub share_no_byte : ApartExtentsShareNoByte → OtherVdevsShareNoByte → (starts : List (List ℕ)) (spaces : List VdevSpace) (place behind : Dva) (extent other : Extent)
    → IsLaidOut starts spaces → LiesAt spaces place extent → LiesAt spaces behind other → ArePlacesApart place behind → ShareNoByte extent other
share_no_byte law law' starts spaces place behind extent other laid at at' apart =
    let in_others : place.vdev ≢ behind.vdev → ShareNoByte extent other = λ differ.
    let vdevs = apart_vdevs starts spaces place.vdev behind.vdev at.space at'.space laid differ at.found at'.found in
    law' extent other (rw (at.vdev, at'.vdev) vdevs) in
    elim apart [
      | inl differ ↦ in_others differ
      | inr offsets ↦ elim (cases_lt place.vdev behind.vdev) [
        | inl less ↦ in_others (λ same. absurd (omega (arith, less, same)))
        | inr not_less ↦ elim (cases_lt behind.vdev place.vdev) [
          | inl less ↦ in_others (λ same. absurd (omega (arith, less, same)))
          | inr neither ↦
              let same_vdev : place.vdev ≡ behind.vdev = omega (arith, not_less, neither) in
              let same_space : at.space ≡ at'.space = same_some at.space at'.space (sym at.found ∙ ap (λ n. slice_get spaces n) same_vdev ∙ at'.found) in
              let same : extent.vdev ≡ other.vdev = at.vdev ∙ ap (λ (s : VdevSpace). s.shape.vdev) same_space ∙ sym at'.vdev in
              let size : behind.allocated ≡ asize extent.vdev.geometry other.sectors = at'.allocated ∙ ap (λ (v : Vdev). asize v.geometry other.sectors) (sym same) in
              let they : AreApart extent.vdev.geometry extent.start extent.sectors other.start other.sectors = elim offsets [
                | inl before ↦ inl (omega (arith, before, at.start, at'.start, at.allocated))
                | inr after ↦ inr (omega (arith, after, at.start, at'.start, size))
              ] in
              law extent other same they
        ]
      ]
    ]

-- copies of blocks that are placed: the same, or apart
pub copies_apart : ApartExtentsShareNoByte → OtherVdevsShareNoByte → (starts : List (List ℕ)) (spaces : List VdevSpace) (marks : Marks) (contents : Contents)
    → IsLaidOut starts spaces → ArePlaced spaces marks contents
    → (block other : Block) (bytes others : List ℕ) (i k : ℕ) (extent behind : Extent) → contents block ≡ Some bytes → contents other ≡ Some others
    → IsCopy spaces block i extent → IsCopy spaces other k behind → ((block ≡ other) × (i ≡ k)) ⊎ ShareNoByte extent behind
copies_apart law law' starts spaces marks contents laid placed block other bytes others i k extent behind is is' copy copy' =
    elim (placed.apart block other bytes others i k copy.place copy'.place is is' copy.is_copy copy'.is_copy) [
      | inl same ↦ inl same
      | inr apart ↦ inr (share_no_byte law law' starts spaces copy.place copy'.place extent behind laid
          (lies_at spaces marks block.property.sectors copy.place extent (placed.places block bytes i copy.place is copy.is_copy) copy.extent_is)
          (lies_at spaces marks other.property.sectors copy'.place behind (placed.places other others k copy'.place is' copy'.is_copy) copy'.extent_is)
          apart)
    ]

-- a copy has one extent
pub one_extent : (spaces : List VdevSpace) (block : Block) (i : ℕ) (extent other : Extent) → IsCopy spaces block i extent → IsCopy spaces block i other
    → (extent.vdev ≡ other.vdev) × (extent.start ≡ other.start) × (extent.sectors ≡ other.sectors)
one_extent spaces block i extent other copy copy' =
    let places : copy.place ≡ copy'.place = same_some copy.place copy'.place (sym copy.is_copy ∙ copy'.is_copy) in
    let spaces_are : copy.extent_is.space ≡ copy'.extent_is.space =
    same_some copy.extent_is.space copy'.extent_is.space (sym copy.extent_is.found ∙ ap (λ (p : Dva). slice_get spaces p.vdev) places ∙ copy'.extent_is.found) in (
      copy.extent_is.vdev ∙ ap (λ (s : VdevSpace). s.shape.vdev) spaces_are ∙ sym copy'.extent_is.vdev,
      copy.extent_is.start ∙ ap (λ (p : Dva). p.offset) places ∙ sym copy'.extent_is.start,
      copy.extent_is.sectors_are ∙ sym copy'.extent_is.sectors_are,
    )
