-- How a store is opened over disks that were used before.
use Rattle.std.proofs.Common.{ℕ, zero, suc, ◌≡◌, ◌+◌, ◌<◌, ◌≤◌, ◌^◌, Some, List, [], ◌∷◌, ◌++◌, length, take, get_or, refl, sym, ap, subst, ◌∙◌, arith}
use Rattle.std.proofs.lemmas.List.{append-nil, length-map, take_more}
use Rattle.std.specs.List.{slice_get}
use Rattle.raidz_io.specs.Places.{HasRoom}
use Rattle.raidz_io.proofs.Written.{same_some}
use Rattle.block_store.specs.declared.shape.VdevShape.{VdevShape}
use Rattle.block_store.specs.Config.{size_of}
use Rattle.block_store.specs.Opened.{FitsDisks, LieOn}
use Rattle.block_store.specs.Places.{shapes_of}
use Rattle.block_store.specs.Spaces.{VdevSpace}
use Rattle.block_store.specs.Store.{Store, IsStore}
use Rattle.block_store.proofs.Making.{on_disk, shapes_of-push}

-- the space of one vdev more
pub shapes_more : (spaces : List VdevSpace) (space : VdevSpace) (shapes : List VdevShape) (k : ℕ) (other : VdevShape) → shapes_of spaces ≡ take k shapes → k < length shapes
    → space.shape ≡ get_or shapes k other → shapes_of (spaces ++ space ∷ []) ≡ take (k + 1) shapes
shapes_more spaces space shapes k other are low is =
    sym (append-nil (shapes_of (spaces ++ space ∷ []))) ∙ shapes_of-push spaces space [] ∙ ap (λ (front : List VdevShape). front ++ space.shape ∷ []) are
    ∙ ap (λ (s : VdevShape). take k shapes ++ s ∷ []) is ∙ sym (take_more shapes k other low)

-- each vdev fits its disks, and has none before the first
fits_behind : (starts : List (List ℕ)) (first : ℕ) (spaces : List VdevSpace) (v : ℕ) (space : VdevSpace) → LieOn starts first (shapes_of spaces) → slice_get spaces v ≡ Some space
    → (first ≤ space.shape.vdev.first) × FitsDisks starts space.shape
fits_behind starts first [] v space lie found = absurd (cc)
fits_behind starts first (here ∷ spaces) zero space lie found =
    let P : VdevSpace → Type 0 = λ s. (s.shape.vdev.first ≡ first) × FitsDisks starts s.shape in
    let is : P space = subst P (same_some here space found) (lie.0, lie.1) in
    (omega (arith, is.0), is.1)
fits_behind starts first (here ∷ spaces) (suc v) space lie found =
    let later = fits_behind starts (first + here.shape.vdev.geometry.children) spaces v space lie.2 found in
    (omega (arith, later.0), later.1)

-- a later vdev lies behind
lie_apart : (starts : List (List ℕ)) (first : ℕ) (spaces : List VdevSpace) (v other : ℕ) (space behind : VdevSpace) → LieOn starts first (shapes_of spaces) → v < other
    → slice_get spaces v ≡ Some space → slice_get spaces other ≡ Some behind → space.shape.vdev.first + space.shape.vdev.geometry.children ≤ behind.shape.vdev.first
lie_apart starts first [] v other space behind lie less found found' = absurd (cc)
lie_apart starts first (here ∷ spaces) v zero space behind lie less found found' = absurd (omega (arith, less))
lie_apart starts first (here ∷ spaces) zero (suc other) space behind lie less found found' =
    let P : VdevSpace → Type 0 = λ s. (s.shape.vdev.first ≡ first) × (s.shape.vdev.geometry.children ≡ here.shape.vdev.geometry.children) in
    let is : P space = subst P (same_some here space found) (lie.0, refl) in
    let later = fits_behind starts (first + here.shape.vdev.geometry.children) spaces other behind lie.2 found' in
    omega (arith, is.0, is.1, later.0)
lie_apart starts first (here ∷ spaces) (suc v) (suc other) space behind lie less found found' =
    lie_apart starts (first + here.shape.vdev.geometry.children) spaces v other space behind lie.2 (omega (arith, less)) found found'

-- and the vdev has room on its disks
room_of : (starts : List (List ℕ)) (shape : VdevShape) → length starts ≤ 2 ^ 64 → FitsDisks starts shape → HasRoom shape.vdev shape.child_sectors starts
room_of starts shape count fits = record {
  numbers = omega (arith, fits.there, count);
  offsets = omega (arith, shape.most_sectors);
  disks = fits.there;
  sizes = λ child below.
      on_disk (size_of starts (shape.vdev.first + child)) shape.child_sectors (fits.sizes (shape.vdev.first + child) (omega arith) (omega (arith, below)))
      (fits.sectors (shape.vdev.first + child) (omega arith) (omega (arith, below)));
}

-- what is opened is a store
pub is_opened : (store : Store) (shapes : List VdevShape) → shapes_of store.spaces ≡ shapes → LieOn store.disks.starts 0 shapes → length shapes ≤ 8
    → length store.disks.starts ≤ 2 ^ 64 → IsStore store
is_opened store shapes are lie few count =
    let lies : LieOn store.disks.starts 0 (shapes_of store.spaces) = subst (LieOn store.disks.starts 0) (sym are) lie in
    let same_count : length (shapes_of store.spaces) ≡ length store.spaces = length-map store.spaces (λ (space : VdevSpace). space.shape) in
    record {
      laid_out = record {
        room = λ v space found. room_of store.disks.starts space.shape count (fits_behind store.disks.starts 0 store.spaces v space lies found).1;
        apart = λ v other space behind less found found'. lie_apart store.disks.starts 0 store.spaces v other space behind lies less found found';
        few = omega (arith, same_count, ap length are, few);
      };
    }
