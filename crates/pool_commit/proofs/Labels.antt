-- The labels of a pool's disks lie beside its blocks.
use Rattle.std.proofs.Common.{◌≡◌, inl, inr, ℕ, zero, suc, ◌+◌, ◌-◌, ◌*◌, ◌/◌, ◌≤◌, ◌<◌, List, [], ◌∷◌, length, Some, sym, ap, ◌∙◌, subst, arith}
use Rattle.std.specs.Prelude.{slice_get, option_map}
use Rattle.std.proofs.lemmas.Bool.{cases_lt}
use Rattle.std.proofs.lemmas.Bool.Decides.{nat_tests}
use Rattle.std.proofs.lemmas.Option.{slice_get-map}
use Rattle.model_disk.specs.Joint.{bytes_of}
use Rattle.raidz_io.specs.Places.{offset_of_sector}
use Rattle.block_store.specs.declared.create.VdevConfig.{VdevConfig}
use Rattle.block_store.specs.declared.shape.VdevShape.{VdevShape}
use Rattle.block_store.specs.Config.{AreShapes, IsAllowedSize, used_bytes, sectors_of, size_of}
use Rattle.block_store.specs.Elsewhere.{IsForBlocks}
use Rattle.block_store.specs.Opened.{LieOn}
use Rattle.block_store.specs.Places.{shapes_of}
use Rattle.block_store.specs.Spaces.{VdevSpace}
use Rattle.block_store.specs.Store.{Store}
use Rattle.block_store.proofs.Steps.{shape_found}
use Rattle.vdev_label.specs.Place.{label_at, rounded}
use Rattle.pool_commit.specs.Reopened.{LabelsOfOpenedLie}
use Rattle.pool_commit.specs.Slots.{LabelsLieAside}

-- ---- as a store is made

-- each disk is in a vdev, and so of an allowed size
allowed : (starts : List (List ℕ)) (first : ℕ) (configs : List VdevConfig) (shapes : List VdevShape) → AreShapes starts first configs shapes
    → (disk : ℕ) → first ≤ disk → disk < length starts → IsAllowedSize (size_of starts disk)
allowed starts first [] [] are disk from below = absurd (omega (arith, are, from, below))
allowed starts first [] (shape ∷ shapes) are disk from below = absurd are
allowed starts first (config ∷ configs) [] are disk from below = absurd are
allowed starts first (config ∷ configs) (shape ∷ shapes) are disk from below = elim (cases_lt disk (first + config.geometry.children)) [
  | inl inside ↦ are.0.sizes disk from inside
  | inr behind ↦ allowed starts (first + config.geometry.children) configs shapes are.1 disk behind below
]

same_some : {X : Type 0} (x y : X) → Some x ≡ Some y → x ≡ y
same_some x y is = cc

-- a vdev has no more sectors for blocks than each of its disks
fits_on : (starts : List (List ℕ)) (first : ℕ) (configs : List VdevConfig) (shapes : List VdevShape) → AreShapes starts first configs shapes
    → (v : ℕ) (shape : VdevShape) → slice_get shapes v ≡ Some shape → (disk : ℕ) → shape.vdev.first ≤ disk
    → disk < shape.vdev.first + shape.vdev.geometry.children → shape.child_sectors ≤ sectors_of (size_of starts disk)
fits_on starts first [] [] are v shape found disk from below = absurd (let no : slice_get [] v ≡ Some shape = found in nothing v shape no)
  where
    nothing : (v : ℕ) (shape : VdevShape) → ¬ (slice_get [] v ≡ Some shape)
    nothing zero shape is = cc
    nothing (suc v) shape is = cc
fits_on starts first [] (other ∷ shapes) are v shape found disk from below = absurd are
fits_on starts first (config ∷ configs) [] are v shape found disk from below = absurd are
fits_on starts first (config ∷ configs) (other ∷ shapes) are zero shape found disk from below =
    let same : other ≡ shape = same_some other shape found in
    subst (λ (s : VdevShape). s.vdev.first ≤ disk → disk < s.vdev.first + s.vdev.geometry.children → s.child_sectors ≤ sectors_of (size_of starts disk)) same
    (λ low high. are.0.sectors.least disk (subst (λ (n : ℕ). n ≤ disk) are.0.first_is low)
    (subst (λ (n : ℕ). disk < n) (λ i. are.0.first_is i + (ap (λ g. g.children) are.0.geometry) i) high)) from below
fits_on starts first (config ∷ configs) (other ∷ shapes) are (suc v) shape found disk from below =
    fits_on starts (first + config.geometry.children) configs shapes are.1 v shape found disk from below

-- ---- numbers

label_low : (size label : ℕ) → label < 2 → label_at size label ≡ label * 262144
label_low size label low = grind (arith, nat_tests, low)

label_high : (size label : ℕ) → 2 ≤ label → label_at size label ≡ rounded size - (4 - label) * 262144
label_high size label high = grind (arith, nat_tests, high)

before : (label at i : ℕ) → label < 2 → at ≡ label * 262144 → 0x400000 ≤ i → ¬ (i < at + 262144)
before label at i low is from below = omega (arith, low, is, from, below)

behind : (u label at i sectors : ℕ) → 0x800000 ≤ u → 2 ≤ label → label < 4 → at ≡ u - (4 - label) * 262144 → sectors ≤ (u - 0x480000) / 512
    → i < sectors * 512 + 0x400000 → ¬ (at ≤ i)
behind u label at i sectors least high last is fits inside from = omega (arith, least, high, last, is, fits, inside, from)

room_for_four : (size : ℕ) → 0x800000 ≤ used_bytes size → 1048576 ≤ size
room_for_four size least = omega (arith, least)

-- ---- both

-- so it is where each disk is of an allowed size, and has as many sectors for blocks as its vdev uses of it
lie_by : (starts : List (List ℕ)) (spaces : List VdevSpace) → ((disk : ℕ) → disk < length starts → IsAllowedSize (size_of starts disk))
    → ((v : ℕ) (shape : VdevShape) → slice_get (shapes_of spaces) v ≡ Some shape → (disk : ℕ) → shape.vdev.first ≤ disk
    → disk < shape.vdev.first + shape.vdev.geometry.children → shape.child_sectors ≤ sectors_of (size_of starts disk)) → LabelsLieAside starts spaces
lie_by starts spaces sizes sectors_fit disk below =
    let fits = sizes disk below in
    let size = length (bytes_of starts disk) in (
      room_for_four size fits.least,
      λ label last i from inside lies.
          let shape : VdevShape = lies.space.shape in
          let found : slice_get (shapes_of spaces) lies.v ≡ Some shape =
          slice_get-map (λ (s : VdevSpace). s.shape) spaces lies.v ∙ ap (λ o. option_map (λ (s : VdevSpace). s.shape) o) lies.found in
          let sectors = sectors_fit lies.v shape found disk lies.first lies.last in
          elim (cases_lt label 2) [
            | inl low ↦ before label (label_at size label) i low (label_low size label low) lies.from inside
            | inr high ↦ behind (used_bytes size) label (label_at size label) i shape.child_sectors fits.least high last (label_high size label high) sectors lies.before from
          ],
    )

pub labels_lie : (starts : List (List ℕ)) (spaces : List VdevSpace) (configs : List VdevConfig) → AreShapes starts 0 configs (shapes_of spaces) → LabelsLieAside starts spaces
labels_lie starts spaces configs are =
    lie_by starts spaces (λ disk below. allowed starts 0 configs (shapes_of spaces) are disk (omega arith) below) (fits_on starts 0 configs (shapes_of spaces) are)

-- ---- as a store is opened

allowed_opened : (starts : List (List ℕ)) (first : ℕ) (shapes : List VdevShape) → LieOn starts first shapes → (disk : ℕ) → first ≤ disk → disk < length starts
    → IsAllowedSize (size_of starts disk)
allowed_opened starts first [] lie disk from below = absurd (omega (arith, lie, from, below))
allowed_opened starts first (shape ∷ shapes) lie disk from below = elim (cases_lt disk (first + shape.vdev.geometry.children)) [
  | inl inside ↦ lie.1.sizes disk (omega (arith, lie.0, from)) (omega (arith, lie.0, inside))
  | inr behind ↦ allowed_opened starts (first + shape.vdev.geometry.children) shapes lie.2 disk behind below
]

fits_opened : (starts : List (List ℕ)) (first : ℕ) (shapes : List VdevShape) → LieOn starts first shapes → (v : ℕ) (shape : VdevShape) → slice_get shapes v ≡ Some shape
    → (disk : ℕ) → shape.vdev.first ≤ disk → disk < shape.vdev.first + shape.vdev.geometry.children → shape.child_sectors ≤ sectors_of (size_of starts disk)
fits_opened starts first [] lie v shape found = absurd (nothing v shape found)
  where
    nothing : (v : ℕ) (shape : VdevShape) → ¬ (slice_get [] v ≡ Some shape)
    nothing zero shape is = cc
    nothing (suc v) shape is = cc
fits_opened starts first (other ∷ shapes) lie zero shape found =
    let P : VdevShape → Type 0 = λ s. (disk : ℕ) → s.vdev.first ≤ disk → disk < s.vdev.first + s.vdev.geometry.children → s.child_sectors ≤ sectors_of (size_of starts disk) in
    subst P (same_some other shape found) lie.1.sectors
fits_opened starts first (other ∷ shapes) lie (suc v) shape found = fits_opened starts (first + other.vdev.geometry.children) shapes lie.2 v shape found

pub labels_of_opened_lie : LabelsOfOpenedLie
labels_of_opened_lie store may =
    lie_by store.disks.starts store.spaces (λ disk below. allowed_opened store.disks.starts 0 (shapes_of store.spaces) may.lie disk (omega arith) below)
    (fits_opened store.disks.starts 0 (shapes_of store.spaces) may.lie)

-- ---- as the store goes on

-- with the same disks and vdevs of the same shapes
pub labels_still : (old new : Store) → new.disks.starts ≡ old.disks.starts → shapes_of new.spaces ≡ shapes_of old.spaces
    → LabelsLieAside old.disks.starts old.spaces → LabelsLieAside new.disks.starts new.spaces
labels_still old new starts shapes lie =
    subst (λ (them : List (List ℕ)). LabelsLieAside them new.spaces) (sym starts)
    (λ disk below. let there = lie disk below in (there.0, λ label last i from inside lies. there.1 label last i from inside (for_before disk i lies)))
  where
    for_before : (disk i : ℕ) → IsForBlocks new.spaces disk i → IsForBlocks old.spaces disk i
    for_before disk i lies =
        let there = shape_found old.spaces new.spaces lies.v lies.space shapes lies.found in
        subst (λ (s : VdevShape). s.vdev.first ≤ disk → disk < s.vdev.first + s.vdev.geometry.children → i < offset_of_sector s.child_sectors → IsForBlocks old.spaces disk i) there.2
        (λ first last inside. record { v = lies.v; space = there.0; found = there.1; first = first; last = last; from = lies.from; before = inside })
        lies.first lies.last lies.before
