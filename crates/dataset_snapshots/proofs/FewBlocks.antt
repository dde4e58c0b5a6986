-- A dataset has fewer blocks than there are places for them.
use Rattle.std.proofs.Common.{◌≡◌, ◌≢◌, ◌⊎◌, inl, inr, ℕ, zero, suc, ◌+◌, ◌*◌, ◌/◌, ◌^◌, ◌<◌, ◌≤◌, List, [], ◌∷◌, map, length, Option, Some, All, AllPairs, Contains, refl, lit<, arith}
use Rattle.std.specs.List.{range_with_len, slice_get}
use Rattle.std.proofs.lemmas.Bool.{cases_eq}
use Rattle.std.proofs.lemmas.List.{length-map}
use Rattle.std.proofs.lemmas.List.Elements.{All-contains}
use Rattle.std.proofs.lemmas.List.FromFn.{length-range_with_len}
use Rattle.std.proofs.lemmas.List.Kept.{AllPairs-cons}
use Rattle.std.proofs.lemmas.Option.{slice_get_within}
use Rattle.std.proofs.Math.Nat.{div-lt_iff_lt-mul, div-mul-le_self, mul-le-mul, one-le-pow}
use Rattle.block_pointer.specs.declared.block.Block.{Block}
use Rattle.block_pointer.specs.declared.copies.Copies.{Copies}
use Rattle.block_pointer.specs.declared.copies.Copies.TheVariants.{One, Two, Three}
use Rattle.block_pointer.specs.declared.dva.Dva.{Dva}
use Rattle.block_pointer.specs.Copies.{FitsCopies, dvas}
use Rattle.block_pointer.specs.Dva.{FitsDva}
use Rattle.block_store.specs.Blocks.{Contents}
use Rattle.block_store.specs.Places.{ArePlacesApart, IsPlaceIn}
use Rattle.block_store.specs.Plans.{Plans}
use Rattle.block_store.specs.Shapes.{metaslab_sectors, vdev_sectors}
use Rattle.block_store.specs.Spaces.{VdevSpace}
use Rattle.block_store.specs.Store.{Store}
use Rattle.dataset_groups.proofs.KnownBlocks.{IsKnown}
use Rattle.dataset_groups.specs.Destroys.{HasAtMost}
use Rattle.dead_list.specs.Blocks.{AreDistinct}
use Rattle.meta_objset.proofs.Edits.{pairs_head, pairs_tail}
use Rattle.pool_model.specs.Pools.{PlainPool}
use Rattle.raidz_io.proofs.Pigeons.{distinct_fit}
use Rattle.dataset_snapshots.specs.Opening.{most_blocks}
use Rattle.dataset_snapshots.specs.Pools.{SpellsPool}
use Rattle.dataset_snapshots.proofs.ChangedRows.{all_from, is_first, is_later}
use Rattle.dataset_snapshots.proofs.GroupsBegun.{all_mapped}
use Rattle.dataset_snapshots.proofs.Reaching.{chains_known}

-- ---- numbers that differ

in_range : (first count x : ℕ) → first ≤ x → x < first + count → Contains (range_with_len first count) x
in_range first zero x low high = absurd (omega (arith, low, high))
in_range first (suc count) x low high = elim (cases_eq first x) [
  | inl same ↦ (0, omega arith, same)
  | inr other ↦ is_later first x (range_with_len (first + 1) count) (in_range (first + 1) count x (omega (arith, low, other)) (omega (arith, high)))
]

few_below : (most : ℕ) (xs : List ℕ) → AllPairs (λ x y. x ≢ y) xs → All (λ x. x < most) xs → length xs ≤ most
few_below most xs apart low =
    let fit = distinct_fit xs (range_with_len 0 most) (record { apart = λ i k less within. apart i k 0 less within })
    (λ x held. let below = All-contains (λ (y : ℕ). y < most) xs x low held in in_range 0 most x (omega arith) (omega (arith, below))) in
    omega (arith, fit, length-range_with_len 0 most)

-- ---- the first place of a block

first_of : Copies → Dva
first_of (One first) = first
first_of (Two first second) = first
first_of (Three first second third) = first

first_is : (copies : Copies) → slice_get (dvas copies) 0 ≡ Some (first_of copies)
unfolding first_of
first_is (One first) = refl
first_is (Two first second) = refl
first_is (Three first second third) = refl

first_in : (copies : Copies) → Contains (dvas copies) (first_of copies)
unfolding first_of
first_in (One first) = is_first first []
first_in (Two first second) = is_first first (second ∷ [])
first_in (Three first second third) = is_first first (second ∷ third ∷ [])

first_fits : (copies : Copies) → FitsCopies copies → FitsDva (first_of copies)
unfolding first_of
first_fits (One first) fits = fits.0
first_fits (Two first second) fits = fits.0
first_fits (Three first second third) fits = fits.0

-- its number among the sectors of all vdevs
abbrev number_of : Block → ℕ
number_of block = (first_of block.copies).vdev * 2 ^ 39 + (first_of block.copies).offset

before_end : (offset size all : ℕ) → 0 < size → offset / size < all / size → offset < all
before_end offset size all some low =
    let room : offset < all / size * size = (div-lt_iff_lt-mul some).0 low in omega (arith, room, div-mul-le_self all size)

vdev_bound : (children sectors : ℕ) → children ≤ 32 → sectors < 2 ^ 34 → children * sectors ≤ 32 * 2 ^ 34
vdev_bound children sectors few small = let below : sectors ≤ 2 ^ 34 = omega arith in mul-le-mul few below

-- a vdev has at most 2^39 sectors
place_low : (spaces : List VdevSpace) (sectors : ℕ) (place : Dva) → IsPlaceIn spaces sectors place → (place.vdev < length spaces) × (place.offset < 2 ^ 39)
place_low spaces sectors place is =
    let shape = is.space.shape in
    let end : vdev_sectors shape ≤ 32 * 2 ^ 34 = vdev_bound _ _ shape.vdev.geometry.most_children shape.most_sectors in
    let within = before_end place.offset (metaslab_sectors shape) (vdev_sectors shape) (one-le-pow shape.metaslab_shift 2 (lit< tt)) is.is_place.metaslab in
    (slice_get_within spaces place.vdev is.space is.found, omega (arith, within, end))

places_differ : (place other : Dva) → place.offset < 2 ^ 39 → other.offset < 2 ^ 39 → 0 < place.allocated → 0 < other.allocated → ArePlacesApart place other
    → place.vdev * 2 ^ 39 + place.offset ≢ other.vdev * 2 ^ 39 + other.offset
places_differ place other low also some more (inl vdevs) same = vdevs (omega (arith, low, also, same))
places_differ place other low also some more (inr (inl before)) same = omega (arith, low, also, same, some, before)
places_differ place other low also some more (inr (inr behind)) same = omega (arith, low, also, same, more, behind)

-- ---- blocks that are stored

module _ (store : Store) (stored planned : Contents) (plans : Plans store stored planned) where
  used : (block : Block) → IsKnown stored block → 0 < (first_of block.copies).allocated
  used block known = (first_fits block.copies (plans.held.blocks block known.0 known.1).fits.copies).used

  low : (block : Block) → IsKnown stored block → ((first_of block.copies).vdev < length store.spaces) × ((first_of block.copies).offset < 2 ^ 39)
  low block known =
      place_low store.spaces block.property.sectors (first_of block.copies) (plans.held.places block known.0 known.1 (first_of block.copies) (first_in block.copies)).is_in

  numbers_differ : (block other : Block) → IsKnown stored block → IsKnown stored other → block ≢ other → number_of block ≢ number_of other
  numbers_differ block other known also differ =
      elim (plans.stored_placed.apart block other known.0 also.0 0 0 (first_of block.copies) (first_of other.copies) known.1 also.1 (first_is block.copies) (first_is other.copies)) [
        | inl same ↦ absurd (differ same.0)
        | inr apart ↦ places_differ (first_of block.copies) (first_of other.copies) (low block known).1 (low other also).1 (used block known) (used other also) apart
      ]

  abbrev AreKnown : List Block → Type 0
  AreKnown blocks = (block : Block) → Contains blocks block → IsKnown stored block

  numbers_apart : (blocks : List Block) → AreKnown blocks → AreDistinct blocks → AllPairs (λ x y. x ≢ y) (map number_of blocks)
  numbers_apart [] known once = λ i j d less within. absurd (omega (arith, within))
  numbers_apart (block ∷ blocks) known once =
      let Differ : Block → Block → Type 0 = λ one two. one ≢ two in
      AllPairs-cons (λ (x y : ℕ). x ≢ y) (number_of block) (map number_of blocks)
      (all_mapped number_of (λ y. number_of block ≢ y) blocks
      (all_from (λ (other : Block). number_of block ≢ number_of other) blocks (λ other held.
      numbers_differ block other (known block (is_first block blocks)) (known other (is_later block other blocks held))
      (All-contains (Differ block) blocks other (pairs_head Differ block blocks once) held))))
      (numbers_apart blocks (λ other held. known other (is_later block other blocks held)) (pairs_tail Differ block blocks once))

  few_known : length store.spaces ≤ 8 → (blocks : List Block) → AreKnown blocks → AreDistinct blocks → length blocks ≤ 2 ^ 42
  few_known few blocks known once =
      let below : All (λ x. x < 2 ^ 42) (map number_of blocks) =
      all_mapped number_of (λ x. x < 2 ^ 42) blocks (all_from (λ (block : Block). number_of block < 2 ^ 42) blocks (λ block held.
      let at = low block (known block held) in omega (arith, few, at.0, at.1))) in
      let most = few_below (2 ^ 42) (map number_of blocks) (numbers_apart blocks known once) below in
      omega (arith, most, length-map blocks number_of)

  pub few_blocks : length store.spaces ≤ 8 → (birth : ℕ) (root : Block) (pool : PlainPool) (is : SpellsPool stored birth root pool) → HasAtMost is.datasets most_blocks
  few_blocks few birth root pool is number =
      let blocks : List Block = (is.datasets.datasets number).blocks in
      let most = few_known few blocks (λ block held. chains_known stored root.birth is.objects is.datasets is.readings block is.chains (number, held)) (is.chains.sound.fits number).once in
      omega (arith, most)
