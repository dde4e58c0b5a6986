-- Blocks that lie apart in places of a pool are no more than its sectors.
use Rattle.std.proofs.Common.{ℕ, zero, suc, ◌≡◌, ◌≢◌, ◌⊎◌, ⊎_elim, ◌+◌, ◌*◌, ◌-◌, ◌/◌, ◌%◌, ◌^◌, ◌<◌, ◌≤◌, List, [], ◌∷◌, length, map, min, Some, AllPairs, Contains, refl, sym, ap, subst, ◌∙◌, arith, mul-le-mul_right, mul-le-mul, slice_get, slice_index, slice_index_or}
use Rattle.std.proofs.lemmas.List.{length-append, length-map}
use Rattle.std.proofs.lemmas.List.Elements.{Contains-append_cases, Contains-get_or}
use Rattle.std.proofs.lemmas.Nat.{div-add-mod'}
use Rattle.std.proofs.Math.Nat.{div-mul-le_self}
use Rattle.block_pointer.specs.Copies.{dvas}
use Rattle.block_pointer.specs.declared.block.Block.{Block}
use Rattle.block_pointer.specs.declared.copies.Copies.{Copies}
use Rattle.block_pointer.specs.declared.copies.Copies.TheVariants.{One, Two, Three}
use Rattle.block_pointer.specs.declared.dva.Dva.{Dva}
use Rattle.block_store.specs.Places.{IsPlaceFor, IsPlaceIn, shapes_of}
use Rattle.block_store.specs.Releases.{CopyAt, copies_of, copies_of_at, copies_of_all}
use Rattle.block_store.specs.Shapes.{metaslab_sectors, metaslabs, vdev_sectors}
use Rattle.block_store.specs.Spaces.{VdevSpace}
use Rattle.block_store.specs.declared.shape.VdevShape.{VdevShape}
use Rattle.block_store.proofs.Sizes.{asize_some}
use Rattle.raidz_io.proofs.Pigeons.{AreDistinct, distinct_fit}
use Rattle.pool_create.specs.Words.{most_blocks, sectors_in}
use Rattle.pool_stops.specs.Whole.{AreCopiesApart, LieApart}

-- ---- sectors of a pool, one vdev's behind the other's

total : List VdevSpace → ℕ
total [] = 0
total (space ∷ spaces) = vdev_sectors space.shape + total spaces

base : List VdevSpace → ℕ → ℕ
base [] v = 0
base (space ∷ spaces) zero = 0
base (space ∷ spaces) (suc v) = vdev_sectors space.shape + base spaces v

base_below : (spaces : List VdevSpace) (v : ℕ) (space : VdevSpace) (offset : ℕ) → slice_get spaces v ≡ Some space → offset < vdev_sectors space.shape → base spaces v + offset < total spaces
unfolding total base
base_below [] v space offset found below = absurd (cc)
base_below (first ∷ spaces) zero space offset found below =
    let same : first ≡ space = (cc) in
    let here : offset < vdev_sectors first.shape = subst (λ (s : VdevSpace). offset < vdev_sectors s.shape) (sym same) below in
    omega (arith, here)
base_below (first ∷ spaces) (suc v) space offset found below = omega (arith, base_below spaces v space offset found below)

base_order : (spaces : List VdevSpace) (v w : ℕ) (space other : VdevSpace) → v < w → slice_get spaces v ≡ Some space → slice_get spaces w ≡ Some other
    → base spaces v + vdev_sectors space.shape ≤ base spaces w
unfolding base
base_order [] v w space other less found found' = absurd (cc)
base_order (first ∷ spaces) v zero space other less found found' = absurd (omega (arith, less))
base_order (first ∷ spaces) zero (suc w) space other less found found' =
    let same : first ≡ space = (cc) in
    let here : vdev_sectors first.shape ≡ vdev_sectors space.shape = ap (λ (s : VdevSpace). vdev_sectors s.shape) same in
    omega (arith, here)
base_order (first ∷ spaces) (suc v) (suc w) space other less found found' =
    omega (arith, base_order spaces v w space other (omega (arith, less)) found found')

-- the number of a copy's first sector
number : List VdevSpace → CopyAt → ℕ
number spaces copy = base spaces copy.place.vdev + copy.place.offset

-- a copy with sectors in a place of the pool
record Lies (spaces : List VdevSpace) (copy : CopyAt) : Type 0 where
  pub space : VdevSpace
  pub found : slice_get spaces copy.place.vdev ≡ Some space
  pub some : 0 < copy.place.allocated
  pub within : copy.place.offset + copy.place.allocated ≤ vdev_sectors space.shape

lies : (spaces : List VdevSpace) (copy : CopyAt) → 0 < copy.sectors → IsPlaceIn spaces copy.sectors copy.place → Lies spaces copy
lies spaces copy some is =
    let shape : VdevShape = is.space.shape in
    let size : ℕ = metaslab_sectors shape in
    let split : copy.place.offset / size * size + copy.place.offset % size ≡ copy.place.offset = div-add-mod' copy.place.offset size in
    let next : suc (copy.place.offset / size) * size ≤ metaslabs shape * size = mul-le-mul_right size is.is_place.metaslab in
    let all : metaslabs shape * size ≤ vdev_sectors shape = div-mul-le_self (vdev_sectors shape) size in
    record {
      space = is.space;
      found = is.found;
      some = omega (arith, is.is_place.allocated, asize_some shape.vdev.geometry copy.sectors some);
      within = omega (arith, split, next, all, is.is_place.one);
    }

numbers_below : (spaces : List VdevSpace) (copy : CopyAt) → Lies spaces copy → number spaces copy < total spaces
unfolding number
numbers_below spaces copy at = base_below spaces copy.place.vdev at.space copy.place.offset at.found (omega (arith, at.within, at.some))

compared : (a b : ℕ) → (a < b) ⊎ ((a ≡ b) ⊎ (b < a))
compared a b = grind arith

numbers_differ : (spaces : List VdevSpace) (copy other : CopyAt) → Lies spaces copy → Lies spaces other → AreCopiesApart copy other → number spaces copy ≢ number spaces other
unfolding number
numbers_differ spaces copy other at at' apart same = ⊎_elim
    (λ less. omega (arith, base_order spaces copy.place.vdev other.place.vdev at.space at'.space less at.found at'.found, at.within, at.some, same))
    (λ rest. ⊎_elim
    (λ equal. ⊎_elim
    (λ differ. differ equal)
    (λ beside.
    let bases : base spaces copy.place.vdev ≡ base spaces other.place.vdev = ap (base spaces) equal in
    ⊎_elim (λ before. omega (arith, before, at.some, bases, same)) (λ behind. omega (arith, behind, at'.some, bases, same)) beside)
    apart)
    (λ more. omega (arith, base_order spaces other.place.vdev copy.place.vdev at'.space at.space more at'.found at.found, at'.within, at'.some, same))
    rest)
    (compared copy.place.vdev other.place.vdev)

-- ---- as many numbers as sectors

upto : ℕ → List ℕ
upto zero = []
upto (suc n) = n ∷ upto n

length-upto : (n : ℕ) → length (upto n) ≡ n
unfolding upto
length-upto zero = refl
length-upto (suc n) = omega (arith, length-upto n)

in_upto : (n k : ℕ) → k < n → Contains (upto n) k
unfolding upto
in_upto zero k below = absurd (omega (arith, below))
in_upto (suc n) k below = ⊎_elim
    (λ less. let rest = in_upto n k less in (suc rest.0, omega (arith, rest.1), rest.2))
    (λ more. ⊎_elim (λ equal. (0, omega arith, sym equal)) (λ above. absurd (omega (arith, above, below))) more)
    (compared k n)

index_map : {X : Type 0} (f : X → ℕ) (xs : List X) (k : ℕ) (d : X) → k < length xs → slice_index (map f xs) k ≡ f (slice_index_or xs k d)
index_map f [] k d within = absurd (omega (arith, within))
index_map f (x ∷ xs) zero d within = refl
index_map f (x ∷ xs) (suc k) d within = index_map f xs k d (omega (arith, within))

among_map : {X : Type 0} (f : X → ℕ) (xs : List X) (y : ℕ) → Contains (map f xs) y → (x : X) × Contains xs x × (f x ≡ y)
among_map f [] y (k, within, is) = absurd (omega (arith, within))
among_map f (x ∷ xs) y (zero, within, is) = (x, (0, omega arith, refl), is)
among_map f (x ∷ xs) y (suc k, within, is) =
    let rest = among_map f xs y (k, omega (arith, within), is) in
    (rest.0, (suc rest.1.0, omega (arith, rest.1.1), rest.1.2), rest.2)

copies_fit : (spaces : List VdevSpace) (copies : List CopyAt) → ((copy : CopyAt) → Contains copies copy → Lies spaces copy) → AllPairs AreCopiesApart copies
    → length copies ≤ total spaces
copies_fit spaces [] each apart = omega arith
copies_fit spaces (first ∷ rest) each apart =
    let copies : List CopyAt = first ∷ rest in
    let distinct : AreDistinct (map (number spaces) copies) = record {
      apart = λ i k less within.
          let there : k < length copies = omega (arith, within, length-map copies (number spaces)) in
          let here : i < length copies = omega (arith, there, less) in
          λ same.
          numbers_differ spaces (slice_index_or copies i first) (slice_index_or copies k first) (each (slice_index_or copies i first) (Contains-get_or copies i first here))
          (each (slice_index_or copies k first) (Contains-get_or copies k first there)) (apart i k first less there)
          (sym (index_map (number spaces) copies i first here) ∙ same ∙ index_map (number spaces) copies k first there);
    } in
    let fit : length (map (number spaces) copies) ≤ length (upto (total spaces)) =
    distinct_fit (map (number spaces) copies) (upto (total spaces)) distinct (λ y held.
    let from = among_map (number spaces) copies y held in
    in_upto (total spaces) y (subst (λ n. n < total spaces) from.2 (numbers_below spaces from.0 (each from.0 from.1)))) in
    omega (arith, fit, length-map copies (number spaces), length-upto (total spaces))

-- ---- blocks have copies

some_copies : (block : Block) (copies : Copies) → 0 < length (copies_of_at block (dvas copies))
some_copies block (One a) = omega arith
some_copies block (Two a b) = omega arith
some_copies block (Three a b c) = omega arith

as_many_copies : (blocks : List Block) → length blocks ≤ length (copies_of_all blocks)
as_many_copies [] = omega arith
as_many_copies (block ∷ blocks) =
    omega (arith, as_many_copies blocks, some_copies block block.copies, length-append (copies_of block) (copies_of_all blocks))

-- a copy of them is one of a block
pub copy_of : (blocks : List Block) (copy : CopyAt) → Contains (copies_of_all blocks) copy
    → (block : Block) × Contains blocks block × (copy.sectors ≡ block.property.sectors) × Contains (dvas block.copies) copy.place
    × (copy.copies ≡ length (dvas block.copies))
copy_of [] copy (k, within, is) = absurd (omega (arith, within))
copy_of (block ∷ blocks) copy held = ⊎_elim
    (λ first.
    let at = of_block (dvas block.copies) copy first in
    (block, (0, omega arith, refl), at.0, at.1, at.2))
    (λ later.
    let rest = copy_of blocks copy later in
    (rest.0, (suc rest.1.0, omega (arith, rest.1.1), rest.1.2), rest.2, rest.3, rest.4))
    (Contains-append_cases (copies_of block) (copies_of_all blocks) copy held)
  where
    of_block : (places : List Dva) (it : CopyAt) → Contains (copies_of_at block places) it
        → (it.sectors ≡ block.property.sectors) × Contains places it.place × (it.copies ≡ length (dvas block.copies))
    of_block [] it (k, within, is) = absurd (omega (arith, within))
    of_block (place ∷ places) it (zero, within, is) =
        (ap (λ (c : CopyAt). c.sectors) (sym is), (0, omega arith, ap (λ (c : CopyAt). c.place) is), ap (λ (c : CopyAt). c.copies) (sym is))
    of_block (place ∷ places) it (suc k, within, is) =
        let rest = of_block places it (k, omega (arith, within), is) in
        (rest.0, (suc rest.1.0, omega (arith, rest.1.1), rest.1.2), rest.2)

-- so each of them has sectors, in a place of the pool
pub copy_lies : (spaces : List VdevSpace) (shapes : List VdevShape) (blocks : List Block) → shapes_of spaces ≡ shapes → LieApart shapes blocks
    → (copy : CopyAt) → Contains (copies_of_all blocks) copy → (0 < copy.sectors) × IsPlaceFor spaces copy.sectors copy.copies copy.place
copy_lies spaces shapes blocks same apart copy held =
    let at = copy_of blocks copy held in
    let some : 0 < copy.sectors = omega (arith, apart.some at.0 at.1, at.2) in
    let here : IsPlaceFor spaces at.0.property.sectors copy.copies copy.place =
    subst (λ n. IsPlaceFor spaces at.0.property.sectors n copy.place) (sym at.4) (apart.places spaces same at.0 at.1 copy.place at.3) in
    (some, subst (λ n. IsPlaceFor spaces n copy.copies copy.place) (sym at.2) here)

total_is : (spaces : List VdevSpace) → total spaces ≡ sectors_in (shapes_of spaces)
unfolding total
total_is [] = refl
total_is (space ∷ spaces) =
    let rest : total spaces ≡ sectors_in (shapes_of spaces) = total_is spaces in
    let turn : space.shape.vdev.geometry.children * space.shape.child_sectors ≡ space.shape.child_sectors * space.shape.vdev.geometry.children = commuted space.shape.vdev.geometry.children space.shape.child_sectors in
    omega (arith, rest, turn)
  where
    commuted : (a b : ℕ) → a * b ≡ b * a
    commuted a b = grind arith

few_in_vdevs : (shapes : List VdevShape) → sectors_in shapes ≤ length shapes * (2 ^ 34 * 32)
few_in_vdevs [] = omega arith
few_in_vdevs (shape ∷ shapes) =
    let few : shape.child_sectors ≤ 2 ^ 34 = omega (arith, shape.most_sectors) in
    let one : shape.child_sectors * shape.vdev.geometry.children ≤ 2 ^ 34 * 32 = mul-le-mul few shape.vdev.geometry.most_children in
    omega (arith, one, few_in_vdevs shapes)

-- blocks that lie apart are no more than an open reads
pub blocks_fit : (spaces : List VdevSpace) (shapes : List VdevShape) (blocks : List Block) → shapes_of spaces ≡ shapes → length shapes ≤ 8 → LieApart shapes blocks
    → length blocks ≤ most_blocks shapes
blocks_fit spaces shapes blocks same few apart =
    let fit : length (copies_of_all blocks) ≤ total spaces =
    copies_fit spaces (copies_of_all blocks) (λ copy held. let at = copy_lies spaces shapes blocks same apart copy held in lies spaces copy at.0 at.1.is_in) apart.apart in
    let all : total spaces ≡ sectors_in shapes = total_is spaces ∙ ap sectors_in same in
    let most : sectors_in shapes ≤ length shapes * (2 ^ 34 * 32) = few_in_vdevs shapes in
    lower (length blocks) (sectors_in shapes) (2 ^ 64 - 1) (omega (arith, as_many_copies blocks, fit, all)) (omega (arith, most, few))
  where
    lower : (a b c : ℕ) → a ≤ b → b ≤ c → a ≤ min b c
    lower a b c first second = grind (arith, first, second)
