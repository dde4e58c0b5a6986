-- Bytes of blocks by the sectors that they lie in.
use Rattle.std.proofs.Common.{ℕ, zero, suc, ◌≡◌, ◌≢◌, ◌⊎◌, inl, inr, ◌+◌, ◌-◌, ◌*◌, ◌/◌, ◌%◌, ◌<◌, ◌≤◌, Bool, true, false, List, [], ◌∷◌, Option, Some, None, refl, sym, ap, subst, ◌∙◌, arith, true≢false}
use Rattle.std.specs.Prelude.{◌&&◌, ◌||◌, nat_le, nat_lt}
use Rattle.std.specs.List.{list_any, slice_get}
use Rattle.std.proofs.lemmas.Bool.{cases_lt}
use Rattle.std.proofs.lemmas.Bool.Decides.{nat_tests}
use Rattle.std.proofs.Math.Nat.{div-add-mod', div-lt_iff_lt-mul}
use Rattle.std.proofs.lemmas.Nat.{div-mul-add, mod-mul-add, mod_below}
use Rattle.block_pointer.specs.declared.dva.Dva.{Dva}
use Rattle.metaslab.specs.Space.{Space, state}
use Rattle.metaslab.specs.State.{State, Free, InUse, Released}
use Rattle.raidz_map.specs.Layout.{Place, asize}
use Rattle.raidz_io.specs.Elsewhere.{IsOfExtent}
use Rattle.raidz_io.specs.Places.{offset_of_sector}
use Rattle.raidz_io.specs.declared.vdev.Extent.{Extent}
use Rattle.raidz_io.specs.declared.vdev.Vdev.{Vdev}
use Rattle.raidz_io.proofs.Written.{same_some}
use Rattle.space_map.specs.Sectors.{names}
use Rattle.block_store.specs.Elsewhere.{IsForBlocks}
use Rattle.block_store.specs.Places.{EachSector, IsExtentAt, IsFree, IsLaidOut, IsNotFree, filled, run_at, shapes_of}
use Rattle.block_store.specs.Shapes.{IsPlace, metaslab_of, metaslab_sectors, sector_of, vdev_sectors}
use Rattle.block_store.specs.Spaces.{VdevSpace}
use Rattle.block_store.specs.Uses.{LiesOn}
use Rattle.block_store.specs.declared.shape.VdevShape.{VdevShape}
use Rattle.block_store.proofs.Taking.{ends_before, found_too}
use Rattle.block_store.specs.Accounts.{SectorAt}
use Rattle.pool_create.specs.Space.{IsFor}
use Rattle.pool_stops.specs.Filled.{StoredBlocksAreInUse, FilledBytesAreForBlocks, FreePlacesAreUnfilled, is_filled, is_filled_sector, is_for_blocks, is_in_vdev, is_taken, is_taken_in, sector_at}

-- ---- tests

le_yes : (a b : ℕ) → a ≤ b → nat_le a b ≡ true
le_yes a b is = grind (arith, nat_tests)

lt_yes : (a b : ℕ) → a < b → nat_lt a b ≡ true
lt_yes a b is = grind (arith, nat_tests)

yes_le : (a b : ℕ) → nat_le a b ≡ true → a ≤ b
yes_le a b is = grind (arith, nat_tests, is)

yes_lt : (a b : ℕ) → nat_lt a b ≡ true → a < b
yes_lt a b is = grind (arith, nat_tests, is)

order : (a b : ℕ) → (a < b) ⊎ ((a ≡ b) ⊎ (b < a))
order a b = elim (cases_lt a b) [
  | inl less ↦ inl less
  | inr not_less ↦ elim (cases_lt b a) [ inl more ↦ inr (inr more) | inr same ↦ inr (inl (omega (arith, not_less, same))) ]
]

either : (test : Bool) → (test ≡ true) ⊎ (test ≡ false)
either true = inl refl
either false = inr refl

both : (a b : Bool) → a ≡ true → b ≡ true → (a && b) ≡ true
both true b holds is = is
both false b holds is = absurd (true≢false (sym holds))

first_of : (a b : Bool) → (a && b) ≡ true → a ≡ true
first_of true b is = refl
first_of false b is = is

second_of : (a b : Bool) → (a && b) ≡ true → b ≡ true
second_of true b is = is
second_of false b is = absurd (true≢false (sym is))

or_right : (a b : Bool) → b ≡ true → (a || b) ≡ true
or_right true b is = refl
or_right false b is = is

any_at : {A : Type 0} (p : A → Bool) (xs : List A) (v : ℕ) (x : A) → slice_get xs v ≡ Some x → p x ≡ true → list_any p xs ≡ true
any_at p [] v x at holds = absurd (cc)
any_at p (y ∷ xs) zero x at holds = ap (λ b. b || list_any p xs) (ap p (same_some y x at) ∙ holds)
any_at p (y ∷ xs) (suc v) x at holds = or_right (p y) (list_any p xs) (any_at p xs v x at holds)

any_from : {A : Type 0} (p : A → Bool) (xs : List A) → list_any p xs ≡ true → (v : ℕ) × (x : A) × (slice_get xs v ≡ Some x) × (p x ≡ true)
any_from p [] is = absurd (true≢false (sym is))
any_from p (y ∷ xs) is = elim (either (p y)) [
  | inl holds ↦ (0, y, refl, holds)
  | inr fails ↦
      let rest = any_from p xs (sym (ap (λ b. b || list_any p xs) fails) ∙ is) in
      (suc rest.0, rest.1, rest.2, rest.3)
]

taken_not_free : (s : State) → s ≢ Free → is_taken s ≡ true
taken_not_free Free not = absurd (not refl)
taken_not_free InUse not = refl
taken_not_free (Released group) not = refl

free_not_taken : (s : State) → s ≡ Free → is_taken s ≡ false
free_not_taken s free = ap is_taken free

-- ---- the sector of a byte

-- a byte of an extent is in the vdev sector t, which is one of the extent's
record IsAtSector (extent : Extent) (disk i t : ℕ) : Type 0 where
  from : extent.start ≤ t
  before : t < extent.start + asize extent.vdev.geometry extent.sectors
  child : disk ≡ extent.vdev.first + t % extent.vdev.geometry.children
  row : (i - offset_of_sector 0) / 512 ≡ t / extent.vdev.geometry.children
  behind : offset_of_sector 0 ≤ i

at_sector : (extent : Extent) (disk i : ℕ) → IsOfExtent extent disk i → (t : ℕ) × IsAtSector extent disk i t
at_sector extent disk i of =
    let c : ℕ = extent.vdev.geometry.children in
    let sector : ℕ = (i - offset_of_sector 0) / 512 in
    let here : Place = record { child = of.column.child; sector = sector } in
    let held = (of.is_column here).0 (record { same_child = refl; from_first = omega (arith, of.from_first); before_end = omega (arith, of.from_first, of.before_end) }) in
    let t : ℕ = held.0 in
    let child : t % c ≡ of.column.child = ap (λ (place : Place). place.child) held.2 in
    let row : t / c ≡ sector = ap (λ (place : Place). place.sector) held.2 in (
      t,
      record {
        from = held.1.from_start;
        before = omega (arith, held.1.before_end);
        child = of.which ∙ ap (λ n. extent.vdev.first + n) (sym child);
        row = sym row;
        behind = omega (arith, of.from_first);
      },
    )

-- so it is the sector that the byte's place tells
tells : (vdev : Vdev) (disk row t : ℕ) → disk ≡ vdev.first + t % vdev.geometry.children → row ≡ t / vdev.geometry.children
    → row * vdev.geometry.children + (disk - vdev.first) ≡ t
tells vdev disk row t child is =
    let c : ℕ = vdev.geometry.children in
    let split : t / c * c + t % c ≡ t = div-add-mod' t c in
    let less : disk - vdev.first ≡ t % c = omega (arith, child) in
    ap (λ n. n + (disk - vdev.first)) (ap (λ n. n * c) is) ∙ ap (λ n. t / c * c + n) less ∙ split

-- of a place in one metaslab: which metaslab, and which of its sectors
record IsInRun (shape : VdevShape) (place : Dva) (t : ℕ) : Type 0 where
  metaslab : t / metaslab_sectors shape ≡ metaslab_of shape place
  named : names (run_at shape place) (t % metaslab_sectors shape) ≡ true

in_run : (shape : VdevShape) (place : Dva) (t : ℕ) → place.offset ≤ t → t < place.offset + place.allocated → sector_of shape place + place.allocated ≤ metaslab_sectors shape
    → IsInRun shape place t
in_run shape place t from before one =
    let size : ℕ = metaslab_sectors shape in
    let split : place.offset / size * size + place.offset % size ≡ place.offset = div-add-mod' place.offset size in
    let s : ℕ = place.offset % size + (t - place.offset) in
    let below : s < size = omega (arith, from, before, one) in
    let is : t ≡ place.offset / size * size + s = omega (arith, from, split) in
    let metaslab : t / size ≡ place.offset / size = ap (λ n. n / size) is ∙ div-mul-add (place.offset / size) size s below in
    let sector : t % size ≡ s = ap (λ n. n % size) is ∙ mod-mul-add (place.offset / size) size s below in
    record {
      metaslab = metaslab;
      named = ap (names (run_at shape place)) sector ∙ names_it (place.offset % size) place.allocated s (omega arith) (omega (arith, from, before));
    }
  where
    names_it : (start len s : ℕ) → start ≤ s → s < start + len → (nat_le start s && nat_lt s (start + len)) ≡ true
    names_it start len s from before = both (nat_le start s) (nat_lt s (start + len)) (le_yes start s from) (lt_yes s (start + len) before)

-- A byte of a block that lies in a place of the vdev: it is in the vdev's sectors for blocks, and its sector there is one of the place's.
record IsByteAt (space : VdevSpace) (place : Dva) (disk i t : ℕ) : Type 0 where
  told : sector_at space.shape disk i ≡ t
  run : IsInRun space.shape place t
  first : space.shape.vdev.first ≤ disk
  last : disk < space.shape.vdev.first + space.shape.vdev.geometry.children
  from : offset_of_sector 0 ≤ i
  before : i < offset_of_sector space.shape.child_sectors

its_sector : (space : VdevSpace) (sectors : ℕ) (place : Dva) (extent : Extent) (disk i : ℕ) → extent.vdev ≡ space.shape.vdev → extent.start ≡ place.offset → extent.sectors ≡ sectors
    → IsPlace space.shape sectors place → IsOfExtent extent disk i → (t : ℕ) × IsByteAt space place disk i t
its_sector space sectors place extent disk i vdev start count lies of =
    let at = at_sector extent disk i of in
    let t : ℕ = at.0 in
    let c : ℕ = space.shape.vdev.geometry.children in
    let some : 0 < c = omega (arith, space.shape.vdev.geometry.has_data) in
    let size : asize extent.vdev.geometry extent.sectors ≡ place.allocated =
    ap (λ (v : Vdev). asize v.geometry extent.sectors) vdev ∙ ap (λ n. asize space.shape.vdev.geometry n) count ∙ sym lies.allocated in
    let child : disk ≡ space.shape.vdev.first + t % c = subst (λ (v : Vdev). disk ≡ v.first + t % v.geometry.children) vdev at.1.child in
    let row : (i - offset_of_sector 0) / 512 ≡ t / c = subst (λ (v : Vdev). (i - offset_of_sector 0) / 512 ≡ t / v.geometry.children) vdev at.1.row in
    let before : t < place.offset + place.allocated = omega (arith, at.1.before, size, start) in
    let within : place.offset + place.allocated ≤ vdev_sectors space.shape =
    ends_before place.offset (vdev_sectors space.shape) place.allocated (metaslab_sectors space.shape) lies.metaslab lies.one in
    let below : t < space.shape.child_sectors * c = omega (arith, before, within) in
    let low : t / c < space.shape.child_sectors = (div-lt_iff_lt-mul some).1 below in (
      t,
      record {
        told = tells space.shape.vdev disk ((i - offset_of_sector 0) / 512) t child row;
        run = in_run space.shape place t (omega (arith, at.1.from, start)) before lies.one;
        first = omega (arith, child);
        last = omega (arith, child, mod_below t c some);
        from = at.1.behind;
        before = omega (arith, row, low, at.1.behind);
      },
    )

-- what is told of such a sector, by the state that the place's metaslab has there
sector_told : (space : VdevSpace) (place : Dva) (metaslab : Space) (t : ℕ) → slice_get (filled space) (metaslab_of space.shape place) ≡ Some metaslab → IsInRun space.shape place t
    → is_filled_sector space t ≡ is_taken (state metaslab (t % metaslab_sectors space.shape))
sector_told space place metaslab t found run =
    ap (λ (o : Option Space). is_taken_in o (t % metaslab_sectors space.shape)) (ap (slice_get (filled space)) run.metaslab ∙ found)

-- the byte is in the vdev's sectors for blocks
in_vdev_yes : (space : VdevSpace) (disk i : ℕ) → space.shape.vdev.first ≤ disk → disk < space.shape.vdev.first + space.shape.vdev.geometry.children → offset_of_sector 0 ≤ i
    → i < offset_of_sector space.shape.child_sectors → is_in_vdev space.shape disk i ≡ true
in_vdev_yes space disk i first last from before =
    both (nat_le space.shape.vdev.first disk && nat_lt disk (space.shape.vdev.first + space.shape.vdev.geometry.children))
    (nat_le (offset_of_sector 0) i && nat_lt i (offset_of_sector space.shape.child_sectors))
    (both (nat_le space.shape.vdev.first disk) (nat_lt disk (space.shape.vdev.first + space.shape.vdev.geometry.children)) (le_yes space.shape.vdev.first disk first)
    (lt_yes disk (space.shape.vdev.first + space.shape.vdev.geometry.children) last))
    (both (nat_le (offset_of_sector 0) i) (nat_lt i (offset_of_sector space.shape.child_sectors)) (le_yes (offset_of_sector 0) i from)
    (lt_yes i (offset_of_sector space.shape.child_sectors) before))

pub stored_blocks_are_in_use : StoredBlocksAreInUse
stored_blocks_are_in_use spaces sectors place extent disk i taken at of =
    let space : VdevSpace = at.space in
    let same : taken.space ≡ space = same_some taken.space space (sym taken.found ∙ at.found) in
    let lies : IsPlace space.shape sectors place = subst (λ (s : VdevSpace). IsPlace s.shape sectors place) same taken.is_place in
    let each : EachSector IsNotFree (filled space) space.shape place = subst (λ (s : VdevSpace). EachSector IsNotFree (filled s) s.shape place) same taken.not_free in
    let its = its_sector space sectors place extent disk i at.vdev at.start at.sectors_are lies of in
    let t : ℕ = its.0 in
    let holds : is_filled_sector space t ≡ true =
    sector_told space place each.metaslab t each.found its.1.run
    ∙ taken_not_free (state each.metaslab (t % metaslab_sectors space.shape)) (each.each (t % metaslab_sectors space.shape) its.1.run.named) in
    any_at (λ (s : VdevSpace). is_in_vdev s.shape disk i && is_filled_sector s (sector_at s.shape disk i)) spaces place.vdev space at.found
    (both (is_in_vdev space.shape disk i) (is_filled_sector space (sector_at space.shape disk i)) (in_vdev_yes space disk i its.1.first its.1.last its.1.from its.1.before)
    (ap (is_filled_sector space) its.1.told ∙ holds))

-- which vdev is told
in_vdev_told : (space : VdevSpace) (disk i : ℕ) → is_in_vdev space.shape disk i ≡ true
    → (space.shape.vdev.first ≤ disk) × (disk < space.shape.vdev.first + space.shape.vdev.geometry.children) × (offset_of_sector 0 ≤ i) × (i < offset_of_sector space.shape.child_sectors)
in_vdev_told space disk i is =
    let a : Bool = nat_le space.shape.vdev.first disk in
    let b : Bool = nat_lt disk (space.shape.vdev.first + space.shape.vdev.geometry.children) in
    let c : Bool = nat_le (offset_of_sector 0) i in
    let d : Bool = nat_lt i (offset_of_sector space.shape.child_sectors) in
    let front : (a && b) ≡ true = first_of (a && b) (c && d) is in
    let back : (c && d) ≡ true = second_of (a && b) (c && d) is in (
      yes_le space.shape.vdev.first disk (first_of a b front),
      yes_lt disk (space.shape.vdev.first + space.shape.vdev.geometry.children) (second_of a b front),
      yes_le (offset_of_sector 0) i (first_of c d back),
      yes_lt i (offset_of_sector space.shape.child_sectors) (second_of c d back),
    )

-- vdevs that have a disk in common are one
one_vdev : (starts : List (List ℕ)) (spaces : List VdevSpace) (v w : ℕ) (space other : VdevSpace) (disk : ℕ) → IsLaidOut starts spaces
    → slice_get spaces v ≡ Some space → slice_get spaces w ≡ Some other
    → space.shape.vdev.first ≤ disk → disk < space.shape.vdev.first + space.shape.vdev.geometry.children
    → other.shape.vdev.first ≤ disk → disk < other.shape.vdev.first + other.shape.vdev.geometry.children → v ≡ w
one_vdev starts spaces v w space other disk laid found found' from before from' before' = elim (order v w) [
  | inl less ↦ absurd (omega (arith, laid.apart v w space other less found found', before, from'))
  | inr (inl same) ↦ same
  | inr (inr more) ↦ absurd (omega (arith, laid.apart w v other space more found' found, before', from))
]

free_is_unfilled : (starts : List (List ℕ)) (spaces : List VdevSpace) (sectors : ℕ) (place : Dva) (extent : Extent) (disk i : ℕ) → IsLaidOut starts spaces
    → LiesOn IsFree spaces filled sectors place → IsExtentAt spaces sectors place extent → IsOfExtent extent disk i → ¬ (is_filled spaces disk i ≡ true)
free_is_unfilled starts spaces sectors place extent disk i laid lies at of is =
    let space : VdevSpace = at.space in
    let same : lies.space ≡ space = same_some lies.space space (sym lies.found ∙ at.found) in
    let is_place : IsPlace space.shape sectors place = subst (λ (s : VdevSpace). IsPlace s.shape sectors place) same lies.is_place in
    let each : EachSector IsFree (filled space) space.shape place = subst (λ (s : VdevSpace). EachSector IsFree (filled s) s.shape place) same lies.each in
    let its = its_sector space sectors place extent disk i at.vdev at.start at.sectors_are is_place of in
    let t : ℕ = its.0 in
    let some = any_from (λ (s : VdevSpace). is_in_vdev s.shape disk i && is_filled_sector s (sector_at s.shape disk i)) spaces is in
    let inside = in_vdev_told some.1 disk i (first_of (is_in_vdev some.1.shape disk i) (is_filled_sector some.1 (sector_at some.1.shape disk i)) some.3) in
    let v : some.0 ≡ place.vdev = one_vdev starts spaces some.0 place.vdev some.1 space disk laid some.2 at.found inside.0 inside.1 its.1.first its.1.last in
    let this : some.1 ≡ space = same_some some.1 space (sym some.2 ∙ ap (slice_get spaces) v ∙ at.found) in
    let holds : is_filled_sector space (sector_at space.shape disk i) ≡ true =
    subst (λ (s : VdevSpace). is_filled_sector s (sector_at s.shape disk i) ≡ true) this
    (second_of (is_in_vdev some.1.shape disk i) (is_filled_sector some.1 (sector_at some.1.shape disk i)) some.3) in
    let fails : is_filled_sector space t ≡ false =
    sector_told space place each.metaslab t each.found its.1.run
    ∙ free_not_taken (state each.metaslab (t % metaslab_sectors space.shape)) (each.each (t % metaslab_sectors space.shape) its.1.run.named) in
    absurd (true≢false (sym holds ∙ ap (is_filled_sector space) its.1.told ∙ fails))

pub free_places_are_unfilled : FreePlacesAreUnfilled
free_places_are_unfilled starts spaces sectors place extent disk i laid lies at of = elim (either (is_filled spaces disk i)) [
  | inl holds ↦ absurd (free_is_unfilled starts spaces sectors place extent disk i laid lies at of holds)
  | inr fails ↦ fails
]

pub filled_bytes_are_for_blocks : FilledBytesAreForBlocks
filled_bytes_are_for_blocks spaces disk i is =
    let some = any_from (λ (s : VdevSpace). is_in_vdev s.shape disk i && is_filled_sector s (sector_at s.shape disk i)) spaces is in
    let inside = in_vdev_told some.1 disk i (first_of (is_in_vdev some.1.shape disk i) (is_filled_sector some.1 (sector_at some.1.shape disk i)) some.3) in
    record { v = some.0; space = some.1; found = some.2; first = inside.0; last = inside.1; from = inside.2; before = inside.3 }

-- what is told for blocks is so
pub picked_are_for_blocks : (spaces : List VdevSpace) (disk i : ℕ) → is_for_blocks spaces disk i ≡ true → IsForBlocks spaces disk i
picked_are_for_blocks spaces disk i is =
    let some = any_from (λ (s : VdevSpace). is_in_vdev s.shape disk i) spaces is in
    let inside = in_vdev_told some.1 disk i some.3 in
    record { v = some.0; space = some.1; found = some.2; first = inside.0; last = inside.1; from = inside.2; before = inside.3 }

-- ---- other marks

-- a sector that is taken isn't free
pub for_blocks_picked : (spaces : List VdevSpace) (disk i : ℕ) → IsForBlocks spaces disk i → is_for_blocks spaces disk i ≡ true
for_blocks_picked spaces disk i is =
    any_at (λ (s : VdevSpace). is_in_vdev s.shape disk i) spaces is.v is.space is.found (in_vdev_yes is.space disk i is.first is.last is.from is.before)

taken_is_not_free : (s : State) → is_taken s ≡ true → s ≢ Free
taken_is_not_free Free is = absurd (true≢false (sym is))
taken_is_not_free InUse is = λ free. cc
taken_is_not_free (Released group) is = λ free. cc

some_taken : (o : Option Space) (sector : ℕ) → is_taken_in o sector ≡ true → (metaslab : Space) × (o ≡ Some metaslab) × (is_taken (state metaslab sector) ≡ true)
some_taken None sector is = absurd (true≢false (sym is))
some_taken (Some metaslab) sector is = (metaslab, refl, is)

-- where no sector is filled that was free, no byte is
pub filled_no_more : (spaces later : List VdevSpace) → shapes_of later ≡ shapes_of spaces
    → ((at : SectorAt) → IsFor IsNotFree later filled at → IsFor IsNotFree spaces filled at) → (disk i : ℕ) → is_filled later disk i ≡ true → is_filled spaces disk i ≡ true
filled_no_more spaces later shapes fewer disk i is =
    let some = any_from (λ (s : VdevSpace). is_in_vdev s.shape disk i && is_filled_sector s (sector_at s.shape disk i)) later is in
    let space : VdevSpace = some.1 in
    let t : ℕ = sector_at space.shape disk i in
    let inside : is_in_vdev space.shape disk i ≡ true = first_of (is_in_vdev space.shape disk i) (is_filled_sector space t) some.3 in
    let sector : is_filled_sector space t ≡ true = second_of (is_in_vdev space.shape disk i) (is_filled_sector space t) some.3 in
    let metaslab : ℕ = t / metaslab_sectors space.shape in
    let at : SectorAt = record { vdev = some.0; metaslab = metaslab; sector = t % metaslab_sectors space.shape } in
    let taken = some_taken (slice_get (filled space) metaslab) (t % metaslab_sectors space.shape) sector in
    let before = fewer at (record {
      space = space;
      found = some.2;
      metaslab = taken.0;
      there = taken.1;
      used = taken_is_not_free (state taken.0 (t % metaslab_sectors space.shape)) taken.2;
    }) in
    let was = found_too later spaces some.0 space (sym shapes) some.2 in
    let same : before.space ≡ was.0 = same_some before.space was.0 (sym before.found ∙ was.1) in
    let shape : before.space.shape ≡ space.shape = ap (λ (s : VdevSpace). s.shape) same ∙ was.2 in
    let holds : is_taken_in (slice_get (filled before.space) metaslab) (t % metaslab_sectors space.shape) ≡ true =
    ap (λ (o : Option Space). is_taken_in o (t % metaslab_sectors space.shape)) before.there
    ∙ taken_not_free (state before.metaslab (t % metaslab_sectors space.shape)) before.used in
    any_at (λ (s : VdevSpace). is_in_vdev s.shape disk i && is_filled_sector s (sector_at s.shape disk i)) spaces some.0 before.space before.found
    (both (is_in_vdev before.space.shape disk i) (is_filled_sector before.space (sector_at before.space.shape disk i))
    (ap (λ (s : VdevShape). is_in_vdev s disk i) shape ∙ inside)
    (ap (λ (s : VdevShape). is_taken_in (slice_get (filled before.space) (sector_at s disk i / metaslab_sectors s)) (sector_at s disk i % metaslab_sectors s)) shape ∙ holds))

-- what is filled is for blocks of vdevs of the same shapes
pub filled_for_blocks : (spaces later : List VdevSpace) (disk i : ℕ) → shapes_of later ≡ shapes_of spaces → is_filled later disk i ≡ true → is_for_blocks spaces disk i ≡ true
filled_for_blocks spaces later disk i shapes is =
    let some = any_from (λ (s : VdevSpace). is_in_vdev s.shape disk i && is_filled_sector s (sector_at s.shape disk i)) later is in
    let inside : is_in_vdev some.1.shape disk i ≡ true = first_of (is_in_vdev some.1.shape disk i) (is_filled_sector some.1 (sector_at some.1.shape disk i)) some.3 in
    let was = found_too later spaces some.0 some.1 (sym shapes) some.2 in
    any_at (λ (s : VdevSpace). is_in_vdev s.shape disk i) spaces some.0 was.0 was.1 (ap (λ (s : VdevShape). is_in_vdev s disk i) was.2 ∙ inside)
