-- Places that are taken.
use Rattle.std.proofs.Common.{Bool, true, false, if◌then◌else◌, ℕ, zero, suc, ◌≡◌, ◌≢◌, ◌⊎◌, inl, inr, ◌+◌, ◌*◌, ◌/◌, ◌%◌, ◌<◌, ◌≤◌, Some, List, [], ◌∷◌, ◌++◌, length, refl, sym, ap, subst, ◌∙◌, arith, mul-le-mul_right}
use Rattle.std.specs.Prelude.{slice_set, map}
use Rattle.std.proofs.lemmas.Bool.{cases_lt, cases_eq}
use Rattle.std.proofs.lemmas.List.{length-map}
use Rattle.std.specs.List.{slice_get}
use Rattle.std.proofs.lemmas.Nat.{div-add-mod'}
use Rattle.block_pointer.specs.declared.block.Block.{Block}
use Rattle.block_pointer.specs.declared.dva.Dva.{Dva}
use Rattle.block_pointer.specs.Copies.{dvas}
use Rattle.raidz_io.specs.declared.vdev.Extent.{Extent}
use Rattle.raidz_io.proofs.Written.{same_some}
use Rattle.block_store.specs.declared.shape.VdevShape.{VdevShape}
use Rattle.block_store.specs.Spaces.{VdevSpace}
use Rattle.block_store.specs.Blocks.{Contents}
use Rattle.block_store.specs.Places.{Marks, shapes_of, planned, run_at, EachSector, IsNotFree, IsTaken, IsCopy, IsExtentAt, ArePlacesApart, IsPlaceFor, ArePlacesIn, IsLaidOut, IsChosen, IsTakenToo, AreChosen}
use Rattle.block_store.specs.Places.{filled as filled_marks}
use Rattle.raidz_io.specs.Places.{HasRoom}
use Rattle.space_map.specs.declared.entry.Run.{Run}
use Rattle.space_map.specs.Sectors.{names}
use Rattle.space_map.proofs.RunLemmas.{is_named}
use Rattle.metaslab.specs.Space.{Space, state}
use Rattle.metaslab.specs.State.{Free, InUse}
use Rattle.metaslab.specs.Spaces.{ChangesIn}
use Rattle.block_store.proofs.Sizes.{asize_some}
use Rattle.block_store.specs.Shapes.{metaslab_sectors, metaslab_of, sector_of, IsPlace, IsInRegion}
use Rattle.block_store.specs.Store.{ArePlaced}

pub slice_get-set_same : {X : Type 0} (xs : List X) (i : ℕ) (x y : X) → slice_get (slice_set xs i x) i ≡ Some y → x ≡ y
slice_get-set_same [] i x y is = absurd (cc)
slice_get-set_same (z ∷ xs) zero x y is = same_some x y is
slice_get-set_same (z ∷ xs) (suc i) x y is = slice_get-set_same xs i x y is

pub slice_get-set_other : {X : Type 0} (xs : List X) (i k : ℕ) (x : X) → i ≢ k → slice_get (slice_set xs i x) k ≡ slice_get xs k
slice_get-set_other [] i k x differ = refl
slice_get-set_other (z ∷ xs) zero zero x differ = absurd (differ refl)
slice_get-set_other (z ∷ xs) zero (suc k) x differ = refl
slice_get-set_other (z ∷ xs) (suc i) zero x differ = refl
slice_get-set_other (z ∷ xs) (suc i) (suc k) x differ = slice_get-set_other xs i k x (λ same. differ (ap suc same))

pub slice_get-set_found : {X : Type 0} (xs : List X) (i : ℕ) (x y : X) → slice_get xs i ≡ Some x → slice_get (slice_set xs i y) i ≡ Some y
slice_get-set_found [] i x y found = absurd (cc)
slice_get-set_found (z ∷ xs) zero x y found = refl
slice_get-set_found (z ∷ xs) (suc i) x y found = slice_get-set_found xs i x y found

-- what is the same of both spaces is the same of all
pub map-set_same : {X : Type 0} (f : VdevSpace → X) (spaces : List VdevSpace) (v : ℕ) (space new : VdevSpace) → slice_get spaces v ≡ Some space → f new ≡ f space
    → map f (slice_set spaces v new) ≡ map f spaces
map-set_same f [] v space new found same = refl
map-set_same f (s ∷ spaces) zero space new found same = ap (λ x. x ∷ map f spaces) (same ∙ ap f (sym (same_some s space found)))
map-set_same f (s ∷ spaces) (suc v) space new found same = ap (λ xs. f s ∷ xs) (map-set_same f spaces v space new found same)

-- the vdev is there in both
pub found_too : (spaces after : List VdevSpace) (v : ℕ) (space : VdevSpace) → shapes_of after ≡ shapes_of spaces → slice_get spaces v ≡ Some space
    → (new : VdevSpace) × (slice_get after v ≡ Some new) × (new.shape ≡ space.shape)
found_too [] after v space shapes found = absurd (cc)
found_too (s ∷ spaces) [] v space shapes found = absurd (cc)
found_too (s ∷ spaces) (a ∷ after) zero space shapes found =
    let head : a.shape ≡ s.shape = cc in
    let is : s ≡ space = same_some s space found in
    (a, refl, head ∙ ap (λ (x : VdevSpace). x.shape) is)
found_too (s ∷ spaces) (a ∷ after) (suc v) space shapes found =
    let rest : shapes_of after ≡ shapes_of spaces = cc in
    found_too spaces after v space rest found

-- in each metaslab no sector is free that was not
abbrev pub MoreTaken : List Space → List Space → Type 0
MoreTaken old new = (m : ℕ) (space : Space) → slice_get old m ≡ Some space
    → (later : Space) × (slice_get new m ≡ Some later) × ((s : ℕ) → state space s ≢ Free → state later s ≢ Free)

-- the vdevs are the same, and no sector is free that was not
pub record Grows (spaces after : List VdevSpace) (marks later : Marks) : Type 0 where
  pub shapes : shapes_of after ≡ shapes_of spaces
  pub more : (v : ℕ) (space new : VdevSpace) → slice_get spaces v ≡ Some space → slice_get after v ≡ Some new → MoreTaken (marks space) (later new)

pub taken_too : (spaces after : List VdevSpace) (marks later : Marks) (sectors : ℕ) (place : Dva) → Grows spaces after marks later
    → IsTaken spaces marks sectors place → IsTaken after later sectors place
taken_too spaces after marks later sectors place grows taken =
    let there = found_too spaces after place.vdev taken.space grows.shapes taken.found in
    let new : VdevSpace = there.0 in
    let P : VdevShape → Type 0 = λ shape. IsPlace shape sectors place in
    let Q : VdevShape → Type 0 = λ shape. EachSector IsNotFree (later new) shape place in
    let more = grows.more place.vdev taken.space new taken.found there.1 (metaslab_of taken.space.shape place) taken.not_free.metaslab taken.not_free.found in
    let held : Q taken.space.shape = record {
      metaslab = more.0;
      found = more.1;
      each = λ s named. more.2 s (taken.not_free.each s named);
    } in
    record {
      space = new;
      found = there.1;
      is_place = subst P (sym there.2) taken.is_place;
      not_free = subst Q (sym there.2) held;
    }

-- an extent is that of its place by the vdevs alone
pub extent_too : (spaces after : List VdevSpace) (sectors : ℕ) (place : Dva) (extent : Extent) → shapes_of after ≡ shapes_of spaces
    → IsExtentAt spaces sectors place extent → IsExtentAt after sectors place extent
extent_too spaces after sectors place extent shapes at =
    let there = found_too spaces after place.vdev at.space shapes at.found in
    record {
      space = there.0;
      found = there.1;
      vdev = at.vdev ∙ ap (λ (s : VdevShape). s.vdev) (sym there.2);
      start = at.start;
      sectors_are = at.sectors_are;
    }

pub copy_too : (spaces after : List VdevSpace) (block : Block) (i : ℕ) (extent : Extent) → shapes_of after ≡ shapes_of spaces
    → IsCopy spaces block i extent → IsCopy after block i extent
copy_too spaces after block i extent shapes copy = record {
  place = copy.place;
  is_copy = copy.is_copy;
  extent_is = extent_too spaces after block.property.sectors copy.place extent shapes copy.extent_is;
}

-- a place stays in its region, by the vdevs alone
pub place_for_too : (spaces after : List VdevSpace) (sectors copies : ℕ) (place : Dva) → shapes_of after ≡ shapes_of spaces → IsPlaceFor spaces sectors copies place
    → IsPlaceFor after sectors copies place
place_for_too spaces after sectors copies place shapes is =
    let there = found_too spaces after place.vdev is.is_in.space shapes is.is_in.found in
    record {
      is_in = record { space = there.0; found = there.1; is_place = subst (λ (shape : VdevShape). IsPlace shape sectors place) (sym there.2) is.is_in.is_place };
      region = subst (λ (shape : VdevShape). IsInRegion shape copies (metaslab_of shape place)) (sym there.2) is.region;
    }

pub places_too : (spaces after : List VdevSpace) (sectors : ℕ) (places : List Dva) → shapes_of after ≡ shapes_of spaces → ArePlacesIn spaces sectors places
    → ArePlacesIn after sectors places
places_too spaces after sectors places shapes are place among = place_for_too spaces after sectors (length places) place shapes (are place among)

pub placed_too : (spaces after : List VdevSpace) (marks later : Marks) (contents : Contents) → Grows spaces after marks later
    → ArePlaced spaces marks contents → ArePlaced after later contents
placed_too spaces after marks later contents grows placed = record {
  blocks = placed.blocks;
  places = λ block bytes i place known at. taken_too spaces after marks later block.property.sectors place grows (placed.places block bytes i place known at);
  regions = λ block bytes known. places_too spaces after block.property.sectors (dvas block.copies) grows.shapes (placed.regions block bytes known);
  apart = placed.apart;
}

-- what ends in its metaslab ends before the next
pub ends_before : (a b n size : ℕ) → a / size < b / size → a % size + n ≤ size → a + n ≤ b
ends_before a b n size less fits =
    let split : a / size * size + a % size ≡ a = div-add-mod' a size in
    let split' : b / size * size + b % size ≡ b = div-add-mod' b size in
    let next : (suc (a / size)) * size ≤ (b / size) * size = mul-le-mul_right size less in
    omega (arith, split, split', fits, next)

-- two runs with sectors have one in common, or are apart
pub common_sector : (run other : Run) → 0 < run.len → 0 < other.len
    → ((s : ℕ) × (names run s ≡ true) × (names other s ≡ true)) ⊎ ((run.start + run.len ≤ other.start) ⊎ (other.start + other.len ≤ run.start))
common_sector run other some some' = elim (cases_lt other.start run.start) [
  | inl before ↦ elim (cases_lt run.start (other.start + other.len)) [
    | inl within ↦ inl (run.start, is_named run run.start (omega arith) (omega (arith, some)), is_named other run.start (omega (arith, before)) within)
    | inr past ↦ inr (inr (omega (arith, past)))
  ]
  | inr after ↦ elim (cases_lt other.start (run.start + run.len)) [
    | inl within ↦ inl (other.start, is_named run other.start (omega (arith, after)) within, is_named other other.start (omega arith) (omega (arith, some')))
    | inr past ↦ inr (inl (omega (arith, past)))
  ]
]

-- what is free is apart from what is not
pub apart_from_taken : (spaces : List VdevSpace) (taken : List Dva) (sectors copies sectors' : ℕ) (place other : Dva) → 0 < place.allocated → 0 < other.allocated
    → IsChosen spaces taken sectors copies place → IsTaken spaces planned sectors' other → ArePlacesApart place other
apart_from_taken spaces taken sectors copies sectors' place other some some' chosen is =
    elim (cases_lt place.vdev other.vdev) [
      | inl less ↦ inl (λ same. absurd (omega (arith, less, same)))
      | inr not_less ↦ elim (cases_lt other.vdev place.vdev) [
        | inl less ↦ inl (λ same. absurd (omega (arith, less, same)))
        | inr neither ↦
            let same_vdev : other.vdev ≡ place.vdev = omega (arith, not_less, neither) in
            let same : is.space ≡ chosen.space = same_some is.space chosen.space (sym is.found ∙ ap (λ n. slice_get spaces n) same_vdev ∙ chosen.found) in
            let shape : VdevShape = chosen.space.shape in
            let size : ℕ = metaslab_sectors shape in
            let P : VdevSpace → Type 0 = λ s. EachSector IsNotFree (planned s) s.shape other in
            let Q : VdevSpace → Type 0 = λ s. sector_of s.shape other + other.allocated ≤ metaslab_sectors s.shape in
            let held : P chosen.space = subst P same is.not_free in
            let within : Q chosen.space = subst Q same is.is_place.one in
            elim (cases_lt (metaslab_of shape place) (metaslab_of shape other)) [
              | inl before ↦ inr (inl (ends_before place.offset other.offset place.allocated size before chosen.free.is_place.one))
              | inr not_before ↦ elim (cases_lt (metaslab_of shape other) (metaslab_of shape place)) [
                | inl after ↦ inr (inr (ends_before other.offset place.offset other.allocated size after within))
                | inr one ↦
                    let same_slab : metaslab_of shape other ≡ metaslab_of shape place = omega (arith, not_before, one) in
                    let metaslab : held.metaslab ≡ chosen.free.free.metaslab = same_some held.metaslab chosen.free.free.metaslab
                    (sym held.found ∙ ap (λ n. slice_get (planned chosen.space) n) same_slab ∙ chosen.free.free.found) in
                    let split : other.offset / size * size + other.offset % size ≡ other.offset = div-add-mod' other.offset size in
                    let split' : place.offset / size * size + place.offset % size ≡ place.offset = div-add-mod' place.offset size in
                    let rows : other.offset / size * size ≡ place.offset / size * size = ap (λ n. n * size) same_slab in
                    elim (common_sector (run_at shape place) (run_at shape other) some some') [
                      | inl (s, named, named') ↦
                          absurd (held.each s named' (ap (λ (m : Space). state m s) metaslab ∙ chosen.free.free.each s named))
                      | inr (inl before) ↦ inr (inl (omega (arith, before, split, split', rows)))
                      | inr (inr after) ↦ inr (inr (omega (arith, after, split, split', rows)))
                    ]
              ]
            ]
      ]
    ]

-- a place that is taken too
pub record Step (spaces : List VdevSpace) (sectors : ℕ) (place : Dva) (after : List VdevSpace) : Type 0 where
  pub grows : Grows spaces after planned planned
  pub taken : IsTaken after planned sectors place
  pub apart : 0 < place.allocated → (sectors' : ℕ) (other : Dva) → 0 < other.allocated → IsTaken spaces planned sectors' other → ArePlacesApart place other

-- a space in place of another of the same shape
pub shapes_stay : (spaces after : List VdevSpace) (place : Dva) → IsTakenToo spaces place after → shapes_of after ≡ shapes_of spaces
shapes_stay spaces after place too =
    ap shapes_of too.rest ∙ map-set_same (λ s. s.shape) spaces place.vdev too.space (record too.space { planned = too.later }) too.found refl

pub fills_nothing : (spaces after : List VdevSpace) (place : Dva) → IsTakenToo spaces place after → map filled_marks after ≡ map filled_marks spaces
fills_nothing spaces after place too =
    ap (map filled_marks) too.rest ∙ map-set_same filled_marks spaces place.vdev too.space (record too.space { planned = too.later }) too.found refl

-- metaslabs of which nothing changed
same_taken : (spaces : List Space) → MoreTaken spaces spaces
same_taken spaces m space found = (space, found, λ s is. is)

if_yes : {X : Type 0} (test : Bool) (x y : X) → test ≡ true → (if test then x else y) ≡ x
if_yes true x y is = refl
if_yes false x y is = absurd (cc)

if_no : {X : Type 0} (test : Bool) (x y : X) → test ≡ false → (if test then x else y) ≡ y
if_no true x y is = absurd (cc)
if_no false x y is = refl

either : (test : Bool) → (test ≡ true) ⊎ (test ≡ false)
either true = inl refl
either false = inr refl

in_use_is_not_free : ¬ (InUse ≡ Free)
in_use_is_not_free is = absurd (cc)

-- what goes from one use to another that is not free
changes_take : (old new : List Space) (metaslab : ℕ) (run : Run) → ChangesIn old new metaslab run Free InUse → MoreTaken old new
changes_take old new metaslab run change m space found = elim (cases_eq m metaslab) [
  | inr other ↦ (space, ap (λ xs. slice_get xs m) change.rest ∙ slice_get-set_other old metaslab m change.later (λ is. other (sym is)) ∙ found, λ s is. is)
  | inl this ↦
      let same : change.space ≡ space = same_some change.space space (sym change.found ∙ ap (λ n. slice_get old n) (sym this) ∙ found) in (
        change.later,
        ap (λ xs. slice_get xs m) change.rest ∙ ap (λ n. slice_get (slice_set old metaslab change.later) n) this ∙ slice_get-set_found old metaslab change.space change.later change.found,
        λ s is free. elim (either (names run s)) [
          | inl named ↦ in_use_is_not_free (sym (change.changes.states s ∙ if_yes (names run s) InUse (state change.space s) named) ∙ free)
          | inr unnamed ↦ is (sym (ap (λ (x : Space). state x s) same) ∙ sym (change.changes.states s ∙ if_no (names run s) InUse (state change.space s) unnamed) ∙ free)
        ],
      )
]

pub step : (spaces : List VdevSpace) (taken : List Dva) (sectors copies : ℕ) (place : Dva) (after : List VdevSpace) → IsChosen spaces taken sectors copies place
    → IsTakenToo spaces place after → Step spaces sectors place after
step spaces taken sectors copies place after chosen too =
    let new : VdevSpace = record too.space { planned = too.later } in
    let at : slice_get after place.vdev ≡ Some new = ap (λ xs. slice_get xs place.vdev) too.rest ∙ slice_get-set_found spaces place.vdev too.space new too.found in
    let same : chosen.space ≡ too.space = same_some chosen.space too.space (sym chosen.found ∙ too.found) in
    let P : VdevSpace → Type 0 = λ s. IsPlace s.shape sectors place in
    let change = too.taken in
    record {
      grows = record {
        shapes = shapes_stay spaces after place too;
        more = λ v space behind found found'. elim (cases_eq v place.vdev) [
          | inr other ↦
              let same_space : behind ≡ space = same_some behind space
              (sym found' ∙ ap (λ xs. slice_get xs v) too.rest ∙ slice_get-set_other spaces place.vdev v new (λ is. other (sym is)) ∙ found) in
              subst (λ (s : VdevSpace). MoreTaken (planned space) (planned s)) (sym same_space) (same_taken (planned space))
          | inl this ↦
              let is_old : space ≡ too.space = same_some space too.space (sym found ∙ ap (λ n. slice_get spaces n) this ∙ too.found) in
              let is_new : behind ≡ new = same_some behind new (sym found' ∙ ap (λ n. slice_get after n) this ∙ at) in
              subst (λ (s : VdevSpace). MoreTaken (planned space) (planned s)) (sym is_new)
              (subst (λ (s : VdevSpace). MoreTaken (planned s) too.later) (sym is_old)
              (changes_take (planned too.space) too.later (metaslab_of too.space.shape place) (run_at too.space.shape place) change))
        ];
      };
      taken = record {
        space = new;
        found = at;
        is_place = subst P same chosen.free.is_place;
        not_free = record {
          metaslab = change.later;
          found = ap (λ xs. slice_get xs (metaslab_of too.space.shape place)) change.rest
              ∙ slice_get-set_found (planned too.space) (metaslab_of too.space.shape place) change.space change.later change.found;
          each = λ s named free. in_use_is_not_free
              (sym (change.changes.states s ∙ if_yes (names (run_at too.space.shape place) s) InUse (state change.space s) named) ∙ free);
        };
      };
      apart = λ some sectors' other some' is. apart_from_taken spaces taken sectors copies sectors' place other some some' chosen is;
    }

pub turned : (place other : Dva) → ArePlacesApart place other → ArePlacesApart other place
turned place other (inl differ) = inl (λ same. differ (sym same))
turned place other (inr (inl before)) = inr (inr before)
turned place other (inr (inr after)) = inr (inl after)

-- places that are taken one after the other
pub record AreTakenToo (spaces : List VdevSpace) (sectors : ℕ) (places : List Dva) (after : List VdevSpace) : Type 0 where
  pub grows : Grows spaces after planned planned
  pub filled_stays : map filled_marks after ≡ map filled_marks spaces
  pub taken : (i : ℕ) (place : Dva) → slice_get places i ≡ Some place → IsTaken after planned sectors place
  pub from_others : 0 < sectors → (i sectors' : ℕ) (place other : Dva) → 0 < other.allocated → slice_get places i ≡ Some place
      → IsTaken spaces planned sectors' other → ArePlacesApart place other
  pub apart : 0 < sectors → (i k : ℕ) (place other : Dva) → slice_get places i ≡ Some place → slice_get places k ≡ Some other → (i ≡ k) ⊎ ArePlacesApart place other

pub same_grows : (spaces : List VdevSpace) (marks : Marks) → Grows spaces spaces marks marks
same_grows spaces marks = record {
  shapes = refl;
  more = λ v space new found found'.
      let same : space ≡ new = same_some space new (sym found ∙ found') in
      subst (λ (s : VdevSpace). MoreTaken (marks space) (marks s)) same (same_taken (marks space));
}

pub grows_on : (spaces mid after : List VdevSpace) (marks later last : Marks) → Grows spaces mid marks later → Grows mid after later last → Grows spaces after marks last
grows_on spaces mid after marks later last first second = record {
  shapes = second.shapes ∙ first.shapes;
  more = λ v space new found found' m metaslab at.
      let there = found_too spaces mid v space first.shapes found in
      let one = first.more v space there.0 found there.1 m metaslab at in
      let two = second.more v there.0 new there.1 found' m one.0 one.1 in
      (two.0, two.1, λ s is. two.2 s (one.2 s is));
}

-- a place of a block with sectors has some
pub taken_some : (spaces : List VdevSpace) (marks : Marks) (sectors : ℕ) (place : Dva) → 0 < sectors → IsTaken spaces marks sectors place → 0 < place.allocated
taken_some spaces marks sectors place some is = omega (arith, is.is_place.allocated, asize_some is.space.shape.vdev.geometry sectors some)

pub are_taken : (spaces : List VdevSpace) (taken : List Dva) (sectors copies : ℕ) (places : List Dva) (after : List VdevSpace) → AreChosen spaces taken sectors copies places after
    → AreTakenToo spaces sectors places after
are_taken spaces taken sectors copies [] after is = record {
  grows = rw is (same_grows spaces planned);
  filled_stays = ap (map filled_marks) is;
  taken = λ i place at. absurd (cc);
  from_others = λ some i sectors' place other some' at. absurd (cc);
  apart = λ some i k place other at at'. absurd (cc);
}
are_taken spaces taken sectors copies (first ∷ places) after (chosen, mid, too, rest) =
    let one : Step spaces sectors first mid = step spaces taken sectors copies first mid chosen too in
    let others : AreTakenToo mid sectors places after = are_taken mid (taken ++ first ∷ []) sectors copies places after rest in
    record {
      grows = grows_on spaces mid after planned planned planned one.grows others.grows;
      filled_stays = others.filled_stays ∙ fills_nothing spaces mid first too;
      taken = taken_at one others;
      from_others = others_at one others;
      apart = apart_at one others;
    }
  where
    taken_at : Step spaces sectors first mid → AreTakenToo mid sectors places after → (i : ℕ) (place : Dva) → slice_get (first ∷ places) i ≡ Some place → IsTaken after planned sectors place
    taken_at one others zero place at =
        let is : first ≡ place = same_some first place at in
        subst (λ p. IsTaken after planned sectors p) is (taken_too mid after planned planned sectors first others.grows one.taken)
    taken_at one others (suc i) place at = others.taken i place at

    others_at : Step spaces sectors first mid → AreTakenToo mid sectors places after → 0 < sectors → (i sectors' : ℕ) (place other : Dva) → 0 < other.allocated
        → slice_get (first ∷ places) i ≡ Some place → IsTaken spaces planned sectors' other → ArePlacesApart place other
    others_at one others some zero sectors' place other some' at is =
        let same : first ≡ place = same_some first place at in
        subst (λ p. ArePlacesApart p other) same (one.apart (taken_some mid planned sectors first some one.taken) sectors' other some' is)
    others_at one others some (suc i) sectors' place other some' at is =
        others.from_others some i sectors' place other some' at (taken_too spaces mid planned planned sectors' other one.grows is)

    apart_at : Step spaces sectors first mid → AreTakenToo mid sectors places after → 0 < sectors → (i k : ℕ) (place other : Dva)
        → slice_get (first ∷ places) i ≡ Some place → slice_get (first ∷ places) k ≡ Some other → (i ≡ k) ⊎ ArePlacesApart place other
    apart_at one others some zero zero place other at at' = inl refl
    apart_at one others some zero (suc k) place other at at' =
        let same : first ≡ place = same_some first place at in
        inr (subst (λ p. ArePlacesApart p other) same
        (turned other first (others.from_others some k sectors other first (taken_some mid planned sectors first some one.taken) at' one.taken)))
    apart_at one others some (suc i) zero place other at at' =
        let same : first ≡ other = same_some first other at' in
        inr (subst (λ p. ArePlacesApart place p) same
        (others.from_others some i sectors place first (taken_some mid planned sectors first some one.taken) at one.taken))
    apart_at one others some (suc i) (suc k) place other at at' =
        elim (others.apart some i k place other at at') [ inl same ↦ inl (ap suc same) | inr are ↦ inr are ]

-- places that are chosen are in the region for such copies
pub chosen_for : (spaces : List VdevSpace) (taken : List Dva) (sectors copies : ℕ) (places : List Dva) (after : List VdevSpace)
    → AreChosen spaces taken sectors copies places after → (i : ℕ) (place : Dva) → slice_get places i ≡ Some place → IsPlaceFor after sectors copies place
chosen_for spaces taken sectors copies [] after is i place at = absurd (cc)
chosen_for spaces taken sectors copies (first ∷ places) after (chosen, mid, too, rest) zero place at =
    let here : IsPlaceFor spaces sectors copies first = record {
      is_in = record { space = chosen.space; found = chosen.found; is_place = chosen.free.is_place };
      region = chosen.free.region;
    } in
    let there = are_taken mid (taken ++ first ∷ []) sectors copies places after rest in
    subst (λ p. IsPlaceFor after sectors copies p) (same_some first place at)
    (place_for_too spaces after sectors copies first (there.grows.shapes ∙ shapes_stay spaces mid first too) here)
chosen_for spaces taken sectors copies (first ∷ places) after (chosen, mid, too, rest) (suc i) place at =
    chosen_for mid (taken ++ first ∷ []) sectors copies places after rest i place at

-- vdevs are laid out by their shapes alone
pub laid_out_too : (starts : List (List ℕ)) (spaces after : List VdevSpace) → shapes_of after ≡ shapes_of spaces → IsLaidOut starts spaces → IsLaidOut starts after
laid_out_too starts spaces after shapes laid = record {
  room = λ v space found.
      let there = found_too after spaces v space (sym shapes) found in
      let P : VdevShape → Type 0 = λ shape. HasRoom shape.vdev shape.child_sectors starts in
      subst P there.2 (laid.room v there.0 there.1);
  apart = λ v other space behind less found found'.
      let there = found_too after spaces v space (sym shapes) found in
      let there' = found_too after spaces other behind (sym shapes) found' in
      let before = laid.apart v other there.0 there'.0 less there.1 there'.1 in
      let P : VdevShape → Type 0 = λ shape. shape.vdev.first + shape.vdev.geometry.children ≤ there'.0.shape.vdev.first in
      let Q : VdevShape → Type 0 = λ shape. space.shape.vdev.first + space.shape.vdev.geometry.children ≤ shape.vdev.first in
      subst Q there'.2 (subst P there.2 before);
  few =
      let count : length after ≡ length spaces = sym (length-map after (λ (s : VdevSpace). s.shape)) ∙ ap length shapes ∙ length-map spaces (λ (s : VdevSpace). s.shape) in
      omega (arith, laid.few, count);
}
