-- No column is found twice.
use Rattle.std.proofs.Common.{ℕ, suc, ◌≡◌, ◌≢◌, inl, inr, ◌<◌, ◌+◌, Bool, Option, Some, None, List, [], ◌∷◌, ◌++◌, length, get_or, Contains, All, AllPairs, sym, ap, subst, ◌∙◌, arith}
use Rattle.std.specs.Prelude.{slice_index_or}
use Rattle.std.proofs.lemmas.List.Elements.{All-append, Contains-append_left, Contains-append_right, Contains-append_cases, Contains-get_or}
use Rattle.std.proofs.lemmas.List.Kept.{AllPairs-cons}
use Rattle.std.proofs.lemmas.Option.{slice_get-get_or}
use Rattle.model_disk.specs.Joint.{Disks}
use Rattle.block_pointer.specs.declared.block.Block.{Block}
use Rattle.block_pointer.specs.declared.dva.Dva.{Dva}
use Rattle.block_pointer.specs.Copies.{dvas}
use Rattle.block_store.specs.Places.{ArePlacesApart}
use Rattle.block_store.specs.declared.shape.VdevShape.{VdevShape}
use Rattle.raidz_map.specs.declared.column.Column.{Column}
use Rattle.raidz_io.specs.declared.vdev.Extent.{Extent}
use Rattle.scrub_resilver.specs.Checking.{AreChecked, ArePlacesChecked, IsBlockChecked, IsPlaceChecked}
use Rattle.scrub_resilver.specs.Findings.{AreOfSameColumn, ApartBlocksHaveOwnPlaces, AreSamePlace, ColumnsAreFoundOnce, all_places}
use Rattle.scrub_resilver.specs.Looking.{finding, findings_from}
use Rattle.scrub_resilver.specs.declared.fault.Fault.{Fault}
use Rattle.scrub_resilver.specs.declared.fault.Finding.{Finding}
use Rattle.scrub_resilver.proofs.Faults.{IsFindingFrom, IsOfPlace, cases_in, finding_from, held_there, none_there, place_found, there_first, there_later}

-- ---- pairs of lists

all_from : {X : Type 0} (P : X → Type 0) (xs : List X) → ((x : X) → Contains xs x → P x) → All P xs
all_from P xs each = λ k d within. each (slice_index_or xs k d) (Contains-get_or xs k d within)

pairs_none : {X : Type 0} (R : X → X → Type 0) → AllPairs R []
pairs_none R = λ i j d before within. absurd (omega (arith, within))

pub pairs_head : {X : Type 0} (R : X → X → Type 0) (x : X) (xs : List X) (y : X) → AllPairs R (x ∷ xs) → Contains xs y → R x y
pairs_head R x xs y all held = subst (R x) held.2 (all 0 (suc held.0) y (omega arith) (omega (arith, held.1)))

pub pairs_tail : {X : Type 0} (R : X → X → Type 0) (x : X) (xs : List X) → AllPairs R (x ∷ xs) → AllPairs R xs
pairs_tail R x xs all = λ i j d before within. all (suc i) (suc j) d (omega (arith, before)) (omega (arith, within))

pairs_front : {X : Type 0} (R : X → X → Type 0) (xs ys : List X) → AllPairs R (xs ++ ys) → AllPairs R xs
pairs_front R [] ys all = pairs_none R
pairs_front R (x ∷ xs) ys all =
    AllPairs-cons R x xs (all_from (R x) xs (λ y held. pairs_head R x (xs ++ ys) y all (Contains-append_left xs ys y held)))
    (pairs_front R xs ys (pairs_tail R x (xs ++ ys) all))

pairs_back : {X : Type 0} (R : X → X → Type 0) (xs ys : List X) → AllPairs R (xs ++ ys) → AllPairs R ys
pairs_back R [] ys all = all
pairs_back R (x ∷ xs) ys all = pairs_back R xs ys (pairs_tail R x (xs ++ ys) all)

pairs_cross : {X : Type 0} (R : X → X → Type 0) (xs ys : List X) (x y : X) → AllPairs R (xs ++ ys) → Contains xs x → Contains ys y → R x y
pairs_cross R [] ys x y all held held' = absurd (none_there x held)
pairs_cross {X = X} R (z ∷ xs) ys x y all held held' = elim (cases_in z xs x held) [
  | inl is ↦ subst (λ (it : X). R it y) (sym is) (pairs_head R z (xs ++ ys) y all (Contains-append_right xs ys y held'))
  | inr there ↦ pairs_cross R xs ys x y (pairs_tail R z (xs ++ ys) all) there held'
]

pairs_append : {X : Type 0} (R : X → X → Type 0) (xs ys : List X) → AllPairs R xs → AllPairs R ys
    → ((x y : X) → Contains xs x → Contains ys y → R x y) → AllPairs R (xs ++ ys)
pairs_append R [] ys one other cross = other
pairs_append R (x ∷ xs) ys one other cross =
    AllPairs-cons R x (xs ++ ys)
    (All-append (R x) xs ys (all_from (R x) xs (λ y held. pairs_head R x xs y one held)) (all_from (R x) ys (λ y held. cross x y (there_first x xs) held)))
    (pairs_append R xs ys (pairs_tail R x xs one) other (λ z y held held'. cross z y (there_later x xs z held) held'))

-- ---- findings

-- those of one copy are of columns in order
copy_once : (vdev : ℕ) (extent : Extent) (j : ℕ) (layout : List Column) (faults : List (Option Fault))
    → AllPairs (λ one other. ¬ AreOfSameColumn one other) (findings_from vdev extent j layout faults)
copy_once vdev extent j [] faults = pairs_none (λ (one other : Finding). ¬ AreOfSameColumn one other)
copy_once vdev extent j (c ∷ layout) [] = pairs_none (λ (one other : Finding). ¬ AreOfSameColumn one other)
copy_once vdev extent j (c ∷ layout) (None ∷ faults) = copy_once vdev extent (j + 1) layout faults
copy_once vdev extent j (c ∷ layout) (Some fault ∷ faults) =
    let first : Finding = finding vdev extent j c fault in
    let rest : List Finding = findings_from vdev extent (j + 1) layout faults in
    AllPairs-cons (λ (one other : Finding). ¬ AreOfSameColumn one other) first rest
    (all_from (λ (other : Finding). ¬ AreOfSameColumn first other) rest (λ other held same.
    let from : IsFindingFrom vdev extent (j + 1) layout faults other = finding_from vdev extent (j + 1) layout faults other held in
    omega (arith, same.2, ap (λ (f : Finding). f.column) from.is)))
    (copy_once vdev extent (j + 1) layout faults)

-- the finding is of what begins there
abbrev StartsAt : Finding → Dva → Type 0
StartsAt one place = (one.vdev ≡ place.vdev) × (one.start ≡ place.offset)

starts_at : (shapes : List VdevShape) (old new : Disks) (missing : List ℕ) (sectors : ℕ) (known : Bool) (block : List ℕ) (place : Dva) (own : List Finding)
    (one : Finding) → IsPlaceChecked shapes old new missing sectors known block place own → Contains own one → StartsAt one place
starts_at shapes old new missing sectors known block place own one (extent, at, copy) held =
    let from : IsFindingFrom place.vdev extent 0 copy.layout copy.faults one =
    finding_from place.vdev extent 0 copy.layout copy.faults one (subst (λ (fs : List Finding). Contains fs one) copy.found_are held) in
    (ap (λ (f : Finding). f.vdev) from.is, ap (λ (f : Finding). f.start) from.is ∙ at.start)

-- findings of two places are of two columns
apart_by : (one other : Finding) (place place' : Dva) → StartsAt one place → StartsAt other place' → ¬ AreSamePlace place place' → ¬ AreOfSameColumn one other
apart_by one other place place' at at' differ same = differ (sym at.0 ∙ same.0 ∙ at'.0, sym at.1 ∙ same.1 ∙ at'.1)

place_once : (shapes : List VdevShape) (old new : Disks) (missing : List ℕ) (sectors : ℕ) (known : Bool) (block : List ℕ) (place : Dva) (own : List Finding)
    → IsPlaceChecked shapes old new missing sectors known block place own → AllPairs (λ one other. ¬ AreOfSameColumn one other) own
place_once shapes old new missing sectors known block place own (extent, at, copy) =
    subst (λ (fs : List Finding). AllPairs (λ one other. ¬ AreOfSameColumn one other) fs) (sym copy.found_are)
    (copy_once place.vdev extent 0 copy.layout copy.faults)

places_once : (shapes : List VdevShape) (old new : Disks) (missing : List ℕ) (sectors : ℕ) (known : Bool) (block : List ℕ) (places : List Dva) (found : List Finding)
    → ArePlacesChecked shapes old new missing sectors known block places found → AllPairs (λ place other. ¬ AreSamePlace place other) places
    → AllPairs (λ one other. ¬ AreOfSameColumn one other) found
places_once shapes old new missing sectors known block [] found are differ =
    subst (λ (fs : List Finding). AllPairs (λ one other. ¬ AreOfSameColumn one other) fs) (sym are)
    (pairs_none (λ (one other : Finding). ¬ AreOfSameColumn one other))
places_once shapes old new missing sectors known block (place ∷ places) found (here, rest, parts, is, are) differ =
    subst (λ (fs : List Finding). AllPairs (λ one other. ¬ AreOfSameColumn one other) fs) (sym parts)
    (pairs_append (λ (one other : Finding). ¬ AreOfSameColumn one other) here rest
    (place_once shapes old new missing sectors known block place here is)
    (places_once shapes old new missing sectors known block places rest are
    (pairs_tail (λ (p other : Dva). ¬ AreSamePlace p other) place places differ))
    (λ one other held held'.
    let of : IsOfPlace shapes old new missing sectors known block places other = place_found shapes old new missing sectors known block places rest other are held' in
    apart_by one other place of.place (starts_at shapes old new missing sectors known block place here one is held)
    (starts_at shapes old new missing sectors known block of.place of.own other of.checked of.held)
    (pairs_head (λ (p other : Dva). ¬ AreSamePlace p other) place places of.place differ of.is_one)))

-- each finding is of what begins at one of the places
pub record IsAtPlace (places : List Dva) (one : Finding) : Type 0 where
  pub place : Dva
  pub is_one : Contains places place
  pub starts : StartsAt one place

at_place : (shapes : List VdevShape) (old new : Disks) (missing : List ℕ) (block : Block) (own : List Finding) (one : Finding)
    → IsBlockChecked shapes old new missing block own → Contains own one → IsAtPlace (dvas block.copies) one
at_place shapes old new missing block own one checked held =
    let of : IsOfPlace shapes old new missing block.property.sectors checked.known checked.content (dvas block.copies) one =
    place_found shapes old new missing block.property.sectors checked.known checked.content (dvas block.copies) own one checked.copies held in
    record {
      place = of.place;
      is_one = of.is_one;
      starts = starts_at shapes old new missing block.property.sectors checked.known checked.content of.place of.own one of.checked of.held;
    }

at_places : (shapes : List VdevShape) (old new : Disks) (missing : List ℕ) (blocks : List Block) (found : List Finding) (one : Finding)
    → AreChecked shapes old new missing blocks found → Contains found one → IsAtPlace (all_places blocks) one
at_places shapes old new missing [] found one are held = absurd (none_there one (subst (λ (fs : List Finding). Contains fs one) are held))
at_places shapes old new missing (block ∷ blocks) found one (here, rest, parts, is, are) held =
    elim (Contains-append_cases here rest one (subst (λ (fs : List Finding). Contains fs one) parts held)) [
      | inl mine ↦
          let at : IsAtPlace (dvas block.copies) one = at_place shapes old new missing block here one is mine in
          record { place = at.place; is_one = Contains-append_left (dvas block.copies) (all_places blocks) at.place at.is_one; starts = at.starts }
      | inr later ↦
          let at : IsAtPlace (all_places blocks) one = at_places shapes old new missing blocks rest one are later in
          record { place = at.place; is_one = Contains-append_right (dvas block.copies) (all_places blocks) at.place at.is_one; starts = at.starts }
    ]

pub found_once : ColumnsAreFoundOnce
found_once shapes old new missing [] found are differ =
    subst (λ (fs : List Finding). AllPairs (λ one other. ¬ AreOfSameColumn one other) fs) (sym are)
    (pairs_none (λ (one other : Finding). ¬ AreOfSameColumn one other))
found_once shapes old new missing (block ∷ blocks) found (here, rest, parts, is, are) differ =
    subst (λ (fs : List Finding). AllPairs (λ one other. ¬ AreOfSameColumn one other) fs) (sym parts)
    (pairs_append (λ (one other : Finding). ¬ AreOfSameColumn one other) here rest
    (places_once shapes old new missing block.property.sectors is.known is.content (dvas block.copies) here is.copies
    (pairs_front (λ (p other : Dva). ¬ AreSamePlace p other) (dvas block.copies) (all_places blocks) differ))
    (found_once shapes old new missing blocks rest are
    (pairs_back (λ (p other : Dva). ¬ AreSamePlace p other) (dvas block.copies) (all_places blocks) differ))
    (λ one other held held'.
    let at : IsAtPlace (dvas block.copies) one = at_place shapes old new missing block here one is held in
    let at' : IsAtPlace (all_places blocks) other = at_places shapes old new missing blocks rest other are held' in
    apart_by one other at.place at'.place at.starts at'.starts
    (pairs_cross (λ (p other : Dva). ¬ AreSamePlace p other) (dvas block.copies) (all_places blocks) at.place at'.place differ at.is_one at'.is_one)))

-- ---- blocks that lie apart

apart_begin : (place other : Dva) → 0 < place.allocated → 0 < other.allocated → ArePlacesApart place other → ¬ AreSamePlace place other
apart_begin place other some some' apart same = elim apart [
  | inl differ ↦ differ same.0
  | inr (inl before) ↦ omega (arith, before, some, same.1)
  | inr (inr behind) ↦ omega (arith, behind, some', same.1)
]

-- whose copy lies at a place
pub record IsOfOne (blocks : List Block) (place : Dva) : Type 0 where
  pub block : Block
  pub is_one : Contains blocks block
  pub is_copy : Contains (dvas block.copies) place

of_one : (blocks : List Block) (place : Dva) → Contains (all_places blocks) place → IsOfOne blocks place
of_one [] place held = absurd (none_there place held)
of_one (block ∷ blocks) place held = elim (Contains-append_cases (dvas block.copies) (all_places blocks) place held) [
  | inl mine ↦ record { block = block; is_one = there_first block blocks; is_copy = mine }
  | inr later ↦
      let of : IsOfOne blocks place = of_one blocks place later in
      record { block = of.block; is_one = there_later block blocks of.block of.is_one; is_copy = of.is_copy }
]

pub own_places : ApartBlocksHaveOwnPlaces
own_places [] differ apart some = pairs_none (λ (p other : Dva). ¬ AreSamePlace p other)
own_places (block ∷ blocks) differ apart some =
    let places : List Dva = dvas block.copies in
    let first : Contains (block ∷ blocks) block = there_first block blocks in
    pairs_append (λ (p other : Dva). ¬ AreSamePlace p other) places (all_places blocks)
    (λ i k d before within.
    let within' : i < length places = omega (arith, before, within) in
    elim (apart block block i k (get_or places i d) (get_or places k d) first first (slice_get-get_or places i d within') (slice_get-get_or places k d within)) [
      | inl same ↦ absurd (omega (arith, before, same.1))
      | inr apart' ↦
          apart_begin (get_or places i d) (get_or places k d) (some block (get_or places i d) first (Contains-get_or places i d within'))
          (some block (get_or places k d) first (Contains-get_or places k d within)) apart'
    ])
    (own_places blocks (pairs_tail (λ (b later : Block). b ≢ later) block blocks differ)
    (λ b other i k place behind held held'. apart b other i k place behind (there_later block blocks b held) (there_later block blocks other held'))
    (λ b place held. some b place (there_later block blocks b held)))
    (λ place other held held'.
    let of : IsOfOne blocks other = of_one blocks other held' in
    let (i, at) = held_there places place held in
    let (k, at') = held_there (dvas of.block.copies) other of.is_copy in
    let later : Contains (block ∷ blocks) of.block = there_later block blocks of.block of.is_one in
    elim (apart block of.block i k place other first later at at') [
      | inl same ↦ absurd (pairs_head (λ (b later : Block). b ≢ later) block blocks of.block differ of.is_one same.0)
      | inr apart' ↦ apart_begin place other (some block place first held) (some of.block other later of.is_copy) apart'
    ])
