-- A place that is taken in a metaslab.
use Rattle.std.proofs.Common.{ℕ, suc, ◌≡◌, inl, inr, ◌+◌, ◌*◌, ◌^◌, ◌<◌, ◌≤◌, Bool, true, false, Option, Some, None, List, length, All, Result, Ok, Err, refl, sym, ap, subst, ◌∙◌, arith, mul-le-mul_right, mul-le-mul}
use Rattle.std.specs.Prelude.{slice_set, IfOk, OnOk, OnErr, IsSomeAnd, ◌↔◌}
use Rattle.std.specs.Bool.{OnTrue, OnFalse}
use Rattle.std.specs.List.{slice_get}
use Rattle.std.proofs.lemmas.List.{length-set}
use Rattle.std.proofs.lemmas.List.Elements.{All-set}
use Rattle.std.proofs.lemmas.Option.{slice_get_within, get_or_from_slice_get}
use Rattle.std.proofs.Math.Nat.{div-mul-le_self}
use Rattle.block_pointer.specs.declared.dva.Dva.{Dva}
use Rattle.raidz_io.proofs.Written.{slice_get_some}
use Rattle.space_map.specs.declared.entry.Run.{Run}
use Rattle.metaslab.specs.Space.{Space, sectors_of}
use Rattle.metaslab.specs.State.{State, Free, InUse}
use Rattle.metaslab.specs.Calls.{IsRunOf}
use Rattle.metaslab.specs.Spaces.{GroupSpaces, IsFreeIn, IsInUseIn, ChangesIn, AreSettled, AreSettledInPart}
use Rattle.block_store.specs.declared.shape.VdevShape.{VdevShape}
use Rattle.block_store.specs.Spaces.{VdevSpace, AreMetaslabsOf}
use Rattle.block_store.specs.Places.{run_at, EachSector, IsFree, IsTakenIn}
use Rattle.block_store.specs.Shapes.{vdev_sectors, metaslab_sectors, metaslabs, metaslab_of, sector_of, IsPlace}
use Rattle.block_store.specs.Uses.{IsInUse}
use Rattle.block_store.proofs.Sizes.{asize_some}

pub sized_at : (spaces : List Space) (size m : ℕ) (space : Space) → All (λ s. sectors_of s ≡ size) spaces → slice_get spaces m ≡ Some space → sectors_of space ≡ size
sized_at spaces size m space all found =
    subst (λ s. sectors_of s ≡ size) (get_or_from_slice_get spaces m space space found) (all m space (slice_get_within spaces m space found))

-- metaslabs of which a run changes are as many, and as large
pub still_metaslabs : (shape : VdevShape) (old new : List Space) (m : ℕ) (run : Run) → ChangesIn old new m run Free InUse → AreMetaslabsOf shape old → AreMetaslabsOf shape new
still_metaslabs shape old new m run change is =
    let size : ℕ = metaslab_sectors shape in (
      ap length change.rest ∙ length-set old m change.later ∙ is.0,
      subst (λ xs. All (λ s. sectors_of s ≡ size) xs) (sym change.rest)
          (All-set (λ s. sectors_of s ≡ size) old m change.later (change.changes.sectors ∙ sized_at old size m change.space is.1 change.found) is.1),
    )

-- the run lies in the metaslab
pub within : (shape : VdevShape) (old new : List Space) (m start allocated : ℕ) → ChangesIn old new m (record { start = start; len = allocated }) Free InUse
    → AreMetaslabsOf shape old → start + allocated ≤ metaslab_sectors shape
within shape old new m start allocated change is = omega (arith, change.was.within, sized_at old (metaslab_sectors shape) m change.space is.1 change.found)

-- a vdev has few sectors
pub below_end : (shape : VdevShape) (metaslab start : ℕ) → metaslab < metaslabs shape → start ≤ metaslab_sectors shape
    → metaslab * metaslab_sectors shape + start < 2 ^ 64
below_end shape metaslab start there fits =
    let size : ℕ = metaslab_sectors shape in
    let next : suc metaslab * size ≤ metaslabs shape * size = mul-le-mul_right size there in
    let all : metaslabs shape * size ≤ vdev_sectors shape = div-mul-le_self (vdev_sectors shape) size in
    let small : shape.child_sectors ≤ 2 ^ 34 = omega (arith, shape.most_sectors) in
    let few : vdev_sectors shape ≤ 32 * 2 ^ 34 = mul-le-mul shape.vdev.geometry.most_children small in
    omega (arith, next, all, few, fits)

-- the run is that of the place
pub changes_at : (shape : VdevShape) (old new : List Space) (metaslab start : ℕ) (place : Dva) → metaslab_of shape place ≡ metaslab → sector_of shape place ≡ start
    → ChangesIn old new metaslab (record { start = start; len = place.allocated }) Free InUse
    → ChangesIn old new (metaslab_of shape place) (run_at shape place) Free InUse
changes_at shape old new metaslab start place which where_in change =
    subst (λ n. ChangesIn old new n (run_at shape place) Free InUse) (sym which)
    (subst (λ n. ChangesIn old new metaslab (record { start = n; len = place.allocated }) Free InUse) (sym where_in) change)

-- a place that is taken in a vdev's space
pub took : {E : Type 0} (spaces : List VdevSpace) (sectors v metaslab : ℕ) (space new : VdevSpace) (result : Result Dva E) → slice_get spaces v ≡ Some space
    → IfOk result (λ place. place.vdev ≡ v) → IfOk result (λ place. IsPlace space.shape sectors place)
    → IfOk result (λ place. metaslab_of space.shape place ≡ metaslab)
    → IfOk result (λ place. ChangesIn space.planned new.planned (metaslab_of space.shape place) (run_at space.shape place) Free InUse)
    → new ≡ record space { planned = new.planned } → IfOk result (λ place. IsTakenIn spaces sectors v metaslab place (slice_set spaces v new))
took spaces sectors v metaslab space new (Ok place) found vdev is_place slab taken rest = record {
  vdev_is = vdev;
  taken = record {
    space = space;
    found = ap (λ n. slice_get spaces n) vdev ∙ found;
    later = new.planned;
    taken = taken;
    rest = ap (λ s. slice_set spaces v s) rest ∙ ap (λ n. slice_set spaces n (record space { planned = new.planned })) (sym vdev);
  };
  is_place = is_place;
  metaslab_is = slab;
}
took spaces sectors v metaslab space new (Err e) found vdev is_place slab taken rest = tt

-- ---- a place that is taken in

-- so they are where a run was taken in, or nothing changed
pub still_taken : {E : Type 0} (shape : VdevShape) (marks : GroupSpaces → List Space) (old new : GroupSpaces) (m : ℕ) (run : Run) (result : Result Bool E)
    → IfOk result (λ is_free. OnTrue is_free (ChangesIn (marks old) (marks new) m run Free InUse)) → IfOk result (λ is_free. OnFalse is_free (new ≡ old))
    → OnErr result (new ≡ old) → AreMetaslabsOf shape (marks old) → AreMetaslabsOf shape (marks new)
still_taken shape marks old new m run (Ok true) taken left err is = still_metaslabs shape (marks old) (marks new) m run taken is
still_taken shape marks old new m run (Ok false) taken left err is = subst (λ (g : GroupSpaces). AreMetaslabsOf shape (marks g)) (sym left) is
still_taken shape marks old new m run (Err e) taken left err is = subst (λ (g : GroupSpaces). AreMetaslabsOf shape (marks g)) (sym err) is

some_and : {X : Type 0} (o : Option X) (P : X → Type 0) → IsSomeAnd o P → (x : X) × (o ≡ Some x) × P x
some_and None P h = elim h [ ]
some_and (Some x) P h = (x, refl, h)

-- the place's sectors in its metaslab are free
free_place : (shape : VdevShape) (spaces : List Space) (place : Dva) → IsFreeIn spaces (metaslab_of shape place) (run_at shape place) → EachSector IsFree spaces shape place
free_place shape spaces place free =
    let there = some_and (slice_get spaces (metaslab_of shape place)) (λ space. IsRunOf space (run_at shape place) Free) free in
    record { metaslab = there.0; found = there.1; each = there.2.each }

of_free_place : (shape : VdevShape) (sectors : ℕ) (spaces : List Space) (place : Dva) → IsPlace shape sectors place → AreMetaslabsOf shape spaces
    → EachSector IsFree spaces shape place → IsFreeIn spaces (metaslab_of shape place) (run_at shape place)
of_free_place shape sectors spaces place is_place are free =
    let size = sized_at spaces (metaslab_sectors shape) (metaslab_of shape place) free.metaslab are.1 free.found in
    let fits = is_place.one in
    let is : IsRunOf free.metaslab (run_at shape place) Free = record { within = omega (arith, fits, size); each = free.each } in
    rw free.found is

-- whether they are, without what is planned and with it
pub free_places : {E : Type 0} (shape : VdevShape) (sectors : ℕ) (kept planned : List Space) (place : Dva) (result : Result Bool E) → IsPlace shape sectors place
    → AreMetaslabsOf shape kept → AreMetaslabsOf shape planned
    → IfOk result (λ is_free. (is_free ≡ true)
    ↔ (IsFreeIn kept (metaslab_of shape place) (run_at shape place) × IsFreeIn planned (metaslab_of shape place) (run_at shape place)))
    → IfOk result (λ is_free. (is_free ≡ true) ↔ (EachSector IsFree kept shape place × EachSector IsFree planned shape place))
free_places shape sectors kept planned place (Ok is_free) is_place are are' both = (
  λ yes. let free = both.0 yes in (free_place shape kept place free.0, free_place shape planned place free.1),
  λ free. both.1 (of_free_place shape sectors kept place is_place are free.0, of_free_place shape sectors planned place is_place are' free.1),
)
free_places shape sectors kept planned place (Err e) is_place are are' both = tt

-- ---- metaslabs that settle

-- metaslabs that settle are as many, and as large
pub still_settled : (shape : VdevShape) (pins : List ℕ) (group : ℕ) (old new : List Space) → AreSettledInPart pins group old new → AreMetaslabsOf shape old
    → AreMetaslabsOf shape new
still_settled shape pins group old new part is = (
  part.count ∙ is.0,
  λ i d within.
      let later = slice_get_some new i within in
      let before = slice_get_some old i (omega (arith, within, part.count)) in
      let size : sectors_of before.0 ≡ metaslab_sectors shape = sized_at old (metaslab_sectors shape) i before.0 is.1 before.1 in
      let sized : sectors_of later.0 ≡ metaslab_sectors shape = elim (part.each i before.0 later.0 before.1 later.1) [
        | inl same ↦ ap sectors_of same ∙ size
        | inr settles ↦ settles.sectors ∙ size
      ] in
      subst (λ s. sectors_of s ≡ metaslab_sectors shape) (sym (get_or_from_slice_get new i later.0 d later.1)) sized,
)

-- whether or not memory was short
pub settled_in_part : {E : Type 0} (result : Result (Unit {0}) E) (pins : List ℕ) (group : ℕ) (old new : List Space) → OnOk result (AreSettled pins group old new)
    → OnErr result (AreSettledInPart pins group old new) → AreSettledInPart pins group old new
settled_in_part (Ok unit) pins group old new ok err = record { count = ok.count; each = λ m space later found found'. inr (ok.each m space later found found') }
settled_in_part (Err e) pins group old new ok err = err

-- ---- a place in use

-- metaslabs of which a run changes are as many, and as large
still_changed : (shape : VdevShape) (old new : List Space) (m : ℕ) (run : Run) (from to : State) → ChangesIn old new m run from to → AreMetaslabsOf shape old
    → AreMetaslabsOf shape new
still_changed shape old new m run from to change is =
    let size : ℕ = metaslab_sectors shape in (
      ap length change.rest ∙ length-set old m change.later ∙ is.0,
      subst (λ xs. All (λ s. sectors_of s ≡ size) xs) (sym change.rest)
          (All-set (λ s. sectors_of s ≡ size) old m change.later (change.changes.sectors ∙ sized_at old size m change.space is.1 change.found) is.1),
    )

-- so they are where a run was given back, or nothing changed
pub still_released : {T E : Type 0} (shape : VdevShape) (old new : GroupSpaces) (m : ℕ) (run : Run) (from to : State) (result : Result T E)
    → OnOk result (ChangesIn old.planned new.planned m run from to) → OnErr result (new ≡ old) → AreMetaslabsOf shape old.planned
    → AreMetaslabsOf shape new.planned
still_released shape old new m run from to (Ok x) released err is = still_changed shape old.planned new.planned m run from to released is
still_released shape old new m run from to (Err e) released err is = subst (λ (g : GroupSpaces). AreMetaslabsOf shape g.planned) (sym err) is

-- a place takes up some sectors
pub place_some : (shape : VdevShape) (sectors : ℕ) (place : Dva) → 0 < sectors → IsPlace shape sectors place → 0 < place.allocated
place_some shape sectors place some is = subst (λ n. 0 < n) (sym is.allocated) (asize_some shape.vdev.geometry sectors some)

-- the place's sectors in its metaslab are in use
pub of_place_in_use : (shape : VdevShape) (sectors : ℕ) (spaces : List Space) (place : Dva) → IsPlace shape sectors place → AreMetaslabsOf shape spaces
    → EachSector IsInUse spaces shape place → IsInUseIn spaces (metaslab_of shape place) (run_at shape place)
of_place_in_use shape sectors spaces place is_place are in_use =
    let size = sized_at spaces (metaslab_sectors shape) (metaslab_of shape place) in_use.metaslab are.1 in_use.found in
    let fits = is_place.one in
    let is : IsRunOf in_use.metaslab (run_at shape place) InUse = record { within = omega (arith, fits, size); each = in_use.each } in
    rw in_use.found is

place_in_use : (shape : VdevShape) (spaces : List Space) (place : Dva) → IsInUseIn spaces (metaslab_of shape place) (run_at shape place)
    → EachSector IsInUse spaces shape place
place_in_use shape spaces place in_use =
    let there = some_and (slice_get spaces (metaslab_of shape place)) (λ space. IsRunOf space (run_at shape place) InUse) in_use in
    record { metaslab = there.0; found = there.1; each = there.2.each }

-- whether they are
pub are_in_use : (shape : VdevShape) (sectors : ℕ) (spaces : List Space) (place : Dva) (b : Bool) → IsPlace shape sectors place → AreMetaslabsOf shape spaces
    → ((b ≡ true) ↔ IsInUseIn spaces (metaslab_of shape place) (run_at shape place)) → (b ≡ true) ↔ EachSector IsInUse spaces shape place
are_in_use shape sectors spaces place b is_place are both = (
  λ yes. place_in_use shape spaces place (both.0 yes),
  λ in_use. both.1 (of_place_in_use shape sectors spaces place is_place are in_use),
)
