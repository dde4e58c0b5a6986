-- What is free beside a plan is free without it, as places are taken, given back and settled.
use Rattle.std.proofs.Common.{Bool, true, false, if◌then◌else◌, ℕ, zero, suc, ◌≡◌, ◌⊎◌, inl, inr, ◌<◌, Some, List, [], ◌∷◌, ◌++◌, length, refl, sym, ap, subst, ◌∙◌, arith}
use Rattle.std.specs.Prelude.{slice_set}
use Rattle.std.specs.List.{slice_get}
use Rattle.std.proofs.lemmas.Bool.{cases_eq}
use Rattle.std.proofs.lemmas.Option.{slice_get_within}
use Rattle.block_pointer.specs.declared.block.Block.{Block}
use Rattle.block_pointer.specs.declared.dva.Dva.{Dva}
use Rattle.raidz_io.proofs.Written.{same_some, slice_get_some}
use Rattle.space_map.specs.declared.entry.Run.{Run}
use Rattle.space_map.specs.Sectors.{names}
use Rattle.metaslab.specs.Space.{Space, state}
use Rattle.metaslab.specs.State.{State, Free, InUse, Released}
use Rattle.metaslab.proofs.Elements.{length_set}
use Rattle.metaslab.specs.Spaces.{ChangesIn}
use Rattle.block_store.specs.Beside.{IsFreeBeside, AreFreeBeside}
use Rattle.block_store.specs.Opened.{TakeIn}
use Rattle.block_store.specs.Places.{shapes_of, HaveMarks, run_at, EachSector, IsFree, AreChosen, IsTakenToo}
use Rattle.block_store.specs.Places.{filled as filled_marks, planned as planned_marks}
use Rattle.block_store.specs.Releases.{CopyAt, AreReleased}
use Rattle.block_store.specs.Shapes.{metaslab_of}
use Rattle.block_store.specs.Spaces.{VdevSpace}
use Rattle.block_store.specs.Uses.{LiesOn, CopiesLieOn}
use Rattle.block_store.proofs.Taking.{map-set_same, slice_get-set_same, slice_get-set_other, slice_get-set_found}
use Rattle.block_store.proofs.TakenIn.{lies_by}

either : (test : Bool) → (test ≡ true) ⊎ (test ≡ false)
either true = inl refl
either false = inr refl

in_use_is_not_free : ¬ (InUse ≡ Free)
in_use_is_not_free is = absurd (cc)

released_is_not_free : (group : ℕ) → ¬ (Released group ≡ Free)
released_is_not_free group is = absurd (cc)

-- with no plan
same_beside : (space : VdevSpace) → planned_marks space ≡ filled_marks space → IsFreeBeside space
same_beside space same = record {
  count = ap length same;
  free = λ m s metaslab later found found' free.
      let is : later ≡ metaslab = same_some later metaslab (sym found' ∙ ap (λ (them : List Space). slice_get them m) same ∙ found) in
      subst (λ (x : Space). state x s ≡ Free) is free;
}

pub none_beside : (spaces : List VdevSpace) → HaveMarks spaces filled_marks spaces planned_marks → AreFreeBeside spaces
none_beside spaces same v space found = same_beside space (same v space space found found)

-- ---- sectors that change

-- a sector that is free was so, where those that changed are not, and isn't one of them
was_free : (old new : List Space) (metaslab : ℕ) (run : Run) (from to : State) → ¬ (to ≡ Free) → ChangesIn old new metaslab run from to
    → (m s : ℕ) (before later : Space) → slice_get old m ≡ Some before → slice_get new m ≡ Some later → state later s ≡ Free
    → (state before s ≡ Free) × ((m ≡ metaslab) → names run s ≡ false)
was_free old new metaslab run from to taken change m s before later found found' free = elim (cases_eq m metaslab) [
  | inr other ↦ (
    let is : later ≡ before = same_some later before (sym found' ∙ ap (λ xs. slice_get xs m) change.rest
        ∙ slice_get-set_other old metaslab m change.later (λ same. other (sym same)) ∙ found) in
        subst (λ (x : Space). state x s ≡ Free) is free,
    λ this. absurd (other this),
  )
  | inl this ↦
      let was : before ≡ change.space = same_some before change.space (sym found ∙ ap (λ n. slice_get old n) this ∙ change.found) in
      let is : later ≡ change.later = same_some later change.later (sym found' ∙ ap (λ xs. slice_get xs m) change.rest
      ∙ ap (λ n. slice_get (slice_set old metaslab change.later) n) this ∙ slice_get-set_found old metaslab change.space change.later change.found) in
      let now : (if names run s then to else state change.space s) ≡ Free =
      sym (change.changes.states s) ∙ subst (λ (x : Space). state x s ≡ Free) is free in
      elim (either (names run s)) [
        | inl named ↦ absurd (taken (sym (ap (λ b. if b then to else state change.space s) named) ∙ now))
        | inr unnamed ↦ (
          subst (λ (x : Space). state x s ≡ Free) (sym was) (sym (ap (λ b. if b then to else state change.space s) unnamed) ∙ now),
          λ here. unnamed,
        )
      ]
]

-- a sector that isn't one of those that changed stays free
stays_free : (old new : List Space) (metaslab : ℕ) (run : Run) (from to : State) → ChangesIn old new metaslab run from to
    → (m s : ℕ) (before later : Space) → slice_get old m ≡ Some before → slice_get new m ≡ Some later → ((m ≡ metaslab) → names run s ≡ false)
    → state before s ≡ Free → state later s ≡ Free
stays_free old new metaslab run from to change m s before later found found' aside free = elim (cases_eq m metaslab) [
  | inr other ↦
      let is : before ≡ later = same_some before later (sym found ∙ sym (slice_get-set_other old metaslab m change.later (λ same. other (sym same)))
      ∙ ap (λ xs. slice_get xs m) (sym change.rest) ∙ found') in
      subst (λ (x : Space). state x s ≡ Free) is free
  | inl this ↦
      let was : before ≡ change.space = same_some before change.space (sym found ∙ ap (λ n. slice_get old n) this ∙ change.found) in
      let is : later ≡ change.later = same_some later change.later (sym found' ∙ ap (λ xs. slice_get xs m) change.rest
      ∙ ap (λ n. slice_get (slice_set old metaslab change.later) n) this ∙ slice_get-set_found old metaslab change.space change.later change.found) in
      subst (λ (x : Space). state x s ≡ Free) (sym is)
      (change.changes.states s ∙ ap (λ b. if b then to else state change.space s) (aside this) ∙ subst (λ (x : Space). state x s ≡ Free) was free)
]

changed_count : (old new : List Space) (metaslab : ℕ) (run : Run) (from to : State) → ChangesIn old new metaslab run from to → length new ≡ length old
changed_count old new metaslab run from to change = ap length change.rest ∙ length_set old metaslab change.later

-- the plan's sectors change, and none becomes free
planned_beside : (space : VdevSpace) (later : List Space) (metaslab : ℕ) (run : Run) (from to : State) → ¬ (to ≡ Free)
    → ChangesIn (planned_marks space) later metaslab run from to → IsFreeBeside space → IsFreeBeside (record space { planned = later })
planned_beside space later metaslab run from to taken change beside = record {
  count = changed_count (planned_marks space) later metaslab run from to change ∙ beside.count;
  free = λ m s kept now found found' free.
      let within : m < length (planned_marks space) = omega (arith, slice_get_within later m now found', changed_count (planned_marks space) later metaslab run from to change) in
      let before = slice_get_some (planned_marks space) m within in
      beside.free m s kept before.0 found before.1 (was_free (planned_marks space) later metaslab run from to taken change m s before.0 now before.1 found' free).0;
}

-- so do the same sectors without the plan
both_beside : (space new : VdevSpace) (metaslab : ℕ) (run : Run) (from to : State) → ¬ (to ≡ Free)
    → ChangesIn (filled_marks space) (filled_marks new) metaslab run from to → ChangesIn (planned_marks space) (planned_marks new) metaslab run from to
    → IsFreeBeside space → IsFreeBeside new
both_beside space new metaslab run from to taken fills plans beside =
    let kept_count = changed_count (filled_marks space) (filled_marks new) metaslab run from to fills in
    let count = changed_count (planned_marks space) (planned_marks new) metaslab run from to plans in
    record {
      count = count ∙ beside.count ∙ sym kept_count;
      free = λ m s kept now found found' free.
          let before = slice_get_some (planned_marks space) m (omega (arith, slice_get_within (planned_marks new) m now found', count)) in
          let before_kept = slice_get_some (filled_marks space) m (omega (arith, slice_get_within (filled_marks new) m kept found, kept_count)) in
          let was = was_free (planned_marks space) (planned_marks new) metaslab run from to taken plans m s before.0 now before.1 found' free in
          stays_free (filled_marks space) (filled_marks new) metaslab run from to fills m s before_kept.0 kept before_kept.1 found was.1
          (beside.free m s before_kept.0 before.0 before_kept.1 before.1 was.0);
    }

-- a vdev changes
set_beside : (spaces : List VdevSpace) (v : ℕ) (new : VdevSpace) → AreFreeBeside spaces → IsFreeBeside new → AreFreeBeside (slice_set spaces v new)
set_beside spaces v new beside here w space found = elim (cases_eq w v) [
  | inl this ↦ subst IsFreeBeside (slice_get-set_same spaces v new space (ap (λ n. slice_get (slice_set spaces v new) n) (sym this) ∙ found)) here
  | inr other ↦ beside w space (sym (slice_get-set_other spaces v w new (λ same. other (sym same))) ∙ found)
]

-- ---- places that are taken

taken_beside : (spaces : List VdevSpace) (place : Dva) (after : List VdevSpace) → IsTakenToo spaces place after → AreFreeBeside spaces → AreFreeBeside after
taken_beside spaces place after too beside =
    subst AreFreeBeside (sym too.rest)
    (set_beside spaces place.vdev (record too.space { planned = too.later }) beside
    (planned_beside too.space too.later (metaslab_of too.space.shape place) (run_at too.space.shape place) Free InUse in_use_is_not_free too.taken
    (beside place.vdev too.space too.found)))

pub chosen_beside : (spaces : List VdevSpace) (taken : List Dva) (n copies : ℕ) (places : List Dva) (after : List VdevSpace) → AreChosen spaces taken n copies places after
    → AreFreeBeside spaces → AreFreeBeside after
chosen_beside spaces taken n copies [] after same beside = subst AreFreeBeside (sym same) beside
chosen_beside spaces taken n copies (place ∷ places) after (chosen, mid, too, rest) beside =
    chosen_beside mid (taken ++ place ∷ []) n copies places after rest (taken_beside spaces place mid too beside)

-- a place that is free beside the plan is free without it
free_without : (space : VdevSpace) (place : Dva) → IsFreeBeside space → EachSector IsFree (planned_marks space) space.shape place
    → EachSector IsFree (filled_marks space) space.shape place
free_without space place beside free =
    let m : ℕ = metaslab_of space.shape place in
    let within : m < length (filled_marks space) = omega (arith, slice_get_within (planned_marks space) m free.metaslab free.found, beside.count) in
    let kept = slice_get_some (filled_marks space) m within in
    record { metaslab = kept.0; found = kept.1; each = λ s named. beside.free m s kept.0 free.metaslab kept.1 free.found (free.each s named) }

-- what is filled stays so
pub lies_still : (is : State → Type 0) (spaces after : List VdevSpace) → shapes_of after ≡ shapes_of spaces → HaveMarks spaces filled_marks after filled_marks
    → (block : Block) → CopiesLieOn is spaces filled_marks block → CopiesLieOn is after filled_marks block
lies_still is spaces after shapes have block lies i place at =
    lies_by is spaces after filled_marks filled_marks shapes have block.property.sectors place (lies i place at)

pub chosen_free : (spaces : List VdevSpace) (taken : List Dva) (sectors copies : ℕ) (places : List Dva) (after : List VdevSpace) → 0 < sectors
    → AreChosen spaces taken sectors copies places after → AreFreeBeside spaces → (i : ℕ) (place : Dva) → slice_get places i ≡ Some place
    → LiesOn IsFree spaces filled_marks sectors place
chosen_free spaces taken sectors copies [] after some same beside i place at = absurd (cc)
chosen_free spaces taken sectors copies (first ∷ places) after some (chosen, mid, too, rest) beside zero place at =
    let here : LiesOn IsFree spaces filled_marks sectors first = record {
      some = some;
      space = chosen.space;
      found = chosen.found;
      is_place = chosen.free.is_place;
      each = free_without chosen.space first (beside first.vdev chosen.space chosen.found) chosen.free.free;
    } in
    subst (λ p. LiesOn IsFree spaces filled_marks sectors p) (same_some first place at) here
chosen_free spaces taken sectors copies (first ∷ places) after some (chosen, mid, too, rest) beside (suc i) place at =
    let later : LiesOn IsFree mid filled_marks sectors place =
    chosen_free mid (taken ++ first ∷ []) sectors copies places after some rest (taken_beside spaces first mid too beside) i place at in
    let new : VdevSpace = record too.space { planned = too.later } in
    lies_by IsFree mid spaces filled_marks filled_marks
    (sym (ap shapes_of too.rest ∙ map-set_same (λ s. s.shape) spaces first.vdev too.space new too.found refl))
    (λ v space old found found'. elim (cases_eq v first.vdev) [
      | inr other ↦
          ap filled_marks (same_some old space (sym found' ∙ sym (slice_get-set_other spaces first.vdev v new (λ same. other (sym same)))
          ∙ ap (λ xs. slice_get xs v) (sym too.rest) ∙ found))
      | inl this ↦
          let is : new ≡ space = slice_get-set_same spaces first.vdev new space (ap (λ n. slice_get (slice_set spaces first.vdev new) n) (sym this)
          ∙ ap (λ xs. slice_get xs v) (sym too.rest) ∙ found) in
          ap filled_marks (same_some old too.space (sym found' ∙ ap (λ n. slice_get spaces n) this ∙ too.found)) ∙ ap filled_marks is
    ])
    sectors place later

-- ---- copies that are given back

pub released_beside : (spaces : List VdevSpace) (copies : List CopyAt) (group : ℕ) (after : List VdevSpace) → AreReleased spaces copies group after
    → AreFreeBeside spaces → AreFreeBeside after
released_beside spaces [] group after same beside = subst AreFreeBeside (sym same) beside
released_beside spaces (copy ∷ copies) group after (mid, one, rest) beside =
    released_beside mid copies group after rest
    (subst AreFreeBeside (sym one.rest)
    (set_beside spaces copy.place.vdev (record one.space { planned = one.later }) beside
    (planned_beside one.space one.later (metaslab_of one.space.shape copy.place) (run_at one.space.shape copy.place) InUse (Released group) (released_is_not_free group)
    one.released (beside copy.place.vdev one.space one.found))))

-- ---- copies that are taken in

pub taken_in_beside : (spaces : List VdevSpace) (copies : List CopyAt) (after : List VdevSpace) → TakeIn spaces copies after → AreFreeBeside spaces → AreFreeBeside after
taken_in_beside spaces [] after same beside = subst AreFreeBeside (sym same) beside
taken_in_beside spaces (copy ∷ copies) after (mid, one, rest) beside =
    taken_in_beside mid copies after rest
    (subst AreFreeBeside (sym one.rest)
    (set_beside spaces copy.place.vdev one.later beside
    (both_beside one.space one.later (metaslab_of one.space.shape copy.place) (run_at one.space.shape copy.place) Free InUse in_use_is_not_free one.filled_too one.planned_too
    (beside copy.place.vdev one.space one.found))))
