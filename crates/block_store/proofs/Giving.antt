-- What becomes unused as copies are given back, one after the other.
use Rattle.std.proofs.Common.{Bool, true, not, ℕ, ◌≡◌, ◌⊎◌, inl, inr, ◌+◌, ◌<◌, ◌≤◌, Some, Result, Ok, Err, IfOk, List, [], ◌∷◌, ◌++◌, refl, sym, ap, subst, ◌∙◌, arith}
use Rattle.std.specs.Prelude.{slice_set, IsTrue, if◌then◌else◌}
use Rattle.std.specs.List.{slice_get}
use Rattle.std.specs.Option.{option_map}
use Rattle.std.proofs.lemmas.Bool.{cases_eq}
use Rattle.raidz_io.proofs.Written.{same_some}
use Rattle.metaslab.proofs.Holding.{cases}
use Rattle.space_map.specs.FreeRuns.{FreeRuns, CanEnter, IsEntered, entry_of}
use Rattle.space_map.specs.Sectors.{contains, names}
use Rattle.space_map.specs.declared.entry.Kind.TheVariants.{Freed}
use Rattle.space_map.specs.declared.entry.Run.{Run}
use Rattle.space_map.proofs.RunLemmas.{named}
use Rattle.metaslab.specs.Calls.{AreUnused}
use Rattle.metaslab.specs.Space.{Space, state, sectors_of}
use Rattle.metaslab.specs.State.{State, InUse, Released, is_in_use}
use Rattle.metaslab.specs.Spaces.{ChangesIn}
use Rattle.block_store.specs.declared.gone.MetaslabAt.{MetaslabAt}
use Rattle.block_store.specs.Gone.{CannotGiveBack, GivesBack, HasUnused}
use Rattle.metaslab.specs.Maps.{HoldsAt}
use Rattle.block_store.specs.Maps.{group_of, HasSectors, LeavesUnused}
use Rattle.block_store.specs.Places.{filled, planned, run_at}
use Rattle.block_store.specs.Releases.{CopyAt, AreReleased, IsReleased}
use Rattle.block_store.specs.Shapes.{metaslab_of, metaslab_sectors}
use Rattle.block_store.specs.Spaces.{VdevSpace}
use Rattle.block_store.proofs.Taking.{slice_get-set_other, slice_get-set_found}

-- ---- some copies, and then others

split : (spaces : List VdevSpace) (copies others : List CopyAt) (group : ℕ) (after : List VdevSpace) → AreReleased spaces (copies ++ others) group after
    → (mid : List VdevSpace) × AreReleased spaces copies group mid × AreReleased mid others group after
split spaces [] others group after are = (spaces, refl, are)
split spaces (copy ∷ copies) others group after (next, is, rest) = let parts = split next copies others group after rest in (parts.0, (next, is, parts.1), parts.2)

-- some copies were given back, these are left, and the set has what is unused so far
pub record GivesUpTo (at : MetaslabAt) (copies left : List CopyAt) (free now : FreeRuns) : Type 0 where
  pub sectors : now.sectors ≡ free.sectors
  pub goes : (spaces after : List VdevSpace) (group : ℕ) → AreReleased spaces copies group after → HasUnused spaces at free
      → (mid : List VdevSpace) × AreReleased mid left group after × HasUnused mid at now

pub none_yet : (at : MetaslabAt) (copies : List CopyAt) (free : FreeRuns) → GivesUpTo at copies copies free free
none_yet at copies free = record { sectors = refl; goes = λ spaces after group are has. (spaces, are, has) }

pub more : (at : MetaslabAt) (copies first rest : List CopyAt) (free now later : FreeRuns) → GivesUpTo at copies (first ++ rest) free now → GivesBack at first now later
    → later.sectors ≡ now.sectors → GivesUpTo at copies rest free later
more at copies first rest free now later so gives same = record {
  sectors = same ∙ so.sectors;
  goes = λ spaces after group are has.
      let here = so.goes spaces after group are has in
      let parts = split here.0 first rest group after here.1 in
      (parts.0, parts.2, gives here.0 parts.0 group parts.1 here.2);
}

pub all : (at : MetaslabAt) (copies : List CopyAt) (free now : FreeRuns) → GivesUpTo at copies [] free now → GivesBack at copies free now
all at copies free now so = λ spaces after group are has. let here = so.goes spaces after group are has in subst (λ xs. HasUnused xs at now) (sym here.1) here.2

pub stops : (at : MetaslabAt) (copies first rest : List CopyAt) (free now : FreeRuns) → GivesUpTo at copies (first ++ rest) free now → CannotGiveBack at first now
    → CannotGiveBack at copies free
stops at copies first rest free now so cannot = λ spaces after group has are.
    let here = so.goes spaces after group are has in
    let parts = split here.0 first rest group after here.1 in
    cannot here.0 parts.0 group here.2 parts.1

-- ---- one copy

-- elsewhere all is as it was
pub elsewhere : (at : MetaslabAt) (copy : CopyAt) (free : FreeRuns) → ¬ ((copy.place.vdev ≡ at.vdev) × (metaslab_of at.shape copy.place ≡ at.metaslab))
    → GivesBack at (copy ∷ []) free free
elsewhere at copy free other = λ spaces after group (mid, one, same) (is, shape).
    subst (λ xs. HasUnused xs at free) (sym same)
    (elim (cases_eq copy.place.vdev at.vdev) [
      | inl here ↦
          let found : slice_get spaces at.vdev ≡ Some one.space = subst (λ v. slice_get spaces v ≡ Some one.space) here one.found in
          let space_is : is.space ≡ one.space = same_some is.space one.space (sym is.found ∙ found) in
          let shape_is : one.space.shape ≡ at.shape = sym (ap (λ (s : VdevSpace). s.shape) space_is) ∙ shape in
          let apart : ¬ (metaslab_of one.space.shape copy.place ≡ at.metaslab) = λ m. other (here, sym (ap (λ s. metaslab_of s copy.place) shape_is) ∙ m) in
          let later_at : slice_get one.later at.metaslab ≡ Some is.there =
          ap (λ xs. slice_get xs at.metaslab) one.released.rest
          ∙ slice_get-set_other (planned one.space) (metaslab_of one.space.shape copy.place) at.metaslab one.released.later apart
          ∙ ap (λ (s : VdevSpace). slice_get (planned s) at.metaslab) (sym space_is)
          ∙ is.is_there in (
            record {
              space = record one.space { planned = one.later };
              found = ap (λ xs. slice_get xs at.vdev) one.rest ∙ subst (λ v. slice_get (slice_set spaces v (record one.space { planned = one.later })) at.vdev ≡ Some (record one.space { planned = one.later }))
                  (sym here) (slice_get-set_found spaces at.vdev one.space (record one.space { planned = one.later }) found);
              there = is.there;
              is_there = later_at;
              sectors = is.sectors ∙ ap (λ (s : VdevSpace). metaslab_sectors s.shape) space_is;
              unused = is.unused;
            },
            shape_is,
          )
      | inr apart ↦ (
        record {
          space = is.space;
          found = ap (λ xs. slice_get xs at.vdev) one.rest ∙ slice_get-set_other spaces copy.place.vdev at.vdev (record one.space { planned = one.later }) apart ∙ is.found;
          there = is.there;
          is_there = is.is_there;
          sectors = is.sectors;
          unused = is.unused;
        },
        shape,
      )
    ])

-- what was released of the metaslab that the set is of
record IsHere (spaces : List VdevSpace) (at : MetaslabAt) (copy : CopyAt) (group : ℕ) (free : FreeRuns) (mid : List VdevSpace) : Type 0 where
  is : LeavesUnused spaces planned at.vdev at.metaslab free
  shape : is.space.shape ≡ at.shape
  later : List Space
  released : ChangesIn (planned is.space) later at.metaslab (run_at at.shape copy.place) InUse (Released group)
  same : released.space ≡ is.there
  rest : mid ≡ slice_set spaces at.vdev (record is.space { planned = later })

here_of : (spaces : List VdevSpace) (at : MetaslabAt) (copy : CopyAt) (group : ℕ) (free : FreeRuns) (mid : List VdevSpace) → copy.place.vdev ≡ at.vdev
    → metaslab_of at.shape copy.place ≡ at.metaslab → HasUnused spaces at free → IsReleased spaces copy group mid → IsHere spaces at copy group free mid
here_of spaces at copy group free mid vdev metaslab (is, shape) one =
    let found : slice_get spaces at.vdev ≡ Some one.space = subst (λ v. slice_get spaces v ≡ Some one.space) vdev one.found in
    let space_is : one.space ≡ is.space = same_some one.space is.space (sym found ∙ is.found) in
    let shape_is : one.space.shape ≡ at.shape = ap (λ (s : VdevSpace). s.shape) space_is ∙ shape in
    let slab_is : metaslab_of one.space.shape copy.place ≡ at.metaslab = ap (λ s. metaslab_of s copy.place) shape_is ∙ metaslab in
    let by_shape : ChangesIn (planned one.space) one.later at.metaslab (run_at at.shape copy.place) InUse (Released group) =
    subst (λ m. ChangesIn (planned one.space) one.later m (run_at at.shape copy.place) InUse (Released group)) slab_is
    (subst (λ s. ChangesIn (planned one.space) one.later (metaslab_of one.space.shape copy.place) (run_at s copy.place) InUse (Released group)) shape_is one.released) in
    let released : ChangesIn (planned is.space) one.later at.metaslab (run_at at.shape copy.place) InUse (Released group) =
    subst (λ (s : VdevSpace). ChangesIn (planned s) one.later at.metaslab (run_at at.shape copy.place) InUse (Released group)) space_is by_shape in
    record {
      is = is;
      shape = shape;
      later = one.later;
      released = released;
      same = same_some released.space is.there (sym released.found ∙ is.is_there);
      rest = one.rest ∙ ap (λ v. slice_set spaces v (record one.space { planned = one.later })) vdev
          ∙ ap (λ (s : VdevSpace). slice_set spaces at.vdev (record s { planned = one.later })) space_is;
    }

unused_then : (group : ℕ) (run : Run) (set later : ℕ → Bool) (old new : ℕ → State) (s : ℕ) → later s ≡ (if names run s then true else set s)
    → new s ≡ (if names run s then Released group else old s) → set s ≡ not (is_in_use (old s)) → later s ≡ not (is_in_use (new s))
unused_then group run set later old new s later_is new_is set_is =
    elim (cases (names run s)) [
      | inl named ↦ (rw named at later_is) ∙ sym (ap (λ (x : State). not (is_in_use x)) (rw named at new_is))
      | inr other ↦ (rw other at later_is) ∙ set_is ∙ sym (ap (λ (x : State). not (is_in_use x)) (rw other at new_is))
    ]

-- what the copy has of it is unused then
pub here : (at : MetaslabAt) (copy : CopyAt) (free later : FreeRuns) → copy.place.vdev ≡ at.vdev → metaslab_of at.shape copy.place ≡ at.metaslab
    → IsEntered free later (entry_of Freed (run_at at.shape copy.place)) → GivesBack at (copy ∷ []) free later
here at copy free later vdev metaslab entered = λ spaces after group (mid, one, same) has.
    let so = here_of spaces at copy group free mid vdev metaslab has one in
    let there = so.released.later in
    let old_unused : AreUnused so.released.space free = subst (λ (x : Space). AreUnused x free) (sym so.same) so.is.unused in
    let new_space : VdevSpace = record so.is.space { planned = so.later } in
    let unused : AreUnused there later = record {
      sectors = entered.0 ∙ old_unused.sectors ∙ sym so.released.changes.sectors;
      each = λ s below. unused_then group (run_at at.shape copy.place) (contains free.runs) (contains later.runs) (state so.released.space) (state there) s
          (entered.1 s) (so.released.changes.states s) (old_unused.each s (subst (λ n. s < n) so.released.changes.sectors below));
    } in
    subst (λ xs. HasUnused xs at later) (sym (same ∙ so.rest)) (
      record {
        space = new_space;
        found = slice_get-set_found spaces at.vdev so.is.space new_space so.is.found;
        there = there;
        is_there = ap (λ xs. slice_get xs at.metaslab) so.released.rest ∙ slice_get-set_found (planned so.is.space) at.metaslab so.released.space there so.released.found;
        sectors = entered.0 ∙ so.is.sectors;
        unused = unused;
      },
      so.shape,
    )

-- and it could be taken in
pub enters : (spaces mid : List VdevSpace) (at : MetaslabAt) (copy : CopyAt) (group : ℕ) (free : FreeRuns) → copy.place.vdev ≡ at.vdev
    → metaslab_of at.shape copy.place ≡ at.metaslab → HasUnused spaces at free → IsReleased spaces copy group mid → CanEnter free (entry_of Freed (run_at at.shape copy.place))
enters spaces mid at copy group free vdev metaslab has one =
    let so = here_of spaces at copy group free mid vdev metaslab has one in
    let run = run_at at.shape copy.place in
    let old_unused : AreUnused so.released.space free = subst (λ (x : Space). AreUnused x free) (sym so.same) so.is.unused in
    let within : run.start + run.len ≤ free.sectors = subst (λ n. run.start + run.len ≤ n) (sym old_unused.sectors) so.released.was.within in
    record {
      within = within;
      each = λ s name.
          let below = named run s name in
          old_unused.each s (let size = old_unused.sectors in omega (arith, below, within, size)) ∙ ap (λ (x : State). not (is_in_use x)) (so.released.was.each s name);
    }

pub cannot : (at : MetaslabAt) (copy : CopyAt) (free : FreeRuns) → copy.place.vdev ≡ at.vdev → metaslab_of at.shape copy.place ≡ at.metaslab
    → ¬ CanEnter free (entry_of Freed (run_at at.shape copy.place)) → CannotGiveBack at (copy ∷ []) free
cannot at copy free vdev metaslab bad = λ spaces after group has (mid, one, same). bad (enters spaces mid at copy group free vdev metaslab has one)

-- ---- what the store's calls give

pub both_ok : {X Y : Type 0} (r : Result X Y) (P Q : X → Type 0) → IfOk r P → IfOk r Q → IfOk r (λ x. P x × Q x)
both_ok (Ok x) P Q p q = (p, q)
both_ok (Err e) P Q p q = tt

pub unused_filled : (spaces : List VdevSpace) (v metaslab : ℕ) (space : VdevSpace) (free : FreeRuns) → slice_get spaces v ≡ Some space
    → HoldsAt (λ both. AreUnused both.kept free) (group_of space) metaslab × (free.sectors ≡ metaslab_sectors space.shape) → LeavesUnused spaces filled v metaslab free
unused_filled spaces v metaslab space free found (is, size) =
    record { space = space; found = found; there = is.spaces.kept; is_there = is.found_kept; sectors = size; unused = is.holds }

pub unused_planned : (spaces : List VdevSpace) (v metaslab : ℕ) (space : VdevSpace) (free : FreeRuns) → slice_get spaces v ≡ Some space
    → HoldsAt (λ both. AreUnused both.planned free) (group_of space) metaslab × (free.sectors ≡ metaslab_sectors space.shape) → LeavesUnused spaces planned v metaslab free
unused_planned spaces v metaslab space free found (is, size) =
    record { space = space; found = found; there = is.spaces.planned; is_there = is.found_planned; sectors = size; unused = is.holds }

-- the vdev that the set is of has the shape that the store says
pub has_shape : (spaces : List VdevSpace) (at : MetaslabAt) (free : FreeRuns) → LeavesUnused spaces planned at.vdev at.metaslab free
    → option_map (λ (s : VdevSpace). s.shape) (slice_get spaces at.vdev) ≡ Some at.shape → HasUnused spaces at free
has_shape spaces at free is says = (is, same_some is.space.shape at.shape (sym (ap (option_map (λ (s : VdevSpace). s.shape)) is.found) ∙ says))

pub sized : (spaces : List VdevSpace) (v metaslab : ℕ) (free later : FreeRuns) → later.sectors ≡ free.sectors → LeavesUnused spaces planned v metaslab free
    → HasSectors spaces v later.sectors
sized spaces v metaslab free later same is = rw is.found (same ∙ is.sectors)
