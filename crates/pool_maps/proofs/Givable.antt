-- Blocks that can be given back.
use Rattle.std.proofs.Common.{◌≡◌, ◌≢◌, All, ℕ, suc, ◌+◌, ◌<◌, ◌≤◌, Bool, true, false, if◌then◌else◌, List, [], ◌∷◌, ◌++◌, Some, Option, Contains, inl, inr, refl, sym, ap, subst, ◌∙◌, arith}
use Rattle.std.specs.Prelude.{slice_set}
use Rattle.std.specs.List.{slice_get}
use Rattle.std.proofs.lemmas.Bool.{cases_eq}
use Rattle.std.proofs.lemmas.Option.{get_or_from_slice_get, slice_get_within}
use Rattle.std.proofs.lemmas.List.Elements.{All-contains, Contains-append_cases, Contains-append_right}
use Rattle.block_pointer.specs.declared.block.Block.{Block}
use Rattle.block_pointer.specs.declared.dva.Dva.{Dva}
use Rattle.block_pointer.specs.Copies.{dvas}
use Rattle.block_store.specs.Blocks.{Contents, AreDistinct, AreStored}
use Rattle.block_store.specs.Plans.{Plans}
use Rattle.block_store.specs.Store.{Store, ArePlaced}
use Rattle.block_store.specs.Places.{ArePlacesApart, planned, run_at}
use Rattle.block_store.specs.Releases.{CopyAt, AreAllInUse, AreReleased, IsReleased, copies_of, copies_of_all, copies_of_at}
use Rattle.block_store.specs.Shapes.{metaslab_of, metaslab_sectors, sector_of}
use Rattle.block_store.specs.Spaces.{VdevSpace, IsSpace}
use Rattle.block_store.specs.Uses.{IsInUse, LiesOn}
use Rattle.block_store.proofs.Taking.{slice_get-set_found, slice_get-set_other}
use Rattle.block_store.proofs.Uses.{lies_after, release_changes}
use Rattle.meta_objset.specs.declared.space_maps.MetaslabPlace.{MetaslabPlace}
use Rattle.metaslab.specs.Calls.{Changes, IsRunOf}
use Rattle.metaslab.specs.Space.{Space, sectors_of, state_of}
use Rattle.metaslab.specs.State.{Free, InUse, Released}
use Rattle.raidz_io.proofs.Written.{same_some}
use Rattle.space_map.specs.declared.entry.Run.{Run}
use Rattle.space_map.specs.Sectors.{names}
use Rattle.pool_maps.specs.Beside.{IsBeforeMeta}
use Rattle.pool_maps.specs.Reached.{AreThere}
use Rattle.pool_maps.proofs.Reaching.{copy_among, copy_at}

-- ---- one copy

-- a sector in use is not free, so it is released where the run names it
held_back : (is_free named : Bool) (group : ℕ) (by : Option ℕ) → (named ≡ true → state_of is_free by ≡ InUse)
    → state_of is_free (if named then Some group else by) ≡ (if named then Released group else state_of is_free by)
held_back is_free false group by used = refl
held_back false true group by used = refl
held_back true true group by used = absurd (let clash : Free ≡ InUse = used refl in cc)

-- the run is released too
abbrev pub released_too : Space → Run → ℕ → Space
released_too space run group = record space { released = (record { run = run; group = group }) ∷ space.released }

run_released : (space : Space) (run : Run) (group : ℕ) → IsRunOf space run InUse → Changes space (released_too space run group) run (Released group)
run_released space run group was = record { states = λ s. held_back _ (names run s) group _ (was.each s); sectors = refl; pins = refl }

-- where the place's metaslab is there, it has the place's sectors
abbrev pub LiesWithin : List VdevSpace → Dva → Type 0
LiesWithin spaces place = (space : VdevSpace) (there : Space) → slice_get spaces place.vdev ≡ Some space → slice_get (planned space) (metaslab_of space.shape place) ≡ Some there
    → sector_of space.shape place + place.allocated ≤ sectors_of there

-- the copy's sectors are there, and in use
pub record IsGivable (spaces : List VdevSpace) (copy : CopyAt) : Type 0 where
  pub lies : LiesOn IsInUse spaces planned copy.sectors copy.place
  pub within : LiesWithin spaces copy.place

pub give_one : (spaces : List VdevSpace) (copy : CopyAt) (group : ℕ) → IsGivable spaces copy → (after : List VdevSpace) × IsReleased spaces copy group after
give_one spaces copy group is =
    let space = is.lies.space in
    let metaslab = metaslab_of space.shape copy.place in
    let run = run_at space.shape copy.place in
    let there = is.lies.each.metaslab in
    let was : IsRunOf there run InUse = record { within = is.within space there is.lies.found is.lies.each.found; each = is.lies.each.each } in
    let later : List Space = slice_set (planned space) metaslab (released_too there run group) in (
      slice_set spaces copy.place.vdev (record space { planned = later }),
      record {
        space = space;
        found = is.lies.found;
        is_place = is.lies.is_place;
        later = later;
        released = record {
          space = there;
          later = released_too there run group;
          found = is.lies.each.found;
          was = was;
          changes = run_released there run group was;
          rest = refl;
        };
        rest = refl;
      },
    )

-- ---- the others

-- what another copy gives back takes no sector from its metaslab
within_still : (spaces after : List VdevSpace) (copy : CopyAt) (group : ℕ) (place : Dva) → IsReleased spaces copy group after → LiesWithin spaces place → LiesWithin after place
within_still spaces after copy group place one within = λ space there found is_there.
    let new : VdevSpace = record one.space { planned = one.later } in
    elim (cases_eq copy.place.vdev place.vdev) [
      | inr apart ↦
          within space there (sym (slice_get-set_other spaces copy.place.vdev place.vdev new apart) ∙ sym (ap (λ xs. slice_get xs place.vdev) one.rest) ∙ found) is_there
      | inl here ↦
          let found_here : slice_get spaces place.vdev ≡ Some one.space = subst (λ v. slice_get spaces v ≡ Some one.space) here one.found in
          let is_new : space ≡ new = same_some space new (sym found ∙ ap (λ xs. slice_get xs place.vdev) one.rest ∙ ap (λ v. slice_get (slice_set spaces v new) place.vdev) here
          ∙ slice_get-set_found spaces place.vdev one.space new found_here) in
          let slab : ℕ = metaslab_of one.space.shape place in
          let there_new : slice_get one.later slab ≡ Some there = subst (λ (x : VdevSpace). slice_get (planned x) (metaslab_of x.shape place) ≡ Some there) is_new is_there in
          subst (λ (x : VdevSpace). sector_of x.shape place + place.allocated ≤ sectors_of there) (sym is_new)
          (elim (cases_eq (metaslab_of one.space.shape copy.place) slab) [
            | inr other ↦ within one.space there found_here
                (sym (slice_get-set_other (planned one.space) (metaslab_of one.space.shape copy.place) slab one.released.later other)
                ∙ sym (ap (λ xs. slice_get xs slab) one.released.rest) ∙ there_new)
            | inl same ↦
                let was : slice_get (planned one.space) slab ≡ Some one.released.space = subst (λ m. slice_get (planned one.space) m ≡ Some one.released.space) same one.released.found in
                let there_is : there ≡ one.released.later = same_some there one.released.later (sym there_new ∙ ap (λ xs. slice_get xs slab) one.released.rest
                ∙ ap (λ m. slice_get (slice_set (planned one.space) m one.released.later) slab) same
                ∙ slice_get-set_found (planned one.space) slab one.released.space one.released.later was) in
                subst (λ n. sector_of one.space.shape place + place.allocated ≤ n) (sym (ap sectors_of there_is ∙ one.released.changes.sectors))
                (within one.space one.released.space found_here was)
          ])
    ]

givable_still : (spaces after : List VdevSpace) (copy other : CopyAt) (group : ℕ) → IsReleased spaces copy group after → ArePlacesApart copy.place other.place
    → IsGivable spaces other → IsGivable after other
givable_still spaces after copy other group one apart is = record {
  lies = lies_after IsInUse spaces after copy.place InUse (Released group) (release_changes spaces after copy group one) other.sectors other.place (inr apart) is.lies;
  within = within_still spaces after copy group other.place one is.within;
}

-- each copy lies apart from all behind it
abbrev pub LieApart : List CopyAt → Type 0
LieApart [] = Unit {0}
LieApart (copy ∷ copies) = ((other : CopyAt) → Contains copies other → ArePlacesApart copy.place other.place) × LieApart copies

-- copies that are there, in use and apart can be given back one after the other
pub give_all : (spaces : List VdevSpace) (copies : List CopyAt) (group : ℕ) → ((copy : CopyAt) → Contains copies copy → IsGivable spaces copy) → LieApart copies
    → (after : List VdevSpace) × AreReleased spaces copies group after
give_all spaces [] group each apart = (spaces, refl)
give_all spaces (copy ∷ copies) group each (first, apart) =
    let one = give_one spaces copy group (each copy (0, omega arith, refl)) in
    let rest = give_all one.0 copies group
    (λ other held. givable_still spaces one.0 copy other group one.1 (first other held) (each other (Contains-append_right (copy ∷ []) copies other held))) apart in
    (rest.0, (one.0, one.1, rest.1))

apart_together : (copies others : List CopyAt) → LieApart copies → LieApart others
    → ((copy other : CopyAt) → Contains copies copy → Contains others other → ArePlacesApart copy.place other.place) → LieApart (copies ++ others)
apart_together [] others apart rest between = rest
apart_together (copy ∷ copies) others (first, apart) rest between = (
  λ other held. elim (Contains-append_cases copies others other held) [
    | inl here ↦ first other here
    | inr there ↦ between copy other (0, omega arith, refl) there
  ],
  apart_together copies others apart rest (λ one other held there. between one other (Contains-append_right (copy ∷ []) copies one held) there),
)

-- ---- the copies of blocks

-- so do the copies at places that lie apart
apart_in_block : (block : Block) (places : List Dva)
    → ((i k : ℕ) (place other : Dva) → i < k → slice_get places i ≡ Some place → slice_get places k ≡ Some other → ArePlacesApart place other)
    → LieApart (copies_of_at block places)
apart_in_block block [] apart = tt
apart_in_block block (place ∷ places) apart = (
  λ other held. let (k, at, sectors) = copy_at block places other held in apart 0 (suc k) place other.place (omega arith) refl at,
  apart_in_block block places (λ i k one other less here there. apart (suc i) (suc k) one other (omega (arith, less)) here there),
)

distinct_first : (block : Block) (blocks : List Block) → AreDistinct (block ∷ blocks) → (other : Block) → Contains blocks other → block ≢ other
distinct_first block blocks distinct other (i, within, is) same = distinct 0 (suc i) other (omega arith) (omega (arith, within)) (same ∙ sym is)

distinct_rest : (block : Block) (blocks : List Block) → AreDistinct (block ∷ blocks) → AreDistinct blocks
distinct_rest block blocks distinct i j d less within = distinct (suc i) (suc j) d (omega (arith, less)) (omega (arith, within))

-- blocks that are placed, each once
pub placed_apart : (spaces : List VdevSpace) (contents : Contents) (blocks : List Block) → ArePlaced spaces planned contents → AreStored contents blocks → AreDistinct blocks
    → LieApart (copies_of_all blocks)
placed_apart spaces contents [] placed are distinct = tt
placed_apart spaces contents (block ∷ blocks) placed are distinct =
    let first : Contains (block ∷ blocks) block = (0, omega arith, refl) in
    let known = are block first in
    let others : AreStored contents blocks = λ other held. are other (Contains-append_right (block ∷ []) blocks other held) in
    apart_together (copies_of block) (copies_of_all blocks)
    (apart_in_block block (dvas block.copies) (λ i k place other less here there.
    elim (placed.apart block block known.0 known.0 i k place other known.1 known.1 here there) [
      | inl (same, index) ↦ absurd (omega (arith, less, index))
      | inr apart ↦ apart
    ]))
    (placed_apart spaces contents blocks placed others (distinct_rest block blocks distinct))
    (λ copy other held there.
    let (i, at, sectors) = copy_at block (dvas block.copies) copy held in
    let of = copy_among blocks other there in
    let also = others of.block of.among in
    elim (placed.apart block of.block known.0 also.0 i of.i copy.place other.place known.1 also.1 at of.at) [
      | inl (same, index) ↦ absurd (distinct_first block blocks distinct of.block of.among same)
      | inr apart ↦ apart
    ])

-- Blocks that are stored, each once, and in use can be given back, where the metaslabs have their sectors.
pub stored_given_back : (store : Store) (stored later : Contents) (blocks : List Block) (group : ℕ) → Plans store stored later → AreStored stored blocks → AreDistinct blocks
    → AreAllInUse store.spaces blocks → ((copy : CopyAt) → Contains (copies_of_all blocks) copy → LiesWithin store.spaces copy.place)
    → (after : List VdevSpace) × AreReleased store.spaces (copies_of_all blocks) group after
stored_given_back store stored later blocks group plans are distinct in_use within =
    let known : AreStored later blocks = λ block held. let there = are block held in (there.0, plans.kept block there.0 there.1) in
    give_all store.spaces (copies_of_all blocks) group
    (λ copy held.
    let of = copy_among blocks copy held in
    record {
      lies = subst (λ n. LiesOn IsInUse store.spaces planned n copy.place) (sym of.sectors) (in_use of.block of.among of.i copy.place of.at);
      within = within copy held;
    })
    (placed_apart store.spaces later blocks plans.placed known distinct)

-- ---- metaslabs that have their sectors

-- each metaslab of the plan has as many sectors as its vdev says
pub within_spaces : (spaces : List VdevSpace) (sectors : ℕ) (place : Dva) → All IsSpace spaces → LiesOn IsInUse spaces planned sectors place → LiesWithin spaces place
within_spaces spaces sectors place are lies = λ space there found is_there.
    let space_is : lies.space ≡ space = same_some lies.space space (sym lies.found ∙ found) in
    let one : sector_of space.shape place + place.allocated ≤ metaslab_sectors space.shape =
    subst (λ (x : VdevSpace). sector_of x.shape place + place.allocated ≤ metaslab_sectors x.shape) space_is lies.is_place.one in
    let is : IsSpace space = All-contains IsSpace spaces space are (among spaces place.vdev space found) in
    let size : sectors_of there ≡ metaslab_sectors space.shape =
    All-contains (λ (x : Space). sectors_of x ≡ metaslab_sectors space.shape) (planned space) there is.planned.1
    (among (planned space) (metaslab_of space.shape place) there is_there) in
    omega (arith, one, size)
  where
    among : {X : Type 0} (xs : List X) (i : ℕ) (x : X) → slice_get xs i ≡ Some x → Contains xs x
    among xs i x at = (i, slice_get_within xs i x at, get_or_from_slice_get xs i x x at)

-- so it is before the meta regions, where there is a set of what is unused of each metaslab
pub within_unused : (spaces : List VdevSpace) (copy : CopyAt) → AreThere spaces planned → IsBeforeMeta spaces copy → LiesOn IsInUse spaces planned copy.sectors copy.place
    → LiesWithin spaces copy.place
within_unused spaces copy are before lies = λ space there found is_there.
    let space_is : lies.space ≡ space = same_some lies.space space (sym lies.found ∙ found) in
    let one : sector_of space.shape copy.place + copy.place.allocated ≤ metaslab_sectors space.shape =
    subst (λ (x : VdevSpace). sector_of x.shape copy.place + copy.place.allocated ≤ metaslab_sectors x.shape) space_is lies.is_place.one in
    let place : MetaslabPlace = record { vdev = copy.place.vdev; index = metaslab_of space.shape copy.place } in
    let has = are place (record { space = space; found = found; before = before space found }) in
    let own : has.unused.space ≡ space = same_some has.unused.space space (sym has.unused.found ∙ found) in
    let slab : has.unused.there ≡ there = same_some has.unused.there there
    (sym has.unused.is_there ∙ ap (λ (x : VdevSpace). slice_get (planned x) (metaslab_of space.shape copy.place)) own ∙ is_there) in
    let size : sectors_of there ≡ metaslab_sectors space.shape =
    ap sectors_of (sym slab) ∙ sym has.unused.unused.sectors ∙ has.unused.sectors ∙ ap (λ (x : VdevSpace). metaslab_sectors x.shape) own in
    omega (arith, one, size)

pub sized_given_back : (store : Store) (stored later : Contents) (blocks : List Block) (group : ℕ) → Plans store stored later → AreStored stored blocks → AreDistinct blocks
    → AreAllInUse store.spaces blocks → All IsSpace store.spaces → (after : List VdevSpace) × AreReleased store.spaces (copies_of_all blocks) group after
sized_given_back store stored later blocks group plans are distinct in_use sized =
    stored_given_back store stored later blocks group plans are distinct in_use
    (λ copy held. let of = copy_among blocks copy held in
    within_spaces store.spaces of.block.property.sectors copy.place sized (in_use of.block of.among of.i copy.place of.at))
