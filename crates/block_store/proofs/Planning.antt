-- Plans that begin, and plans that end.
use Rattle.std.proofs.Common.{ℕ, zero, suc, ◌≡◌, ◌⊎◌, inl, inr, ◌+◌, ◌<◌, ◌≤◌, Option, Some, None, List, [], ◌∷◌, length, get_or, Contains, refl, sym, ap, subst, ◌∙◌, arith}
use Rattle.std.specs.Prelude.{slice_index, slice_index_or, slice_set, map}
use Rattle.std.specs.List.{slice_get}
use Rattle.std.proofs.lemmas.Bool.{cases_eq}
use Rattle.std.proofs.lemmas.Option.{slice_get_within}
use Rattle.model_disk.specs.Joint.{Disks, content}
use Rattle.block_pointer.specs.declared.block.Block.{Block}
use Rattle.block_pointer.specs.declared.dva.Dva.{Dva}
use Rattle.block_pointer.specs.Copies.{dvas}
use Rattle.raidz_io.specs.declared.vdev.Extent.{Extent}
use Rattle.raidz_io.specs.Writes.{ColumnWrite}
use Rattle.raidz_io.specs.Stands.{ExtentStands, AreDone, IsDone}
use Rattle.raidz_io.proofs.Written.{same_some}
use Rattle.block_store.specs.Spaces.{VdevSpace}
use Rattle.block_store.specs.Blocks.{Contents}
use Rattle.block_store.specs.declared.shape.VdevShape.{VdevShape}
use Rattle.block_store.specs.Shapes.{IsPlace}
use Rattle.block_store.specs.Places.{Marks, shapes_of, HaveMarks, IsCopy, IsPlaceIn, ArePlacesIn}
use Rattle.block_store.specs.Places.{filled as filled_marks, planned as planned_marks}
use Rattle.block_store.specs.Plans.{Plans, IsOnTheWay}
use Rattle.block_store.specs.Store.{Store, outs, lost, ArePlaced, Stores, Keeps, KeepsStored}
use Rattle.raidz_io.proofs.Kept.{more_absent}
use Rattle.block_store.proofs.Lost.{LoseMore, lose_same, is_lost}
use Rattle.block_store.proofs.Accounting.{none_new}
use Rattle.block_store.proofs.Beside.{none_beside}
use Rattle.block_store.proofs.Taking.{Grows, MoreTaken, placed_too, copy_too, found_too, slice_get-set_same, slice_get-set_other, places_too}

pub marks_by_map : (marks : Marks) (spaces after : List VdevSpace) → map marks after ≡ map marks spaces → HaveMarks spaces marks after marks
marks_by_map marks [] after same v space new found found' = absurd (cc)
marks_by_map marks (s ∷ spaces) [] same v space new found found' = absurd (cc)
marks_by_map marks (s ∷ spaces) (a ∷ after) same zero space new found found' =
    let head : marks a ≡ marks s = cc in
    ap marks (sym (same_some a new found')) ∙ head ∙ ap marks (same_some s space found)
marks_by_map marks (s ∷ spaces) (a ∷ after) same (suc v) space new found found' =
    let rest : map marks after ≡ map marks spaces = cc in
    marks_by_map marks spaces after rest v space new found found'

pub grows_by : (spaces after : List VdevSpace) (marks later : Marks) → shapes_of after ≡ shapes_of spaces → HaveMarks spaces marks after later → Grows spaces after marks later
grows_by spaces after marks later shapes are = record {
  shapes = shapes;
  more = λ v space new found found'.
      subst (λ xs. MoreTaken (marks space) xs) (sym (are v space new found found')) (λ m metaslab at. (metaslab, at, λ s is. is));
}

-- the marks are so of the first vdevs
abbrev pub HaveMarksBelow : List VdevSpace → Marks → List VdevSpace → Marks → ℕ → Type 0
HaveMarksBelow spaces marks after later n =
    (v : ℕ) (space new : VdevSpace) → v < n → slice_get spaces v ≡ Some space → slice_get after v ≡ Some new → later new ≡ marks space

-- one more vdev has them
pub one_more : (spaces mid : List VdevSpace) (marks later : Marks) (n : ℕ) (item new : VdevSpace) → slice_get mid n ≡ Some item
    → HaveMarks spaces marks mid marks → HaveMarksBelow spaces marks mid later n → marks new ≡ marks item → later new ≡ marks item
    → HaveMarks spaces marks (slice_set mid n new) marks × HaveMarksBelow spaces marks (slice_set mid n new) later (n + 1)
one_more spaces mid marks later n item new at are below same changed = (
  λ v space there found found'. elim (cases_eq v n) [
    | inl here ↦
        let is_new : new ≡ there = slice_get-set_same mid n new there (ap (λ k. slice_get (slice_set mid n new) k) (sym here) ∙ found') in
        ap marks (sym is_new) ∙ same ∙ are v space item found (ap (λ k. slice_get mid k) here ∙ at)
    | inr other ↦ are v space there found (sym (slice_get-set_other mid n v new (λ is. other (sym is))) ∙ found')
  ],
  λ v space there less found found'. elim (cases_eq v n) [
    | inl here ↦
        let is_new : new ≡ there = slice_get-set_same mid n new there (ap (λ k. slice_get (slice_set mid n new) k) (sym here) ∙ found') in
        ap later (sym is_new) ∙ changed ∙ are v space item found (ap (λ k. slice_get mid k) here ∙ at)
    | inr other ↦ below v space there (omega (arith, less, other)) found (sym (slice_get-set_other mid n v new (λ is. other (sym is))) ∙ found')
  ],
)

pub all_below : (spaces after : List VdevSpace) (marks later : Marks) (n : ℕ) → length spaces ≤ n → HaveMarksBelow spaces marks after later n → HaveMarks spaces marks after later
all_below spaces after marks later n all below v space new found found' = below v space new (omega (arith, all, slice_get_within spaces v space found)) found found'

pub same_marks : (spaces : List VdevSpace) (marks : Marks) → HaveMarks spaces marks spaces marks
same_marks spaces marks v space new found found' = ap marks (same_some new space (sym found' ∙ found))

-- ---- what a store holds, and what it stores

-- each column of each copy stands
abbrev pub AllStand : Store → Contents → Type 0
AllStand store stored =
    (block : Block) (bytes : List ℕ) (i : ℕ) (extent : Extent) → stored block ≡ Some bytes → IsCopy store.spaces block i extent
    → ExtentStands (content store.disks) (lost store block.birth) extent bytes

-- so it does in a store with the same disks and vdevs
pub stand_by : (old new : Store) (stored : Contents) → new.disks ≡ old.disks → LoseMore old new → shapes_of new.spaces ≡ shapes_of old.spaces
    → AllStand old stored → AllStand new stored
stand_by old new stored disks more_lost shapes stand block bytes i extent known copy =
    let stood = stand block bytes i extent known (copy_too new.spaces old.spaces block i extent (sym shapes) copy) in
    let P : Disks → Type 0 = λ d. ExtentStands (content d) (lost old block.birth) extent bytes in
    more_absent (content new.disks) (lost old block.birth) (lost new block.birth) extent bytes (more_lost block.birth) (subst P (sym disks) stood)

pub place_too : (spaces after : List VdevSpace) (sectors : ℕ) (place : Dva) → shapes_of after ≡ shapes_of spaces → IsPlaceIn spaces sectors place → IsPlaceIn after sectors place
place_too spaces after sectors place shapes is =
    let there = found_too spaces after place.vdev is.space shapes is.found in
    record { space = there.0; found = there.1; is_place = subst (λ (shape : VdevShape). IsPlace shape sectors place) (sym there.2) is.is_place }

pub is_among : {X : Type 0} (xs : List X) (k : ℕ) (x : X) → slice_get xs k ≡ Some x → Contains xs x
is_among [] k x at = absurd (let e : None ≡ Some x = at in cc)
is_among (y ∷ ys) zero x at = (zero, omega arith, same_some y x at)
is_among (y ∷ ys) (suc k) x at = let there = is_among ys k x at in (suc there.0, omega (arith, there.1), there.2)

-- copies that are placed lie in places of the pool
pub placed_lies : (spaces : List VdevSpace) (marks : Marks) (contents : Contents) → ArePlaced spaces marks contents
    → (block : Block) (bytes : List ℕ) → contents block ≡ Some bytes → ArePlacesIn spaces block.property.sectors (dvas block.copies)
placed_lies spaces marks contents placed = placed.regions

-- a store with the same disks and vdevs holds what it held
pub holds_by : (old new : Store) → new.disks ≡ old.disks → LoseMore old new → shapes_of new.spaces ≡ shapes_of old.spaces → Keeps old new
holds_by old new disks more_lost shapes stored holds = record {
  blocks = holds.blocks;
  places = λ block bytes known. places_too old.spaces new.spaces block.property.sectors (dvas block.copies) shapes (holds.places block bytes known);
  stand = stand_by old new stored disks more_lost shapes holds.stand;
}

-- and what is placed there it stores
pub stores_by : (old new : Store) (stored : Contents) → new.disks ≡ old.disks → LoseMore old new → shapes_of new.spaces ≡ shapes_of old.spaces
    → ArePlaced new.spaces filled_marks stored → AllStand old stored → Stores new stored
stores_by old new stored disks more_lost shapes placed stand = record {
  held = record {
    blocks = placed.blocks;
    places = placed_lies new.spaces filled_marks stored placed;
    stand = stand_by old new stored disks more_lost shapes stand;
  };
  placed = placed;
}

-- what a plan stands on is stored
pub stored_by : (store : Store) (stored planned : Contents) → Plans store stored planned → Stores store stored
stored_by store stored planned plans = record { held = plans.held; placed = plans.stored_placed }

-- what is kept and grows is stored still
pub stores_grown : (old new : Store) → Keeps old new → Grows old.spaces new.spaces filled_marks filled_marks → KeepsStored old new
stores_grown old new keeps grows stored stores =
    record { held = keeps stored stores.held; placed = placed_too old.spaces new.spaces filled_marks filled_marks stored grows stores.placed }

pub stores_same : (old new : Store) → new.spaces ≡ old.spaces → Keeps old new → KeepsStored old new
stores_same old new spaces keeps stored stores =
    record { held = keeps stored stores.held; placed = subst (λ (s : List VdevSpace). ArePlaced s filled_marks stored) (sym spaces) stores.placed }

pub no_contents : {X : Type 0} (x : X) (found : Option X) → found ≡ Some x → ¬ (found ≡ None)
no_contents x found is none = absurd (let e : Some x ≡ None = sym is ∙ none in cc)

-- what a store keeps: its disks, the vdevs and their marks
pub record IsSameBut (old new : Store) (marks later : Marks) : Type 0 where
  pub disks : new.disks ≡ old.disks
  pub out : new.out ≡ old.out
  pub more_lost : LoseMore old new
  pub shapes : shapes_of new.spaces ≡ shapes_of old.spaces
  pub are : HaveMarks old.spaces marks new.spaces later

pub same_but : (old new : Store) (marks later : Marks) → new.disks ≡ old.disks → new.out ≡ old.out → new.spans ≡ old.spans → shapes_of new.spaces ≡ shapes_of old.spaces
    → HaveMarks old.spaces marks new.spaces later → IsSameBut old new marks later
same_but old new marks later disks out spans shapes are =
    record { disks = disks; out = out; more_lost = lose_same old new out spans; shapes = shapes; are = are }

pub keeps_by : (old new : Store) → IsSameBut old new filled_marks filled_marks → Keeps old new
keeps_by old new same = holds_by old new same.disks same.more_lost same.shapes

pub grows_same : (old new : Store) → IsSameBut old new filled_marks filled_marks → Grows old.spaces new.spaces filled_marks filled_marks
grows_same old new same = grows_by old.spaces new.spaces filled_marks filled_marks same.shapes same.are

pub stores_kept : (old new : Store) → IsSameBut old new filled_marks filled_marks → KeepsStored old new
stores_kept old new same = stores_grown old new (keeps_by old new same) (grows_same old new same)

pub nothing : (write : ColumnWrite) → ¬ Contains [] write
nothing write (k, within, is) = absurd (omega arith)

-- a plan begins
pub begun : (old new : Store) → IsSameBut old new filled_marks filled_marks → HaveMarks old.spaces filled_marks new.spaces planned_marks → new.due ≡ []
    → (stored : Contents) → Stores old stored → Plans new stored stored
begun old new same planned none stored stores = record {
  held = keeps_by old new same stored stores.held;
  stored_placed = (stores_kept old new same stored stores).placed;
  kept = λ block bytes known. known;
  placed = placed_too old.spaces new.spaces filled_marks planned_marks stored (grows_by old.spaces new.spaces filled_marks planned_marks same.shapes planned) stores.placed;
  born = λ block bytes known fresh. absurd (no_contents bytes (stored block) known fresh);
  in_use = λ block bytes known fresh. absurd (no_contents bytes (stored block) known fresh);
  accounted = λ none. none_new new.spaces stored stored nothing_new;
  fresh = λ block bytes known fresh. absurd (no_contents bytes (stored block) known fresh);
  beside = none_beside new.spaces nothing_new;
  writes_of = λ block i. [];
  on_the_way = λ block bytes i extent known fresh copy. absurd (no_contents bytes (stored block) known fresh);
  due = λ write held. absurd (nothing write (subst (λ xs. Contains xs write) none held));
}
  where
    nothing_new : HaveMarks new.spaces filled_marks new.spaces planned_marks
    nothing_new v space later found found' =
        let there = found_too new.spaces old.spaces v space (sym same.shapes) found in
        planned v there.0 later there.1 found' ∙ sym (same.are v there.0 space there.1 found)

pub some_or_none : {X : Type 0} (found : Option X) → ((x : X) × (found ≡ Some x)) ⊎ (found ≡ None)
some_or_none (Some x) = inl (x, refl)
some_or_none None = inr refl

-- what is on the way stands once nothing is due
pub arrived : (store : Store) (writes : List ColumnWrite) (extent : Extent) (bytes : List ℕ) → store.due ≡ [] → IsOnTheWay store writes extent bytes
    → ExtentStands (content store.disks) (outs store) extent bytes
arrived store writes extent bytes none way =
    way.would_store (content store.disks) (outs store) (all_done writes (λ write of present. elim (way.each write of present) [
      | inl done ↦ done
      | inr due ↦ absurd (nothing write (subst (λ xs. Contains xs write) none due))
    ]))
  where
    is_there : (them : List ColumnWrite) (i : ℕ) (write : ColumnWrite) → i < length them → slice_index_or them i (get_or them i write) ≡ get_or them i write
    is_there [] i write within = absurd (omega arith)
    is_there (w ∷ them) zero write within = refl
    is_there (w ∷ them) (suc i) write within = is_there them i write (omega arith)

    all_done : (them : List ColumnWrite) → ((write : ColumnWrite) → Contains them write → ¬ Contains (outs store) write.disk → IsDone (content store.disks) write)
        → AreDone (content store.disks) (outs store) them
    all_done them each = λ i write within present. each (get_or them i write) (i, within, is_there them i write within) present

-- a plan ends
pub finished : (old new : Store) → IsSameBut old new planned_marks filled_marks → ((disk : ℕ) → slice_index old.spans.since disk ≤ old.spans.group) → old.due ≡ []
    → (stored planned : Contents) → Plans old stored planned → Stores new planned
finished old new same reached none stored planned plans =
    stores_by old new planned same.disks same.more_lost same.shapes
    (placed_too old.spaces new.spaces planned_marks filled_marks planned (grows_by old.spaces new.spaces planned_marks filled_marks same.shapes same.are) plans.placed)
    (λ block bytes i extent known copy. elim (some_or_none (stored block)) [
      | inl (was, is) ↦
          let same_bytes : was ≡ bytes = same_some was bytes (sym (plans.kept block was is) ∙ known) in
          subst (λ b. ExtentStands (content old.disks) (lost old block.birth) extent b) same_bytes (plans.held.stand block was i extent is copy)
      | inr fresh ↦
          more_absent (content old.disks) (outs old) (lost old block.birth) extent bytes
          (λ disk out. is_lost old block.birth disk out (omega (arith, reached disk, plans.born block bytes known fresh)))
          (arrived old (plans.writes_of block i) extent bytes none (plans.on_the_way block bytes i extent known fresh copy))
    ])
