-- A block that a plan adds.
use Rattle.std.proofs.Common.{ℕ, ◌≡◌, ◌⊎◌, inl, inr, ◌<◌, ◌≤◌, Bool, true, false, if◌then◌else◌, Option, Some, None, List, [], ◌++◌, length, Contains, refl, sym, ap, subst, ◌∙◌, arith}
use Rattle.std.specs.Prelude.{unwrap_or}
use Rattle.std.specs.List.{slice_get}
use Rattle.std.proofs.lemmas.List.Elements.{Contains-append_left, Contains-append_right, Contains-append_cases}
use Rattle.std.proofs.lemmas.Option.{slice_get_within}
use Rattle.model_disk.specs.Joint.{Disks, content}
use Rattle.block_pointer.specs.declared.block.Block.{Block}
use Rattle.block_pointer.specs.declared.copies.Copies.{Copies}
use Rattle.block_pointer.specs.declared.copies.Copies.TheVariants.{One, Two, Three}
use Rattle.block_pointer.specs.declared.dva.Dva.{Dva}
use Rattle.block_pointer.specs.Copies.{dvas}
use Rattle.raidz_io.specs.declared.vdev.Extent.{Extent}
use Rattle.raidz_io.specs.Writes.{ColumnWrite}
use Rattle.raidz_io.specs.Stands.{IsDone, IsWithin}
use Rattle.raidz_io.proofs.Kept.{writes_on_disks}
use Rattle.raidz_io.proofs.Placed.{extent_fits}
use Rattle.raidz_io.proofs.Written.{same_some, slice_get_some}
use Rattle.block_store.specs.Blocks.{Contents, Adds, IsWrittenAs}
use Rattle.block_store.specs.Spaces.{VdevSpace}
use Rattle.block_store.specs.Places.{shapes_of, IsFree, IsTaken, IsPlaceIn, IsCopy, IsExtentAt, ArePlacesApart, ArePlacesIn, AreChosen}
use Rattle.block_store.specs.Places.{filled as filled_marks, planned as planned_marks}
use Rattle.block_store.specs.Plans.{Plans, KeepsPlans, IsOnTheWay, IsDueFor, AreWritesAt}
use Rattle.block_store.specs.Store.{Store, Spans, Keeps, KeepsStored, IsStore, outs, outs_from, ArePlaced}
use Rattle.block_store.proofs.Accounting.{chosen_uses, used_after, has_too, has_sector, on_place_too}
use Rattle.block_store.proofs.Beside.{chosen_beside, chosen_free, lies_still}
use Rattle.block_store.proofs.Lost.{lose_same}
use Rattle.block_store.proofs.Planning.{IsSameBut, grows_by, holds_by, keeps_by, marks_by_map, some_or_none, stores_grown}
use Rattle.block_store.proofs.ReadingPlaces.{place_fits}
use Rattle.block_store.proofs.SameBlock.{same_block, block_is, block_itself}
use Rattle.block_store.proofs.Sizes.{asize_some}
use Rattle.block_store.proofs.Taking.{AreTakenToo, Grows, are_taken, chosen_for, places_too, taken_some, taken_too, placed_too, copy_too, turned}
use Rattle.block_store.proofs.TakenIn.{lies_by}
use Rattle.block_store.specs.Uses.{LiesOn, IsInUse}
use Rattle.block_store.proofs.Uses.{lies_chosen, chosen_in_use}
use Rattle.block_store.proofs.Writing.{found_at}

-- the contents with this block
with_block : Block → List ℕ → Contents → Contents
with_block block bytes planned other = if same_block other block then Some bytes else planned other

-- the writes of each copy, with those of this block
with_copies : Block → List (List ColumnWrite) → (Block → ℕ → List ColumnWrite) → Block → ℕ → List ColumnWrite
with_copies block copies before other i = if same_block other block then unwrap_or (slice_get copies i) [] else before other i

-- a block that was placed, written and is now planned
pub record IsNewBlock (old new : Store) (block : Block) (bytes : List ℕ) (places : List Dva) (writes : List ColumnWrite) : Type 0 where
  pub disks : new.disks ≡ old.disks
  pub out : new.out ≡ old.out
  pub spans : new.spans ≡ old.spans
  pub stray : new.stray ≡ old.stray
  pub born : old.spans.group ≤ block.birth
  pub due : new.due ≡ old.due ++ writes
  pub chosen : AreChosen old.spaces [] block.property.sectors (length places) places new.spaces
  pub copies_at : dvas block.copies ≡ places
  pub written : IsWrittenAs block bytes
  pub mid : Store
  pub mid_spaces : mid.spaces ≡ new.spaces
  pub mid_out : mid.out ≡ new.out
  pub writes_at : AreWritesAt mid block.property.sectors bytes places writes

-- places that are chosen for all copies of a block are in its region
pub places_for : (spaces after : List VdevSpace) (sectors : ℕ) (places : List Dva) → AreChosen spaces [] sectors (length places) places after
    → ArePlacesIn after sectors places
places_for spaces after sectors places chosen place among =
    let at = found_at places place among in chosen_for spaces [] sectors (length places) places after chosen at.0 place at.1

-- a place is not apart from itself
not_apart : (place : Dva) → 0 < place.allocated → ¬ ArePlacesApart place place
not_apart place some (inl differ) = differ refl
not_apart place some (inr (inl before)) = absurd (omega (arith, before, some))
not_apart place some (inr (inr after)) = absurd (omega (arith, after, some))

first_copy : (copies : Copies) → (place : Dva) × (slice_get (dvas copies) 0 ≡ Some place)
first_copy (One a) = (a, refl)
first_copy (Two a b) = (a, refl)
first_copy (Three a b c) = (a, refl)

-- the block was not known
is_fresh : (old new : Store) (block : Block) (bytes : List ℕ) (places : List Dva) (writes : List ColumnWrite) (planned : Contents)
    → IsNewBlock old new block bytes places writes → ArePlaced old.spaces planned_marks planned → planned block ≡ None
is_fresh old new block bytes places writes planned is placed =
    let taken : AreTakenToo old.spaces block.property.sectors places new.spaces = are_taken old.spaces [] block.property.sectors (length places) places new.spaces is.chosen in
    let first = first_copy block.copies in
    let at : slice_get places 0 ≡ Some first.0 = ap (λ xs. slice_get xs 0) (sym is.copies_at) ∙ first.1 in
    elim (some_or_none (planned block)) [
      | inr none ↦ none
      | inl (known, is_known) ↦
          let was : IsTaken old.spaces planned_marks block.property.sectors first.0 = placed.places block known 0 first.0 is_known first.1 in
          let some : 0 < first.0.allocated = omega (arith, was.is_place.allocated, asize_some was.space.shape.vdev.geometry block.property.sectors is.written.fits.property.not_empty) in
          absurd (not_apart first.0 some (taken.from_others is.written.fits.property.not_empty 0 block.property.sectors first.0 first.0 some at was))
    ]

if_yes : {X : Type 0} (test : Bool) (x y : X) → test ≡ true → (if test then x else y) ≡ x
if_yes true x y is = refl
if_yes false x y is = absurd (cc)

if_no : {X : Type 0} (test : Bool) (x y : X) → test ≡ false → (if test then x else y) ≡ y
if_no true x y is = absurd (cc)
if_no false x y is = refl

either : (test : Bool) → (test ≡ true) ⊎ (test ≡ false)
either true = inl refl
either false = inr refl

-- a block that was known is another
is_other : (block other : Block) (planned : Contents) (known : List ℕ) → planned block ≡ None → planned other ≡ Some known → same_block other block ≡ false
is_other block other planned known fresh is = elim (either (same_block other block)) [
  | inr is_not ↦ is_not
  | inl is_it ↦ absurd (let e : Some known ≡ None = sym is ∙ ap planned (block_is other block is_it) ∙ fresh in cc)
]

-- each block that is known now is this one, or was known
this_or_known : (block other : Block) (bytes known : List ℕ) (planned : Contents) → with_block block bytes planned other ≡ Some known
    → ((other ≡ block) × (known ≡ bytes)) ⊎ (planned other ≡ Some known)
unfolding with_block
this_or_known block other bytes known planned is = elim (either (same_block other block)) [
  | inl is_it ↦ inl (block_is other block is_it, same_some known bytes (sym is ∙ if_yes (same_block other block) (Some bytes) (planned other) is_it))
  | inr is_not ↦ inr (sym (if_no (same_block other block) (Some bytes) (planned other) is_not) ∙ is)
]

still_known : (block other : Block) (bytes known : List ℕ) (planned : Contents) → planned block ≡ None → planned other ≡ Some known
    → with_block block bytes planned other ≡ Some known
unfolding with_block
still_known block other bytes known planned fresh is =
    if_no (same_block other block) (Some bytes) (planned other) (is_other block other planned known fresh is) ∙ is

now_known : (block : Block) (bytes : List ℕ) (planned : Contents) → with_block block bytes planned block ≡ Some bytes
unfolding with_block
now_known block bytes planned = if_yes (same_block block block) (Some bytes) (planned block) (block_itself block)

their_copies : (block other : Block) (copies : List (List ColumnWrite)) (before : Block → ℕ → List ColumnWrite) (i : ℕ) (planned : Contents) (known : List ℕ)
    → planned block ≡ None → planned other ≡ Some known → with_copies block copies before other i ≡ before other i
unfolding with_copies
their_copies block other copies before i planned known fresh is =
    if_no (same_block other block) (unwrap_or (slice_get copies i) []) (before other i) (is_other block other planned known fresh is)

its_copies : (block : Block) (copies : List (List ColumnWrite)) (before : Block → ℕ → List ColumnWrite) (i : ℕ) (copy : List ColumnWrite)
    → slice_get copies i ≡ Some copy → with_copies block copies before block i ≡ copy
unfolding with_copies
its_copies block copies before i copy at =
    if_yes (same_block block block) (unwrap_or (slice_get copies i) []) (before block i) (block_itself block) ∙ ap (λ found. unwrap_or found []) at

-- all that is known is placed
placed_with : (old new : Store) (block : Block) (bytes : List ℕ) (places : List Dva) (writes : List ColumnWrite) (planned : Contents)
    → IsNewBlock old new block bytes places writes → ArePlaced old.spaces planned_marks planned → ArePlaced new.spaces planned_marks (with_block block bytes planned)
placed_with old new block bytes places writes planned is placed =
    let taken : AreTakenToo old.spaces block.property.sectors places new.spaces = are_taken old.spaces [] block.property.sectors (length places) places new.spaces is.chosen in
    let some : 0 < block.property.sectors = is.written.fits.property.not_empty in
    record {
      blocks = λ other known found. elim (this_or_known block other bytes known planned found) [
        | inl (this, same) ↦ subst (λ b. IsWrittenAs b known) (sym this) (subst (λ x. IsWrittenAs block x) (sym same) is.written)
        | inr was ↦ placed.blocks other known was
      ];
      places = λ other known i place found at. elim (this_or_known block other bytes known planned found) [
        | inl (this, same) ↦
            let here : slice_get places i ≡ Some place = ap (λ xs. slice_get xs i) (sym is.copies_at) ∙ ap (λ (b : Block). slice_get (dvas b.copies) i) (sym this) ∙ at in
            subst (λ (b : Block). IsTaken new.spaces planned_marks b.property.sectors place) (sym this) (taken.taken i place here)
        | inr was ↦ taken_too old.spaces new.spaces planned_marks planned_marks other.property.sectors place taken.grows (placed.places other known i place was at)
      ];
      regions = λ other known found. elim (this_or_known block other bytes known planned found) [
        | inl (this, same) ↦
            subst (λ (b : Block). ArePlacesIn new.spaces b.property.sectors (dvas b.copies)) (sym this)
            (subst (λ them. ArePlacesIn new.spaces block.property.sectors them) (sym is.copies_at)
            (places_for old.spaces new.spaces block.property.sectors places is.chosen))
        | inr was ↦ places_too old.spaces new.spaces other.property.sectors (dvas other.copies) taken.grows.shapes (placed.regions other known was)
      ];
      apart = λ first second known known' i k place behind found found' at at'.
          elim (this_or_known block first bytes known planned found) [
            | inl (this, same) ↦
                let here : slice_get places i ≡ Some place = ap (λ xs. slice_get xs i) (sym is.copies_at) ∙ ap (λ (b : Block). slice_get (dvas b.copies) i) (sym this) ∙ at in
                elim (this_or_known block second bytes known' planned found') [
                  | inl (this', same') ↦
                      let here' : slice_get places k ≡ Some behind = ap (λ xs. slice_get xs k) (sym is.copies_at) ∙ ap (λ (b : Block). slice_get (dvas b.copies) k) (sym this') ∙ at' in
                      elim (taken.apart some i k place behind here here') [ inl one ↦ inl (this ∙ sym this', one) | inr apart ↦ inr apart ]
                  | inr was ↦
                      let there = placed.places second known' k behind was at' in
                      inr (taken.from_others some i second.property.sectors place behind
                      (taken_some old.spaces planned_marks second.property.sectors behind (placed.blocks second known' was).fits.property.not_empty there) here there)
                ]
            | inr was ↦ elim (this_or_known block second bytes known' planned found') [
              | inl (this', same') ↦
                  let here' : slice_get places k ≡ Some behind = ap (λ xs. slice_get xs k) (sym is.copies_at) ∙ ap (λ (b : Block). slice_get (dvas b.copies) k) (sym this') ∙ at' in
                  let there = placed.places first known i place was at in
                  inr (turned behind place (taken.from_others some k first.property.sectors behind place
                  (taken_some old.spaces planned_marks first.property.sectors place (placed.blocks first known was).fits.property.not_empty there) here' there))
              | inr was' ↦ placed.apart first second known known' i k place behind was was' at at'
            ]
          ];
    }

-- the copies of the block are on the way
its_way : (old new : Store) (block : Block) (bytes : List ℕ) (places : List Dva) (writes : List ColumnWrite) (before : Block → ℕ → List ColumnWrite)
    → (is : IsNewBlock old new block bytes places writes) → (i : ℕ) (extent : Extent) → IsCopy new.spaces block i extent
    → IsOnTheWay new (with_copies block is.writes_at.copies before block i) extent bytes
its_way old new block bytes places writes before is i extent copy =
    let at : slice_get places i ≡ Some copy.place = ap (λ xs. slice_get xs i) (sym is.copies_at) ∙ copy.is_copy in
    let within : i < length is.writes_at.copies = omega (arith, slice_get_within places i copy.place at, is.writes_at.count) in
    let found = slice_get_some is.writes_at.copies i within in
    let extent_is : IsExtentAt is.mid.spaces block.property.sectors copy.place extent =
    subst (λ s. IsExtentAt s block.property.sectors copy.place extent) (sym is.mid_spaces) copy.extent_is in
    let stores = is.writes_at.would_store i copy.place found.0 extent at found.1 extent_is in
    subst (λ them. IsOnTheWay new them extent bytes) (sym (its_copies block is.writes_at.copies before i found.0 found.1)) (record {
      would_store = stores.0;
      columns = stores.1;
      each = λ write of present.
          let not_out : ¬ Contains (outs is.mid) write.disk = subst (λ o. ¬ Contains (outs_from 0 o) write.disk) (sym is.mid_out) present in
          inr (subst (λ xs. Contains xs write) (sym is.due) (Contains-append_right old.due writes write (is.writes_at.each i found.0 write found.1 of not_out)));
    })

-- those that were on the way are so still
their_way : (old new : Store) (block : Block) (bytes : List ℕ) (places : List Dva) (writes their_writes : List ColumnWrite) (extent : Extent) (known : List ℕ)
    → IsNewBlock old new block bytes places writes → IsOnTheWay old their_writes extent known → IsOnTheWay new their_writes extent known
their_way old new block bytes places writes their_writes extent known is way = record {
  would_store = way.would_store;
  columns = way.columns;
  each = λ write of present.
      let not_out : ¬ Contains (outs old) write.disk = subst (λ o. ¬ Contains (outs_from 0 o) write.disk) is.out present in
      elim (way.each write of not_out) [
        | inl done ↦ inl (subst (λ (d : Disks). IsDone (content d) write) (sym is.disks) done)
        | inr due ↦ inr (subst (λ xs. Contains xs write) (sym is.due) (Contains-append_left old.due writes write due))
      ];
}

-- places that are chosen fill nothing, and what is held and stored stays so, whatever is due
chosen_grows : (spaces : List VdevSpace) (sectors copies : ℕ) (places : List Dva) (after : List VdevSpace) → AreChosen spaces [] sectors copies places after
    → Grows spaces after filled_marks filled_marks
chosen_grows spaces sectors copies places after chosen =
    let taken : AreTakenToo spaces sectors places after = are_taken spaces [] sectors copies places after chosen in
    grows_by spaces after filled_marks filled_marks taken.grows.shapes (marks_by_map filled_marks spaces after taken.filled_stays)

pub chosen_keeps : (old new : Store) (sectors copies : ℕ) (places : List Dva) → new.disks ≡ old.disks → new.out ≡ old.out → new.spans ≡ old.spans
    → AreChosen old.spaces [] sectors copies places new.spaces → Keeps old new
chosen_keeps old new sectors copies places disks out spans chosen =
    holds_by old new disks (lose_same old new out spans) (are_taken old.spaces [] sectors copies places new.spaces chosen).grows.shapes

pub chosen_stores : (old new : Store) (sectors copies : ℕ) (places : List Dva) → AreChosen old.spaces [] sectors copies places new.spaces → Keeps old new → KeepsStored old new
chosen_stores old new sectors copies places chosen keeps = stores_grown old new keeps (chosen_grows old.spaces sectors copies places new.spaces chosen)

-- the block is planned
pub added : (old new : Store) (block : Block) (bytes : List ℕ) (places : List Dva) (writes : List ColumnWrite) (stored planned : Contents)
    → IsNewBlock old new block bytes places writes → Plans old stored planned → (later : Contents) × Plans new stored later × Adds planned later block bytes
added old new block bytes places writes stored planned is plans =
    let taken : AreTakenToo old.spaces block.property.sectors places new.spaces = are_taken old.spaces [] block.property.sectors (length places) places new.spaces is.chosen in
    let fresh : planned block ≡ None = is_fresh old new block bytes places writes planned is plans.placed in
    let later : Contents = with_block block bytes planned in
    let of_copies : Block → ℕ → List ColumnWrite = with_copies block is.writes_at.copies plans.writes_of in (
      later,
      record {
        held = chosen_keeps old new block.property.sectors (length places) places is.disks is.out is.spans is.chosen stored plans.held;
        stored_placed = placed_too old.spaces new.spaces filled_marks filled_marks stored (chosen_grows old.spaces block.property.sectors (length places) places new.spaces is.chosen) plans.stored_placed;
        kept = λ other known found. still_known block other bytes known planned fresh (plans.kept other known found);
        placed = placed_with old new block bytes places writes planned is plans.placed;
        born = λ other known found unknown. elim (this_or_known block other bytes known planned found) [
          | inl (this, same) ↦ omega (arith, is.born, ap (λ (b : Block). b.birth) this, ap (λ (s : Spans). s.group) is.spans)
          | inr was ↦ omega (arith, plans.born other known was unknown, ap (λ (s : Spans). s.group) is.spans)
        ];
        in_use = λ other known found unknown i place at. elim (this_or_known block other bytes known planned found) [
          | inl (this, same) ↦
              let here : slice_get places i ≡ Some place = ap (λ xs. slice_get xs i) (sym is.copies_at) ∙ ap (λ (b : Block). slice_get (dvas b.copies) i) (sym this) ∙ at in
              subst (λ (b : Block). LiesOn IsInUse new.spaces planned_marks b.property.sectors place) (sym this)
              (chosen_in_use old.spaces [] block.property.sectors (length places) places new.spaces is.written.fits.property.not_empty is.chosen i place here)
          | inr was ↦
              lies_chosen IsInUse old.spaces [] block.property.sectors (length places) places new.spaces is.chosen refl other.property.sectors place
              (plans.in_use other known was unknown i place at)
        ];
        accounted = λ none at used. elim (chosen_uses IsInUse old.spaces [] block.property.sectors (length places) places new.spaces is.chosen at used) [
          | inl before ↦ elim (plans.accounted (sym is.stray ∙ none) at before) [
            | inl there ↦ inl (used_after IsInUse old.spaces new.spaces filled_marks filled_marks at taken.grows.shapes
                (marks_by_map filled_marks old.spaces new.spaces taken.filled_stays) there)
            | inr of ↦ inr (record {
              block = of.block;
              bytes = of.bytes;
              is_planned = still_known block of.block bytes of.bytes planned fresh of.is_planned;
              is_new = of.is_new;
              has = has_too old.spaces new.spaces of.block at taken.grows.shapes of.has;
            })
          ]
          | inr (holds, one) ↦ inr (record {
            block = block;
            bytes = bytes;
            is_planned = now_known block bytes planned;
            is_new = not_stored (stored block) refl;
            has = has_sector new.spaces block one.i one.place at (ap (λ xs. slice_get xs one.i) is.copies_at ∙ one.is)
                (on_place_too old.spaces new.spaces one.place at taken.grows.shapes one.on);
          })
        ];
        fresh = λ other known found unknown. elim (this_or_known block other bytes known planned found) [
          | inl (this, same) ↦ λ i place at.
              let here : slice_get places i ≡ Some place = ap (λ xs. slice_get xs i) (sym is.copies_at) ∙ ap (λ (b : Block). slice_get (dvas b.copies) i) (sym this) ∙ at in
              let lies : LiesOn IsFree old.spaces filled_marks block.property.sectors place =
              chosen_free old.spaces [] block.property.sectors (length places) places new.spaces is.written.fits.property.not_empty is.chosen plans.beside i place here in
              subst (λ (b : Block). LiesOn IsFree new.spaces filled_marks b.property.sectors place) (sym this)
              (lies_by IsFree old.spaces new.spaces filled_marks filled_marks taken.grows.shapes (marks_by_map filled_marks old.spaces new.spaces taken.filled_stays)
              block.property.sectors place lies)
          | inr was ↦
              lies_still IsFree old.spaces new.spaces taken.grows.shapes (marks_by_map filled_marks old.spaces new.spaces taken.filled_stays) other
              (plans.fresh other known was unknown)
        ];
        beside = chosen_beside old.spaces [] block.property.sectors (length places) places new.spaces is.chosen plans.beside;
        writes_of = of_copies;
        on_the_way = λ other known i extent found unknown copy. elim (this_or_known block other bytes known planned found) [
          | inl (this, same) ↦
              subst (λ b. IsOnTheWay new (of_copies b i) extent known) (sym this) (subst (λ x. IsOnTheWay new (of_copies block i) extent x) (sym same)
              (its_way old new block bytes places writes plans.writes_of is i extent (subst (λ b. IsCopy new.spaces b i extent) this copy)))
          | inr was ↦
              let old_copy : IsCopy old.spaces other i extent = copy_too new.spaces old.spaces other i extent (sym taken.grows.shapes) copy in
              subst (λ them. IsOnTheWay new them extent known) (sym (their_copies block other is.writes_at.copies plans.writes_of i planned known fresh was))
              (their_way old new block bytes places writes (plans.writes_of other i) extent known is (plans.on_the_way other known i extent was unknown old_copy))
        ];
        due = λ write held. elim (Contains-append_cases old.due writes write (subst (λ xs. Contains xs write) is.due held)) [
          | inl before ↦
              let was : IsDueFor old stored planned plans.writes_of write = plans.due write before in
              record {
                block = was.block;
                bytes = was.bytes;
                i = was.i;
                extent = was.extent;
                is_planned = still_known block was.block bytes was.bytes planned fresh was.is_planned;
                is_new = was.is_new;
                is_copy = copy_too old.spaces new.spaces was.block was.i was.extent taken.grows.shapes was.is_copy;
                is_of_copy = subst (λ xs. Contains xs write) (sym (their_copies block was.block is.writes_at.copies plans.writes_of was.i planned was.bytes fresh was.is_planned)) was.is_of_copy;
              }
          | inr here ↦
              let of = is.writes_at.only write here in
              let at : (place : Dva) × (slice_get places of.0 ≡ Some place) =
              slice_get_some places of.0 (omega (arith, slice_get_within is.writes_at.copies of.0 of.1 of.2, is.writes_at.count)) in
              let extent = is.writes_at.extents of.0 at.0 at.1 in
              record {
                block = block;
                bytes = bytes;
                i = of.0;
                extent = extent.0;
                is_planned = now_known block bytes planned;
                is_new = not_stored (stored block) refl;
                is_copy = record {
                  place = at.0;
                  is_copy = ap (λ xs. slice_get xs of.0) is.copies_at ∙ at.1;
                  extent_is = subst (λ s. IsExtentAt s block.property.sectors at.0 extent.0) is.mid_spaces extent.1;
                };
                is_of_copy = subst (λ xs. Contains xs write) (sym (its_copies block is.writes_at.copies plans.writes_of of.0 of.1 of.2)) of.3;
              }
        ];
      },
      record {
        fresh = fresh;
        added = now_known block bytes planned;
        kept = λ other known found. still_known block other bytes known planned fresh found;
        only = λ other known found. this_or_known block other bytes known planned found;
      },
    )
  where
    not_stored : (found : Option (List ℕ)) → stored block ≡ found → stored block ≡ None
    not_stored None is' = is'
    not_stored (Some known) is' =
        absurd (let e : Some known ≡ None = sym (plans.kept block known is') ∙ is_fresh old new block bytes places writes planned is plans.placed in cc)

-- ---- places that were taken, where nothing else changed

-- places were taken, and nothing else was changed
pub record OnlyTook (old new : Store) (sectors copies : ℕ) (places : List Dva) : Type 0 where
  pub disks : new.disks ≡ old.disks
  pub out : new.out ≡ old.out
  pub spans : new.spans ≡ old.spans
  pub due : new.due ≡ old.due
  pub chosen : AreChosen old.spaces [] sectors copies places new.spaces

took_same : (old new : Store) (sectors copies : ℕ) (places : List Dva) → OnlyTook old new sectors copies places → IsSameBut old new filled_marks filled_marks
took_same old new sectors copies places took =
    let taken : AreTakenToo old.spaces sectors places new.spaces = are_taken old.spaces [] sectors copies places new.spaces took.chosen in
    record {
      disks = took.disks;
      out = took.out;
      more_lost = lose_same old new took.out took.spans;
      shapes = taken.grows.shapes;
      are = marks_by_map filled_marks old.spaces new.spaces taken.filled_stays;
    }

pub took_keeps : (old new : Store) (sectors copies : ℕ) (places : List Dva) → OnlyTook old new sectors copies places → Keeps old new
took_keeps old new sectors copies places took = keeps_by old new (took_same old new sectors copies places took)

pub chosen_shapes : (spaces : List VdevSpace) (sectors copies : ℕ) (places : List Dva) (after : List VdevSpace) → AreChosen spaces [] sectors copies places after
    → shapes_of after ≡ shapes_of spaces
chosen_shapes spaces sectors copies places after chosen = (are_taken spaces [] sectors copies places after chosen).grows.shapes

pub took_shapes : (old new : Store) (sectors copies : ℕ) (places : List Dva) → OnlyTook old new sectors copies places → shapes_of new.spaces ≡ shapes_of old.spaces
took_shapes old new sectors copies places took = (took_same old new sectors copies places took).shapes

pub took_keeps_plans : (old new : Store) (sectors copies : ℕ) (places : List Dva) → OnlyTook old new sectors copies places → new.stray ≡ true → KeepsPlans old new
took_keeps_plans old new sectors copies places took stray stored planned plans =
    let taken : AreTakenToo old.spaces sectors places new.spaces = are_taken old.spaces [] sectors copies places new.spaces took.chosen in
    record {
      held = took_keeps old new sectors copies places took stored plans.held;
      stored_placed = placed_too old.spaces new.spaces filled_marks filled_marks stored (chosen_grows old.spaces sectors copies places new.spaces took.chosen) plans.stored_placed;
      kept = plans.kept;
      placed = placed_too old.spaces new.spaces planned_marks planned_marks planned taken.grows plans.placed;
      born = λ block bytes known fresh. omega (arith, plans.born block bytes known fresh, ap (λ (s : Spans). s.group) took.spans);
      in_use = λ block bytes known fresh i place at.
          lies_chosen IsInUse old.spaces [] sectors copies places new.spaces took.chosen refl block.property.sectors place (plans.in_use block bytes known fresh i place at);
      accounted = λ none. absurd (let e : true ≡ false = sym stray ∙ none in cc);
      fresh = λ block bytes known fresh.
          lies_still IsFree old.spaces new.spaces taken.grows.shapes (marks_by_map filled_marks old.spaces new.spaces taken.filled_stays) block
          (plans.fresh block bytes known fresh);
      beside = chosen_beside old.spaces [] sectors copies places new.spaces took.chosen plans.beside;
      writes_of = plans.writes_of;
      on_the_way = λ block bytes i extent known fresh copy.
          let way = plans.on_the_way block bytes i extent known fresh (copy_too new.spaces old.spaces block i extent (sym taken.grows.shapes) copy) in
          record {
            would_store = way.would_store;
            columns = way.columns;
            each = λ write of present.
                let not_out : ¬ Contains (outs old) write.disk = subst (λ o. ¬ Contains (outs_from 0 o) write.disk) took.out present in
                elim (way.each write of not_out) [
                  | inl done ↦ inl (subst (λ (d : Disks). IsDone (content d) write) (sym took.disks) done)
                  | inr due ↦ inr (subst (λ xs. Contains xs write) (sym took.due) due)
                ];
          };
      due = λ write held.
          let was = plans.due write (subst (λ xs. Contains xs write) took.due held) in
          record {
            block = was.block;
            bytes = was.bytes;
            i = was.i;
            extent = was.extent;
            is_planned = was.is_planned;
            is_new = was.is_new;
            is_copy = copy_too old.spaces new.spaces was.block was.i was.extent taken.grows.shapes was.is_copy;
            is_of_copy = was.is_of_copy;
          };
    }

-- the places are in the vdevs
pub places_in : (old new : Store) (sectors copies : ℕ) (places : List Dva) → OnlyTook old new sectors copies places → (i : ℕ) (place : Dva) → slice_get places i ≡ Some place
    → IsPlaceIn new.spaces sectors place
places_in old new sectors copies places took i place at =
    let taken : IsTaken new.spaces planned_marks sectors place = (are_taken old.spaces [] sectors copies places new.spaces took.chosen).taken i place at in
    record { space = taken.space; found = taken.found; is_place = taken.is_place }

-- the writes for copies at them are within the disks
pub writes_within : (store : Store) (sectors : ℕ) (bytes : List ℕ) (places : List Dva) (writes : List ColumnWrite) → IsStore store
    → AreWritesAt store sectors bytes places writes → ((i : ℕ) (place : Dva) → slice_get places i ≡ Some place → IsPlaceIn store.spaces sectors place)
    → (write : ColumnWrite) → Contains writes write → IsWithin store.disks.starts write
writes_within store sectors bytes places writes is at are_in write held =
    let of = at.only write held in
    let place : (p : Dva) × (slice_get places of.0 ≡ Some p) = slice_get_some places of.0 (omega (arith, slice_get_within at.copies of.0 of.1 of.2, at.count)) in
    let extent = at.extents of.0 place.0 place.1 in
    let stores = at.would_store of.0 place.0 of.1 extent.0 place.1 of.2 extent.1 in
    let fits = place_fits extent_fits store sectors place.0 extent.0 is (are_in of.0 place.0 place.1) extent.1 in
    let column = found_at of.1 write of.3 in
    writes_on_disks extent.0 store.disks.starts column.0 write fits.0 fits.1 (stores.1 column.0 write column.1)
