-- Blocks whose copies are taken in: which sectors they have, and what the store holds from then on.
use Rattle.std.proofs.Common.{ℕ, zero, suc, ◌≡◌, ◌⊎◌, inl, inr, ◌<◌, Some, List, [], ◌∷◌, ◌++◌, length, get_or, refl, sym, ap, subst, ◌∙◌, arith}
use Rattle.std.specs.Prelude.{Contains}
use Rattle.std.specs.List.{slice_get}
use Rattle.std.proofs.lemmas.List.Elements.{Contains-append_left, Contains-append_right, Contains-append_cases}
use Rattle.block_pointer.specs.declared.block.Block.{Block}
use Rattle.block_pointer.specs.declared.copies.Copies.{Copies}
use Rattle.block_pointer.specs.declared.copies.Copies.TheVariants.{One, Two, Three}
use Rattle.block_pointer.specs.declared.dva.Dva.{Dva}
use Rattle.block_pointer.specs.Copies.{dvas}
use Rattle.raidz_io.proofs.Written.{same_some}
use Rattle.metaslab.specs.State.{State, InUse}
use Rattle.block_store.specs.Accounts.{SectorAt, IsUsed}
use Rattle.block_store.specs.Blocks.{Contents, AreDistinct, IsWrittenAs}
use Rattle.block_store.specs.Opened.{TakeIn, IsOfOne, Fills, AreFound}
use Rattle.block_store.specs.Places.{Marks, shapes_of, IsFree, IsTaken, ArePlacesApart}
use Rattle.block_store.specs.Places.{filled as filled_marks, planned as planned_marks}
use Rattle.block_store.specs.Releases.{CopyAt, copy_of_at, copies_of_at, copies_of, copies_of_all}
use Rattle.block_store.specs.Spaces.{VdevSpace}
use Rattle.block_store.specs.Store.{Store, ArePlaced, Stores, Keeps, KeepsStored}
use Rattle.block_store.specs.Uses.{LiesOn, CopiesLieOn, IsInUse}
use Rattle.block_store.proofs.Accounting.{on_place_too, has_sector, has_on_place, used_before, used_after}
use Rattle.block_store.proofs.Lost.{lose_same}
use Rattle.block_store.proofs.Planning.{grows_by, holds_by, stores_by, stores_grown}
use Rattle.block_store.proofs.Taking.{Grows, grows_on, taken_too, taken_some, placed_too, turned, places_too}
use Rattle.block_store.proofs.TakenIn.{OnCopy, Picks, picks_filled, picks_planned, TakeAll, viewed, viewed_shapes, into_view, out_of_view, viewed_all, lies_by, first_or_later, all_grow, all_taken, all_apart, all_some, all_lie, all_spare, all_in_use, all_stay, all_were_free, all_only, all_rest, all_for}
use Rattle.block_store.proofs.Writing.{found_at}

-- ---- the copies of blocks

is_at : (block : Block) (places : List Dva) (i : ℕ) (place : Dva) → slice_get places i ≡ Some place → Contains (copies_of_at block places) (copy_of_at block place)
is_at block [] i place at = absurd (cc)
is_at block (first ∷ places) zero place at = (0, omega arith, ap (copy_of_at block) (same_some first place at))
is_at block (first ∷ places) (suc i) place at =
    let later = is_at block places i place at in Contains-append_right (copy_of_at block first ∷ []) (copies_of_at block places) (copy_of_at block place) later

-- a copy of the block
is_of : (block : Block) (i : ℕ) (place : Dva) → slice_get (dvas block.copies) i ≡ Some place → Contains (copies_of block) (copy_of_at block place)
is_of block i place at = is_at block (dvas block.copies) i place at

-- and of one of the blocks
is_of_all : (blocks : List Block) (block : Block) (copy : CopyAt) → Contains blocks block → Contains (copies_of block) copy → Contains (copies_of_all blocks) copy
is_of_all [] block copy held of = absurd (omega (arith, held.1))
is_of_all (first ∷ blocks) block copy held of = elim (first_or_later first blocks block held) [
  | inl is ↦ Contains-append_left (copies_of first) (copies_of_all blocks) copy (subst (λ (b : Block). Contains (copies_of b) copy) (sym is) of)
  | inr later ↦ Contains-append_right (copies_of first) (copies_of_all blocks) copy (is_of_all blocks block copy later of)
]

-- which block a copy is of
record OfBlock (blocks : List Block) (copy : CopyAt) : Type 0 where
  pub block : Block
  pub held : Contains blocks block
  pub i : ℕ
  pub at : slice_get (dvas block.copies) i ≡ Some copy.place

place_of : (block : Block) (places : List Dva) (copy : CopyAt) → Contains (copies_of_at block places) copy → (i : ℕ) × (slice_get places i ≡ Some copy.place)
place_of block [] copy held = absurd (omega (arith, held.1))
place_of block (place ∷ places) copy held = elim (first_or_later (copy_of_at block place) (copies_of_at block places) copy held) [
  | inl is ↦ (0, ap (λ (c : CopyAt). Some c.place) is)
  | inr later ↦ let rest = place_of block places copy later in (suc rest.0, rest.1)
]

block_of : (blocks : List Block) (copy : CopyAt) → Contains (copies_of_all blocks) copy → OfBlock blocks copy
block_of [] copy among = absurd (omega (arith, among.1))
block_of (block ∷ blocks) copy among = elim (Contains-append_cases (copies_of block) (copies_of_all blocks) copy among) [
  | inl here ↦
      let at = place_of block (dvas block.copies) copy here in
      record { block = block; held = (0, omega arith, refl); i = at.0; at = at.1 }
  | inr later ↦
      let of = block_of blocks copy later in
      record { block = of.block; held = Contains-append_right (block ∷ []) blocks of.block of.held; i = of.i; at = of.at }
]

-- ---- they are apart

split_all : (spaces : List VdevSpace) (copies others : List CopyAt) (after : List VdevSpace) → TakeAll spaces (copies ++ others) after
    → (mid : List VdevSpace) × TakeAll spaces copies mid × TakeAll mid others after
split_all spaces [] others after is = (spaces, refl, is)
split_all spaces (copy ∷ copies) others after (some, chosen, next, too, rest) =
    let behind = split_all next copies others after rest in (behind.0, (some, chosen, next, too, behind.1), behind.2)

-- what was taken is apart from what is taken later
later_apart : (spaces mid after : List VdevSpace) (copies others : List CopyAt) (copy other : CopyAt) → TakeAll spaces copies mid → TakeAll mid others after
    → Contains copies copy → Contains others other → (0 < copy.place.allocated) × ArePlacesApart copy.place other.place
later_apart spaces mid after copies others copy other one two held held' =
    let taken : IsTaken mid planned_marks copy.sectors copy.place = all_taken spaces copies mid one copy held in
    let some : 0 < copy.place.allocated = taken_some mid planned_marks copy.sectors copy.place (all_some spaces copies mid one copy held) taken in
    (some, turned other.place copy.place (all_apart mid others after two other held' copy.sectors copy.place some taken))

-- the copies of one block are
in_block : (spaces : List VdevSpace) (block : Block) (places : List Dva) (after : List VdevSpace) → TakeAll spaces (copies_of_at block places) after
    → (i k : ℕ) (place other : Dva) → slice_get places i ≡ Some place → slice_get places k ≡ Some other → (i ≡ k) ⊎ ArePlacesApart place other
in_block spaces block [] after all i k place other at at' = absurd (cc)
in_block spaces block (first ∷ places) after all zero zero place other at at' = inl refl
in_block spaces block (first ∷ places) after all zero (suc k) place other at at' =
    let split = split_all spaces (copy_of_at block first ∷ []) (copies_of_at block places) after all in
    let apart = later_apart spaces split.0 after (copy_of_at block first ∷ []) (copies_of_at block places) (copy_of_at block first) (copy_of_at block other) split.1 split.2
    (0, omega arith, refl) (is_at block places k other at') in
    inr (subst (λ p. ArePlacesApart p other) (same_some first place at) apart.1)
in_block spaces block (first ∷ places) after all (suc i) zero place other at at' =
    let split = split_all spaces (copy_of_at block first ∷ []) (copies_of_at block places) after all in
    let apart = later_apart spaces split.0 after (copy_of_at block first ∷ []) (copies_of_at block places) (copy_of_at block first) (copy_of_at block place) split.1 split.2
    (0, omega arith, refl) (is_at block places i place at) in
    inr (subst (λ p. ArePlacesApart place p) (same_some first other at') (turned first place apart.1))
in_block spaces block (first ∷ places) after all (suc i) (suc k) place other at at' =
    let split = split_all spaces (copy_of_at block first ∷ []) (copies_of_at block places) after all in
    elim (in_block split.0 block places after split.2 i k place other at at') [
      | inl same ↦ inl (ap suc same)
      | inr apart ↦ inr apart
    ]

-- so are those of two blocks, the first of which comes before
across : (spaces mid after : List VdevSpace) (first : Block) (blocks : List Block) (other : Block) → TakeAll spaces (copies_of first) mid → TakeAll mid (copies_of_all blocks) after
    → Contains blocks other → (i k : ℕ) (place behind : Dva) → slice_get (dvas first.copies) i ≡ Some place → slice_get (dvas other.copies) k ≡ Some behind
    → (0 < place.allocated) × ArePlacesApart place behind
across spaces mid after first blocks other one two held i k place behind at at' =
    later_apart spaces mid after (copies_of first) (copies_of_all blocks) (copy_of_at first place) (copy_of_at other behind) one two
    (is_of first i place at) (is_of_all blocks other (copy_of_at other behind) held (is_of other k behind at'))

apart_in : (spaces : List VdevSpace) (blocks : List Block) (after : List VdevSpace) → TakeAll spaces (copies_of_all blocks) after
    → (block other : Block) → Contains blocks block → Contains blocks other → (i k : ℕ) (place behind : Dva)
    → slice_get (dvas block.copies) i ≡ Some place → slice_get (dvas other.copies) k ≡ Some behind → ((block ≡ other) × (i ≡ k)) ⊎ ArePlacesApart place behind
apart_in spaces [] after all block other held held' i k place behind at at' = absurd (omega (arith, held.1))
apart_in spaces (first ∷ blocks) after all block other held held' i k place behind at at' =
    let split = split_all spaces (copies_of first) (copies_of_all blocks) after all in
    elim (first_or_later first blocks block held) [
      | inl is ↦
          let at_first : slice_get (dvas first.copies) i ≡ Some place = ap (λ (b : Block). slice_get (dvas b.copies) i) is ∙ at in
          elim (first_or_later first blocks other held') [
            | inl is' ↦ elim (in_block spaces first (dvas first.copies) split.0 split.1 i k place behind at_first
                (ap (λ (b : Block). slice_get (dvas b.copies) k) is' ∙ at')) [
                  | inl same ↦ inl (sym is ∙ is', same)
                  | inr apart ↦ inr apart
                ]
            | inr later' ↦ inr (across spaces split.0 after first blocks other split.1 split.2 later' i k place behind at_first at').1
          ]
      | inr later ↦ elim (first_or_later first blocks other held') [
        | inl is' ↦
            let at_first : slice_get (dvas first.copies) k ≡ Some behind = ap (λ (b : Block). slice_get (dvas b.copies) k) is' ∙ at' in
            inr (turned behind place (across spaces split.0 after first blocks block split.1 split.2 later k i behind place at_first at).1)
        | inr later' ↦ apart_in split.0 blocks after split.2 block other later later' i k place behind at at'
      ]
    ]

a_place : (copies : Copies) → (place : Dva) × (slice_get (dvas copies) 0 ≡ Some place)
a_place (One first) = (first, refl)
a_place (Two first second) = (first, refl)
a_place (Three first second third) = (first, refl)

not_from_itself : (place : Dva) → 0 < place.allocated → ¬ ArePlacesApart place place
not_from_itself place some (inl differ) = differ refl
not_from_itself place some (inr (inl before)) = absurd (omega (arith, some, before))
not_from_itself place some (inr (inr after)) = absurd (omega (arith, some, after))

is_there : {X : Type 0} (xs : List X) (i : ℕ) (d : X) → i < length xs → get_or xs i (get_or xs i d) ≡ get_or xs i d
is_there [] i d within = absurd (omega (arith, within))
is_there (x ∷ xs) zero d within = refl
is_there (x ∷ xs) (suc i) d within = is_there xs i d (omega (arith, within))

-- no block is taken in twice
all_distinct : (spaces : List VdevSpace) (blocks : List Block) (after : List VdevSpace) → TakeAll spaces (copies_of_all blocks) after → AreDistinct blocks
all_distinct spaces [] after all i j d less within = absurd (omega (arith, less, within))
all_distinct spaces (first ∷ blocks) after all zero zero d less within = absurd (omega (arith, less))
all_distinct spaces (first ∷ blocks) after all zero (suc j) d less within = λ same.
    let split = split_all spaces (copies_of first) (copies_of_all blocks) after all in
    let inside : j < length blocks = omega (arith, within) in
    let place = a_place first.copies in
    let at' : slice_get (dvas (get_or blocks j d).copies) 0 ≡ Some place.0 = ap (λ (b : Block). slice_get (dvas b.copies) 0) (sym same) ∙ place.1 in
    let apart = across spaces split.0 after first blocks (get_or blocks j d) split.1 split.2 (j, inside, is_there blocks j d inside) 0 0 place.0 place.0 place.1 at' in
    not_from_itself place.0 apart.0 apart.1
all_distinct spaces (first ∷ blocks) after all (suc i) zero d less within = absurd (omega (arith, less))
all_distinct spaces (first ∷ blocks) after all (suc i) (suc j) d less within =
    let split = split_all spaces (copies_of first) (copies_of_all blocks) after all in
    all_distinct split.0 blocks after split.2 i j d (omega (arith, less)) (omega (arith, within))

pub distinct_are : (spaces : List VdevSpace) (blocks : List Block) (after : List VdevSpace) → TakeIn spaces (copies_of_all blocks) after → AreDistinct blocks
distinct_are spaces blocks after taken =
    all_distinct (viewed filled_marks spaces) blocks (viewed filled_marks after) (viewed_all filled_marks picks_filled spaces (copies_of_all blocks) after taken)

-- ---- the marks

pub taken_grows : (marks : Marks) → Picks marks → (spaces : List VdevSpace) (copies : List CopyAt) (after : List VdevSpace) → TakeIn spaces copies after
    → Grows spaces after marks marks
taken_grows marks picks spaces copies after taken =
    grows_on spaces (viewed marks spaces) after marks planned_marks marks
    (grows_by spaces (viewed marks spaces) marks planned_marks (viewed_shapes marks spaces) (into_view marks spaces))
    (grows_on (viewed marks spaces) (viewed marks after) after planned_marks planned_marks marks
    (all_grow (viewed marks spaces) copies (viewed marks after) (viewed_all marks picks spaces copies after taken))
    (grows_by (viewed marks after) after planned_marks marks (sym (viewed_shapes marks after)) (out_of_view marks after)))

pub taken_shapes : (spaces : List VdevSpace) (copies : List CopyAt) (after : List VdevSpace) → TakeIn spaces copies after → shapes_of after ≡ shapes_of spaces
taken_shapes spaces copies after taken = (taken_grows filled_marks picks_filled spaces copies after taken).shapes

-- what holds of a block's sectors, and of those in use, holds still
pub taken_lies : (is : State → Type 0) (marks : Marks) → Picks marks → (spaces : List VdevSpace) (copies : List CopyAt) (after : List VdevSpace)
    → TakeIn spaces copies after → is InUse → (block : Block) → CopiesLieOn is spaces marks block → CopiesLieOn is after marks block
taken_lies is marks picks spaces copies after taken holds block lies i place at =
    lies_by is (viewed marks after) after planned_marks marks (sym (viewed_shapes marks after)) (out_of_view marks after) block.property.sectors place
    (all_lie is (viewed marks spaces) copies (viewed marks after) (viewed_all marks picks spaces copies after taken) holds block.property.sectors place
    (lies_by is spaces (viewed marks spaces) marks planned_marks (viewed_shapes marks spaces) (into_view marks spaces) block.property.sectors place (lies i place at)))

-- what holds of the sectors of a place that isn't free in the plan holds still
pub taken_spares : (is : State → Type 0) (spaces : List VdevSpace) (copies : List CopyAt) (after : List VdevSpace) → TakeIn spaces copies after
    → (sectors : ℕ) (place : Dva) → 0 < place.allocated → IsTaken spaces planned_marks sectors place
    → LiesOn is spaces filled_marks sectors place → LiesOn is after filled_marks sectors place
taken_spares is spaces copies after taken sectors place some there lies =
    lies_by is (viewed filled_marks after) after planned_marks filled_marks (sym (viewed_shapes filled_marks after)) (out_of_view filled_marks after) sectors place
    (all_spare is (viewed filled_marks spaces) copies (viewed filled_marks after) (viewed_all filled_marks picks_filled spaces copies after taken) sectors place
    (λ copy held.
    all_apart (viewed planned_marks spaces) copies (viewed planned_marks after) (viewed_all planned_marks picks_planned spaces copies after taken) copy held sectors place some
    (taken_too spaces (viewed planned_marks spaces) planned_marks planned_marks sectors place
    (grows_by spaces (viewed planned_marks spaces) planned_marks planned_marks (viewed_shapes planned_marks spaces) (into_view planned_marks spaces)) there))
    (lies_by is spaces (viewed filled_marks spaces) filled_marks planned_marks (viewed_shapes filled_marks spaces) (into_view filled_marks spaces) sectors place lies))

-- all sectors of the blocks are in use
pub taken_in_use : (marks : Marks) → Picks marks → (spaces : List VdevSpace) (blocks : List Block) (after : List VdevSpace) → TakeIn spaces (copies_of_all blocks) after
    → (block : Block) → Contains blocks block → CopiesLieOn IsInUse after marks block
taken_in_use marks picks spaces blocks after taken block held i place at =
    lies_by IsInUse (viewed marks after) after planned_marks marks (sym (viewed_shapes marks after)) (out_of_view marks after) block.property.sectors place
    (all_in_use (viewed marks spaces) (copies_of_all blocks) (viewed marks after) (viewed_all marks picks spaces (copies_of_all blocks) after taken)
    (copy_of_at block place) (is_of_all blocks block (copy_of_at block place) held (is_of block i place at)))

-- which sectors the copies fill
pub filled_copies : (marks : Marks) → Picks marks → (spaces : List VdevSpace) (copies : List CopyAt) (after : List VdevSpace) → TakeIn spaces copies after
    → (at : SectorAt) → OnCopy spaces copies at → IsUsed IsFree spaces marks at × IsUsed IsInUse after marks at
filled_copies marks picks spaces copies after taken at of =
    let both = all_were_free (viewed marks spaces) copies (viewed marks after) (viewed_all marks picks spaces copies after taken) at
    (record { copy = of.copy; held = of.held; on = on_place_too spaces (viewed marks spaces) of.copy.place at (viewed_shapes marks spaces) of.on }) in (
      used_before IsFree spaces (viewed marks spaces) marks planned_marks at (viewed_shapes marks spaces) (into_view marks spaces) both.0,
      used_before IsInUse after (viewed marks after) marks planned_marks at (viewed_shapes marks after) (into_view marks after) both.1,
    )

pub only_copies : (marks : Marks) → Picks marks → (spaces : List VdevSpace) (copies : List CopyAt) (after : List VdevSpace) → TakeIn spaces copies after
    → (at : SectorAt) → IsUsed IsInUse after marks at → IsUsed IsInUse spaces marks at ⊎ OnCopy spaces copies at
only_copies marks picks spaces copies after taken at used =
    elim (all_only (viewed marks spaces) copies (viewed marks after) (viewed_all marks picks spaces copies after taken) at
    (used_after IsInUse after (viewed marks after) marks planned_marks at (viewed_shapes marks after) (into_view marks after) used)) [
      | inl was ↦ inl (used_before IsInUse spaces (viewed marks spaces) marks planned_marks at (viewed_shapes marks spaces) (into_view marks spaces) was)
      | inr of ↦ inr (record {
        copy = of.copy;
        held = of.held;
        on = on_place_too (viewed marks spaces) spaces of.copy.place at (sym (viewed_shapes marks spaces)) of.on;
      })
    ]

pub others_stay : (marks : Marks) → Picks marks → (spaces : List VdevSpace) (copies : List CopyAt) (after : List VdevSpace) → TakeIn spaces copies after
    → (at : SectorAt) → IsUsed IsInUse spaces marks at → IsUsed IsInUse after marks at
others_stay marks picks spaces copies after taken at used =
    used_before IsInUse after (viewed marks after) marks planned_marks at (viewed_shapes marks after) (into_view marks after)
    (all_stay (viewed marks spaces) copies (viewed marks after) (viewed_all marks picks spaces copies after taken) at
    (used_after IsInUse spaces (viewed marks spaces) marks planned_marks at (viewed_shapes marks spaces) (into_view marks spaces) used))

pub rest_of : (marks : Marks) → Picks marks → (spaces : List VdevSpace) (copies : List CopyAt) (after : List VdevSpace) → TakeIn spaces copies after
    → (is : State → Type 0) (at : SectorAt) → IsUsed is after marks at → IsUsed is spaces marks at ⊎ is InUse
rest_of marks picks spaces copies after taken is at used =
    elim (all_rest is (viewed marks spaces) copies (viewed marks after) (viewed_all marks picks spaces copies after taken) at
    (used_after is after (viewed marks after) marks planned_marks at (viewed_shapes marks after) (into_view marks after) used)) [
      | inl was ↦ inl (used_before is spaces (viewed marks spaces) marks planned_marks at (viewed_shapes marks spaces) (into_view marks spaces) was)
      | inr holds ↦ inr holds
    ]

-- and the blocks
pub taken_fills : (marks : Marks) → Picks marks → (spaces : List VdevSpace) (blocks : List Block) (after : List VdevSpace) → TakeIn spaces (copies_of_all blocks) after
    → Fills spaces marks blocks after
taken_fills marks picks spaces blocks after taken =
    let both : (at : SectorAt) → IsOfOne spaces blocks at → IsUsed IsFree spaces marks at × IsUsed IsInUse after marks at =
    λ at (block, held, has). filled_copies marks picks spaces (copies_of_all blocks) after taken at (record {
      copy = copy_of_at block has.place;
      held = is_of_all blocks block (copy_of_at block has.place) held (is_of block has.i has.place has.is_copy);
      on = has_on_place spaces block at has;
    }) in
    record {
      were_free = λ at of. (both at of).0;
      are_in_use = λ at of. (both at of).1;
      only = λ at used. elim (only_copies marks picks spaces (copies_of_all blocks) after taken at used) [
        | inl was ↦ inl was
        | inr of ↦ let is = block_of blocks of.copy of.held in inr (is.block, is.held, has_sector spaces is.block is.i of.copy.place at is.at of.on)
      ];
      stay = others_stay marks picks spaces (copies_of_all blocks) after taken;
      rest = λ state. rest_of marks picks spaces (copies_of_all blocks) after taken (λ s. s ≡ state);
    }

-- ---- what the store holds

-- each block that is known was known, or is one of these
abbrev pub AreOf : List Block → Contents → Contents → Type 0
AreOf blocks before stored = (block : Block) (bytes : List ℕ) → stored block ≡ Some bytes → (before block ≡ Some bytes) ⊎ (Contains blocks block × IsWrittenAs block bytes)

all_placed : (spaces : List VdevSpace) (blocks : List Block) (after : List VdevSpace) (before stored : Contents) → TakeAll spaces (copies_of_all blocks) after
    → ArePlaced spaces planned_marks before → AreOf blocks before stored → ArePlaced after planned_marks stored
all_placed spaces blocks after before stored all placed of =
    let grows : Grows spaces after planned_marks planned_marks = all_grow spaces (copies_of_all blocks) after all in
    let copy : (block : Block) (i : ℕ) (place : Dva) → Contains blocks block → slice_get (dvas block.copies) i ≡ Some place
    → Contains (copies_of_all blocks) (copy_of_at block place) =
    λ block i place held at. is_of_all blocks block (copy_of_at block place) held (is_of block i place at) in
    let from_old : (block other : Block) (bytes : List ℕ) (i k : ℕ) (place behind : Dva) → before block ≡ Some bytes → Contains blocks other
    → slice_get (dvas block.copies) i ≡ Some place → slice_get (dvas other.copies) k ≡ Some behind → ArePlacesApart behind place =
    λ block other bytes i k place behind known held at at'.
    let taken = placed.places block bytes i place known at in
    let some = (placed.blocks block bytes known).fits.property.not_empty in
    all_apart spaces (copies_of_all blocks) after all (copy_of_at other behind) (copy other k behind held at') block.property.sectors place
    (taken_some spaces planned_marks block.property.sectors place some taken) taken in
    record {
      blocks = λ block bytes known. elim (of block bytes known) [
        | inl was ↦ placed.blocks block bytes was
        | inr (held, written) ↦ written
      ];
      places = λ block bytes i place known at. elim (of block bytes known) [
        | inl was ↦ taken_too spaces after planned_marks planned_marks block.property.sectors place grows (placed.places block bytes i place was at)
        | inr (held, written) ↦ all_taken spaces (copies_of_all blocks) after all (copy_of_at block place) (copy block i place held at)
      ];
      regions = λ block bytes known. elim (of block bytes known) [
        | inl was ↦ places_too spaces after block.property.sectors (dvas block.copies) grows.shapes (placed.regions block bytes was)
        | inr (held, written) ↦ λ place among.
            let at = found_at (dvas block.copies) place among in
            all_for spaces (copies_of_all blocks) after all (copy_of_at block place) (copy block at.0 place held at.1)
      ];
      apart = λ block other bytes others i k place behind known known' at at'. elim (of block bytes known) [
        | inl was ↦ elim (of other others known') [
          | inl was' ↦ placed.apart block other bytes others i k place behind was was' at at'
          | inr (held', written') ↦ inr (turned behind place (from_old block other bytes i k place behind was held' at at'))
        ]
        | inr (held, written) ↦ elim (of other others known') [
          | inl was' ↦ inr (from_old other block others k i behind place was' held at' at)
          | inr (held', written') ↦ apart_in spaces blocks after all block other held held' i k place behind at at'
        ]
      ];
    }

pub placed_in : (marks : Marks) → Picks marks → (spaces : List VdevSpace) (blocks : List Block) (after : List VdevSpace) (before stored : Contents)
    → TakeIn spaces (copies_of_all blocks) after → ArePlaced spaces marks before → AreOf blocks before stored → ArePlaced after marks stored
placed_in marks picks spaces blocks after before stored taken placed of =
    placed_too (viewed marks after) after planned_marks marks stored
    (grows_by (viewed marks after) after planned_marks marks (sym (viewed_shapes marks after)) (out_of_view marks after))
    (all_placed (viewed marks spaces) blocks (viewed marks after) before stored (viewed_all marks picks spaces (copies_of_all blocks) after taken)
    (placed_too spaces (viewed marks spaces) marks planned_marks before
    (grows_by spaces (viewed marks spaces) marks planned_marks (viewed_shapes marks spaces) (into_view marks spaces)) placed)
    of)

pub taken_holds : (old new : Store) (blocks : List Block) → new.disks ≡ old.disks → new.out ≡ old.out → new.spans ≡ old.spans
    → TakeIn old.spaces (copies_of_all blocks) new.spaces → (before stored : Contents) → Stores old before → AreFound old blocks before stored → Stores new stored
taken_holds old new blocks disks out spans taken before stored stores found =
    stores_by old new stored disks (lose_same old new out spans) (taken_shapes old.spaces (copies_of_all blocks) new.spaces taken)
    (placed_in filled_marks picks_filled old.spaces blocks new.spaces before stored taken stores.placed
    (λ block bytes known. elim (found block bytes known) [
      | inl was ↦ inl was
      | inr (held, on) ↦ inr (held, on.written)
    ]))
    (λ block bytes i extent known copy. elim (found block bytes known) [
      | inl was ↦ stores.held.stand block bytes i extent was copy
      | inr (held, on) ↦ on.stand i extent copy
    ])

pub taken_keeps : (old new : Store) (copies : List CopyAt) → new.disks ≡ old.disks → new.out ≡ old.out → new.spans ≡ old.spans
    → TakeIn old.spaces copies new.spaces → Keeps old new
taken_keeps old new copies disks out spans taken =
    holds_by old new disks (lose_same old new out spans) (taken_shapes old.spaces copies new.spaces taken)

pub taken_stores : (old new : Store) (copies : List CopyAt) → new.disks ≡ old.disks → new.out ≡ old.out → new.spans ≡ old.spans
    → TakeIn old.spaces copies new.spaces → KeepsStored old new
taken_stores old new copies disks out spans taken =
    stores_grown old new (taken_keeps old new copies disks out spans taken)
    (taken_grows filled_marks picks_filled old.spaces copies new.spaces taken)
