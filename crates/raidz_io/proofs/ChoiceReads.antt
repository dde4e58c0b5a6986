-- What is read of a block whose digest is known.
use Rattle.std.proofs.Common.{ℕ, zero, suc, ◌≡◌, ◌⊎◌, inl, inr, ◌<◌, ◌≤◌, ◌+◌, ◌-◌, List, [], ◌∷◌, ◌++◌, length, map, take, drop, sum, Some, All, Contains, refl, sym, ap, subst, ◌∙◌, arith, length-append, length-drop}
use Rattle.std.specs.List.{slice_get}
use Rattle.std.proofs.lemmas.List.{length-map, length-take-le, take_all}
use Rattle.std.proofs.lemmas.List.Elements.{Contains-append_left, Contains-append_right, Contains-append_cases}
use Rattle.std.proofs.lemmas.Option.{slice_get_within}
use Rattle.std.proofs.lemmas.Bool.{cases_lt}
use Rattle.sha2.specs.Sha256.{sha256}
use Rattle.model_disk.specs.Joint.{Disks, content}
use Rattle.raidz_map.specs.declared.column.Column.{Column}
use Rattle.raidz_map.specs.Extent.{ChildHoldsOneColumn}
use Rattle.raidz_parity.specs.Layout.{Block, columns_of}
use Rattle.raidz_io.specs.declared.vdev.Vdev.{Vdev}
use Rattle.raidz_io.specs.declared.vdev.Extent.{Extent}
use Rattle.raidz_io.specs.Places.{disk_of, offset_of, sizes_of}
use Rattle.raidz_io.specs.Stands.{parity_of, IsLayout, all_columns, AreBytesOf, ExtentStands}
use Rattle.raidz_io.specs.Stripe.{stripe_sizes, HasSizes, read_columns, MatchesBut}
use Rattle.raidz_io.specs.Reads.{GaveSince, GivesTruly, absent_since, IsHonestSince, HoldsColumn, FewAreLost}
use Rattle.raidz_io.specs.Choices.{IsChoice, HasNoChoice, IsWhole, IsFoundChoice, HasNone, AreFurther}
use Rattle.raidz_io.proofs.Agree.{IsSoFar, stands_as, has_sizes, matches, present, stripe_of_order, take_front, number, order_apart, disk_at, disk_is, length-order, lost_below, disks_differ, holds_column, Contains-map_cases}
use Rattle.raidz_io.proofs.DataWrites.{made_columns}
use Rattle.raidz_io.proofs.Further.{contains_or_not, further_with, further_below, further_new, ordered_new, append_new, new_distinct}
use Rattle.raidz_io.proofs.Layouts.{layouts_agree, same_column}
use Rattle.raidz_io.proofs.Order.{take_data}
use Rattle.raidz_io.proofs.Parities.{whole_of}
use Rattle.raidz_io.proofs.Parts.{slice_get_before, slice_get_front, slice_get_back, length-columns_of, lengths-columns_of}
use Rattle.raidz_io.proofs.Pigeons.{distinct_fit}
use Rattle.raidz_io.proofs.Placed.{more_columns, few_columns, placed, placed_at}
use Rattle.raidz_io.proofs.Rebuilt.{Contains-map}
use Rattle.raidz_io.proofs.Sizes.{length-sizes}
use Rattle.raidz_io.proofs.Written.{slice_get_some, same_some, size_at}

drop_at' : (p : ℕ) (layout : List Column) (k : ℕ) (column : Column) → slice_get layout (p + k) ≡ Some column → slice_get (drop p layout) k ≡ Some column
drop_at' zero layout k column at = let same : 0 + k ≡ k = omega arith in ap (slice_get layout) (sym same) ∙ at
drop_at' (suc p) [] k column at = absurd (cc)
drop_at' (suc p) (c ∷ layout) k column at =
    let same : suc p + k ≡ suc (p + k) = omega arith in
    drop_at' p layout k column (ap (slice_get (c ∷ layout)) (sym same) ∙ at)

-- a column, in the order in which they are read
reading : (layout : List Column) (p i : ℕ) (column : Column) (columns : Block) (part : List ℕ) → length columns.parity ≡ p
    → length columns.data_columns ≡ length (drop p layout) → slice_get layout i ≡ Some column → slice_get (all_columns columns) i ≡ Some part
    → (k : ℕ) × (slice_get (drop p layout ++ take p layout) k ≡ Some column) × (slice_get (read_columns columns) k ≡ Some part)
    × ((i < p) ⊎ (slice_get (drop p layout) k ≡ Some column) × (slice_get columns.data_columns k ≡ Some part))
reading layout p i column columns part rows count at at' =
    elim (cases_lt i p) [
      | inl within ↦
          let n : ℕ = length (drop p layout) in (
            n + i,
            slice_get_back (drop p layout) (take p layout) i ∙ take_front p layout i column at within,
            ap (λ m. slice_get (read_columns columns) (m + i)) (sym count) ∙ slice_get_back columns.data_columns columns.parity i
                ∙ sym (slice_get_front columns.parity columns.data_columns i (omega (arith, within, rows))) ∙ at',
            inl within,
          )
      | inr past ↦
          let k : ℕ = i - p in
          let is : i ≡ p + k = omega arith in
          let back : slice_get (drop p layout) k ≡ Some column = drop_at' p layout k column (ap (slice_get layout) (sym is) ∙ at) in
          let part_at : slice_get columns.data_columns k ≡ Some part =
          sym (slice_get_back columns.parity columns.data_columns k) ∙ ap (λ m. slice_get (all_columns columns) (m + k)) rows
          ∙ ap (slice_get (all_columns columns)) (sym is) ∙ at' in (
            k,
            slice_get_before (drop p layout) (take p layout) k column back,
            slice_get_before columns.data_columns columns.parity k part part_at,
            inr (back, part_at),
          )
    ]

-- the columns of the block that was found
bytes_of_whole : (extent : Extent) (block : List ℕ) (layout : List Column) (columns : Block)
    → IsLayout extent layout → (old new : Disks) (missing : List ℕ) (count : ℕ) (bytes lost : List ℕ)
    → IsSoFar old new extent missing layout count bytes lost
    → IsWhole (parity_of extent) (sizes_of (drop (parity_of extent) layout)) block columns → AreBytesOf extent block layout columns
bytes_of_whole extent block layout columns is_layout old new missing count bytes lost so_far whole =
    made_columns extent layout block columns so_far.shape (whole.block_size ∙ so_far.shape.fits) whole.bytes whole.has_sizes.parity_sizes
    whole.block_columns whole.is_parity

data_count : (extent : Extent) (layout : List Column) (columns : Block) → HasSizes (parity_of extent) (sizes_of (drop (parity_of extent) layout)) columns
    → length columns.data_columns ≡ length (drop (parity_of extent) layout)
data_count extent layout columns has =
    omega (
      arith,
      length-map columns.data_columns (length {A = ℕ}),
      ap (length {A = ℕ}) has.data_sizes,
      length-sizes (drop (parity_of extent) layout),
    )

-- all columns were considered
whole_order : (extent : Extent) (layout : List Column) (count : ℕ) → count ≡ length layout
    → take count (drop (parity_of extent) layout ++ take (parity_of extent) layout) ≡ drop (parity_of extent) layout ++ take (parity_of extent) layout
whole_order extent layout count all =
    take_all count (drop (parity_of extent) layout ++ take (parity_of extent) layout) (omega (arith, all, length-order layout (parity_of extent)))

-- the column as it was read
as_read : (old new : Disks) (extent : Extent) (missing : List ℕ) (layout : List Column) (count : ℕ) (bytes lost : List ℕ)
    → IsSoFar old new extent missing layout count bytes lost → count ≡ length layout
    → columns_of (stripe_sizes (parity_of extent) (sizes_of (drop (parity_of extent) layout))) bytes
    ≡ columns_of (sizes_of (take count (drop (parity_of extent) layout ++ take (parity_of extent) layout))) bytes
as_read old new extent missing layout count bytes lost so_far all =
    ap (λ sizes. columns_of sizes bytes)
    (stripe_of_order (parity_of extent) extent.sectors layout so_far.shape ∙ ap sizes_of (sym (whole_order extent layout count all)))

-- a column that matches was given by a read
given_by_read : (old new : Disks) (extent : Extent) (missing : List ℕ) (layout : List Column) (count : ℕ) (bytes lost : List ℕ)
    → IsSoFar old new extent missing layout count bytes lost → count ≡ length layout → (k : ℕ) (column : Column) (part : List ℕ)
    → slice_get (drop (parity_of extent) layout ++ take (parity_of extent) layout) k ≡ Some column → ¬ Contains lost k
    → slice_get (columns_of (stripe_sizes (parity_of extent) (sizes_of (drop (parity_of extent) layout))) bytes) k ≡ Some part
    → GaveSince (length old.calls) new.calls (disk_of extent.vdev column) (offset_of column) part
given_by_read old new extent missing layout count bytes lost so_far all k column part at kept found =
    let order : List Column = drop (parity_of extent) layout ++ take (parity_of extent) layout in
    so_far.read.given k column part (ap (λ cs. slice_get cs k) (whole_order extent layout count all) ∙ at) kept
    (ap (λ cs. slice_get cs k) (sym (as_read old new extent missing layout count bytes lost so_far all)) ∙ found)

-- what was found is a choice
pub found_is_choice : (old new : Disks) (extent : Extent) (missing : List ℕ) (layout : List Column) (count : ℕ) (bytes lost block digest : List ℕ)
    → IsSoFar old new extent missing layout count bytes lost → count ≡ length layout
    → IsFoundChoice digest (parity_of extent) (sizes_of (drop (parity_of extent) layout)) bytes lost block → IsChoice old new extent block
found_is_choice old new extent missing layout count bytes lost block digest so_far all found =
    let p : ℕ = parity_of extent in
    let order : List Column = drop p layout ++ take p layout in
    let f : ℕ → ℕ = disk_at extent.vdev order in
    let columns : Block = found.found.columns in
    let are : AreBytesOf extent block layout columns =
    bytes_of_whole extent block layout columns so_far.is_layout old new missing count bytes lost so_far found.found.whole in
    record {
      layout = layout;
      columns = columns;
      is_layout = so_far.is_layout;
      are_bytes = are;
      wrong = map f found.wrong;
      few = omega (arith, found.few, length-map found.wrong f);
      given = λ i column part at at' kept.
          let place = reading layout p i column columns part are.parity_count (data_count extent layout columns found.found.whole.has_sizes) at at' in
          let not_wrong : ¬ Contains found.wrong place.0 = λ held.
          kept (subst (Contains (map f found.wrong)) (disk_is extent.vdev order place.0 column place.1) (Contains-map f found.wrong place.0 held)) in
          given_by_read old new extent missing layout count bytes lost so_far all place.0 column part place.1
          (λ held. not_wrong (found.lost_are_wrong place.0 held)) (found.found.matches place.0 part not_wrong place.2);
    }

Contains-map_at : (f : Column → ℕ) (columns : List Column) (k : ℕ) (column : Column) → slice_get columns k ≡ Some column → Contains (map f columns) (f column)
Contains-map_at f [] k column at = absurd (cc)
Contains-map_at f (c ∷ columns) zero column at = (0, omega arith, ap f (same_some c column at))
Contains-map_at f (c ∷ columns) (suc k) column at =
    let rest = Contains-map_at f columns k column at in (suc rest.0, omega (arith, rest.1), rest.2)

-- data that was read whole is a choice
pub data_is_choice : (old new : Disks) (extent : Extent) (missing : List ℕ) (layout : List Column) (count : ℕ) (bytes lost : List ℕ)
    → IsSoFar old new extent missing layout count bytes lost → count + parity_of extent ≡ length layout → length lost ≡ 0
    → All (λ byte. byte < 256) bytes → IsChoice old new extent bytes
data_is_choice old new extent missing layout count bytes lost so_far all none are_bytes =
    let p : ℕ = parity_of extent in
    let vdev : Vdev = extent.vdev in
    let order : take count (drop p layout ++ take p layout) ≡ drop p layout = take_data layout p count all in
    let size : length bytes ≡ sum (sizes_of (drop p layout)) = so_far.read.size ∙ ap (λ cs. sum (sizes_of cs)) order in
    let made = whole_of p (sizes_of (drop p layout)) bytes so_far.shape.stripe size are_bytes in
    let columns : Block = made.0 in
    let are : AreBytesOf extent bytes layout columns =
    bytes_of_whole extent bytes layout columns so_far.is_layout old new missing count bytes lost so_far made.1 in
    let f : Column → ℕ = disk_of vdev in
    record {
      layout = layout;
      columns = columns;
      is_layout = so_far.is_layout;
      are_bytes = are;
      wrong = map f (take p layout);
      few = omega (arith, length-map (take p layout) f, length-take-le p layout (omega (arith, more_columns extent layout so_far.is_layout)));
      given = λ i column part at at' kept.
          let place = reading layout p i column columns part are.parity_count (data_count extent layout columns made.1.has_sizes) at at' in
          elim place.3 [
            | inl within ↦ absurd (kept (Contains-map_at f (take p layout) i column (take_front p layout i column at within)))
            | inr (back, data_part) ↦
                so_far.read.given place.0 column part (ap (λ cs. slice_get cs place.0) order ∙ back) (λ (j, inside, _). omega (arith, inside, none))
                (ap (λ cs. slice_get (columns_of (sizes_of cs) bytes) place.0) order ∙ ap (λ cs. slice_get cs place.0) (sym made.1.block_columns) ∙ data_part)
          ];
    }

-- a column of the extent, in the order in which they are read
column_on : (extent : Extent) (layout : List Column) → IsLayout extent layout → (disk : ℕ) → HoldsColumn extent disk
    → (k : ℕ) × (column : Column) × (slice_get (drop (parity_of extent) layout ++ take (parity_of extent) layout) k ≡ Some column)
    × (disk ≡ disk_of extent.vdev column)
column_on extent layout is_layout disk holds =
    let p : ℕ = parity_of extent in
    let found = slice_get_some layout holds.k (omega (arith, holds.below, is_layout.count)) in
    let same : found.0 ≡ holds.column =
    same_column extent holds.k found.0 holds.column (placed extent layout holds.k found.0 is_layout found.1)
    (placed_at extent holds.k holds.column holds.below holds.is_column) (is_layout.places holds.k found.0 found.1) holds.is_column in
    let which : disk ≡ disk_of extent.vdev found.0 = holds.which ∙ ap (disk_of extent.vdev) (sym same) in
    elim (cases_lt holds.k p) [
      | inl within ↦ (
        length (drop p layout) + holds.k,
        found.0,
        slice_get_back (drop p layout) (take p layout) holds.k ∙ take_front p layout holds.k found.0 found.1 within,
        which,
      )
      | inr past ↦
          let is : holds.k ≡ p + (holds.k - p) = omega arith in (
            holds.k - p,
            found.0,
            slice_get_before (drop p layout) (take p layout) (holds.k - p) found.0
                (drop_at' p layout (holds.k - p) found.0 (ap (slice_get layout) (sym is) ∙ found.1)),
            which,
          )
    ]

-- enough columns were read
pub enough_read : ChildHoldsOneColumn → (old new : Disks) (extent : Extent) (missing : List ℕ) (layout : List Column) (count : ℕ) (bytes lost : List ℕ)
    → IsSoFar old new extent missing layout count bytes lost → count ≡ length layout → length lost ≤ parity_of extent
    → FewAreLost extent (absent_since old new missing)
enough_read law old new extent missing layout count bytes lost so_far all few =
    let p : ℕ = parity_of extent in
    let order : List Column = drop p layout ++ take p layout in
    let f : ℕ → ℕ = disk_at extent.vdev order in
    record {
      disks = map f lost;
      few = omega (arith, few, length-map lost f);
      all = λ disk holds absent.
          let found = column_on extent layout so_far.is_layout disk holds in
          elim (contains_or_not lost found.0) [
            | inl held ↦
                subst (Contains (map f lost)) (disk_is extent.vdev order found.0 found.1 found.2 ∙ sym found.3) (Contains-map f lost found.0 held)
            | inr kept ↦
                absurd (present law old new extent missing layout count bytes lost so_far found.0 found.1 found.2
                (omega (arith, all, slice_get_within order found.0 found.1 found.2, length-order layout p)) kept
                (subst (Contains (absent_since old new missing)) found.3 absent))
          ];
    }

-- what stands but for few disks is a choice
pub standing_is_choice : (old new : Disks) (extent : Extent) (missing : List ℕ) (layout : List Column) (count : ℕ) (bytes lost : List ℕ)
    → IsSoFar old new extent missing layout count bytes lost → count ≡ length layout → (block wrong : List ℕ)
    → ((disk : ℕ) → ¬ Contains wrong disk → GivesTruly old new disk) → ExtentStands (content old) (absent_since old new missing ++ wrong) extent block
    → FewAreLost extent (absent_since old new missing ++ wrong) → IsChoice old new extent block
standing_is_choice old new extent missing layout count bytes lost so_far all block wrong truly stands few =
    let p : ℕ = parity_of extent in
    let order : List Column = drop p layout ++ take p layout in
    let absent : List ℕ = absent_since old new missing in
    let found = stands_as (content old) (absent ++ wrong) extent block layout so_far.is_layout stands in
    let columns : Block = found.0 in
    record {
      layout = layout;
      columns = columns;
      is_layout = so_far.is_layout;
      are_bytes = found.1.are_bytes;
      wrong = few.disks;
      few = few.few;
      given = λ i column part at at' kept.
          let has = has_sizes extent block layout columns so_far.shape found.1.are_bytes in
          let place = reading layout p i column columns part found.1.are_bytes.parity_count (data_count extent layout columns has) at at' in
          let holds : HoldsColumn extent (disk_of extent.vdev column) = holds_column extent layout p place.0 column so_far.is_layout place.1 in
          let not_absent : ¬ Contains (absent ++ wrong) (disk_of extent.vdev column) = λ held. kept (few.all (disk_of extent.vdev column) holds held) in
          let here : slice_get (take count order) place.0 ≡ Some column = ap (λ cs. slice_get cs place.0) (whole_order extent layout count all) ∙ place.1 in
          let not_lost : ¬ Contains lost place.0 = λ held.
          not_absent (Contains-append_left absent wrong (disk_of extent.vdev column) (so_far.read.lost_are_absent place.0 column held here)) in
          let cs : List Column = take count order in
          let parts : List (List ℕ) = columns_of (sizes_of cs) bytes in
          let enough : sum (sizes_of cs) ≤ length bytes = omega (arith, so_far.read.size) in
          let inside : place.0 < length parts =
          omega (arith, slice_get_within cs place.0 column here, length-columns_of (sizes_of cs) bytes, length-sizes cs) in
          let was = slice_get_some parts place.0 inside in
          let gave = so_far.read.given place.0 column was.0 here not_lost was.1 in
          let long : length was.0 ≡ length part =
          size_at parts cs place.0 column was.0 (lengths-columns_of (sizes_of cs) bytes enough) here was.1
          ∙ sym (size_at (all_columns columns) layout i column part found.1.are_bytes.sizes at at') in
          let same : was.0 ≡ part =
          truly (disk_of extent.vdev column) (λ held. not_absent (Contains-append_right absent wrong (disk_of extent.vdev column) held)) (offset_of column)
          was.0 part gave long (found.1.stand i column part at at' not_absent) in
          subst (λ (b : List ℕ). GaveSince (length old.calls) new.calls (disk_of extent.vdev column) (offset_of column) b) same gave;
    }

-- a column that a read gave, and that is so one of those that were read
given_right : ChildHoldsOneColumn → (old new : Disks) (extent : Extent) (missing : List ℕ) (layout : List Column) (count : ℕ) (bytes lost : List ℕ)
    → IsSoFar old new extent missing layout count bytes lost → count ≡ length layout → (block : List ℕ) (columns : Block)
    → AreBytesOf extent block layout columns → HasSizes (parity_of extent) (sizes_of (drop (parity_of extent) layout)) columns
    → (k : ℕ) (column : Column) → slice_get (drop (parity_of extent) layout ++ take (parity_of extent) layout) k ≡ Some column
    → ((i : ℕ) (part : List ℕ) → slice_get layout i ≡ Some column → slice_get (all_columns columns) i ≡ Some part
    → GaveSince (length old.calls) new.calls (disk_of extent.vdev column) (offset_of column) part)
    → (¬ Contains lost k) × ((part : List ℕ) → slice_get (read_columns columns) k ≡ Some part
    → slice_get (columns_of (stripe_sizes (parity_of extent) (sizes_of (drop (parity_of extent) layout))) bytes) k ≡ Some part)
given_right law old new extent missing layout count bytes lost so_far all block columns are has k column at given =
    let p : ℕ = parity_of extent in
    let order : List Column = drop p layout ++ take p layout in
    let place = number layout p k column at in
    let i : ℕ = place.0 in
    let counts : length (all_columns columns) ≡ length layout =
    omega (arith, length-map (all_columns columns) (length {A = ℕ}), ap (length {A = ℕ}) are.sizes, length-sizes layout) in
    let part = slice_get_some (all_columns columns) i (omega (arith, slice_get_within layout i column place.1, counts)) in
    let was = so_far.read.gave (disk_of extent.vdev column) (offset_of column) part.0 (given i part.0 place.1 part.1) in
    let there : slice_get order was.0 ≡ Some was.1 = ap (λ cs. slice_get cs was.0) (sym (whole_order extent layout count all)) ∙ was.3 in
    let same : was.0 ≡ k = order_apart law extent layout p was.0 k was.1 column so_far.is_layout there at (sym was.4) in
    let again = reading layout p i column columns part.0 are.parity_count (data_count extent layout columns has) place.1 part.1 in
    let here : again.0 ≡ k = order_apart law extent layout p again.0 k column column so_far.is_layout again.1 at refl in
    let P : ℕ → Type 0 = λ n. slice_get (columns_of (sizes_of (take count order)) bytes) n ≡ Some part.0 in
    let Q : ℕ → Type 0 = λ n. slice_get (read_columns columns) n ≡ Some part.0 in
    let R : ℕ → Type 0 = λ n. ¬ Contains lost n in (
      subst R same was.2,
      λ found found_at.
          ap (λ cs. slice_get cs k) (as_read old new extent missing layout count bytes lost so_far all)
          ∙ subst P same was.5 ∙ ap (λ q. Some q) (same_some part.0 found (sym (subst Q here again.2) ∙ found_at)),
    )

-- no choice has the digest
pub no_choice : ChildHoldsOneColumn → (old new : Disks) (extent : Extent) (missing : List ℕ) (layout : List Column) (count : ℕ) (bytes lost digest : List ℕ)
    → IsSoFar old new extent missing layout count bytes lost → count ≡ length layout
    → ((further : List ℕ) → AreFurther 0 (length layout) further → length lost + length further ≤ parity_of extent
    → HasNone digest (parity_of extent) (sizes_of (drop (parity_of extent) layout)) bytes (lost ++ further))
    → (block : List ℕ) → IsChoice old new extent block → ¬ (sha256 block ≡ digest)
no_choice law old new extent missing layout count bytes lost digest so_far all none block choice same =
    let p : ℕ = parity_of extent in
    let order : List Column = drop p layout ++ take p layout in
    let f : ℕ → ℕ = disk_at extent.vdev order in
    let columns : Block = choice.columns in
    let wrong : List ℕ = choice.wrong in
    let layout_is : choice.layout ≡ layout = layouts_agree extent choice.layout layout choice.is_layout so_far.is_layout in
    let P : List Column → Type 0 = λ cs. AreBytesOf extent block cs columns in
    let are : AreBytesOf extent block layout columns = subst P layout_is choice.are_bytes in
    let Q : List Column → Type 0 = λ cs. (i : ℕ) (column : Column) (part : List ℕ) → slice_get cs i ≡ Some column
    → slice_get (all_columns columns) i ≡ Some part → ¬ Contains wrong (disk_of extent.vdev column)
    → GaveSince (length old.calls) new.calls (disk_of extent.vdev column) (offset_of column) part in
    let given = subst Q layout_is choice.given in
    let has = has_sizes extent block layout columns so_far.shape are in
    let right : (k : ℕ) (column : Column) → slice_get order k ≡ Some column → ¬ Contains wrong (f k)
    → (¬ Contains lost k) × ((part : List ℕ) → slice_get (read_columns columns) k ≡ Some part
    → slice_get (columns_of (stripe_sizes p (sizes_of (drop p layout))) bytes) k ≡ Some part) = λ k column at kept.
    given_right law old new extent missing layout count bytes lost so_far all block columns are has k column at
    (λ i part at' at''. given i column part at' at'' (λ held. kept (subst (Contains wrong) (sym (disk_is extent.vdev order k column at)) held))) in
    let decide : (k : ℕ) → (Contains wrong (f k) × (¬ Contains lost k)) ⊎ (¬ (Contains wrong (f k) × (¬ Contains lost k))) = λ k.
    elim (contains_or_not wrong (f k)) [
      | inl held ↦ elim (contains_or_not lost k) [ inl lost_here ↦ inr (λ both. both.1 lost_here) | inr kept ↦ inl (held, kept) ]
      | inr out ↦ inr (λ both. out both.0)
    ] in
    let chosen = further_with (λ k. Contains wrong (f k) × (¬ Contains lost k)) decide (length layout) 0 (length layout) (omega arith) in
    let further : List ℕ = chosen.0 in
    let below : (k : ℕ) → Contains (lost ++ further) k → k < length layout = λ k held. elim (Contains-append_cases lost further k held) [
      | inl before ↦ lost_below old new extent missing layout count bytes lost so_far k before
      | inr after ↦ further_below 0 (length layout) further chosen.1 k after
    ] in
    let among : (disk : ℕ) → Contains (map f (lost ++ further)) disk → Contains wrong disk = λ disk held.
    let at = Contains-map_cases f (lost ++ further) disk held in
    subst (Contains wrong) at.2 (elim (Contains-append_cases lost further at.0 at.1) [
      | inl before ↦ elim (contains_or_not wrong (f at.0)) [
        | inl there ↦ there
        | inr out ↦
            let column = slice_get_some order at.0 (omega (arith, below at.0 at.1, length-order layout p)) in
            absurd ((right at.0 column.0 column.1 out).0 before)
      ]
      | inr after ↦ (chosen.2 at.0 after).0
    ]) in
    let new_list = append_new lost further (ordered_new lost so_far.read.in_order) (further_new 0 (length layout) further chosen.1)
    (λ k held. (chosen.2 k held).1) in
    let fit : length (map f (lost ++ further)) ≤ length wrong =
    distinct_fit (map f (lost ++ further)) wrong
    (record { apart = disks_differ law extent layout p (lost ++ further) so_far.is_layout below (new_distinct (lost ++ further) new_list) }) among in
    let few : length lost + length further ≤ p =
    omega (arith, fit, choice.few, length-map (lost ++ further) f, length-append lost further) in
    none further chosen.1 few block columns
    (record {
      block_size = are.block_size ∙ sym so_far.shape.fits;
      bytes = are.bytes;
      has_sizes = has;
      block_columns = are.block_columns;
      is_parity = are.parity;
    })
    (λ k part kept at.
    let total : length (read_columns columns) ≡ length layout =
    omega (
      arith,
      length-append columns.data_columns columns.parity,
      length-append columns.parity columns.data_columns,
      length-map (all_columns columns) (length {A = ℕ}),
      ap (length {A = ℕ}) are.sizes,
      length-sizes layout,
    ) in
    let inside : k < length layout = omega (arith, slice_get_within (read_columns columns) k part at, total) in
    let column = slice_get_some order k (omega (arith, inside, length-order layout p)) in
    elim (contains_or_not wrong (f k)) [
      | inl held ↦
          absurd (elim (contains_or_not lost k) [
            | inl lost_here ↦ kept (Contains-append_left lost further k lost_here)
            | inr out ↦ kept (Contains-append_right lost further k (chosen.3 k (omega arith) inside (held, out)))
          ])
      | inr out ↦ (right k column.0 column.1 out).1 part at
    ]) same

-- what stands on all disks but those that are absent, and has the digest, is found first
pub first_is_block : {X : Type 0} (found : X) (items : X → List ℕ) → ChildHoldsOneColumn → (old new : Disks) (extent : Extent) (missing : List ℕ)
    (layout : List Column) (count : ℕ) (bytes lost digest : List ℕ) → IsSoFar old new extent missing layout count bytes lost → count ≡ length layout
    → ((other : List ℕ) (right : Block) → IsWhole (parity_of extent) (sizes_of (drop (parity_of extent) layout)) other right
    → MatchesBut lost (read_columns right) (columns_of (stripe_sizes (parity_of extent) (sizes_of (drop (parity_of extent) layout))) bytes)
    → sha256 other ≡ digest → items found ≡ other)
    → IsHonestSince old new → (block : List ℕ) → ExtentStands (content old) (absent_since old new missing) extent block → sha256 block ≡ digest
    → items found ≡ block
first_is_block found items law old new extent missing layout count bytes lost digest so_far all first honest block stands digest_is =
    let standing = stands_as (content old) (absent_since old new missing) extent block layout so_far.is_layout stands in
    let columns : Block = standing.0 in
    first block columns
    (record {
      block_size = standing.1.are_bytes.block_size ∙ sym so_far.shape.fits;
      bytes = standing.1.are_bytes.bytes;
      has_sizes = has_sizes extent block layout columns so_far.shape standing.1.are_bytes;
      block_columns = standing.1.are_bytes.block_columns;
      is_parity = standing.1.are_bytes.parity;
    })
    (matches old new extent missing layout count bytes lost (absent_since old new missing) block lost columns so_far honest standing.1 (λ k held. held)
    (λ k past below. absurd (omega (arith, past, below, all)))
    (λ k column at within kept. present law old new extent missing layout count bytes lost so_far k column at within kept))
    digest_is

-- all bytes are there
pub whole_size : (old new : Disks) (extent : Extent) (missing : List ℕ) (layout : List Column) (count : ℕ) (bytes lost : List ℕ)
    → IsSoFar old new extent missing layout count bytes lost → count ≡ length layout
    → length bytes ≡ sum (stripe_sizes (parity_of extent) (sizes_of (drop (parity_of extent) layout)))
whole_size old new extent missing layout count bytes lost so_far all =
    so_far.read.size
    ∙ ap (λ cs. sum (sizes_of cs)) (whole_order extent layout count all)
    ∙ ap sum (sym (stripe_of_order (parity_of extent) extent.sectors layout so_far.shape))

-- where nothing is enough before all is read, all is read
pub all_read : (extent : Extent) (layout : List Column) (count enough lost : ℕ) → IsLayout extent layout → 32 ≤ enough → count ≤ length layout
    → (count < length layout → enough + lost ≤ count) → count ≡ length layout
all_read extent layout count enough lost is_layout most within ended =
    elim (cases_lt count (length layout)) [
      | inl fewer ↦ absurd (omega (arith, ended fewer, fewer, few_columns extent layout is_layout, most))
      | inr past ↦ omega (arith, past, within)
    ]

-- why no block is answered
pub has_no_choice : ChildHoldsOneColumn → (old new : Disks) (extent : Extent) (missing : List ℕ) (layout back : List Column) (count p : ℕ) (bytes bytes' lost lost' digest : List ℕ)
    → IsSoFar old new extent missing layout count bytes lost → count ≡ length layout → length lost ≤ parity_of extent
    → p ≡ parity_of extent → back ≡ drop (parity_of extent) layout → bytes' ≡ bytes → lost' ≡ lost
    → ((further : List ℕ) → AreFurther 0 (length back + p) further → length lost' + length further ≤ p
    → HasNone digest p (sizes_of back) bytes' (lost' ++ further)) → HasNoChoice old new missing digest extent
has_no_choice law old new extent missing layout back count p bytes bytes' lost lost' digest so_far all few p_is back_is bytes_is lost_is none =
    let q : ℕ = parity_of extent in
    let total : length (drop q layout) + q ≡ length layout =
    omega (arith, length-drop q layout, more_columns extent layout so_far.is_layout) in
    let P : ℕ → Type 0 = λ n. (further : List ℕ) → AreFurther 0 (length back + n) further → length lost' + length further ≤ n
    → HasNone digest n (sizes_of back) bytes' (lost' ++ further) in
    let Q : List Column → Type 0 = λ cs. (further : List ℕ) → AreFurther 0 (length cs + q) further → length lost' + length further ≤ q
    → HasNone digest q (sizes_of cs) bytes' (lost' ++ further) in
    let R : List ℕ → Type 0 = λ bs. (further : List ℕ) → AreFurther 0 (length (drop q layout) + q) further → length lost' + length further ≤ q
    → HasNone digest q (sizes_of (drop q layout)) bs (lost' ++ further) in
    let S : List ℕ → Type 0 = λ ls. (further : List ℕ) → AreFurther 0 (length (drop q layout) + q) further → length ls + length further ≤ q
    → HasNone digest q (sizes_of (drop q layout)) bytes (ls ++ further) in
    let T : ℕ → Type 0 = λ n. (further : List ℕ) → AreFurther 0 n further → length lost + length further ≤ q
    → HasNone digest q (sizes_of (drop q layout)) bytes (lost ++ further) in
    let none' : T (length layout) = subst T total (subst S lost_is (subst R bytes_is (subst Q back_is (subst P p_is none)))) in
    let no = no_choice law old new extent missing layout count bytes lost digest so_far all none' in
    record {
      enough = enough_read law old new extent missing layout count bytes lost so_far all few;
      no_choice = no;
      none_stands = λ block wrong truly stands few_lost.
          no block (standing_is_choice old new extent missing layout count bytes lost so_far all block wrong truly stands few_lost);
    }

-- what was found, by the names that the code has
pub found_at : (digest : List ℕ) (extent : Extent) (layout back : List Column) (p : ℕ) (bytes bytes' lost lost' block : List ℕ)
    → p ≡ parity_of extent → back ≡ drop (parity_of extent) layout → bytes' ≡ bytes → lost' ≡ lost
    → IsFoundChoice digest p (sizes_of back) bytes' lost' block
    → IsFoundChoice digest (parity_of extent) (sizes_of (drop (parity_of extent) layout)) bytes lost block
found_at digest extent layout back p bytes bytes' lost lost' block p_is back_is bytes_is lost_is found =
    let q : ℕ = parity_of extent in
    let P : ℕ → Type 0 = λ n. IsFoundChoice digest n (sizes_of back) bytes' lost' block in
    let Q : List Column → Type 0 = λ cs. IsFoundChoice digest q (sizes_of cs) bytes' lost' block in
    let R : List ℕ → Type 0 = λ bs. IsFoundChoice digest q (sizes_of (drop q layout)) bs lost' block in
    let S : List ℕ → Type 0 = λ ls. IsFoundChoice digest q (sizes_of (drop q layout)) bytes ls block in
    subst S lost_is (subst R bytes_is (subst Q back_is (subst P p_is found)))

pub first_at : {X : Type 0} (found : X) (items : X → List ℕ) (digest : List ℕ) (extent : Extent) (layout back : List Column) (p : ℕ) (bytes bytes' lost lost' : List ℕ)
    → p ≡ parity_of extent → back ≡ drop (parity_of extent) layout → bytes' ≡ bytes → lost' ≡ lost
    → ((other : List ℕ) (right : Block) → IsWhole p (sizes_of back) other right
    → MatchesBut lost' (read_columns right) (columns_of (stripe_sizes p (sizes_of back)) bytes') → sha256 other ≡ digest → items found ≡ other)
    → (other : List ℕ) (right : Block) → IsWhole (parity_of extent) (sizes_of (drop (parity_of extent) layout)) other right
    → MatchesBut lost (read_columns right) (columns_of (stripe_sizes (parity_of extent) (sizes_of (drop (parity_of extent) layout))) bytes)
    → sha256 other ≡ digest → items found ≡ other
first_at found items digest extent layout back p bytes bytes' lost lost' p_is back_is bytes_is lost_is first =
    let q : ℕ = parity_of extent in
    let P : ℕ → List Column → List ℕ → List ℕ → Type 0 = λ n cs bs ls. (other : List ℕ) (right : Block) → IsWhole n (sizes_of cs) other right
    → MatchesBut ls (read_columns right) (columns_of (stripe_sizes n (sizes_of cs)) bs) → sha256 other ≡ digest → items found ≡ other in
    subst (P q (drop q layout) bytes) lost_is (subst (λ (bs : List ℕ). P q (drop q layout) bs lost') bytes_is
    (subst (λ (cs : List Column). P q cs bytes' lost') back_is (subst (λ (n : ℕ). P n back bytes' lost') p_is first)))
