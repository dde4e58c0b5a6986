-- The columns that are made of a block.
use Rattle.std.proofs.Common.{ℕ, ◌≡◌, ◌+◌, ◌*◌, ◌<◌, ◌≤◌, List, length, map, min, take, drop, sum, slice_index, replicate, All, sym, ap, subst, ◌∙◌}
use Rattle.std.specs.List.{sum_by}
use Rattle.raidz_map.specs.declared.column.Column.{Column}
use Rattle.raidz_map.specs.Layout.{used_sectors, data_rows, AreColumns}
use Rattle.raidz_parity.specs.Layout.{Block, columns_of}
use Rattle.raidz_parity.specs.Parity.{IsParity}
use Rattle.raidz_io.specs.declared.vdev.Extent.{Extent}
use Rattle.raidz_io.specs.Places.{sizes_of}
use Rattle.raidz_io.specs.Stands.{IsLayout, AreBytesOf, parity_of}
use Rattle.raidz_io.specs.Stripe.{IsShaped}
use Rattle.raidz_io.proofs.DataWrites.{made_columns}
use Rattle.raidz_io.proofs.Placed.{more_columns, few_columns}
use Rattle.raidz_io.proofs.Sizes.{shaped}

-- what the layout of an extent is known by
pub record IsMapped (extent : Extent) (layout : List Column) : Type 0 where
  pub in_use : length layout ≡ min (used_sectors extent.vdev.geometry extent.sectors) extent.vdev.geometry.children
  pub places : AreColumns extent.vdev.geometry extent.start extent.sectors layout
  pub rows : All (λ c. c.sectors ≤ data_rows extent.vdev.geometry extent.sectors) layout
  pub full : All (λ c. c.sectors ≡ data_rows extent.vdev.geometry extent.sectors) (take (parity_of extent + 1) layout)
  pub sectors : sum_by (λ c. c.sectors) layout ≡ used_sectors extent.vdev.geometry extent.sectors

pub layout_is : (extent : Extent) (layout : List Column) → IsMapped extent layout → IsLayout extent layout
layout_is extent layout is = record { count = is.in_use; places = is.places }

pub shape_is : (extent : Extent) (layout : List Column) → IsMapped extent layout → IsShaped (parity_of extent) extent.sectors layout
shape_is extent layout is =
    let l : IsLayout extent layout = layout_is extent layout is in
    shaped layout extent.vdev.geometry.parity _ extent.sectors extent.vdev.geometry.has_parity extent.vdev.geometry.most_parity
    (more_columns extent layout l) (few_columns extent layout l) is.rows is.full is.sectors

-- the sizes of the data columns
pub sizes_are : (layout slice part : List Column) (sizes : List ℕ) (p q : ℕ) → slice ≡ layout → q ≡ p → part ≡ drop q slice → sizes ≡ sizes_of part
    → sizes ≡ sizes_of (drop p layout)
sizes_are layout slice part sizes p q same count is are = are ∙ ap sizes_of (is ∙ ap (λ n. drop n slice) count ∙ ap (drop p) same)

pub longest : (extent : Extent) (layout : List Column) (sizes : List ℕ) → IsMapped extent layout → sizes ≡ sizes_of (drop (parity_of extent) layout)
    → All (λ n. n ≤ slice_index sizes 0) sizes
longest extent layout sizes is are =
    subst (λ (ns : List ℕ). All (λ n. n ≤ slice_index ns 0) ns) (sym are) (shape_is extent layout is).stripe.longest

pub some_sizes : (extent : Extent) (layout : List Column) (sizes : List ℕ) → IsMapped extent layout → sizes ≡ sizes_of (drop (parity_of extent) layout)
    → 0 < length sizes
some_sizes extent layout sizes is are = subst (λ (ns : List ℕ). 0 < length ns) (sym are) (shape_is extent layout is).stripe.some

pub sum_is : (extent : Extent) (layout : List Column) (sizes : List ℕ) → IsMapped extent layout → sizes ≡ sizes_of (drop (parity_of extent) layout)
    → sum sizes ≡ extent.sectors * 512
sum_is extent layout sizes is are = ap sum are ∙ (shape_is extent layout is).fits

pub made : (extent : Extent) (layout : List Column) (sizes block : List ℕ) (columns : Block) → IsMapped extent layout
    → sizes ≡ sizes_of (drop (parity_of extent) layout) → length block ≡ extent.sectors * 512 → All (λ byte. byte < 256) block
    → map (length {A = ℕ}) columns.parity ≡ replicate (parity_of extent) (slice_index sizes 0)
    → columns.data_columns ≡ columns_of sizes block → IsParity columns → AreBytesOf extent block layout columns
made extent layout sizes block columns is are size bytes rows columns_are parity =
    made_columns extent layout block columns (shape_is extent layout is) size bytes
    (rows ∙ ap (λ (ns : List ℕ). replicate (parity_of extent) (slice_index ns 0)) are) (columns_are ∙ ap (λ ns. columns_of ns block) are) parity
