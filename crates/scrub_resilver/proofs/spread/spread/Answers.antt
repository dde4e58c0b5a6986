-- The columns are those of the block: their sizes are those of the layout.
use Rattle.std.proofs.Common.{refl, sym, ◌∙◌}
use Rattle.scrub_resilver.proofs.Making.{IsMapped, layout_is, sizes_are, longest, some_sizes, sum_is, made}
use Rattle.scrub_resilver.proofs.spread.spread.Goals as goal

pub generate-requires-clause-first : goal.generate-requires-clause-first
generate-requires-clause-first c =
    let is : IsMapped c.args.extent c.map-layout.result.columns.items = record { in_use = c.map-layout.ensures.in_use; places = c.map-layout.ensures.places; rows = c.map-layout.ensures.rows; full = c.map-layout.ensures.full_rows; sectors = c.map-layout.ensures.sectors } in
    some_sizes c.args.extent _ _ is (sizes_are _ _ _ _ _ _ c.as_slice.ensures.value refl c.split_at.ensures.back c.sizes-sizes.ensures)

pub generate-requires-clause-longest : goal.generate-requires-clause-longest
generate-requires-clause-longest c =
    let is : IsMapped c.args.extent c.map-layout.result.columns.items = record { in_use = c.map-layout.ensures.in_use; places = c.map-layout.ensures.places; rows = c.map-layout.ensures.rows; full = c.map-layout.ensures.full_rows; sectors = c.map-layout.ensures.sectors } in
    longest c.args.extent _ _ is (sizes_are _ _ _ _ _ _ c.as_slice.ensures.value refl c.split_at.ensures.back c.sizes-sizes.ensures)

pub generate-requires-clause-fits : goal.generate-requires-clause-fits
generate-requires-clause-fits c =
    let is : IsMapped c.args.extent c.map-layout.result.columns.items = record { in_use = c.map-layout.ensures.in_use; places = c.map-layout.ensures.places; rows = c.map-layout.ensures.rows; full = c.map-layout.ensures.full_rows; sectors = c.map-layout.ensures.sectors } in
    sum_is c.args.extent _ _ is (sizes_are _ _ _ _ _ _ c.as_slice.ensures.value refl c.split_at.ensures.back c.sizes-sizes.ensures) ∙ sym c.requires

pub returns : goal.returns
returns c =
    let is : IsMapped c.args.extent c.map-layout.result.columns.items = record { in_use = c.map-layout.ensures.in_use; places = c.map-layout.ensures.places; rows = c.map-layout.ensures.rows; full = c.map-layout.ensures.full_rows; sectors = c.map-layout.ensures.sectors } in
    record {
      is_layout = layout_is c.args.extent _ is;
      are_bytes = made c.args.extent _ _ c.args.block.items _ is
          (sizes_are _ _ _ _ _ _ c.as_slice.ensures.value refl c.split_at.ensures.back c.sizes-sizes.ensures)
          c.requires (rw c.as_slice-2.ensures.value at c.are_bytes.ensures) c.in_ok-columns.ensures.rows c.in_ok-columns.ensures.block c.in_ok-columns.ensures.parity;
      parity = refl;
    }
