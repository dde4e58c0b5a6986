use Rattle.std.proofs.Common.{ℕ, ◌≡◌, ◌++◌, List, length, map, replicate, slice_index, sym, ap, ◌∙◌, arith}
use Rattle.raidz_parity.specs.Layout.{Block, columns_of, joined}
use Rattle.raidz_parity.specs.Stored.{parity_columns}
use Rattle.raidz_io.specs.Places.{sizes_of}
use Rattle.raidz_io.proofs.Parts.{lengths-columns_of, joined_buffer}
use Rattle.raidz_io.proofs.Tries.{joined-append}
use Rattle.raidz_io.proofs.choice.with_parity.Goals as goal

pub returns : goal.returns
returns c =
    let columns : Block = c.in_ok-columns.columns in
    let sizes : List ℕ = sizes_of c.args.data.now in
    let block : List ℕ = c.args.block.items in
    let is : columns.data_columns ≡ columns_of sizes block =
    c.in_ok-columns.ensures.block ∙ ap (λ ns. columns_of ns block) c.sizes.ensures in
    let whole : joined columns.data_columns ≡ block = ap joined is ∙ joined_buffer sizes block c.requires.size in (
      columns,
      record {
        block_size = c.requires.size;
        bytes = rw c.deref.ensures.value at c.are_bytes.ensures;
        has_sizes = record {
          parity_sizes = c.in_ok-columns.ensures.rows ∙ ap (λ ns. replicate c.args.parity (slice_index ns 0)) c.sizes.ensures;
          data_sizes = ap (map (length {A = ℕ})) is ∙ lengths-columns_of sizes block (omega (arith, c.requires.size));
        };
        block_columns = is;
        is_parity = c.in_ok-columns.ensures.parity;
      },
      c.in_ok-add_parity.ensures ∙ ap (λ front. front ++ joined (parity_columns c.into_parts-rows.result.0)) c.into_parts-rows.ensures.block
          ∙ ap (λ rows. joined columns.data_columns ++ joined rows) c.into_parts-rows.ensures.parity
          ∙ sym (joined-append columns.data_columns columns.parity),
    )
