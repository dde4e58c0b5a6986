use Rattle.std.proofs.Common.{ℕ, ◌≡◌, ◌+◌, List, ◌∷◌, [], length, slice_index, Some, ap, subst, sym, ◌∙◌, length-append}
use Rattle.std.specs.List.{slice_get}
use Rattle.std.proofs.lemmas.Option.{slice_get-get_or}
use Rattle.raidz_parity.specs.Layout.{columns_of}
use Rattle.raidz_parity.specs.Parity.{row_of}
use Rattle.raidz_io.specs.Writes.{rows_of}
use Rattle.raidz_io.proofs.Rows.{row_at}
use Rattle.raidz_io.proofs.Written.{AreWritesOf-push}
use Rattle.raidz_io.proofs.writes.parity_writes.Goals as goal

pub parity_row-requires-clause-named : goal.parity_row-requires-clause-named
parity_row-requires-clause-named c = c.requires.named c.loop-column.column-index _ (slice_get-get_or c.args.layout.now c.loop-column.column-index _ c.loop-column-test.true)

pub loop-column-preserved : goal.loop-column-preserved
loop-column-preserved c =
    let before = c.loop-column.invariant in
    let i : ℕ = c.loop-column.column-index in
    let count : ℕ = length c.args.layout.now in
    let columns : List (List ℕ) = columns_of c.args.lengths.now c.args.block.now.value.items in
    let n : ℕ = slice_index c.args.lengths.now 0 in
    let number : i ≡ length c.loop-column.writes.items = sym before.count in
    let here = slice_get-get_or c.args.layout.now i _ c.loop-column-test.true in
    let row : slice_get (rows_of count columns n) i ≡ Some (row_of i columns n) = row_at count i columns n c.loop-column-test.true c.requires.most in
    let row' : slice_get (rows_of count columns n) i ≡ Some (row_of c.loop-column.row columns n) = row ∙ ap (λ k. Some (row_of k columns n)) (sym before.row) in
    let Q : ℕ → Type 0 = λ k. slice_get (rows_of count columns n) k ≡ Some (row_of c.loop-column.row columns n) in
    rw c.in_ok-push.ensures.items (record {
      row = ap (λ k. k + 1) before.row;
      count = length-append c.loop-column.writes.items (c.in_ok-parity_row.field-0 ∷ []) ∙ ap (λ k. k + 1) before.count;
      made =
          AreWritesOf-push c.args.vdev c.args.layout.now (rows_of count columns n) c.loop-column.writes.items c.in_ok-parity_row.field-0 _ (row_of c.loop-column.row columns n)
          before.made (ap (slice_get c.args.layout.now) (sym number) ∙ here) (subst Q number row') c.in_ok-parity_row.ensures;
    })
