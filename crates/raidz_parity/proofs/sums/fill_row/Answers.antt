use Rattle.std.proofs.Common.{ℕ, ◌≡◌, List, length, sym, ap, ◌∙◌, arith}
use Rattle.raidz_parity.specs.Layout.{columns_of}
use Rattle.raidz_parity.specs.Parity.{row_of}
use Rattle.raidz_parity.proofs.Rows.{sums_are_row}
use Rattle.raidz_parity.proofs.sums.fill_row.Goals as goal

pub returns-then-row-eq0 : goal.returns-then-row-eq0
returns-then-row-eq0 c =
    let columns : List (List ℕ) = columns_of c.args.lengths.now c.args.block.now in
    let first : 0 ≡ c.args.row = sym c.if-row-eq0.true in
    sums_are_row 0 (length c.args.target.now) columns c.fill_first.new.first (omega (arith, c.fill_first.auto.first)) c.fill_first.ensures
    ∙ ap (λ row. row_of row columns (length c.args.target.now)) first

pub returns : goal.returns
returns c =
    sums_are_row c.args.row (length c.args.target.now) (columns_of c.args.lengths.now c.args.block.now) c.fill_ends.new.target
    (omega (arith, c.fill_ends.auto.target)) c.fill_ends.ensures
