use Rattle.std.proofs.Common.{ℕ, List, length, sym, ap, ◌∙◌}
use Rattle.raidz_parity.specs.Layout.{columns_of}
use Rattle.raidz_parity.specs.Parity.{row_of}
use Rattle.raidz_io.proofs.Rows.{given_length}
use Rattle.raidz_io.proofs.column_write.ParityRow.give.Goals as goal

pub invariant_of-self : goal.invariant_of-self
invariant_of-self c =
    let columns : List (List ℕ) = columns_of c.self.inside.lengths.items c.self.inside.block.value.items in
    let given = c.requires ∙ sym c.self.view_is in
    let long = given_length c.self.inside.row (length c.self.inside.room.items) columns c.args.bytes.items given in
    record {
      known = c.self.invariant.known;
      fits = c.self.invariant.fits;
      made = λ _. given ∙ ap (row_of c.self.inside.row columns) (sym long);
    }

pub returns : goal.returns
returns c =
    let columns : List (List ℕ) = columns_of c.self.inside.lengths.items c.self.inside.block.value.items in
    ap (row_of c.self.inside.row columns)
    (given_length c.self.inside.row (length c.self.inside.room.items) columns c.args.bytes.items (c.requires ∙ sym c.self.view_is))
    ∙ c.self.view_is
