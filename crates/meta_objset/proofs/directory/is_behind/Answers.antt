use Rattle.std.proofs.Common.{◌≡◌, ◌-◌, length, Some, sym, subst, arith}
use Rattle.std.specs.List.{slice_get}
use Rattle.std.proofs.lemmas.List.Elements.{All-get_or}
use Rattle.std.proofs.lemmas.Option.{slice_get_within, get_or_from_slice_get}
use Rattle.meta_objset.specs.declared.directory.DirectoryRow.{DirectoryRow}
use Rattle.meta_objset.proofs.Rows.{Before, behind_each}
use Rattle.meta_objset.proofs.directory.is_behind.Goals as goal

pub returns-in-Some : goal.returns-in-Some
returns-in-Some c =
    let rows = c.args.rows.now in
    let row = c.args.row.now in
    let last = c.in-Some.last.now in
    let there : slice_get rows (length rows - 1) ≡ Some last = sym c.in-Some.ensures.value in
    let within = slice_get_within rows (length rows - 1) last there in
    let is = get_or_from_slice_get rows (length rows - 1) last last there in (
      λ test. behind_each rows last row c.requires.order (omega (arith, within)) is (c.is_before.ensures.0 test),
      λ all. c.is_before.ensures.1
          (subst (λ (before : DirectoryRow). Before before row) is (All-get_or (λ (before : DirectoryRow). Before before row) rows (length rows - 1) last within all)),
    )
