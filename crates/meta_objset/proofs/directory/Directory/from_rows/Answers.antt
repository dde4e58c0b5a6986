use Rattle.std.proofs.Common.{◌≡◌, ◌<◌, List, ◌++◌, length, All, sym, ap, subst, ◌∙◌, arith}
use Rattle.std.proofs.lemmas.Bool.Decides.{nat_tests}
use Rattle.std.proofs.lemmas.List.{append-nil}
use Rattle.meta_objset.specs.declared.directory.DirectoryRow.{DirectoryRow}
use Rattle.meta_objset.specs.Directory.{FitsRow, row_bytes}
use Rattle.meta_objset.proofs.InOrder.{reading_goes_on, reading_stops}
use Rattle.meta_objset.proofs.Rows.{Before, IsUnderway, next_is_behind, pushed_order, none_left}
use Rattle.meta_objset.proofs.directory.Directory.from_rows.Goals as goal

pub returns-in_err-row-clause-bad : goal.returns-in_err-row-clause-bad
returns-in_err-row-clause-bad c = λ _ whole is spelled.
    let some : 0 < length c.loop-rest.rest.now = grind (arith, nat_tests) in
    reading_stops row_bytes FitsRow c.args.bytes.now c.loop-rest.rest.now c.loop-rest.rows.items c.loop-rest.invariant.read some
    (λ row more fits parts. absurd (c.in_err-row.ensures.only row more fits parts)) whole is.each spelled

pub returns-then-not-is_behind-clause-bad : goal.returns-then-not-is_behind-clause-bad
returns-then-not-is_behind-clause-bad c = λ _ whole is spelled.
    let some : 0 < length c.loop-rest.rest.now = grind (arith, nat_tests) in
    let all = next_is_behind c.args.bytes.now c.loop-rest.rest.now c.in_ok-row.after.now c.loop-rest.rows.items c.in_ok-row.row c.loop-rest.invariant.read some c.in_ok-row.ensures.only whole is spelled in
    let test = c.is_behind.ensures.1 (subst (λ (rows : List DirectoryRow). All (λ before. Before before c.in_ok-row.row) rows) (sym c.deref.ensures.value) all) in
    absurd cc

pub loop-rest-preserved : goal.loop-rest-preserved
loop-rest-preserved c =
    let some : 0 < length c.loop-rest.rest.now = grind (arith, nat_tests) in
    let rows : List DirectoryRow = c.loop-rest.rows.items in
    let all = subst (λ (rows : List DirectoryRow). All (λ before. Before before c.in_ok-row.row) rows) c.deref.ensures.value (c.is_behind.ensures.0 c.if-not-is_behind.false) in
    subst (λ (rows : List DirectoryRow). IsUnderway c.args.bytes.now c.in_ok-row.after.now rows) (sym c.in_ok-push.ensures.items)
    (record {
      read = reading_goes_on row_bytes FitsRow c.args.bytes.now c.loop-rest.rest.now c.in_ok-row.after.now rows c.in_ok-row.row c.loop-rest.invariant.read some c.in_ok-row.ensures.fits c.in_ok-row.ensures.found c.in_ok-row.ensures.only;
      order = pushed_order rows c.in_ok-row.row c.loop-rest.invariant.order all;
    })

pub returns-clause-only : goal.returns-clause-only
returns-clause-only c = λ rows is spelled.
    let known = c.loop-rest.invariant.read.only rows is.each spelled in
    let none : length c.loop-rest.rest.now ≡ 0 = grind (arith, nat_tests) in
    sym (known.2 ∙ ap (λ (left : List DirectoryRow). c.loop-rest.rows.items ++ left) (none_left known.0 c.loop-rest.rest.now known.1 known.3 none) ∙ append-nil c.loop-rest.rows.items)
