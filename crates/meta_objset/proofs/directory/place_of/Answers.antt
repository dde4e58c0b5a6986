use Rattle.std.proofs.Common.{◌≡◌, true, false, sym, ap, ◌∙◌, arith}
use Rattle.std.proofs.lemmas.Slice.Eq.{bytes_eq-Decides}
use Rattle.meta_objset.specs.declared.directory.DirectoryRow.{DirectoryRow}
use Rattle.meta_objset.proofs.Searching.{stands_nowhere}
use Rattle.meta_objset.proofs.directory.place_of.Goals as goal

pub returns-in_default : goal.returns-in_default
returns-in_default c =
    let found = c.count_before-at.ensures in
    stands_nowhere c.args.rows.now c.args.name.now c.count_before-at.result c.requires.order found.within found.before found.behind (λ other low. absurd (omega (arith, low, c.in_default.ensures.lookup.3)))

pub returns-else-eq : goal.returns-else-eq
returns-else-eq c =
    let found = c.count_before-at.ensures in
    let here = c.in-Some.ensures.lookup.3.1 in
    stands_nowhere c.args.rows.now c.args.name.now c.count_before-at.result c.requires.order found.within found.before found.behind
    (λ other low same.
    let equal = (bytes_eq-Decides c.in-Some.row.now.name c.args.name.now).1 (ap (λ (row : DirectoryRow). row.name) (here other) ∙ same) in
    let clash : true ≡ false = sym equal ∙ sym c.eq.ensures ∙ c.if-eq.false in
    cc)
