use Rattle.std.proofs.Common.{◌≡◌, ◌<◌, true, false, sym, ap, subst, ◌∙◌, arith, rules}
use Rattle.std.specs.Ordering.{is_lt}
use Rattle.std.proofs.lemmas.List.{get_or-take, length-take-le}
use Rattle.std.proofs.lemmas.List.Sorted.{IsPartitionPoint-from_clause}
use Rattle.meta_objset.specs.declared.directory.DirectoryRow.{DirectoryRow}
use Rattle.meta_objset.specs.Names.{IsBefore}
use Rattle.meta_objset.proofs.Searching.{front_is_before, is_before, less}
use Rattle.meta_objset.proofs.directory.count_before.Goals as goal

pub returns-clause-before : goal.returns-clause-before
returns-clause-before c = λ k d low.
    let rows = c.args.rows.now in
    let at = c.partition_point.result in
    let point = IsPartitionPoint-from_clause (is_before c.args.name.now) rows at c.partition_point.ensures.partitioned (front_is_before rows c.args.name.now c.requires.order) (λ a r f called. search rules) in
    let lt : k < at = omega (arith, low, length-take-le at rows c.partition_point.ensures.bound) in
    subst (λ (row : DirectoryRow). IsBefore row.name c.args.name.now) (sym (get_or-take at rows k d lt)) (less _ (point.0 k d (omega arith) lt))

pub returns-clause-behind : goal.returns-clause-behind
returns-clause-behind c = λ other low before.
    let rows = c.args.rows.now in
    let at = c.partition_point.result in
    let point = IsPartitionPoint-from_clause (is_before c.args.name.now) rows at c.partition_point.ensures.partitioned (front_is_before rows c.args.name.now c.requires.order) (λ a r f called. search rules) in
    let clash : true ≡ false = sym (ap is_lt before) ∙ point.1 at other (omega arith) low in
    cc
