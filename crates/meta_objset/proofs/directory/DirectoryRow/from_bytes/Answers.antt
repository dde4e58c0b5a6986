use Rattle.std.proofs.Common.{sym, subst, ◌∙◌, rules}
use Rattle.meta_objset.specs.Names.{IsName}
use Rattle.meta_objset.proofs.Rows.{row_parts, row_joined, same_row}
use Rattle.meta_objset.proofs.directory.DirectoryRow.from_bytes.Goals as goal

pub returns-then-not-is_name-clause-only : goal.returns-then-not-is_name-clause-only
returns-then-not-is_name-clause-only c = λ row spells.
    let parts = row_parts c.args.bytes.now row spells in
    let test = c.is_name.ensures.1 (subst IsName (sym (c.bytes_at-name.ensures ∙ parts.0)) spells.0.name) in
    absurd cc

pub returns-clause-found : goal.returns-clause-found
returns-clause-found c = (
  record { name = c.is_name.ensures.0 c.if-not-is_name.false; object = search rules },
  row_joined c.args.bytes.now c.bytes_at-name.result c.word_at-object.result c.told-bytes c.bytes_at-name.ensures c.word_at-object.ensures.found,
)

pub returns-clause-only : goal.returns-clause-only
returns-clause-only c = λ row spells.
    let parts = row_parts c.args.bytes.now row spells in
    let same = same_row row c.bytes_at-name.result c.word_at-object.result (c.bytes_at-name.ensures ∙ parts.0) (c.word_at-object.ensures.only row.object spells.0.object parts.1) in
    cc
