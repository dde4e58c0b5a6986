use Rattle.std.proofs.Common.{◌^◌, ◌<◌, List, ℕ, length, sym, ap, subst, arith}
use Rattle.object_table.specs.Rows.{SpellsRows}
use Rattle.object_table.proofs.Written.{table_len, table_written}
use Rattle.object_table.proofs.making.writes_of.Goals as goal

pub blocks_of-requires-clause-whole : goal.blocks_of-requires-clause-whole
blocks_of-requires-clause-whole c = omega (arith, ap length c.deref.ensures.value, c.in_ok-bytes.ensures.spells.whole)

pub blocks_of-requires-clause-few : goal.blocks_of-requires-clause-few
blocks_of-requires-clause-few c =
    omega (arith, ap length c.deref.ensures.value, table_len c.args.shape c.in_ok-bytes.bytes.items c.args.rows.now c.requires.shape c.in_ok-bytes.ensures.spells, c.requires.few, c.requires.shape.first)

pub returns-clause-made : goal.returns-clause-made
returns-clause-made c =
    let bytes : List ℕ = c.deref.result.now in
    let few : length bytes < 2 ^ 47 =
    omega (arith, ap length c.deref.ensures.value, table_len c.args.shape c.in_ok-bytes.bytes.items c.args.rows.now c.requires.shape c.in_ok-bytes.ensures.spells, c.requires.few, c.requires.shape.first) in
    table_written c.args.shape bytes c.args.rows.now c.in_ok-blocks_of.field-0.items c.in_ok-blocks_of.ensures
    (subst (λ (all : List ℕ). SpellsRows c.args.shape all c.args.rows.now) (sym c.deref.ensures.value) c.in_ok-bytes.ensures.spells) few
