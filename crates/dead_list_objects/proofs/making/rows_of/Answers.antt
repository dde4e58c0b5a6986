use Rattle.std.proofs.Common.{◌≡◌, ◌*◌, arith, length, ap, ◌∙◌}
use Rattle.dead_list.proofs.RowLists.{rows_length}
use Rattle.dead_list_objects.proofs.making.rows_of.Goals as goal

pub returns-clause-rows : goal.returns-clause-rows
returns-clause-rows g =
    let blocks = g.in_ok-rows.ensures.0 in
    let spelled = g.in_ok-rows.ensures.2 in
    let long : length g.in_ok-rows.rows.items ≡ length blocks * 128 = ap length spelled.spelled ∙ rows_length blocks spelled.each in
    omega (arith, long)
