use Rattle.std.proofs.Common.{◌≤◌, arith}
use Rattle.std.specs.Prelude.{IsTrue}
use Rattle.nvlist.specs.Plain.{pair_count}
use Rattle.nvlist.specs.View.{list_view}
use Rattle.vdev_label.proofs.Labels.{is_label}
use Rattle.vdev_label.specs.Plain.{label_view}
use Rattle.vdev_label.proofs.reading.label_of.Goals as goal

pub returns-clause-found : goal.returns-clause-found
returns-clause-found c =
    let l = list_view c.args.pairs.now in
    let one : IsTrue c.has_number.result = search in
    let count : pair_count l ≤ 9 = grind (arith, c.if-len-ne9.false, c.len.ensures) in
    is_label l
    (label_view (record { claim = c.in_ok-count_of.field-0; guid = c.in_ok-number_of.field-0; name = c.in_ok-pool_name_of.field-0; pool_guid = c.in_ok-number_of-2.field-0; state = c.in_ok-state_of.field-0; top_guid = c.in_ok-number_of-3.field-0; group = c.in_ok-count_of-2.field-0; config = c.in_ok-tree_of.field-0 }))
    c.requires count c.in_ok-count_of.ensures.found c.in_ok-number_of.ensures.found c.in_ok-pool_name_of.ensures.found c.in_ok-number_of-2.ensures.found
    c.in_ok-state_of.ensures.found c.in_ok-number_of-3.ensures.found c.in_ok-count_of-2.ensures.found c.in_ok-tree_of.ensures.found (c.has_number.ensures.0 one)
