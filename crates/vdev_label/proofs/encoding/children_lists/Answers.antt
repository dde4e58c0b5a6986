use Rattle.std.proofs.Common.{◌<◌, length, get_or, arith}
use Rattle.nvlist.specs.View.{list_view}
use Rattle.vdev_label.proofs.Numbered.{made_next, get_again}
use Rattle.vdev_label.specs.Pairs.{child_pairs}
use Rattle.vdev_label.proofs.encoding.children_lists.Goals as goal

pub loop-id-preserved : goal.loop-id-preserved
loop-id-preserved c =
    let below : c.loop-id.id < length c.args.children.now = grind (arith, c.loop-id-test.true) in
    made_next child_pairs list_view c.args.children.now c.loop-id.id (get_or c.args.children.now c.loop-id.id 0) c.loop-id.found.items c.push.new.self.items
    c.in_ok-child_list.field-0 below (get_again c.args.children.now c.loop-id.id 0 below) c.in_ok-child_list.ensures c.in_ok-push.ensures.items c.loop-id.invariant
