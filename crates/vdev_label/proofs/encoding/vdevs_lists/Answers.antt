use Rattle.std.proofs.Common.{◌∙◌, ◌<◌, length, map, sym, ap, arith}
use Rattle.std.proofs.lemmas.List.{get_or-map, length-map}
use Rattle.nvlist.specs.View.{list_view}
use Rattle.vdev_label.proofs.Numbered.{made_next}
use Rattle.vdev_label.specs.Pairs.{vdev_pairs}
use Rattle.vdev_label.specs.Plain.{vdev_view}
use Rattle.vdev_label.proofs.encoding.vdevs_lists.Goals as goal

pub loop-id-preserved : goal.loop-id-preserved
loop-id-preserved c =
    let below : c.loop-id.id < length c.args.vdevs.now = grind (arith, c.loop-id-test.true) in
    let inside : c.loop-id.id < length (map vdev_view c.args.vdevs.now) = omega (arith, below, length-map c.args.vdevs.now vdev_view) in
    let x = vdev_view c.index-vdevs-id.result in
    made_next vdev_pairs list_view (map vdev_view c.args.vdevs.now) c.loop-id.id x c.loop-id.found.items c.push.new.self.items c.in_ok-vdev_list.field-0 inside
    (get_or-map vdev_view c.args.vdevs.now c.loop-id.id c.index-vdevs-id.result x below ∙ ap vdev_view (sym c.index-vdevs-id.is))
    c.in_ok-vdev_list.ensures c.in_ok-push.ensures.items c.loop-id.invariant
