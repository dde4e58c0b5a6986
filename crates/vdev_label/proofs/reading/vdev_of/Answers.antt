use Rattle.std.specs.Prelude.{IsTrue}
use Rattle.nvlist.specs.View.{list_view}
use Rattle.vdev_label.proofs.Vdevs.{is_vdev}
use Rattle.vdev_label.specs.Plain.{vdev_view}
use Rattle.vdev_label.proofs.reading.vdev_of.Goals as goal

pub returns-clause-found : goal.returns-clause-found
returns-clause-found c =
    let yes : IsTrue c.is_raidz.result = search in
    let fields = c.is_raidz.ensures in
    is_vdev (list_view c.args.pairs.now) c.args.id
    (vdev_view (record { guid = c.in_ok-number_of.field-0; parity = c.in_ok-number_of-2.field-0; child_sectors = c.in_ok-number_of-3.field-0; slab_shift = c.in_ok-number_of-4.field-0; meta_slabs = c.in_ok-number_of-5.field-0; children = c.in_ok-disks_of.field-0 }))
    c.requires (fields.count yes) (fields.shift yes) c.in_ok-number_of-3.ensures.found c.in_ok-disks_of.ensures.found c.in_ok-number_of.ensures.found (fields.own yes)
    c.in_ok-number_of-5.ensures.found c.in_ok-number_of-4.ensures.found c.in_ok-number_of-2.ensures.found (fields.kind yes)
