use Rattle.vdev_label.specs.Plain.{label_view}
use Rattle.pool_export.specs.Taken.{exported}
use Rattle.pool_export.proofs.Best.{inscribed_area}
use Rattle.pool_export.proofs.reading.put_away.Goals as goal

pub returns : goal.returns
returns c = inscribed_area c.encode_area.result (exported (label_view c.args.label) c.args.uberblock.now) c.encode_area.ensures
