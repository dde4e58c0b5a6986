use Rattle.std.proofs.Common.{Ok, Option, subst}
use Rattle.vdev_label.specs.declared.label.Label.{Label}
use Rattle.pool_export.specs.Reads.{ReadsBest}
use Rattle.pool_export.proofs.Best.{area_read}
use Rattle.pool_export.proofs.reading.read_area.Goals as goal

pub returns-in_ok-put_away-in-Some-clause-reads : goal.returns-in_ok-put_away-in-Some-clause-reads
returns-in_ok-put_away-in-Some-clause-reads g c =
    let P : Option Label → Type 0 = λ best. ReadsBest c.args.uberblock.now.config_digest c.args.disks.now c.read_best.new.disks c.args.which (Ok best) in
    area_read c.args.uberblock.now c.args.disks.now c.read_best.new.disks c.args.which c.in-Some.label c.in_ok-put_away-in-Some.field-0 c.requires.claim c.requires.group
    (subst P c.in-Some.is c.in_ok-label.ensures.reads) c.in_ok-put_away-in-Some.ensures
