use Rattle.std.proofs.Common.{◌∙◌, refl, sym, ap}
use Rattle.pool_labels.specs.Sizes.{is_allowed_size}
use Rattle.pool_labels.proofs.ScanSteps.{disk_skipped}
use Rattle.pool_labels.proofs.scanning.scan_disk.Goals as goal

pub returns-clause-scans : goal.returns-clause-scans
returns-clause-scans g c =
    disk_skipped c.args.disks.now c.args.which _ (sym (ap is_allowed_size c.size-size.ensures) ∙ sym c.is_allowed_size.ensures.value ∙ c.if-is_allowed_size.false) c.size-size.ensures refl c.new.ensures.items
    c.new-2.ensures.items
