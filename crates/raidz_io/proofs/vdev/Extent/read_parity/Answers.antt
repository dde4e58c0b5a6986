use Rattle.std.proofs.Common.{refl, arith, length-drop}
use Rattle.raidz_io.proofs.Order.{data_was_read, some_read}
use Rattle.raidz_io.proofs.Placed.{on_disk_front}
use Rattle.raidz_io.proofs.vdev.Extent.read_parity.Goals as goal

pub read_columns-requires-clause-on_disks : goal.read_columns-requires-clause-on_disks
read_columns-requires-clause-on_disks g c =
    on_disk_front c.args.self c.args.layout.now _ c.args.self.vdev.geometry.parity _ c.requires.fits c.requires.on_disks c.requires.layout
    (rw (c.split_at.ensures.front, c.parity.ensures) refl)

pub returns-in_err-read_columns-clause-reads : goal.returns-in_err-read_columns-clause-reads
returns-in_err-read_columns-clause-reads g c old was =
    c.read_columns.ensures.reads old _ (omega (arith, length-drop c.args.self.vdev.geometry.parity c.args.layout.now, c.requires.count))
    (data_was_read old c.args.disks.now _ _ _ _ c.args.layout.now c.args.self.vdev.geometry.parity c.args.read.now.count c.requires.count was)

pub returns-clause-reads : goal.returns-clause-reads
returns-clause-reads g c old was =
    c.read_columns.ensures.reads old _ (omega (arith, length-drop c.args.self.vdev.geometry.parity c.args.layout.now, c.requires.count))
    (data_was_read old c.args.disks.now _ _ _ _ c.args.layout.now c.args.self.vdev.geometry.parity c.args.read.now.count c.requires.count was)

pub returns-clause-read : goal.returns-clause-read
returns-clause-read g c old was =
    some_read old c.read_columns.new.disks _ _ _ _ c.args.layout.now c.split_at.result.0.now c.args.self.vdev.geometry.parity
    c.args.read.now.count c.read_columns.new.read.count (rw (c.split_at.ensures.front, c.parity.ensures) refl) c.requires.count
    c.in_ok-read_columns.ensures.more
    (c.in_ok-read_columns.ensures.read old _ (omega (arith, length-drop c.args.self.vdev.geometry.parity c.args.layout.now, c.requires.count))
    (data_was_read old c.args.disks.now _ _ _ _ c.args.layout.now c.args.self.vdev.geometry.parity c.args.read.now.count c.requires.count was))
