use Rattle.std.proofs.Common.{◌≡◌, [], length, refl, sym, arith}
use Rattle.raidz_io.proofs.Order.{all_data, none_read, data_read}
use Rattle.raidz_io.proofs.Placed.{on_disk_back}
use Rattle.raidz_io.proofs.vdev.Extent.read_data.Goals as goal

pub read_columns-requires-clause-on_disks : goal.read_columns-requires-clause-on_disks
read_columns-requires-clause-on_disks g c =
    on_disk_back c.args.self c.args.layout.now _ c.args.self.vdev.geometry.parity _ c.requires.fits c.requires.on_disks c.requires.layout
    (rw (c.split_at.ensures.back, c.parity.ensures) refl)

pub returns-in_err-read_columns-clause-reads : goal.returns-in_err-read_columns-clause-reads
returns-in_err-read_columns-clause-reads g c =
    (c.read_columns.ensures.reads c.args.disks.now [] (sym c.none-read.ensures.count)
    (none_read c.args.disks.now _ _ _ _ c.none-read.ensures.bytes c.none-read.ensures.lost)).0

pub returns-in_err-read_columns-clause-untouched : goal.returns-in_err-read_columns-clause-untouched
returns-in_err-read_columns-clause-untouched g c =
    (c.read_columns.ensures.reads c.args.disks.now [] (sym c.none-read.ensures.count)
    (none_read c.args.disks.now _ _ _ _ c.none-read.ensures.bytes c.none-read.ensures.lost)).1

pub returns-clause-reads : goal.returns-clause-reads
returns-clause-reads g c =
    (c.read_columns.ensures.reads c.args.disks.now [] (sym c.none-read.ensures.count)
    (none_read c.args.disks.now _ _ _ _ c.none-read.ensures.bytes c.none-read.ensures.lost)).0

pub returns-clause-untouched : goal.returns-clause-untouched
returns-clause-untouched g c =
    (c.read_columns.ensures.reads c.args.disks.now [] (sym c.none-read.ensures.count)
    (none_read c.args.disks.now _ _ _ _ c.none-read.ensures.bytes c.none-read.ensures.lost)).1

pub returns-clause-count : goal.returns-clause-count
returns-clause-count g c =
    let all : c.read_columns.new.read.count ≡ length c.split_at.result.1.now =
    all_data c.read_columns.new.read.count c.none-read.result.count (length c.split_at.result.1.now) _ c.none-read.ensures.count
    c.in_ok-read_columns.ensures.most c.in_ok-read_columns.ensures.ended in
    omega (arith, all, c.split_at.ensures.back_len, c.parity.ensures)

pub returns-clause-read : goal.returns-clause-read
returns-clause-read g c =
    let all : c.read_columns.new.read.count ≡ length c.split_at.result.1.now =
    all_data c.read_columns.new.read.count c.none-read.result.count (length c.split_at.result.1.now) _ c.none-read.ensures.count
    c.in_ok-read_columns.ensures.most c.in_ok-read_columns.ensures.ended in
    data_read c.args.disks.now c.read_columns.new.disks _ _ _ _ c.args.layout.now c.split_at.result.1.now c.args.self.vdev.geometry.parity
    c.read_columns.new.read.count c.none-read.result.count c.none-read.ensures.count (rw (c.split_at.ensures.back, c.parity.ensures) refl) all
    (omega (arith, all, c.split_at.ensures.back_len, c.parity.ensures))
    (c.in_ok-read_columns.ensures.read c.args.disks.now [] (sym c.none-read.ensures.count)
    (none_read c.args.disks.now _ _ _ _ c.none-read.ensures.bytes c.none-read.ensures.lost))
