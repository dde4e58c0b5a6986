use Rattle.raidz_io.specs.Stands.{all_columns}
use Rattle.scrub_resilver.proofs.Mended.{column_well, on_disks_later, reads_repair, unfaulted}
use Rattle.scrub_resilver.proofs.Placing.{named_at, on_disk_at, lies_within, lies_on, size_at, taken}
use Rattle.scrub_resilver.proofs.mending.mend_column.Goals as goal

pub returns-in_err-fault-clause-mends : goal.returns-in_err-fault-clause-mends
returns-in_err-fault-clause-mends g c = reads_repair _ _ _ _ c.in_err-fault.ensures.reads c.in_err-fault.ensures.untouched

pub returns-in_default-clause-mends : goal.returns-in_default-clause-mends
returns-in_default-clause-mends g c = reads_repair _ _ _ _ c.in_ok-fault.ensures.reads c.in_ok-fault.ensures.untouched

pub returns-in_default-clause-mended : goal.returns-in_default-clause-mended
returns-in_default-clause-mended g c place bytes at at' =
    unfaulted c.args.disks.now c.look_at_column.new.disks c.args.missing.now _ _ bytes c.in_ok-fault.fault c.in_default.is (c.in_ok-fault.ensures.judged place bytes at at')

pub place_of-place-requires : goal.place_of-place-requires
place_of-place-requires g c =
    named_at c.args.extent _ _ c.args.column _ c.as_slice.ensures.value c.requires.fits c.requires.spread.1.is_layout c.requires.below

pub put-requires-clause-which : goal.put-requires-clause-which
put-requires-clause-which g c =
    lies_on c.args.extent c.look_at_column.new.disks.starts _ _
    (on_disk_at c.args.extent _ _ c.look_at_column.new.disks.starts c.args.column _ c.as_slice.ensures.value c.requires.fits
    (on_disks_later c.args.extent c.args.disks.now c.look_at_column.new.disks c.in_ok-fault.ensures.reads.starts c.requires.on_disks)
    c.requires.spread.1.is_layout c.requires.below)
    c.place_of-place.ensures.disk

pub put-requires-clause-within : goal.put-requires-clause-within
put-requires-clause-within g c =
    lies_within c.args.extent c.look_at_column.new.disks.starts _ c.bytes.result.now _ _
    (on_disk_at c.args.extent _ _ c.look_at_column.new.disks.starts c.args.column _ c.as_slice.ensures.value c.requires.fits
    (on_disks_later c.args.extent c.args.disks.now c.look_at_column.new.disks c.in_ok-fault.ensures.reads.starts c.requires.on_disks)
    c.requires.spread.1.is_layout c.requires.below)
    c.place_of-place.ensures.disk c.place_of-place.ensures.offset
    (size_at c.args.extent c.requires.spread.0 _ _ c.args.column _ c.bytes.result.now c.requires.spread.1.are_bytes
    (taken _ _ c.args.column _ c.as_slice.ensures.value c.requires.below) c.bytes.ensures)

pub returns-clause-mends : goal.returns-clause-mends
returns-clause-mends g c =
    (column_well c.args.disks.now c.look_at_column.new.disks c.put.new.disks c.args.missing.now c.args.extent c.args.spread.now.layout.items
    (all_columns c.args.spread.now.columns) c.args.column _ _ _ c.bytes.result.now c.in_ok-fault.fault c.in-Some._fault
    (taken _ _ c.args.column _ c.as_slice.ensures.value c.requires.below) c.bytes.ensures c.place_of-place.ensures.disk c.place_of-place.ensures.offset
    c.in_ok-fault.ensures.reads c.in_ok-fault.ensures.untouched c.in-Some.is
    (c.in_ok-fault.ensures.judged _ _ (taken _ _ c.args.column _ c.as_slice.ensures.value c.requires.below) c.bytes.ensures) c.put.ensures).repairs

pub returns-clause-mended : goal.returns-clause-mended
returns-clause-mended g c =
    (column_well c.args.disks.now c.look_at_column.new.disks c.put.new.disks c.args.missing.now c.args.extent c.args.spread.now.layout.items
    (all_columns c.args.spread.now.columns) c.args.column _ _ _ c.bytes.result.now c.in_ok-fault.fault c.in-Some._fault
    (taken _ _ c.args.column _ c.as_slice.ensures.value c.requires.below) c.bytes.ensures c.place_of-place.ensures.disk c.place_of-place.ensures.offset
    c.in_ok-fault.ensures.reads c.in_ok-fault.ensures.untouched c.in-Some.is
    (c.in_ok-fault.ensures.judged _ _ (taken _ _ c.args.column _ c.as_slice.ensures.value c.requires.below) c.bytes.ensures) c.put.ensures).mended
