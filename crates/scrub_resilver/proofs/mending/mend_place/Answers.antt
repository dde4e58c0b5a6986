use Rattle.std.proofs.Common.{inr, refl}
use Rattle.scrub_resilver.proofs.Mended.{place_mended, place_repairs, repairs_none}
use Rattle.scrub_resilver.proofs.mending.mend_place.Goals as goal

pub returns-in_default-clause-mends : goal.returns-in_default-clause-mends
returns-in_default-clause-mends g c = repairs_none _ _ _

pub returns-in_err-bytes-clause-mends : goal.returns-in_err-bytes-clause-mends
returns-in_err-bytes-clause-mends g c = repairs_none _ _ _

pub returns-in_err-spread-clause-mends : goal.returns-in_err-spread-clause-mends
returns-in_err-spread-clause-mends g c = repairs_none _ _ _

pub returns-in_default-clause-refused : goal.returns-in_default-clause-refused
returns-in_default-clause-refused g c = inr (refl, c.in_default.ensures.only refl)

pub mend_copy-requires-clause-fits : goal.mend_copy-requires-clause-fits
mend_copy-requires-clause-fits g c = (c.in-Some.ensures.fits c.args.disks.now.starts c.requires.room).0

pub mend_copy-requires-clause-on_disks : goal.mend_copy-requires-clause-on_disks
mend_copy-requires-clause-on_disks g c = (c.in-Some.ensures.fits c.args.disks.now.starts c.requires.room).1

pub returns-in_err-mend_copy-clause-mends : goal.returns-in_err-mend_copy-clause-mends
returns-in_err-mend_copy-clause-mends g c =
    place_repairs c.args.shapes.now c.args.block.now c.args.place c.args.content.now c.in_ok-bytes.bytes.items c.in-Some.extent c.in_ok-spread.spread
    c.args.missing.now c.args.disks.now c.mend_copy.new.disks c.in-Some.ensures.at c.in_ok-bytes.ensures.items c.in_ok-spread.ensures c.in_err-mend_copy.ensures.mends

pub returns-clause-mends : goal.returns-clause-mends
returns-clause-mends g c =
    place_repairs c.args.shapes.now c.args.block.now c.args.place c.args.content.now c.in_ok-bytes.bytes.items c.in-Some.extent c.in_ok-spread.spread
    c.args.missing.now c.args.disks.now c.mend_copy.new.disks c.in-Some.ensures.at c.in_ok-bytes.ensures.items c.in_ok-spread.ensures c.in_ok-mend_copy.ensures.mends

pub returns-clause-mended : goal.returns-clause-mended
returns-clause-mended g c =
    place_mended c.args.shapes.now c.args.block.now c.args.place c.args.content.now c.in_ok-bytes.bytes.items c.in-Some.extent c.in_ok-spread.spread
    c.args.missing.now c.args.disks.now c.mend_copy.new.disks c.in-Some.ensures.at c.in_ok-bytes.ensures.items c.in_ok-spread.ensures c.in_ok-mend_copy.ensures.mended
