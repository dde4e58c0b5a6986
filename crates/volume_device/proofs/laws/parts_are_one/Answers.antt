use Rattle.volume_device.proofs.Pieces.{fits_one, one_write}
use Rattle.volume_device.proofs.laws.parts_are_one.Goals as goal

pub returns-clause-fits : goal.returns-clause-fits
returns-clause-fits c name offset first second before mid after one two = fits_one c.pools_are_maps.ensures.written before.now mid.now name offset first second one.fits one.now two.fits

pub returns-clause-now : goal.returns-clause-now
returns-clause-now c name offset first second before mid after one two =
    let ascend = c.pools_ascend_by_name.ensures in
    one_write c.pools_are_maps.ensures.written ascend.applied ascend.equal before.now mid.now after.now name offset first second one.fits one.now two.fits two.now

pub returns-clause-cut_off : goal.returns-clause-cut_off
returns-clause-cut_off c name offset first second before mid after one cut =
    let ascend = c.pools_ascend_by_name.ensures in
    one_write c.pools_are_maps.ensures.written ascend.applied ascend.equal before.now mid.now after.now name offset first cut.front one.fits one.now cut.fits cut.now
