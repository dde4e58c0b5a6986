use Rattle.volume_device.proofs.Pieces.{ascends}
use Rattle.volume_device.proofs.laws.names_still_ascend.Goals as goal

pub returns : goal.returns
returns c name offset bytes before after up over =
    let ascend = c.pools_ascend_by_name.ensures in
    ascends c.pools_are_maps.ensures.written ascend.applied ascend.equal name offset bytes before after up over
