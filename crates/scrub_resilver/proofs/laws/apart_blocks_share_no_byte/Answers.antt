use Rattle.scrub_resilver.proofs.Apart.{apart_share_no_byte}
use Rattle.scrub_resilver.proofs.laws.apart_blocks_share_no_byte.Goals as goal

pub returns : goal.returns
returns c = apart_share_no_byte c.apart_extents_share_no_byte.ensures c.other_vdevs_share_no_byte.ensures
