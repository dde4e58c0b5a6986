use Rattle.pool_scrub.proofs.Clean.{clean_goes_on}
use Rattle.pool_scrub.proofs.scrubbing.clean_scrubs_go_on_whole.Goals as goal

pub returns : goal.returns
returns c = clean_goes_on c.checked_blocks_stand.ensures
