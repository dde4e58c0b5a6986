use Rattle.pool_scrub.proofs.Behind.{goes_on}
use Rattle.pool_scrub.proofs.scrubbing.scrubs_go_on.Goals as goal

pub returns : goal.returns
returns g c =
    goes_on (record {
      spare = c.mends_spare_blocks.ensures;
      spare_told = c.mends_spare_told_blocks.ensures;
      own = c.honest_choices_are_own.ensures;
      stand = c.blocks_looked_at_stand.ensures;
      share = c.apart_blocks_share_no_byte.ensures;
      keep = c.reads_keep_contents.ensures;
      give = c.honest_disks_give_truly.ensures;
      still = c.stands_while_kept.ensures;
      reach = c.reach_is_known.ensures;
    }) g.D.Disk
