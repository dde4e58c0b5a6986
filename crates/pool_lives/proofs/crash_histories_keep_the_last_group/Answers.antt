use Rattle.pool_lives.proofs.Lives.{crash_histories_keep_the_last_group as law}
use Rattle.pool_lives.proofs.crash_histories_keep_the_last_group.Goals as goal

pub returns : goal.returns
returns g c = law c.created_pools_run_as.ensures c.created_pools_are_on_their_disks.ensures g.D.Disk (record {
  stops = record {
    none_was = c.none_was_out.ensures;
    stay = c.steps_stay_on_their_disks.ensures;
    lead = c.stopped_steps_lead_to_own_pools.ensures;
  };
  headline = c.headline_of_runs.ensures;
  exports = c.stopped_exports_lead_to_own_pools.ensures;
  opened_once = c.unfailing_opens_claim_once.ensures.opened;
  refused_once = c.unfailing_opens_claim_once.ensures.refused;
  found = c.found_disks_may_be_opened.ensures;
  opens = c.own_pools_open_again.ensures;
  shown = c.disks_may_be_handed_on.ensures.shown;
})
