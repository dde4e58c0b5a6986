use Rattle.pool_stops.proofs.OwnReopening.{stopped_opens_lead_to_own_pools as law}
use Rattle.pool_stops.proofs.opening.stopped_opens_lead_to_own_pools.Goals as goal

pub returns : goal.returns
returns c = law c.stopped_opens_lead_whole.ensures c.stopped_opens_are_of_config.ensures c.own_disks_show_at_most_three_configurations.ensures c.possible_configurations_are_shown.ensures c.stopped_opens_leave_disks.ensures
    c.stopped_opens_are_of_sum.ensures
