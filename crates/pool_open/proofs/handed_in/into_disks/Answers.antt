use Rattle.pool_open.proofs.handed_in.into_disks.Goals as goal

pub returns : goal.returns
returns g c = record {
  members = c.into_disks.result.items;
  starts = c.into_disks.ensures.starts;
  calls = c.into_disks.ensures.calls;
  given = c.restore.ensures;
}
