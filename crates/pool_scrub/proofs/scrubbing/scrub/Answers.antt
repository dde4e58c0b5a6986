use Rattle.std.proofs.Common.{inl, inr}
use Rattle.pool_scrub.proofs.scrubbing.scrub.Goals as goal

pub returns-in-Err-clause-refused : goal.returns-in-Err-clause-refused
returns-in-Err-clause-refused g c = inl (c.in-Err.failed, c.in-Err.ensures.refused, c.parts_of.ensures.refusal, c.parts_of.ensures.back)

pub returns-in-Err-scrub_over-clause-refused : goal.returns-in-Err-scrub_over-clause-refused
returns-in-Err-scrub_over-clause-refused g c = inr (record {
  uberblock = c.in-Ok.opened.0.uberblock;
  before = _;
  from = c.in-Ok.opened.1;
  opened = c.in-Ok.ensures.opened;
  new = _;
  over = c.in-Err-scrub_over.ensures.refused;
  given = record {
    members = c.into_disks.result.items;
    starts = c.into_disks.ensures.starts;
    calls = c.into_disks.ensures.calls;
    given = c.restore.ensures;
  };
})
