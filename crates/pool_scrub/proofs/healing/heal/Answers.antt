use Rattle.scrub_resilver.proofs.Mended.{repairs_none}
use Rattle.scrub_resilver.specs.Mending.{IsRightColumn}
use Rattle.pool_scrub.proofs.Results.{no_reads, why_told}
use Rattle.pool_scrub.proofs.healing.heal.Goals as goal

pub returns-in-Err-clause-refused : goal.returns-in-Err-clause-refused
returns-in-Err-clause-refused g c = record {
  mid = c.check.new.disks;
  reads = c.in-Err.ensures.reads;
  mended = c.check.new.disks;
  mends = repairs_none (IsRightColumn c.args.shapes.now c.args.blocks.now) c.args.missing.now c.check.new.disks;
  after = no_reads c.check.new.disks;
  why = why_told c.told.result c.in-Err.refusal _ c.told.ensures c.in-Err.ensures.refused;
}
