use Rattle.std.proofs.Common.{refl}
use Rattle.model_disk.specs.Call.{Flushed, FailedFlush}
use Rattle.pool_format.proofs.Failures.{answered_one, failed_one}
use Rattle.pool_format.proofs.Writes.{flush_makes}
use Rattle.pool_format.proofs.labeling.flush.Goals as goal

pub returns-in-Ok-clause-makes : goal.returns-in-Ok-clause-makes
returns-in-Ok-clause-makes g c = flush_makes c.flush.result c.args.disks.now c.flush.new.self c.args.which c.flush.ensures.starts c.flush.ensures.calls

pub returns-in-Ok-clause-failed : goal.returns-in-Ok-clause-failed
returns-in-Ok-clause-failed g c = answered_one c.args.disks.now c.flush.new.self c.args.which Flushed c.in-Ok.ensures.calls refl

pub returns-in-Err-clause-makes : goal.returns-in-Err-clause-makes
returns-in-Err-clause-makes g c = flush_makes c.flush.result c.args.disks.now c.flush.new.self c.args.which c.flush.ensures.starts c.flush.ensures.calls

pub returns-in-Err-clause-failed : goal.returns-in-Err-clause-failed
returns-in-Err-clause-failed g c = failed_one c.args.disks.now c.flush.new.self c.args.which FailedFlush c.in-Err.ensures.calls refl
