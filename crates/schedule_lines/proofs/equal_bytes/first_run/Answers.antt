use Rattle.std.proofs.Common.{refl, arith}
use Rattle.schedule_lines.proofs.RunLists.{begins_with_run}
use Rattle.schedule_lines.proofs.equal_bytes.first_run.Goals as goal

pub returns : goal.returns
returns c = begins_with_run c.args.bytes.now _ (omega arith) refl c.count_in_front.ensures
