use Rattle.schedule_lines.proofs.RunLists.{all_runs}
use Rattle.schedule_lines.proofs.equal_bytes.runs.Goals as goal

pub returns : goal.returns
returns c = all_runs c.loop-run.runs.items c.loop-run.rest.now c.args.bytes.now c.in_default.ensures c.loop-run.invariant
