use Rattle.schedule_lines.proofs.RunLists.{one_list_of_runs}
use Rattle.schedule_lines.proofs.laws.bytes_have_one_list_of_runs.Goals as goal

pub returns : goal.returns
returns c = one_list_of_runs
