use Rattle.dataset_groups.proofs.GoneRows.{taken_out}
use Rattle.dataset_groups.proofs.datasets.GroupDatasets.remove_row.Goals as goal

pub returns-clause-rows : goal.returns-clause-rows
returns-clause-rows c = taken_out c.args.self.now.directory c.remove.new.self c.args.name.now c.remove.result c.remove.ensures.removed c.remove.ensures.none
