use Rattle.std.proofs.Common.{refl, arith}
use Rattle.dataset_groups.proofs.Beginning.{group_begins}
use Rattle.dataset_groups.proofs.datasets.GroupDatasets.new.Goals as goal

pub returns-clause-value : goal.returns-clause-value
returns-clause-value c = λ stored bound group objects own blocks pool readings plain are chains le names.
    group_begins stored bound c.args.birth group c.args.set objects own blocks pool readings c.args.directory plain _ c.new.ensures.none refl c.max-next.ensures (omega arith) are chains le names
