use Rattle.pool_model.proofs.Places.{ascending_none, ascending_applied, ascending_upto, equal_pools}
use Rattle.pool_model.proofs.laws.pools_ascend_by_name.Goals as goal

pub returns-clause-start : goal.returns-clause-start
returns-clause-start c = λ vdevs group. ascending_none

pub returns-clause-applied : goal.returns-clause-applied
returns-clause-applied c = ascending_applied

pub returns-clause-upto : goal.returns-clause-upto
returns-clause-upto c = ascending_upto

pub returns-clause-equal : goal.returns-clause-equal
returns-clause-equal c = equal_pools
