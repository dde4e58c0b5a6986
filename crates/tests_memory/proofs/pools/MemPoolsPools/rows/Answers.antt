use Rattle.std.proofs.Common.{ap, map, ◌∙◌}
use Rattle.pool_model.specs.View.{now_of}
use Rattle.tests_memory.specs.Telling.{listed_at}
use Rattle.tests_memory.proofs.Listed.{volumes_listed}
use Rattle.tests_memory.proofs.pools.MemPoolsPools.rows.Goals as goal

pub returns : goal.returns
returns c = λ v represents. c.in_ok-told.ensures ∙ (ap (map listed_at) (c.as_slice.ensures.value ∙ c.in-Ok.ensures v represents) ∙ volumes_listed (now_of v).volumes)
