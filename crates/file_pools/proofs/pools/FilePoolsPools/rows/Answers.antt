use Rattle.std.proofs.Common.{ap, map, ◌∙◌}
use Rattle.pool_model.specs.View.{now_of}
use Rattle.file_pools.specs.Telling.{listed_at}
use Rattle.file_pools.proofs.Onward.{volumes_listed}
use Rattle.file_pools.proofs.pools.FilePoolsPools.rows.Goals as goal

pub returns : goal.returns
returns g c = λ v represents. c.in_ok-told.ensures ∙ (ap (map listed_at) (c.as_slice.ensures.value ∙ c.in-Ok.ensures v represents) ∙ volumes_listed (now_of v).volumes)
