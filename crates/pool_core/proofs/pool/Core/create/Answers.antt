use Rattle.std.proofs.Common.{refl}
use Rattle.pool_model.specs.View.{started}
use Rattle.pool_intake.proofs.Stepping.{followed}
use Rattle.pool_commit.specs.Config.{vdevs_from}
use Rattle.pool_commit.specs.Started.{started_on_disks}
use Rattle.pool_core.proofs.pool.Core.create.Goals as goal

pub returns-in-Ok-clause-represents : goal.returns-in-Ok-clause-represents
returns-in-Ok-clause-represents g c =
    let vdevs = vdevs_from 0 c.args.vdevs.now in record {
      follows = followed c.new-in-Ok.result (started vdevs) (started_on_disks vdevs) (c.new-in-Ok.ensures vdevs) refl refl refl;
      backs = c.in-Ok.ensures.backs;
    }
