use Rattle.vdev_label.proofs.Allows.{small_configs_fit}
use Rattle.vdev_label.proofs.laws.small_configs_fit.Goals as goal

pub returns : goal.returns
returns c = small_configs_fit
