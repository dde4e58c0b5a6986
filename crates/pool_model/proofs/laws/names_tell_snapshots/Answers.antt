use Rattle.pool_model.proofs.Letters.{snapshots_name, volume_name, volumes_part}
use Rattle.pool_model.proofs.laws.names_tell_snapshots.Goals as goal

pub returns-clause-volumes : goal.returns-clause-volumes
returns-clause-volumes c = volume_name

pub returns-clause-snapshots : goal.returns-clause-snapshots
returns-clause-snapshots c = snapshots_name

pub returns-clause-parts : goal.returns-clause-parts
returns-clause-parts c = volumes_part
