use Rattle.volume_rules.proofs.PartActions.{parted_good, parted_may, parted_same}
use Rattle.volume_rules.proofs.parting.parted_groups_come_to_the_same.Goals as goal

pub returns : goal.returns
returns c = record {
  same = parted_same;
  may = parted_may;
  good = parted_good;
}
