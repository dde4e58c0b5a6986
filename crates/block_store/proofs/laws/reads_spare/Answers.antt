use Rattle.model_disk.specs.Joint.{content}
use Rattle.block_store.proofs.laws.reads_spare.Goals as goal

pub returns : goal.returns
returns c old new known reads block bytes i extent absent is copy stands =
    c.stands_while_kept.ensures (content old.disks) (content new.disks) absent extent bytes (λ disk j of. c.reads_keep_contents.ensures old.disks new.disks reads disk j) stands
