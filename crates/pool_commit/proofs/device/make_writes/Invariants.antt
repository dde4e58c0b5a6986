use Rattle.model_disk.specs.Runs.{Makes}
use Rattle.raidz_io.specs.Writes.{ColumnWrite}
use Rattle.pool_commit.specs.Making.{MadeWrites}
use Rattle.pool_commit.specs.Writing.{IsDueWrite}
use Rattle.pool_commit.proofs.Writing.{IsRestOf}
use Rattle.pool_commit.proofs.device.make_writes.Given as goal

abbrev pub invariant-loop : goal.invariant-loop
invariant-loop g l =
    MadeWrites l.initial.store l.store l.counter
    × IsRestOf ColumnWrite l.initial.store.due l.store.due
    × Makes (IsDueWrite l.initial.store.due) l.initial.store.disks l.store.disks
