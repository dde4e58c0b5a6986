use Rattle.std.proofs.Common.{length, sym, subst}
use Rattle.pool_commit.specs.HasDisks.{AreSlotsBelow}
use Rattle.pool_commit.proofs.Disks.{slots_below}
use Rattle.pool_commit.proofs.commit.Commit.due_behind.Goals as goal

pub returns-clause-there : goal.returns-clause-there
returns-clause-there g c = record {
  flushes = c.in_ok-flushes.ensures.there;
  slots = subst (AreSlotsBelow (length c.args.self.now.store.disks.starts)) (sym c.in_ok-slots.ensures)
      (slots_below (length c.args.self.now.store.disks.starts) c.in_ok-flushes.flushes.items c.in_ok-flushes.ensures.there);
  slot_flushes = c.in_ok-slot_flushes.ensures.there;
}
