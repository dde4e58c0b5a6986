use Rattle.std.proofs.Common.{◌≡◌, length, subst, sym}
use Rattle.block_store.specs.Store.{Store}
use Rattle.pool_commit.specs.HasDisks.{HasDisks}
use Rattle.pool_commit.specs.Slots.{LabelsLieAside}
use Rattle.pool_commit.specs.Suspension.{lacks_disks}
use Rattle.pool_commit.proofs.commit.Commit.make_due.Goals as goal

pub invariant_of-self : goal.invariant_of-self
invariant_of-self g c =
    let it = c.args.self.now in
    let same = sym c.make_due.ensures in
    record {
      disks = subst (λ (store : Store). HasDisks (length store.disks.starts) it.planned) same it.disks;
      suspension = subst (λ (store : Store). it.suspended ≡ lacks_disks store) same it.suspension;
      labels = subst (λ (store : Store). LabelsLieAside store.disks.starts store.spaces) same it.labels;
      claim = it.claim;
    }
