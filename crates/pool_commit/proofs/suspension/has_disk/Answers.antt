use Rattle.std.proofs.Common.{◌≡◌, ◌⊎◌, ◌+◌, ◌≤◌, ◌<◌, inl, inr, ap, sym, subst, false, take, arith}
use Rattle.std.specs.Prelude.{◌==◌}
use Rattle.std.specs.List.{list_any}
use Rattle.pool_model.specs.View.{disks_of}
use Rattle.pool_commit.specs.Config.{shown, vdevs_of}
use Rattle.pool_commit.proofs.Disks.{suc_is}
use Rattle.pool_commit.proofs.GoingOut.{none_more, one_there}
use Rattle.pool_commit.proofs.suspension.has_disk.Goals.{else-vdev-disk-via-then-vdev-disk+else-disk-vdev, else-vdev-disk-via-else-vdev-disk}
use Rattle.pool_commit.proofs.suspension.has_disk.Goals as goal

pub returns-then-disk-vdev-clause-vdevs : goal.returns-then-disk-vdev-clause-vdevs
returns-then-disk-vdev-clause-vdevs g c =
    sym (one_there (vdevs_of c.args.store.now.spaces) c.loop-index.index c.args.disk (shown c.vdev_at-vdev.result) c.vdev_at-vdev.ensures.there c.if-vdev-disk.true
    (omega (arith, c.if-vdev-disk.true, c.if-disk-vdev.true)))

pub loop-index-preserved : goal.loop-index-preserved
loop-index-preserved g c =
    subst (λ n. list_any (λ d. d == c.args.disk) (disks_of (take n (vdevs_of c.args.store.now.spaces))) ≡ false) (suc_is c.loop-index.index)
    (none_more (vdevs_of c.args.store.now.spaces) c.loop-index.index c.args.disk (shown c.vdev_at-vdev.result) c.vdev_at-vdev.ensures.there
    (elim c.else-vdev-disk.branch [
      | else-vdev-disk-via-then-vdev-disk+else-disk-vdev w ↦ inr (omega (arith, w.if-vdev-disk.true, w.if-disk-vdev.false))
      | else-vdev-disk-via-else-vdev-disk w ↦ inl (omega (arith, w.if-vdev-disk.false))
    ])
    c.loop-index.invariant)
