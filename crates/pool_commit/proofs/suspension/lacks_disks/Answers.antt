use Rattle.std.proofs.Common.{rules, ◌≡◌, ap, sym, subst, true, take}
use Rattle.std.specs.Prelude.{not}
use Rattle.pool_commit.proofs.Disks.{tolerable_more, intolerable_at, suc_is}
use Rattle.block_store.specs.Store.{is_out}
use Rattle.pool_model.specs.View.{is_tolerable}
use Rattle.pool_commit.specs.Config.{shown, vdevs_of}
use Rattle.pool_commit.proofs.suspension.lacks_disks.Goals as goal

pub returns-then-count_out-vdev : goal.returns-then-count_out-vdev
returns-then-count_out-vdev g c = ap not (sym (intolerable_at (vdevs_of c.args.store.now.spaces) c.loop-index.index (shown c.vdev_at-vdev.result) (is_out c.args.store.now.out) c.vdev_at-vdev.ensures.there (search rules)))

pub loop-index-preserved : goal.loop-index-preserved
loop-index-preserved g c = subst (λ n. is_tolerable (take n (vdevs_of c.args.store.now.spaces)) (is_out c.args.store.now.out) ≡ true) (suc_is c.loop-index.index)
    (tolerable_more (vdevs_of c.args.store.now.spaces) c.loop-index.index (shown c.vdev_at-vdev.result) (is_out c.args.store.now.out) c.vdev_at-vdev.ensures.there c.loop-index.invariant (search rules))
