use Rattle.std.proofs.Common.{rules, ◌≡◌, ◌<◌, ◌≤◌, ℕ, true, take, sym, refl, subst}
use Rattle.std.proofs.lemmas.Option.{slice_get_read}
use Rattle.block_store.specs.Store.{is_out}
use Rattle.pool_core.specs.Config.{shown}
use Rattle.pool_core.proofs.CommitDisks.{intolerable_at, suc_is, tolerable_more}
use Rattle.pool_model.specs.View.{is_tolerable, lost_in}
use Rattle.pool_open.specs.Words.{vdevs_in}
use Rattle.pool_open.proofs.Counting.{vdev_at}
use Rattle.pool_open.proofs.tolerance.are_tolerable.Goals as goal

pub returns-then-count_out-vdev : goal.returns-then-count_out-vdev
returns-then-count_out-vdev c =
    let shapes = c.args.shapes.now in
    let shape = c.index-shapes-index.result in
    let at = vdev_at shapes c.loop-index.index shape (slice_get_read shapes _ c.loop-index.index shape refl c.loop-index-test.true c.index-shapes-index.is) in
    let many : shape.vdev.geometry.parity < lost_in (is_out c.args.out.now) shape.vdev.first shape.vdev.geometry.children =
    search rules in
    sym (intolerable_at (vdevs_in shapes) c.loop-index.index (shown shape.vdev) (is_out c.args.out.now) at many)

pub loop-index-preserved : goal.loop-index-preserved
loop-index-preserved c =
    let shapes = c.args.shapes.now in
    let shape = c.index-shapes-index.result in
    let at = vdev_at shapes c.loop-index.index shape (slice_get_read shapes _ c.loop-index.index shape refl c.loop-index-test.true c.index-shapes-index.is) in
    let few : lost_in (is_out c.args.out.now) shape.vdev.first shape.vdev.geometry.children ≤ shape.vdev.geometry.parity =
    search rules in
    subst (λ (n : ℕ). is_tolerable (take n (vdevs_in shapes)) (is_out c.args.out.now) ≡ true) (suc_is c.loop-index.index)
    (tolerable_more (vdevs_in shapes) c.loop-index.index (shown shape.vdev) (is_out c.args.out.now) at c.loop-index.invariant few)
