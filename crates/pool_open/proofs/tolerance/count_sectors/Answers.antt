use Rattle.std.proofs.Common.{◌≡◌, ◌*◌, ◌-◌, ◌^◌, ◌∙◌, ℕ, min, take, ap, sym, refl, subst}
use Rattle.std.proofs.lemmas.Option.{slice_get_read}
use Rattle.pool_core.proofs.CommitDisks.{suc_is}
use Rattle.pool_open.specs.Words.{sectors_in}
use Rattle.pool_open.proofs.Counting.{min_more, sectors_next}
use Rattle.pool_open.proofs.tolerance.count_sectors.Goals as goal

pub loop-index-preserved : goal.loop-index-preserved
loop-index-preserved c =
    let shapes = c.args.shapes.now in
    let i = c.loop-index.index in
    let shape = c.index-shapes-index.result in
    let here = slice_get_read shapes _ i shape refl c.loop-index-test.true c.index-shapes-index.is in
    let most = 2 ^ 64 - 1 in
    let product : c.saturating_mul.result ≡ min (shape.child_sectors * shape.vdev.geometry.children) most =
    c.saturating_mul.ensures ∙ ap (λ (n : ℕ). min (shape.child_sectors * n) most) c.from-children.ensures in
    subst (λ (n : ℕ). c.saturating_add-count.result ≡ min (sectors_in (take n shapes)) most) (suc_is i)
    (min_more most c.loop-index.count c.saturating_mul.result (sectors_in (take i shapes)) (shape.child_sectors * shape.vdev.geometry.children) c.saturating_add-count.result
    c.loop-index.invariant product c.saturating_add-count.ensures
    ∙ ap (λ (n : ℕ). min n most) (sym (sectors_next shapes i shape here)))
