use Rattle.std.proofs.Common.{rules, ◌≡◌, Some, refl, ap, ◌∙◌, arith}
use Rattle.std.specs.List.{slice_get}
use Rattle.block_store.specs.Spaces.{VdevSpace}
use Rattle.block_store.specs.Places.{filled, planned}
use Rattle.block_store.proofs.Choosing.{at_item}
use Rattle.block_store.proofs.Planning.{one_more, all_below, same_marks}
use Rattle.block_store.proofs.Taking.{map-set_same}
use Rattle.block_store.proofs.plan.drop_plans.Goals as goal

pub loop-vdev-init : goal.loop-vdev-init
loop-vdev-init c = (refl, refl, same_marks c.args.spaces.now.items filled, λ v space new below. absurd (omega (arith, below)))

pub loop-vdev-preserved : goal.loop-vdev-preserved
loop-vdev-preserved c =
    let at : slice_get c.loop-vdev.spaces.items c.loop-vdev.vdev ≡ Some c.index_mut.result.now =
    at_item c.loop-vdev.spaces.items c.loop-vdev.vdev c.index_mut.result.now (search rules) c.index_mut.ensures.value in
    let before = c.loop-vdev.invariant in
    let more = one_more c.args.spaces.now.items c.loop-vdev.spaces.items filled planned c.loop-vdev.vdev c.index_mut.result.now c.drop_planned.new.self at
    before.2 before.3 (ap filled c.drop_planned.ensures) (ap planned c.drop_planned.ensures) in (
      search rules,
      map-set_same (λ s. s.shape) c.loop-vdev.spaces.items c.loop-vdev.vdev c.index_mut.result.now c.drop_planned.new.self at (ap (λ (s : VdevSpace). s.shape) c.drop_planned.ensures) ∙ before.1,
      more.0,
      more.1,
    )

pub returns-clause-planned : goal.returns-clause-planned
returns-clause-planned c = all_below c.args.spaces.now.items c.loop-vdev.spaces.items filled planned c.loop-vdev.vdev (search rules) c.loop-vdev.invariant.3
