use Rattle.std.proofs.Common.{sym, ap, subst, ◌∙◌}
use Rattle.block_store.specs.Places.{shapes_of, filled, planned, HaveMarks}
use Rattle.block_store.specs.Store.{ArePlaced}
use Rattle.block_store.proofs.Entering.{keeps_through}
use Rattle.block_store.proofs.store.BlockStore.drop_plan.Goals as goal

pub returns-clause-disks : goal.returns-clause-disks
returns-clause-disks g c = c.clear_plan.ensures.disks ∙ c.enter.ensures.disks

pub returns-clause-out : goal.returns-clause-out
returns-clause-out g c = c.clear_plan.ensures.out ∙ c.enter.ensures.out

pub returns-clause-spans : goal.returns-clause-spans
returns-clause-spans g c = c.clear_plan.ensures.spans ∙ c.enter.ensures.spans

pub returns-clause-shapes : goal.returns-clause-shapes
returns-clause-shapes g c = c.clear_plan.ensures.shapes ∙ ap shapes_of c.enter.ensures.spaces

pub returns-clause-filled : goal.returns-clause-filled
returns-clause-filled g c = subst (λ xs. HaveMarks xs filled c.clear_plan.new.self.spaces filled) c.enter.ensures.spaces c.clear_plan.ensures.filled

pub returns-clause-free : goal.returns-clause-free
returns-clause-free g c = subst (λ xs. HaveMarks xs filled c.clear_plan.new.self.spaces planned) c.enter.ensures.spaces c.clear_plan.ensures.free

pub returns-clause-plans : goal.returns-clause-plans
returns-clause-plans g c stored stores =
    c.clear_plan.ensures.plans stored (record {
      held = c.enter.ensures.keeps stored stores.held;
      placed = subst (λ xs. ArePlaced xs filled stored) (sym c.enter.ensures.spaces) stores.placed;
    })

pub returns-clause-keeps : goal.returns-clause-keeps
returns-clause-keeps g c = keeps_through _ _ _ c.enter.ensures.keeps c.clear_plan.ensures.keeps
