use Rattle.std.proofs.Common.{◌<◌, length, arith, sym, subst}
use Rattle.pool_model.specs.declared.step.Step.TheVariants as steps
use Rattle.pool_model.specs.declared.step.Reply.{Reply}
use Rattle.pool_steps.specs.Goes.{Goes}
use Rattle.shared_pool.specs.History.{entry}
use Rattle.shared_pool.proofs.Records.{record_more}
use Rattle.shared_pool.proofs.recorded.Recorded.plan_with.Goals as goal

pub invariant_of-self : goal.invariant_of-self
invariant_of-self g c =
    let r = c.self.inside in
    let room : length r.entries.items < 65536 = grind (arith, c.self.invariant.0.fits, c.if-len-eq-ROOM.false, c.len.ensures, r.entries.ok.0) in
    let new = c.plan_with-reply.new.self in
    let step = steps.Plan c.args.timestamp in
    let goes = subst (λ (a : Reply). Goes g.C.PoolSteps.represents g.C.PoolSteps.answers_tell g.C.PoolSteps.links r.core step a new) (sym c.copy_of_reply-copied.ensures.copy) c.plan_with-reply.ensures.goes in (
      record_more g.C.PoolSteps r.core new r.origin.value r.start.value r.entries.items c.append.new.entries.items (entry step c.copy_of_reply-copied.result) r.sealed r.books.steps.total c.count.new.self.steps.total r.begun.value.total r.books.calls.total c.count.new.self.calls.total
          room c.append.ensures.items c.count.ensures.steps c.count.ensures.calls c.plan_with-reply.ensures.follows goes g.met.C.PoolSteps.came_further g.met.C.PoolSteps.parts_tell c.self.invariant.0,
      grind (arith, c.self.invariant.1, c.append.ensures.room),
    )

pub returns-clause-after : goal.returns-clause-after
returns-clause-after g c =
    let r = c.self.inside in
    let room : length r.entries.items < 65536 = grind (arith, c.self.invariant.0.fits, c.if-len-eq-ROOM.false, c.len.ensures, r.entries.ok.0) in
    let new = c.plan_with-reply.new.self in
    let step = steps.Plan c.args.timestamp in
    let goes = subst (λ (a : Reply). Goes g.C.PoolSteps.represents g.C.PoolSteps.answers_tell g.C.PoolSteps.links r.core step a new) (sym c.copy_of_reply-copied.ensures.copy) c.plan_with-reply.ensures.goes in
    record_more g.C.PoolSteps r.core new r.origin.value r.start.value r.entries.items c.append.new.entries.items (entry step c.copy_of_reply-copied.result) r.sealed r.books.steps.total c.count.new.self.steps.total r.begun.value.total r.books.calls.total c.count.new.self.calls.total
    room c.append.ensures.items c.count.ensures.steps c.count.ensures.calls c.plan_with-reply.ensures.follows goes g.met.C.PoolSteps.came_further g.met.C.PoolSteps.parts_tell c.self.invariant.0
