use Rattle.std.proofs.Common.{◌≡◌, ◌+◌, ◌<◌, ℕ, length, arith, sym, ap, ◌∙◌, subst}
use Rattle.std.specs.Prelude.{Result, IfOk}
use Rattle.std.specs.declared.alloc.AllocError.{AllocError}
use Rattle.pool_model.specs.declared.step.Step.{Step}
use Rattle.pool_model.specs.declared.step.Reply.{Reply}
use Rattle.pool_steps.specs.Goes.{Goes}
use Rattle.shared_pool.specs.declared.copies.Copies.{Copies}
use Rattle.shared_pool.specs.History.{entry}
use Rattle.shared_pool.specs.Weights.{weight_of}
use Rattle.shared_pool.proofs.Records.{record_more}
use Rattle.shared_pool.proofs.recorded.Recorded.take_copied.Goals as goal

pub invariant_of-self : goal.invariant_of-self
invariant_of-self g c =
    let r = c.self.inside in
    let room : length r.entries.items < 65536 = grind (arith, c.self.invariant.0.fits, c.if-len-eq-ROOM.false, c.len.ensures, r.entries.ok.0) in
    let new = c.take_step-reply.new.self in
    let copy : c.in_ok-copy.field-0.step ≡ c.args.step = subst (λ (r : Result Copies AllocError). IfOk r (λ it. it.step ≡ c.args.step)) c.in_ok-copy.was c.requires.copy in
    let goes = subst (λ (p : Step × Reply). Goes g.C.PoolSteps.represents g.C.PoolSteps.answers_tell g.C.PoolSteps.links r.core p.0 p.1 new) (λ i. (sym copy i, sym c.copy_of_reply-copied.ensures.copy i)) c.take_step-reply.ensures.goes in
    let counted = c.count.ensures.steps ∙ ap (λ (n : ℕ). r.books.steps.total + n) (c.weight_of-weight.ensures ∙ ap weight_of (sym copy)) in (
      record_more g.C.PoolSteps r.core new r.origin.value r.start.value r.entries.items c.append.new.entries.items (entry c.in_ok-copy.field-0.step c.copy_of_reply-copied.result) r.sealed r.books.steps.total c.count.new.self.steps.total r.begun.value.total r.books.calls.total c.count.new.self.calls.total
          room c.append.ensures.items counted c.count.ensures.calls c.take_step-reply.ensures.follows goes g.met.C.PoolSteps.came_further g.met.C.PoolSteps.parts_tell c.self.invariant.0,
      grind (arith, c.self.invariant.1, c.append.ensures.room),
    )

pub returns-clause-after : goal.returns-clause-after
returns-clause-after g c =
    let r = c.self.inside in
    let room : length r.entries.items < 65536 = grind (arith, c.self.invariant.0.fits, c.if-len-eq-ROOM.false, c.len.ensures, r.entries.ok.0) in
    let new = c.take_step-reply.new.self in
    let copy : c.in_ok-copy.field-0.step ≡ c.args.step = subst (λ (r : Result Copies AllocError). IfOk r (λ it. it.step ≡ c.args.step)) c.in_ok-copy.was c.requires.copy in
    let goes = subst (λ (p : Step × Reply). Goes g.C.PoolSteps.represents g.C.PoolSteps.answers_tell g.C.PoolSteps.links r.core p.0 p.1 new) (λ i. (sym copy i, sym c.copy_of_reply-copied.ensures.copy i)) c.take_step-reply.ensures.goes in
    let counted = c.count.ensures.steps ∙ ap (λ (n : ℕ). r.books.steps.total + n) (c.weight_of-weight.ensures ∙ ap weight_of (sym copy)) in
    record_more g.C.PoolSteps r.core new r.origin.value r.start.value r.entries.items c.append.new.entries.items (entry c.in_ok-copy.field-0.step c.copy_of_reply-copied.result) r.sealed r.books.steps.total c.count.new.self.steps.total r.begun.value.total r.books.calls.total c.count.new.self.calls.total
    room c.append.ensures.items counted c.count.ensures.calls c.take_step-reply.ensures.follows goes g.met.C.PoolSteps.came_further g.met.C.PoolSteps.parts_tell c.self.invariant.0
