use Rattle.std.proofs.Common.{◌≡◌, ◌+◌, ◌^◌, ◌≤◌, arith, sym, ap, ◌∙◌, subst, Vec, Global}
use Rattle.std.specs.Prelude.{vec_capacity}
use Rattle.shared_pool.specs.declared.recorded.Entry.{Entry}
use Rattle.shared_pool.specs.Weights.{writers_steps}
use Rattle.shared_pool.proofs.Records.{record_sealed}
use Rattle.shared_pool.proofs.recorded.Recorded.seal.Goals as goal

pub invariant_of-self : goal.invariant_of-self
invariant_of-self g c =
    let r = c.self.inside in
    let emptied = ap (λ (v : Vec Entry Global). v.items) c.replace.ensures.after ∙ c.in_ok-room.ensures.items in
    let counted = c.count_writers_steps.ensures ∙ ap writers_steps c.as_slice.ensures.value in
    let few : r.sealed + c.count_writers_steps.result ≤ 2 ^ 62 = grind (arith, c.if-sealed-gt-MOST_SEALED.false) in
    let kept : c.count.new.self.steps.total ≡ r.books.steps.total = omega (arith, c.count.ensures.steps) in (
      record_sealed g.C.PoolSteps r.core r.origin.value r.start.value c.of.result.value r.entries.items c.replace.new.dest.items r.sealed c.count_writers_steps.result r.books.steps.total c.count.new.self.steps.total r.begun.value.total r.books.calls.total c.of-2.result.value.total c.count.new.self.calls.total
          c.of.ensures emptied few counted kept (ap (λ b. b.total) c.of-2.ensures) (g.met.C.PoolSteps.came_from_itself r.core) g.met.C.PoolSteps.came_further c.self.invariant.0,
      subst (λ (v : Vec Entry Global). 65536 ≤ vec_capacity v) (sym c.replace.ensures.after) (grind (arith, c.in_ok-room.ensures.capacity)),
    )

pub returns-clause-after : goal.returns-clause-after
returns-clause-after g c =
    let r = c.self.inside in
    let emptied = ap (λ (v : Vec Entry Global). v.items) c.replace.ensures.after ∙ c.in_ok-room.ensures.items in
    let counted = c.count_writers_steps.ensures ∙ ap writers_steps c.as_slice.ensures.value in
    let few : r.sealed + c.count_writers_steps.result ≤ 2 ^ 62 = grind (arith, c.if-sealed-gt-MOST_SEALED.false) in
    let kept : c.count.new.self.steps.total ≡ r.books.steps.total = omega (arith, c.count.ensures.steps) in
    record_sealed g.C.PoolSteps r.core r.origin.value r.start.value c.of.result.value r.entries.items c.replace.new.dest.items r.sealed c.count_writers_steps.result r.books.steps.total c.count.new.self.steps.total r.begun.value.total r.books.calls.total c.of-2.result.value.total c.count.new.self.calls.total
    c.of.ensures emptied few counted kept (ap (λ b. b.total) c.of-2.ensures) (g.met.C.PoolSteps.came_from_itself r.core) g.met.C.PoolSteps.came_further c.self.invariant.0
