use Rattle.shared_pool.proofs.Records.{history, record_tells}
use Rattle.shared_pool.proofs.recorded.Recorded.audit.Goals as goal

pub returns-clause-tells : goal.returns-clause-tells
returns-clause-tells g c =
    let r = c.self.inside in
    record_tells g.C.PoolSteps (history r.core r.origin.value r.start.value r.entries.items r.sealed r.books.steps.total r.begun.value.total r.books.calls.total)
    g.met.C.PoolSteps.is_sound c.self.invariant.0
