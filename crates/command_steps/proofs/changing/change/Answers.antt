use Rattle.std.proofs.Common.{[], ◌∷◌}
use Rattle.pool_model.specs.declared.step.Step.TheVariants.{Hold, Release, Close}
use Rattle.command_steps.proofs.Stepping.{begins, stops}
use Rattle.command_steps.proofs.Whole.{changes}
use Rattle.command_steps.proofs.changing.change.Goals as goal

pub returns-then-is_refused-clause-changes : goal.returns-then-is_refused-clause-changes
returns-then-is_refused-clause-changes g c =
    let p = g.P.PoolSteps in
    let t = c.args.timestamp in
    let held = c.take_step-held in
    changes p t g.met.P.PoolSteps.is_sound c.args.pool.now c.args.item held.result held.new.self
    (stops p t c.args.pool.now (Hold 1) (c.args.item ∷ Release 1 ∷ Close ∷ []) held.result held.new.self c.is_refused.result c.is_refused.ensures c.if-is_refused.true held.ensures.follows held.ensures.goes)

pub returns-then-is_refused-2-clause-changes : goal.returns-then-is_refused-2-clause-changes
returns-then-is_refused-2-clause-changes g c =
    let p = g.P.PoolSteps in
    let t = c.args.timestamp in
    let laws = g.met.P.PoolSteps in
    let held = c.take_step-held in
    let taken = c.take_step-taken in
    changes p t laws.is_sound c.args.pool.now c.args.item taken.result taken.new.self
    (begins p t laws.came_further laws.parts_tell c.args.pool.now (Hold 1) c.args.item (Release 1 ∷ Close ∷ []) held.result held.new.self taken.result taken.new.self c.is_refused.result c.is_refused.ensures c.if-is_refused.false held.ensures.follows held.ensures.goes
    (stops p t held.new.self c.args.item (Release 1 ∷ Close ∷ []) taken.result taken.new.self c.is_refused-2.result c.is_refused-2.ensures c.if-is_refused-2.true taken.ensures.follows taken.ensures.goes))

pub returns-then-is_refused-3-clause-changes : goal.returns-then-is_refused-3-clause-changes
returns-then-is_refused-3-clause-changes g c =
    let p = g.P.PoolSteps in
    let t = c.args.timestamp in
    let laws = g.met.P.PoolSteps in
    let held = c.take_step-held in
    let taken = c.take_step-taken in
    let released = c.take_step-released in
    let last = released.result in
    let new = released.new.self in
    changes p t laws.is_sound c.args.pool.now c.args.item last new
    (begins p t laws.came_further laws.parts_tell c.args.pool.now (Hold 1) c.args.item (Release 1 ∷ Close ∷ []) held.result held.new.self last new c.is_refused.result c.is_refused.ensures c.if-is_refused.false held.ensures.follows held.ensures.goes
    (begins p t laws.came_further laws.parts_tell held.new.self c.args.item (Release 1) (Close ∷ []) taken.result taken.new.self last new c.is_refused-2.result c.is_refused-2.ensures c.if-is_refused-2.false taken.ensures.follows taken.ensures.goes
    (stops p t taken.new.self (Release 1) (Close ∷ []) last new c.is_refused-3.result c.is_refused-3.ensures c.if-is_refused-3.true released.ensures.follows released.ensures.goes)))

pub returns-clause-changes : goal.returns-clause-changes
returns-clause-changes g c =
    let p = g.P.PoolSteps in
    let t = c.args.timestamp in
    let laws = g.met.P.PoolSteps in
    let held = c.take_step-held in
    let taken = c.take_step-taken in
    let released = c.take_step-released in
    let last = c.run_on.result in
    let new = c.run_on.new.pool in
    changes p t laws.is_sound c.args.pool.now c.args.item last new
    (begins p t laws.came_further laws.parts_tell c.args.pool.now (Hold 1) c.args.item (Release 1 ∷ Close ∷ []) held.result held.new.self last new c.is_refused.result c.is_refused.ensures c.if-is_refused.false held.ensures.follows held.ensures.goes
    (begins p t laws.came_further laws.parts_tell held.new.self c.args.item (Release 1) (Close ∷ []) taken.result taken.new.self last new c.is_refused-2.result c.is_refused-2.ensures c.if-is_refused-2.false taken.ensures.follows taken.ensures.goes
    (begins p t laws.came_further laws.parts_tell taken.new.self (Release 1) Close [] released.result released.new.self last new c.is_refused-3.result c.is_refused-3.ensures c.if-is_refused-3.false released.ensures.follows released.ensures.goes c.run_on.ensures)))
