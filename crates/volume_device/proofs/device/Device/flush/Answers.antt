use Rattle.std.proofs.Common.{false}
use Rattle.std.proofs.lemmas.Result.{IfErr-weaker, on_ok_weaker}
use Rattle.pool_model.specs.declared.refusal.Refusal.{Refusal}
use Rattle.volume_device.specs.Causes.{flushing}
use Rattle.volume_device.specs.Contents.{IsFlushed, IsSame}
use Rattle.volume_device.proofs.Flushing.{caused_then, refused_kept, same_then}
use Rattle.volume_device.proofs.device.Device.flush.Goals as goal

pub returns-clause-flushed : goal.returns-clause-flushed
returns-clause-flushed g c =
    let p = g.P.PoolSteps in
    let first = c.in_ok-release.ensures in
    on_ok_weaker c.commit.result (same_then p g.met.P.PoolSteps.parts_tell c.args.self.now c.release.new.self c.commit.new.self IsFlushed first.follows c.commit.ensures.follows first.same) c.commit.ensures.flushed

pub returns-clause-refused : goal.returns-clause-refused
returns-clause-refused g c =
    let p = g.P.PoolSteps in
    let first = c.in_ok-release.ensures in
    IfErr-weaker c.commit.result _ _ (λ (cause : Refusal). same_then p g.met.P.PoolSteps.parts_tell c.args.self.now c.release.new.self c.commit.new.self IsSame first.follows c.commit.ensures.follows first.same) c.commit.ensures.refused

pub returns-clause-caused : goal.returns-clause-caused
returns-clause-caused g c =
    let p = g.P.PoolSteps in
    let first = c.in_ok-release.ensures in
    IfErr-weaker c.commit.result _ _
    (λ (cause : Refusal). caused_then p g.met.P.PoolSteps.came_further flushing c.args.self.now c.release.new.self c.commit.new.self cause first.follows (refused_kept p c.args.self.now c.release.new.self c.release.new.self.core false first.released)) c.commit.ensures.caused
