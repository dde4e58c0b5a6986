use Rattle.std.proofs.Common.{refl, subst}
use Rattle.pool_model.specs.declared.step.Reply.{Reply}
use Rattle.volume_device.specs.Commits.{Commits}
use Rattle.volume_device.proofs.Flushing.{commit_leads, commit_stopped, is_other, shows_safe}
use Rattle.volume_device.proofs.device.Device.commit.Goals as goal

pub returns-in-Committed-clause-flushed : goal.returns-in-Committed-clause-flushed
returns-in-Committed-clause-flushed g c =
    let p = g.P.PoolSteps in
    let old = c.args.self.now in
    let new = c.commit-reply.new.core in
    commit_leads p g.met.P.PoolSteps.is_sound old c.in-Committed.field-0 new c.requires.goes_on c.requires.free
    (subst (λ (r : Reply). Commits p old.core r new) c.in-Committed.is c.commit-reply.ensures)

pub returns : goal.returns
returns g c =
    let laws = g.met.P.PoolSteps in
    let run = c.commit-reply in
    let has = commit_stopped g.P.PoolSteps laws.is_sound laws.came_from_itself c.args.self.now run.result run.new.core c.stop.new.self c.stop.result c.stop.ensures.stopped c.stop.ensures.caused c.requires.goes_on c.requires.free
    (is_other run.result c.in_default.not-Committed) run.ensures in
    record { follows = has.follows; name = has.name; flushed = tt; refused = has.same; caused = has.caused }

pub returns-then-self-eq0-clause-flushed : goal.returns-then-self-eq0-clause-flushed
returns-then-self-eq0-clause-flushed g c contents shows tell =
    (contents, shows, record { now = refl; safe = shows_safe g.P.PoolSteps g.met.P.PoolSteps.is_sound c.args.self.now contents c.requires.goes_on c.if-self-eq0.true shows })
