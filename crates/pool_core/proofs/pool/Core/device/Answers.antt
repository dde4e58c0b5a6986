use Rattle.std.proofs.Common.{inr, sym, subst}
use Rattle.pool_model.specs.declared.step.Step.TheVariants as steps
use Rattle.pool_commit.specs.declared.device.Progress.{Progress}
use Rattle.pool_commit.specs.Progress.{Progresses, given_calls}
use Rattle.pool_commit.specs.State.{State}
use Rattle.pool_commit.specs.StateOf.{state_of as commit_state}
use Rattle.pool_core.specs.StateOf.{state_of}
use Rattle.pool_core.specs.Steps.{Goes}
use Rattle.pool_core.proofs.Phases.{idles, moves, commits, drops, group_low, ends_follows, ends_syncing}
use Rattle.pool_commit.specs.Writing.{WritesPlan}
use Rattle.pool_core.proofs.pool.Core.device.Goals as goal

pub returns-in-None-clause-goes : goal.returns-in-None-clause-goes
returns-in-None-clause-goes g c v trusted r free tell plans =
    let p = c.in-None.ensures.none v r.backs in
    idles (state_of c.args.self.now) (commit_state c.device.new.self) v trusted r free p.0 p.1 c.in-None.ensures.idle

pub returns-in-Some-Moved-clause-goes : goal.returns-in-Some-Moved-clause-goes
returns-in-Some-Moved-clause-goes g c v trusted r free tell plans =
    let p = c.in-Some-Moved.ensures.some v r.backs (group_low c.args.self.now.intake v r.follows) in
    moves (state_of c.args.self.now) (commit_state c.device.new.self) v trusted c.in-Some-Moved.phase r free
    (subst (λ (x : Progress). Progresses (commit_state c.args.self.now.commit) x (commit_state c.device.new.self) v) c.in-Some-Moved.field-0-is p.1) c.in-Some-Moved.ensures.grew

pub returns-in-Some-Done-clause-goes : goal.returns-in-Some-Done-clause-goes
returns-in-Some-Done-clause-goes g c v trusted r free tell plans =
    let p = c.in-Some-Done.ensures.some v r.backs (group_low c.args.self.now.intake v r.follows) in
    let done = subst (λ (x : Progress). Progresses (commit_state c.args.self.now.commit) x (commit_state c.device.new.self) v) c.in-Some-Done.field-0-is p.1 in
    let w = done.0 in
    let both = c.commit_group.ensures.committed w (ends_follows c.args.self.now.intake v w (given_calls done.1.made done.1.fault) r.follows done.1.ends)
    (ends_syncing v w (given_calls done.1.made done.1.fault) done.1.ends) in
    subst (λ (commit : State). Goes (state_of c.args.self.now) v trusted steps.Device c.commit_group.result (record { intake = c.commit_group.new.self.intake; commit = commit })) (sym c.commit_group.ensures.commit)
    (commits (state_of c.args.self.now) c.commit_group.new.self.intake (commit_state c.device.new.self) v w trusted c.commit_group.result r
    free done.1 done.2 c.in-Some-Done.ensures.grew both.0 both.1)

pub returns-in-Some-Dropped-clause-goes : goal.returns-in-Some-Dropped-clause-goes
returns-in-Some-Dropped-clause-goes g c v trusted r free tell plans =
    let p = c.in-Some-Dropped.ensures.some v r.backs (group_low c.args.self.now.intake v r.follows) in
    drops (state_of c.args.self.now) (commit_state c.device.new.self) v trusted c.in-Some-Dropped.disk c.replan.result r free
    (subst (λ (x : Progress). Progresses (commit_state c.args.self.now.commit) x (commit_state c.device.new.self) v) c.in-Some-Dropped.field-0-is p.1) c.in-Some-Dropped.ensures.grew c.replan.ensures

pub returns-in-Some-Done-clause-moves : goal.returns-in-Some-Done-clause-moves
returns-in-Some-Done-clause-moves g c =
    inr (subst (λ (commit : State). WritesPlan (commit_state c.args.self.now.commit) commit) (sym c.commit_group.ensures.commit) c.in-Some-Done.ensures.writes)
