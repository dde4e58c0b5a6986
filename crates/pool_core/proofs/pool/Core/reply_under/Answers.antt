use Rattle.std.proofs.Common.{sym, subst}
use Rattle.pool_model.specs.declared.step.Reply.TheVariants as replies
use Rattle.pool_model.specs.declared.step.Step.TheVariants as steps
use Rattle.pool_intake.specs.declared.intake.Intake.{Intake}
use Rattle.pool_commit.specs.StateOf.{state_of as commit_state}
use Rattle.pool_core.specs.StateOf.{state_of}
use Rattle.pool_core.specs.Steps.{Goes}
use Rattle.pool_core.proofs.ReadSteps.{reads_under, refuses_under}
use Rattle.pool_core.proofs.Telling.{tell_read}
use Rattle.pool_core.proofs.pool.Core.reply_under.Goals as goal

pub returns-in-Ok-clause-goes : goal.returns-in-Ok-clause-goes
returns-in-Ok-clause-goes g c v trusted r tell plans =
    let p = c.in-Ok.ensures.bytes v r in
    subst (λ (intake : Intake). Goes (state_of c.args.self.now) v trusted (steps.ReadUnder c.args.group c.args.name.now c.args.offset c.args.len) (replies.Bytes c.in-Ok.bytes)
    (record { intake = intake; commit = commit_state c.read_under.new.self.commit })) (sym c.in-Ok.ensures.intake)
    (reads_under (state_of c.args.self.now) (commit_state c.read_under.new.self.commit) v trusted c.args.group c.args.name.now c.args.offset c.args.len c.in-Ok.bytes r c.in-Ok.ensures.reads p.0 (λ e. p.1 (tell_read (state_of c.args.self.now) (state_of c.read_under.new.self) c.in-Ok.ensures.reads (tell e))))

pub returns-in-Err-clause-goes : goal.returns-in-Err-clause-goes
returns-in-Err-clause-goes g c v trusted r tell plans =
    subst (λ (intake : Intake). Goes (state_of c.args.self.now) v trusted (steps.ReadUnder c.args.group c.args.name.now c.args.offset c.args.len) (replies.Refused c.in-Err.refusal)
    (record { intake = intake; commit = commit_state c.read_under.new.self.commit })) (sym c.in-Err.ensures.intake)
    (refuses_under (state_of c.args.self.now) (commit_state c.read_under.new.self.commit) v trusted c.args.group c.args.name.now c.args.offset c.args.len c.in-Err.refusal r c.in-Err.ensures.reads
    (λ e. tell_read (state_of c.args.self.now) (state_of c.read_under.new.self) c.in-Err.ensures.reads (tell e)) (c.in-Err.ensures.refused v r))
