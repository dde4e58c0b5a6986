use Rattle.std.proofs.Common.{sym, ◌∙◌}
use Rattle.pool_model.specs.declared.refusal.Refusal.TheVariants as causes
use Rattle.pool_model.specs.declared.step.Step.TheVariants as steps
use Rattle.pool_commit.specs.StateOf.{state_of as commit_state}
use Rattle.pool_core.specs.StateOf.{state_of}
use Rattle.pool_core.proofs.Fronting.{refused}
use Rattle.pool_core.proofs.GoingOut.{goes_out, is_there, no_disk, out_already}
use Rattle.pool_core.proofs.pool.Core.disk_out.Goals as goal

pub returns-then-not-has_disk-clause-goes : goal.returns-then-not-has_disk-clause-goes
returns-then-not-has_disk-clause-goes g c v trusted r tell plans =
    refused (state_of c.args.self.now) v trusted (steps.DiskOut c.args.disk) causes.OutOfRange r
    (no_disk v c.args.disk c.has_disk.result (c.has_disk.ensures.view v r.backs) c.if-not-has_disk.true)

pub returns-then-is_out-clause-goes : goal.returns-then-is_out-clause-goes
returns-then-is_out-clause-goes g c v trusted r tell plans =
    refused (state_of c.args.self.now) v trusted (steps.DiskOut c.args.disk) causes.NotNow r
    (out_already v c.args.disk (is_there v c.args.disk c.has_disk.result (c.has_disk.ensures.view v r.backs) c.if-not-has_disk.false)
    (sym (c.is_out.ensures v r.backs) ∙ c.if-is_out.true))

pub returns-clause-goes : goal.returns-clause-goes
returns-clause-goes g c v trusted r tell plans =
    goes_out (state_of c.args.self.now) (commit_state c.take_out.new.self) v trusted c.args.disk r c.take_out.ensures.takes (c.take_out.ensures.backs v r.backs)
    (is_there v c.args.disk c.has_disk.result (c.has_disk.ensures.view v r.backs) c.if-not-has_disk.false)
    (sym (c.is_out.ensures v r.backs) ∙ c.if-is_out.false)
