use Rattle.std.proofs.Common.{◌≡◌, ℕ, List, Some, sym, subst, ap, ◌∙◌}
use Rattle.pool_model.specs.Pools.{volume_at}
use Rattle.pool_model.specs.declared.refusal.Refusal.TheVariants as causes
use Rattle.pool_model.specs.declared.step.Step.{Step}
use Rattle.pool_model.specs.declared.step.Step.TheVariants as steps
use Rattle.pool_model.specs.View.{is_suspended, now_of}
use Rattle.volume_rules.specs.Covering.{IsCovered}
use Rattle.volume_rules.specs.Shapes.{shape_of}
use Rattle.pool_core.specs.StateOf.{state_of}
use Rattle.pool_core.specs.Steps.{Goes, is_barred}
use Rattle.pool_core.proofs.Fronting.{front, refused, barred, not_barred, is_barred_then}
use Rattle.pool_commit.specs.StateOf.{state_of as commit_state}
use Rattle.pool_core.specs.Moves.{Moves}
use Rattle.pool_core.proofs.Moving.{moves_nothing}
use Rattle.pool_core.proofs.pool.Core.step.Goals as goal

pub returns-then-is_refused-clause-goes : goal.returns-then-is_refused-clause-goes
returns-then-is_refused-clause-goes g c v trusted r tell plans =
    let both = is_barred_then (is_barred c.args.step) (is_suspended v) (sym (c.is_refused.ensures v r.backs) ∙ c.if-is_refused.true) in
    refused (state_of c.args.self.now) v trusted c.args.step causes.Suspended r (barred v c.args.step both.0 both.1)

pub returns-in-Hold-clause-goes : goal.returns-in-Hold-clause-goes
returns-in-Hold-clause-goes g c v trusted r tell plans =
    subst (λ (s : Step). Goes (state_of c.args.self.now) v trusted s c.hold.result (record (state_of c.args.self.now) { intake = c.hold.new.self })) (sym c.in-Hold.is)
    (front (state_of c.args.self.now) c.hold.new.self v trusted (steps.Hold c.in-Hold.writer) c.hold.result r tt (c.hold.ensures v r.follows (not_barred (is_barred c.args.step) (is_suspended v) (ap is_barred c.in-Hold.is) (sym (c.is_refused.ensures v r.backs) ∙ c.if-is_refused.false))))

pub returns-in-Write-clause-goes : goal.returns-in-Write-clause-goes
returns-in-Write-clause-goes g c v trusted r tell plans =
    subst (λ (s : Step). Goes (state_of c.args.self.now) v trusted s c.write.result (record (state_of c.args.self.now) { intake = c.write.new.self })) (sym c.in-Write.is)
    (front (state_of c.args.self.now) c.write.new.self v trusted (steps.Write c.in-Write.write) c.write.result r tt (c.write.ensures v r.follows (not_barred (is_barred c.args.step) (is_suspended v) (ap is_barred c.in-Write.is) (sym (c.is_refused.ensures v r.backs) ∙ c.if-is_refused.false))))

pub returns-in-Act-clause-goes : goal.returns-in-Act-clause-goes
returns-in-Act-clause-goes g c v trusted r tell plans =
    subst (λ (s : Step). Goes (state_of c.args.self.now) v trusted s c.act.result (record (state_of c.args.self.now) { intake = c.act.new.self })) (sym c.in-Act.is)
    (front (state_of c.args.self.now) c.act.new.self v trusted (steps.Act c.in-Act.action) c.act.result r tt (c.act.ensures v r.follows (not_barred (is_barred c.args.step) (is_suspended v) (ap is_barred c.in-Act.is) (sym (c.is_refused.ensures v r.backs) ∙ c.if-is_refused.false))))

pub returns-in-Release-clause-goes : goal.returns-in-Release-clause-goes
returns-in-Release-clause-goes g c v trusted r tell plans =
    subst (λ (s : Step). Goes (state_of c.args.self.now) v trusted s c.release.result (record (state_of c.args.self.now) { intake = c.release.new.self })) (sym c.in-Release.is)
    (front (state_of c.args.self.now) c.release.new.self v trusted (steps.Release c.in-Release.writer) c.release.result r tt (c.release.ensures v r.follows))

pub returns-in-Close-clause-goes : goal.returns-in-Close-clause-goes
returns-in-Close-clause-goes g c v trusted r tell plans =
    subst (λ (s : Step). Goes (state_of c.args.self.now) v trusted s c.close.result (record (state_of c.args.self.now) { intake = c.close.new.self })) (sym c.in-Close.is)
    (front (state_of c.args.self.now) c.close.new.self v trusted steps.Close c.close.result r tt (c.close.ensures v r.follows (not_barred (is_barred c.args.step) (is_suspended v) (ap is_barred c.in-Close.is) (sym (c.is_refused.ensures v r.backs) ∙ c.if-is_refused.false))))

pub returns-in-Quiesce-clause-goes : goal.returns-in-Quiesce-clause-goes
returns-in-Quiesce-clause-goes g c v trusted r tell plans =
    subst (λ (s : Step). Goes (state_of c.args.self.now) v trusted s c.quiesce.result (record (state_of c.args.self.now) { intake = c.quiesce.new.self })) (sym c.in-Quiesce.is)
    (front (state_of c.args.self.now) c.quiesce.new.self v trusted steps.Quiesce c.quiesce.result r tt (c.quiesce.ensures v r.follows (not_barred (is_barred c.args.step) (is_suspended v) (ap is_barred c.in-Quiesce.is) (sym (c.is_refused.ensures v r.backs) ∙ c.if-is_refused.false))))

pub returns-in-Plan-clause-goes : goal.returns-in-Plan-clause-goes
returns-in-Plan-clause-goes g c v trusted r tell plans =
    subst (λ (s : Step). Goes (state_of c.args.self.now) v trusted s c.plan.result (state_of c.plan.new.self)) (sym c.in-Plan.is)
    (c.plan.ensures.goes c.in-Plan.timestamp v trusted r (not_barred (is_barred c.args.step) (is_suspended v) (ap is_barred c.in-Plan.is) (sym (c.is_refused.ensures v r.backs) ∙ c.if-is_refused.false)) tell plans)

pub returns-in-Device-clause-goes : goal.returns-in-Device-clause-goes
returns-in-Device-clause-goes g c v trusted r tell plans =
    subst (λ (s : Step). Goes (state_of c.args.self.now) v trusted s c.device.result (state_of c.device.new.self)) (sym c.in-Device.is)
    (c.device.ensures.goes v trusted r (not_barred (is_barred c.args.step) (is_suspended v) (ap is_barred c.in-Device.is) (sym (c.is_refused.ensures v r.backs) ∙ c.if-is_refused.false)) tell plans)

pub returns-in-Read-clause-goes : goal.returns-in-Read-clause-goes
returns-in-Read-clause-goes g c v trusted r tell plans =
    subst (λ (s : Step). Goes (state_of c.args.self.now) v trusted s c.read.result (state_of c.read.new.self)) (sym c.in-Read.is) (c.read.ensures.goes v trusted r tell plans)

pub returns-in-ReadUnder-clause-goes : goal.returns-in-ReadUnder-clause-goes
returns-in-ReadUnder-clause-goes g c v trusted r tell plans =
    subst (λ (s : Step). Goes (state_of c.args.self.now) v trusted s c.reply_under.result (state_of c.reply_under.new.self)) (sym c.in-ReadUnder.is) (c.reply_under.ensures.goes v trusted r tell plans)

pub returns-in-Read-clause-covered : goal.returns-in-Read-clause-covered
returns-in-Read-clause-covered g c v volume name offset len r is found covered =
    let both : steps.Read c.in-Read.name c.in-Read.offset c.in-Read.len ≡ steps.Read name offset len = sym c.in-Read.is ∙ is in
    let called : name ≡ c.in-Read.name = cc in
    let from : offset ≡ c.in-Read.offset = cc in
    let count : len ≡ c.in-Read.len = cc in
    c.read.ensures.covered v volume r (subst (λ n. volume_at n (now_of v) ≡ Some volume) called found)
    (subst (λ n. IsCovered v c.in-Read.name (shape_of volume) c.in-Read.offset n) count
    (subst (λ o. IsCovered v c.in-Read.name (shape_of volume) o len) from
    (subst (λ (n : List ℕ). IsCovered v n (shape_of volume) offset len) called covered)))

pub returns-then-is_refused-clause-moves : goal.returns-then-is_refused-clause-moves
returns-then-is_refused-clause-moves g c = moves_nothing c.args.step (commit_state c.args.self.now.commit)

pub returns-in-Hold-clause-moves : goal.returns-in-Hold-clause-moves
returns-in-Hold-clause-moves g c = moves_nothing c.args.step (commit_state c.args.self.now.commit)

pub returns-in-Write-clause-moves : goal.returns-in-Write-clause-moves
returns-in-Write-clause-moves g c = moves_nothing c.args.step (commit_state c.args.self.now.commit)

pub returns-in-Act-clause-moves : goal.returns-in-Act-clause-moves
returns-in-Act-clause-moves g c = moves_nothing c.args.step (commit_state c.args.self.now.commit)

pub returns-in-Release-clause-moves : goal.returns-in-Release-clause-moves
returns-in-Release-clause-moves g c = moves_nothing c.args.step (commit_state c.args.self.now.commit)

pub returns-in-Close-clause-moves : goal.returns-in-Close-clause-moves
returns-in-Close-clause-moves g c = moves_nothing c.args.step (commit_state c.args.self.now.commit)

pub returns-in-Quiesce-clause-moves : goal.returns-in-Quiesce-clause-moves
returns-in-Quiesce-clause-moves g c = moves_nothing c.args.step (commit_state c.args.self.now.commit)

pub returns-in-Plan-clause-moves : goal.returns-in-Plan-clause-moves
returns-in-Plan-clause-moves g c =
    subst (λ (s : Step). Moves s (commit_state c.args.self.now.commit) (commit_state c.plan.new.self.commit)) (sym c.in-Plan.is) c.plan.ensures.moves

pub returns-in-Device-clause-moves : goal.returns-in-Device-clause-moves
returns-in-Device-clause-moves g c =
    subst (λ (s : Step). Moves s (commit_state c.args.self.now.commit) (commit_state c.device.new.self.commit)) (sym c.in-Device.is) c.device.ensures.moves

pub returns-in-Read-clause-moves : goal.returns-in-Read-clause-moves
returns-in-Read-clause-moves g c =
    subst (λ (s : Step). Moves s (commit_state c.args.self.now.commit) (commit_state c.read.new.self.commit)) (sym c.in-Read.is) c.read.ensures.moves

pub returns-in-ReadUnder-clause-moves : goal.returns-in-ReadUnder-clause-moves
returns-in-ReadUnder-clause-moves g c =
    subst (λ (s : Step). Moves s (commit_state c.args.self.now.commit) (commit_state c.reply_under.new.self.commit)) (sym c.in-ReadUnder.is) c.reply_under.ensures.moves

pub returns-in-DiskOut-clause-goes : goal.returns-in-DiskOut-clause-goes
returns-in-DiskOut-clause-goes g c v trusted r tell plans =
    subst (λ (s : Step). Goes (state_of c.args.self.now) v trusted s c.disk_out.result (state_of c.disk_out.new.self)) (sym c.in-DiskOut.is) (c.disk_out.ensures.goes v trusted r tell plans)

pub returns-in-DiskOut-clause-moves : goal.returns-in-DiskOut-clause-moves
returns-in-DiskOut-clause-moves g c =
    subst (λ (s : Step). Moves s (commit_state c.args.self.now.commit) (commit_state c.disk_out.new.self.commit)) (sym c.in-DiskOut.is) c.disk_out.ensures.moves
