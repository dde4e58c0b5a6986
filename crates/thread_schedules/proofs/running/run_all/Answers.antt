use Rattle.std.proofs.Common.{◌≡◌, ◌+◌, List, ℕ, None, Some, Option, option_map, length, refl, sym, ap, ◌∙◌, subst}
use Rattle.std.specs.Io.KnownBytes.{IsAtEnd}
use Rattle.pool_create.specs.CoreState.{CoreState}
use Rattle.pool_create.specs.CoreStateOf.{state_of}
use Rattle.programs.specs.Faults.{counted}
use Rattle.programs.specs.Reads.{commands_of}
use Rattle.thread_schedules.specs.Ends.{CannotFollow, IsThreadsFault, RunsBehind, RunsInThreads}
use Rattle.thread_schedules.specs.Inputs.{IsBack, IsBackFault, IsFront, IsFrontFault}
use Rattle.thread_schedules.specs.Stages.{core_at}
use Rattle.thread_schedules.proofs.Ending.{back_fault, front_fault, no_line, none_there, runs}
use Rattle.thread_schedules.proofs.Reading.{on_fault, on_ok, passed_on}
use Rattle.thread_schedules.proofs.running.run_all.Goals as goal

pub returns-in_err-stage-clause-fault : goal.returns-in_err-stage-clause-fault
returns-in_err-stage-clause-fault g c =
    let old = g.W.Write.contents c.args.output.now in
    let told = g.W.Write.contents c.run_front.new.output in
    passed_on _ _ _ c.from_residual.ensures.1
    (front_fault g.P.SchedulePool.creates g.P.SchedulePool.refuses g.P.SchedulePool.outcomes g.P.SchedulePool.faults g.P.CorePool.core_of (g.I.Read.remaining c.args.input) old told _
    (subst (λ i. IsFrontFault g.P.SchedulePool.creates g.P.SchedulePool.refuses g.P.SchedulePool.outcomes g.P.SchedulePool.faults (g.I.Read.remaining i) old told c.in_err-stage.field-0.0) c.new-lines.ensures.input c.in_err-stage.ensures.fault))

pub returns-in_default-clause-ok : goal.returns-in_default-clause-ok
returns-in_default-clause-ok g c =
    let old = g.W.Write.contents c.args.output.now in
    let told = g.W.Write.contents c.run_front.new.output in
    let f = c.in_ok-stage.ensures.ok in
    let front : IsFront g.P.SchedulePool.creates g.P.SchedulePool.refuses g.P.SchedulePool.outcomes (g.I.Read.remaining c.args.input) old c.in_ok-stage.stage f.0 told = subst (λ i. IsFront g.P.SchedulePool.creates g.P.SchedulePool.refuses g.P.SchedulePool.outcomes (g.I.Read.remaining i) old c.in_ok-stage.stage f.0 told) c.new-lines.ensures.input f.1 in
    let none : None ≡ core_at g.P.CorePool.core_of c.in_ok-stage.stage = sym (none_there state_of c.core_at.result c.in_default.not-Some) ∙ c.core_at.ensures in
    on_ok c.read_nothing.result _ _
    (λ back. runs g.P.SchedulePool.creates g.P.SchedulePool.refuses g.P.SchedulePool.outcomes g.P.SchedulePool.faults g.P.CorePool.core_of (g.I.Read.remaining c.args.input) old told told c.in_ok-stage.stage None f.0 (g.I.Read.remaining c.run_front.new.lines.input) back.0 front f.2 none back.1 back.2 (back.3, refl))
    c.read_nothing.ensures.ok

pub returns-in_default-clause-fault : goal.returns-in_default-clause-fault
returns-in_default-clause-fault g c =
    let old = g.W.Write.contents c.args.output.now in
    let told = g.W.Write.contents c.run_front.new.output in
    let f = c.in_ok-stage.ensures.ok in
    let none : None ≡ core_at g.P.CorePool.core_of c.in_ok-stage.stage = sym (none_there state_of c.core_at.result c.in_default.not-Some) ∙ c.core_at.ensures in
    let moved = ap (λ i. g.I.Read.remaining i) c.new-lines.ensures.input in
    on_fault c.read_nothing.result _ _
    (λ cause stops. subst (λ i. IsThreadsFault g.P.SchedulePool.creates g.P.SchedulePool.refuses g.P.SchedulePool.outcomes g.P.SchedulePool.faults g.P.CorePool.core_of i old told cause) moved
    (back_fault g.P.SchedulePool.creates g.P.SchedulePool.refuses g.P.SchedulePool.outcomes g.P.SchedulePool.faults g.P.CorePool.core_of (g.I.Read.remaining c.new-lines.result.input) old told c.in_ok-stage.stage None f.0 (g.I.Read.remaining c.run_front.new.lines.input) c.run_front.new.lines.count cause f.1 f.2 f.3 none stops))
    c.read_nothing.ensures.fault

pub returns-in_err-behind-clause-fault : goal.returns-in_err-behind-clause-fault
returns-in_err-behind-clause-fault g c =
    let old = g.W.Write.contents c.args.output.now in
    let told = g.W.Write.contents c.run_front.new.output in
    let f = c.in_ok-stage.ensures.ok in
    let core = state_of c.in-Some.core in
    let some : Some core ≡ core_at g.P.CorePool.core_of c.in_ok-stage.stage = sym (ap (option_map state_of) c.in-Some.is) ∙ c.core_at.ensures in
    let moved = ap (λ i. g.I.Read.remaining i) c.new-lines.ensures.input in
    let cause = c.in_err-behind.field-0.0 in
    passed_on _ _ _ c.from_residual-in_err-behind.ensures.1
    (subst (λ i. IsThreadsFault g.P.SchedulePool.creates g.P.SchedulePool.refuses g.P.SchedulePool.outcomes g.P.SchedulePool.faults g.P.CorePool.core_of i old told cause) moved
    (back_fault g.P.SchedulePool.creates g.P.SchedulePool.refuses g.P.SchedulePool.outcomes g.P.SchedulePool.faults g.P.CorePool.core_of (g.I.Read.remaining c.new-lines.result.input) old told c.in_ok-stage.stage (Some core) f.0 (g.I.Read.remaining c.run_front.new.lines.input) c.run_front.new.lines.count cause f.1 f.2 f.3 some (c.in_err-behind.ensures.fault core)))

pub returns-clause-ok : goal.returns-clause-ok
returns-clause-ok g c =
    let old = g.W.Write.contents c.args.output.now in
    let told = g.W.Write.contents c.run_front.new.output in
    let new = g.W.Write.contents c.run_behind.new.output in
    let f = c.in_ok-stage.ensures.ok in
    let front : IsFront g.P.SchedulePool.creates g.P.SchedulePool.refuses g.P.SchedulePool.outcomes (g.I.Read.remaining c.args.input) old c.in_ok-stage.stage f.0 told = subst (λ i. IsFront g.P.SchedulePool.creates g.P.SchedulePool.refuses g.P.SchedulePool.outcomes (g.I.Read.remaining i) old c.in_ok-stage.stage f.0 told) c.new-lines.ensures.input f.1 in
    let core = state_of c.in-Some.core in
    let some : Some core ≡ core_at g.P.CorePool.core_of c.in_ok-stage.stage = sym (ap (option_map state_of) c.in-Some.is) ∙ c.core_at.ensures in
    let back = c.in_ok-behind.ensures.ok in
    on_ok c.run_behind.result _ _
    (λ printed. runs g.P.SchedulePool.creates g.P.SchedulePool.refuses g.P.SchedulePool.outcomes g.P.SchedulePool.faults g.P.CorePool.core_of (g.I.Read.remaining c.args.input) old told new c.in_ok-stage.stage (Some core) f.0 (g.I.Read.remaining c.run_front.new.lines.input) back.0 front f.2 some back.1 back.2 (back.3, printed))
    c.run_behind.ensures.ok

pub returns-clause-fault : goal.returns-clause-fault
returns-clause-fault g c =
    on_fault c.run_behind.result _ _
    (λ cause none. no_line g.P.SchedulePool.creates g.P.SchedulePool.refuses g.P.SchedulePool.outcomes g.P.SchedulePool.faults g.P.CorePool.core_of (g.I.Read.remaining c.args.input) (g.W.Write.contents c.args.output.now) (g.W.Write.contents c.run_behind.new.output) cause none)
    c.run_behind.ensures.fault
