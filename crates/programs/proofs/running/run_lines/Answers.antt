use Rattle.std.proofs.Common.{◌≡◌, [], sym, subst}
use Rattle.programs.specs.declared.refusal.Refusal.TheVariants.{Line as LineFault}
use Rattle.programs.specs.Faults.{ReadsCommand, IsPoolFault}
use Rattle.programs.specs.Reads.{IsSchedule}
use Rattle.programs.proofs.Playing.{if_none}
use Rattle.programs.proofs.Faulting.{ran_none, ran_all, ran_fault, ran_misplaced, ran_more, passed_on}
use Rattle.programs.proofs.running.run_lines.Goals as goal

pub loop-init : goal.loop-init
loop-init g c = ran_none g.P.SchedulePool.outcomes g.P.SchedulePool.faults c.args.pool (g.R.Read.remaining c.args.lines.now.input) c.args.lines.now.count (g.W.Write.contents c.args.output.now)

pub returns-in_default-clause-ok : goal.returns-in_default-clause-ok
returns-in_default-clause-ok g c =
    let rest = g.R.Read.remaining c.loop.lines.input in
    let behind = g.R.Read.remaining c.next_command.new.self.input in
    let ended : IsSchedule rest [] = if_none c.in_ok-command.field-0 (IsSchedule rest [])
    (λ command. ReadsCommand rest c.loop.lines.count command behind c.next_command.new.self.count) c.in_ok-command.ensures.found c.in_default.not-Some in
    ran_all g.P.SchedulePool.outcomes g.P.SchedulePool.faults c.args.pool (g.R.Read.remaining c.args.lines.now.input) c.args.lines.now.count (g.W.Write.contents c.args.output.now)
    c.loop.pool rest c.loop.lines.count (g.W.Write.contents c.loop.output) c.loop.invariant ended

pub returns-in_err-command-clause-fault : goal.returns-in_err-command-clause-fault
returns-in_err-command-clause-fault g c =
    passed_on _ _ _ c.from_residual.ensures.1
    (ran_fault g.P.SchedulePool.outcomes g.P.SchedulePool.faults c.args.pool (g.R.Read.remaining c.args.lines.now.input) c.args.lines.now.count (g.W.Write.contents c.args.output.now)
    c.loop.pool (g.R.Read.remaining c.loop.lines.input) c.loop.lines.count (g.W.Write.contents c.loop.output) _ c.loop.invariant c.in_err-command.ensures.fault)

pub returns-in_default-2-clause-fault : goal.returns-in_default-2-clause-fault
returns-in_default-2-clause-fault g c =
    let input = g.R.Read.remaining c.args.lines.now.input in
    let rest = g.R.Read.remaining c.loop.lines.input in
    let behind = g.R.Read.remaining c.next_command.new.self.input in
    let old = g.W.Write.contents c.args.output.now in
    let now = g.W.Write.contents c.loop.output in
    let command = c.in-Some.command in
    let found : ReadsCommand rest c.loop.lines.count command behind c.next_command.new.self.count = rw c.in-Some.is at c.in_ok-command.ensures.found in
    let none = if_none c.in_ok-reply.field-0 (g.P.SchedulePool.faults c.loop.pool command)
    (λ outcome. g.P.SchedulePool.outcomes c.loop.pool command outcome c.run_command.new.self) c.in_ok-reply.ensures c.in_default-2.not-Some in
    let stops : IsPoolFault g.P.SchedulePool.outcomes g.P.SchedulePool.faults c.args.pool input c.args.lines.now.count old now (LineFault c.next_command.new.self.count) =
    ran_misplaced g.P.SchedulePool.outcomes g.P.SchedulePool.faults c.args.pool input c.args.lines.now.count old c.loop.pool rest behind c.loop.lines.count c.next_command.new.self.count now command c.loop.invariant found none in
    subst (λ cause. IsPoolFault g.P.SchedulePool.outcomes g.P.SchedulePool.faults c.args.pool input c.args.lines.now.count old now cause) (sym c.fault.ensures) stops

pub loop-preserved : goal.loop-preserved
loop-preserved g c =
    let command = c.in-Some.command in
    let told = c.in_ok-print_reply.ensures.ok in
    let rest = g.R.Read.remaining c.loop.lines.input in
    let behind = g.R.Read.remaining c.next_command.new.self.input in
    let found : ReadsCommand rest c.loop.lines.count command behind c.next_command.new.self.count = rw c.in-Some.is at c.in_ok-command.ensures.found in
    let came : g.P.SchedulePool.outcomes c.loop.pool command c.in-Some-2.reply c.run_command.new.self = rw c.in-Some-2.is at c.in_ok-reply.ensures in
    ran_more g.P.SchedulePool.outcomes g.P.SchedulePool.faults c.args.pool (g.R.Read.remaining c.args.lines.now.input) c.args.lines.now.count (g.W.Write.contents c.args.output.now)
    c.loop.pool c.run_command.new.self rest behind c.loop.lines.count c.next_command.new.self.count (g.W.Write.contents c.loop.output)
    (g.W.Write.contents c.print_reply.new.output) command c.in-Some-2.reply told.0 c.loop.invariant found came told.1 told.2
