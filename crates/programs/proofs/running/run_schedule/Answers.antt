use Rattle.std.proofs.Common.{[], ◌∷◌, ◌++◌, sym, subst}
use Rattle.std.specs.Io.KnownBytes.{Appends}
use Rattle.schedule_lines.specs.declared.command.Command.TheVariants.{Pool}
use Rattle.schedule_lines.specs.Replies.{refusal_text}
use Rattle.programs.specs.declared.refusal.Refusal.TheVariants.{Line as LineFault}
use Rattle.programs.specs.Faults.{ReadsCommand, IsFaultOf}
use Rattle.programs.specs.Reads.{Reads, IsSchedule}
use Rattle.programs.proofs.Faulting.{reads_of, passed_on, on_fault, not_first, first_misplaced, behind_pool, refused_fault, refused_misplaced}
use Rattle.programs.proofs.Playing.{on_ok, runs_with_pool, runs_without_pool}
use Rattle.programs.proofs.running.run_schedule.Goals as goal

pub returns-in_default-command-clause-fault : goal.returns-in_default-command-clause-fault
returns-in_default-command-clause-fault g c =
    let input = g.R.Read.remaining c.args.input in
    let behind = g.R.Read.remaining c.next_command.new.self.input in
    let count = c.next_command.new.self.count in
    let found : ReadsCommand input 0 c.in-Some.command behind count =
    rw c.new-lines.ensures.count at (rw c.new-lines.ensures.input at (rw c.in-Some.is at c.in_ok-command.ensures.found)) in
    let stops : IsFaultOf g.P.SchedulePool.creates g.P.SchedulePool.refuses g.P.SchedulePool.outcomes g.P.SchedulePool.faults input (g.W.Write.contents c.args.output.now) (g.W.Write.contents c.args.output.now) (LineFault count) =
    first_misplaced g.P.SchedulePool.creates g.P.SchedulePool.refuses g.P.SchedulePool.outcomes g.P.SchedulePool.faults input behind (g.W.Write.contents c.args.output.now) count c.in-Some.command found (not_first c.in-Some.command c.in_default-command.not-Pool) in
    subst (λ cause. IsFaultOf g.P.SchedulePool.creates g.P.SchedulePool.refuses g.P.SchedulePool.outcomes g.P.SchedulePool.faults input (g.W.Write.contents c.args.output.now) (g.W.Write.contents c.args.output.now) cause) (sym c.fault.ensures) stops

pub returns-in-Ok-clause-ok : goal.returns-in-Ok-clause-ok
returns-in-Ok-clause-ok g c =
    let input = g.R.Read.remaining c.args.input in
    let behind = g.R.Read.remaining c.next_command.new.self.input in
    let count = c.next_command.new.self.count in
    let found : ReadsCommand input 0 (Pool c.in-Pool.line) behind count =
    rw c.new-lines.ensures.count at (rw c.new-lines.ensures.input at (rw c.in-Pool.is at (rw c.in-Some.is at c.in_ok-command.ensures.found))) in
    let first : Reads input (Pool c.in-Pool.line ∷ []) behind = reads_of input behind 0 count (Pool c.in-Pool.line) found in
    on_ok c.run_lines.result _ _ c.run_lines.ensures.ok (runs_with_pool g.P.SchedulePool.creates g.P.SchedulePool.refuses g.P.SchedulePool.outcomes c.in-Pool.line c.in-Ok.pool input behind (g.W.Write.contents c.args.output.now) (g.W.Write.contents c.print.new.output) (g.W.Write.contents c.run_lines.new.output) first c.in-Ok.ensures.made c.in_ok-print-in-Ok.ensures.ok)

pub returns-in-Ok-clause-fault : goal.returns-in-Ok-clause-fault
returns-in-Ok-clause-fault g c =
    let input = g.R.Read.remaining c.args.input in
    let behind = g.R.Read.remaining c.next_command.new.self.input in
    let count = c.next_command.new.self.count in
    let found : ReadsCommand input 0 (Pool c.in-Pool.line) behind count =
    rw c.new-lines.ensures.count at (rw c.new-lines.ensures.input at (rw c.in-Pool.is at (rw c.in-Some.is at c.in_ok-command.ensures.found))) in
    on_fault c.run_lines.result _ _
    (λ cause stops. behind_pool g.P.SchedulePool.creates g.P.SchedulePool.refuses g.P.SchedulePool.outcomes g.P.SchedulePool.faults c.in-Pool.line c.in-Ok.pool input behind (g.W.Write.contents c.args.output.now) (g.W.Write.contents c.print.new.output) (g.W.Write.contents c.run_lines.new.output) count cause found c.in-Ok.ensures.made c.in_ok-print-in-Ok.ensures.ok stops)
    c.run_lines.ensures.fault

pub returns-in-None-clause-ok : goal.returns-in-None-clause-ok
returns-in-None-clause-ok g c =
    let input = g.R.Read.remaining c.args.input in
    let behind = g.R.Read.remaining c.next_command.new.self.input in
    let count = c.next_command.new.self.count in
    let found : ReadsCommand input 0 (Pool c.in-Pool.line) behind count =
    rw c.new-lines.ensures.count at (rw c.new-lines.ensures.input at (rw c.in-Pool.is at (rw c.in-Some.is at c.in_ok-command.ensures.found))) in
    let first : Reads input (Pool c.in-Pool.line ∷ []) behind = reads_of input behind 0 count (Pool c.in-Pool.line) found in
    let ended : IsSchedule behind [] = rw c.in-None.is at c.in_ok-later-in-Err.ensures.found in
    let told = c.in_ok-print_reply-in-Err.ensures.ok in
    let said : Appends (g.W.Write.contents c.args.output.now) (g.W.Write.contents c.print_reply.new.output) (refusal_text c.in-Err.refusal ++ 10 ∷ []) = rw told.1 at told.2 in
    runs_without_pool g.P.SchedulePool.creates g.P.SchedulePool.refuses g.P.SchedulePool.outcomes c.in-Pool.line c.in-Err.refusal input behind (g.W.Write.contents c.args.output.now) (g.W.Write.contents c.print_reply.new.output) first c.in-Err.ensures.refused ended said

pub returns-in_err-later-in-Err-clause-fault : goal.returns-in_err-later-in-Err-clause-fault
returns-in_err-later-in-Err-clause-fault g c =
    let input = g.R.Read.remaining c.args.input in
    let behind = g.R.Read.remaining c.next_command.new.self.input in
    let count = c.next_command.new.self.count in
    let found : ReadsCommand input 0 (Pool c.in-Pool.line) behind count =
    rw c.new-lines.ensures.count at (rw c.new-lines.ensures.input at (rw c.in-Pool.is at (rw c.in-Some.is at c.in_ok-command.ensures.found))) in
    let told = c.in_ok-print_reply-in-Err.ensures.ok in
    let said : Appends (g.W.Write.contents c.args.output.now) (g.W.Write.contents c.print_reply.new.output) (refusal_text c.in-Err.refusal ++ 10 ∷ []) = rw told.1 at told.2 in
    passed_on _ _ _ c.from_residual-in_err-later-in-Err.ensures.1
    (refused_fault g.P.SchedulePool.creates g.P.SchedulePool.refuses g.P.SchedulePool.outcomes g.P.SchedulePool.faults c.in-Pool.line c.in-Err.refusal input behind (g.W.Write.contents c.args.output.now) (g.W.Write.contents c.print_reply.new.output) count _ found c.in-Err.ensures.refused said c.in_err-later-in-Err.ensures.fault)

pub returns-clause-fault : goal.returns-clause-fault
returns-clause-fault g c =
    let input = g.R.Read.remaining c.args.input in
    let behind = g.R.Read.remaining c.next_command.new.self.input in
    let count = c.next_command.new.self.count in
    let found : ReadsCommand input 0 (Pool c.in-Pool.line) behind count =
    rw c.new-lines.ensures.count at (rw c.new-lines.ensures.input at (rw c.in-Pool.is at (rw c.in-Some.is at c.in_ok-command.ensures.found))) in
    let told = c.in_ok-print_reply-in-Err.ensures.ok in
    let said : Appends (g.W.Write.contents c.args.output.now) (g.W.Write.contents c.print_reply.new.output) (refusal_text c.in-Err.refusal ++ 10 ∷ []) = rw told.1 at told.2 in
    let end = g.R.Read.remaining c.next_command-in-Err.new.self.input in
    let last = c.next_command-in-Err.new.self.count in
    let next : ReadsCommand behind count c.in-Some-later.field-0 end last = rw c.in-Some-later.is at c.in_ok-later-in-Err.ensures.found in
    let stops : IsFaultOf g.P.SchedulePool.creates g.P.SchedulePool.refuses g.P.SchedulePool.outcomes g.P.SchedulePool.faults input (g.W.Write.contents c.args.output.now) (g.W.Write.contents c.print_reply.new.output) (LineFault last) =
    refused_misplaced g.P.SchedulePool.creates g.P.SchedulePool.refuses g.P.SchedulePool.outcomes g.P.SchedulePool.faults c.in-Pool.line c.in-Err.refusal input behind end (g.W.Write.contents c.args.output.now) (g.W.Write.contents c.print_reply.new.output) count last c.in-Some-later.field-0 found c.in-Err.ensures.refused said next in
    subst (λ cause. IsFaultOf g.P.SchedulePool.creates g.P.SchedulePool.refuses g.P.SchedulePool.outcomes g.P.SchedulePool.faults input (g.W.Write.contents c.args.output.now) (g.W.Write.contents c.print_reply.new.output) cause) (sym c.fault-in-Some-later.ensures) stops
