use Rattle.std.proofs.Common.{◌≡◌, ◌+◌, ◌∷◌, [], List, ℕ, sym, subst, arith}
use Rattle.std.specs.Io.KnownBytes.{Appends, IsAtEnd}
use Rattle.schedule_lines.specs.declared.command.Line.{Line}
use Rattle.schedule_lines.specs.declared.command.Line.TheVariants.{Skipped, Threads, Command as CommandLine}
use Rattle.programs.specs.declared.refusal.Refusal.{Refusal}
use Rattle.programs.specs.declared.refusal.Refusal.TheVariants.{Line as LineFault}
use Rattle.programs.specs.Faults.{IsNoLine, counted}
use Rattle.programs.specs.Reads.{ReadsLines}
use Rattle.thread_schedules.specs.Inputs.{IsFrontFault}
use Rattle.thread_schedules.specs.Stages.{Comes, Misplaced, recounted}
use Rattle.thread_schedules.proofs.Fronting.{FrontSoFar, front_none, front_skipped, front_more, front_ends, front_fault, front_no_line, front_misplaced}
use Rattle.thread_schedules.proofs.Reading.{if_none, passed_on}
use Rattle.thread_schedules.proofs.front.run_front.Goals as goal
use Rattle.thread_schedules.proofs.front.run_front.Goals.{in-Skipped, in-Command+in_ok-next-in-Command+in-Some-2}

pub loop-init : goal.loop-init
loop-init g c =
    front_none g.P.SchedulePool.creates g.P.SchedulePool.refuses g.P.SchedulePool.outcomes (g.I.Read.remaining c.args.lines.now.input) (g.W.Write.contents c.args.output.now) c.args.lines.now.count c.requires.first

pub returns-in_err-line-clause-fault : goal.returns-in_err-line-clause-fault
returns-in_err-line-clause-fault g c =
    passed_on _ _ _ c.from_residual.ensures.1
    (front_fault g.P.SchedulePool.creates g.P.SchedulePool.refuses g.P.SchedulePool.outcomes g.P.SchedulePool.faults (g.I.Read.remaining c.args.lines.now.input) (g.W.Write.contents c.args.output.now)
    c.loop.stage (g.I.Read.remaining c.loop.lines.input) (g.W.Write.contents c.loop.output) c.loop.lines.count _ c.loop.invariant c.in_err-line.ensures.fault)

pub returns-in_default-clause-fault : goal.returns-in_default-clause-fault
returns-in_default-clause-fault g c =
    let input = g.I.Read.remaining c.args.lines.now.input in
    let old = g.W.Write.contents c.args.output.now in
    let now = g.W.Write.contents c.loop.output in
    let rest = g.I.Read.remaining c.loop.lines.input in
    let behind = g.I.Read.remaining c.next_line.new.self.input in
    let end : IsAtEnd rest = if_none c.in_ok-line.field-0 (IsAtEnd rest) (λ line. ReadsLines rest (line ∷ []) behind × (c.next_line.new.self.count ≡ counted (c.loop.lines.count + 1))) c.in_ok-line.ensures.found c.in_default.not-Some in
    let stops : IsFrontFault g.P.SchedulePool.creates g.P.SchedulePool.refuses g.P.SchedulePool.outcomes g.P.SchedulePool.faults input old now (LineFault (counted (c.loop.lines.count + 1))) = front_ends g.P.SchedulePool.creates g.P.SchedulePool.refuses g.P.SchedulePool.outcomes g.P.SchedulePool.faults input old c.loop.stage rest now c.loop.lines.count c.loop.invariant end in
    subst (λ cause. IsFrontFault g.P.SchedulePool.creates g.P.SchedulePool.refuses g.P.SchedulePool.outcomes g.P.SchedulePool.faults input old now cause) (sym c.fault_behind-wanting.ensures) stops

pub returns-in-Threads-clause-ok : goal.returns-in-Threads-clause-ok
returns-in-Threads-clause-ok g c =
    let rest = g.I.Read.remaining c.loop.lines.input in
    let behind = g.I.Read.remaining c.next_line.new.self.input in
    let read : ReadsLines rest (c.in-Some.line ∷ []) behind × (c.next_line.new.self.count ≡ counted (c.loop.lines.count + 1)) = rw c.in-Some.is at c.in_ok-line.ensures.found in
    let threads : ReadsLines rest (Threads ∷ []) behind = subst (λ (l : Line). ReadsLines rest (l ∷ []) behind) c.in-Threads.is read.0 in
    (rest, c.loop.invariant.front, threads, omega (arith, read.1, c.loop.invariant.number))

pub returns-in_err-next-in-Command-clause-fault : goal.returns-in_err-next-in-Command-clause-fault
returns-in_err-next-in-Command-clause-fault g c =
    passed_on _ _ _ c.from_residual-in_err-next-in-Command.ensures.1
    (front_no_line g.P.SchedulePool.creates g.P.SchedulePool.refuses g.P.SchedulePool.outcomes g.P.SchedulePool.faults (g.I.Read.remaining c.args.lines.now.input) (g.W.Write.contents c.args.output.now) (g.W.Write.contents c.recount.new.output) _ c.in_err-next-in-Command.ensures.fault)

pub returns-in_default-2-clause-fault : goal.returns-in_default-2-clause-fault
returns-in_default-2-clause-fault g c =
    let input = g.I.Read.remaining c.args.lines.now.input in
    let old = g.W.Write.contents c.args.output.now in
    let now = g.W.Write.contents c.loop.output in
    let later = g.W.Write.contents c.recount.new.output in
    let rest = g.I.Read.remaining c.loop.lines.input in
    let behind = g.I.Read.remaining c.next_line.new.self.input in
    let command = c.in-Command.command in
    let read : ReadsLines rest (c.in-Some.line ∷ []) behind × (c.next_line.new.self.count ≡ counted (c.loop.lines.count + 1)) = rw c.in-Some.is at c.in_ok-line.ensures.found in
    let next : ReadsLines rest (CommandLine command ∷ []) behind = subst (λ (l : Line). ReadsLines rest (l ∷ []) behind) c.in-Command.is read.0 in
    let none = if_none c.in_ok-next-in-Command.field-0 (Misplaced g.P.SchedulePool.faults c.loop.stage command × (later ≡ now))
    (λ stage. (said : List ℕ) × Comes g.P.SchedulePool.creates g.P.SchedulePool.refuses g.P.SchedulePool.outcomes c.loop.stage command said stage × Appends now later (recounted command said)) c.in_ok-next-in-Command.ensures.ok c.in_default-2.not-Some in
    let stops : IsFrontFault g.P.SchedulePool.creates g.P.SchedulePool.refuses g.P.SchedulePool.outcomes g.P.SchedulePool.faults input old now (LineFault c.next_line.new.self.count) =
    front_misplaced g.P.SchedulePool.creates g.P.SchedulePool.refuses g.P.SchedulePool.outcomes g.P.SchedulePool.faults input old c.loop.stage rest behind now c.loop.lines.count c.next_line.new.self.count command c.loop.invariant next read.1 none.0 in
    subst (λ cause. IsFrontFault g.P.SchedulePool.creates g.P.SchedulePool.refuses g.P.SchedulePool.outcomes g.P.SchedulePool.faults input old later cause) (sym c.fault.ensures) (subst (λ o. IsFrontFault g.P.SchedulePool.creates g.P.SchedulePool.refuses g.P.SchedulePool.outcomes g.P.SchedulePool.faults input old o (LineFault c.next_line.new.self.count)) (sym none.1) stops)

pub loop-preserved : goal.loop-preserved
loop-preserved g c =
    let input = g.I.Read.remaining c.args.lines.now.input in
    let old = g.W.Write.contents c.args.output.now in
    let now = g.W.Write.contents c.loop.output in
    let rest = g.I.Read.remaining c.loop.lines.input in
    let behind = g.I.Read.remaining c.next_line.new.self.input in
    let after = c.next_line.new.self.count in
    let read : ReadsLines rest (c.in-Some.line ∷ []) behind × (after ≡ counted (c.loop.lines.count + 1)) = rw c.in-Some.is at c.in_ok-line.ensures.found in
    elim c.match-line.branch [
      | in-Skipped w ↦
          let skipped : ReadsLines rest (Skipped ∷ []) behind = subst (λ (l : Line). ReadsLines rest (l ∷ []) behind) w.in-Skipped.is read.0 in
          subst (λ s. FrontSoFar g.P.SchedulePool.creates g.P.SchedulePool.refuses g.P.SchedulePool.outcomes input old s behind (g.W.Write.contents c.match-line.output) after) (sym w.stage-is)
          (subst (λ o. FrontSoFar g.P.SchedulePool.creates g.P.SchedulePool.refuses g.P.SchedulePool.outcomes input old c.loop.stage behind (g.W.Write.contents o) after) (sym w.output-is)
          (front_skipped g.P.SchedulePool.creates g.P.SchedulePool.refuses g.P.SchedulePool.outcomes input old c.loop.stage rest behind now c.loop.lines.count after c.loop.invariant skipped read.1))
      | in-Command+in_ok-next-in-Command+in-Some-2 w ↦
          let command = w.in-Command.command in
          let later = g.W.Write.contents w.recount.new.output in
          let next : ReadsLines rest (CommandLine command ∷ []) behind = subst (λ (l : Line). ReadsLines rest (l ∷ []) behind) w.in-Command.is read.0 in
          let came : (said : List ℕ) × Comes g.P.SchedulePool.creates g.P.SchedulePool.refuses g.P.SchedulePool.outcomes c.loop.stage command said w.in-Some-2.next × Appends now later (recounted command said) = rw w.in-Some-2.is at w.in_ok-next-in-Command.ensures.ok in
          subst (λ s. FrontSoFar g.P.SchedulePool.creates g.P.SchedulePool.refuses g.P.SchedulePool.outcomes input old s behind (g.W.Write.contents c.match-line.output) after) (sym w.stage-is)
          (subst (λ o. FrontSoFar g.P.SchedulePool.creates g.P.SchedulePool.refuses g.P.SchedulePool.outcomes input old w.in-Some-2.next behind (g.W.Write.contents o) after) (sym w.output-is)
          (front_more g.P.SchedulePool.creates g.P.SchedulePool.refuses g.P.SchedulePool.outcomes input old c.loop.stage w.in-Some-2.next rest behind now later c.loop.lines.count after command came.0 c.loop.invariant next read.1 came.1 came.2))
    ]
