use Rattle.std.proofs.Common.{◌≡◌, ◌+◌, ◌∷◌, [], None, sym, subst}
use Rattle.std.specs.Io.KnownBytes.{IsAtEnd}
use Rattle.schedule_lines.specs.declared.command.Line.{Line}
use Rattle.schedule_lines.specs.declared.command.Line.TheVariants.{Skipped, Threads, Command as CommandLine}
use Rattle.programs.specs.declared.refusal.Refusal.TheVariants.{Line as LineFault}
use Rattle.programs.specs.Faults.{counted}
use Rattle.programs.specs.Reads.{ReadsLines}
use Rattle.thread_schedules.specs.Ends.{CannotFollow}
use Rattle.thread_schedules.specs.Inputs.{IsBackFault}
use Rattle.thread_schedules.proofs.Backing.{back_none, back_skipped, back_fault, back_threads, back_misplaced}
use Rattle.thread_schedules.proofs.Reading.{if_none, passed_on}
use Rattle.thread_schedules.proofs.back.read_nothing.Goals as goal

pub loop-init : goal.loop-init
loop-init g c = back_none (g.I.Read.remaining c.args.rest.now.input) c.args.rest.now.count

pub returns-in_err-line-clause-fault : goal.returns-in_err-line-clause-fault
returns-in_err-line-clause-fault g c =
    passed_on _ _ _ c.from_residual.ensures.1
    (back_fault (CannotFollow None) (g.I.Read.remaining c.args.rest.now.input) c.args.rest.now.count (g.I.Read.remaining c.loop.rest.input) c.loop.rest.count [] _ c.loop.invariant c.in_err-line.ensures.fault)

pub returns-in_default-clause-ok : goal.returns-in_default-clause-ok
returns-in_default-clause-ok g c =
    let old = g.I.Read.remaining c.loop.rest.input in
    let new = g.I.Read.remaining c.next_line.new.self.input in
    let end : IsAtEnd old = if_none c.in_ok-line.field-0 (IsAtEnd old) (λ line. ReadsLines old (line ∷ []) new × (c.next_line.new.self.count ≡ counted (c.loop.rest.count + 1))) c.in_ok-line.ensures.found c.in_default.not-Some in
    (old, c.loop.invariant.back, end, c.loop.invariant.are)

pub returns-in-Threads-clause-fault : goal.returns-in-Threads-clause-fault
returns-in-Threads-clause-fault g c =
    let input = g.I.Read.remaining c.args.rest.now.input in
    let old = g.I.Read.remaining c.loop.rest.input in
    let new = g.I.Read.remaining c.next_line.new.self.input in
    let read : ReadsLines old (c.in-Some.line ∷ []) new × (c.next_line.new.self.count ≡ counted (c.loop.rest.count + 1)) = rw c.in-Some.is at c.in_ok-line.ensures.found in
    let threads : ReadsLines old (Threads ∷ []) new = subst (λ (l : Line). ReadsLines old (l ∷ []) new) c.in-Threads.is read.0 in
    let stops : IsBackFault (CannotFollow None) input c.args.rest.now.count (LineFault c.next_line.new.self.count) =
    back_threads (CannotFollow None) input c.args.rest.now.count old new c.loop.rest.count c.next_line.new.self.count [] c.loop.invariant threads read.1 in
    subst (λ cause. IsBackFault (CannotFollow None) input c.args.rest.now.count cause) (sym c.fault.ensures) stops

pub returns-in-Command-clause-fault : goal.returns-in-Command-clause-fault
returns-in-Command-clause-fault g c =
    let input = g.I.Read.remaining c.args.rest.now.input in
    let old = g.I.Read.remaining c.loop.rest.input in
    let new = g.I.Read.remaining c.next_line.new.self.input in
    let read : ReadsLines old (c.in-Some.line ∷ []) new × (c.next_line.new.self.count ≡ counted (c.loop.rest.count + 1)) = rw c.in-Some.is at c.in_ok-line.ensures.found in
    let command : ReadsLines old (CommandLine c.in-Command.field-0 ∷ []) new = subst (λ (l : Line). ReadsLines old (l ∷ []) new) c.in-Command.is read.0 in
    let stops : IsBackFault (CannotFollow None) input c.args.rest.now.count (LineFault c.next_line.new.self.count) =
    back_misplaced (CannotFollow None) input c.args.rest.now.count old new c.loop.rest.count c.next_line.new.self.count [] c.in-Command.field-0 c.loop.invariant command read.1 tt in
    subst (λ cause. IsBackFault (CannotFollow None) input c.args.rest.now.count cause) (sym c.fault-in-Command.ensures) stops

pub loop-preserved : goal.loop-preserved
loop-preserved g c =
    let input = g.I.Read.remaining c.args.rest.now.input in
    let old = g.I.Read.remaining c.loop.rest.input in
    let new = g.I.Read.remaining c.next_line.new.self.input in
    let read : ReadsLines old (c.in-Some.line ∷ []) new × (c.next_line.new.self.count ≡ counted (c.loop.rest.count + 1)) = rw c.in-Some.is at c.in_ok-line.ensures.found in
    let skipped : ReadsLines old (Skipped ∷ []) new = subst (λ (l : Line). ReadsLines old (l ∷ []) new) c.in-Skipped.is read.0 in
    back_skipped input c.args.rest.now.count old new c.loop.rest.count c.next_line.new.self.count [] c.loop.invariant skipped read.1
