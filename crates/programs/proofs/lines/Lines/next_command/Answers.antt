use Rattle.std.proofs.Common.{◌≡◌, ◌+◌, [], ◌∷◌, subst}
use Rattle.schedule_lines.specs.declared.command.Line.{Line}
use Rattle.schedule_lines.specs.declared.command.Line.TheVariants.{Command as CommandLine}
use Rattle.programs.specs.Faults.{counted}
use Rattle.programs.specs.Reads.{ReadsLines, commands_of}
use Rattle.programs.proofs.Faulting.{skips_none, skips_more, next_fault, passed_on}
use Rattle.programs.proofs.Playing.{if_none}
use Rattle.programs.proofs.lines.Lines.next_command.Goals as goal

pub loop-init : goal.loop-init
loop-init g c = skips_none (g.R.Read.remaining c.args.self.now.input) c.args.self.now.count

pub returns-in-Some-command_in-clause-found : goal.returns-in-Some-command_in-clause-found
returns-in-Some-command_in-clause-found g c =
    let old = g.R.Read.remaining c.loop.self.input in
    let new = g.R.Read.remaining c.next_line.new.self.input in
    let read : ReadsLines old (c.in-Some.line ∷ []) new × (c.next_line.new.self.count ≡ counted (c.loop.self.count + 1)) = rw c.in-Some.is at c.in_ok-line.ensures.found in
    let said : c.in-Some.line ≡ CommandLine c.in-Some-command_in.command = rw c.in-Some-command_in.is at c.command_in.ensures in
    (old, c.loop.self.count, c.loop.invariant, subst (λ (l : Line). ReadsLines old (l ∷ []) new) said read.0, read.1)

pub returns-in_err-line-clause-fault : goal.returns-in_err-line-clause-fault
returns-in_err-line-clause-fault g c =
    passed_on _ _ _ c.from_residual.ensures.1
    (next_fault (g.R.Read.remaining c.args.self.now.input) (g.R.Read.remaining c.loop.self.input) c.args.self.now.count c.loop.self.count _ c.loop.invariant c.in_err-line.ensures.fault)

pub loop-preserved : goal.loop-preserved
loop-preserved g c =
    let old = g.R.Read.remaining c.loop.self.input in
    let new = g.R.Read.remaining c.next_line.new.self.input in
    let read : ReadsLines old (c.in-Some.line ∷ []) new × (c.next_line.new.self.count ≡ counted (c.loop.self.count + 1)) = rw c.in-Some.is at c.in_ok-line.ensures.found in
    let none = if_none c.command_in.result (commands_of (c.in-Some.line ∷ []) ≡ []) (λ command. c.in-Some.line ≡ CommandLine command) c.command_in.ensures c.in_default-command_in.not-Some in
    skips_more (g.R.Read.remaining c.args.self.now.input) old new c.args.self.now.count c.loop.self.count c.next_line.new.self.count c.in-Some.line c.loop.invariant read.0 none read.1
