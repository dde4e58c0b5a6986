use Rattle.programs.specs.Faults.{Skips}
use Rattle.programs.proofs.lines.Lines.next_command.Given as goal

abbrev pub invariant-loop : goal.invariant-loop
invariant-loop g l = Skips (g.R.Read.remaining l.fn.self.input) l.fn.self.count (g.R.Read.remaining l.self.input) l.self.count
