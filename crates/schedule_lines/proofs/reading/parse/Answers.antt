use Rattle.schedule_lines.proofs.Lines.{found_line, only_line, fault_line}
use Rattle.schedule_lines.proofs.reading.parse.Goals as goal

pub returns-clause-found : goal.returns-clause-found
returns-clause-found c = found_line c.line_of.result c.args.line.now c.line_of.ensures

pub returns-clause-only : goal.returns-clause-only
returns-clause-only c = only_line c.line_of.result c.args.line.now c.line_of.ensures

pub returns-clause-fault : goal.returns-clause-fault
returns-clause-fault c = fault_line c.line_of.result c.args.line.now c.line_of.ensures
