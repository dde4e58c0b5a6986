use Rattle.std.proofs.Common.{arith}
use Rattle.schedule_lines.proofs.Printing.{styled_byte}
use Rattle.schedule_lines.proofs.equal_bytes.RunDisplay.fmt.Goals as goal

pub returns-clause-writes : goal.returns-clause-writes
returns-clause-writes g c =
    let byte = styled_byte c.in_radix.result c.laid_out.result c.args.self.now.byte c.in_radix.ensures c.laid_out.ensures (omega arith) in
    rw byte at c.write.ensures.writes
