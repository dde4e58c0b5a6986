use Rattle.std.proofs.Common.{arith, refl}
use Rattle.pool_command.proofs.Printing.{name_laid, number_laid}
use Rattle.pool_command.proofs.listing.VolumeRowDisplay.fmt.Goals as goal

pub returns-clause-writes : goal.returns-clause-writes
returns-clause-writes g c =
    let name = name_laid c.laid_out.result c.as_str-name.result.now c.laid_out.ensures (omega arith) in
    let size = number_laid c.laid_out-2.result 14 c.args.self.now.size c.laid_out-2.ensures refl in
    let block = number_laid c.laid_out-3.result 8 c.args.self.now.block_size c.laid_out-3.ensures refl in
    let group = number_laid c.laid_out-4.result 11 c.args.self.now.group c.laid_out-4.ensures refl in
    rw (name, size, block, group, c.as_str-name.ensures.value) at c.write.ensures.writes
