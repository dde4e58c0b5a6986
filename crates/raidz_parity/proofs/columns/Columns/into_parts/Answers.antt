use Rattle.std.proofs.Common.{sym}
use Rattle.raidz_parity.proofs.Split.{joined_buffer}
use Rattle.raidz_parity.proofs.columns.Columns.into_parts.Goals as goal

pub returns-clause-block : goal.returns-clause-block
returns-clause-block c =
    rw (← c.self.view_is)
    (sym (joined_buffer c.self.inside.lengths.items c.self.inside.block.items c.self.invariant.fits))
