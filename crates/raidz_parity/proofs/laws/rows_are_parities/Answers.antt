use Rattle.raidz_parity.proofs.Rows.{rows_are_parities}
use Rattle.raidz_parity.proofs.laws.rows_are_parities.Goals as goal

pub returns : goal.returns
returns c = rows_are_parities
