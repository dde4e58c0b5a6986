use Rattle.raidz_io.proofs.DataWrites.{are_bytes}
use Rattle.raidz_io.proofs.choice.has_digest.Goals as goal

pub returns-clause-bytes : goal.returns-clause-bytes
returns-clause-bytes c = are_bytes c.args.block.now (λ i. (c.type_inv.block i).fits)
