use Rattle.metaslab.proofs.Sizes.{gained}
use Rattle.metaslab.proofs.by_size.add.Goals as goal

pub returns : goal.returns
returns c = record { ok = gained c.args.run.start c.args.run.len c.args.sizes.now c.insert.new.self c.in_ok-insert.ensures.updates }
