use Rattle.metaslab.proofs.Sizes.{lost}
use Rattle.metaslab.proofs.by_size.take_out.Goals as goal

pub returns : goal.returns
returns c = lost c.args.run.start c.args.run.len c.args.sizes.now c.remove.new.self c.remove.ensures.updates
