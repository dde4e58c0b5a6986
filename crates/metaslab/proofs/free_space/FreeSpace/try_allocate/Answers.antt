use Rattle.metaslab.proofs.Cuts.{raised_more}
use Rattle.metaslab.proofs.free_space.FreeSpace.try_allocate.Goals as goal

pub returns-clause-ticks : goal.returns-clause-ticks
returns-clause-ticks c = raised_more 2 4 c.args.self.now.ticks c.shortest.new.self.ticks c.cut.new.self.ticks c.in_ok-whole.ensures.ticks c.in_ok-cut.ensures.ticks
