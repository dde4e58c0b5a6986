use Rattle.std.proofs.Common.{ap}
use Rattle.metaslab.specs.Fits.{Tables}
use Rattle.metaslab.proofs.Cuts.{raised_more, raised_once}
use Rattle.metaslab.proofs.free_space.FreeSpace.try_take.Goals as goal

pub returns-clause-ticks : goal.returns-clause-ticks
returns-clause-ticks c =
    let first = raised_once c.self.inside.runs.ticks c.whole_at.new.self.ticks (ap (λ (t : Tables). t.ticks) c.whole_at.ensures.rest) in
    rw (← c.self.view_is) (raised_more 1 4 c.self.inside.runs.ticks c.whole_at.new.self.ticks c.cut.new.self.ticks first c.in_ok-cut.ensures.ticks)
