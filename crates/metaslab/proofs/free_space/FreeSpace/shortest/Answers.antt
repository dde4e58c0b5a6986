use Rattle.metaslab.proofs.Cuts.{found_ends, none_found}
use Rattle.metaslab.proofs.free_space.FreeSpace.shortest.Goals as goal

pub returns-clause-end : goal.returns-clause-end
returns-clause-end c =
    let sorted = c.in_ok-sort.ensures.sorted c.self.invariant in
    rw (← c.self.view_is) (found_ends c.sort.new.self.sizes c.self.inside.runs.free c.shortest.result c.by_place.ensures.apart sorted c.shortest.ensures.found)

pub returns-clause-none : goal.returns-clause-none
returns-clause-none c =
    let sorted = c.in_ok-sort.ensures.sorted c.self.invariant in
    rw (← c.self.view_is) (none_found c.sort.new.self.sizes c.self.inside.runs.free c.args.sectors c.shortest.result c.by_place.ensures.apart c.requires sorted c.shortest.ensures.none)
