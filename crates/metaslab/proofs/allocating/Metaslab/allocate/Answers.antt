use Rattle.std.proofs.Common.{refl}
use Rattle.space_map.specs.Sectors.{contains}
use Rattle.metaslab.proofs.Holding.{held_after_taking, state_after_taking}
use Rattle.metaslab.proofs.allocating.Metaslab.allocate.Goals as goal

pub invariant_of-self-2 : goal.invariant_of-self-2
invariant_of-self-2 c =
    let free = c.self.inside.free.free in
    (rw c.in_ok-run.ensures.taken.0 (held_after_taking free.sectors (contains free.runs) (contains c.allocate.new.self.free.runs) c.self.inside.released.items c.in_ok-run.run' c.self.invariant.0 c.in_ok-run.ensures.taken.1), c.self.invariant.1)

pub returns-clause-taken : goal.returns-clause-taken
returns-clause-taken c =
    let free = c.self.inside.free.free in
    rw (← c.self.view_is) (record {
      states = state_after_taking free.sectors (contains free.runs) (contains c.allocate.new.self.free.runs) c.self.inside.released.items c.in_ok-run.run' c.self.invariant.0 c.in_ok-run.ensures.taken.1 c.in_ok-run.ensures.free.each;
      sectors = c.in_ok-run.ensures.taken.0;
      pins = refl;
    })
