use Rattle.std.proofs.Common.{refl}
use Rattle.space_map.specs.Sectors.{contains}
use Rattle.metaslab.proofs.Holding.{held_after_taking, state_after_taking}
use Rattle.metaslab.proofs.allocating.Metaslab.take_in.Goals as goal
use Rattle.metaslab.proofs.allocating.Metaslab.take_in.Goals.{in-Ok, in-Err-BadMap, in-Err-NoMemory}

pub invariant_of-self : goal.invariant_of-self
invariant_of-self c =
    let free = c.self.inside.free.free in
    let released = c.self.inside.released.items in
    elim c.match-change.branch [
      | in-Ok w ↦
          (rw w.in-Ok.ensures.ok.0 (held_after_taking free.sectors (contains free.runs) (contains c.change.new.self.free.runs) released c.args.run c.self.invariant.0 w.in-Ok.ensures.ok.1), c.self.invariant.1)
      | in-Err-BadMap w ↦ rw w.in-Err-BadMap.ensures.err c.self.invariant
      | in-Err-NoMemory w ↦ rw w.in-Err-NoMemory.ensures.err c.self.invariant
    ]

pub returns-clause-taken : goal.returns-clause-taken
returns-clause-taken c =
    let free = c.self.inside.free.free in
    elim c.match-change.branch [
      | in-Ok w ↦
          rw (w.result-is, ← c.self.view_is) (record {
            states = state_after_taking free.sectors (contains free.runs) (contains c.change.new.self.free.runs) c.self.inside.released.items c.args.run c.self.invariant.0 w.in-Ok.ensures.ok.1 w.in-Ok.ensures.changes.each;
            sectors = w.in-Ok.ensures.ok.0;
            pins = refl;
          })
      | in-Err-BadMap w ↦ rw w.result-is tt
      | in-Err-NoMemory w ↦ rw w.result-is tt
    ]
