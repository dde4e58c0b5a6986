use Rattle.std.proofs.Common.{◌∙◌}
use Rattle.space_map.specs.Sectors.{contains}
use Rattle.metaslab.proofs.Dues.{unused_state}
use Rattle.metaslab.proofs.allocating.Metaslab.unused.Goals as goal

pub returns : goal.returns
returns c =
    let given = rw (c.in_ok-unused.ensures.cases, c.by_place.ensures, c.deref.ensures.value) at c.in_ok-give_all.ensures in
    rw (← c.self.view_is) (record {
      sectors = given.0;
      each = λ s below. given.1 s ∙ unused_state (contains c.self.inside.free.free.runs) c.self.inside.released.items s;
    })
