use Rattle.std.proofs.Common.{refl, ap, subst, ◌∙◌}
use Rattle.space_map.specs.FreeRuns.{AreFree}
use Rattle.metaslab.proofs.Unused.{loaded_is_unused}
use Rattle.metaslab.specs.Spaces.{Spaces}
use Rattle.metaslab.proofs.planned.PlannedMetaslab.load.Goals as goal

pub returns-clause-loaded : goal.returns-clause-loaded
returns-clause-loaded c =
    let are : AreFree c.args.free = subst AreFree c.free.view_is c.free.invariant in
    record {
      kept = c.load.ensures.states;
      unused = loaded_is_unused c.load.new.self c.args.free are c.load.ensures.states;
      planned = refl;
      pins = c.load.ensures.pins ∙ ap (λ (spaces : Spaces). spaces.kept.pins) c.self.view_is;
    }
