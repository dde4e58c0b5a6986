use Rattle.metaslab.proofs.Cuts.{room_by_size, room_by_place}
use Rattle.metaslab.proofs.free_runs.FreeRuns.has_room.Goals as goal

pub returns-in-Some : goal.returns-in-Some
returns-in-Some c = rw (← c.self.view_is, c.in-Some.is, c.is_some.ensures) (λ sorted. room_by_size c.self.inside.by_place c.in-Some.sizes c.args.sectors c.least_from.result
    c.runs.ensures.apart c.requires sorted c.least_from.ensures.found c.least_from.ensures.fits c.least_from.ensures.none)

pub returns-in-None : goal.returns-in-None
returns-in-None c = rw (← c.self.view_is, c.is_some-in-None.ensures) (λ sorted. room_by_place c.self.inside.by_place c.args.sectors c.find.result c.find.ensures.len c.find.ensures.free c.find.ensures.none)
