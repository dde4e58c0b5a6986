use Rattle.metaslab.specs.Space.{Space}
use Rattle.metaslab.proofs.Holding.{room}
use Rattle.metaslab.proofs.allocating.Metaslab.has_room.Goals as goal

pub returns : goal.returns
returns c =
    let space : Space = record { free = c.self.inside.free.free; released = c.self.inside.released.items; pins = c.self.inside.pins.items; ticks = c.self.inside.free.ticks } in
    rw (← c.self.view_is) (room space c.args.sectors c.has_room.result c.has_room.ensures)
