use Rattle.std.proofs.Common.{refl}
use Rattle.metaslab.specs.Space.{Space}
use Rattle.metaslab.specs.State.{is_due}
use Rattle.metaslab.proofs.Dues.{settled_space}
use Rattle.metaslab.proofs.Orders.{order_kept}
use Rattle.metaslab.proofs.allocating.Metaslab.settle.Goals as goal

pub invariant_of-self-2 : goal.invariant_of-self-2
invariant_of-self-2 c =
    let old : Space = record { free = c.self.inside.free.free; released = c.self.inside.released.items; pins = c.self.inside.pins.items; ticks = c.self.inside.free.ticks } in
    let new : Space = record { free = c.give_due.new.free.free; released = c.drop_due.new.released.items; pins = c.self.inside.pins.items; ticks = c.give_due.new.free.ticks } in
    let given = rw (c.in_ok-free.ensures.ok, c.deref.ensures.value, c.deref-2.ensures.value) at c.in_ok-give_due.ensures.gained in
    let dropped = rw c.deref-3.ensures.value at c.drop_due.ensures in (
      (settled_space c.self.inside.pins.items old new c.args.group c.self.invariant.0 given.0 given.1 dropped refl).0,
      rw dropped (order_kept (is_due c.self.inside.pins.items c.args.group) 0 c.self.inside.released.items c.self.invariant.1),
    )

pub returns-clause-settled : goal.returns-clause-settled
returns-clause-settled c =
    let old : Space = record { free = c.self.inside.free.free; released = c.self.inside.released.items; pins = c.self.inside.pins.items; ticks = c.self.inside.free.ticks } in
    let new : Space = record { free = c.give_due.new.free.free; released = c.drop_due.new.released.items; pins = c.self.inside.pins.items; ticks = c.give_due.new.free.ticks } in
    let given = rw (c.in_ok-free.ensures.ok, c.deref.ensures.value, c.deref-2.ensures.value) at c.in_ok-give_due.ensures.gained in
    rw (← c.self.view_is) (settled_space c.self.inside.pins.items old new c.args.group c.self.invariant.0 given.0 given.1 (rw c.deref-3.ensures.value at c.drop_due.ensures) refl).1
