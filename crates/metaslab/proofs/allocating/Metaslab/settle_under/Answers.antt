use Rattle.std.proofs.Common.{◌≡◌, false, List, refl, sym, subst, ◌∙◌}
use Rattle.std.specs.List.{list_any}
use Rattle.metaslab.specs.declared.settling.Release.{Release}
use Rattle.metaslab.specs.Space.{Space}
use Rattle.metaslab.specs.State.{is_due}
use Rattle.metaslab.proofs.Dues.{nothing_settles, settled_space}
use Rattle.metaslab.proofs.Orders.{order_kept}
use Rattle.metaslab.proofs.allocating.Metaslab.settle_under.Goals as goal

pub invariant_of-self-2 : goal.invariant_of-self-2
invariant_of-self-2 c =
    let old : Space = record { free = c.self.inside.free.free; released = c.self.inside.released.items; pins = c.self.inside.pins.items; ticks = c.self.inside.free.ticks } in
    let new : Space = record { free = c.give_due.new.free.free; released = c.drop_due.new.released.items; pins = c.self.inside.pins.items; ticks = c.give_due.new.free.ticks } in
    let given = rw (c.in_ok-free.ensures.ok, c.deref-2.ensures.value) at c.in_ok-give_due.ensures.gained in (
      (settled_space c.args.pins.now old new c.args.group c.self.invariant.0 given.0 given.1 c.drop_due.ensures refl).0,
      rw c.drop_due.ensures (order_kept (is_due c.args.pins.now c.args.group) 0 c.self.inside.released.items c.self.invariant.1),
    )

pub returns-clause-settled : goal.returns-clause-settled
returns-clause-settled c =
    let old : Space = record { free = c.self.inside.free.free; released = c.self.inside.released.items; pins = c.self.inside.pins.items; ticks = c.self.inside.free.ticks } in
    let new : Space = record { free = c.give_due.new.free.free; released = c.drop_due.new.released.items; pins = c.self.inside.pins.items; ticks = c.give_due.new.free.ticks } in
    let given = rw (c.in_ok-free.ensures.ok, c.deref-2.ensures.value) at c.in_ok-give_due.ensures.gained in
    rw (← c.self.view_is) (settled_space c.args.pins.now old new c.args.group c.self.invariant.0 given.0 given.1 c.drop_due.ensures refl).1

pub returns-then-not-holds_due-clause-settled : goal.returns-then-not-holds_due-clause-settled
returns-then-not-holds_due-clause-settled c =
    let under = c.args.pins.now in
    let old : Space = record { free = c.self.inside.free.free; released = c.self.inside.released.items; pins = c.self.inside.pins.items; ticks = c.self.inside.free.ticks } in
    let none : list_any (λ (r : Release). is_due under c.args.group r.group) old.released ≡ false =
    subst (λ (rs : List Release). list_any (λ (r : Release). is_due under c.args.group r.group) rs ≡ false) c.deref.ensures.value (sym c.holds_due.ensures ∙ c.if-not-holds_due.true) in
    rw (← c.self.view_is) (nothing_settles under old c.args.group none)
