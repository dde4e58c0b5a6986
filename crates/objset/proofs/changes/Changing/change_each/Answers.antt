use Rattle.std.proofs.Common.{◌≡◌, ◌⊎◌, ◌↔◌, ℕ, ◌+◌, ◌<◌, All, List, [], take, Option, inl, inr, ⊎_elim, sym, subst}
use Rattle.std.specs.Prelude.{Any}
use Rattle.std.proofs.lemmas.List.{take_all}
use Rattle.block_store.specs.declared.refusal.Refusal.{Refusal}
use Rattle.block_store.specs.declared.refusal.Refusal.TheVariants.{BadPointer, DiskFault}
use Rattle.objset.specs.declared.node_writes.NodeWrite.{NodeWrite}
use Rattle.dnode_tree.proofs.Refusing.{passed_on}
use Rattle.block_store.proofs.Steps.{steps_on}
use Rattle.dnode_tree.specs.Writes.{IsForRoom}
use Rattle.objset.specs.NodeWrites.{numbers_of}
use Rattle.objset.specs.declared.changes.ObjectChange.{ObjectChange}
use Rattle.objset.specs.Changes.{MayChange}
use Rattle.objset.specs.Objects.{Object}
use Rattle.objset.proofs.Room.{no_room_sooner}
use Rattle.objset.specs.Changing.{HavePlacesFor}
use Rattle.objset.proofs.Placing.{ArePlacedFor, of_changes, placing_begins, placing_goes_on, placing_fails}
use Rattle.objset.proofs.Underway.{HasChanged, IsUnderway, underway_begins, underway_goes_on, underway_fails}
use Rattle.block_store.proofs.Causes.{caused_behind}
use Rattle.objset.proofs.changes.Changing.change_each.Goals as goal

pub loop-change-init : goal.loop-change-init
loop-change-init g c =
    let Starts : List NodeWrite → Type 0 = λ ws.
    IsUnderway c.args.self.copies c.args.store.now c.args.store.now c.args.self.missing.now c.args.set.now c.args.self.birth [] ws c.args.replaced.now.items c.args.replaced.now.items
    × ArePlacedFor c.args.self c.args.store.now c.args.store.now c.args.set.now [] ws in
    subst Starts (sym c.new-writes.ensures.items) (
      underway_begins c.args.self.copies c.args.store.now c.args.self.missing.now c.args.set.now c.args.self.birth c.args.replaced.now.items c.requires.set,
      placing_begins c.args.self c.args.store.now c.args.set.now,
    )

pub returns-in_err-write-clause-steps : goal.returns-in_err-write-clause-steps
returns-in_err-write-clause-steps g c = steps_on _ _ _ _ c.loop-change.invariant.0.steps c.in_err-write.ensures.steps

pub returns-in_err-write-clause-no_room : goal.returns-in_err-write-clause-no_room
returns-in_err-write-clause-no_room g c =
    passed_on _ _ _ c.from_residual.ensures.1 (λ is. no_room_sooner _ _ _ _ _ c.loop-change.invariant.0.steps (c.in_err-write.ensures.no_room is))

pub returns-in_err-write-clause-known : goal.returns-in_err-write-clause-known
returns-in_err-write-clause-known g c =
    let refusal : Refusal = c.in_err-write.field-0.0 in
    passed_on _ _ _ c.from_residual.ensures.1
    (underway_fails c.args.self.copies c.args.store.now c.loop-change.store c.change_one.new.store c.args.self.missing.now c.args.set.now c.args.self.birth c.args.changes.now c.loop-change.change-index c.change-item.result
    c.loop-change.writes.items c.args.replaced.now.items c.loop-change.replaced.items c.loop-change.invariant.0 c.loop-change-test.true c.change-item.is c.requires.numbers c.requires.order
    c.in_err-write.ensures.steps
    (λ (objects : ℕ → Option Object). (IsForRoom refusal ⊎ (refusal ≡ DiskFault)) ⊎ ((refusal ≡ BadPointer) × Any (λ (change : ObjectChange). ¬ MayChange change.change (objects change.number)) c.args.changes.now))
    (λ stored planned bound objects own before plans are le tell.
    ⊎_elim (λ room. inl room)
    (λ bad. inr (bad.0, (c.loop-change.change-index, c.change-item.result, c.loop-change-test.true, sym c.change-item.is, bad.1)))
    (c.in_err-write.ensures.known stored planned bound objects own before plans are le tell)))

pub returns-in_err-push-clause-steps : goal.returns-in_err-push-clause-steps
returns-in_err-push-clause-steps g c = steps_on _ _ _ _ c.loop-change.invariant.0.steps c.in_ok-write.ensures.steps

pub loop-change-preserved : goal.loop-change-preserved
loop-change-preserved g c =
    let GoesOn : List NodeWrite → Type 0 = λ ws.
    IsUnderway c.args.self.copies c.args.store.now c.change_one.new.store c.args.self.missing.now c.args.set.now c.args.self.birth (take (c.loop-change.change-index + 1) c.args.changes.now) ws
    c.args.replaced.now.items c.change_one.new.replaced.items
    × ArePlacedFor c.args.self c.args.store.now c.change_one.new.store c.args.set.now (take (c.loop-change.change-index + 1) c.args.changes.now) ws in
    subst GoesOn (sym c.in_ok-push.ensures) (
      underway_goes_on c.args.self.copies c.args.store.now c.loop-change.store c.change_one.new.store c.args.self.missing.now c.args.set.now c.args.self.birth c.args.changes.now c.loop-change.change-index c.change-item.result
          c.loop-change.writes.items c.args.replaced.now.items c.loop-change.replaced.items c.loop-change.invariant.0 c.loop-change-test.true c.change-item.is c.requires.numbers c.requires.order
          c.in_ok-write.ensures.steps c.in_ok-write.write c.change_one.new.replaced.items c.in_ok-write.ensures.number c.in_ok-write.ensures.fits c.in_ok-write.ensures.changed,
      placing_goes_on c.args.self c.args.store.now c.loop-change.store c.change_one.new.store c.args.set.now c.args.changes.now c.loop-change.change-index c.change-item.result c.loop-change.writes.items
          c.loop-change.invariant.0.steps c.loop-change.invariant.1 c.loop-change-test.true c.change-item.is c.in_ok-write.write c.in_ok-write.ensures.number c.in_ok-write.ensures.places,
    )

pub returns-clause-changed : goal.returns-clause-changed
returns-clause-changed g c =
    subst
    (λ (changes : List ObjectChange). HasChanged c.args.self.copies c.args.store.now c.loop-change.store c.args.self.missing.now c.args.set.now c.args.self.birth changes c.loop-change.writes.items c.args.replaced.now.items c.loop-change.replaced.items)
    (take_all c.loop-change.change-index c.args.changes.now c.loop-change-test.false) c.loop-change.invariant.0.has_changed

pub returns-clause-numbers : goal.returns-clause-numbers
returns-clause-numbers g c =
    subst
    (λ (changes : List ObjectChange). (number : ℕ) → All (λ change. change.number < number) changes ↔ All (λ write. write.number < number) c.loop-change.writes.items)
    (take_all c.loop-change.change-index c.args.changes.now c.loop-change-test.false) c.loop-change.invariant.0.below

pub returns-in_err-write-clause-refused : goal.returns-in_err-write-clause-refused
returns-in_err-write-clause-refused g c =
    passed_on _ _ _ c.from_residual.ensures.1
    (placing_fails c.args.self c.args.store.now c.loop-change.store c.change_one.new.store c.args.set.now c.args.changes.now c.loop-change.change-index c.change-item.result c.loop-change.writes.items
    c.loop-change.invariant.0.steps c.loop-change.invariant.1 c.loop-change-test.true c.change-item.is _ c.in_err-write.ensures.refused)

pub returns-clause-same : goal.returns-clause-same
returns-clause-same g c =
    subst (λ (changes : List ObjectChange). numbers_of c.loop-change.writes.items ≡ of_changes changes) (take_all c.loop-change.change-index c.args.changes.now c.loop-change-test.false)
    c.loop-change.invariant.1.numbers

pub returns-clause-places : goal.returns-clause-places
returns-clause-places g c =
    subst (λ (changes : List ObjectChange). HavePlacesFor c.args.self c.args.store.now c.loop-change.store c.args.set.now changes)
    (take_all c.loop-change.change-index c.args.changes.now c.loop-change-test.false) c.loop-change.invariant.1.have

pub returns-in_err-write-clause-caused : goal.returns-in_err-write-clause-caused
returns-in_err-write-clause-caused g c =
    passed_on _ _ _ c.from_residual.ensures.1 (caused_behind _ _ _ _ _ c.loop-change.invariant.0.steps c.in_err-write.ensures.caused)
