use Rattle.std.proofs.Common.{List, inl, refl, subst, sym}
use Rattle.block_pointer.specs.declared.block.Block.{Block}
use Rattle.objset.specs.declared.node_writes.NodeWrite.{NodeWrite}
use Rattle.objset.specs.NodeWrites.{AreNodesRewritten, IsGrownSet, numbers_of, written_nodes, births_written}
use Rattle.dnode_tree.proofs.Refusing.{passed_on}
use Rattle.block_store.proofs.Steps.{steps_none, steps_on}
use Rattle.dnode_tree.proofs.Steps.{told_sooner, told_later}
use Rattle.dnode_tree.specs.Writes.{HasNoRoom}
use Rattle.objset.proofs.Exchanged.{appended}
use Rattle.objset.proofs.Room.{no_room_for_dnodes, no_room_sooner}
use Rattle.objset.proofs.Underway.{set_changed, set_grown}
use Rattle.objset.specs.Changes.{object_copies}
use Rattle.objset.specs.Changing.{AreObjectsChanged}
use Rattle.std.proofs.Common.{ap, ◌∙◌}
use Rattle.objset.specs.declared.changes.Changing.{Changing}
use Rattle.objset.proofs.Placing.{objects_refused, places_with_dnodes, dnodes_refused, set_refused}
use Rattle.objset.proofs.Born.{set_born}
use Rattle.block_store.proofs.Causes.{caused_behind}
use Rattle.objset.proofs.changing.change.Goals as goal

pub returns-in_err-rewrite-clause-steps : goal.returns-in_err-rewrite-clause-steps
returns-in_err-rewrite-clause-steps g c = steps_on _ _ _ _ c.in_ok-writes.ensures.steps c.in_err-rewrite.ensures.steps

pub returns-in_err-rewrite-clause-no_room : goal.returns-in_err-rewrite-clause-no_room
returns-in_err-rewrite-clause-no_room g c = rw (sym c.of_kind-copies.ensures.are) (
    passed_on _ _ _ c.from_residual-in_err-rewrite.ensures.1
    (λ is. no_room_sooner _ _ _ _ _ c.in_ok-writes.ensures.steps
    (no_room_for_dnodes c.change_each.new.store c.put_many.new.store c.args.missing.now c.args.set.now.dnodes c.of_kind-copies.result c.requires.set.1.sectors
    (subst (λ counts. HasNoRoom c.change_each.new.store c.put_many.new.store c.args.missing.now c.args.set.now.dnodes counts) c.of_dnodes.ensures (c.in_err-rewrite.ensures.no_room is)))))

pub returns-in_err-rewrite-clause-known : goal.returns-in_err-rewrite-clause-known
returns-in_err-rewrite-clause-known g c =
    passed_on _ _ _ c.from_residual-in_err-rewrite.ensures.1
    (λ stored planned bound objects own before plans are early le tell.
    let there = c.in_ok-writes.ensures.changed stored planned bound objects own before plans are le (told_sooner _ _ _ _ c.in_ok-writes.ensures.steps c.in_err-rewrite.ensures.steps tell) in
    inl (c.in_err-rewrite.ensures.known stored there.1 bound are.nodes own there.2 are.dnodes le (told_later _ _ _ _ c.in_ok-writes.ensures.steps c.in_err-rewrite.ensures.steps tell)))

pub returns-in_err-extend_from_slice-clause-steps : goal.returns-in_err-extend_from_slice-clause-steps
returns-in_err-extend_from_slice-clause-steps g c = steps_on _ _ _ _ c.in_ok-writes.ensures.steps c.in_ok-rewrite.ensures.steps

pub returns-clause-steps : goal.returns-clause-steps
returns-clause-steps g c = steps_on _ _ _ _ c.in_ok-writes.ensures.steps c.in_ok-rewrite.ensures.steps

pub returns-clause-grown : goal.returns-clause-grown
returns-clause-grown g c =
    set_grown c.args.set.now c.in_ok-rewrite.rewrite.set c.args.changes.now c.in_ok-writes.writes.items c.in_ok-writes.ensures.numbers
    (subst (λ (ws : List NodeWrite). IsGrownSet c.args.set.now c.in_ok-rewrite.rewrite.set ws) c.deref.ensures.value c.in_ok-rewrite.ensures.grown)

pub returns-clause-changed : goal.returns-clause-changed
returns-clause-changed g c = rw (sym c.of_kind-copies.ensures.are) (
    λ stored planned bound objects own before plans are le tell.
    let there = c.in_ok-writes.ensures.changed stored planned bound objects own before plans are le (told_sooner _ _ _ _ c.in_ok-writes.ensures.steps c.in_ok-rewrite.ensures.steps tell) in
    let next = c.in_ok-rewrite.ensures.rewritten stored there.1 bound are.nodes own there.2 are.dnodes le (told_later _ _ _ _ c.in_ok-writes.ensures.steps c.in_ok-rewrite.ensures.steps tell) in (
      there.0,
      next.0,
      next.1,
      set_changed c.of_kind-copies.result stored planned there.1 next.0 c.args.birth c.in_ok-rewrite.rewrite _ c.args.changes.now c.in_ok-writes.writes.items are.nodes (are.dnodes.births 0) objects own before
          c.change_each.new.replaced.items plans.kept are.each
          (subst
          (λ (noted : List Block). AreObjectsChanged (object_copies c.of_kind-copies.result) planned there.1 c.args.birth c.args.changes.now c.in_ok-writes.writes.items are.nodes objects before noted c.change_each.new.replaced.items)
          c.new-replaced.ensures.items there.3)
          (subst (λ counts. AreNodesRewritten counts there.1 next.0 c.args.birth c.in_ok-rewrite.rewrite (written_nodes c.in_ok-writes.writes.items are.nodes) (births_written c.in_ok-writes.writes.items c.args.birth (are.dnodes.births 0)) own) c.of_dnodes.ensures
          (subst (λ (ws : List NodeWrite). AreNodesRewritten c.of_dnodes.result there.1 next.0 c.args.birth c.in_ok-rewrite.rewrite (written_nodes ws are.nodes) (births_written ws c.args.birth (are.dnodes.births 0)) own) c.deref.ensures.value next.2))
          refl (appended c.change_each.new.replaced.items _ _ _ c.in_ok-extend_from_slice.ensures.items c.deref-2.ensures.value),
    ))

pub returns-in_err-writes-clause-refused : goal.returns-in_err-writes-clause-refused
returns-in_err-writes-clause-refused g c = rw (sym c.of_kind-copies.ensures.are) (
    let this : Changing = record { birth = c.args.birth; copies = c.of_kind-copies.result; missing = c.args.missing } in
    passed_on _ _ _ c.from_residual-in_err-writes.ensures.1 (set_refused _ _ _ _ c.args.before _ _ _ _ (objects_refused this c.args.store.now c.change_each.new.store c.args.set.now c.args.changes.now _ c.in_err-writes.ensures.refused)))

pub returns-in_err-rewrite-clause-refused : goal.returns-in_err-rewrite-clause-refused
returns-in_err-rewrite-clause-refused g c = rw (sym c.of_kind-copies.ensures.are) (
    let this : Changing = record { birth = c.args.birth; copies = c.of_kind-copies.result; missing = c.args.missing } in
    passed_on _ _ _ c.from_residual-in_err-rewrite.ensures.1
    (set_refused _ _ _ _ c.args.before _ _ _ _ (dnodes_refused this c.args.store.now c.change_each.new.store c.put_many.new.store c.args.set.now c.args.changes.now (numbers_of c.deref.result.now) c.of_dnodes.result
    (ap numbers_of c.deref.ensures.value ∙ c.in_ok-writes.ensures.same) c.of_dnodes.ensures c.in_ok-writes.ensures.places _ c.in_ok-writes.ensures.steps c.in_err-rewrite.ensures.refused)))

pub returns-clause-places : goal.returns-clause-places
returns-clause-places g c = rw (sym c.of_kind-copies.ensures.are) (
    let this : Changing = record { birth = c.args.birth; copies = c.of_kind-copies.result; missing = c.args.missing } in
    places_with_dnodes this c.args.store.now c.change_each.new.store c.put_many.new.store c.args.set.now c.args.changes.now (numbers_of c.deref.result.now) c.of_dnodes.result
    (ap numbers_of c.deref.ensures.value ∙ c.in_ok-writes.ensures.same) c.of_dnodes.ensures c.in_ok-writes.ensures.places c.in_ok-rewrite.ensures.places)

pub returns-in_err-writes-clause-no_room : goal.returns-in_err-writes-clause-no_room
returns-in_err-writes-clause-no_room g c = rw (sym c.of_kind-copies.ensures.are) (passed_on _ _ _ c.from_residual-in_err-writes.ensures.1 c.in_err-writes.ensures.no_room)

pub returns-in_err-check_root-clause-known : goal.returns-in_err-check_root-clause-known
returns-in_err-check_root-clause-known g c =
    passed_on _ _ _ c.from_residual.ensures.1
    (λ stored planned bound objects own before plans are early le tell.
    absurd (c.in_err-check_root.ensures.late.1 (set_born stored bound c.args.before c.args.set.now objects own before are early)))

pub returns-in_err-check_root-clause-steps : goal.returns-in_err-check_root-clause-steps
returns-in_err-check_root-clause-steps g c = steps_none _ _

pub returns-in_err-writes-clause-known : goal.returns-in_err-writes-clause-known
returns-in_err-writes-clause-known g c =
    passed_on _ _ _ c.from_residual-in_err-writes.ensures.1
    (λ stored planned bound objects own before plans are early le tell. c.in_err-writes.ensures.known stored planned bound objects own before plans are le tell)

pub returns-in_err-rewrite-clause-caused : goal.returns-in_err-rewrite-clause-caused
returns-in_err-rewrite-clause-caused g c =
    passed_on _ _ _ c.from_residual-in_err-rewrite.ensures.1 (caused_behind _ _ _ _ _ c.in_ok-writes.ensures.steps c.in_err-rewrite.ensures.caused)
