use Rattle.std.proofs.Common.{◌≡◌, ◌++◌, subst}
use Rattle.dnode_tree.proofs.Refusing.{passed_on}
use Rattle.dnode_tree.specs.Writes.{HasNoRoom}
use Rattle.objset.proofs.Exchanged.{appended}
use Rattle.objset.proofs.Room.{no_room_for_object}
use Rattle.objset.proofs.Trees.{tree_changed}
use Rattle.objset.specs.Changes.{object_copies}
use Rattle.objset.proofs.Fits.{writing_refused}
use Rattle.objset.proofs.changes.Changing.write_object.Goals as goal

pub returns-in_err-done-clause-no_room : goal.returns-in_err-done-clause-no_room
returns-in_err-done-clause-no_room g c =
    passed_on _ _ _ c.from_residual.ensures.1
    (λ is. no_room_for_object c.args.store.now c.put_many.new.store c.args.self.missing.now c.args.node.now c.args.self.copies c.requires.node.0.sectors
    (subst (λ counts. HasNoRoom c.args.store.now c.put_many.new.store c.args.self.missing.now c.args.node.now counts) c.of_objects.ensures (c.in_err-done.ensures.no_room is)))

pub returns-clause-changed : goal.returns-clause-changed
returns-clause-changed g c = λ stored planned bound array blocks plans tree le tell.
    let there = c.in_ok-done.ensures.rewritten stored planned bound array blocks plans tree le tell in
    let noted_are : c.extend_from_slice.new.self.items ≡ c.args.replaced.now.items ++ c.in_ok-done.done.replaced.items =
    appended c.args.replaced.now.items c.deref.result.now c.extend_from_slice.new.self.items c.in_ok-done.done.replaced.items c.in_ok-extend_from_slice.ensures.items c.deref.ensures.value in (
      there.0,
      there.1,
      tree_changed (object_copies c.args.self.copies) c.of_objects.result planned there.0 c.args.self.birth c.in_ok-done.done c.args.node.now c.args.writes.now array blocks c.args.replaced.now.items c.extend_from_slice.new.self.items
          c.of_objects.ensures c.in_ok-done.ensures.grown noted_are there.2,
    )

pub returns-in_err-done-clause-refused : goal.returns-in_err-done-clause-refused
returns-in_err-done-clause-refused g c =
    passed_on _ _ _ c.from_residual.ensures.1
    (writing_refused c.args.self c.args.store.now c.put_many.new.store c.args.node.now c.args.writes.now _ c.of_objects.result c.of_objects.ensures c.in_err-done.ensures.refused)
