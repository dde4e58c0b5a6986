use Rattle.std.proofs.Common.{inl, None, [], refl, sym, ◌∙◌, subst}
use Rattle.std.proofs.lemmas.Result.{IfOk-weaker, IfErr-weaker}
use Rattle.block_pointer.specs.declared.pointer.BlockPtr.TheVariants.{Hole}
use Rattle.dnode.specs.declared.node.ObjectNode.{ObjectNode}
use Rattle.dnode_tree.proofs.Refusing.{ok_both}
use Rattle.dnode_tree.proofs.Standing.{empty_trees}
use Rattle.objset.proofs.Kept.{object_there}
use Rattle.objset.proofs.Trees.{is_created, is_put, is_replaced, is_freed}
use Rattle.objset.specs.Changes.{AreWhole, object_copies}
use Rattle.block_store.proofs.Steps.{steps_none}
use Rattle.std.proofs.Common.{◌≡◌, true, false, List, inr, ap, ⊎_elim}
use Rattle.std.proofs.lemmas.Result.{on_ok_weaker}
use Rattle.block_store.specs.Demands.{Demand, HavePlaces}
use Rattle.block_store.specs.Store.{Store}
use Rattle.objset.proofs.Fits.{create_fits, create_misfits, create_asks, put_misfits, put_fits, put_not_whole, put_asks, put_tree, free_misfits, free_fits, free_asks, free_tree, replace_misfits, replace_fits, replace_not_whole, replace_asks, replace_tree, dnode_refused}
use Rattle.objset.proofs.Refused.{no_way_of_empty}
use Rattle.dnode_tree.proofs.Losses.{loss_in_plan}
use Rattle.objset.proofs.changes.Changing.change_dnode.Goals as goal

pub returns-in-Free-dnode-clause-changed : goal.returns-in-Free-dnode-clause-changed
returns-in-Free-dnode-clause-changed g c =
    IfOk-weaker c.write_object.result _ _
    (λ after is stored planned bound object blocks plans there le tell.
    let node : ObjectNode = record { object_type = c.in-Create.object_type; data_sectors = c.in-Create.data_sectors; highest = 0; pointer = Hole } in
    is_created (object_copies c.args.self.copies) _ stored planned bound c.args.self.birth after c.args.change.now object blocks _ _ c.args.dnode node c.in-Create.writes c.deref.result.now
    c.in-Create.is c.in-Free-dnode.is there c.deref.ensures.value (is stored planned bound (λ id. None) [] plans (empty_trees stored bound node refl) le tell))
    c.write_object.ensures.changed

pub returns-in-Free-dnode-clause-known : goal.returns-in-Free-dnode-clause-known
returns-in-Free-dnode-clause-known g c =
    IfErr-weaker c.write_object.result _ _
    (λ refusal is stored planned bound object blocks plans there le tell. inl (is stored planned bound (λ id. None) [] plans (empty_trees stored bound _ refl) le tell))
    c.write_object.ensures.known

pub returns-else-not-are_whole-clause-changed : goal.returns-else-not-are_whole-clause-changed
returns-else-not-are_whole-clause-changed g c =
    IfOk-weaker c.write_object-in-Put.result _ _
    (λ after is stored planned bound object blocks plans there le tell.
    let has = object_there stored bound c.args.dnode c.args.dnode c.in-Object.node object blocks refl c.in-Object.is there in
    is_put (object_copies c.args.self.copies) _ stored planned bound c.args.self.birth after c.args.change.now object blocks _ _ c.in-Object.node c.in-Put.writes c.deref-in-Put-2.result.now
    c.in-Put.is has c.deref-in-Put-2.ensures.value
    (subst (λ ws. AreWhole c.in-Object.node.data_sectors ws) (c.deref-in-Put.ensures.value ∙ sym c.deref-in-Put-2.ensures.value) (c.if-not-are_whole.ensures.0 refl)) (is stored planned bound has.there.array blocks plans has.tree le tell))
    c.write_object-in-Put.ensures.changed

pub returns-else-not-are_whole-clause-known : goal.returns-else-not-are_whole-clause-known
returns-else-not-are_whole-clause-known g c =
    IfErr-weaker c.write_object-in-Put.result _ _
    (λ refusal is stored planned bound object blocks plans there le tell.
    let has = object_there stored bound c.args.dnode c.args.dnode c.in-Object.node object blocks refl c.in-Object.is there in
    inl (is stored planned bound has.there.array blocks plans has.tree le tell))
    c.write_object-in-Put.ensures.known

pub returns-in-Object-dnode-clause-changed : goal.returns-in-Object-dnode-clause-changed
returns-in-Object-dnode-clause-changed g c =
    IfOk-weaker c.free_object.result _ _
    (λ after is stored planned bound object blocks plans there le tell.
    let has = object_there stored bound c.args.dnode c.args.dnode c.in-Object-dnode.node object blocks refl c.in-Object-dnode.is there in
    let done = is.1 stored planned bound has.there.array blocks plans has.tree le tell in
    is_freed (object_copies c.args.self.copies) _ stored planned bound c.args.self.birth after c.args.change.now object blocks _ _ c.in-Object-dnode.node c.in-Free.is is.0 has done.0 done.1)
    (ok_both c.free_object.result _ _ c.free_object.ensures.free c.free_object.ensures.noted)

pub returns-in-Object-dnode-clause-known : goal.returns-in-Object-dnode-clause-known
returns-in-Object-dnode-clause-known g c =
    IfErr-weaker c.free_object.result _ _
    (λ refusal is stored planned bound object blocks plans there le tell.
    let has = object_there stored bound c.args.dnode c.args.dnode c.in-Object-dnode.node object blocks refl c.in-Object-dnode.is there in
    inl (loss_in_plan refusal (is stored planned bound has.there.array blocks plans has.tree le tell)))
    c.free_object.ensures.known

pub returns-in_default-clause-steps : goal.returns-in_default-clause-steps
returns-in_default-clause-steps g c = steps_none _ _

pub returns-in_default-dnode-clause-steps : goal.returns-in_default-dnode-clause-steps
returns-in_default-dnode-clause-steps g c = steps_none _ _

pub returns-then-not-are_whole-clause-steps : goal.returns-then-not-are_whole-clause-steps
returns-then-not-are_whole-clause-steps g c = steps_none _ _

pub returns-in_default-dnode-2-clause-steps : goal.returns-in_default-dnode-2-clause-steps
returns-in_default-dnode-2-clause-steps g c = steps_none _ _

pub returns-in_default-dnode-3-clause-steps : goal.returns-in_default-dnode-3-clause-steps
returns-in_default-dnode-3-clause-steps g c = steps_none _ _

pub returns-then-not-are_whole-2-clause-steps : goal.returns-then-not-are_whole-2-clause-steps
returns-then-not-are_whole-2-clause-steps g c = steps_none _ _

pub returns-else-not-are_whole-2-clause-changed : goal.returns-else-not-are_whole-2-clause-changed
returns-else-not-are_whole-2-clause-changed g c =
    IfOk-weaker c.replace_object.result _ _
    (λ after is stored planned bound object blocks plans there le tell.
    let has = object_there stored bound c.args.dnode c.args.dnode c.in-Object-dnode-2.node object blocks refl c.in-Object-dnode-2.is there in
    is_replaced (object_copies c.args.self.copies) _ stored planned bound c.args.self.birth after c.args.change.now object blocks _ _ c.in-Object-dnode-2.node c.in-Replace.writes c.deref-in-Replace-2.result.now
    c.in-Replace.is has c.deref-in-Replace-2.ensures.value
    (subst (λ ws. AreWhole c.in-Object-dnode-2.node.data_sectors ws) (c.deref-in-Replace.ensures.value ∙ sym c.deref-in-Replace-2.ensures.value) (c.if-not-are_whole-2.ensures.0 refl)) (is stored planned bound has.there.array blocks plans has.tree le tell))
    c.replace_object.ensures.changed

pub returns-else-not-are_whole-2-clause-known : goal.returns-else-not-are_whole-2-clause-known
returns-else-not-are_whole-2-clause-known g c =
    IfErr-weaker c.replace_object.result _ _
    (λ refusal is stored planned bound object blocks plans there le tell.
    let has = object_there stored bound c.args.dnode c.args.dnode c.in-Object-dnode-2.node object blocks refl c.in-Object-dnode-2.is there in
    inl (is stored planned bound has.there.array blocks plans has.tree le tell))
    c.replace_object.ensures.known

pub returns-in_default-clause-refused : goal.returns-in_default-clause-refused
returns-in_default-clause-refused g c =
    inr (inr (inl (refl, create_misfits c.args.change.now c.args.dnode _ _ c.in-Create.writes c.in-Create.is _ c.in_default.is)))

pub returns-in-Free-dnode-clause-made : goal.returns-in-Free-dnode-clause-made
returns-in-Free-dnode-clause-made g c =
    IfOk-weaker c.write_object.result _ _ (λ after have. create_fits c.args.change.now c.args.dnode _ _ c.in-Create.writes c.in-Create.is c.in-Free-dnode.is) c.write_object.ensures.places

pub returns-in-Free-dnode-clause-places : goal.returns-in-Free-dnode-clause-places
returns-in-Free-dnode-clause-places g c =
    on_ok_weaker c.write_object.result
    (λ have. subst (λ (demands : List Demand). HavePlaces c.args.store.now.spaces demands c.write_object.new.store.spaces)
    (create_asks c.args.change.now c.args.dnode _ _ c.in-Create.writes c.in-Create.is c.args.self.copies c.deref.result.now c.deref.ensures.value) have)
    c.write_object.ensures.places

pub returns-in-Free-dnode-clause-refused : goal.returns-in-Free-dnode-clause-refused
returns-in-Free-dnode-clause-refused g c =
    IfErr-weaker c.write_object.result _ _
    (λ refusal. dnode_refused c.args.self c.args.store.now c.write_object.new.store c.args.change.now c.args.dnode refusal _ _
    (create_asks c.args.change.now c.args.dnode _ _ c.in-Create.writes c.in-Create.is c.args.self.copies c.deref.result.now c.deref.ensures.value)
    (create_fits c.args.change.now c.args.dnode _ _ c.in-Create.writes c.in-Create.is c.in-Free-dnode.is)
    (λ write. inl (no_way_of_empty _ _ _ c.in-Create.object_type c.in-Create.data_sectors c.args.self.birth c.deref.result.now refusal write)))
    c.write_object.ensures.refused

pub returns-in_default-dnode-clause-refused : goal.returns-in_default-dnode-clause-refused
returns-in_default-dnode-clause-refused g c =
    inr (inr (inl (refl, put_misfits c.args.change.now c.args.dnode c.in-Put.writes c.in-Put.is c.in_default-dnode.is)))

pub returns-then-not-are_whole-clause-refused : goal.returns-then-not-are_whole-clause-refused
returns-then-not-are_whole-clause-refused g c =
    inr (inr (inl (
      refl,
      put_not_whole c.args.change.now c.args.dnode c.in-Put.writes c.in-Put.is c.in-Object.node c.in-Object.is
          (λ whole. absurd
          (let clash : false ≡ true = c.if-not-are_whole.ensures.1 (subst (λ ws. AreWhole c.in-Object.node.data_sectors ws) (sym c.deref-in-Put.ensures.value) whole) in cc)),
    )))

pub returns-else-not-are_whole-clause-made : goal.returns-else-not-are_whole-clause-made
returns-else-not-are_whole-clause-made g c =
    on_ok_weaker c.write_object-in-Put.result
    (λ have. put_fits c.args.change.now c.args.dnode c.in-Put.writes c.in-Put.is c.in-Object.node c.in-Object.is
    (subst (λ ws. AreWhole c.in-Object.node.data_sectors ws) c.deref-in-Put.ensures.value (c.if-not-are_whole.ensures.0 refl)))
    c.write_object-in-Put.ensures.places

pub returns-else-not-are_whole-clause-places : goal.returns-else-not-are_whole-clause-places
returns-else-not-are_whole-clause-places g c =
    on_ok_weaker c.write_object-in-Put.result
    (λ have. subst (λ (demands : List Demand). HavePlaces c.args.store.now.spaces demands c.write_object-in-Put.new.store.spaces)
    (put_asks c.args.change.now c.args.dnode c.in-Put.writes c.in-Put.is c.in-Object.node c.in-Object.is c.args.self.copies c.deref-in-Put-2.result.now c.deref-in-Put-2.ensures.value) have)
    c.write_object-in-Put.ensures.places

pub returns-else-not-are_whole-clause-refused : goal.returns-else-not-are_whole-clause-refused
returns-else-not-are_whole-clause-refused g c =
    IfErr-weaker c.write_object-in-Put.result _ _
    (λ refusal. dnode_refused c.args.self c.args.store.now c.write_object-in-Put.new.store c.args.change.now c.args.dnode refusal _ _
    (put_asks c.args.change.now c.args.dnode c.in-Put.writes c.in-Put.is c.in-Object.node c.in-Object.is c.args.self.copies c.deref-in-Put-2.result.now c.deref-in-Put-2.ensures.value)
    (put_fits c.args.change.now c.args.dnode c.in-Put.writes c.in-Put.is c.in-Object.node c.in-Object.is
    (subst (λ ws. AreWhole c.in-Object.node.data_sectors ws) c.deref-in-Put.ensures.value (c.if-not-are_whole.ensures.0 refl)))
    (λ write. inr (put_tree c.args.change.now c.args.dnode c.in-Put.writes c.in-Put.is c.in-Object.node c.in-Object.is c.args.store.now c.write_object-in-Put.new.store c.args.self.missing.now c.args.self.birth
    refusal c.deref-in-Put-2.result.now c.deref-in-Put-2.ensures.value write)))
    c.write_object-in-Put.ensures.refused

pub returns-in_default-dnode-2-clause-refused : goal.returns-in_default-dnode-2-clause-refused
returns-in_default-dnode-2-clause-refused g c =
    inr (inr (inl (refl, free_misfits c.args.change.now c.args.dnode c.in-Free.is c.in_default-dnode-2.is)))

pub returns-in-Object-dnode-clause-made : goal.returns-in-Object-dnode-clause-made
returns-in-Object-dnode-clause-made g c =
    IfOk-weaker c.free_object.result _ _ (λ after free. free_fits c.args.change.now c.args.dnode c.in-Free.is c.in-Object-dnode.node c.in-Object-dnode.is) c.free_object.ensures.free

pub returns-in-Object-dnode-clause-places : goal.returns-in-Object-dnode-clause-places
returns-in-Object-dnode-clause-places g c =
    IfOk-weaker c.free_object.result _ _
    (λ after free. subst (λ (demands : List Demand). HavePlaces c.args.store.now.spaces demands c.free_object.new.store.spaces)
    (free_asks c.args.change.now c.args.dnode c.in-Free.is c.in-Object-dnode.node c.in-Object-dnode.is c.args.self.copies)
    (ap (λ (s : Store). s.spaces) c.free_object.ensures.reads.rest))
    c.free_object.ensures.free

pub returns-in-Object-dnode-clause-refused : goal.returns-in-Object-dnode-clause-refused
returns-in-Object-dnode-clause-refused g c =
    IfErr-weaker c.free_object.result _ _
    (λ refusal why. ⊎_elim (λ memory. inl memory)
    (λ walk. inr (inr (inr (free_tree c.args.change.now c.args.dnode c.in-Free.is c.in-Object-dnode.node c.in-Object-dnode.is c.args.store.now c.free_object.new.store c.args.self.missing.now c.args.self.birth
    refusal walk)))) why)
    c.free_object.ensures.refused

pub returns-in_default-dnode-3-clause-refused : goal.returns-in_default-dnode-3-clause-refused
returns-in_default-dnode-3-clause-refused g c =
    inr (inr (inl (refl, replace_misfits c.args.change.now c.args.dnode c.in-Replace.writes c.in-Replace.is c.in_default-dnode-3.is)))

pub returns-then-not-are_whole-2-clause-refused : goal.returns-then-not-are_whole-2-clause-refused
returns-then-not-are_whole-2-clause-refused g c =
    inr (inr (inl (
      refl,
      replace_not_whole c.args.change.now c.args.dnode c.in-Replace.writes c.in-Replace.is c.in-Object-dnode-2.node c.in-Object-dnode-2.is
          (λ whole. absurd
          (let clash : false ≡ true =
          c.if-not-are_whole-2.ensures.1 (subst (λ ws. AreWhole c.in-Object-dnode-2.node.data_sectors ws) (sym c.deref-in-Replace.ensures.value) whole) in cc)),
    )))

pub returns-else-not-are_whole-2-clause-made : goal.returns-else-not-are_whole-2-clause-made
returns-else-not-are_whole-2-clause-made g c =
    on_ok_weaker c.replace_object.result
    (λ have. replace_fits c.args.change.now c.args.dnode c.in-Replace.writes c.in-Replace.is c.in-Object-dnode-2.node c.in-Object-dnode-2.is
    (subst (λ ws. AreWhole c.in-Object-dnode-2.node.data_sectors ws) c.deref-in-Replace.ensures.value (c.if-not-are_whole-2.ensures.0 refl)))
    c.replace_object.ensures.places

pub returns-else-not-are_whole-2-clause-places : goal.returns-else-not-are_whole-2-clause-places
returns-else-not-are_whole-2-clause-places g c =
    on_ok_weaker c.replace_object.result
    (λ have. subst (λ (demands : List Demand). HavePlaces c.args.store.now.spaces demands c.replace_object.new.store.spaces)
    (replace_asks c.args.change.now c.args.dnode c.in-Replace.writes c.in-Replace.is c.in-Object-dnode-2.node c.in-Object-dnode-2.is c.args.self.copies c.deref-in-Replace-2.result.now c.deref-in-Replace-2.ensures.value) have)
    c.replace_object.ensures.places

pub returns-else-not-are_whole-2-clause-refused : goal.returns-else-not-are_whole-2-clause-refused
returns-else-not-are_whole-2-clause-refused g c =
    IfErr-weaker c.replace_object.result _ _
    (λ refusal. dnode_refused c.args.self c.args.store.now c.replace_object.new.store c.args.change.now c.args.dnode refusal _ _
    (replace_asks c.args.change.now c.args.dnode c.in-Replace.writes c.in-Replace.is c.in-Object-dnode-2.node c.in-Object-dnode-2.is c.args.self.copies c.deref-in-Replace-2.result.now c.deref-in-Replace-2.ensures.value)
    (replace_fits c.args.change.now c.args.dnode c.in-Replace.writes c.in-Replace.is c.in-Object-dnode-2.node c.in-Object-dnode-2.is
    (subst (λ ws. AreWhole c.in-Object-dnode-2.node.data_sectors ws) c.deref-in-Replace.ensures.value (c.if-not-are_whole-2.ensures.0 refl)))
    (λ walk. inr (replace_tree c.args.change.now c.args.dnode c.in-Replace.writes c.in-Replace.is c.in-Object-dnode-2.node c.in-Object-dnode-2.is c.args.store.now c.replace_object.new.store c.args.self.missing.now
    c.args.self.birth refusal walk)))
    c.replace_object.ensures.refused
