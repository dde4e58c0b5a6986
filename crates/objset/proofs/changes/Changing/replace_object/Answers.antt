use Rattle.std.proofs.Common.{[], None, refl}
use Rattle.std.proofs.lemmas.Result.{IfOk-weaker, IfErr-weaker}
use Rattle.block_store.proofs.Steps.{steps_on}
use Rattle.dnode_tree.proofs.Refusing.{passed_on}
use Rattle.dnode_tree.proofs.Standing.{empty_trees}
use Rattle.dnode_tree.proofs.Steps.{told_sooner, told_later}
use Rattle.objset.proofs.Room.{no_room_sooner}
use Rattle.dnode_tree.proofs.Losses.{loss_in_plan}
use Rattle.objset.proofs.Trees.{tree_replaced}
use Rattle.objset.specs.Changes.{object_copies}
use Rattle.std.proofs.Common.{inl}
use Rattle.std.proofs.Common.{List, ⊎_elim, inr, ap, subst}
use Rattle.std.proofs.lemmas.Result.{on_ok_weaker}
use Rattle.block_store.specs.Demands.{Demand, HavePlaces}
use Rattle.dnode_tree.specs.Spots.{demands_of}
use Rattle.objset.specs.Demands.{empty_node}
use Rattle.block_store.specs.Store.{Store}
use Rattle.objset.proofs.Fits.{replace_refused}
use Rattle.block_store.proofs.Causes.{caused_behind_reads}
use Rattle.objset.proofs.changes.Changing.replace_object.Goals as goal

pub returns-in_err-free_object-clause-known : goal.returns-in_err-free_object-clause-known
returns-in_err-free_object-clause-known g c =
    passed_on _ _ _ c.from_residual.ensures.1
    (λ stored planned bound array blocks plans tree le tell. loss_in_plan _ (c.in_err-free_object.ensures.known stored planned bound array blocks plans tree le tell))

pub returns-clause-steps : goal.returns-clause-steps
returns-clause-steps g c = steps_on _ _ _ _ c.in_ok-free_object.ensures.steps c.write_object.ensures.steps

pub returns-clause-changed : goal.returns-clause-changed
returns-clause-changed g c =
    IfOk-weaker c.write_object.result _ _
    (λ after is stored planned bound array blocks plans tree le tell.
    let mid = c.in_ok-free_object.ensures.noted stored planned bound array blocks plans tree le (told_sooner _ _ _ _ c.in_ok-free_object.ensures.steps c.write_object.ensures.steps tell) in
    let made = is stored planned bound (λ id. None) [] mid.0 (empty_trees stored bound _ refl) le (told_later _ _ _ _ c.in_ok-free_object.ensures.steps c.write_object.ensures.steps tell) in (
      made.0,
      made.1,
      tree_replaced (object_copies c.args.self.copies) planned made.0 c.args.self.birth after _ blocks _ _ _ mid.1 made.2,
    ))
    c.write_object.ensures.changed

pub returns-clause-no_room : goal.returns-clause-no_room
returns-clause-no_room g c =
    IfErr-weaker c.write_object.result _ _ (λ refusal is none. no_room_sooner _ _ _ _ _ c.in_ok-free_object.ensures.steps (is none)) c.write_object.ensures.no_room

pub returns-clause-known : goal.returns-clause-known
returns-clause-known g c =
    IfErr-weaker c.write_object.result _ _
    (λ refusal is stored planned bound array blocks plans tree le tell.
    let mid = c.in_ok-free_object.ensures.noted stored planned bound array blocks plans tree le (told_sooner _ _ _ _ c.in_ok-free_object.ensures.steps c.write_object.ensures.steps tell) in
    is stored planned bound (λ id. None) [] mid.0 (empty_trees stored bound _ refl) le (told_later _ _ _ _ c.in_ok-free_object.ensures.steps c.write_object.ensures.steps tell))
    c.write_object.ensures.known

pub returns-in_err-free_object-clause-refused : goal.returns-in_err-free_object-clause-refused
returns-in_err-free_object-clause-refused g c =
    passed_on _ _ _ c.from_residual.ensures.1 (⊎_elim (λ memory. inl memory) (λ walk. inr (inr walk)) c.in_err-free_object.ensures.refused)

pub returns-clause-places : goal.returns-clause-places
returns-clause-places g c =
    let same = ap (λ (s : Store). s.spaces) c.in_ok-free_object.ensures.reads.rest in
    let demands : List Demand = demands_of (empty_node c.args.node.now.object_type c.args.node.now.data_sectors) (object_copies c.args.self.copies) c.args.writes.now in
    on_ok_weaker c.write_object.result (λ have. subst (λ spaces. HavePlaces spaces demands c.write_object.new.store.spaces) same have) c.write_object.ensures.places

pub returns-clause-refused : goal.returns-clause-refused
returns-clause-refused g c =
    let same = ap (λ (s : Store). s.spaces) c.in_ok-free_object.ensures.reads.rest in
    IfErr-weaker c.write_object.result _ _
    (λ refusal. replace_refused c.args.self c.args.store.now c.free_object.new.store c.write_object.new.store c.args.node.now c.args.writes.now refusal same)
    c.write_object.ensures.refused

pub returns-clause-caused : goal.returns-clause-caused
returns-clause-caused g c =
    IfErr-weaker c.write_object.result _ _ (λ refusal cause. caused_behind_reads _ _ _ _ refusal c.in_ok-free_object.ensures.reads cause) c.write_object.ensures.caused
