use Rattle.std.proofs.Common.{inl, sym, subst}
use Rattle.dnode_tree.proofs.Refusing.{passed_on}
use Rattle.block_store.proofs.Steps.{steps_on, steps_read}
use Rattle.dnode_tree.proofs.Steps.{told_sooner, told_later}
use Rattle.objset.proofs.Kept.{births_of_later, nodes_later, within_set}
use Rattle.objset.proofs.Room.{no_room_sooner}
use Rattle.dnode_tree.proofs.Losses.{loss_in_plan}
use Rattle.objset.specs.Objects.{IsObject}
use Rattle.std.proofs.Common.{List, inr, ap, ◌∙◌}
use Rattle.block_store.specs.Demands.{Demand, HavePlaces}
use Rattle.block_store.specs.Store.{Store}
use Rattle.objset.specs.Demands.{demands_of_change}
use Rattle.objset.proofs.Demands.{demands_of_one}
use Rattle.objset.proofs.Found.{dnode_found_of}
use Rattle.objset.proofs.Refused.{node_refused, dnode_late, one_change_refused}
use Rattle.objset.proofs.Born.{found_born}
use Rattle.block_store.proofs.Causes.{caused_behind_reads}
use Rattle.objset.proofs.changes.Changing.change_one.Goals as goal

pub returns-in_err-found-clause-known : goal.returns-in_err-found-clause-known
returns-in_err-found-clause-known g c =
    passed_on _ _ _ c.from_residual.ensures.1
    (λ stored planned bound objects own before plans are le tell.
    inl (loss_in_plan _ (c.in_err-found.ensures.known stored are.nodes own plans.held (nodes_later stored bound c.args.self.birth c.args.set.now are.nodes own le are.dnodes) tell)))

pub returns-in_err-node-clause-steps : goal.returns-in_err-node-clause-steps
returns-in_err-node-clause-steps g c = steps_on _ _ _ _ (steps_read _ _ _ c.in_ok-found.ensures.reads) c.in_err-node.ensures.steps

pub returns-in_err-node-clause-no_room : goal.returns-in_err-node-clause-no_room
returns-in_err-node-clause-no_room g c =
    let read = steps_read _ _ _ c.in_ok-found.ensures.reads in
    passed_on _ _ _ c.from_residual-in_err-node.ensures.1 (λ is. no_room_sooner _ _ _ _ _ read (c.in_err-node.ensures.no_room is))

pub returns-in_err-node-clause-known : goal.returns-in_err-node-clause-known
returns-in_err-node-clause-known g c =
    let read = steps_read _ _ _ c.in_ok-found.ensures.reads in
    passed_on _ _ _ c.from_residual-in_err-node.ensures.1
    (λ stored planned bound objects own before plans are le tell.
    let same = c.in_ok-found.ensures.value stored are.nodes own plans.held (nodes_later stored bound c.args.self.birth c.args.set.now are.nodes own le are.dnodes)
    (told_sooner _ _ _ _ read c.in_err-node.ensures.steps tell) in
    c.in_err-node.ensures.known stored planned bound (objects c.args.change.now.number) (before c.args.change.now.number) (c.in_ok-found.ensures.reads.plans stored planned plans)
    (subst (λ dnode. IsObject stored bound dnode (objects c.args.change.now.number) (before c.args.change.now.number)) (sym same) (within_set stored bound c.args.set.now objects own before c.requires.set are c.args.change.now.number)) le
    (told_later _ _ _ _ read c.in_err-node.ensures.steps tell))

pub returns-clause-steps : goal.returns-clause-steps
returns-clause-steps g c = steps_on _ _ _ _ (steps_read _ _ _ c.in_ok-found.ensures.reads) c.in_ok-node.ensures.steps

pub returns-clause-changed : goal.returns-clause-changed
returns-clause-changed g c =
    let read = steps_read _ _ _ c.in_ok-found.ensures.reads in
    λ stored planned bound objects own before plans are le tell.
    let same = c.in_ok-found.ensures.value stored are.nodes own plans.held (nodes_later stored bound c.args.self.birth c.args.set.now are.nodes own le are.dnodes)
    (told_sooner _ _ _ _ read c.in_ok-node.ensures.steps tell) in
    c.in_ok-node.ensures.changed stored planned bound (objects c.args.change.now.number) (before c.args.change.now.number) (c.in_ok-found.ensures.reads.plans stored planned plans)
    (subst (λ dnode. IsObject stored bound dnode (objects c.args.change.now.number) (before c.args.change.now.number)) (sym same) (within_set stored bound c.args.set.now objects own before c.requires.set are c.args.change.now.number)) le
    (told_later _ _ _ _ read c.in_ok-node.ensures.steps tell)

pub returns-in_err-found-clause-steps : goal.returns-in_err-found-clause-steps
returns-in_err-found-clause-steps g c = steps_read _ _ _ c.in_err-found.ensures.reads

pub returns-in_err-found-clause-refused : goal.returns-in_err-found-clause-refused
returns-in_err-found-clause-refused g c =
    passed_on _ _ _ c.from_residual.ensures.1
    (inr (inr (node_refused c.args.store.now c.get.new.store c.args.self.missing.now c.args.set.now c.args.self.birth c.args.change.now _ c.in_err-found.ensures.refused)))

pub returns-in_err-node-clause-refused : goal.returns-in_err-node-clause-refused
returns-in_err-node-clause-refused g c =
    passed_on _ _ _ c.from_residual-in_err-node.ensures.1
    (one_change_refused c.args.self c.args.store.now c.get.new.store c.change_dnode.new.store c.args.set.now c.args.change.now c.in_ok-found.found.dnode _ (steps_read _ _ _ c.in_ok-found.ensures.reads)
    (ap (λ (s : Store). s.spaces) c.in_ok-found.ensures.reads.rest) (dnode_found_of c.in_ok-found.found c.in_ok-found.ensures.found c.in_ok-check_dnode.ensures.early) c.in_err-node.ensures.refused)

pub returns-clause-places : goal.returns-clause-places
returns-clause-places g c =
    let same = ap (λ (s : Store). s.spaces) c.in_ok-found.ensures.reads.rest in
    let demands : List Demand = demands_of_change c.args.self.copies c.args.change.now.change c.in_ok-found.found.dnode in (
      demands,
      demands_of_one c.args.store.now.spaces c.args.set.now c.args.self.birth c.args.self.copies c.args.change.now c.in_ok-found.found.dnode (dnode_found_of c.in_ok-found.found c.in_ok-found.ensures.found c.in_ok-check_dnode.ensures.early) c.in_ok-node.ensures.made,
      subst (λ spaces. HavePlaces spaces demands c.change_dnode.new.store.spaces) same c.in_ok-node.ensures.places,
    )

-- ---- what the dnode leads to is too late

pub returns-in_err-check_dnode-clause-steps : goal.returns-in_err-check_dnode-clause-steps
returns-in_err-check_dnode-clause-steps g c = steps_read _ _ _ c.in_ok-found.ensures.reads

pub returns-in_err-check_dnode-clause-known : goal.returns-in_err-check_dnode-clause-known
returns-in_err-check_dnode-clause-known g c =
    passed_on _ _ _ c.from_residual-in_err-check_dnode.ensures.1
    (λ stored planned bound objects own before plans are le tell.
    let whole = nodes_later stored bound c.args.self.birth c.args.set.now are.nodes own le are.dnodes in
    absurd (c.in_err-check_dnode.ensures.late.1
    (found_born stored _ c.in_ok-found.found.birth (are.nodes c.args.change.now.number) c.in_ok-found.found.dnode (objects c.args.change.now.number) (before c.args.change.now.number)
    (c.in_ok-found.ensures.value stored are.nodes own plans.held whole tell) (are.each c.args.change.now.number)
    (λ some. c.in_ok-found.ensures.born stored are.nodes own plans.held whole tell some
    ∙ births_of_later stored bound c.args.self.birth c.args.set.now are.nodes own le are.dnodes c.args.change.now.number))))

pub returns-in_err-check_dnode-clause-refused : goal.returns-in_err-check_dnode-clause-refused
returns-in_err-check_dnode-clause-refused g c =
    passed_on _ _ _ c.from_residual-in_err-check_dnode.ensures.1
    (inr (inr (dnode_late c.args.store.now c.get.new.store c.args.self.missing.now c.args.set.now c.args.self.birth c.args.change.now _ c.in_ok-found.found c.in_ok-found.ensures.found c.in_err-check_dnode.ensures.late)))

pub returns-in_err-node-clause-caused : goal.returns-in_err-node-clause-caused
returns-in_err-node-clause-caused g c =
    passed_on _ _ _ c.from_residual-in_err-node.ensures.1 (caused_behind_reads _ _ _ _ _ c.in_ok-found.ensures.reads c.in_err-node.ensures.caused)
