use Rattle.std.proofs.Common.{◌≡◌, ◌∙◌, ◌≤◌, refl, sym, subst, None}
use Rattle.std.specs.Prelude.{filter}
use Rattle.std.proofs.lemmas.Result.{IfOk-weaker, IfErr-weaker}
use Rattle.dnode_tree.proofs.AllPicked.{sees_all, seen_as_it_is, all_walked, within_refused}
use Rattle.dnode_tree.proofs.Picking.{all_picked}
use Rattle.dnode_tree.specs.Rewriting.{AreDistinct}
use Rattle.dnode_tree.specs.Within.{indirect_count}
use Rattle.dnode_tree.specs.Younger.{is_picked}
use Rattle.dnode_tree.proofs.within.walk_within.Goals as goal

pub returns-clause-blocks : goal.returns-clause-blocks
returns-clause-blocks g c =
    IfOk-weaker c.walk.result _ _
    (λ found told stored array blocks held tree tell. told stored array blocks held tree tell ∙ all_picked (is_picked None) blocks (λ block is. refl))
    c.walk.ensures.blocks

pub returns-clause-found : goal.returns-clause-found
returns-clause-found g c =
    IfOk-weaker c.walk.result _ _
    (λ found walked. all_walked (is_picked None) sees_all c.args.store.now.spaces c.args.node.now c.args.birth found.items (seen_as_it_is c.args.node.now.pointer) walked)
    c.walk.ensures.found

pub returns-clause-refused : goal.returns-clause-refused
returns-clause-refused g c =
    IfErr-weaker c.walk.result _ _
    (λ refusal why. within_refused (is_picked None) sees_all c.args.store.now c.walk.new.store c.args.missing.now c.args.node.now c.args.birth c.walk.new.left refusal (seen_as_it_is c.args.node.now.pointer) why)
    c.walk.ensures.refused

pub returns-clause-known : goal.returns-clause-known
returns-clause-known g c =
    IfErr-weaker c.walk.result _ _
    (λ refusal told stored array blocks held tree once enough tell.
    let same : blocks ≡ filter (is_picked None) blocks = sym (all_picked (is_picked None) blocks (λ block is. refl)) in
    told stored array blocks held tree (subst (λ bs. AreDistinct bs) same once) (subst (λ bs. indirect_count bs ≤ c.args.left.now) same enough) tell)
    c.walk.ensures.known
