use Rattle.std.proofs.Common.{◌≡◌, ◌≤◌, ◌∙◌, length, sym, subst}
use Rattle.std.proofs.lemmas.Result.{IfOk-weaker, IfErr-weaker}
use Rattle.dnode_tree.proofs.AllPicked.{sees_born, all_walked}
use Rattle.dnode_tree.specs.Rewriting.{AreDistinct}
use Rattle.dnode_tree.specs.Younger.{is_younger, younger}
use Rattle.objset.proofs.YoungerNodes.{blocks_born, nodes_born, all_refused}
use Rattle.objset.proofs.node_walks.nodes_within.Goals as goal

pub returns-clause-value : goal.returns-clause-value
returns-clause-value g c =
    IfOk-weaker c.nodes_younger.result _ _
    (λ found told stored nodes blocks held has tell.
    let there = told stored nodes blocks held has tell in (
      there.0 ∙ blocks_born stored c.args.birth c.args.set.now nodes blocks c.requires has,
      there.1 ∙ nodes_born stored c.args.birth c.args.set.now nodes blocks c.requires has,
    ))
    c.nodes_younger.ensures.value

pub returns-clause-found : goal.returns-clause-found
returns-clause-found g c =
    IfOk-weaker c.nodes_younger.result _ _
    (λ found walked. all_walked (is_younger 0) sees_born c.args.store.now.spaces c.args.set.now.dnodes c.args.birth found.blocks.items (sees_born c.args.set.now.dnodes.pointer c.requires.0.1) walked)
    c.nodes_younger.ensures.found

pub returns-clause-refused : goal.returns-clause-refused
returns-clause-refused g c =
    IfErr-weaker c.nodes_younger.result _ _
    (λ refusal why. all_refused c.args.store.now c.nodes_younger.new.store c.args.missing.now c.args.set.now c.args.birth c.nodes_younger.new.left refusal c.requires why)
    c.nodes_younger.ensures.refused

pub returns-clause-known : goal.returns-clause-known
returns-clause-known g c =
    IfErr-weaker c.nodes_younger.result _ _
    (λ refusal told stored nodes blocks held has once enough tell.
    let same : blocks ≡ younger 0 blocks = sym (blocks_born stored c.args.birth c.args.set.now nodes blocks c.requires has) in
    told stored nodes blocks held has (subst (λ bs. AreDistinct bs) same once) (subst (λ bs. length bs ≤ c.args.left.now) same enough) tell)
    c.nodes_younger.ensures.known
