use Rattle.std.proofs.Common.{◌≡◌, ◌-◌, ap, sym, subst, ◌∙◌, zero-add}
use Rattle.std.proofs.lemmas.Result.{IfOk-weaker, IfErr-weaker}
use Rattle.std.specs.Option.{IfSome}
use Rattle.dnode_tree.specs.declared.reading.DataBlock.{DataBlock}
use Rattle.dnode_tree.specs.Births.{AreBirths}
use Rattle.dnode_tree.specs.Subtree.{IsSubtree}
use Rattle.dnode_tree.specs.Tree.{property_of}
use Rattle.dnode_tree.proofs.reading.get_block.Goals as goal

pub returns-clause-value : goal.returns-clause-value
returns-clause-value g c =
    IfOk-weaker c.get_below.result _ _
    (λ found is stored array blocks held tree tell.
    is stored 0 array blocks held
    (subst (λ n. IsSubtree stored (property_of c.args.node.now) (n - 1) 0 c.args.birth c.args.node.now.pointer array blocks) (sym c.levels.ensures) tree.root) tell
    ∙ ap array (zero-add c.args.id))
    c.get_below.ensures.value

pub returns-clause-born : goal.returns-clause-born
returns-clause-born g c =
    IfOk-weaker c.get_below.result _ _
    (λ found is stored births held has tell.
    subst (λ n. IfSome found (λ (block : DataBlock). block.birth ≡ births 0 n)) (zero-add c.args.id)
    (is stored 0 births held (subst (λ n. AreBirths stored (n - 1) 0 c.args.node.now.pointer births) (sym c.levels.ensures) has) tell))
    c.get_below.ensures.born

pub returns-clause-known : goal.returns-clause-known
returns-clause-known g c =
    IfErr-weaker c.get_below.result _ _
    (λ refusal is stored array blocks held tree tell.
    is stored 0 array blocks held
    (subst (λ n. IsSubtree stored (property_of c.args.node.now) (n - 1) 0 c.args.birth c.args.node.now.pointer array blocks) (sym c.levels.ensures) tree.root) tell)
    c.get_below.ensures.known
