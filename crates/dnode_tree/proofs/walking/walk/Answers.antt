use Rattle.std.proofs.Common.{◌-◌, ◌++◌, subst, sym, ap, ◌∙◌}
use Rattle.dnode_tree.proofs.Refusing.{passed_on}
use Rattle.dnode_tree.specs.Subtree.{IsSubtree}
use Rattle.dnode_tree.specs.Tree.{property_of}
use Rattle.dnode.specs.Levels.{levels_of}
use Rattle.dnode_tree.specs.Ways.{reached, IsWalked, IsWalkRefused}
use Rattle.dnode_tree.proofs.walking.walk.Goals as goal

pub returns-in_err-collect_below-clause-known : goal.returns-in_err-collect_below-clause-known
returns-in_err-collect_below-clause-known g c =
    passed_on _ _ _ c.from_residual.ensures.1
    (λ stored array blocks held tree tell. c.in_err-collect_below.ensures.known stored 0 array blocks held
    (subst (λ n. IsSubtree stored (property_of c.args.node.now) (n - 1) 0 c.args.birth c.args.node.now.pointer array blocks) (sym c.levels.ensures) tree.root) tell)

pub returns-clause-blocks : goal.returns-clause-blocks
returns-clause-blocks g c =
    λ stored array blocks held tree tell.
    c.in_ok-collect_below.ensures.blocks stored 0 array blocks held
    (subst (λ n. IsSubtree stored (property_of c.args.node.now) (n - 1) 0 c.args.birth c.args.node.now.pointer array blocks) (sym c.levels.ensures) tree.root) tell
    ∙ ap (λ earlier. earlier ++ blocks) c.new-found.ensures.items

pub returns-in_err-collect_below-clause-refused : goal.returns-in_err-collect_below-clause-refused
returns-in_err-collect_below-clause-refused g c =
    passed_on _ _ _ c.from_residual.ensures.1
    (subst (λ n. IsWalkRefused c.args.store.now c.collect_below.new.store c.args.missing.now (property_of c.args.node.now) (reached (n - 1) c.args.node.now.pointer c.args.birth) c.in_err-collect_below.field-0.0)
    c.levels.ensures c.in_err-collect_below.ensures.refused)

pub returns-clause-found : goal.returns-clause-found
returns-clause-found g c =
    let (blocks, added, are) = c.in_ok-collect_below.ensures.found in
    subst (λ found. IsWalked c.args.store.now.spaces (property_of c.args.node.now) (levels_of c.args.node.now.highest - 1) c.args.birth c.args.node.now.pointer found)
    (sym (added ∙ ap (λ earlier. earlier ++ blocks) c.new-found.ensures.items))
    (subst (λ n. IsWalked c.args.store.now.spaces (property_of c.args.node.now) (n - 1) c.args.birth c.args.node.now.pointer blocks) c.levels.ensures are)
