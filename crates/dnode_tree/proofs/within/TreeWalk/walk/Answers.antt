use Rattle.std.proofs.Common.{◌≡◌, ◌-◌, ◌++◌, inl, inr, refl, subst, sym, ap, ◌∙◌, arith}
use Rattle.std.proofs.Common.{IsTrue}
use Rattle.std.specs.Prelude.{filter}
use Rattle.dnode.specs.Levels.{levels_of}
use Rattle.dnode_tree.proofs.Refusing.{passed_on}
use Rattle.dnode_tree.proofs.WalksWhere.{refused_for_memory}
use Rattle.dnode_tree.specs.Rewriting.{AreDistinct}
use Rattle.dnode_tree.specs.Subtree.{IsSubtree}
use Rattle.dnode_tree.specs.Tree.{property_of}
use Rattle.dnode_tree.specs.Ways.{reached}
use Rattle.dnode_tree.specs.Within.{indirect_count}
use Rattle.dnode_tree.specs.Younger.{is_picked, seen, IsWalkedWhere, IsRefusedWhere}
use Rattle.dnode_tree.proofs.within.TreeWalk.walk.Goals as goal

pub returns-in_err-collect_below-clause-refused : goal.returns-in_err-collect_below-clause-refused
returns-in_err-collect_below-clause-refused g c =
    passed_on _ _ _ c.from_residual.ensures.1
    (elim c.in_err-collect_below.ensures.refused [
      | inl why ↦ inl
          (subst (λ n. IsRefusedWhere (is_picked c.args.self.since) c.args.store.now c.collect_below.new.store c.args.self.missing.now (property_of c.args.self.node.now) (reached (n - 1) c.args.self.node.now.pointer c.args.birth) c.in_err-collect_below.field-0.0)
          c.levels.ensures why)
      | inr none ↦ inr (none.0, inl none.1)
    ])

pub returns-clause-found : goal.returns-clause-found
returns-clause-found g c =
    let (blocks, added, are) = c.in_ok-collect_below.ensures.found in
    subst (λ found. IsWalkedWhere (is_picked c.args.self.since) c.args.store.now.spaces (property_of c.args.self.node.now) (levels_of c.args.self.node.now.highest - 1) c.args.birth (seen (is_picked c.args.self.since) c.args.self.node.now.pointer) found)
    (sym (added ∙ ap (λ earlier. earlier ++ blocks) c.new-found.ensures.items))
    (subst (λ n. IsWalkedWhere (is_picked c.args.self.since) c.args.store.now.spaces (property_of c.args.self.node.now) (n - 1) c.args.birth (seen (is_picked c.args.self.since) c.args.self.node.now.pointer) blocks) c.levels.ensures are)

pub returns-clause-count : goal.returns-clause-count
returns-clause-count g c =
    omega (arith, c.in_ok-collect_below.ensures.count, ap indirect_count c.new-found.ensures.items)

pub returns-in_err-is_once-clause-refused : goal.returns-in_err-is_once-clause-refused
returns-in_err-is_once-clause-refused g c =
    passed_on _ _ _ c.from_residual-in_err-is_once.ensures.1
    (inl (refused_for_memory (is_picked c.args.self.since) c.args.store.now c.collect_below.new.store c.args.self.missing.now (property_of c.args.self.node.now) (levels_of c.args.self.node.now.highest - 1) c.args.birth c.args.self.node.now.pointer))

pub returns-then-not-is_once-clause-refused : goal.returns-then-not-is_once-clause-refused
returns-then-not-is_once-clause-refused g c =
    let (blocks, added, are) = c.in_ok-collect_below.ensures.found in
    inr (
      refl,
      inr (
        blocks,
        subst (λ n. IsWalkedWhere (is_picked c.args.self.since) c.args.store.now.spaces (property_of c.args.self.node.now) (n - 1) c.args.birth (seen (is_picked c.args.self.since) c.args.self.node.now.pointer) blocks) c.levels.ensures are,
        λ distinct.
            let same : blocks ≡ c.deref.result.now = sym (c.deref.ensures.value ∙ added ∙ ap (λ earlier. earlier ++ blocks) c.new-found.ensures.items) in
            let told : IsTrue c.in_ok-is_once.is_once = c.in_ok-is_once.ensures.1 (subst (λ bs. AreDistinct bs) same distinct) in
            absurd cc,
      ),
    )

pub returns-clause-blocks : goal.returns-clause-blocks
returns-clause-blocks g c =
    λ stored array blocks held tree tell.
    c.in_ok-collect_below.ensures.blocks stored 0 array blocks held
    (subst (λ n. IsSubtree stored (property_of c.args.self.node.now) (n - 1) 0 c.args.birth c.args.self.node.now.pointer array blocks) (sym c.levels.ensures) tree.root) tell
    ∙ ap (λ earlier. earlier ++ filter (is_picked c.args.self.since) blocks) c.new-found.ensures.items

pub returns-in_err-collect_below-clause-known : goal.returns-in_err-collect_below-clause-known
returns-in_err-collect_below-clause-known g c =
    passed_on _ _ _ c.from_residual.ensures.1
    (λ stored array blocks held tree once enough tell. c.in_err-collect_below.ensures.known stored 0 array blocks held
    (subst (λ n. IsSubtree stored (property_of c.args.self.node.now) (n - 1) 0 c.args.birth c.args.self.node.now.pointer array blocks) (sym c.levels.ensures) tree.root) enough tell)

pub returns-then-not-is_once-clause-known : goal.returns-then-not-is_once-clause-known
returns-then-not-is_once-clause-known g c =
    λ stored array blocks held tree once enough tell.
    let found_is = c.in_ok-collect_below.ensures.blocks stored 0 array blocks held
    (subst (λ n. IsSubtree stored (property_of c.args.self.node.now) (n - 1) 0 c.args.birth c.args.self.node.now.pointer array blocks) (sym c.levels.ensures) tree.root) tell
    ∙ ap (λ earlier. earlier ++ filter (is_picked c.args.self.since) blocks) c.new-found.ensures.items in
    let told : IsTrue c.in_ok-is_once.is_once = c.in_ok-is_once.ensures.1 (subst (λ bs. AreDistinct bs) (sym (c.deref.ensures.value ∙ found_is)) once) in
    absurd cc
