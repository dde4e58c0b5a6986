use Rattle.std.proofs.Common.{◌≡◌, ◌-◌, ◌≤◌, inl, inr, refl, sym, ap, subst, arith, lit<}
use Rattle.dnode.specs.Levels.{levels_of}
use Rattle.dnode_tree.proofs.Refusing.{passed_on}
use Rattle.dnode_tree.proofs.WholeGetting.{within_once, within_between, within_highest, behind_highest, none_within, many_found, many_as_in, many_refused}
use Rattle.dnode_tree.proofs.WholeTree.{power_rises}
use Rattle.dnode_tree.specs.Subtree.{IsSubtree}
use Rattle.dnode_tree.specs.Tree.{property_of}
use Rattle.dnode_tree.proofs.many.get_many.Goals as goal

pub add_below-requires-clause-low : goal.add_below-requires-clause-low
add_below-requires-clause-low g c =
    let few : c.levels_of.result ≤ 6 = c.levels_of.ensures.least.least 6 (lit< tt) c.requires.highest in
    omega (arith, few)

pub add_below-requires-clause-room : goal.add_below-requires-clause-room
add_below-requires-clause-room g c =
    let few : c.levels_of.result ≤ 6 = c.levels_of.ensures.least.least 6 (lit< tt) c.requires.highest in
    let short : c.levels_of.result - 1 ≤ 5 = omega (arith, few) in
    omega (arith, power_rises (c.levels_of.result - 1) 5 short)

pub add_below-requires-clause-between : goal.add_below-requires-clause-between
add_below-requires-clause-between g c =
    within_between c.args.ids.now c.split_at.result.0.now c.split_at.result.1.now c.count_before.result c.args.node.now.highest c.split_at.ensures.front c.split_at.ensures.back c.levels_of.result c.levels_of.ensures.least.enough c.count_before.ensures.before

pub add_below-requires-clause-once : goal.add_below-requires-clause-once
add_below-requires-clause-once g c = within_once c.args.ids.now c.split_at.result.0.now c.split_at.result.1.now c.count_before.result c.args.node.now.highest c.split_at.ensures.front c.split_at.ensures.back c.requires.once

pub returns-in_err-add_below-clause-idle : goal.returns-in_err-add_below-clause-idle
returns-in_err-add_below-clause-idle g c = λ either. c.add_below.ensures.idle (elim either [
  | inl far ↦ inl (none_within c.args.ids.now c.split_at.result.0.now c.split_at.result.1.now c.count_before.result c.args.node.now.highest c.split_at.ensures.front c.split_at.ensures.back far c.count_before.ensures.before)
  | inr hole ↦ inr hole
])

pub returns-in_err-add_below-clause-refused : goal.returns-in_err-add_below-clause-refused
returns-in_err-add_below-clause-refused g c =
    let level_is : c.levels_of.result - 1 ≡ levels_of c.args.node.now.highest - 1 = ap (λ n. n - 1) c.levels_of.ensures.value in
    let low = within_highest c.args.ids.now c.split_at.result.0.now c.split_at.result.1.now c.count_before.result c.args.node.now.highest c.split_at.ensures.front c.split_at.ensures.back c.count_before.ensures.before in
    passed_on _ _ _ c.from_residual.ensures.1
    (many_refused c.args.ids.now c.split_at.result.0.now c.split_at.result.1.now c.count_before.result c.args.node.now.highest c.split_at.ensures.front c.split_at.ensures.back
    c.args.store.now c.add_below.new.store c.args.missing.now c.args.node.now c.args.birth (c.levels_of.result - 1) _ level_is refl low c.in_err-add_below.ensures.refused)

pub returns-in_err-add_below-clause-known : goal.returns-in_err-add_below-clause-known
returns-in_err-add_below-clause-known g c =
    let level_is : c.levels_of.result - 1 ≡ levels_of c.args.node.now.highest - 1 = ap (λ n. n - 1) c.levels_of.ensures.value in
    passed_on _ _ _ c.from_residual.ensures.1
    (λ stored array blocks held tree tell.
    c.in_err-add_below.ensures.known stored array blocks held
    (subst (λ l. IsSubtree stored (property_of c.args.node.now) l 0 c.args.birth c.args.node.now.pointer array blocks) (sym level_is) tree.root) tell)

pub returns-in_err-add_nothing-clause-idle : goal.returns-in_err-add_nothing-clause-idle
returns-in_err-add_nothing-clause-idle g c = λ either. c.add_below.ensures.idle (elim either [
  | inl far ↦ inl (none_within c.args.ids.now c.split_at.result.0.now c.split_at.result.1.now c.count_before.result c.args.node.now.highest c.split_at.ensures.front c.split_at.ensures.back far c.count_before.ensures.before)
  | inr hole ↦ inr hole
])

pub returns-clause-idle : goal.returns-clause-idle
returns-clause-idle g c = λ either. c.add_below.ensures.idle (elim either [
  | inl far ↦ inl (none_within c.args.ids.now c.split_at.result.0.now c.split_at.result.1.now c.count_before.result c.args.node.now.highest c.split_at.ensures.front c.split_at.ensures.back far c.count_before.ensures.before)
  | inr hole ↦ inr hole
])

pub returns-clause-value : goal.returns-clause-value
returns-clause-value g c =
    let level_is : c.levels_of.result - 1 ≡ levels_of c.args.node.now.highest - 1 = ap (λ n. n - 1) c.levels_of.ensures.value in
    let far = behind_highest c.args.ids.now c.split_at.result.0.now c.split_at.result.1.now c.count_before.result c.args.node.now.highest c.split_at.ensures.front c.split_at.ensures.back c.requires.once c.count_before.ensures.behind in
    many_as_in c.args.ids.now c.split_at.result.0.now c.split_at.result.1.now c.count_before.result c.args.node.now.highest c.split_at.ensures.front c.split_at.ensures.back
    c.args.store.now c.add_below.new.store c.args.missing.now c.args.node.now c.args.birth (c.levels_of.result - 1)
    c.new-found.result.items c.add_below.new.found.items c.add_nothing.new.found.items level_is refl c.new-found.ensures.items c.in_ok-add_below.ensures.added
    c.in_ok-add_nothing.ensures.ok far

pub returns-clause-found : goal.returns-clause-found
returns-clause-found g c =
    let level_is : c.levels_of.result - 1 ≡ levels_of c.args.node.now.highest - 1 = ap (λ n. n - 1) c.levels_of.ensures.value in
    let far = behind_highest c.args.ids.now c.split_at.result.0.now c.split_at.result.1.now c.count_before.result c.args.node.now.highest c.split_at.ensures.front c.split_at.ensures.back c.requires.once c.count_before.ensures.behind in
    let low = within_highest c.args.ids.now c.split_at.result.0.now c.split_at.result.1.now c.count_before.result c.args.node.now.highest c.split_at.ensures.front c.split_at.ensures.back c.count_before.ensures.before in
    many_found c.args.ids.now c.split_at.result.0.now c.split_at.result.1.now c.count_before.result c.args.node.now.highest c.split_at.ensures.front c.split_at.ensures.back
    c.args.store.now c.add_below.new.store c.args.missing.now c.args.node.now c.args.birth (c.levels_of.result - 1)
    c.new-found.result.items c.add_below.new.found.items c.add_nothing.new.found.items level_is refl c.new-found.ensures.items c.in_ok-add_below.ensures.added
    c.in_ok-add_nothing.ensures.ok low far
