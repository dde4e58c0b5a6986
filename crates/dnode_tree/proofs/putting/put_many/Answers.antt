use Rattle.std.proofs.Common.{◌≡◌, suc, lit<, subst, ◌+◌, ◌-◌, ◌*◌, ◌^◌, ◌<◌, ◌≤◌, refl, ap, ◌∙◌, arith, add-one}
use Rattle.dnode.specs.Levels.{levels_of}
use Rattle.dnode_tree.proofs.Raising.{six_levels}
use Rattle.dnode_tree.proofs.NewArrays.{behind_all}
use Rattle.dnode_tree.proofs.PutRefused.{growing_begins, growing_on, put_root_refused, put_raise_refused}
use Rattle.dnode_tree.specs.Writes.{highest_with}
use Rattle.dnode_tree.proofs.Raised.{raised_begins, raised_on, raised_fails, root_fails, fails_sooner, spots_grown}
use Rattle.dnode_tree.specs.Spots.{levels_more}
use Rattle.dnode_tree.proofs.Spots.{HavePlacesAt, LackPlacesAt}
use Rattle.dnode_tree.proofs.Refusing.{passed_on}
use Rattle.dnode_tree.proofs.Spans.{span_up}
use Rattle.block_store.proofs.Steps.{steps_on}
use Rattle.dnode_tree.proofs.Steps.{no_room_on}
use Rattle.dnode_tree.proofs.WholeTree.{raising_begins, raising_goes_on, raising_fails, power_rises, level_between, root_of, tree_rewritten, tree_renewed}
use Rattle.block_store.proofs.Causes.{caused_behind}
use Rattle.dnode_tree.proofs.putting.put_many.Goals as goal

pub returns-in_err-pointer-clause-known : goal.returns-in_err-pointer-clause-known
returns-in_err-pointer-clause-known g c =
    passed_on _ _ _ c.from_residual.ensures.1
    (λ stored planned bound array blocks plans tree le tell.
    c.in_err-pointer.ensures.known stored planned array blocks plans (root_of stored bound c.args.birth c.args.node.now array blocks le tree) tell)

pub loop-level-init : goal.loop-level-init
loop-level-init g c =
    let level_is = ap (λ n. n - 1) c.levels_of-levels.ensures.value in
    let few : c.levels_of-levels.result ≤ 6 = c.levels_of-levels.ensures.least.least 6 (lit< tt) c.requires.node.0.highest in
    let short : c.levels_of-levels.result - 1 ≤ 5 = omega (arith, few) in
    let small : c.span.result ≤ 128 ^ 5 = omega (arith, c.span.ensures.value, power_rises (c.levels_of-levels.result - 1) 5 short) in (
      raising_begins _ _ _ _ _ _ _ _ _ _ _ _ _ c.count_before.ensures.before c.count_before.ensures.behind c.split_at.ensures.front c.split_at.ensures.back c.requires.order c.requires.ids
          _ level_is c.span.ensures.value small c.new-replaced.ensures.items c.requires.whole c.in_ok-pointer.ensures.steps c.in_ok-pointer.ensures.fits c.in_ok-pointer.ensures.property
          c.in_ok-pointer.ensures.rewritten,
      raised_begins c.args.node.now c.args.copies _ _ _ _ c.args.writes.now _ _ _ _ level_is c.span.ensures.value c.split_at.ensures.front c.split_at.ensures.back
          c.count_before.ensures.before (behind_all _ _ _ c.requires.order c.count_before.ensures.behind) c.in_ok-pointer.ensures.there c.in_ok-pointer.ensures.places,
      growing_begins c.args.store.now.spaces c.args.node.now c.args.birth _ _ _ c.args.writes.now _ _ level_is c.split_at.ensures.front c.split_at.ensures.back c.in_ok-pointer.ensures.full,
    )

pub raise-requires-clause-between : goal.raise-requires-clause-between
raise-requires-clause-between g c =
    let few : c.levels_of-new_levels.result ≤ 6 = c.levels_of-new_levels.ensures.least.least 6 (lit< tt) c.highest_of-highest.ensures.small in
    let low : c.loop-level.level < 5 = omega (arith, few, c.loop-level-test.true) in
    let middle_is : c.span-in-loop-level.result ≡ 128 * 128 ^ c.loop-level.level =
    omega (arith, c.span-in-loop-level.ensures.value, span_up (c.loop-level.level + 1) c.loop-level.level (add-one c.loop-level.level)) in
    let small : c.span-in-loop-level.result ≤ 128 ^ 5 = omega (arith, middle_is, six_levels c.loop-level.level low) in
    let enough = subst (λ n. c.args.node.now.highest < 128 ^ (n - 1)) c.levels_of-levels.ensures.value c.levels_of-levels.ensures.least.enough in
    level_between _ _ _ _ _ _ _ _ _ _ _ _ _ _ c.loop-level.invariant.0 low middle_is small c.count_before-in-loop-level.ensures.before c.count_before-in-loop-level.ensures.behind
    c.split_at-in-loop-level.ensures.front c.split_at-in-loop-level.ensures.back enough

pub returns-in_err-pointer-2-clause-steps : goal.returns-in_err-pointer-2-clause-steps
returns-in_err-pointer-2-clause-steps g c = steps_on _ _ _ _ c.loop-level.invariant.0.steps c.in_err-pointer-2.ensures.steps

pub returns-in_err-pointer-2-clause-no_room : goal.returns-in_err-pointer-2-clause-no_room
returns-in_err-pointer-2-clause-no_room g c =
    passed_on _ _ _ c.from_residual-in_err-pointer-2.ensures.1 (λ none. no_room_on _ _ _ _ c.args.node.now c.args.copies c.loop-level.invariant.0.steps (c.in_err-pointer-2.ensures.no_room none))

pub returns-in_err-pointer-2-clause-known : goal.returns-in_err-pointer-2-clause-known
returns-in_err-pointer-2-clause-known g c =
    let few : c.levels_of-new_levels.result ≤ 6 = c.levels_of-new_levels.ensures.least.least 6 (lit< tt) c.highest_of-highest.ensures.small in
    let low : c.loop-level.level < 5 = omega (arith, few, c.loop-level-test.true) in
    let middle_is : c.span-in-loop-level.result ≡ 128 * 128 ^ c.loop-level.level =
    omega (arith, c.span-in-loop-level.ensures.value, span_up (c.loop-level.level + 1) c.loop-level.level (add-one c.loop-level.level)) in
    let small : c.span-in-loop-level.result ≤ 128 ^ 5 = omega (arith, middle_is, six_levels c.loop-level.level low) in
    let enough = subst (λ n. c.args.node.now.highest < 128 ^ (n - 1)) c.levels_of-levels.ensures.value c.levels_of-levels.ensures.least.enough in
    passed_on _ _ _ c.from_residual-in_err-pointer-2.ensures.1
    (raising_fails _ _ _ _ _ _ _ _ _ _ _ _ _ _ c.loop-level.invariant.0 low middle_is small c.count_before-in-loop-level.ensures.before c.count_before-in-loop-level.ensures.behind
    c.split_at-in-loop-level.ensures.front c.split_at-in-loop-level.ensures.back enough _ c.in_err-pointer-2.ensures.steps _ c.in_err-pointer-2.ensures.known)

pub loop-level-preserved : goal.loop-level-preserved
loop-level-preserved g c =
    let few : c.levels_of-new_levels.result ≤ 6 = c.levels_of-new_levels.ensures.least.least 6 (lit< tt) c.highest_of-highest.ensures.small in
    let low : c.loop-level.level < 5 = omega (arith, few, c.loop-level-test.true) in
    let middle_is : c.span-in-loop-level.result ≡ 128 * 128 ^ c.loop-level.level =
    omega (arith, c.span-in-loop-level.ensures.value, span_up (c.loop-level.level + 1) c.loop-level.level (add-one c.loop-level.level)) in
    let small : c.span-in-loop-level.result ≤ 128 ^ 5 = omega (arith, middle_is, six_levels c.loop-level.level low) in
    let enough = subst (λ n. c.args.node.now.highest < 128 ^ (n - 1)) c.levels_of-levels.ensures.value c.levels_of-levels.ensures.least.enough in (
      raising_goes_on _ _ _ _ _ _ _ _ _ _ _ _ _ _ c.loop-level.invariant.0 low middle_is small c.count_before-in-loop-level.ensures.before c.count_before-in-loop-level.ensures.behind
          c.split_at-in-loop-level.ensures.front c.split_at-in-loop-level.ensures.back enough _ c.in_ok-pointer-2.ensures.steps _ _ c.in_ok-pointer-2.ensures.fits c.in_ok-pointer-2.ensures.property
          c.in_ok-pointer-2.ensures.rewritten,
      raised_on c.args.node.now c.args.copies _ _ _ _ _ _ _ _ c.loop-level.invariant.1 _ _ middle_is c.split_at-in-loop-level.ensures.front c.split_at-in-loop-level.ensures.back
          c.count_before-in-loop-level.ensures.before (behind_all _ _ _ c.loop-level.invariant.0.order c.count_before-in-loop-level.ensures.behind)
          _ _ c.in_ok-pointer-2.ensures.there c.in_ok-pointer-2.ensures.places,
      growing_on c.args.store.now.spaces c.args.node.now c.args.birth _ _ _ _ c.args.writes.now _ _ c.loop-level.invariant.2 c.split_at-in-loop-level.ensures.back
          c.in_ok-pointer-2.ensures.full,
    )

pub returns-clause-rewritten : goal.returns-clause-rewritten
returns-clause-rewritten g c =
    let room : c.args.node.now.highest < 128 ^ (c.levels_of-new_levels.result - 1) = omega (arith, c.levels_of-new_levels.ensures.least.enough, c.highest_of-highest.ensures.from) in
    let grown : c.levels_of-levels.result ≤ c.levels_of-new_levels.result =
    c.levels_of-levels.ensures.least.least c.levels_of-new_levels.result c.levels_of-new_levels.ensures.least.one room in
    let rises : c.levels_of-levels.result - 1 ≤ c.levels_of-new_levels.result - 1 = omega (arith, grown) in
    let at_end : c.loop-level.level ≡ c.levels_of-new_levels.result - 1 = omega (arith, c.loop-level-test.false, c.loop-level.auto.level-end rises) in
    let level_is = at_end ∙ ap (λ n. n - 1) c.levels_of-new_levels.ensures.value in
    tree_rewritten _ _ _ _ _ _ _ _ _ c.loop-level.invariant.0 refl level_is c.highest_of-highest.ensures.from c.highest_of-highest.ensures.room

pub returns-clause-ways : goal.returns-clause-ways
returns-clause-ways g c =
    let room : c.args.node.now.highest < 128 ^ (c.levels_of-new_levels.result - 1) = omega (arith, c.levels_of-new_levels.ensures.least.enough, c.highest_of-highest.ensures.from) in
    let grown : c.levels_of-levels.result ≤ c.levels_of-new_levels.result =
    c.levels_of-levels.ensures.least.least c.levels_of-new_levels.result c.levels_of-new_levels.ensures.least.one room in
    let rises : c.levels_of-levels.result - 1 ≤ c.levels_of-new_levels.result - 1 = omega (arith, grown) in
    let at_end : c.loop-level.level ≡ c.levels_of-new_levels.result - 1 = omega (arith, c.loop-level-test.false, c.loop-level.auto.level-end rises) in
    let level_is = at_end ∙ ap (λ n. n - 1) c.levels_of-new_levels.ensures.value in
    tree_renewed _ _ _ _ _ _ _ _ _ c.loop-level.invariant.0 refl level_is c.highest_of-highest.ensures.from c.highest_of-highest.ensures.room

-- ---- places

pub returns-in_err-pointer-clause-refused : goal.returns-in_err-pointer-clause-refused
returns-in_err-pointer-clause-refused g c =
    let e : 0 + levels_more c.args.node.now c.args.writes.now ≡ levels_more c.args.node.now c.args.writes.now = omega arith in
    passed_on _ _ _ c.from_residual.ensures.1
    (put_root_refused c.args.store.now c.write_root.new.store c.args.missing.now c.args.node.now c.args.birth c.args.writes.now _ _
    (λ none.
    subst (λ n. LackPlacesAt c.args.node.now c.args.copies c.args.store.now.spaces (spots_grown c.args.node.now c.args.writes.now n) c.write_root.new.store.spaces) e
    (fails_sooner c.args.node.now c.args.copies _ _ c.args.writes.now 0 (levels_more c.args.node.now c.args.writes.now)
    (root_fails c.args.node.now c.args.copies _ _ c.args.writes.now _ _ _ c.split_at.ensures.front (c.span.ensures.value ∙ ap (λ l. 128 ^ (l - 1)) c.levels_of-levels.ensures.value)
    (behind_all _ _ _ c.requires.order c.count_before.ensures.behind) (c.in_err-pointer.ensures.no_place none))))
    _ _ c.split_at.ensures.front c.in_err-pointer.ensures.refused)

pub returns-in_err-pointer-2-clause-refused : goal.returns-in_err-pointer-2-clause-refused
returns-in_err-pointer-2-clause-refused g c =
    let few : c.levels_of-new_levels.result ≤ 6 = c.levels_of-new_levels.ensures.least.least 6 (lit< tt) c.highest_of-highest.ensures.small in
    let low : c.loop-level.level < 5 = omega (arith, few, c.loop-level-test.true) in
    let middle_is : c.span-in-loop-level.result ≡ 128 * 128 ^ c.loop-level.level =
    omega (arith, c.span-in-loop-level.ensures.value, span_up (c.loop-level.level + 1) c.loop-level.level (add-one c.loop-level.level)) in
    let raised = c.loop-level.invariant.1 in
    let new_levels : c.levels_of-new_levels.result ≡ levels_of (highest_with c.args.writes.now c.args.node.now.highest) =
    c.levels_of-new_levels.ensures.value ∙ ap levels_of c.highest_of-highest.ensures.value in
    let more = levels_more c.args.node.now c.args.writes.now - (suc raised.n) in
    let all : (suc raised.n) + more ≡ levels_more c.args.node.now c.args.writes.now =
    omega (arith, c.loop-level-test.true, raised.level_is, c.levels_of-levels.ensures.value, new_levels, c.levels_of-levels.ensures.least.one) in
    let grows : levels_of c.args.node.now.highest < levels_of (highest_with c.args.writes.now c.args.node.now.highest) =
    omega (arith, c.loop-level-test.true, raised.level_is, c.levels_of-levels.ensures.value, new_levels, c.levels_of-levels.ensures.least.one) in
    passed_on _ _ _ c.from_residual-in_err-pointer-2.ensures.1
    (put_raise_refused c.args.store.now c.raise.new.store c.args.missing.now c.args.node.now c.args.birth c.args.writes.now _ _
    (λ none.
    subst (λ n. LackPlacesAt c.args.node.now c.args.copies c.args.store.now.spaces (spots_grown c.args.node.now c.args.writes.now n) c.raise.new.store.spaces) all
    (fails_sooner c.args.node.now c.args.copies _ _ c.args.writes.now (suc raised.n) more
    (raised_fails c.args.node.now c.args.copies _ _ _ _ _ _ _ _ raised _ _ middle_is c.split_at-in-loop-level.ensures.front c.split_at-in-loop-level.ensures.back
    c.count_before-in-loop-level.ensures.before (behind_all _ _ _ c.loop-level.invariant.0.order c.count_before-in-loop-level.ensures.behind) _ (c.in_err-pointer-2.ensures.no_place none))))
    _ _ _ grows c.loop-level.invariant.2 c.in_err-pointer-2.ensures.refused)

pub returns-clause-places : goal.returns-clause-places
returns-clause-places g c =
    let room : c.args.node.now.highest < 128 ^ (c.levels_of-new_levels.result - 1) = omega (arith, c.levels_of-new_levels.ensures.least.enough, c.highest_of-highest.ensures.from) in
    let grown : c.levels_of-levels.result ≤ c.levels_of-new_levels.result =
    c.levels_of-levels.ensures.least.least c.levels_of-new_levels.result c.levels_of-new_levels.ensures.least.one room in
    let rises : c.levels_of-levels.result - 1 ≤ c.levels_of-new_levels.result - 1 = omega (arith, grown) in
    let at_end : c.loop-level.level ≡ c.levels_of-new_levels.result - 1 = omega (arith, c.loop-level-test.false, c.loop-level.auto.level-end rises) in
    let raised = c.loop-level.invariant.1 in
    let more : raised.n ≡ levels_more c.args.node.now c.args.writes.now =
    omega (
      arith,
      at_end,
      raised.level_is,
      c.levels_of-levels.ensures.value,
      c.levels_of-new_levels.ensures.value,
      c.levels_of-levels.ensures.least.one,
      ap levels_of c.highest_of-highest.ensures.value,
    ) in
    subst (λ n. HavePlacesAt c.args.node.now c.args.copies c.args.store.now.spaces (spots_grown c.args.node.now c.args.writes.now n) c.loop-level.store.spaces) more raised.have

pub returns-in_err-pointer-2-clause-caused : goal.returns-in_err-pointer-2-clause-caused
returns-in_err-pointer-2-clause-caused g c =
    passed_on _ _ _ c.from_residual-in_err-pointer-2.ensures.1 (caused_behind _ _ _ _ _ c.loop-level.invariant.0.steps c.in_err-pointer-2.ensures.caused)
