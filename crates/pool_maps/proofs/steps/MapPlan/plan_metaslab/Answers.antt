use Rattle.std.proofs.Common.{rules, ◌≡◌, ⊎_elim, None, length, inl, inr, refl, arith}
use Rattle.std.proofs.lemmas.Bool.Decides.{nat_tests}
use Rattle.std.proofs.lemmas.Result.{IfErr-weaker}
use Rattle.dnode_tree.proofs.Refusing.{caused_by_memory, caused_by_pointer, passed_on}
use Rattle.object_table.proofs.Causes.{judged_is_caused}
use Rattle.pool_maps.proofs.Planned.{both_ok, empty_of, had_map, made_advances, made_step, not_empty, not_taken, ok_by, rewritten_advances, rewritten_step, stays_so}
use Rattle.pool_maps.proofs.Causes.{caused_from}
use Rattle.pool_maps.proofs.steps.MapPlan.plan_metaslab.Goals as goal

pub returns-then-is_empty-clause-advances : goal.returns-then-is_empty-clause-advances
returns-then-is_empty-clause-advances g c =
    let none : length c.in_ok-update.update.entries.items ≡ 0 = grind (arith, nat_tests, c.is_empty.ensures, c.if-is_empty.true) in
    λ stored objects own blocks held are tell sound unmade.
    stays_so objects c.args.store.now.spaces c.args.gone.now c.args.place c.in_ok-update.update c.in_ok-update.ensures.update c.args.self.now (empty_of c.in_ok-update.update.entries.items none)

pub returns-in-Some-clause-step : goal.returns-in-Some-clause-step
returns-in-Some-clause-step g c =
    both_ok c.rewrite.result
    (λ ordered value. rewritten_step (λ n. None) c.args.store.now.spaces c.args.gone.now c.args.place c.in_ok-update.update c.in_ok-update.ensures.update c.args.self.now c.rewrite.new.self
    c.in-Some.map value.0 c.in-Some.ensures.found.0 c.in-Some.ensures.found.1 value.1 ordered c.requires.place
    (not_empty c.in_ok-update.update.entries.items (search rules)))
    c.rewrite.ensures.ordered c.rewrite.ensures.value

pub returns-in-Some-clause-advances : goal.returns-in-Some-clause-advances
returns-in-Some-clause-advances g c =
    ok_by c.rewrite.result
    (λ value stored objects own blocks held are tell sound unmade.
    rewritten_advances objects c.args.store.now.spaces c.args.gone.now c.args.place c.in_ok-update.update c.in_ok-update.ensures.update c.args.self.now c.rewrite.new.self
    c.in-Some.map value.0 c.in-Some.ensures.found.0 c.in-Some.ensures.found.1 value.1 sound
    (λ before has leads. value.2 stored objects own blocks before held are tell has leads) c.requires.place)
    c.rewrite.ensures.value

pub returns-in-Some-clause-known : goal.returns-in-Some-clause-known
returns-in-Some-clause-known g c =
    IfErr-weaker c.rewrite.result _ _
    (λ refusal known stored objects own blocks held are tell sound unmade below ahead after group released.
    let is = c.in_ok-update.ensures.update in
    let here = ahead c.args.place refl c.requires.place in
    let had = had_map objects c.args.store.now.spaces c.args.self.now c.args.place c.in-Some.map is.before sound c.in-Some.ensures.found.0 c.in-Some.ensures.found.1 here.1
    (here.0 is.before is.are_before is.was) in
    elim (known stored objects own blocks is.before held are tell had) [
      | inl loss ↦ inl loss
      | inr taken ↦ absurd (not_taken c.args.store.now.spaces c.args.self.now c.args.place c.in-Some.map sound c.in-Some.ensures.found.0 c.in-Some.ensures.found.1 here.1 taken)
    ])
    c.rewrite.ensures.known

pub returns-clause-step : goal.returns-clause-step
returns-clause-step g c =
    both_ok c.make.result
    (λ ordered made. made_step (λ n. None) c.args.store.now.spaces c.args.gone.now c.args.place c.in_ok-update.update c.in_ok-update.ensures.update c.args.self.now c.make.new.self
    made.0 made.1 ordered c.requires.place (not_empty c.in_ok-update.update.entries.items (search rules)))
    c.make.ensures.ordered c.make.ensures.made

pub returns-clause-advances : goal.returns-clause-advances
returns-clause-advances g c =
    ok_by c.make.result
    (λ made stored objects own blocks held are tell sound unmade.
    made_advances objects c.args.store.now.spaces c.args.gone.now c.args.place c.in_ok-update.update c.in_ok-update.ensures.update c.args.self.now c.make.new.self
    made.0 made.1 sound unmade made.2 made.3)
    c.make.ensures.made

pub returns-in_err-update-clause-caused : goal.returns-in_err-update-clause-caused
returns-in_err-update-clause-caused g c = passed_on _ _ _ c.from_residual.ensures.1 (inl (judged_is_caused _ _ _ _ _ c.in_err-update.ensures.refused))

pub returns-in-Some-clause-numbers : goal.returns-in-Some-clause-numbers
returns-in-Some-clause-numbers g c = ok_by c.rewrite.result (λ value. let same = value.1.next in omega (arith, same)) c.rewrite.ensures.value

pub returns-in-Some-clause-caused : goal.returns-in-Some-clause-caused
returns-in-Some-clause-caused g c = IfErr-weaker c.rewrite.result _ _ (λ refusal cause. inl cause) c.rewrite.ensures.caused

pub returns-clause-numbers : goal.returns-clause-numbers
returns-clause-numbers g c = ok_by c.make.result (λ made. let one = made.1.next in omega (arith, one)) c.make.ensures.made

pub returns-clause-caused : goal.returns-clause-caused
returns-clause-caused g c =
    caused_from c.make.result _ _ c.make.ensures.refused
    (λ refusal why. ⊎_elim (λ memory. inl (caused_by_memory _ _ _ _ memory)) (λ other. ⊎_elim inr (λ taken. inl (caused_by_pointer _ _ _ _ taken.0)) other) why)
