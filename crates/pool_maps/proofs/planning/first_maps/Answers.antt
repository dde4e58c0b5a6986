use Rattle.std.proofs.Common.{rules, ◌≡◌, ◌⊎◌, List, [], false, Contains, inl, inr, refl, sym, subst, ◌∙◌}
use Rattle.std.proofs.lemmas.Result.{IfOk-weaker, IfErr-weaker}
use Rattle.block_store.specs.Blocks.{nothing_stored}
use Rattle.dnode_tree.proofs.Refusing.{passed_on}
use Rattle.meta_objset.specs.declared.space_maps.MetaslabMap.{MetaslabMap}
use Rattle.objset.specs.declared.changes.ObjectChange.{ObjectChange}
use Rattle.object_table.proofs.Causes.{judged_is_caused}
use Rattle.pool_maps.specs.declared.steps.MapPlan.{MapPlan}
use Rattle.pool_maps.specs.Plans.{IsForMetaslab, IsMapNumber}
use Rattle.pool_maps.specs.Refused.{no_set}
use Rattle.pool_maps.proofs.Among.{others_stay}
use Rattle.pool_maps.proofs.First.{ahead, below, holds_nothing, made, no_objects, nothing, only_room, sound, sparing, table_apart, unmade}
use Rattle.pool_maps.proofs.planning.first_maps.Goals as goal

pub returns-in_err-plan_all-clause-refused : goal.returns-in_err-plan_all-clause-refused
returns-in_err-plan_all-clause-refused g c = passed_on _ _ _ c.from_residual.ensures.1 (elim c.in_err-plan_all.ensures.refused [
  | inl memory ↦ inl memory
  | inr why ↦ inr (record {
    plan = record { maps = c.new.result; grown = false; changes = c.args.changes; next = c.args.next };
    changes_are = refl;
    next_is = refl;
    none = c.new.ensures;
    why = inl why;
  })
])

pub returns-in_err-plan_all-clause-known : goal.returns-in_err-plan_all-clause-known
returns-in_err-plan_all-clause-known g c =
    let store = c.args.store.now in
    let first : MapPlan = record { maps = c.new.result; grown = false; changes = c.args.changes; next = c.args.next } in
    passed_on _ _ _ c.from_residual.ensures.1
    (λ others none tell.
    only_room store c.plan_all.new.store 0 [] first c.in_err-plan_all.field-0.0
    (c.in_err-plan_all.ensures.known nothing_stored nothing [] (λ number. []) (holds_nothing store) (no_objects 0 no_set refl) tell
    (sound store.spaces c.args.changes.items c.args.next others first c.new.ensures refl refl)
    (unmade store.spaces c.args.changes.items c.args.next others first c.new.ensures refl refl)
    (below store.spaces c.args.changes.items c.args.next others first c.new.ensures refl refl)
    (ahead store.spaces c.args.changes.items c.args.next others first c.new.ensures refl refl none) store.spaces 0 refl)
    c.in_err-plan_all.ensures.refused)

pub returns-clause-others : goal.returns-clause-others
returns-clause-others g c =
    let last = c.plan_all.new.self in
    let spare : (change : ObjectChange) → Contains last.changes.items change
    → Contains c.args.changes.items change ⊎ ((change.number ≡ 4) ⊎ IsForMetaslab c.args.store.now.spaces [] [] c.args.next change) =
    λ change held. elim (c.in_ok-plan_all.ensures.step.spare change held) [
      | inl before ↦ inl before
      | inr is ↦ inr (inr (subst (λ (maps : List MetaslabMap). IsForMetaslab c.args.store.now.spaces [] maps c.args.next change) c.new.ensures is))
    ] in
    IfOk-weaker c.with_first_table.result _ _
    (λ all table. (
      λ objects number not_table not_map.
          others_stay last.changes.items all.items (record { number = 4; change = table.0 }) table.1 objects number (λ same. not_table (sym same))
          ∙ c.in_ok-plan_all.ensures.step.goes_on.others objects number
          (subst (λ (maps : List MetaslabMap). ¬ IsMapNumber maps c.args.next number) (sym c.new.ensures) not_map),
      sparing c.args.store.now.spaces c.args.next c.args.changes.items last.changes.items all.items table.0 table.1 spare,
    ))
    c.with_first_table.ensures.table

pub returns-clause-refused : goal.returns-clause-refused
returns-clause-refused g c =
    IfErr-weaker c.with_first_table.result _ _
    (λ refusal cause. elim cause [
      | inl memory ↦ inl memory
      | inr (bad, taken) ↦ inr (record {
        plan = record { maps = c.new.result; grown = false; changes = c.args.changes; next = c.args.next };
        changes_are = refl;
        next_is = refl;
        none = c.new.ensures;
        why = inr (bad, (c.plan_all.new.self, c.in_ok-plan_all.ensures.step.goes_on, taken));
      })
    ])
    c.with_first_table.ensures.refused

pub returns-clause-value : goal.returns-clause-value
returns-clause-value g c =
    let store = c.args.store.now in
    let first : MapPlan = record { maps = c.new.result; grown = false; changes = c.args.changes; next = c.args.next } in
    IfOk-weaker c.with_first_table.result _ _
    (λ all table others none tell.
    let is_sound = sound store.spaces c.args.changes.items c.args.next others first c.new.ensures refl refl in
    made store.spaces c.args.changes.items c.args.next others first c.new.ensures refl refl c.plan_all.new.self none (c.in_ok-plan_all.ensures.step.sound is_sound)
    (c.in_ok-plan_all.ensures.advances nothing_stored nothing [] (λ number. []) (holds_nothing store) (no_objects 0 no_set refl) tell is_sound
    (unmade store.spaces c.args.changes.items c.args.next others first c.new.ensures refl refl))
    all.items table.0 table.1 table.2 table.3)
    c.with_first_table.ensures.table

pub returns-clause-known : goal.returns-clause-known
returns-clause-known g c =
    let first : MapPlan = record { maps = c.new.result; grown = false; changes = c.args.changes; next = c.args.next } in
    IfErr-weaker c.with_first_table.result _ _
    (λ refusal cause others none tell. elim cause [
      | inl memory ↦ inl memory
      | inr (bad, inl zero) ↦ absurd (cc)
      | inr (bad, inr (inl past)) ↦ absurd (search rules)
      | inr (bad, inr (inr some)) ↦ absurd (some (table_apart c.args.store.now.spaces c.args.changes.items c.args.next others first c.new.ensures refl refl c.plan_all.new.self
          c.in_ok-plan_all.ensures.step.goes_on))
    ])
    c.with_first_table.ensures.refused

pub returns-clause-caused : goal.returns-clause-caused
returns-clause-caused g c = IfErr-weaker c.with_first_table.result _ _ (λ refusal why. inl (judged_is_caused _ _ _ _ refusal why)) c.with_first_table.ensures.refused
