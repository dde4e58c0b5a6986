use Rattle.std.proofs.Common.{[], inl, inr, ap, sym, subst, ◌∙◌}
use Rattle.std.proofs.lemmas.Result.{IfErr-weaker, IfOk-weaker}
use Rattle.block_store.specs.declared.refusal.Refusal.{Refusal}
use Rattle.block_store.specs.Losses.{IsForLoss}
use Rattle.block_store.specs.Causes.{IsCaused}
use Rattle.object_table.specs.Ends.{IsEndRefused}
use Rattle.object_table.proofs.Causes.{judged_is_caused}
use Rattle.pool_maps.specs.Refused.{of_map}
use Rattle.space_map_objects.specs.Maps.{map_kind}
use Rattle.pool_maps.proofs.Causes.{map_is_caused}
use Rattle.pool_maps.proofs.changing.update_map.Goals as goal

pub returns-in-Ok-clause-value : goal.returns-in-Ok-clause-value
returns-in-Ok-clause-value g c =
    IfOk-weaker c.change_of.result _ _
    (λ change value stored objects own blocks before held are tell has leads.
    value (objects c.args.number) before (λ bytes table. c.in-Ok.ensures.value stored objects own blocks held are tell bytes table) has leads)
    c.change_of.ensures.value

pub returns-in-Err-clause-refused : goal.returns-in-Err-clause-refused
returns-in-Err-clause-refused g c =
    elim c.in-Err.ensures.refused [
      | inl memory ↦ inl (c.of_map.ensures ∙ ap of_map memory)
      | inr (why, is, cause) ↦ inr (subst (λ (r : Refusal). IsEndRefused c.args.store.now c.read_map_end.new.store [] c.args.set.now c.args.birth map_kind c.args.number r)
          (sym (c.of_map.ensures ∙ ap of_map is)) cause)
    ]

pub returns-in-Err-clause-known : goal.returns-in-Err-clause-known
returns-in-Err-clause-known g c =
    λ stored objects own blocks before held are tell has.
    elim (c.in-Err.ensures.known stored objects own blocks held are tell) [
      | inl (inl memory) ↦ inl (c.of_map.ensures ∙ ap of_map memory)
      | inl (inr (why, is, loss)) ↦ subst IsForLoss (sym (c.of_map.ensures ∙ ap of_map is)) loss
      | inr none ↦ absurd (none has.0 has.1)
    ]

pub returns-in-Ok-clause-caused : goal.returns-in-Ok-clause-caused
returns-in-Ok-clause-caused g c =
    IfErr-weaker c.change_of.result _ _ (λ refusal memory. judged_is_caused _ _ _ ⊥ refusal (inl memory)) c.change_of.ensures.refused

pub returns-in-Err-clause-caused : goal.returns-in-Err-clause-caused
returns-in-Err-clause-caused g c =
    subst (λ (r : Refusal). IsCaused c.args.store.now c.read_map_end.new.store [] r) (sym c.of_map.ensures) (map_is_caused _ _ _ _ c.in-Err.ensures.caused)
