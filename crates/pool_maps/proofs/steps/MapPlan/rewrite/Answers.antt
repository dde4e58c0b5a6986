use Rattle.std.proofs.Common.{inl, inr}
use Rattle.std.proofs.lemmas.Result.{IfErr-weaker}
use Rattle.dnode_tree.proofs.Refusing.{passed_on}
use Rattle.object_table.proofs.Causes.{judged_is_caused}
use Rattle.pool_maps.proofs.steps.MapPlan.rewrite.Goals as goal

pub returns-in_err-change-clause-known : goal.returns-in_err-change-clause-known
returns-in_err-change-clause-known g c =
    passed_on _ _ _ c.from_residual.ensures.1
    (λ stored objects own blocks before held are tell has. inl (c.in_err-change.ensures.known stored objects own blocks before held are tell has))

pub returns-in_err-change-clause-refused : goal.returns-in_err-change-clause-refused
returns-in_err-change-clause-refused g c =
    passed_on _ _ _ c.from_residual.ensures.1 (elim c.in_err-change.ensures.refused [
      | inl memory ↦ inl memory
      | inr why ↦ inr (inl why)
    ])

pub returns-clause-caused : goal.returns-clause-caused
returns-clause-caused g c = IfErr-weaker c.put.result _ _ (λ refusal why. judged_is_caused _ _ _ _ refusal why) c.put.ensures.refused
