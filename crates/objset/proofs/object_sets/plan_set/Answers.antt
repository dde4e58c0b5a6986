use Rattle.std.proofs.Common.{[], refl, subst, arith}
use Rattle.std.proofs.lemmas.Result.{IfOk-at_ok}
use Rattle.block_store.specs.Blocks.{Adds}
use Rattle.block_store.proofs.Steps.{steps_plan}
use Rattle.block_pointer.specs.Property.{FitsProperty}
use Rattle.dnode.specs.ObjectSet.{object_set_bytes}
use Rattle.objset.specs.Sets.{asked_of_set}
use Rattle.objset.proofs.Outcomes.{if_ok}
use Rattle.block_store.proofs.Causes.{plan_is_caused}
use Rattle.std.proofs.lemmas.Result.{IfErr-weaker}
use Rattle.objset.proofs.object_sets.plan_set.Goals as goal

pub returns-clause-steps : goal.returns-clause-steps
returns-clause-steps g c =
    steps_plan _ _ _ _ _ _ c.plan_write.result _ c.plan_write.ensures.disks c.plan_write.ensures.out c.plan_write.ensures.spans c.plan_write.ensures.shapes c.plan_write.ensures.keeps
    c.plan_write.ensures.places c.plan_write.ensures.err_spaces c.plan_write.ensures.due c.plan_write.ensures.err_due c.plan_write.ensures.planned c.plan_write.ensures.err

pub returns-clause-planned : goal.returns-clause-planned
returns-clause-planned g c =
    if_ok c.plan_write.result _ (λ block is stored planned plans.
    let done = IfOk-at_ok _ is c.plan_write.ensures.planned stored planned plans in
    let what = IfOk-at_ok _ is c.plan_write.ensures.block in
    let adds : Adds planned done.0 block (object_set_bytes c.args.set.now) = subst (λ bytes. Adds planned done.0 block bytes) c.encode.ensures done.2 in (
      done.0,
      done.1,
      adds,
      record {
        asks = record { property = what.property; birth = omega (arith, what.birth) };
        bytes = object_set_bytes c.args.set.now;
        known = adds.added;
        spelled = (c.requires.set, refl);
      },
    ))

pub returns-clause-caused : goal.returns-clause-caused
returns-clause-caused g c =
    let fits : FitsProperty (asked_of_set c.args.birth).property =
    record { level = omega arith; object_type = omega arith; not_empty = omega arith; sectors = omega arith } in
    IfErr-weaker c.plan_write.result _ _
    (λ refusal why. plan_is_caused c.args.store.now c.plan_write.new.self [] (asked_of_set c.args.birth).property c.args.copies refusal fits why) c.plan_write.ensures.refused
