use Rattle.std.proofs.Common.{◌∙◌, ℕ, Bool, true, false, List, length, sym, ap, subst, arith}
use Rattle.std.proofs.lemmas.List.{length-set}
use Rattle.std.proofs.lemmas.Option.{slice_get_within}
use Rattle.std.proofs.lemmas.Result.{IfErr-weaker, IfOk-weaker}
use Rattle.pool_slots.specs.Present.{IsNoFault}
use Rattle.pool_slots.specs.Reads.{OnlyReads, IsFaultOf, is_fault, nowhere}
use Rattle.pool_slots.specs.Slots.{InUse}
use Rattle.pool_slots.specs.Surveys.{IsSurveyed, SurveyRefuses}
use Rattle.pool_slots.proofs.Absence.{all_out, fault_seen, go_last, go_none, go_on, no_fault_reads, none_used_reads, put_out, refuses_earlier, surveyed_earlier}
use Rattle.pool_slots.proofs.ReadRuns.{reads_made}
use Rattle.pool_slots.proofs.present.survey_present.Goals as goal

pub loop-init : goal.loop-init
loop-init g c =
    record { count = c.requires.out; gone = go_none c.args.out.now.items c.args.disks.now; many = omega arith }

pub survey-requires-clause-out : goal.survey-requires-clause-out
survey-requires-clause-out g c =
    ap length c.deref.ensures.value ∙ c.loop.invariant.count ∙ ap length (sym c.loop.invariant.gone.only.starts)

pub returns-in-Ok-clause-absent : goal.returns-in-Ok-clause-absent
returns-in-Ok-clause-absent g c =
    let P : List Bool → Type 0 = λ xs. OnlyReads (InUse xs) nowhere c.loop.disks c.survey.new.disks in
    go_last c.args.out.now.items c.loop.out.items c.args.disks.now c.loop.disks c.survey.new.disks c.loop.invariant.gone (subst P c.deref.ensures.value c.in-Ok.ensures.only)

pub returns-in-Ok-clause-surveyed : goal.returns-in-Ok-clause-surveyed
returns-in-Ok-clause-surveyed g c =
    let P : List Bool → Type 0 = λ xs. IsSurveyed xs c.args.rewind c.loop.disks c.survey.new.disks c.in-Ok.found in
    surveyed_earlier c.loop.out.items c.args.rewind c.args.disks.now c.loop.disks c.survey.new.disks c.in-Ok.found (reads_made c.loop.invariant.gone.only) (subst P c.deref.ensures.value c.in-Ok.ensures.surveyed)

pub returns-in_default-clause-absent : goal.returns-in_default-clause-absent
returns-in_default-clause-absent g c =
    let P : List Bool → Type 0 = λ xs. OnlyReads (InUse xs) (is_fault c.in-Err.refusal) c.loop.disks c.survey.new.disks in
    go_last c.args.out.now.items c.loop.out.items c.args.disks.now c.loop.disks c.survey.new.disks c.loop.invariant.gone
    (no_fault_reads (InUse c.loop.out.items) c.in-Err.refusal c.loop.disks c.survey.new.disks c.in_default.ensures.none (subst P c.deref.ensures.value c.in-Err.ensures.only))

pub returns-in_default-clause-refused : goal.returns-in_default-clause-refused
returns-in_default-clause-refused g c =
    let P : List Bool → Type 0 = λ xs. SurveyRefuses xs c.args.rewind c.loop.disks c.survey.new.disks c.in-Err.refusal in
    refuses_earlier c.loop.out.items c.args.rewind c.args.disks.now c.loop.disks c.survey.new.disks c.in-Err.refusal (reads_made c.loop.invariant.gone.only) (subst P c.deref.ensures.value c.in-Err.ensures.refused)

pub index_mut-requires : goal.index_mut-requires
index_mut-requires g c =
    let P : List Bool → Type 0 = λ xs. SurveyRefuses xs c.args.rewind c.loop.disks c.survey.new.disks c.in-Err.refusal in
    let seen = fault_seen c.loop.out.items c.args.rewind c.loop.disks c.survey.new.disks c.in-Err.refusal c.in-Some.disk (subst P c.deref.ensures.value c.in-Err.ensures.refused) c.in-Some.ensures.some in
    omega (arith, slice_get_within c.loop.out.items c.in-Some.disk false seen.0, c.loop.out.ok.0)

pub loop-preserved : goal.loop-preserved
loop-preserved g c =
    let P : List Bool → Type 0 = λ xs. SurveyRefuses xs c.args.rewind c.loop.disks c.survey.new.disks c.in-Err.refusal in
    let seen = fault_seen c.loop.out.items c.args.rewind c.loop.disks c.survey.new.disks c.in-Err.refusal c.in-Some.disk (subst P c.deref.ensures.value c.in-Err.ensures.refused) c.in-Some.ensures.some in
    let Q : List Bool → Type 0 = λ xs. OnlyReads (InUse xs) (is_fault c.in-Err.refusal) c.loop.disks c.survey.new.disks in
    record {
      count = length-set c.loop.out.items c.in-Some.disk true ∙ c.loop.invariant.count;
      gone = go_on c.args.out.now.items c.loop.out.items c.args.disks.now c.loop.disks c.survey.new.disks c.in-Err.refusal c.in-Some.disk c.loop.invariant.gone (subst Q c.deref.ensures.value c.in-Err.ensures.only) c.in-Some.ensures.some seen;
      many = omega (arith, c.loop.invariant.many, (put_out c.loop.out.items c.in-Some.disk seen.0).more);
    }

pub returns-clause-absent : goal.returns-clause-absent
returns-clause-absent g c =
    let P : List Bool → Type 0 = λ xs. OnlyReads (InUse xs) (IsFaultOf c.survey-2.result) c.loop.disks c.survey-2.new.disks in
    go_last c.args.out.now.items c.loop.out.items c.args.disks.now c.loop.disks c.survey-2.new.disks c.loop.invariant.gone
    (none_used_reads (InUse c.loop.out.items) (IsFaultOf c.survey-2.result) c.loop.disks c.survey-2.new.disks (λ which. all_out c.loop.out.items which (omega (arith, c.loop.invariant.many, c.loop.invariant.count, c.loop-test.false, c.len-end.ensures))) (subst P c.deref-2.ensures.value c.survey-2.ensures.only))

pub returns-clause-surveyed : goal.returns-clause-surveyed
returns-clause-surveyed g c =
    IfOk-weaker c.survey-2.result (IsSurveyed c.deref-2.result.now c.args.rewind c.loop.disks c.survey-2.new.disks) (IsSurveyed c.loop.out.items c.args.rewind c.args.disks.now c.survey-2.new.disks)
    (λ s it.
    let P : List Bool → Type 0 = λ xs. IsSurveyed xs c.args.rewind c.loop.disks c.survey-2.new.disks s in
    surveyed_earlier c.loop.out.items c.args.rewind c.args.disks.now c.loop.disks c.survey-2.new.disks s (reads_made c.loop.invariant.gone.only) (subst P c.deref-2.ensures.value it)) c.survey-2.ensures.surveyed

pub returns-clause-refused : goal.returns-clause-refused
returns-clause-refused g c =
    IfErr-weaker c.survey-2.result (SurveyRefuses c.deref-2.result.now c.args.rewind c.loop.disks c.survey-2.new.disks) (SurveyRefuses c.loop.out.items c.args.rewind c.args.disks.now c.survey-2.new.disks)
    (λ e it.
    let P : List Bool → Type 0 = λ xs. SurveyRefuses xs c.args.rewind c.loop.disks c.survey-2.new.disks e in
    refuses_earlier c.loop.out.items c.args.rewind c.args.disks.now c.loop.disks c.survey-2.new.disks e (reads_made c.loop.invariant.gone.only) (subst P c.deref-2.ensures.value it)) c.survey-2.ensures.refused

pub returns-clause-no_fault : goal.returns-clause-no_fault
returns-clause-no_fault g c =
    IfErr-weaker c.survey-2.result (SurveyRefuses c.deref-2.result.now c.args.rewind c.loop.disks c.survey-2.new.disks) IsNoFault
    (λ e it disk fault.
    let P : List Bool → Type 0 = λ xs. SurveyRefuses xs c.args.rewind c.loop.disks c.survey-2.new.disks e in
    let none : (which : ℕ) → ¬ InUse c.loop.out.items which = (λ which. all_out c.loop.out.items which (omega (arith, c.loop.invariant.many, c.loop.invariant.count, c.loop-test.false, c.len-end.ensures))) in
    none disk (fault_seen c.loop.out.items c.args.rewind c.loop.disks c.survey-2.new.disks e disk (subst P c.deref-2.ensures.value it) fault).0) c.survey-2.ensures.refused
