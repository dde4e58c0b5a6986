use Rattle.std.proofs.Common.{◌≡◌, ◌⊎◌, inl, inr, ℕ, true, Bool, List, Some, refl, ap, ◌∙◌, subst}
use Rattle.std.specs.Prelude.{length, slice_get}
use Rattle.std.proofs.lemmas.Bool.{OnFalse_at}
use Rattle.pool_create.specs.Planning.{none_out}
use Rattle.pool_open.specs.Causes.{of_slots}
use Rattle.pool_open.specs.declared.refusal.Refusal.{Refusal}
use Rattle.pool_open.specs.declared.refusal.Refusal.TheVariants.{NoMemory, DiskFault}
use Rattle.pool_slots.specs.Failures.{HasFailedOn}
use Rattle.pool_slots.proofs.ReadRuns.{reads_made}
use Rattle.pool_slots.proofs.Results.{if_err_is}
use Rattle.pool_create.specs.ReadingBack.{IsSurveyRefused}
use Rattle.pool_create.proofs.Backs.{gone_failed, survey_refused}
use Rattle.pool_create.proofs.surveying.taken_uberblock.Goals as goal

pub returns-in_err-survey-clause-only : goal.returns-in_err-survey-clause-only
returns-in_err-survey-clause-only g c = reads_made c.survey_present.ensures.absent.only

pub returns-in_err-survey-clause-refused : goal.returns-in_err-survey-clause-refused
returns-in_err-survey-clause-refused g c =
    let cause = c.in_err-survey.field-0.0 in
    let old = c.args.disks.now in
    let new = c.survey_present.new.disks in
    if_err_is c.from_residual-in_err-survey.result (of_slots cause)
    (λ (refusal : Refusal). (refusal ≡ NoMemory) ⊎ (((refusal ≡ DiskFault) × ((which : ℕ) × HasFailedOn old new which)) ⊎ IsSurveyRefused old new refusal)) c.from_residual-in_err-survey.ensures.1
    (inr (inr (survey_refused old new c.survey_present.new.out.items cause c.in_err-survey.ensures.refused c.in_err-survey.ensures.no_fault)))

pub returns-then-not-is_none_out-clause-refused : goal.returns-then-not-is_none_out-clause-refused
returns-then-not-is_none_out-clause-refused g c =
    let old = c.args.disks.now in
    let new = c.survey_present.new.disks in
    let later = c.survey_present.new.out.items in
    let M : List Bool → Type 0 = λ flags. (which : ℕ) × (slice_get flags which ≡ Some true) in
    let marked = subst M c.deref.ensures.value (OnFalse_at c.if-not-is_none_out.true c.is_none_out.ensures.some) in
    let before = c.in_ok-out.ensures ∙ ap none_out c.len.ensures in
    inr (inl (refl, (marked.0, gone_failed old new c.in_ok-out.out.items later (length old.starts) marked.0 before c.survey_present.ensures.count c.survey_present.ensures.absent marked.1)))
