use Rattle.std.proofs.Common.{List, Option, sym, subst}
use Rattle.pool_slots.specs.Opens.{AreFitting}
use Rattle.pool_slots.specs.Reads.{OnlyReads, is_fault}
use Rattle.pool_slots.specs.Slots.{InUse}
use Rattle.pool_slots.specs.Surveys.{SurveyRefuses}
use Rattle.pool_slots.specs.declared.found.Found.{Found}
use Rattle.pool_slots.proofs.ReadRuns.{reads_err, reads_failed, reads_made, reads_then}
use Rattle.pool_slots.proofs.Results.{if_err_is}
use Rattle.pool_slots.proofs.SurveySteps.{highest_refuses, plan_refuses, scan_refuses, surveyed_by, taken_refuses}
use Rattle.pool_slots.proofs.surveying.survey.Goals as goal

pub returns-in_err-found-clause-refused : goal.returns-in_err-found-clause-refused
returns-in_err-found-clause-refused g c =
    let old = c.args.disks.now in
    let new = c.find_all.new.disks in
    let cause = c.in_err-found.field-0.0 in
    if_err_is c.from_residual.result cause (SurveyRefuses c.args.out.now c.args.rewind old new) c.from_residual.ensures.1
    (scan_refuses c.args.out.now c.args.rewind old new cause (λ disk failed. (reads_failed c.in_err-found.ensures.only disk failed).0) c.in_err-found.ensures.finds)

pub highest_of-requires : goal.highest_of-requires
highest_of-requires g c =
    let P : List (Option Found) → Type 0 = AreFitting in
    record { fits = subst P (sym c.deref.ensures.value) c.in_ok-found.ensures.finds.2 }

pub returns-in_err-highest-clause-refused : goal.returns-in_err-highest-clause-refused
returns-in_err-highest-clause-refused g c =
    let old = c.args.disks.now in
    let new = c.find_all.new.disks in
    let cause = c.in_err-highest.field-0.0 in
    if_err_is c.from_residual-in_err-highest.result cause (SurveyRefuses c.args.out.now c.args.rewind old new) c.from_residual-in_err-highest.ensures.1
    (highest_refuses c.args.out.now c.args.rewind old new c.in_ok-found.found.items c.deref.result.now cause c.in_ok-found.ensures.finds.3 c.deref.ensures.value c.in_err-highest.ensures.finds)

pub returns-in_err-taken-clause-only : goal.returns-in_err-taken-clause-only
returns-in_err-taken-clause-only g c =
    reads_err c.from_residual-in_err-taken.result c.in_err-taken.field-0.0 c.from_residual-in_err-taken.ensures.1 (reads_then c.in_ok-found.ensures.only c.in_err-taken.ensures.only)

pub returns-in_err-taken-clause-refused : goal.returns-in_err-taken-clause-refused
returns-in_err-taken-clause-refused g c =
    let old = c.args.disks.now in
    let mid = c.find_all.new.disks in
    let new = c.taken_from.new.disks in
    let cause = c.in_err-taken.field-0.0 in
    let only : OnlyReads (InUse c.args.out.now) (is_fault cause) old new = reads_then c.in_ok-found.ensures.only c.in_err-taken.ensures.only in
    if_err_is c.from_residual-in_err-taken.result cause (SurveyRefuses c.args.out.now c.args.rewind old new) c.from_residual-in_err-taken.ensures.1
    (taken_refuses c.args.out.now c.args.rewind old mid new c.in_ok-found.found.items c.deref.result.now c.in_ok-highest.highest cause (λ disk failed. (reads_failed only disk failed).0)
    (reads_made c.find_all.ensures.only) (reads_made c.taken_from.ensures.only) c.in_ok-found.ensures.finds.3 c.in_ok-found.ensures.finds.1 c.deref.ensures.value c.in_ok-highest.ensures.finds.0
    c.in_err-taken.ensures.takes)

pub returns-in_err-plan-clause-only : goal.returns-in_err-plan-clause-only
returns-in_err-plan-clause-only g c =
    reads_err c.from_residual-in_err-plan.result c.in_err-plan.field-0.0 c.from_residual-in_err-plan.ensures.1
    (reads_then c.in_ok-found.ensures.only (reads_then c.in_ok-taken.ensures.only c.in_err-plan.ensures.only))

pub returns-in_err-plan-clause-refused : goal.returns-in_err-plan-clause-refused
returns-in_err-plan-clause-refused g c =
    let old = c.args.disks.now in
    let mid = c.find_all.new.disks in
    let back = c.taken_from.new.disks in
    let new = c.plan_claim.new.disks in
    let cause = c.in_err-plan.field-0.0 in
    let only : OnlyReads (InUse c.args.out.now) (is_fault cause) old new = reads_then c.in_ok-found.ensures.only (reads_then c.in_ok-taken.ensures.only c.in_err-plan.ensures.only) in
    if_err_is c.from_residual-in_err-plan.result cause (SurveyRefuses c.args.out.now c.args.rewind old new) c.from_residual-in_err-plan.ensures.1
    (plan_refuses c.args.out.now c.args.rewind old mid back new c.in_ok-found.found.items c.deref.result.now c.in_ok-highest.highest c.in_ok-taken.taken cause
    (λ disk failed. (reads_failed only disk failed).0) (reads_made c.find_all.ensures.only) (reads_made c.taken_from.ensures.only) (reads_made c.plan_claim.ensures.only)
    c.in_ok-found.ensures.finds.3 c.in_ok-found.ensures.finds.1 c.deref.ensures.value c.in_ok-highest.ensures.finds.0 c.in_ok-taken.ensures.takes c.in_err-plan.ensures.plans)

pub returns-clause-only : goal.returns-clause-only
returns-clause-only g c = reads_then c.in_ok-found.ensures.only (reads_then c.in_ok-taken.ensures.only c.in_ok-plan.ensures.only)

pub returns-clause-surveyed : goal.returns-clause-surveyed
returns-clause-surveyed g c =
    surveyed_by c.args.out.now c.args.rewind c.args.disks.now c.find_all.new.disks c.taken_from.new.disks c.plan_claim.new.disks c.in_ok-found.found c.deref.result.now c.in_ok-highest.highest
    c.in_ok-taken.taken c.in_ok-plan.plan (reads_made c.find_all.ensures.only) (reads_made c.taken_from.ensures.only) (reads_made c.plan_claim.ensures.only) c.in_ok-found.ensures.finds
    c.deref.ensures.value c.in_ok-highest.ensures.finds.0 c.in_ok-taken.ensures.takes c.in_ok-plan.ensures.plans
