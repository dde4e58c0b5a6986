use Rattle.std.proofs.Common.{ℕ, Option, Some, Result, arith}
use Rattle.std.proofs.lemmas.Option.{slice_get_within}
use Rattle.pool_slots.specs.LabelReads.{HasLabeled, MakesAreaIfRead, is_either}
use Rattle.pool_slots.specs.Reads.{is_fault, nowhere}
use Rattle.pool_slots.specs.declared.labeled.Area.{Area}
use Rattle.pool_slots.specs.declared.refusal.Refusal.{Refusal}
use Rattle.pool_slots.proofs.LabelPlans.{either_labeled, labeled_there, not_labeled}
use Rattle.pool_slots.proofs.ReadRuns.{reads_err, reads_wider}
use Rattle.pool_slots.proofs.Results.{err_use}
use Rattle.pool_slots.proofs.areas.area_if_read.Goals as goal

pub area_of-requires-clause-there : goal.area_of-requires-clause-there
area_of-requires-clause-there g c = omega (arith, c.requires.count, slice_get_within c.args.labels.now c.args.donor.disk (Some c.requires.given.there.0) c.requires.given.there.1)

pub returns-in_err-area-in-Some-clause-only : goal.returns-in_err-area-in-Some-clause-only
returns-in_err-area-in-Some-clause-only g c =
    let labels = c.args.labels.now in
    let which = c.args.which in
    let disk = c.args.donor.disk in
    let cause = c.in_err-area-in-Some.field-0.0 in
    let faulty : ℕ → Type 0 = is_fault cause in
    reads_err c.from_residual.result cause c.from_residual.ensures.1
    (reads_wider (is_either which disk) (HasLabeled labels) faulty faulty c.args.disks.now c.area_of.new.disks
    (either_labeled labels which disk c.in-Some.labeled (labeled_there labels which c.in-Some.labeled c.in-Some.is) c.requires.given.there) (λ w it. it) c.in_err-area-in-Some.ensures.only)

pub returns-in_err-area-in-Some-clause-area : goal.returns-in_err-area-in-Some-clause-area
returns-in_err-area-in-Some-clause-area g c =
    let labels = c.args.labels.now in
    let which = c.args.which in
    let P : Result (Option Area) Refusal → Type 0 = MakesAreaIfRead labels c.args.donor c.args.uberblock.now c.args.disks.now c.area_of.new.disks which in
    err_use c.from_residual.result c.in_err-area-in-Some.field-0.0 P c.from_residual.ensures.1
    (c.in-Some.labeled, labeled_there labels which c.in-Some.labeled c.in-Some.is, c.in_err-area-in-Some.ensures.area)

pub returns-in_ok-area-in-Some-clause-only : goal.returns-in_ok-area-in-Some-clause-only
returns-in_ok-area-in-Some-clause-only g c =
    let labels = c.args.labels.now in
    let which = c.args.which in
    let disk = c.args.donor.disk in
    reads_wider (is_either which disk) (HasLabeled labels) nowhere nowhere c.args.disks.now c.area_of.new.disks
    (either_labeled labels which disk c.in-Some.labeled (labeled_there labels which c.in-Some.labeled c.in-Some.is) c.requires.given.there) (λ w it. it) c.in_ok-area-in-Some.ensures.only

pub returns-in_ok-area-in-Some-clause-area : goal.returns-in_ok-area-in-Some-clause-area
returns-in_ok-area-in-Some-clause-area g c =
    (c.in-Some.labeled, labeled_there c.args.labels.now c.args.which c.in-Some.labeled c.in-Some.is, c.in_ok-area-in-Some.ensures.area)

pub returns-in-None-clause-area : goal.returns-in-None-clause-area
returns-in-None-clause-area g c = not_labeled c.args.labels.now c.args.which c.in-None.is
