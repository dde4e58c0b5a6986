use Rattle.std.proofs.Common.{Result, refl}
use Rattle.pool_slots.specs.LabelReads.{MakesArea}
use Rattle.pool_slots.specs.declared.labeled.Area.{Area}
use Rattle.pool_slots.specs.declared.refusal.Refusal.{Refusal}
use Rattle.pool_slots.proofs.LabelPlans.{area_made, area_unmade}
use Rattle.pool_slots.proofs.ReadRuns.{reads_any, reads_err}
use Rattle.pool_slots.proofs.Results.{err_use}
use Rattle.pool_slots.proofs.areas.area_of.Goals as goal

pub returns-in_err-label-clause-only : goal.returns-in_err-label-clause-only
returns-in_err-label-clause-only g c = reads_err c.from_residual.result c.in_err-label.field-0.0 c.from_residual.ensures.1 c.in_err-label.ensures.only

pub returns-in_err-label-clause-area : goal.returns-in_err-label-clause-area
returns-in_err-label-clause-area g c =
    let P : Result Area Refusal → Type 0 = MakesArea c.args.labeled.now c.args.donor c.args.uberblock.now c.args.disks.now c.new_label.new.disks c.args.which in
    let cause = c.in_err-label.field-0.0 in
    err_use c.from_residual.result cause P c.from_residual.ensures.1
    (area_unmade c.args.labeled.now c.args.donor c.args.uberblock.now c.args.disks.now c.new_label.new.disks c.args.which cause c.in_err-label.ensures.label)

pub returns-in_err-bytes-clause-only : goal.returns-in_err-bytes-clause-only
returns-in_err-bytes-clause-only g c = reads_any c.in_ok-label.ensures.only

pub returns-clause-area : goal.returns-clause-area
returns-clause-area g c =
    area_made c.args.labeled.now c.args.donor c.args.uberblock.now c.args.disks.now c.new_label.new.disks c.args.which c.in_ok-label.label (record { first = c.args.labeled.now.first; bytes = c.in_ok-bytes.bytes })
    c.requires.first c.requires.fits c.in_ok-label.ensures.label refl c.in_ok-bytes.ensures
