use Rattle.pool_slots.proofs.ReadRuns.{reads_any, reads_made, reads_then}
use Rattle.pool_format.specs.Blank.{ShowsLabels, ShowsPool}
use Rattle.pool_format.proofs.Blanks.{pool_tells, reads_err, shown_pool, tells_err, tells_false, tells_true}
use Rattle.pool_format.proofs.blank.shows_pool.Goals as goal

pub returns-in_err-shows_labels-clause-only : goal.returns-in_err-shows_labels-clause-only
returns-in_err-shows_labels-clause-only g c = reads_err c.from_residual.result c.in_err-shows_labels.field-0.0 c.from_residual.ensures.1 c.in_err-shows_labels.ensures.only

pub returns-in_err-shows_labels-clause-tells : goal.returns-in_err-shows_labels-clause-tells
returns-in_err-shows_labels-clause-tells g c =
    tells_err ShowsPool c.args.disks.now c.shows_labels.new.disks c.args.which c.from_residual.result c.in_err-shows_labels.field-0.0 c.from_residual.ensures.1 c.in_err-shows_labels.ensures.tells

pub returns-then-branch-clause-only : goal.returns-then-branch-clause-only
returns-then-branch-clause-only g c = reads_any c.in_ok-shows_labels.ensures.only

pub returns-then-branch-clause-tells : goal.returns-then-branch-clause-tells
returns-then-branch-clause-tells g c =
    let old = c.args.disks.now in
    let new = c.shows_labels.new.disks in
    shown_pool old new c.args.which (tells_true ShowsLabels old new c.args.which c.in_ok-shows_labels.field-0 c.if-branch.true c.in_ok-shows_labels.ensures.tells)

pub returns-clause-only : goal.returns-clause-only
returns-clause-only g c = reads_then c.in_ok-shows_labels.ensures.only c.shows_slots.ensures.only

pub returns-clause-tells : goal.returns-clause-tells
returns-clause-tells g c =
    let old = c.args.disks.now in
    let mid = c.shows_labels.new.disks in
    pool_tells old mid c.shows_slots.new.disks c.args.which c.shows_slots.result (reads_made c.in_ok-shows_labels.ensures.only) (reads_made c.shows_slots.ensures.only)
    (tells_false ShowsLabels old mid c.args.which c.in_ok-shows_labels.field-0 c.if-branch.false c.in_ok-shows_labels.ensures.tells) c.shows_slots.ensures.tells
