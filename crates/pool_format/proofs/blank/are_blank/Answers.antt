use Rattle.std.proofs.Common.{◌<◌, length, arith}
use Rattle.pool_slots.proofs.ReadRuns.{reads_any, reads_made, reads_none}
use Rattle.pool_slots.specs.Reads.{nowhere}
use Rattle.pool_format.specs.Blank.{ShowsPool, is_there}
use Rattle.pool_format.specs.Faults.{is_fault}
use Rattle.pool_format.proofs.Blanks.{blank_err, blank_false, blank_more, cause_since, reads_err, tells_false, tells_true, there_only}
use Rattle.pool_format.proofs.blank.are_blank.Goals as goal

pub loop-which-init : goal.loop-which-init
loop-which-init g c = record {
  only = reads_none (is_there c.args.disks.now) nowhere c.args.disks.now;
  none = λ which below. absurd (omega (arith, below));
}

pub returns-in_err-shows_pool-clause-only : goal.returns-in_err-shows_pool-clause-only
returns-in_err-shows_pool-clause-only g c =
    let first = c.args.disks.now in
    let cause = c.in_err-shows_pool.field-0.0 in
    let below : c.loop-which.which < length first.starts = omega (arith, c.loop-which-test.true, c.len-which-end.ensures) in
    reads_err c.from_residual.result cause c.from_residual.ensures.1
    (there_only first c.loop-which.disks c.shows_pool.new.disks c.loop-which.which (is_fault cause) below c.loop-which.invariant.only c.in_err-shows_pool.ensures.only)

pub returns-in_err-shows_pool-clause-tells : goal.returns-in_err-shows_pool-clause-tells
returns-in_err-shows_pool-clause-tells g c =
    let first = c.args.disks.now in
    let new = c.shows_pool.new.disks in
    let cause = c.in_err-shows_pool.field-0.0 in
    blank_err first new c.from_residual.result cause c.from_residual.ensures.1 (cause_since first c.loop-which.disks new cause (reads_made c.loop-which.invariant.only) c.in_err-shows_pool.ensures.tells)

pub returns-then-branch-clause-only : goal.returns-then-branch-clause-only
returns-then-branch-clause-only g c =
    let first = c.args.disks.now in
    let below : c.loop-which.which < length first.starts = omega (arith, c.loop-which-test.true, c.len-which-end.ensures) in
    reads_any (there_only first c.loop-which.disks c.shows_pool.new.disks c.loop-which.which nowhere below c.loop-which.invariant.only c.in_ok-shows_pool.ensures.only)

pub returns-then-branch-clause-tells : goal.returns-then-branch-clause-tells
returns-then-branch-clause-tells g c =
    let first = c.args.disks.now in
    let loop = c.loop-which.disks in
    let new = c.shows_pool.new.disks in
    let below : c.loop-which.which < length first.starts = omega (arith, c.loop-which-test.true, c.len-which-end.ensures) in
    blank_false first loop new c.loop-which.which below (reads_made c.loop-which.invariant.only)
    (tells_true ShowsPool loop new c.loop-which.which c.in_ok-shows_pool.field-0 c.if-branch.true c.in_ok-shows_pool.ensures.tells)

pub loop-which-preserved : goal.loop-which-preserved
loop-which-preserved g c =
    let first = c.args.disks.now in
    let loop = c.loop-which.disks in
    let new = c.shows_pool.new.disks in
    let n = c.loop-which.which in
    let below : n < length first.starts = omega (arith, c.loop-which-test.true, c.len-which-end.ensures) in
    record {
      only = there_only first loop new n nowhere below c.loop-which.invariant.only c.in_ok-shows_pool.ensures.only;
      none = λ k less. blank_more first loop new n k (reads_made c.loop-which.invariant.only) (reads_made c.shows_pool.ensures.only) c.loop-which.invariant.none
          (tells_false ShowsPool loop new n c.in_ok-shows_pool.field-0 c.if-branch.false c.in_ok-shows_pool.ensures.tells) less;
    }

pub returns-clause-only : goal.returns-clause-only
returns-clause-only g c = reads_any c.loop-which.invariant.only

pub returns-clause-tells : goal.returns-clause-tells
returns-clause-tells g c = λ which below.
    let inside : which < length c.args.disks.now.starts = below in
    c.loop-which.invariant.none which (omega (arith, inside, c.loop-which-test.false, c.len-which-end.ensures))
