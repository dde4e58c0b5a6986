use Rattle.std.proofs.Common.{◌<◌, length, arith}
use Rattle.model_disk.specs.Runs.{no_write}
use Rattle.pool_slots.proofs.Phases.{both_made}
use Rattle.pool_slots.proofs.Results.{if_err_is}
use Rattle.pool_create.specs.Alone.{IsRefusedAlone}
use Rattle.pool_create.proofs.Alone.{alone_next, none_made, refused_since}
use Rattle.pool_create.proofs.slots.require_alone.Goals as goal

pub loop-which-init : goal.loop-which-init
loop-which-init g c = record { only = none_made c.args.disks.now; alone = λ which below. absurd (omega (arith, below)) }

pub returns-in_err-require_alone_on-clause-only : goal.returns-in_err-require_alone_on-clause-only
returns-in_err-require_alone_on-clause-only g c = both_made no_write c.args.disks.now c.loop-which.disks c.require_alone_on.new.disks c.loop-which.invariant.only c.require_alone_on.ensures.only

pub returns-in_err-require_alone_on-clause-refused : goal.returns-in_err-require_alone_on-clause-refused
returns-in_err-require_alone_on-clause-refused g c =
    let first = c.args.disks.now in
    let new = c.require_alone_on.new.disks in
    let u = c.args.uberblock in
    let cause = c.in_err-require_alone_on.field-0.0 in
    let n = c.loop-which.which in
    let below : n < length first.starts = omega (arith, c.loop-which-test.true, c.len-which-end.ensures) in
    if_err_is c.from_residual.result cause (IsRefusedAlone u first new) c.from_residual.ensures.1
    (n, below, refused_since u first c.loop-which.disks new n cause c.loop-which.invariant.only c.in_err-require_alone_on.ensures.refused)

pub loop-which-preserved : goal.loop-which-preserved
loop-which-preserved g c =
    let first = c.args.disks.now in
    let loop = c.loop-which.disks in
    let new = c.require_alone_on.new.disks in
    let n = c.loop-which.which in
    record {
      only = both_made no_write first loop new c.loop-which.invariant.only c.require_alone_on.ensures.only;
      alone = λ k below. alone_next c.args.uberblock first loop new n k c.loop-which.invariant c.require_alone_on.ensures.only c.in_ok-require_alone_on.ensures.alone below;
    }

pub returns-clause-alone : goal.returns-clause-alone
returns-clause-alone g c = λ which below.
    let inside : which < length c.args.disks.now.starts = below in
    c.loop-which.invariant.alone which (omega (arith, inside, c.loop-which-test.false, c.len-which-end.ensures))
