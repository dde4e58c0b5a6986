use Rattle.std.proofs.Common.{◌<◌, false, length, arith}
use Rattle.disk_set.proofs.Outs.{out_too, not_out}
use Rattle.pool_scrub.proofs.counting.missing_of.Goals as goal
use Rattle.pool_scrub.proofs.counting.missing_of.Goals.{then-out-disk+in_ok-push, else-out-disk}

pub loop-disk-preserved : goal.loop-disk-preserved
loop-disk-preserved c =
    let below : c.loop-disk.disk < length c.args.out.now = omega (arith, c.loop-disk-test.true) in
    elim c.if-out-disk.branch [
      | then-out-disk+in_ok-push w ↦
          rw w.missing-is
          (out_too c.args.out.now c.loop-disk.disk false c.loop-disk.missing.items w.push.new.self.items below w.if-out-disk.true c.loop-disk.invariant w.in_ok-push.ensures.items)
      | else-out-disk w ↦
          rw w.missing-is (not_out c.args.out.now c.loop-disk.disk false c.loop-disk.missing.items below w.if-out-disk.false c.loop-disk.invariant)
    ]
