use Rattle.std.proofs.Common.{◌≡◌, ◌<◌, false, length, ap, ◌∙◌, arith}
use Rattle.disk_set.specs.Set.{PoolDisks}
use Rattle.disk_set.proofs.Outs.{out_too, not_out}
use Rattle.disk_set.proofs.set.DiskSet.absent.Goals as goal
use Rattle.disk_set.proofs.set.DiskSet.absent.Goals.{then-is_out+in_ok-push, else-is_out}

pub loop-disk-preserved : goal.loop-disk-preserved
loop-disk-preserved g c =
    let out : c.deref-is_out-items.result.now ≡ c.args.self.now.out = c.deref-is_out-items.ensures.value ∙ ap (λ (s : PoolDisks). s.out) c.self.view_is in
    let below : c.loop-disk.disk < length c.args.self.now.out = omega (arith, c.loop-disk-test.true, ap length out) in
    elim c.if-is_out.branch [
      | then-is_out+in_ok-push w ↦
          rw w.absent-is
          (out_too c.args.self.now.out c.loop-disk.disk false c.loop-disk.absent.items w.push.new.self.items below (rw out at w.if-is_out.true) c.loop-disk.invariant w.in_ok-push.ensures.items)
      | else-is_out w ↦
          rw w.absent-is (not_out c.args.self.now.out c.loop-disk.disk false c.loop-disk.absent.items below (rw out at w.if-is_out.false) c.loop-disk.invariant)
    ]
