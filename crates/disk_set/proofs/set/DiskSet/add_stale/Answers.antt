use Rattle.std.proofs.Common.{◌≡◌, ◌<◌, length, Option, None, List, refl, ap, sym, ◌∙◌, arith}
use Rattle.disk_set.specs.declared.stale.GroupSpan.{GroupSpan}
use Rattle.disk_set.specs.Set.{PoolDisks}
use Rattle.disk_set.proofs.Missed.{missed_too, not_missed}
use Rattle.disk_set.proofs.set.DiskSet.add_stale.Goals as goal
use Rattle.disk_set.proofs.set.DiskSet.add_stale.Goals.{then-is_missed+in_ok-push, else-is_missed}

pub loop-disk-preserved : goal.loop-disk-preserved
loop-disk-preserved g c =
    let stale : c.deref-span-items.result.now ≡ c.args.self.now.spans.stale =
    c.deref-span-items.ensures.value ∙ ap (λ (s : PoolDisks). s.spans.stale) c.self.view_is in
    let below : c.loop-disk.disk < length c.args.self.now.spans.stale = omega (arith, c.loop-disk-test.true, ap length stale) in
    elim c.if-is_missed.branch [
      | then-is_missed+in_ok-push w ↦
          rw w.absent-is
          (missed_too c.args.self.now.spans.stale c.args.birth c.loop-disk.disk None _ c.args.absent.now.items c.loop-disk.absent.items w.push.new.self.items below (rw (← stale) refl)
          (sym c.is_missed.ensures ∙ w.if-is_missed.true) c.loop-disk.invariant w.in_ok-push.ensures.items)
      | else-is_missed w ↦
          rw w.absent-is
          (not_missed c.args.self.now.spans.stale c.args.birth c.loop-disk.disk None _ c.args.absent.now.items c.loop-disk.absent.items below (rw (← stale) refl)
          (sym c.is_missed.ensures ∙ w.if-is_missed.false) c.loop-disk.invariant)
    ]
