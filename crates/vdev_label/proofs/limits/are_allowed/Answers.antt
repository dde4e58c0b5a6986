use Rattle.std.proofs.Common.{arith, refl}
use Rattle.vdev_label.proofs.Allowed.{not_all, all_of_them}
use Rattle.vdev_label.proofs.limits.are_allowed.Goals as goal

pub returns-then-not-is_allowed_vdev : goal.returns-then-not-is_allowed_vdev
returns-then-not-is_allowed_vdev c =
    (λ no. absurd cc, λ all. absurd (not_all c.args.vdevs.now c.loop-i.i c.index-vdevs-i.result (omega (arith, c.loop-i-test.true)) c.index-vdevs-i.is (λ it. let no = c.if-not-is_allowed_vdev.ensures.1 it in cc) all))

pub returns : goal.returns
returns c = (λ yes. all_of_them c.args.vdevs.now c.loop-i.i (omega (arith, c.loop-i-test.false)) c.loop-i.invariant, λ all. refl)
