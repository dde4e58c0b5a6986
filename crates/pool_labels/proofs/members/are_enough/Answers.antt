use Rattle.std.proofs.Common.{◌≡◌, ◌∙◌, map, get_or, refl, ap, arith}
use Rattle.vdev_label.specs.Plain.{vdev_view}
use Rattle.vdev_label.specs.declared.label.Vdev.{Vdev}
use Rattle.pool_labels.specs.Choices.{absent_count}
use Rattle.pool_labels.proofs.LabelLemmas.{map_at}
use Rattle.pool_labels.proofs.Lists.{here}
use Rattle.pool_labels.proofs.MemberLemmas.{enough_next, enough_all}
use Rattle.pool_labels.proofs.members.are_enough.Goals as goal

pub returns-then-absent_count-vdevs : goal.returns-then-absent_count-vdevs
returns-then-absent_count-vdevs c =
    let vdevs = c.args.vdevs.now in
    let i = c.loop-i.i in
    let v = c.index-vdevs-i.result in
    let found = c.index-all-i.result in
    let count : c.absent_count.result ≡ absent_count found.items = c.absent_count.ensures ∙ ap absent_count c.deref.ensures.value in
    let parity : v.parity ≡ (get_or vdevs i v).parity = ap (λ (x : Vdev). x.parity) c.index-vdevs-i.is in (
      λ it. absurd cc,
      λ all. absurd (omega (
        arith,
        count,
        parity,
        c.if-absent_count-vdevs.true,
        all i (vdev_view v) found (map_at vdev_view vdevs i v (here vdevs i v (omega (arith, c.loop-i-test.true)) c.index-vdevs-i.is)) (here c.args.all.now i found (omega (arith, c.loop-i-test.true, c.requires)) c.index-all-i.is),
      )),
    )

pub loop-i-preserved : goal.loop-i-preserved
loop-i-preserved c =
    let vdevs = c.args.vdevs.now in
    let i = c.loop-i.i in
    let v = c.index-vdevs-i.result in
    let found = c.index-all-i.result in
    let count : c.absent_count.result ≡ absent_count found.items = c.absent_count.ensures ∙ ap absent_count c.deref.ensures.value in
    let parity : v.parity ≡ (get_or vdevs i v).parity = ap (λ (x : Vdev). x.parity) c.index-vdevs-i.is in
    enough_next (map vdev_view vdevs) c.args.all.now i (vdev_view v) found c.loop-i.invariant (map_at vdev_view vdevs i v (here vdevs i v (omega (arith, c.loop-i-test.true)) c.index-vdevs-i.is))
    (here c.args.all.now i found (omega (arith, c.loop-i-test.true, c.requires)) c.index-all-i.is) (omega (arith, count, parity, c.if-absent_count-vdevs.false))

pub returns : goal.returns
returns c = (λ _. enough_all (map vdev_view c.args.vdevs.now) c.args.all.now c.loop-i.i (omega (arith, c.loop-i-test.false, c.requires)) c.loop-i.invariant, λ _. refl)
