use Rattle.std.proofs.Common.{◌≡◌, ◌+◌, ℕ, List, ◌∷◌, [], ◌++◌, map, Option, sym, subst, arith}
use Rattle.std.specs.Prelude.{Vec}
use Rattle.std.specs.declared.alloc.Global.{Global}
use Rattle.vdev_label.specs.Plain.{vdev_view}
use Rattle.pool_labels.proofs.LabelLemmas.{map_at}
use Rattle.pool_labels.proofs.Lists.{here}
use Rattle.pool_labels.proofs.MemberLemmas.{AllMembersTo, all_members_next}
use Rattle.pool_labels.proofs.members.all_members.Goals as goal

pub loop-i-preserved : goal.loop-i-preserved
loop-i-preserved c =
    let scan = c.args.scan.now in
    let vdevs = c.args.vdevs.now in
    let i = c.loop-i.i in
    let v = c.index-vdevs-i.result in
    let found = c.in_ok-members.field-0 in
    let items : c.push.new.self.items ≡ c.loop-i.all.items ++ found ∷ [] = c.in_ok-push.ensures.items in
    let P : List (Vec (Option ℕ) Global) → Type 0 = AllMembersTo scan (map vdev_view vdevs) (i + 1) in
    subst P (sym items)
    (all_members_next scan (map vdev_view vdevs) i c.loop-i.all.items (vdev_view v) found c.loop-i.invariant (map_at vdev_view vdevs i v (here vdevs i v (omega (arith, c.loop-i-test.true)) c.index-vdevs-i.is))
    c.in_ok-members.ensures)
