use Rattle.std.proofs.Common.{◌≡◌, ◌<◌, ◌+◌, ℕ, List, ◌∷◌, [], ◌++◌, length, Option, sym, subst, arith}
use Rattle.pool_labels.proofs.Lists.{here}
use Rattle.pool_labels.proofs.MemberLemmas.{MembersTo, members_next}
use Rattle.pool_labels.proofs.members.members.Goals as goal

pub loop-i-preserved : goal.loop-i-preserved
loop-i-preserved c =
    let scan = c.args.scan.now in
    let sectors = c.args.vdev.now.child_sectors in
    let children = c.args.vdev.now.children.items in
    let i = c.loop-i.i in
    let guid = c.index.result.now in
    let below : i < length children = omega (arith, c.loop-i-test.true, c.len-i-end.ensures) in
    let items : c.push.new.self.items ≡ c.loop-i.found.items ++ c.member.result ∷ [] = c.in_ok-push.ensures.items in
    let P : List (Option ℕ) → Type 0 = MembersTo scan sectors children (i + 1) in
    subst P (sym items) (members_next scan sectors children i c.loop-i.found.items guid c.member.result c.loop-i.invariant (here children i guid below c.index.ensures) c.member.ensures)
