use Rattle.std.proofs.Common.{rules, ◌≤◌, ◌^◌, length, arith}
use Rattle.block_store.specs.Opened.{LieOn}
use Rattle.block_store.proofs.Making.{plans_nothing}
use Rattle.block_store.proofs.Reopening.{is_opened}
use Rattle.block_store.proofs.store.BlockStore.opened.Goals as goal

pub invariant_of-result : goal.invariant_of-result
invariant_of-result g c =
    let few : length c.args.shapes.now ≤ 8 = omega arith in
    let count : length c.args.disks.starts ≤ 2 ^ 64 = omega (arith, c.len.ensures, c.len.type_inv) in
    let lie : LieOn c.args.disks.starts 0 c.args.shapes.now = search rules in
    is_opened _ c.args.shapes.now c.in-Ok.ensures.shapes (rw c.in-Ok-new.ensures.disks lie) few (rw c.in-Ok-new.ensures.disks count)

pub returns-in-Ok-new-clause-plans : goal.returns-in-Ok-new-clause-plans
returns-in-Ok-new-clause-plans g c = plans_nothing _ c.in-Ok-new.ensures.due c.in-Ok.ensures.empty
