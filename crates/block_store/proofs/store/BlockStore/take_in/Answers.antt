use Rattle.std.proofs.lemmas.Result.{on_ok_weaker}
use Rattle.block_store.specs.Places.{filled, planned}
use Rattle.block_store.specs.Releases.{copies_of_all}
use Rattle.block_store.proofs.TakenIn.{picks_filled, picks_planned}
use Rattle.block_store.proofs.TakenBlocks.{distinct_are, taken_in_use, taken_fills, taken_holds}
use Rattle.block_store.proofs.TakenEach.{all_in_part, part_shapes, part_keeps, part_stores, part_stays}
use Rattle.block_store.proofs.TakenPlans.{opened_plans, part_plans}
use Rattle.block_store.proofs.store.BlockStore.take_in.Goals as goal

pub returns-clause-shapes : goal.returns-clause-shapes
returns-clause-shapes g c =
    let is = c.take_in_each.ensures in
    part_shapes c.args.self.now.spaces c.take_in_each.new.self.spaces (copies_of_all c.args.blocks.now)
    (all_in_part c.args.self.now.spaces c.take_in_each.new.self.spaces (copies_of_all c.args.blocks.now) c.take_in_each.result is.taken is.some)

pub returns-clause-filled : goal.returns-clause-filled
returns-clause-filled g c =
    on_ok_weaker c.take_in_each.result (taken_fills filled picks_filled c.args.self.now.spaces c.args.blocks.now c.take_in_each.new.self.spaces) c.take_in_each.ensures.taken

pub returns-clause-planned : goal.returns-clause-planned
returns-clause-planned g c =
    on_ok_weaker c.take_in_each.result (taken_fills planned picks_planned c.args.self.now.spaces c.args.blocks.now c.take_in_each.new.self.spaces) c.take_in_each.ensures.taken

pub returns-clause-in_use : goal.returns-clause-in_use
returns-clause-in_use g c =
    on_ok_weaker c.take_in_each.result
    (λ taken block held. (
      taken_in_use filled picks_filled c.args.self.now.spaces c.args.blocks.now c.take_in_each.new.self.spaces taken block held,
      taken_in_use planned picks_planned c.args.self.now.spaces c.args.blocks.now c.take_in_each.new.self.spaces taken block held,
    ))
    c.take_in_each.ensures.taken

pub returns-clause-distinct : goal.returns-clause-distinct
returns-clause-distinct g c =
    on_ok_weaker c.take_in_each.result (distinct_are c.args.self.now.spaces c.args.blocks.now c.take_in_each.new.self.spaces) c.take_in_each.ensures.taken

pub returns-clause-stays : goal.returns-clause-stays
returns-clause-stays g c = λ test block.
    let is = c.take_in_each.ensures in
    part_stays test c.args.self.now.spaces c.take_in_each.new.self.spaces (copies_of_all c.args.blocks.now) block
    (all_in_part c.args.self.now.spaces c.take_in_each.new.self.spaces (copies_of_all c.args.blocks.now) c.take_in_each.result is.taken is.some)

pub returns-clause-keeps : goal.returns-clause-keeps
returns-clause-keeps g c =
    let is = c.take_in_each.ensures in
    part_keeps c.args.self.now c.take_in_each.new.self (copies_of_all c.args.blocks.now) is.disks is.out is.spans
    (all_in_part c.args.self.now.spaces c.take_in_each.new.self.spaces (copies_of_all c.args.blocks.now) c.take_in_each.result is.taken is.some)

pub returns-clause-stores : goal.returns-clause-stores
returns-clause-stores g c =
    let is = c.take_in_each.ensures in
    part_stores c.args.self.now c.take_in_each.new.self (copies_of_all c.args.blocks.now) is.disks is.out is.spans
    (all_in_part c.args.self.now.spaces c.take_in_each.new.self.spaces (copies_of_all c.args.blocks.now) c.take_in_each.result is.taken is.some)

pub returns-clause-plans : goal.returns-clause-plans
returns-clause-plans g c =
    let is = c.take_in_each.ensures in
    part_plans c.args.self.now c.take_in_each.new.self (copies_of_all c.args.blocks.now) is.disks is.out is.spans is.due is.stray
    (all_in_part c.args.self.now.spaces c.take_in_each.new.self.spaces (copies_of_all c.args.blocks.now) c.take_in_each.result is.taken is.some)

pub returns-clause-holds : goal.returns-clause-holds
returns-clause-holds g c =
    let is = c.take_in_each.ensures in
    on_ok_weaker c.take_in_each.result (taken_holds c.args.self.now c.take_in_each.new.self c.args.blocks.now is.disks is.out is.spans) is.taken

pub returns-clause-opens : goal.returns-clause-opens
returns-clause-opens g c =
    let is = c.take_in_each.ensures in
    on_ok_weaker c.take_in_each.result
    (λ taken. opened_plans c.args.self.now c.take_in_each.new.self c.args.blocks.now
    (record { disks = is.disks; out = is.out; spans = is.spans; due = is.due; stray = is.stray; taken = taken }))
    is.taken
