use Rattle.block_store.specs.Releases.{copies_of_all}
use Rattle.block_store.proofs.GivenBack.{all_in_part, part_same, part_plans, part_stays, part_spares, never_refused}
use Rattle.block_store.proofs.Planning.{keeps_by, stores_kept}
use Rattle.block_store.proofs.store.BlockStore.release.Goals as goal

pub returns-clause-shapes : goal.returns-clause-shapes
returns-clause-shapes g c =
    let is = c.release_each.ensures in
    let part = all_in_part c.args.self.now.spaces c.release_each.new.self.spaces (copies_of_all c.args.blocks.now) c.args.group c.release_each.result is.released is.some in
    (part_same c.args.self.now c.release_each.new.self (copies_of_all c.args.blocks.now) c.args.group is.disks is.out is.spans is.due is.stray part).shapes

pub returns-clause-filled : goal.returns-clause-filled
returns-clause-filled g c =
    let is = c.release_each.ensures in
    let part = all_in_part c.args.self.now.spaces c.release_each.new.self.spaces (copies_of_all c.args.blocks.now) c.args.group c.release_each.result is.released is.some in
    (part_same c.args.self.now c.release_each.new.self (copies_of_all c.args.blocks.now) c.args.group is.disks is.out is.spans is.due is.stray part).are

pub returns-clause-keeps : goal.returns-clause-keeps
returns-clause-keeps g c =
    let is = c.release_each.ensures in
    let part = all_in_part c.args.self.now.spaces c.release_each.new.self.spaces (copies_of_all c.args.blocks.now) c.args.group c.release_each.result is.released is.some in
    keeps_by c.args.self.now c.release_each.new.self
    (part_same c.args.self.now c.release_each.new.self (copies_of_all c.args.blocks.now) c.args.group is.disks is.out is.spans is.due is.stray part)

pub returns-clause-stores : goal.returns-clause-stores
returns-clause-stores g c =
    let is = c.release_each.ensures in
    let part = all_in_part c.args.self.now.spaces c.release_each.new.self.spaces (copies_of_all c.args.blocks.now) c.args.group c.release_each.result is.released is.some in
    stores_kept c.args.self.now c.release_each.new.self
    (part_same c.args.self.now c.release_each.new.self (copies_of_all c.args.blocks.now) c.args.group is.disks is.out is.spans is.due is.stray part)

pub returns-clause-plans : goal.returns-clause-plans
returns-clause-plans g c =
    let is = c.release_each.ensures in
    let part = all_in_part c.args.self.now.spaces c.release_each.new.self.spaces (copies_of_all c.args.blocks.now) c.args.group c.release_each.result is.released is.some in
    part_plans c.args.self.now c.release_each.new.self c.args.blocks.now c.args.group is.disks is.out is.spans is.due is.stray part

pub returns-clause-stays : goal.returns-clause-stays
returns-clause-stays g c = λ test block.
    let is = c.release_each.ensures in
    let part = all_in_part c.args.self.now.spaces c.release_each.new.self.spaces (copies_of_all c.args.blocks.now) c.args.group c.release_each.result is.released is.some in
    part_stays test c.args.self.now.spaces c.release_each.new.self.spaces (copies_of_all c.args.blocks.now) c.args.group block part

pub returns-clause-spares : goal.returns-clause-spares
returns-clause-spares g c = λ test stored planned block bytes.
    let is = c.release_each.ensures in
    let part = all_in_part c.args.self.now.spaces c.release_each.new.self.spaces (copies_of_all c.args.blocks.now) c.args.group c.release_each.result is.released is.some in
    part_spares test c.args.self.now c.release_each.new.self c.args.blocks.now c.args.group stored planned block bytes part

pub returns-clause-known : goal.returns-clause-known
returns-clause-known g c =
    never_refused c.args.self.now c.release_each.new.self.spaces c.args.blocks.now c.args.group c.release_each.result c.release_each.ensures.refused
