use Rattle.block_store.specs.Places.{filled, planned}
use Rattle.block_store.proofs.Loading.{loads_filled, loads_planned}
use Rattle.block_store.proofs.LoadingPlans.{load_shapes, load_keeps, load_stores, load_plans, load_elsewhere}
use Rattle.block_store.proofs.store.BlockStore.load_map.Goals as goal

pub returns-clause-shapes : goal.returns-clause-shapes
returns-clause-shapes g c =
    let is = c.load_space.ensures in
    load_shapes c.args.self.now c.load_space.new.self c.args.vdev c.args.metaslab c.args.free c.load_space.result is.rest is.loaded is.left

pub returns-clause-keeps : goal.returns-clause-keeps
returns-clause-keeps g c =
    let is = c.load_space.ensures in
    load_keeps c.args.self.now c.load_space.new.self c.args.vdev c.args.metaslab c.args.free c.load_space.result is.rest is.loaded is.left

pub returns-clause-stores : goal.returns-clause-stores
returns-clause-stores g c =
    let is = c.load_space.ensures in
    load_stores c.args.self.now c.load_space.new.self c.args.vdev c.args.metaslab c.args.free c.load_space.result is.rest is.loaded is.left

pub returns-clause-plans : goal.returns-clause-plans
returns-clause-plans g c =
    let is = c.load_space.ensures in
    load_plans c.args.self.now c.load_space.new.self c.args.vdev c.args.metaslab c.args.free c.load_space.result is.rest is.loaded is.left

pub returns-clause-filled : goal.returns-clause-filled
returns-clause-filled g c =
    let is = c.load_space.ensures in
    let old = c.args.self.now.spaces in
    let new = c.load_space.new.self.spaces in
    load_elsewhere filled c.args.self.now c.load_space.new.self c.args.vdev c.args.metaslab c.args.free c.load_space.result (loads_filled old c.args.vdev c.args.metaslab c.args.free new) is.loaded is.left

pub returns-clause-planned : goal.returns-clause-planned
returns-clause-planned g c =
    let is = c.load_space.ensures in
    let old = c.args.self.now.spaces in
    let new = c.load_space.new.self.spaces in
    load_elsewhere planned c.args.self.now c.load_space.new.self c.args.vdev c.args.metaslab c.args.free c.load_space.result (loads_planned old c.args.vdev c.args.metaslab c.args.free new) is.loaded is.left
