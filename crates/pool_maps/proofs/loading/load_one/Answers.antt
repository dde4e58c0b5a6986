use Rattle.pool_maps.proofs.LoadedStores.{one_loads}
use Rattle.pool_maps.proofs.Planned.{metaslab_there}
use Rattle.pool_maps.proofs.loading.load_one.Goals as goal

pub load_map-requires : goal.load_map-requires
load_map-requires g c = metaslab_there c.args.store.now.spaces c.args.read.metaslab (c.is_place.ensures.0 c.if-is_place.true)

pub returns-then-is_place-clause-may : goal.returns-then-is_place-clause-may
returns-then-is_place-clause-may g c = (λ loaded. (c.is_place.ensures.0 c.if-is_place.true, c.load_map.ensures.free.0 loaded), λ both. c.load_map.ensures.free.1 both.1)

pub returns-then-is_place-clause-loads : goal.returns-then-is_place-clause-loads
returns-then-is_place-clause-loads g c =
    let is = c.load_map.ensures in
    one_loads c.args.store.now c.load_map.new.self c.args.read.metaslab (c.is_place.ensures.0 c.if-is_place.true) is.rest is.shapes is.keeps is.stores is.plans is.filled is.planned
