use Rattle.std.proofs.Common.{inl, inr, refl, ◌∙◌}
use Rattle.dnode_tree.proofs.Refusing.{passed_on}
use Rattle.pool_maps.proofs.ReadRows.{has_sectors, own_map, shape_sectors}
use Rattle.pool_maps.proofs.reading.read_one.Goals as goal

pub returns-clause-value : goal.returns-clause-value
returns-clause-value g c = λ stored objects own blocks held are tell.
    let vdev = c.args.row.now.metaslab.vdev in
    let free = c.in_ok-free.free in
    let sectors = c.metaslab_sectors-sectors.result in
    let size = shape_sectors c.args.store.now.spaces vdev sectors c.shape.result c.requires.place.space c.shape.ensures.shape c.requires.place.found c.metaslab_sectors-sectors.ensures.value in
    let map = c.in_ok-free.ensures.value stored objects own blocks held are tell in
    record {
      metaslab = refl;
      object = refl;
      sectors = has_sectors c.args.store.now.spaces vdev free.sectors c.requires.place.space c.requires.place.found (map.2.leaves.0 ∙ size);
      map = own_map (objects c.args.row.now.object) sectors free map;
    }

pub returns-in_err-free-clause-known : goal.returns-in_err-free-clause-known
returns-in_err-free-clause-known g c =
    let vdev = c.args.row.now.metaslab.vdev in
    let sectors = c.metaslab_sectors-sectors.result in
    let size = shape_sectors c.args.store.now.spaces vdev sectors c.shape.result c.requires.place.space c.shape.ensures.shape c.requires.place.found c.metaslab_sectors-sectors.ensures.value in
    passed_on _ _ _ c.from_residual.ensures.1
    (λ stored objects own blocks held are tell has. elim (c.in_err-free.ensures.known stored objects own blocks held are tell) [
      | inl loss ↦ loss
      | inr none ↦ absurd (none (has sectors (has_sectors c.args.store.now.spaces vdev sectors c.requires.place.space c.requires.place.found size)))
    ])
