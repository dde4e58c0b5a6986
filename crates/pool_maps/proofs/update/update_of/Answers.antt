use Rattle.pool_maps.proofs.Planned.{metaslab_there}
use Rattle.std.proofs.Common.{◌≡◌, ℕ, ◌≤◌, ◌^◌, Some, List, sym, subst}
use Rattle.std.specs.List.{slice_get}
use Rattle.block_store.specs.Maps.{HasSectors}
use Rattle.block_store.specs.Shapes.{metaslab_sectors}
use Rattle.block_store.specs.Spaces.{VdevSpace}
use Rattle.block_store.proofs.Sizes.{slab_bound}
use Rattle.pool_maps.proofs.Sets.{whole_rows}
use Rattle.pool_maps.proofs.update.update_of.Goals as goal

few_sectors : (spaces : List VdevSpace) (vdev sectors : ℕ) (space : VdevSpace) → slice_get spaces vdev ≡ Some space → HasSectors spaces vdev sectors → sectors ≤ 2 ^ 20
few_sectors spaces vdev sectors space found has =
    let size : sectors ≡ metaslab_sectors space.shape = rw found at has in
    subst (λ n. n ≤ 2 ^ 20) (sym size) (slab_bound space.shape.metaslab_shift space.shape.most_shift)

pub unused_before-requires : goal.unused_before-requires
unused_before-requires g c = metaslab_there c.args.store.now.spaces c.args.place c.requires

pub unused_after-requires : goal.unused_after-requires
unused_after-requires g c = metaslab_there c.args.store.now.spaces c.args.place c.requires

pub returns-clause-rows : goal.returns-clause-rows
returns-clause-rows g c =
    let is = c.in_ok-append_update.ensures in
    whole_rows is.0 c.new-entries.result.items c.append_update.new.out.items c.new-entries.ensures.items is.2

-- a metaslab has at most 2^20 sectors
pub returns-clause-few : goal.returns-clause-few
returns-clause-few g c = few_sectors c.args.store.now.spaces c.args.place.vdev c.in_ok-free.free.sectors c.requires.space c.requires.found c.in_ok-free.ensures.sectors
