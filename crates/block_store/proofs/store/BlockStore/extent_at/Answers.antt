use Rattle.std.proofs.Common.{◌<◌, length, refl, sym, ap, subst, arith}
use Rattle.std.proofs.lemmas.Option.{slice_get_within}
use Rattle.block_store.specs.declared.shape.VdevShape.{VdevShape}
use Rattle.block_store.specs.Places.{IsPlaceIn}
use Rattle.block_store.specs.Store.{Store, IsStore}
use Rattle.block_store.proofs.ReadingPlaces.{place_fits, extent_found}
use Rattle.block_store.proofs.store.BlockStore.extent_at.Goals as goal

pub returns-clause-extent : goal.returns-clause-extent
returns-clause-extent g c =
    extent_found c.args.self.now c.self.inside.spaces.items c.args.sectors c.args.place _ c.index.result.now (ap (λ (s : Store). s.spaces) c.self.view_is)
    c.index.ensures c.requires.place (ap (λ (s : VdevShape). s.vdev) c.shape.ensures) refl refl

pub returns-clause-fits : goal.returns-clause-fits
returns-clause-fits g c =
    let is : IsStore c.args.self.now = subst IsStore c.self.view_is c.self.invariant in
    (place_fits c.extent_fits.ensures c.args.self.now c.args.sectors c.args.place _ is c.requires.place
    (extent_found c.args.self.now c.self.inside.spaces.items c.args.sectors c.args.place _ c.index.result.now (ap (λ (s : Store). s.spaces) c.self.view_is)
    c.index.ensures c.requires.place (ap (λ (s : VdevShape). s.vdev) c.shape.ensures) refl refl)).0

pub returns-clause-on_disks : goal.returns-clause-on_disks
returns-clause-on_disks g c =
    let is : IsStore c.args.self.now = subst IsStore c.self.view_is c.self.invariant in
    (place_fits c.extent_fits.ensures c.args.self.now c.args.sectors c.args.place _ is c.requires.place
    (extent_found c.args.self.now c.self.inside.spaces.items c.args.sectors c.args.place _ c.index.result.now (ap (λ (s : Store). s.spaces) c.self.view_is)
    c.index.ensures c.requires.place (ap (λ (s : VdevShape). s.vdev) c.shape.ensures) refl refl)).1

pub index-requires : goal.index-requires
index-requires g c =
    let is_in : IsPlaceIn c.self.inside.spaces.items c.args.sectors c.args.place =
    subst (λ (s : Store). IsPlaceIn s.spaces c.args.sectors c.args.place) (sym c.self.view_is) c.requires.place in
    let within : c.args.place.vdev < length c.self.inside.spaces.items = slice_get_within c.self.inside.spaces.items c.args.place.vdev is_in.space is_in.found in
    omega (arith, within)
