use Rattle.std.proofs.Common.{◌≡◌, ◌<◌, length, sym, Some, slice_get, subst, arith}
use Rattle.std.specs.Prelude.{IsTrue}
use Rattle.std.proofs.lemmas.Option.{slice_get_within}
use Rattle.block_store.specs.Places.{planned, IsPlaceIn}
use Rattle.block_store.specs.Store.{Store}
use Rattle.block_store.specs.Uses.{LiesOn, IsInUse}
use Rattle.block_store.proofs.Choosing.{at_item}
use Rattle.block_store.proofs.GivenBack.{lies_in}
use Rattle.block_store.proofs.ReadingPlaces.{in_place}
use Rattle.block_store.proofs.store.BlockStore.is_place_in_use.Goals as goal

pub is_in_use-requires-clause-is_place : goal.is_in_use-requires-clause-is_place
is_in_use-requires-clause-is_place g c =
    let is_in : IsPlaceIn c.self.inside.spaces.items c.args.sectors c.args.place =
    subst (λ (s : Store). IsPlaceIn s.spaces c.args.sectors c.args.place) (sym c.self.view_is) c.requires.place in
    let within : c.args.place.vdev < length c.self.inside.spaces.items = slice_get_within c.self.inside.spaces.items c.args.place.vdev is_in.space is_in.found in
    (in_place c.self.inside.spaces.items c.args.sectors c.args.place c.index.result.now within c.index.ensures).1 is_in

pub returns : goal.returns
returns g c =
    let is_in : IsPlaceIn c.self.inside.spaces.items c.args.sectors c.args.place =
    subst (λ (s : Store). IsPlaceIn s.spaces c.args.sectors c.args.place) (sym c.self.view_is) c.requires.place in
    let within : c.args.place.vdev < length c.self.inside.spaces.items = slice_get_within c.self.inside.spaces.items c.args.place.vdev is_in.space is_in.found in
    let at : slice_get c.self.inside.spaces.items c.args.place.vdev ≡ Some c.index.result.now =
    at_item c.self.inside.spaces.items c.args.place.vdev c.index.result.now within c.index.ensures in
    let is_place = (in_place c.self.inside.spaces.items c.args.sectors c.args.place c.index.result.now within c.index.ensures).1 is_in in
    subst (λ (s : Store). (IsTrue c.is_in_use.result → LiesOn IsInUse s.spaces planned c.args.sectors c.args.place) × (LiesOn IsInUse s.spaces planned c.args.sectors c.args.place → IsTrue c.is_in_use.result))
    c.self.view_is
    (lies_in c.self.inside.spaces.items c.args.sectors c.args.place c.index.result.now c.is_in_use.result c.requires.some at is_place c.is_in_use.ensures)

pub index-requires : goal.index-requires
index-requires g c =
    let is_in : IsPlaceIn c.self.inside.spaces.items c.args.sectors c.args.place =
    subst (λ (s : Store). IsPlaceIn s.spaces c.args.sectors c.args.place) (sym c.self.view_is) c.requires.place in
    let within : c.args.place.vdev < length c.self.inside.spaces.items = slice_get_within c.self.inside.spaces.items c.args.place.vdev is_in.space is_in.found in
    omega (arith, within)

pub is_in_use-requires-clause-some : goal.is_in_use-requires-clause-some
is_in_use-requires-clause-some g c = c.requires.some
