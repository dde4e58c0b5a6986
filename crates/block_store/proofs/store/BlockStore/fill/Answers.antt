use Rattle.std.proofs.Common.{◌≡◌, ◌<◌, length, sym, Some, IfOk, slice_get, ap, subst, ◌∙◌, arith}
use Rattle.std.specs.Prelude.{slice_set, IsTrue}
use Rattle.std.specs.Bool.{OnTrue}
use Rattle.std.proofs.lemmas.Option.{slice_get_within}
use Rattle.std.proofs.lemmas.Result.{on_err_weaker}
use Rattle.block_pointer.specs.Copies.{dvas}
use Rattle.block_store.specs.Opened.{HasFreePlace, TakesIn}
use Rattle.block_store.specs.Places.{IsPlaceFor}
use Rattle.block_store.specs.Releases.{copy_of_at}
use Rattle.block_store.specs.Spaces.{VdevSpace}
use Rattle.block_store.specs.Store.{Store}
use Rattle.block_store.proofs.Choosing.{at_item}
use Rattle.block_store.proofs.Items.{set_same, at_false}
use Rattle.block_store.proofs.TakenEach.{place_in, region_in, takes_in, was_free}
use Rattle.block_store.proofs.Taking.{laid_out_too, map-set_same}
use Rattle.block_store.proofs.store.BlockStore.fill.Goals as goal

pub take_in-requires-clause-is_place : goal.take_in-requires-clause-is_place
take_in-requires-clause-is_place g c =
    let is_for : IsPlaceFor c.self.inside.spaces.items c.args.block.now.property.sectors (length (dvas c.args.block.now.copies)) c.args.place =
    subst (λ (s : Store). IsPlaceFor s.spaces c.args.block.now.property.sectors (length (dvas c.args.block.now.copies)) c.args.place) (sym c.self.view_is) c.requires.place in
    let is_in = is_for.is_in in
    let within : c.args.place.vdev < length c.self.inside.spaces.items = slice_get_within c.self.inside.spaces.items c.args.place.vdev is_in.space is_in.found in
    let at : slice_get c.self.inside.spaces.items c.args.place.vdev ≡ Some c.index_mut.result.now =
    at_item c.self.inside.spaces.items c.args.place.vdev c.index_mut.result.now within c.index_mut.ensures.value in
    place_in c.self.inside.spaces.items c.args.block.now.property.sectors c.args.place c.index_mut.result.now at is_in

pub invariant_of-self : goal.invariant_of-self
invariant_of-self g c =
    let is_for : IsPlaceFor c.self.inside.spaces.items c.args.block.now.property.sectors (length (dvas c.args.block.now.copies)) c.args.place =
    subst (λ (s : Store). IsPlaceFor s.spaces c.args.block.now.property.sectors (length (dvas c.args.block.now.copies)) c.args.place) (sym c.self.view_is) c.requires.place in
    let is_in = is_for.is_in in
    let within : c.args.place.vdev < length c.self.inside.spaces.items = slice_get_within c.self.inside.spaces.items c.args.place.vdev is_in.space is_in.found in
    let at : slice_get c.self.inside.spaces.items c.args.place.vdev ≡ Some c.index_mut.result.now =
    at_item c.self.inside.spaces.items c.args.place.vdev c.index_mut.result.now within c.index_mut.ensures.value in
    record {
      laid_out = laid_out_too c.self.inside.set.disks.starts c.self.inside.spaces.items _
          (map-set_same (λ s. s.shape) c.self.inside.spaces.items c.args.place.vdev c.index_mut.result.now _ at (ap (λ (s : VdevSpace). s.shape) c.take_in.ensures.rest))
          c.self.invariant.laid_out;
    }

pub returns-clause-taken : goal.returns-clause-taken
returns-clause-taken g c =
    let is_for : IsPlaceFor c.self.inside.spaces.items c.args.block.now.property.sectors (length (dvas c.args.block.now.copies)) c.args.place =
    subst (λ (s : Store). IsPlaceFor s.spaces c.args.block.now.property.sectors (length (dvas c.args.block.now.copies)) c.args.place) (sym c.self.view_is) c.requires.place in
    let is_in = is_for.is_in in
    let within : c.args.place.vdev < length c.self.inside.spaces.items = slice_get_within c.self.inside.spaces.items c.args.place.vdev is_in.space is_in.found in
    let at : slice_get c.self.inside.spaces.items c.args.place.vdev ≡ Some c.index_mut.result.now =
    at_item c.self.inside.spaces.items c.args.place.vdev c.index_mut.result.now within c.index_mut.ensures.value in
    subst (λ (s : Store). IfOk c.take_in.result (λ is_free. OnTrue is_free
    (TakesIn s.spaces (copy_of_at c.args.block.now c.args.place) (slice_set c.self.inside.spaces.items c.args.place.vdev c.take_in.new.self))))
    c.self.view_is
    (takes_in c.self.inside.spaces.items c.args.block.now c.args.place c.index_mut.result.now c.take_in.new.self c.take_in.result c.requires.some at
    (place_in c.self.inside.spaces.items c.args.block.now.property.sectors c.args.place c.index_mut.result.now at is_in)
    (region_in c.self.inside.spaces.items c.args.block.now.property.sectors (length (dvas c.args.block.now.copies)) c.args.place c.index_mut.result.now at is_for)
    c.take_in.ensures.kept c.take_in.ensures.planned c.take_in.ensures.rest)

pub returns-clause-free : goal.returns-clause-free
returns-clause-free g c =
    let is_for : IsPlaceFor c.self.inside.spaces.items c.args.block.now.property.sectors (length (dvas c.args.block.now.copies)) c.args.place =
    subst (λ (s : Store). IsPlaceFor s.spaces c.args.block.now.property.sectors (length (dvas c.args.block.now.copies)) c.args.place) (sym c.self.view_is) c.requires.place in
    let is_in = is_for.is_in in
    let within : c.args.place.vdev < length c.self.inside.spaces.items = slice_get_within c.self.inside.spaces.items c.args.place.vdev is_in.space is_in.found in
    let at : slice_get c.self.inside.spaces.items c.args.place.vdev ≡ Some c.index_mut.result.now =
    at_item c.self.inside.spaces.items c.args.place.vdev c.index_mut.result.now within c.index_mut.ensures.value in
    subst (λ (s : Store). IfOk c.take_in.result (λ is_free. HasFreePlace s.spaces (copy_of_at c.args.block.now c.args.place) → IsTrue is_free))
    c.self.view_is
    (was_free c.self.inside.spaces.items c.args.block.now c.args.place c.index_mut.result.now c.take_in.result at c.take_in.ensures.free)

pub take_in-requires-clause-some : goal.take_in-requires-clause-some
take_in-requires-clause-some g c = c.requires.some

pub returns-clause-disks : goal.returns-clause-disks
returns-clause-disks g c = ap (λ (s : Store). s.disks) c.self.view_is

pub returns-clause-out : goal.returns-clause-out
returns-clause-out g c = ap (λ (s : Store). s.out) c.self.view_is

pub returns-clause-spans : goal.returns-clause-spans
returns-clause-spans g c = ap (λ (s : Store). s.spans) c.self.view_is

pub returns-clause-stray : goal.returns-clause-stray
returns-clause-stray g c = ap (λ (s : Store). s.stray) c.self.view_is

pub returns-clause-due : goal.returns-clause-due
returns-clause-due g c = ap (λ (s : Store). s.due) c.self.view_is

pub returns-clause-left : goal.returns-clause-left
returns-clause-left g c =
    let is_for : IsPlaceFor c.self.inside.spaces.items c.args.block.now.property.sectors (length (dvas c.args.block.now.copies)) c.args.place =
    subst (λ (s : Store). IsPlaceFor s.spaces c.args.block.now.property.sectors (length (dvas c.args.block.now.copies)) c.args.place) (sym c.self.view_is) c.requires.place in
    let is_in = is_for.is_in in
    let within : c.args.place.vdev < length c.self.inside.spaces.items = slice_get_within c.self.inside.spaces.items c.args.place.vdev is_in.space is_in.found in
    let at : slice_get c.self.inside.spaces.items c.args.place.vdev ≡ Some c.index_mut.result.now =
    at_item c.self.inside.spaces.items c.args.place.vdev c.index_mut.result.now within c.index_mut.ensures.value in
    at_false c.take_in.result
    (λ same. set_same c.self.inside.spaces.items c.args.place.vdev c.index_mut.result.now c.take_in.new.self at same ∙ ap (λ (s : Store). s.spaces) c.self.view_is)
    c.take_in.ensures.left

pub returns-clause-err : goal.returns-clause-err
returns-clause-err g c =
    let is_for : IsPlaceFor c.self.inside.spaces.items c.args.block.now.property.sectors (length (dvas c.args.block.now.copies)) c.args.place =
    subst (λ (s : Store). IsPlaceFor s.spaces c.args.block.now.property.sectors (length (dvas c.args.block.now.copies)) c.args.place) (sym c.self.view_is) c.requires.place in
    let is_in = is_for.is_in in
    let within : c.args.place.vdev < length c.self.inside.spaces.items = slice_get_within c.self.inside.spaces.items c.args.place.vdev is_in.space is_in.found in
    let at : slice_get c.self.inside.spaces.items c.args.place.vdev ≡ Some c.index_mut.result.now =
    at_item c.self.inside.spaces.items c.args.place.vdev c.index_mut.result.now within c.index_mut.ensures.value in
    on_err_weaker c.take_in.result
    (λ same. set_same c.self.inside.spaces.items c.args.place.vdev c.index_mut.result.now c.take_in.new.self at same ∙ ap (λ (s : Store). s.spaces) c.self.view_is)
    c.take_in.ensures.err

pub index_mut-requires : goal.index_mut-requires
index_mut-requires g c =
    let within : c.args.place.vdev < length c.self.inside.spaces.items =
    subst (λ (s : Store). c.args.place.vdev < length s.spaces) (sym c.self.view_is)
    (slice_get_within c.args.self.now.spaces c.args.place.vdev c.requires.place.is_in.space c.requires.place.is_in.found) in
    omega (arith, within)
