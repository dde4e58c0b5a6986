use Rattle.std.proofs.Common.{◌≡◌, ◌<◌, length, sym, Some, slice_get, ap, subst, ◌∙◌, arith}
use Rattle.std.specs.Prelude.{slice_set, OnOk}
use Rattle.std.proofs.lemmas.Option.{slice_get_within}
use Rattle.std.proofs.lemmas.Result.{on_ok_weaker, on_err_weaker}
use Rattle.block_store.specs.Spaces.{VdevSpace}
use Rattle.block_store.specs.Places.{planned}
use Rattle.block_store.specs.Releases.{copy_of_at, IsReleased}
use Rattle.block_store.specs.Store.{Store}
use Rattle.block_store.specs.Uses.{LiesOn, IsInUse}
use Rattle.block_store.proofs.Choosing.{at_item}
use Rattle.block_store.proofs.GivenBack.{gave_back, lies_at}
use Rattle.block_store.proofs.Items.{set_same}
use Rattle.block_store.proofs.Taking.{laid_out_too, map-set_same}
use Rattle.block_store.proofs.store.BlockStore.give_back.Goals as goal

pub release-requires-clause-is_place : goal.release-requires-clause-is_place
release-requires-clause-is_place g c =
    let lies : LiesOn IsInUse c.self.inside.spaces.items planned c.args.block.now.property.sectors c.args.place =
    subst (λ (s : Store). LiesOn IsInUse s.spaces planned c.args.block.now.property.sectors c.args.place) (sym c.self.view_is) c.requires in
    let within : c.args.place.vdev < length c.self.inside.spaces.items = slice_get_within c.self.inside.spaces.items c.args.place.vdev lies.space lies.found in
    let at : slice_get c.self.inside.spaces.items c.args.place.vdev ≡ Some c.index_mut.result.now =
    at_item c.self.inside.spaces.items c.args.place.vdev c.index_mut.result.now within c.index_mut.ensures.value in
    (lies_at c.self.inside.spaces.items c.args.block.now.property.sectors c.args.place c.index_mut.result.now at lies).0

pub release-requires-clause-in_use : goal.release-requires-clause-in_use
release-requires-clause-in_use g c =
    let lies : LiesOn IsInUse c.self.inside.spaces.items planned c.args.block.now.property.sectors c.args.place =
    subst (λ (s : Store). LiesOn IsInUse s.spaces planned c.args.block.now.property.sectors c.args.place) (sym c.self.view_is) c.requires in
    let within : c.args.place.vdev < length c.self.inside.spaces.items = slice_get_within c.self.inside.spaces.items c.args.place.vdev lies.space lies.found in
    let at : slice_get c.self.inside.spaces.items c.args.place.vdev ≡ Some c.index_mut.result.now =
    at_item c.self.inside.spaces.items c.args.place.vdev c.index_mut.result.now within c.index_mut.ensures.value in
    (lies_at c.self.inside.spaces.items c.args.block.now.property.sectors c.args.place c.index_mut.result.now at lies).1

pub invariant_of-self : goal.invariant_of-self
invariant_of-self g c =
    let lies : LiesOn IsInUse c.self.inside.spaces.items planned c.args.block.now.property.sectors c.args.place =
    subst (λ (s : Store). LiesOn IsInUse s.spaces planned c.args.block.now.property.sectors c.args.place) (sym c.self.view_is) c.requires in
    let within : c.args.place.vdev < length c.self.inside.spaces.items = slice_get_within c.self.inside.spaces.items c.args.place.vdev lies.space lies.found in
    let at : slice_get c.self.inside.spaces.items c.args.place.vdev ≡ Some c.index_mut.result.now =
    at_item c.self.inside.spaces.items c.args.place.vdev c.index_mut.result.now within c.index_mut.ensures.value in
    record {
      laid_out = laid_out_too c.self.inside.set.disks.starts c.self.inside.spaces.items _
          (map-set_same (λ s. s.shape) c.self.inside.spaces.items c.args.place.vdev c.index_mut.result.now _ at (ap (λ (s : VdevSpace). s.shape) c.release.ensures.rest))
          c.self.invariant.laid_out;
    }

pub returns-clause-released : goal.returns-clause-released
returns-clause-released g c =
    let lies : LiesOn IsInUse c.self.inside.spaces.items planned c.args.block.now.property.sectors c.args.place =
    subst (λ (s : Store). LiesOn IsInUse s.spaces planned c.args.block.now.property.sectors c.args.place) (sym c.self.view_is) c.requires in
    let within : c.args.place.vdev < length c.self.inside.spaces.items = slice_get_within c.self.inside.spaces.items c.args.place.vdev lies.space lies.found in
    let at : slice_get c.self.inside.spaces.items c.args.place.vdev ≡ Some c.index_mut.result.now =
    at_item c.self.inside.spaces.items c.args.place.vdev c.index_mut.result.now within c.index_mut.ensures.value in
    let is_place = (lies_at c.self.inside.spaces.items c.args.block.now.property.sectors c.args.place c.index_mut.result.now at lies).0 in
    subst (λ (s : Store). OnOk c.release.result
    (IsReleased s.spaces (copy_of_at c.args.block.now c.args.place) c.args.group (slice_set c.self.inside.spaces.items c.args.place.vdev c.release.new.self)))
    c.self.view_is
    (on_ok_weaker c.release.result
    (λ released. gave_back c.self.inside.spaces.items c.args.block.now c.args.place c.args.group c.index_mut.result.now c.release.new.self at is_place released c.release.ensures.rest)
    c.release.ensures.released)

pub release-requires-clause-some : goal.release-requires-clause-some
release-requires-clause-some g c = c.requires.some

pub returns-clause-disks : goal.returns-clause-disks
returns-clause-disks g c = ap (λ (s : Store). s.disks) c.self.view_is

pub returns-clause-out : goal.returns-clause-out
returns-clause-out g c = ap (λ (s : Store). s.out) c.self.view_is

pub returns-clause-spans : goal.returns-clause-spans
returns-clause-spans g c = ap (λ (s : Store). s.spans) c.self.view_is

pub returns-clause-stray : goal.returns-clause-stray
returns-clause-stray g c = ap (λ (s : Store). s.stray) c.self.view_is

pub returns-clause-due : goal.returns-clause-due
returns-clause-due g c = ap (λ (s : Store). s.due) c.self.view_is

pub returns-clause-err : goal.returns-clause-err
returns-clause-err g c =
    let lies : LiesOn IsInUse c.self.inside.spaces.items planned c.args.block.now.property.sectors c.args.place =
    subst (λ (s : Store). LiesOn IsInUse s.spaces planned c.args.block.now.property.sectors c.args.place) (sym c.self.view_is) c.requires in
    let within : c.args.place.vdev < length c.self.inside.spaces.items = slice_get_within c.self.inside.spaces.items c.args.place.vdev lies.space lies.found in
    let at : slice_get c.self.inside.spaces.items c.args.place.vdev ≡ Some c.index_mut.result.now =
    at_item c.self.inside.spaces.items c.args.place.vdev c.index_mut.result.now within c.index_mut.ensures.value in
    on_err_weaker c.release.result
    (λ same. set_same c.self.inside.spaces.items c.args.place.vdev c.index_mut.result.now c.release.new.self at same ∙ ap (λ (s : Store). s.spaces) c.self.view_is)
    c.release.ensures.err

pub index_mut-requires : goal.index_mut-requires
index_mut-requires g c =
    let within : c.args.place.vdev < length c.self.inside.spaces.items =
    subst (λ (s : Store). c.args.place.vdev < length s.spaces) (sym c.self.view_is)
    (slice_get_within c.args.self.now.spaces c.args.place.vdev c.requires.space c.requires.found) in
    omega (arith, within)
