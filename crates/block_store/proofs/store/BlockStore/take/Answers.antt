use Rattle.std.proofs.Common.{◌≡◌, ◌<◌, length, sym, Some, IfOk, slice_get, slice_set, ap, subst, ◌∙◌, arith}
use Rattle.std.proofs.lemmas.Option.{slice_get_within}
use Rattle.std.proofs.lemmas.Result.{on_err_weaker}
use Rattle.block_store.specs.Spaces.{VdevSpace}
use Rattle.block_store.specs.Places.{HasRoomAt, IsTakenIn}
use Rattle.block_store.specs.Store.{Store}
use Rattle.block_store.proofs.Choosing.{at_item}
use Rattle.block_store.proofs.Items.{set_same, few_vdevs, room_here}
use Rattle.block_store.proofs.Slots.{took}
use Rattle.block_store.proofs.Taking.{laid_out_too, map-set_same}
use Rattle.block_store.proofs.store.BlockStore.take.Goals as goal

pub invariant_of-self : goal.invariant_of-self
invariant_of-self g c =
    let within : c.args.vdev < length c.self.inside.spaces.items =
    subst (λ (s : Store). c.args.vdev < length s.spaces) (sym c.self.view_is) (slice_get_within c.args.self.now.spaces c.args.vdev c.requires.room.space c.requires.room.found) in
    let at : slice_get c.self.inside.spaces.items c.args.vdev ≡ Some c.index_mut.result.now =
    at_item c.self.inside.spaces.items c.args.vdev c.index_mut.result.now within c.index_mut.ensures.value in
    record {
      laid_out = laid_out_too c.self.inside.set.disks.starts c.self.inside.spaces.items _
          (map-set_same (λ s. s.shape) c.self.inside.spaces.items c.args.vdev c.index_mut.result.now _ at (ap (λ (s : VdevSpace). s.shape) c.take.ensures.rest))
          c.self.invariant.laid_out;
    }

pub returns-clause-taken : goal.returns-clause-taken
returns-clause-taken g c =
    let within : c.args.vdev < length c.self.inside.spaces.items =
    subst (λ (s : Store). c.args.vdev < length s.spaces) (sym c.self.view_is) (slice_get_within c.args.self.now.spaces c.args.vdev c.requires.room.space c.requires.room.found) in
    let at : slice_get c.self.inside.spaces.items c.args.vdev ≡ Some c.index_mut.result.now =
    at_item c.self.inside.spaces.items c.args.vdev c.index_mut.result.now within c.index_mut.ensures.value in
    subst (λ (s : Store). IfOk c.take.result
    (λ place. IsTakenIn s.spaces c.args.sectors c.args.vdev c.args.metaslab place (slice_set c.self.inside.spaces.items c.args.vdev c.take.new.self))) c.self.view_is
    (took c.self.inside.spaces.items c.args.sectors c.args.vdev c.args.metaslab c.index_mut.result.now c.take.new.self c.take.result at
    c.take.ensures.vdev c.take.ensures.place c.take.ensures.metaslab c.take.ensures.taken c.take.ensures.rest)

pub take-requires-clause-vdev : goal.take-requires-clause-vdev
take-requires-clause-vdev g c =
    let within : c.args.vdev < length c.self.inside.spaces.items =
    subst (λ (s : Store). c.args.vdev < length s.spaces) (sym c.self.view_is) (slice_get_within c.args.self.now.spaces c.args.vdev c.requires.room.space c.requires.room.found) in
    few_vdevs c.args.vdev (length c.self.inside.spaces.items) within c.self.invariant.laid_out.few

pub take-requires-clause-is_there : goal.take-requires-clause-is_there
take-requires-clause-is_there g c =
    let within : c.args.vdev < length c.self.inside.spaces.items =
    subst (λ (s : Store). c.args.vdev < length s.spaces) (sym c.self.view_is) (slice_get_within c.args.self.now.spaces c.args.vdev c.requires.room.space c.requires.room.found) in
    let at : slice_get c.self.inside.spaces.items c.args.vdev ≡ Some c.index_mut.result.now =
    at_item c.self.inside.spaces.items c.args.vdev c.index_mut.result.now within c.index_mut.ensures.value in
    let room : HasRoomAt c.self.inside.spaces.items c.args.sectors c.args.vdev c.args.metaslab =
    subst (λ (s : Store). HasRoomAt s.spaces c.args.sectors c.args.vdev c.args.metaslab) (sym c.self.view_is) c.requires.room in
    (room_here c.self.inside.spaces.items c.args.sectors c.args.vdev c.args.metaslab c.index_mut.result.now at room).0

pub take-requires-clause-some : goal.take-requires-clause-some
take-requires-clause-some g c = c.requires.some

pub take-requires-clause-room : goal.take-requires-clause-room
take-requires-clause-room g c =
    let within : c.args.vdev < length c.self.inside.spaces.items =
    subst (λ (s : Store). c.args.vdev < length s.spaces) (sym c.self.view_is) (slice_get_within c.args.self.now.spaces c.args.vdev c.requires.room.space c.requires.room.found) in
    let at : slice_get c.self.inside.spaces.items c.args.vdev ≡ Some c.index_mut.result.now =
    at_item c.self.inside.spaces.items c.args.vdev c.index_mut.result.now within c.index_mut.ensures.value in
    let room : HasRoomAt c.self.inside.spaces.items c.args.sectors c.args.vdev c.args.metaslab =
    subst (λ (s : Store). HasRoomAt s.spaces c.args.sectors c.args.vdev c.args.metaslab) (sym c.self.view_is) c.requires.room in
    (room_here c.self.inside.spaces.items c.args.sectors c.args.vdev c.args.metaslab c.index_mut.result.now at room).1

pub returns-clause-disks : goal.returns-clause-disks
returns-clause-disks g c = ap (λ (s : Store). s.disks) c.self.view_is

pub returns-clause-out : goal.returns-clause-out
returns-clause-out g c = ap (λ (s : Store). s.out) c.self.view_is

pub returns-clause-spans : goal.returns-clause-spans
returns-clause-spans g c = ap (λ (s : Store). s.spans) c.self.view_is

pub returns-clause-stray : goal.returns-clause-stray
returns-clause-stray g c = ap (λ (s : Store). s.stray) c.self.view_is

pub returns-clause-due : goal.returns-clause-due
returns-clause-due g c = ap (λ (s : Store). s.due) c.self.view_is

pub returns-clause-err : goal.returns-clause-err
returns-clause-err g c =
    let within : c.args.vdev < length c.self.inside.spaces.items =
    subst (λ (s : Store). c.args.vdev < length s.spaces) (sym c.self.view_is) (slice_get_within c.args.self.now.spaces c.args.vdev c.requires.room.space c.requires.room.found) in
    let at : slice_get c.self.inside.spaces.items c.args.vdev ≡ Some c.index_mut.result.now =
    at_item c.self.inside.spaces.items c.args.vdev c.index_mut.result.now within c.index_mut.ensures.value in
    on_err_weaker c.take.result
    (λ same. set_same c.self.inside.spaces.items c.args.vdev c.index_mut.result.now c.take.new.self at same ∙ ap (λ (s : Store). s.spaces) c.self.view_is)
    c.take.ensures.err

pub index_mut-requires : goal.index_mut-requires
index_mut-requires g c =
    let within : c.args.vdev < length c.self.inside.spaces.items =
    subst (λ (s : Store). c.args.vdev < length s.spaces) (sym c.self.view_is) (slice_get_within c.args.self.now.spaces c.args.vdev c.requires.room.space c.requires.room.found) in
    omega (arith, within)
