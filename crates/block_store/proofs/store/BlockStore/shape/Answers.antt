use Rattle.std.proofs.Common.{◌≡◌, ◌<◌, ◌≤◌, ◌+◌, length, Some, slice_get, sym, ap, subst, ◌∙◌}
use Rattle.std.specs.Prelude.{option_map}
use Rattle.block_store.specs.declared.shape.VdevShape.{VdevShape}
use Rattle.block_store.specs.Spaces.{VdevSpace}
use Rattle.block_store.specs.Store.{Store}
use Rattle.block_store.proofs.Choosing.{at_item}
use Rattle.block_store.proofs.store.BlockStore.shape.Goals as goal

pub returns-clause-shape : goal.returns-clause-shape
returns-clause-shape g c =
    let within : c.args.vdev < length c.self.inside.spaces.items = subst (λ (s : Store). c.args.vdev < length s.spaces) (sym c.self.view_is) c.requires in
    let at : slice_get c.self.inside.spaces.items c.args.vdev ≡ Some c.index.result.now =
    at_item c.self.inside.spaces.items c.args.vdev c.index.result.now within c.index.ensures in
    subst (λ (s : Store). option_map (λ (space : VdevSpace). space.shape) (slice_get s.spaces c.args.vdev) ≡ Some c.shape.result) c.self.view_is
    (ap (λ o. option_map (λ (space : VdevSpace). space.shape) o) at ∙ ap Some (sym c.shape.ensures))

pub returns-clause-disks : goal.returns-clause-disks
returns-clause-disks g c =
    let within : c.args.vdev < length c.self.inside.spaces.items = subst (λ (s : Store). c.args.vdev < length s.spaces) (sym c.self.view_is) c.requires in
    let at : slice_get c.self.inside.spaces.items c.args.vdev ≡ Some c.index.result.now =
    at_item c.self.inside.spaces.items c.args.vdev c.index.result.now within c.index.ensures in
    subst (λ (s : Store). c.shape.result.vdev.first + c.shape.result.vdev.geometry.children ≤ length s.disks.starts) c.self.view_is
    (subst (λ (shape : VdevShape). shape.vdev.first + shape.vdev.geometry.children ≤ length c.self.inside.set.disks.starts) (sym c.shape.ensures)
    (c.self.invariant.laid_out.room c.args.vdev c.index.result.now at).disks)
